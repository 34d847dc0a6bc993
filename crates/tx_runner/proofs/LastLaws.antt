-- What was read with the last decided writes at a step of a call was so at one of a longer call.
use Rattle.std.proofs.Common.{◌≡◌, subst}
use Rattle.lists.specs.Fronts.{front_then}
use Rattle.commit_core.specs.declared.part.Part.{Part}
use Rattle.commit_core.specs.Parts.{Vouches}
use Rattle.commit_core.specs.Serial.{last_write}
use Rattle.engine_pages.specs.declared.layout.Layout.{Layout}
use Rattle.engine_pages.specs.declared.view.View.{View}
use Rattle.page_commit.specs.Below.{IsLastBetween}
use Rattle.page_commit.specs.Between.{HasSeen}

-- of a call that began before
pub last_since : (u v w : View) (part : Part) → v.layout ≡ u.layout → HasSeen u v → IsLastBetween v w part
    → IsLastBetween u w part
last_since u v w part same seen r = record {
  history = r.history;
  decided = r.decided;
  drawn_since = front_then u.history v.history r.history seen.history r.drawn_since;
  seen_since = front_then u.decided v.decided r.decided seen.decided r.seen_since;
  drawn_by = r.drawn_by;
  seen_by = r.seen_by;
  last = subst (λ (l : Layout). Vouches (last_write l.opening r.history r.decided) part) same r.last;
}

-- and of one that ended later
pub last_by : (u v w : View) (part : Part) → HasSeen v w → IsLastBetween u v part → IsLastBetween u w part
last_by u v w part seen r = record {
  history = r.history;
  decided = r.decided;
  drawn_since = r.drawn_since;
  seen_since = r.seen_since;
  drawn_by = front_then r.history v.history w.history r.drawn_by seen.history;
  seen_by = front_then r.decided v.decided w.decided r.seen_by seen.decided;
  last = r.last;
}
