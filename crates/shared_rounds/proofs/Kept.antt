-- What is known between two rounds stays as the clock goes on to the next epoch.
use Rattle.std.proofs.Common.{◌≡◌, sym, subst}
use Rattle.engine_pages.specs.declared.view.View.{View}
use Rattle.engine_seats.specs.Clock.{advanced}
use Rattle.shared_rounds.specs.SharedState.{IsKept}

pub kept_next : (v w : View) → w ≡ advanced v → IsKept v → IsKept w
kept_next v w is k = subst IsKept (sym is) record {
  role = k.role;
  made = k.made;
  decls = k.decls;
  first = k.first;
  records = k.records;
  counted = record { own = k.counted.own; all = k.counted.all; drawn = k.counted.drawn };
  draws = k.draws;
  once = k.once;
  serial = k.serial;
  parked_are = k.parked_are;
  parked = k.parked;
  rests = k.rests;
  some_slots = k.some_slots;
  few = k.few;
  claimed = record { has = k.claimed.has; long = k.claimed.long };
  free = record {
    holds = k.free.holds;
    made = k.free.made;
    taken = k.free.taken;
    ways = k.free.ways;
    took = k.free.took;
    heads = k.free.heads;
    shuts = k.free.shuts;
  };
}
