-- A header that a scan takes, or why not; and why a stretch is refused.
use Rattle.std.proofs.Common.{◌≡◌, ◌⊎◌, inl, inr, ℕ, ◌+◌, ◌-◌, ◌*◌, ◌≤◌, Bool, true, false, true≢false, List, [], refl}
use Rattle.std.proofs.Common.{sym, ap, ◌∙◌, subst, arith, Some, None, not, length}
use Rattle.std.specs.Prelude.{Ok, Err, ◌&&◌}
use Rattle.std.proofs.lemmas.Bool.{and_parts}
use Rattle.serial_model.specs.declared.key.Key.{Key}
use Rattle.tx_sets.specs.declared.seen.Seen.{Seen}
use Rattle.tx_sets.specs.declared.sets.Sets.{Sets}
use Rattle.tx_sets.specs.Entries.{has_word, word_at}
use Rattle.tx_sets.specs.Gathered.{has_read_room}
use Rattle.engine_pages.specs.declared.layout.Layout.{Layout}
use Rattle.engine_pages.specs.declared.view.RefusalCause.{RefusalCause}
use Rattle.engine_pages.specs.declared.view.RefusalCause.TheVariants as refusals
use Rattle.engine_pages.specs.declared.view.SetName.TheVariants.{Reads}
use Rattle.engine_pages.specs.declared.view.View.{View}
use Rattle.engine_pages.specs.Layout.{page_at}
use Rattle.tree_walks.specs.declared.ways.Bare.{Bare}
use Rattle.tree_walks.specs.declared.ways.Leaf.{Leaf}
use Rattle.tree_walks.specs.Walks.{CanWalk, HasWalked}
use Rattle.tree_walks.specs.Ways.{IsBareOn, IsLeafOn, RefusesWalk}
use Rattle.tree_walks.proofs.StepLaws.{layout_stays, walked_self}
use Rattle.page_commit.specs.Calls.{end_most}
use Rattle.page_commit.specs.Keeping.{MeetsPointer}
use Rattle.page_commit.specs.Live.{IsLive}
use Rattle.page_commit.specs.Needs.{IsRefusedOn, NeedsHeader, NeedsRecord}
use Rattle.page_commit.specs.Steps.{HasGivenUp}
use Rattle.page_commit.proofs.FoundLaws.{no_word}
use Rattle.page_commit.proofs.WalkedLaws.{can_walk}
use Rattle.tree_scans.specs.Belows.{ReadsBelow}
use Rattle.tree_scans.specs.Heads.{IsAtWord, KeepsHead}
use Rattle.tree_calls.proofs.CauseLaws.{no_room}
use Rattle.tree_calls.proofs.DueLaws.{TreeWalked}
use Rattle.tree_calls.proofs.SetLaws.{room_header}
use Rattle.tree_ranges.specs.Going.{Comes, Stops, TakesHead}
use Rattle.tree_ranges.proofs.HeadLives.{head_goes, head_taken}
use Rattle.tree_ranges.proofs.StopLaws.{stop_full, stop_head, stop_pointer, stop_walk}
use Rattle.tree_ranges.proofs.StretchLaws.{comes_refused}

-- ---- a header

-- nothing was walked yet
pub not_walked : (sets : Sets) (v : View) → IsLive sets v → TreeWalked sets sets.holds v v
not_walked sets v live = record { live = live; walk = walked_self v; can = can_walk sets v live }

no_test : (b : Bool) → not b ≡ true → b ≡ false
no_test true none = absurd (true≢false (sym none))
no_test false none = refl

-- it is one entry more than there is room for
head_needs : (sets : Sets) (k : Key) (x : Leaf) (at : ℕ) (v : View) → IsLeafOn k sets.headers x v
    → at ≡ page_at v.layout.slots x.slot 0 → (not (has_read_room sets) && not (has_word at sets.headers)) ≡ true
    → (256 ≤ length sets.reads + length sets.headers) × (NeedsRecord k sets.reads v ⊎ NeedsHeader k sets.headers v)
head_needs sets k x at v l place full =
    let both = and_parts (not (has_read_room sets)) (not (has_word at sets.headers)) full in (
      no_room sets both.0,
      inr record {
        slot = x.slot;
        span = x.span;
        on = l.leaf.on;
        leaf = record { slot = x.slot; keys = l.leaf.keys };
        knows = l.leaf.knows;
        same = refl;
        word = x.header;
        saw = l.met;
        unsplit = l.leaf.small;
        absent = subst (λ (a : ℕ). word_at a sets.headers ≡ None) place
            (no_word at sets.headers (no_test (has_word at sets.headers) both.1));
      },
    )

-- it was to be kept, and there was no room for it
pub head_on : (sets : Sets) (k : Key) (x : Leaf) (at : ℕ) (v : View) → IsLeafOn k sets.headers x v
    → at ≡ page_at v.layout.slots x.slot 0 → (not (has_read_room sets) && not (has_word at sets.headers)) ≡ true
    → IsRefusedOn (refusals.Wide Reads) k sets v
head_on sets k x at v l place full =
    let needs = head_needs sets k x at v l place full in
    (needs.0, elim needs.1 [ inl one ↦ inl one | inr head ↦ inr (inl head) ])

pub head_full : (sets : Sets) (k : Key) (x : Leaf) (last at : ℕ) (why : RefusalCause) (v w : View) → IsLive sets v
    → IsLeafOn k sets.headers x v → at ≡ page_at v.layout.slots x.slot 0
    → (not (has_read_room sets) && not (has_word at sets.headers)) ≡ true → HasGivenUp [] (refusals.Wide Reads) v w
    → w.steps ≤ v.steps + end_most → why ≡ refusals.Wide Reads → TakesHead k x last (Err why) sets sets v w
head_full sets k x last at why v w live l place full g more same = record {
  taken = tt;
  gone = tt;
  quick = tt;
  stops = subst (λ (r : RefusalCause). Stops k.storage k.key k.key sets sets r v w) (sym same)
      (stop_full sets sets.holds k v v w (not_walked sets v live) (head_needs sets k x at v l place full) g);
  slow = omega (arith, more);
}

-- it was in conflict
pub head_walked : (sets : Sets) (k : Key) (x : Leaf) (why : RefusalCause) (v w : View) → IsLive sets v
    → KeepsHead k x sets.pointers sets.headers sets.holds (Err why) v w → TreeWalked sets sets.holds v w
head_walked sets k x why v w live h = record { live = live; walk = h.walked; can = h.can }

pub head_refused : (sets : Sets) (k : Key) (x : Leaf) (last : ℕ) (why told : RefusalCause) (v w y : View)
    → IsLive sets v
    → KeepsHead k x sets.pointers sets.headers sets.holds (Err why) v w → HasGivenUp [] why w y
    → y.steps ≤ w.steps + end_most → told ≡ why → TakesHead k x last (Err told) sets sets v y
head_refused sets k x last why told v w y live h g more same = record {
  taken = tt;
  gone = tt;
  quick = tt;
  stops = subst (λ (r : RefusalCause). Stops k.storage k.key k.key sets sets r v y) (sym same)
      (stop_head sets sets.holds k v w y (head_walked sets k x why v w live h) why x.slot h.cause
      (subst (λ (z : Layout). IsAtWord (page_at z.slots x.slot 0) why) (sym (layout_stays v w h.walked)) h.place) g);
  slow = let most = h.most in omega (arith, most, more);
}

-- it joined its set
pub head_joined : (sets new : Sets) (k : Key) (x : Leaf) (last at : ℕ) (v w : View) → IsLive sets v
    → IsLeafOn k sets.headers x v → KeepsHead k x sets.pointers sets.headers sets.holds (Ok tt) v w
    → at ≡ page_at v.layout.slots x.slot 0 → new.reads ≡ sets.reads → new.pointers ≡ sets.pointers
    → new.holds ≡ sets.holds → new.writes ≡ sets.writes
    → MeetsPointer (record { at = at; word = x.header }) sets.headers new.headers
    → (not (has_read_room sets) && not (has_word at sets.headers)) ≡ false → last ≤ (x.span).high
    → TakesHead k x last (Ok tt) sets new v w
head_joined sets new k x last at v w live l h place reads pointers holds writes meets has top =
    let room : length new.reads + length new.headers ≤ 256 =
    room_header (record { at = at; word = x.header }) sets new reads meets has live.room in
    let here : at ≡ page_at w.layout.slots x.slot 0 =
    place ∙ ap (λ (z : Layout). page_at z.slots x.slot 0) (sym (layout_stays v w h.walked)) in record {
      taken = head_taken sets new v w k x at l.leaf live h here reads pointers holds writes meets room last top;
      gone = head_goes sets new v w k x at l.leaf live h here reads pointers holds writes meets room;
      quick = h.most;
      stops = tt;
      slow = let most = h.most in omega (arith, most);
    }

-- ---- a walk

pub walk_walked : (sets : Sets) (late : List ℕ) (v w : View) → IsLive sets v → HasWalked v w → CanWalk late w
    → TreeWalked sets late v w
walk_walked sets late v w live walk can = record { live = live; walk = walk; can = can }

pub walk_refused : (sets : Sets) (late : List ℕ) (k : Key) (last : ℕ) (why told : RefusalCause) (rows : List (ℕ × ℕ))
    (v w x : View)
    → IsLive sets v → HasWalked v w → CanWalk late w → RefusesWalk k sets.pointers sets.headers late why v w
    → HasGivenUp [] why w x → w.steps ≤ v.steps + 4483 → x.steps ≤ w.steps + end_most → told ≡ why → k.key ≤ last
    → Comes 0 5683 k.storage k.key last (Err told) sets (record sets { holds = late }) rows rows v x
walk_refused sets late k last why told rows v w x live walk can r g most more same start =
    comes_refused 0 5683 k.storage k.key last k.key told sets (record sets { holds = late }) rows rows v x start
    (omega (arith, most, more, start))
    (subst (λ (c : RefusalCause). Stops k.storage k.key k.key sets (record sets { holds = late }) c v x) (sym same)
    (stop_walk sets late k v w x (walk_walked sets late v w live walk can) why r g))

-- ---- below a pointer

pub below_refused : (sets : Sets) (k : Key) (b : Bare) (top last : ℕ) (why told : RefusalCause) (found rows : List
    (ℕ × ℕ))
    (v w x : View) → IsLive sets v → ReadsBelow k b sets.pointers sets.headers sets.holds top (Err why) found v w
    → IsBareOn k sets.pointers b v → HasGivenUp [] why w x → x.steps ≤ w.steps + end_most → told ≡ why → k.key ≤ last
    → Comes 1200 0 k.storage k.key last (Err told) sets sets rows rows v x
below_refused sets k b top last why told found rows v w x live r on g more same start =
    comes_refused 1200 0 k.storage k.key last k.key told sets sets rows rows v x start
    (let most = r.most in omega (arith, most, more))
    (subst (λ (c : RefusalCause). Stops k.storage k.key k.key sets sets c v x) (sym same)
    (stop_pointer sets sets.holds k v w x (record { live = live; walk = r.walked; can = r.can }) why b on r.cause
    r.place g))

pub below_walked : (sets : Sets) (k : Key) (b : Bare) (top : ℕ) (why : RefusalCause) (found : List (ℕ × ℕ)) (v w : View)
    → IsLive sets v → ReadsBelow k b sets.pointers sets.headers sets.holds top (Err why) found v w
    → TreeWalked sets sets.holds v w
below_walked sets k b top why found v w live r = record { live = live; walk = r.walked; can = r.can }
