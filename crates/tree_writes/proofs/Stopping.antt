-- A write at a key of a tree that is to be refused, and what is told of it behind the end of the transaction.
use Rattle.std.proofs.Common.{◌≡◌, ◌⊎◌, inl, inr, ℕ, ◌+◌, ◌<◌, ◌≤◌, false, List, [], ◌++◌, length, arith}
use Rattle.std.proofs.Common.{refl, sym, ap, ◌∙◌, subst, Option, Some, None}
use Rattle.std.specs.Prelude.{Contains}
use Rattle.std.proofs.lemmas.List.{append-nil}
use Rattle.serial_model.specs.declared.key.Key.{Key}
use Rattle.tx_sets.specs.declared.seen.Seen.{Seen}
use Rattle.tx_sets.specs.declared.sets.Sets.{Sets}
use Rattle.tx_sets.specs.Entries.{has_write}
use Rattle.engine_pages.specs.Agreement.{TreesAgree}
use Rattle.engine_pages.specs.Pointers.{WaysAgree}
use Rattle.engine_pages.specs.declared.view.RefusalCause.{RefusalCause}
use Rattle.engine_pages.specs.declared.view.RefusalCause.TheVariants as refusals
use Rattle.engine_pages.specs.declared.view.SetName.{SetName}
use Rattle.engine_pages.specs.declared.view.SetName.TheVariants.{Reads, Writes, Holds}
use Rattle.engine_pages.specs.declared.view.Touch.{Touch}
use Rattle.engine_pages.specs.declared.view.View.{View}
use Rattle.page_records.specs.Ends.{IsDue}
use Rattle.page_commit.specs.Calls.{IsFullOf, IsSlotConflict}
use Rattle.page_commit.specs.Live.{HasHolds, IsLive}
use Rattle.page_commit.specs.Needs.{IsRefusedOn}
use Rattle.page_commit.specs.Refusing.{HasRefused, IsHeaderConflict, IsPointerConflict, TellsOnly}
use Rattle.page_commit.specs.Steps.{HasGivenUp, TellsOf}
use Rattle.page_commit.specs.Turning.{OnlyWalked}
use Rattle.page_commit.proofs.CommitLaws.{kept_others, last_same, touched_same}
use Rattle.page_commit.proofs.RefuseLaws.{walked_refused}
use Rattle.page_commit.proofs.UnsplitLaws.{unsplit_end}
use Rattle.tree_calls.specs.Causes.{WasLong}
use Rattle.tree_writes.specs.Causes.{IsGrowConflict, IsLeafConflict, KeepsHeader, LocksLeaf, NeedsMore, RefusesTreeWrite}
use Rattle.tree_writes.specs.Causes.{TouchesTrees}

-- ---- before the end

-- which set was full
abbrev pub IsWide : Sets → List ℕ → Key → SetName → View → View → Type 0
IsWide sets slots k set v w = ((set ≡ Writes) × (length sets.writes ≡ 16))
    ⊎ (((set ≡ Holds) × (((length slots ≡ 128) × NeedsMore k slots v w) ⊎ WasLong k v))
    ⊎ ((set ≡ Reads) × (256 ≤ length sets.reads + length sets.headers) × KeepsHeader k sets v w))

-- why the write stops
abbrev pub Stops : Sets → List ℕ → Key → RefusalCause → View → View → Type 0
Stops sets slots k (refusals.Conflict at expected seen) v w =
    IsGrowConflict sets k at expected seen v w ⊎ IsSlotConflict at expected seen v w
Stops sets slots k (refusals.Full held) v w = IsFullOf held v w
Stops sets slots k (refusals.Wide set) v w = IsWide sets slots k set v w × (w.touched ≡ v.touched)
Stops sets slots k (refusals.NumberLimit clock) v w = ⊥

-- The cause is due, and is one on the way to the key; no key is told of it.
pub record Stopped (sets : Sets) (slots : List ℕ) (k : Key) (why : RefusalCause) (v w : View) : Type 0 where
  pub due : IsDue (Some why) w
  pub on : IsRefusedOn why k (record sets { holds = slots }) w
  pub told : (met : List Touch) → TellsOf why met w → met ≡ []
  pub stops : Stops sets slots k why v w

-- ---- behind it

pub tells_none : (why : RefusalCause) (met : List Touch) → met ≡ [] → TellsOnly why met
tells_none (refusals.Conflict at expected seen) met none =
    let n = ap (λ (l : List Touch). length l) none in omega (arith, n)
tells_none (refusals.Full held) met none = none
tells_none (refusals.Wide set) met none = none
tells_none (refusals.NumberLimit clock) met none = none

module _ (why : RefusalCause) (sets : Sets) (slots : List ℕ) (k : Key) (v w x : View) (only : OnlyWalked v w)
    (s : Stopped sets slots k why v w) (g : HasGivenUp [] why w x) where
  pub draws_end : x.draws ≡ v.draws
  draws_end =
      ap (λ (y : View). y.draws) g.left.is
      ∙ (ap (λ (y : View). y.draws) g.forgot ∙ ap (λ (y : View). y.draws) only.is)

  pub blamed_end : x.blamed ≡ v.blamed
  blamed_end =
      ap (λ (y : View). y.blamed) g.left.is
      ∙ (ap (λ (y : View). y.blamed) g.forgot
      ∙ (ap (λ (l : List Touch). l ++ g.met) (ap (λ (y : View). y.blamed) only.is)
      ∙ (ap (λ (l : List Touch). v.blamed ++ l) (s.told g.met g.of) ∙ append-nil v.blamed)))

  pub touched_end : TouchesTrees v x
  touched_end t has = only.touches t (subst (λ (l : List Touch). Contains l t) (touched_same [] why w x g) has)

  pub locks_end : LocksLeaf k v w → LocksLeaf k v x
  locks_end (inl none) = inl (touched_same [] why w x g ∙ none)
  locks_end (inr h) = inr record {
    then = h.then;
    walked = h.walked;
    slot = h.slot;
    span = h.span;
    way = h.way;
    over = h.over;
    keys = h.keys;
    knows = h.knows;
    full = h.full;
    once = h.once;
    inside = h.inside;
    count = h.count;
    within = h.within;
    touched = touched_same [] why w x g ∙ h.touched;
  }

  looked_end : x.looked ≡ w.looked
  looked_end = ap (λ (y : View). y.looked) g.left.is ∙ ap (λ (y : View). y.looked) g.forgot

  pointer_end : (pointers : List Seen) (at expected seen : ℕ) → IsPointerConflict pointers at expected seen v w
      → IsPointerConflict pointers at expected seen v x
  pointer_end pointers at expected seen c = record {
    step = c.step;
    last = last_same [] why w x g ∙ c.last;
    since = c.since;
    was = c.was;
    kept = c.kept;
    stands = kept_others [] why w x g (record { word = at; seen = seen; was = c.was; kept = c.kept }) c.stands refl;
    known = c.known;
    cause = c.cause;
  }

  header_end : (headers : List Seen) (at expected seen : ℕ) → IsHeaderConflict headers at expected seen v w
      → IsHeaderConflict headers at expected seen v x
  header_end headers at expected seen c = record {
    step = c.step;
    last = last_same [] why w x g ∙ c.last;
    since = c.since;
    was = c.was;
    kept = c.kept;
    stands = kept_others [] why w x g (record { word = at; seen = seen; was = c.was; kept = c.kept }) c.stands refl;
    known = c.known;
    cause = c.cause;
  }

  leaf_end : (at expected seen : ℕ) (u : View) → IsLeafConflict sets k at expected seen u v w
      → IsLeafConflict sets k at expected seen u v x
  leaf_end at expected seen u c = record {
    step = c.step;
    last = last_same [] why w x g ∙ c.last;
    since = c.since;
    stands = kept_others [] why w x g (record { word = at; seen = seen; was = Some expected; kept = None }) c.stands refl;
    key = c.key;
    place = c.place;
    over = c.over;
    leaf = c.leaf;
    knows = c.knows;
    same = c.same;
    full = c.full;
    lacks = c.lacks;
    whole = elim c.whole [ inl whole ↦ inl (unsplit_end at why w x g whole) | inr named ↦ inr named ];
    known = c.known;
    cause = c.cause;
    locks = c.locks;
    count = c.count;
    within = c.within;
    touched = touched_same [] why w x g ∙ c.touched;
    own = c.own;
  }

  grow_end : (at expected seen : ℕ) → IsGrowConflict sets k at expected seen v w
      → IsGrowConflict sets k at expected seen v x
  grow_end at expected seen c = (
    c.0,
    c.1,
    elim c.2 [
      | inl p ↦ inl (pointer_end sets.pointers at expected seen p.0, p.1, p.2)
      | inr more ↦ inr (elim more [
        | inl h ↦ inl (header_end sets.headers at expected seen h.0, h.1, h.2)
        | inr l ↦ inr (leaf_end at expected seen c.0 l)
      ])
    ],
  )

  slot_end : (at expected seen : ℕ) → IsSlotConflict at expected seen v w → IsSlotConflict at expected seen v x
  slot_end at expected seen c = record {
    slot = c.slot;
    within = c.within;
    place = c.place;
    before = c.before;
    first = c.first;
    since = c.since;
    count = c.count;
    taken = c.taken;
    usable = c.usable;
    looked = looked_end ∙ c.looked;
    last = last_same [] why w x g ∙ c.last;
    other = c.other;
  }

  full_end : (held : Option (ℕ × ℕ)) → IsFullOf held v w → IsFullOf held v x
  full_end held c = record {
    words = c.words;
    count = c.count;
    taken = c.taken;
    held = c.held;
    step = c.step;
    since = c.since;
    looked = looked_end ∙ c.looked;
  }

  more_end : NeedsMore k slots v w → NeedsMore k slots v x
  more_end n = elim n [
    | inl there ↦ inl record {
      then = there.then;
      walked = there.walked;
      met = λ r has. kept_others [] why w x g r (there.met r has) refl;
      needs = there.needs;
    }
    | inr made ↦ inr record {
      then = made.then;
      walked = made.walked;
      met = λ r has. kept_others [] why w x g r (made.met r has) refl;
      makes = made.makes;
    }
  ]

  keeps_end : KeepsHeader k sets v w → KeepsHeader k sets v x
  keeps_end n = record {
    then = n.then;
    walked = n.walked;
    met = λ r has. kept_others [] why w x g r (n.met r has) refl;
    adds = n.adds;
  }

  -- the transaction is over
  pub refused_end : IsLive sets v → HasHolds slots w → WaysAgree w.ways → TreesAgree w → HasRefused why v x
  refused_end live holds agree trees =
      walked_refused why sets slots v w x live only holds agree trees
      (λ met tells. tells_none why met (s.told met tells)) g

-- the write set was full
pub wide_end : (sets new : Sets) (slots : List ℕ) (k : Key) (v w x : View) → OnlyWalked v w
    → Stopped sets slots k (refusals.Wide Writes) v w → HasGivenUp [] (refusals.Wide Writes) w x
    → length sets.writes ≡ 16 → has_write k sets.writes ≡ false → RefusesTreeWrite sets new k (refusals.Wide Writes) v x
wide_end sets new slots k v w x only s g full none =
    let why : RefusalCause = refusals.Wide Writes in (
      none,
      draws_end why sets slots k v w x only s g,
      inl (refl, full),
      blamed_end why sets slots k v w x only s g,
      touched_same [] why w x g ∙ s.stops.1,
    )

-- the whole cause
pub write_end : (why : RefusalCause) (sets new : Sets) (slots : List ℕ) (k : Key) (v w x : View) → OnlyWalked v w
    → Stopped sets slots k why v w → HasGivenUp [] why w x → new.holds ≡ slots → has_write k sets.writes ≡ false
    → length sets.writes < 16 → LocksLeaf k v w → RefusesTreeWrite sets new k why v x
write_end (refusals.Conflict at expected seen) sets new slots k v w x only s g same none room locks =
    let why : RefusalCause = refusals.Conflict at expected seen in (
      none,
      room,
      draws_end why sets slots k v w x only s g,
      elim s.stops [
        | inl c ↦ inl (grow_end why sets slots k v w x only s g at expected seen c)
        | inr c ↦ inr (slot_end why sets slots k v w x only s g at expected seen c)
      ],
      blamed_end why sets slots k v w x only s g,
      touched_end why sets slots k v w x only s g,
      locks_end why sets slots k v w x only s g locks,
    )
write_end (refusals.Full held) sets new slots k v w x only s g same none room locks =
    let why : RefusalCause = refusals.Full held in (
      none,
      room,
      draws_end why sets slots k v w x only s g,
      full_end why sets slots k v w x only s g held s.stops,
      blamed_end why sets slots k v w x only s g,
      touched_end why sets slots k v w x only s g,
      locks_end why sets slots k v w x only s g locks,
    )
write_end (refusals.Wide set) sets new slots k v w x only s g same none room locks =
    let why : RefusalCause = refusals.Wide set in (
      none,
      draws_end why sets slots k v w x only s g,
      elim s.stops.0 [
        | inl full ↦ inl full
        | inr more ↦ inr (
          room,
          elim more [
            | inl held ↦ inl (
              held.0,
              elim held.1 [
                | inl full ↦ inl (
                  subst (λ (l : List ℕ). length l ≡ 128) (sym same) full.0,
                  subst (λ (l : List ℕ). NeedsMore k l v x) (sym same)
                      (more_end why sets slots k v w x only s g full.1),
                )
                | inr long ↦ inr long
              ],
            )
            | inr reads ↦ inr (reads.0, reads.1, keeps_end why sets slots k v w x only s g reads.2)
          ],
        )
      ],
      blamed_end why sets slots k v w x only s g,
      touched_same [] why w x g ∙ s.stops.1,
    )
write_end (refusals.NumberLimit clock) sets new slots k v w x only s g same none room locks = absurd s.stops

-- the write set is full
pub writes_full : (sets : Sets) (slots : List ℕ) (k : Key) (v : View) → length sets.writes ≡ 16
    → has_write k sets.writes ≡ false → Stopped sets slots k (refusals.Wide Writes) v v
writes_full sets slots k v full none = record {
  due = tt;
  on = (full, none);
  told = λ met tells. tells;
  stops = (inl (refl, full), refl);
}
