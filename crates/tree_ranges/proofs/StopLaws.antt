-- What a scan is refused for.
use Rattle.std.proofs.Common.{◌≡◌, ◌⊎◌, true≢false, inl, inr, ℕ, ◌+◌, ◌-◌, ◌*◌, ◌/◌, ◌%◌, ◌^◌, ◌<◌, ◌≤◌, true, false}
use Rattle.std.proofs.Common.{List, []}
use Rattle.std.proofs.Common.{length, refl, sym, ap, ◌∙◌, subst, arith, Some, None}
use Rattle.serial_model.specs.declared.key.Key.{Key}
use Rattle.homes.specs.declared.places.Span.{Span}
use Rattle.homes.specs.Homes.{in_span}
use Rattle.tx_sets.specs.declared.sets.Sets.{Sets}
use Rattle.tx_sets.specs.Entries.{has_read}
use Rattle.engine_pages.specs.declared.layout.Layout.{Layout}
use Rattle.engine_pages.specs.declared.view.RefusalCause.{RefusalCause}
use Rattle.engine_pages.specs.declared.view.RefusalCause.TheVariants as refusals
use Rattle.engine_pages.specs.declared.view.SetName.{SetName}
use Rattle.engine_pages.specs.declared.view.SetName.TheVariants.{Reads, Writes, Pointers, Holds}
use Rattle.engine_pages.specs.declared.view.Touch.{Touch}
use Rattle.engine_pages.specs.declared.view.View.{View}
use Rattle.engine_pages.specs.declared.view.Way.{Way}
use Rattle.engine_pages.specs.Layout.{page_at}
use Rattle.tree_walks.specs.declared.ways.Bare.{Bare}
use Rattle.tree_walks.specs.Finding.{IsFindWide, IsRecordChanged, RefusesFind}
use Rattle.tree_walks.specs.Walks.{LiesInPage}
use Rattle.tree_walks.specs.Ways.{IsBareOn, RefusesWalk}
use Rattle.tree_walks.proofs.FindLaws.{walk_finds}
use Rattle.tree_walks.proofs.StepLaws.{layout_stays, place_stays}
use Rattle.page_commit.specs.Needs.{NeedsHeader, NeedsRecord}
use Rattle.page_commit.specs.Places.{ground, IsPointerIn, IsTreeKeyIn}
use Rattle.page_commit.specs.Refusing.{HasRefused, TellsOnly}
use Rattle.page_commit.specs.Steps.{CanRefuse, HasGivenUp, TellsOf}
use Rattle.page_commit.proofs.AnyPlaces.{any_no_pointer, tree_key_here}
use Rattle.page_commit.proofs.RefuseLaws.{can_refuse, walked_refused}
use Rattle.page_commit.proofs.TreePointers.{any_pointer_here}
use Rattle.tree_scans.specs.Heads.{IsAtWord}
use Rattle.tree_calls.specs.Causes.{IsWordConflict, NeedsEntry, NeedsPointer, NeedsSlot, WasLong}
use Rattle.tree_calls.proofs.CauseLaws.{find_told, needs_entry, needs_pointer, needs_slot}
use Rattle.tree_calls.proofs.DueLaws.{draws_same, header_cause, pointer_cause, record_cause, touches_same, TreeWalked}
use Rattle.tree_calls.proofs.FoundBelow.{lies_so}
use Rattle.tree_calls.proofs.TreeWalkLaws.{tree_walked}
use Rattle.tree_calls.proofs.ValueLaws.{holds_after}
use Rattle.tree_ranges.specs.Causes.{IsScanCause}
use Rattle.tree_ranges.specs.Going.{Stops}
use Rattle.tree_ranges.proofs.GoneLaws.{grown_holds}

module _ (sets : Sets) (late : List ℕ) (k : Key) (v w x : View) (h : TreeWalked sets late v w) where
  -- ---- what ends the transaction asks

  pub stop_can : CanRefuse late w
  stop_can =
      can_refuse sets late v w h.live (tree_walked v w h.walk) (holds_after sets late v w h.live h.walk h.can)

  -- ---- a whole refusal

  pub stop_by : (why : RefusalCause) → ((met : List Touch) → TellsOf why met w → TellsOnly why met)
      → IsScanCause (record sets { holds = late }) k why v x → HasGivenUp [] why w x
      → Stops k.storage k.key k.key sets (record sets { holds = late }) why v x
  stop_by why told cause g = record {
    cause = record {
      grown = grown_holds k.storage k.key k.key sets late;
      draws = draws_same why sets late k v w x h g;
      touched = touches_same why sets late k v w x h g;
      key = k.key;
      from = omega arith;
      to = omega arith;
      cause = cause;
    };
    refused = walked_refused why sets late v w x h.live (tree_walked v w h.walk) (holds_after sets late v w h.live
        h.walk h.can)
        (h.can).agree (h.can).trees told g;
  }

  -- ---- sets that are full

  find_wide : (set : SetName) → HasGivenUp [] (refusals.Wide set) w x → IsFindWide k sets.pointers late set w
      → ((set ≡ Reads) × (256 ≤ length sets.reads + length sets.headers)
      × NeedsEntry k (record sets { holds = late }) v x)
      ⊎ (((set ≡ Holds) × (((length late ≡ 128) × NeedsSlot k late v x) ⊎ WasLong k v))
      ⊎ ((set ≡ Pointers) × (length sets.pointers ≡ 128) × NeedsPointer k (record sets { holds = late }) v x))
  find_wide Reads g n = absurd n
  find_wide Writes g n = absurd n
  find_wide Pointers g n =
      inr (inr (refl, n.full, needs_pointer (record sets { holds = late }) k v w x h.walk g n))
  find_wide Holds g (inl full) =
      inr (inl (refl, inl (full.0, needs_slot sets late late k v w x h g full.1)))
  find_wide Holds g (inr long) =
      inr (inl (refl, inr (record { then = w; walked = tree_walked v w h.walk; long = long })))

  -- ---- a search that was refused

  -- the key's record, where that wasn't read before
  find_cause : (why : RefusalCause) → RefusesFind k sets.pointers sets.headers late why v w
      → ((at expected seen : ℕ) → why ≡ refusals.Conflict at expected seen → IsRecordChanged k at expected seen v w
      → IsWordConflict sets k at expected seen v x × (x.blamed ≡ v.blamed))
      → HasGivenUp [] why w x → IsScanCause (record sets { holds = late }) k why v x
  find_cause (refusals.Conflict at expected seen) r changed g = elim r [
    | inl walk ↦ elim walk [
      | inl p ↦ pointer_cause (refusals.Conflict at expected seen) sets late k v w x h g at expected seen refl p
      | inr c ↦ header_cause (refusals.Conflict at expected seen) sets late k v w x h g at expected seen refl c
    ]
    | inr c ↦ changed at expected seen refl c
  ]
  find_cause (refusals.Full held) r changed g = absurd r
  find_cause (refusals.Wide set) r changed g = find_wide set g r.0
  find_cause (refusals.NumberLimit clock) r changed g = absurd r

  stop_so : (why : RefusalCause) → RefusesFind k sets.pointers sets.headers late why v w
      → ((at expected seen : ℕ) → why ≡ refusals.Conflict at expected seen → IsRecordChanged k at expected seen v w
      → IsWordConflict sets k at expected seen v x × (x.blamed ≡ v.blamed))
      → HasGivenUp [] why w x → Stops k.storage k.key k.key sets (record sets { holds = late }) why v x
  stop_so why r changed g =
      stop_by why (λ met told. find_told why sets late late k v w met h r told) (find_cause why r changed g) g

  pub stop_unread : (why : RefusalCause) → RefusesFind k sets.pointers sets.headers late why v w
      → has_read k sets.reads ≡ false → HasGivenUp [] why w x
      → Stops k.storage k.key k.key sets (record sets { holds = late }) why v x
  stop_unread why r none g =
      stop_so why r (λ at expected seen same c. record_cause why sets late k v w x h g at expected seen same none c) g

  -- a walk meets no record
  walk_cause : (why : RefusalCause) → RefusesWalk k sets.pointers sets.headers late why v w → HasGivenUp [] why w x
      → IsScanCause (record sets { holds = late }) k why v x
  walk_cause (refusals.Conflict at expected seen) r g = elim r [
    | inl p ↦ pointer_cause (refusals.Conflict at expected seen) sets late k v w x h g at expected seen refl p
    | inr c ↦ header_cause (refusals.Conflict at expected seen) sets late k v w x h g at expected seen refl c
  ]
  walk_cause (refusals.Full held) r g = absurd r
  walk_cause (refusals.Wide Reads) r g = absurd r.0
  walk_cause (refusals.Wide Writes) r g = absurd r.0
  walk_cause (refusals.Wide Pointers) r g = absurd r.0
  walk_cause (refusals.Wide Holds) r g = find_wide Holds g r.0
  walk_cause (refusals.NumberLimit clock) r g = absurd r

  pub stop_walk : (why : RefusalCause) → RefusesWalk k sets.pointers sets.headers late why v w → HasGivenUp [] why w x
      → Stops k.storage k.key k.key sets (record sets { holds = late }) why v x
  stop_walk why r g =
      stop_by why
      (λ met told. find_told why sets late late k v w met h (walk_finds k sets.pointers sets.headers late why v w r)
      told)
      (walk_cause why r g) g

  -- ---- a conflict at another word than a record's

  -- the place of the key's record
  record_there : (at expected seen : ℕ) → IsRecordChanged k at expected seen v w → IsTreeKeyIn (ground w) k at
  record_there at expected seen c =
      let way : Way = record { slot = c.slot; span = c.span } in
      let same = ((h.can).trees).spans way (c.place).way (c.on).way (c.place).has (sym ((c.place).slot ∙ c.stands))
      (c.on).tree in
      tree_key_here w k c.spot at c.place (subst (λ (s : Span). in_span s k ≡ true) same (c.on).over)

  at_word : (why : RefusalCause) (place at expected seen : ℕ) → IsAtWord place why
      → why ≡ refusals.Conflict at expected seen → at ≡ place
  at_word why place at expected seen is same = subst (IsAtWord place) same is

  pub stop_head : (why : RefusalCause) (t : ℕ) → RefusesFind k sets.pointers sets.headers late why v w
      → IsAtWord (page_at w.layout.slots t 0) why → HasGivenUp [] why w x
      → Stops k.storage k.key k.key sets (record sets { holds = late }) why v x
  stop_head why t r place g =
      stop_so why r (λ at expected seen same c.
      let head : at ≡ ((32 + w.layout.slots) + 64 * t) + 0 = at_word why (page_at w.layout.slots t 0) at expected
      seen place same in
      let word : at ≡ ((32 + w.layout.slots) + 64 * (c.spot).slot) + (1 + (16 + 3 * (c.spot).index)) = (c.place).word in
      let few : (c.spot).index < 16 = (c.place).index in absurd (omega (arith, head, word, few))) g

  pub stop_pointer : (why : RefusalCause) (b : Bare) → IsBareOn k sets.pointers b v
      → RefusesFind k sets.pointers sets.headers late why v w → IsAtWord b.pointer.at why → HasGivenUp [] why w x
      → Stops k.storage k.key k.key sets (record sets { holds = late }) why v x
  stop_pointer why b on r place g =
      stop_so why r (λ at expected seen same c.
      absurd (any_no_pointer w k b.span b.pointer.at (h.can).agree (h.can).trees
      (inr (subst (IsTreeKeyIn (ground w) k) (at_word why b.pointer.at at expected seen place same)
      (record_there at expected seen c)))
      (any_pointer_here w b.place b.span b.pointer.at (h.can).agree (h.can).declared
      (place_stays v w b.place b.span b.pointer.at h.walk on.is)
      (lies_so w.layout.slots b.place b.pointer.at
      (subst (λ (y : Layout). LiesInPage y.slots b.place b.pointer.at) (sym (layout_stays v w h.walk)) on.inside))))) g

  -- ---- no room for one more record or header

  pub stop_full : (256 ≤ length sets.reads + length sets.headers)
      × (NeedsRecord k sets.reads w ⊎ NeedsHeader k sets.headers w) → HasGivenUp [] (refusals.Wide Reads) w x
      → Stops k.storage k.key k.key sets (record sets { holds = late }) (refusals.Wide Reads) v x
  stop_full needs g =
      stop_by (refusals.Wide Reads) (λ touched told. told)
      (inl (refl, needs.0, needs_entry (record sets { holds = late }) k v w x h.walk g needs.1)) g
