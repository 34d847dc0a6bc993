-- Who holds headers, and who shut live pointers: seats, at pages that something leads to; and what another seat holds
-- stays as it is.
use Rattle.std.proofs.Common.{◌≡◌, ℕ, ◌+◌, ◌-◌, ◌<◌, Bool, true, false, not, true≢false, eqb, eqb-true, ltb, leb, ◌&&◌, ◌||◌, ◌⊎◌, inl, inr, List, [], ◌∷◌, ◌++◌, refl, sym, ap, ◌∙◌, subst, Option, Some, None}
use Rattle.std.proofs.lemmas.Bool.{cases_Bool, and_parts, or_cases, cond-true, cond-false, false_from_ne_true}
use Rattle.std.specs.Prelude.{is_none}
use Rattle.serial_model.specs.declared.key.Key.{Key}
use Rattle.homes.specs.declared.places.Holder.{Holder}
use Rattle.homes.specs.declared.places.Holder.TheVariants.{Free, Held, Dead}
use Rattle.homes.specs.declared.places.Spot.{Spot}
use Rattle.homes.specs.declared.places.At.{At}
use Rattle.homes.specs.declared.places.At.TheVariants.{Root, In}
use Rattle.homes.specs.declared.places.Span.{Span}
use Rattle.homes.specs.declared.places.Home.{Home}
use Rattle.homes.specs.Homes.{same_at, is_free, holder_is, look}
use Rattle.homes.specs.Laws.{at_or_other, number_or_other}
use Rattle.drop_core.specs.declared.table.Led.{Led}
use Rattle.drop_core.specs.declared.table.Led.TheVariants.{Never, From, Away}
use Rattle.drop_core.specs.declared.table.SlotState.TheVariants.{Owned, Published, Retired}
use Rattle.drop_core.specs.declared.table.Slot.{Slot}
use Rattle.drop_core.specs.declared.table.Page.{Page}
use Rattle.drop_core.specs.declared.table.Page.TheVariants.{Blank, Leaf, Inner, Split}
use Rattle.drop_core.specs.declared.table.Pointer.{Pointer}
use Rattle.drop_core.specs.declared.table.Table.{Table}
use Rattle.drop_core.specs.declared.grip.Grip.{Grip}
use Rattle.drop_core.specs.declared.event.Act.{Act}
use Rattle.drop_core.specs.declared.event.Act.TheVariants.{Enter, Leave, Give, Publish, Retire, FillPage, FillPointer, FillSnapshot, Extend, Install, Swing, Renew, Shut, Reopen, FillHeader, LockHeader, OpenHeader, Twin, SwingChain}
use Rattle.drop_core.specs.Table.{slot_of, page_of, pointer_of, header_of, snap_of, no_pointer, fresh_slot, has_slot, at_index, is_led, is_never, has_pointer, is_live, is_split}
use Rattle.drop_core.specs.Event.{is_owned, is_published, most_times, can_be_given, is_open, is_in, bury, dead_headers, child, all_below, is_tile, is_same_child, is_like, stands_for, is_stood_for, is_target, is_page_over, is_closed_to_others, keeps_header, can_install, can_swing, can_swing_from, is_led_within, is_chain_page, is_allowed, with_slot, with_header, with_pointer, grown, twinned, installed, dropped, swung, effect, slot_span, leaf_keys}
use Rattle.drop_core.specs.Sound.{IsLedSo, IsSoundTable, HeldBySeats}
use Rattle.drop_core.specs.Law.{LeavesHeld}
use Rattle.drop_core.specs.declared.event.Chain.{Chain}
use Rattle.drop_core.specs.declared.event.Twins.{Twins}
use Rattle.drop_core.proofs.Buried.{bury-dead}
use Rattle.drop_core.proofs.ChainDrops.{chain_open, link}
use Rattle.drop_core.proofs.Conditions.{CanTwin}
use Rattle.drop_core.proofs.Decides.{below-each}
use Rattle.drop_core.proofs.Drops.{slot-gone, slot-kept, link-same, link-other, dead-same, live_cases}
use Rattle.drop_core.proofs.Fills.{not_led, page-other, live_other, at-index}
use Rattle.drop_core.proofs.Grows.{grown-page, grown-other}
use Rattle.drop_core.proofs.Halves.{opens_held, adds_key, grows, splits, splits_held}
use Rattle.drop_core.proofs.Headers.{header_in, header-same, header-other, buried-dead, buried-other}
use Rattle.drop_core.proofs.Repoints.{slot-same, slot-other, pointer-other, holder-same}
use Rattle.drop_core.proofs.Splitting.{below_two, slots, is_0, is_1, at-other, old_same, page-other as page-other_twin, live_cases as twin_cases}
use Rattle.drop_core.proofs.Swings.{Installs, install_asks}

-- ---- what an act of seat p leaves of it

-- A header that is held then was so before, where something leads still if it did; or seat p holds it. So it is with
-- live pointers. Those of pages that were split are dead.
pub record HeldOver (p : ℕ) (d new : Table) : Type 0 where
  pub headers : (s q : ℕ) → header_of new s ≡ Held q
      → ((header_of d s ≡ Held q) × (is_led (slot_of d s).led ≡ true → is_led (slot_of new s).led ≡ true))
      ⊎ ((q ≡ p) × (is_led (slot_of new s).led ≡ true))
  pub pointers : (x : At) (q : ℕ) → is_live new x ≡ true → (pointer_of new x).holder ≡ Held q
      → ((is_live d x ≡ true) × ((pointer_of d x).holder ≡ Held q)) ⊎ (q ≡ p)
  pub splits : (s j : ℕ) → is_led (slot_of new s).led ≡ true → page_of new s ≡ Split → has_pointer Split j ≡ true
      → ((is_led (slot_of d s).led ≡ true) × (page_of d s ≡ Split)
      × ((pointer_of d (at_index s j)).holder ≡ Dead → (pointer_of new (at_index s j)).holder ≡ Dead))
      ⊎ ((pointer_of new (at_index s j)).holder ≡ Dead)

pub held_over : (p seats : ℕ) (d new : Table) → p < seats → HeldOver p d new → HeldBySeats d seats → HeldBySeats new seats
held_over p seats d new within over held = record {
  headers = λ s q is. elim (over.headers s q is) [
    | inl was ↦ let before = held.headers s q was.0 in (before.0, was.1 before.1)
    | inr own ↦ (subst (λ (n : ℕ). n < seats) (sym own.0) within, own.1)
  ];
  pointers = λ x q live is. elim (over.pointers x q live is) [
    | inl was ↦ held.pointers x q was.0 was.1
    | inr own ↦ subst (λ (n : ℕ). n < seats) (sym own) within
  ];
  splits = λ s j led page there. elim (over.splits s j led page there) [
    | inl was ↦ was.2 (held.splits s j was.0 was.1 there)
    | inr dead ↦ dead
  ];
}

free_held : (q : ℕ) → Free ≡ Held q → ⊥
free_held q e = cc

dead_held : (q : ℕ) → Dead ≡ Held q → ⊥
dead_held q e = cc

held_same : (p q : ℕ) → Held p ≡ Held q → q ≡ p
held_same p q e = cc

free_is : (h : Holder) → is_free h ≡ true → h ≡ Free
free_is Free e = refl
free_is (Held q) e = absurd (true≢false (sym e))
free_is Dead e = absurd (true≢false (sym e))

leaf_split : (keys : List Key) → Leaf keys ≡ Split → ⊥
leaf_split keys e = cc

-- the pointers of an interior page that may stand for another are open
open_children : (d : Table) (s n : ℕ) (span : Span) (count : ℕ) → stands_for d s n span (Inner count) ≡ true
    → all_below count (λ i. is_free (child d s i).holder) ≡ true
open_children d s n span count stands =
    let within : Bool = all_below count (λ j. leb (child d s j).page d.published) in
    let free : Bool = all_below count (λ j. is_free (child d s j).holder) in
    let a = and_parts (ltb 0 count) (all_below count (is_tile d s span count) && (all_below count (is_same_child d s n) && (within && free))) stands in
    let b = and_parts (all_below count (is_tile d s span count)) (all_below count (is_same_child d s n) && (within && free)) a.1 in
    let c = and_parts (all_below count (is_same_child d s n)) (within && free) b.1 in
    (and_parts within free c.1).1

module _ (p : ℕ) (d : Table) where
  same_over : HeldOver p d d
  same_over = record {
    headers = λ s q is. inl (is, λ led. led);
    pointers = λ x q live is. inl (live, is);
    splits = λ s j led page there. inl (led, page, λ dead. dead);
  }

  -- a slot that is led to exactly where it was
  module _ (t : ℕ) (x : Slot) (same : is_led x.led ≡ is_led (slot_of d t).led) where
    led_same : (s : ℕ) → is_led (slot_of (with_slot d t x) s).led ≡ is_led (slot_of d s).led
    led_same s = elim (number_or_other t s) [
      | inl e ↦ ap (λ (y : Slot). is_led y.led) (cond-true (eqb t s) x (slot_of d s) e.1) ∙ same ∙ ap (λ (u : ℕ). is_led (slot_of d u).led) e.0
      | inr o ↦ ap (λ (y : Slot). is_led y.led) (cond-false (eqb t s) x (slot_of d s) o.1)
    ]

    live_same : (y : At) → is_live (with_slot d t x) y ≡ is_live d y
    live_same (Root r) = refl
    live_same (In z) = ap (λ (b : Bool). b && has_pointer (page_of d z.slot) z.index) (led_same z.slot)

    slot_over : HeldOver p d (with_slot d t x)
    slot_over = record {
      headers = λ s q is. inl (is, λ led. led_same s ∙ led);
      pointers = λ y q live is. inl (sym (live_same y) ∙ live, is);
      splits = λ s j led page there. inl (sym (led_same s) ∙ led, page, λ dead. dead);
    }

  -- a header that is set: open or dead, or held by the seat where something leads to its page
  module _ (t : ℕ) (h : Holder) (may : (q : ℕ) → h ≡ Held q → (q ≡ p) × (is_led (slot_of d t).led ≡ true)) where
    header_over : HeldOver p d (with_header d t h)
    header_over = record {
      headers = λ s q is. elim (number_or_other t s) [
        | inl e ↦ let own = may q (sym (header-same d.headers t h) ∙ subst (λ (u : ℕ). header_in ((t, h) ∷ d.headers) u ≡ Held q) (sym e.0) is) in
            inr (own.0, subst (λ (u : ℕ). is_led (slot_of d u).led ≡ true) e.0 own.1)
        | inr o ↦ inl (sym (header-other d.headers t h s o.0) ∙ is, λ led. led)
      ];
      pointers = λ x q live is. inl ((live_before x) ∙ live, is);
      splits = λ s j led page there. inl (led, page, λ dead. dead);
    }
      where
        live_before : (x : At) → is_live d x ≡ is_live (with_header d t h) x
        live_before (Root r) = refl
        live_before (In z) = refl

  -- a pointer that changes: it is held as it was, is open, or the seat shut it
  module _ (x : At) (new : Pointer) (may : (q : ℕ) → new.holder ≡ Held q → ((pointer_of d x).holder ≡ Held q) ⊎ (q ≡ p))
      (dead : (pointer_of d x).holder ≡ Dead → new.holder ≡ Dead) where
    live_with : (y : At) → is_live d y ≡ is_live (with_pointer d x new) y
    live_with (Root r) = refl
    live_with (In z) = refl

    pointer_over : HeldOver p d (with_pointer d x new)
    pointer_over = record {
      headers = λ s q is. inl (is, λ led. led);
      pointers = λ y q live is. elim (at_or_other x y) [
        | inl e ↦ elim (may q (sym (ap (λ (w : Pointer). w.holder) (cond-true (same_at x y) new (pointer_of d y) e.1)) ∙ is)) [
          | inl was ↦ inl (live_with y ∙ live, subst (λ (z : At). (pointer_of d z).holder ≡ Held q) e.0 was)
          | inr own ↦ inr own
        ]
        | inr o ↦ inl (live_with y ∙ live, sym (ap (λ (w : Pointer). w.holder) (cond-false (same_at x y) new (pointer_of d y) o.1)) ∙ is)
      ];
      splits = λ s j led page there. inl (
        led,
        page,
        λ was. elim (at_or_other x (at_index s j)) [
          | inl e ↦ ap (λ (w : Pointer). w.holder) (cond-true (same_at x (at_index s j)) new (pointer_of d (at_index s j)) e.1)
              ∙ dead (subst (λ (z : At). (pointer_of d z).holder ≡ Dead) (sym e.0) was)
          | inr o ↦ ap (λ (w : Pointer). w.holder) (cond-false (same_at x (at_index s j)) new (pointer_of d (at_index s j)) o.1) ∙ was
        ],
      );
    }

-- ---- act by act

module _ (homes : Key → Home) (d : Table) (grips : List Grip) (sound : IsSoundTable homes d grips) (p : ℕ) (g : Grip) where
  -- a slot that is owned, with its page: nothing leads to it
  fill_over : (t : ℕ) → is_owned (slot_of d t).state ≡ true → (page : Page) → HeldOver p d (record d { pages = (t, page) ∷ d.pages })
  fill_over t own page = record {
    headers = λ s q is. inl (is, λ led. led);
    pointers = λ x q live is. inl (before x live, is);
    splits = λ s j led is there. inl (led, sym (page-other homes d grips sound t own page s (apart s led)) ∙ is, λ dead. dead);
  }
    where
      apart : (s : ℕ) → is_led (slot_of d s).led ≡ true → t ≡ s → ⊥
      apart s led e = true≢false (sym led ∙ ap (λ (u : ℕ). is_led (slot_of d u).led) (sym e) ∙ not_led homes d grips sound t own)

      before : (x : At) → is_live (record d { pages = (t, page) ∷ d.pages }) x ≡ true → is_live d x ≡ true
      before (Root r) live = refl
      before (In z) live =
          let led = (and_parts (is_led (slot_of d z.slot).led) (has_pointer (page_of (record d { pages = (t, page) ∷ d.pages }) z.slot) z.index) live).0 in
          ap (λ (q : Page). is_led (slot_of d z.slot).led && has_pointer q z.index) (sym (page-other homes d grips sound t own page z.slot (apart z.slot led))) ∙ live

  -- so it is with its pointers
  link_over : (x : Spot) (new : Pointer) → is_owned (slot_of d x.slot).state ≡ true → HeldOver p d (with_pointer d (In x) new)
  link_over x new own = record {
    headers = λ s q is. inl (is, λ led. led);
    pointers = λ y q live is.
        let was = before y live in
        inl (was, sym (ap (λ (w : Pointer). w.holder) (live_other homes d grips sound x.slot own x new refl y was)) ∙ is);
    splits = λ s j led is there. inl (
      led,
      is,
      λ dead.
          ap (λ (w : Pointer). w.holder) (at-index homes d grips sound x.slot own x new refl s j
          (λ e. true≢false (sym led ∙ ap (λ (u : ℕ). is_led (slot_of d u).led) (sym e) ∙ not_led homes d grips sound x.slot own))) ∙ dead,
    );
  }
    where
      before : (y : At) → is_live (with_pointer d (In x) new) y ≡ true → is_live d y ≡ true
      before (Root r) live = refl
      before (In z) live = live

  -- a slot that is given: nothing led to it
  given_over : (t : ℕ) (new : Slot) → is_led new.led ≡ false → is_led (slot_of d t).led ≡ false → HeldOver p d (with_header (with_slot d t new) t Dead)
  given_over t new not_now not_before = record {
    headers = λ s q is. elim (number_or_other t s) [
      | inl e ↦ absurd (dead_held q (sym (header-same d.headers t Dead) ∙ subst (λ (u : ℕ). header_in ((t, Dead) ∷ d.headers) u ≡ Held q) (sym e.0) is))
      | inr o ↦ inl (sym (header-other d.headers t Dead s o.0) ∙ is, λ led. led_now s ∙ led)
    ];
    pointers = λ x q live is. inl (before x live, is);
    splits = λ s j led page there. inl (sym (led_now s) ∙ led, page, λ dead. dead);
  }
    where
      led_now : (s : ℕ) → is_led (slot_of (with_slot d t new) s).led ≡ is_led (slot_of d s).led
      led_now s = led_same p d t new (not_now ∙ sym not_before) s

      before : (x : At) → is_live (with_header (with_slot d t new) t Dead) x ≡ true → is_live d x ≡ true
      before (Root r) live = refl
      before (In z) live = ap (λ (b : Bool). b && has_pointer (page_of d z.slot) z.index) (sym (led_now z.slot)) ∙ live

  not_led_given : (t : ℕ) (led : Led) → IsLedSo d t (slot_of d t).state led → can_be_given (slot_of d t).state ≡ true → is_led led ≡ false
  not_led_given t Never so can = refl
  not_led_given t (From x) so can = absurd (true≢false (sym can ∙ ap can_be_given so.0))
  not_led_given t Away so can = refl

  -- what hangs on a pointer is gone
  module _ (x : At) (n : ℕ) (gone : List ℕ) where
    gone_header : (s q : ℕ) → header_in (dead_headers gone d.headers) s ≡ Held q → (has_slot gone s ≡ false) × (header_of d s ≡ Held q)
    gone_header s q is = elim (cases_Bool (has_slot gone s)) [
      | inl e ↦ absurd (dead_held q (sym (buried-dead gone d.headers s e) ∙ is))
      | inr e ↦ (e, sym (buried-other gone d.headers s e) ∙ is)
    ]

    holder_now : (y : At) (q : ℕ) → (pointer_of (dropped d x n gone) y).holder ≡ Held q → (pointer_of d y).holder ≡ Held q
    holder_now y q is = elim (at_or_other x y) [
      | inl e ↦ sym (ap (λ (z : At). (pointer_of d z).holder) e.0)
          ∙ sym (ap (λ (w : Pointer). w.holder) (link-same d x n gone))
          ∙ subst (λ (z : At). (pointer_of (dropped d x n gone) z).holder ≡ Held q) (sym e.0) is
      | inr o ↦ bury_held y q (pointer_of d y) (sym (ap (λ (w : Pointer). w.holder) (link-other d x n gone y o.0)) ∙ is)
    ]
      where
        bury_held : (y : At) (q : ℕ) (w : Pointer) → (bury gone y w).holder ≡ Held q → w.holder ≡ Held q
        bury_held y q w is = elim (cases_Bool (is_in gone y)) [
          | inl e ↦ absurd (dead_held q (sym (bury-dead gone y w e) ∙ is))
          | inr e ↦ sym (ap (λ (v : Pointer). v.holder) (cond-false (is_in gone y) (record w { holder = Dead }) w e)) ∙ is
        ]

    dropped_over : HeldOver p d (dropped d x n gone)
    dropped_over = record {
      headers = λ s q is. let was = gone_header s q is in inl (was.1, λ led. ap (λ (y : Slot). is_led y.led) (slot-kept d x n gone s was.0) ∙ led);
      pointers = λ y q live is. inl ((live_cases d x n gone y live).0, holder_now y q is);
      splits = λ s j led page there. inl (was_led s led, page, λ dead. dead-same d x n gone (at_index s j) dead);
    }
      where
        was_led : (s : ℕ) → is_led (slot_of (dropped d x n gone) s).led ≡ true → is_led (slot_of d s).led ≡ true
        was_led s led = elim (cases_Bool (has_slot gone s)) [
          | inl e ↦ absurd (true≢false (sym led ∙ ap (λ (y : Slot). is_led y.led) (slot-gone d x n gone s e)))
          | inr e ↦ sym (ap (λ (y : Slot). is_led y.led) (slot-kept d x n gone s e)) ∙ led
        ]

  swung_over : (x : At) (n : ℕ) (o : Option ℕ) → HeldOver p d (swung d g x n o).table
  swung_over x n None = same_over p d
  swung_over x n (Some t) = dropped_over x n (t ∷ [])

  -- a page that is put in: its pointers are open
  install_over : (x : At) (t : ℕ) → is_allowed p d g (Install x t) ≡ true → HeldOver p d (installed d x t)
  install_over x t can = record {
    headers = λ s q is. inl (
      is,
      λ led. elim (number_or_other t s) [
        | inl e ↦ subst (λ (u : ℕ). is_led (slot_of (installed d x t) u).led ≡ true) e.0
            (ap (λ (y : Slot). is_led y.led) (slot-same d x t (From x) (Some t) (pointer_of d x).page))
        | inr o ↦ ap (λ (y : Slot). is_led y.led) (slot-other d x t (From x) (Some t) (pointer_of d x).page s o.0) ∙ led
      ],
    );
    pointers = λ y q live is. inl (before y q live (sym (holder-same d x t (From x) (Some t) (pointer_of d x).page y) ∙ is));
    splits = λ s j led page there. elim (number_or_other t s) [
      | inl e ↦ absurd (stands_split (page_of d t) asks.stands (ap (page_of d) e.0 ∙ page))
      | inr o ↦ inl (
        sym (ap (λ (y : Slot). is_led y.led) (slot-other d x t (From x) (Some t) (pointer_of d x).page s o.0)) ∙ led,
        page,
        λ dead. holder-same d x t (From x) (Some t) (pointer_of d x).page (at_index s j) ∙ dead,
      )
    ];
  }
    where
      asks : Installs d x t
      asks = install_asks homes d grips sound p t g x can

      stands_split : (page : Page) → stands_for d t (pointer_of d x).page (pointer_of d x).span page ≡ true → page ≡ Split → ⊥
      stands_split page stands e = true≢false (sym stands ∙ ap (stands_for d t (pointer_of d x).page (pointer_of d x).span) e)

      -- the pointers of the new page
      fresh : (page : Page) (j q : ℕ) → page_of d t ≡ page → stands_for d t (pointer_of d x).page (pointer_of d x).span page ≡ true
          → has_pointer page j ≡ true → (pointer_of d (at_index t j)).holder ≡ Held q → ⊥
      fresh Blank j q is stands there held = true≢false (sym stands)
      fresh (Leaf keys) j q is stands there held = true≢false (sym there)
      fresh (Inner count) j q is stands there held =
          let shows_open = open_children d t (pointer_of d x).page (pointer_of d x).span count stands in
          free_held q (sym (free_is (pointer_of d (at_index t j)).holder (below-each count (λ i. is_free (child d t i).holder) shows_open j there)) ∙ held)
      fresh Split j q is stands there held = true≢false (sym stands)

      before : (y : At) (q : ℕ) → is_live (installed d x t) y ≡ true → (pointer_of d y).holder ≡ Held q
          → (is_live d y ≡ true) × ((pointer_of d y).holder ≡ Held q)
      before (Root r) q live held = (refl, held)
      before (In z) q live held = elim (number_or_other t z.slot) [
        | inl e ↦ absurd (fresh (page_of d t) z.index q refl asks.stands
            (subst (λ (u : ℕ). has_pointer (page_of d u) z.index ≡ true) (sym e.0)
            (and_parts (is_led (slot_of (installed d x t) z.slot).led) (has_pointer (page_of d z.slot) z.index) live).1)
            (subst (λ (u : ℕ). (pointer_of d (In (record { slot = u; index = z.index }))).holder ≡ Held q) (sym e.0) held))
        | inr o ↦ (
          sym (ap (λ (y : Slot). is_led y.led && has_pointer (page_of d z.slot) z.index)
              (slot-other d x t (From x) (Some t) (pointer_of d x).page z.slot o.0)) ∙ live,
          held,
        )
      ]

  grown_over : (t : ℕ) (k : Key) (keys : List Key) → page_of d t ≡ Leaf keys → HeldOver p d (grown d t k)
  grown_over t k keys leaf = record {
    headers = λ s q is. elim (number_or_other t s) [
      | inl e ↦ absurd (free_held q (sym (header-same d.headers t Free) ∙ subst (λ (u : ℕ). header_in ((t, Free) ∷ d.headers) u ≡ Held q) (sym e.0) is))
      | inr o ↦ inl (sym (header-other d.headers t Free s o.0) ∙ is, λ led. led)
    ];
    pointers = λ x q live is. inl (before x live, is);
    splits = λ s j led page there. elim (number_or_other t s) [
      | inl e ↦ absurd (leaf_split (keys ++ k ∷ []) (sym (grown-page d t k keys leaf) ∙ ap (page_of (grown d t k)) e.0 ∙ page))
      | inr o ↦ inl (led, sym (grown-other d t k s o.0) ∙ page, λ dead. dead)
    ];
  }
    where
      before : (x : At) → is_live (grown d t k) x ≡ true → is_live d x ≡ true
      before (Root r) live = refl
      before (In z) live = elim (number_or_other t z.slot) [
        | inl e ↦ absurd (true≢false (sym (and_parts (is_led (slot_of d z.slot).led) (has_pointer (page_of (grown d t k) z.slot) z.index) live).1
            ∙ ap (λ (u : ℕ). has_pointer (page_of (grown d t k) u) z.index) (sym e.0) ∙ ap (λ (q : Page). has_pointer q z.index) (grown-page d t k keys leaf)))
        | inr o ↦ ap (λ (q : Page). is_led (slot_of d z.slot).led && has_pointer q z.index) (sym (grown-other d t k z.slot o.0)) ∙ live
      ]

  module _ (x : At) (span : Span) (w : Twins) (keys : List Key) (can : CanTwin d x span w keys) where
    twin_over : HeldOver p d (twinned d span w)
    twin_over = record {
      headers = λ s q is. elim (number_or_other w.slot s) [
        | inl e ↦ absurd (free_held q (sym (header-same d.headers w.slot Free) ∙ subst (λ (u : ℕ). header_in ((w.slot, Free) ∷ d.headers) u ≡ Held q) (sym e.0) is))
        | inr o ↦ inl (sym (header-other d.headers w.slot Free s o.0) ∙ is, still_led s)
      ];
      pointers = λ y q live is. elim (twin_cases homes d grips x span w keys can sound y live) [
        | inl was ↦ inl (was, sym (ap (λ (v : Pointer). v.holder) (old_same homes d grips x span w keys can sound y was)) ∙ is)
        | inr twin ↦ absurd (dead_held q (sym (twin_dead y twin) ∙ is))
      ];
      splits = λ s j led page there. elim (number_or_other w.slot s) [
        | inl e ↦ inr (subst (λ (u : ℕ). (pointer_of (twinned d span w) (at_index u j)).holder ≡ Dead) e.0 (halves_dead j there))
        | inr o ↦ inl (
          was_led s o.0 led (sym (page-other_twin homes d grips x span w keys can sound s o.0) ∙ page),
          sym (page-other_twin homes d grips x span w keys can sound s o.0) ∙ page,
          λ dead. ap (λ (v : Pointer). v.holder) (at-other homes d grips x span w keys can sound s j o.0) ∙ dead,
        )
      ];
    }
      where
        still_led : (s : ℕ) → is_led (slot_of d s).led ≡ true → is_led (slot_of (twinned d span w) s).led ≡ true
        still_led s led = slots homes d grips x span w keys can sound (λ t y. is_led (slot_of d t).led ≡ true → is_led y.led ≡ true)
            (λ was. refl) (λ was. refl) (λ t oa ob was. was) s led

        halves_dead : (j : ℕ) → has_pointer Split j ≡ true → (pointer_of (twinned d span w) (at_index w.slot j)).holder ≡ Dead
        halves_dead j there = elim (below_two j there) [
          | inl e ↦ subst (λ (i : ℕ). (pointer_of (twinned d span w) (at_index w.slot i)).holder ≡ Dead) (sym e)
              (ap (λ (v : Pointer). v.holder) (is_0 homes d grips x span w keys can sound))
          | inr e ↦ subst (λ (i : ℕ). (pointer_of (twinned d span w) (at_index w.slot i)).holder ≡ Dead) (sym e)
              (ap (λ (v : Pointer). v.holder) (is_1 homes d grips x span w keys can sound))
        ]

        twin_dead : (y : At) → (at_index w.slot 0 ≡ y) ⊎ (at_index w.slot 1 ≡ y) → (pointer_of (twinned d span w) y).holder ≡ Dead
        twin_dead y twin = elim twin [
          | inl e ↦ subst (λ (z : At). (pointer_of (twinned d span w) z).holder ≡ Dead) e (halves_dead 0 refl)
          | inr e ↦ subst (λ (z : At). (pointer_of (twinned d span w) z).holder ≡ Dead) e (halves_dead 1 refl)
        ]

        -- the halves are leaves
        was_led : (s : ℕ) → (w.slot ≡ s → ⊥) → is_led (slot_of (twinned d span w) s).led ≡ true → page_of d s ≡ Split → is_led (slot_of d s).led ≡ true
        was_led s other led page = slots homes d grips x span w keys can sound (λ t y. page_of d t ≡ Split → is_led y.led ≡ true → is_led (slot_of d t).led ≡ true)
            (λ is now. absurd (leaf_split (leaf_keys (page_of d w.minor)) (sym can.a_page ∙ is)))
            (λ is now. absurd (leaf_split (leaf_keys (page_of d w.major)) (sym can.b_page ∙ is)))
            (λ t oa ob is now. now) s page led

  -- where slots, pages, pointers and headers are as they were
  plain_over : (new : Table) → new.slots ≡ d.slots → new.pages ≡ d.pages → new.pointers ≡ d.pointers → new.headers ≡ d.headers → HeldOver p d new
  plain_over new slots pages pointers headers = record {
    headers = λ s q is. inl (
      sym (ap (λ (l : List (ℕ × Holder)). header_in l s) headers) ∙ is,
      λ led. ap (λ (l : List (ℕ × Slot)). is_led (look (λ a b. eqb a b) fresh_slot l s).led) slots ∙ led,
    );
    pointers = λ x q live is. inl (sym (live_as x) ∙ live, sym (ap (λ (l : List (At × Pointer)). (look same_at no_pointer l x).holder) pointers) ∙ is);
    splits = λ s j led page there. inl (
      sym (ap (λ (l : List (ℕ × Slot)). is_led (look (λ a b. eqb a b) fresh_slot l s).led) slots) ∙ led,
      sym (ap (λ (l : List (ℕ × Page)). look (λ a b. eqb a b) Blank l s) pages) ∙ page,
      λ dead. ap (λ (l : List (At × Pointer)). (look same_at no_pointer l (at_index s j)).holder) pointers ∙ dead,
    );
  }
    where
      live_as : (x : At) → is_live new x ≡ is_live d x
      live_as (Root r) = refl
      live_as (In z) =
          ap (λ (l : List (ℕ × Slot)). is_led (look (λ a b. eqb a b) fresh_slot l z.slot).led && has_pointer (page_of new z.slot) z.index) slots
          ∙ ap (λ (l : List (ℕ × Page)). is_led (slot_of d z.slot).led && has_pointer (look (λ a b. eqb a b) Blank l z.slot) z.index) pages

  -- a header that the seat holds may be opened
  opened_free : (q t : ℕ) → Free ≡ Held q → (q ≡ p) × (is_led (slot_of d t).led ≡ true)
  opened_free q t e = absurd (free_held q e)

  pub act_over : (act : Act) → is_allowed p d g act ≡ true → HeldOver p d (effect p d g act).table
  act_over (Enter t) can = slot_over p d t (record (slot_of d t) { passes = (slot_of d t).passes + 1 }) refl
  act_over (Leave t) can = slot_over p d t (record (slot_of d t) { passes = (slot_of d t).passes - 1 }) refl
  act_over (Give t) can =
      let usable = (and_parts (ltb t d.room) (can_be_given (slot_of d t).state && (eqb (slot_of d t).passes 0 && ltb (slot_of d t).times most_times)) can).1 in
      given_over t (record (slot_of d t) { state = Owned; times = (slot_of d t).times + 1; led = Never }) refl
      (not_led_given t (slot_of d t).led (sound.holds_counted.led t)
      (and_parts (can_be_given (slot_of d t).state) (eqb (slot_of d t).passes 0 && ltb (slot_of d t).times most_times) usable).0)
  act_over (Publish t) can = slot_over p d t (record (slot_of d t) { state = Published }) refl
  act_over (Retire t) can = slot_over p d t (record (slot_of d t) { state = Retired }) refl
  act_over (FillPage t page) can = fill_over t (and_parts (is_owned (slot_of d t).state) (has_slot g.made t) can).0 page
  act_over (FillPointer x q) can = link_over x q (and_parts (is_owned (slot_of d x.slot).state) (has_slot g.made x.slot) can).0
  act_over (FillSnapshot n page) can = plain_over (record d { snaps = (n, page) ∷ d.snaps }) refl refl refl refl
  act_over (Extend n) can = plain_over (record d { published = n }) refl refl refl refl
  act_over (Install x t) can = install_over x t can
  act_over (Swing x n) can = swung_over x n (pointer_of d x).slot
  act_over (Renew x n) can = pointer_over p d x (record (pointer_of d x) { page = n }) (λ q is. inl is) (λ dead. dead)
  act_over (Shut x) can =
      let shows_open = (and_parts (is_live d x) (is_free (pointer_of d x).holder) can).1 in
      pointer_over p d x (record (pointer_of d x) { holder = Held p }) (λ q is. inr (held_same p q is))
      (λ dead. absurd (true≢false (sym shows_open ∙ ap is_free dead)))
  act_over (Reopen x) can = pointer_over p d x (record (pointer_of d x) { holder = Free }) (λ q is. absurd (free_held q is))
      (λ dead. absurd (true≢false (sym can ∙ ap (holder_is p) dead)))
  act_over (FillHeader t) can = header_over p d t Free (λ q e. opened_free q t e)
  act_over (LockHeader t) can =
      header_over p d t (Held p) (λ q e. (held_same p q e, (and_parts (is_led (slot_of d t).led) (is_free (header_of d t) && (eqb p 0 || not (is_split (page_of d t)))) can).0))
  act_over (OpenHeader t None) can = header_over p d t Free (λ q e. opened_free q t e)
  act_over (OpenHeader t (Some k)) can =
      let grow = grows homes d grips sound t k (adds_key p d t k can) in grown_over t k grow.2 grow.3.page
  act_over (Twin w) can =
      let two = splits homes d grips sound p g w can in twin_over two.0 (slot_span d w.slot) w (leaf_keys (page_of d w.slot)) two.2
  act_over (SwingChain x n c) can = dropped_over x n c.slots

-- ---- what another seat holds stays

holder_one : (p q : ℕ) (h : Holder) → holder_is p h ≡ true → h ≡ Held q → q ≡ p
holder_one p q h is e = same p q (sym (ap (holder_is p) e) ∙ is)
  where
    same : (p q : ℕ) → holder_is p (Held q) ≡ true → q ≡ p
    same p q is = eqb-true q p is

closed_one : (p q : ℕ) (h : Holder) → is_closed_to_others p h ≡ true → h ≡ Held q → q ≡ p
closed_one p q h is e = same p q (sym (ap (is_closed_to_others p) e) ∙ is)
  where
    same : (p q : ℕ) → is_closed_to_others p (Held q) ≡ true → q ≡ p
    same p q is = eqb-true q p is

abbrev install_rest : Table → Grip → At → ℕ → Bool
install_rest d g x s =
    is_none (pointer_of d x).slot
    && ((has_slot g.made s && (is_published (slot_of d s).state && is_never (slot_of d s).led))
    && (is_like d s (page_of d s) (snap_of d (pointer_of d x).page)
    && stands_for d s (pointer_of d x).page (pointer_of d x).span (page_of d s)))

module _ (homes : Key → Home) (d : Table) (grips : List Grip) (sound : IsSoundTable homes d grips) (p seats : ℕ) (g : Grip) (held : HeldBySeats d seats) where
  -- where pages, pointers and headers are as they were
  plain : (new : Table) → new.pages ≡ d.pages → new.pointers ≡ d.pointers → new.headers ≡ d.headers → LeavesHeld p d new
  plain new pages pointers headers = record {
    headers = λ q s other is. (ap (λ (l : List (ℕ × Holder)). header_in l s) headers ∙ is, ap (λ (l : List (ℕ × Page)). look (λ a b. eqb a b) Blank l s) pages);
    pointers = λ q x other live is. ap (λ (l : List (At × Pointer)). look same_at no_pointer l x) pointers;
  }

  -- a held header is of a page that something leads to
  not_held : (t : ℕ) → is_led (slot_of d t).led ≡ false → (q s : ℕ) → header_of d s ≡ Held q → t ≡ s → ⊥
  not_held t not q s is e = true≢false (sym (held.headers s q is).1 ∙ ap (λ (u : ℕ). is_led (slot_of d u).led) (sym e) ∙ not)

  -- a header that is set, and was no other seat's
  set_held : (t : ℕ) (h : Holder) → ((q : ℕ) → (q ≡ p → ⊥) → header_of d t ≡ Held q → ⊥) → LeavesHeld p d (with_header d t h)
  set_held t h not = record {
    headers = λ q s other is. (header-other d.headers t h s (λ e. not q other (ap (header_of d) e ∙ is)) ∙ is, refl);
    pointers = λ q x other live is. refl;
  }

  -- a pointer that changes, and was no other seat's
  pointer_held : (x : At) (new : Pointer) → ((q : ℕ) → (q ≡ p → ⊥) → (pointer_of d x).holder ≡ Held q → ⊥) → LeavesHeld p d (with_pointer d x new)
  pointer_held x new not = record {
    headers = λ q s other is. (is, refl);
    pointers = λ q y other live is. elim (at_or_other x y) [
      | inl e ↦ absurd (not q other (ap (λ (z : At). (pointer_of d z).holder) e.0 ∙ is))
      | inr o ↦ cond-false (same_at x y) new (pointer_of d y) o.1
    ];
  }

  open_not : (x : At) → is_open d x ≡ true → (q : ℕ) → (q ≡ p → ⊥) → (pointer_of d x).holder ≡ Held q → ⊥
  open_not x shows_open q other is =
      free_held q (sym (free_is (pointer_of d x).holder (and_parts (is_live d x) (is_free (pointer_of d x).holder) shows_open).1) ∙ is)

  -- what hangs on an open pointer goes: its headers and pointers are no other seat's
  module _ (x : At) (n : ℕ) (gone : List ℕ) (shows_open : is_open d x ≡ true)
      (headers_own : (s q : ℕ) → has_slot gone s ≡ true → (q ≡ p → ⊥) → header_of d s ≡ Held q → ⊥)
      (pointers_own : (z : Spot) (q : ℕ) → has_slot gone z.slot ≡ true → is_live d (In z) ≡ true → (q ≡ p → ⊥) → (pointer_of d (In z)).holder ≡ Held q → ⊥) where
    not_in : (y : At) (q : ℕ) → is_live d y ≡ true → (q ≡ p → ⊥) → (pointer_of d y).holder ≡ Held q → is_in gone y ≡ false
    not_in (Root r) q live other is = refl
    not_in (In z) q live other is = false_from_ne_true (has_slot gone z.slot) (λ hit. pointers_own z q hit live other is)

    dropped_held : LeavesHeld p d (dropped d x n gone)
    dropped_held = record {
      headers = λ q s other is. (
        buried-other gone d.headers s (false_from_ne_true (has_slot gone s) (λ hit. headers_own s q hit other is)) ∙ is,
        refl,
      );
      pointers = λ q y other live is.
          link-other d x n gone y (λ e. open_not x shows_open q other (ap (λ (z : At). (pointer_of d z).holder) e ∙ is))
          ∙ cond-false (is_in gone y) (record (pointer_of d y) { holder = Dead }) (pointer_of d y) (not_in y q live other is);
    }

  module _ (x : At) (n : ℕ) (can : is_allowed p d g (Swing x n) ≡ true) where
    abbrev aims : Option ℕ → Bool
    aims o = is_target d n (pointer_of d x).span && can_swing_from p d x n o

    swing_open : is_open d x ≡ true
    swing_open = (and_parts (is_open d x) (aims (pointer_of d x).slot) (and_parts (can_swing p d x n) (keeps_header p d (pointer_of d x).slot) can).0).0

    swings_from : can_swing_from p d x n (pointer_of d x).slot ≡ true
    swings_from = (and_parts (is_target d n (pointer_of d x).span) (can_swing_from p d x n (pointer_of d x).slot)
        (and_parts (is_open d x) (aims (pointer_of d x).slot) (and_parts (can_swing p d x n) (keeps_header p d (pointer_of d x).slot) can).0).1).1

    keeps : keeps_header p d (pointer_of d x).slot ≡ true
    keeps = (and_parts (can_swing p d x n) (keeps_header p d (pointer_of d x).slot) can).1

    only : (t s : ℕ) → has_slot (t ∷ []) s ≡ true → t ≡ s
    only t s hit = elim (or_cases (eqb t s) false hit) [ inl e ↦ eqb-true t s e | inr none ↦ absurd (true≢false (sym none)) ]

    -- the pointers of the page that goes are shut by the seat
    shut_own : (t : ℕ) (page : Page) → is_stood_for p d t n (pointer_of d x).span page ≡ true → (j q : ℕ) → has_pointer page j ≡ true
        → (q ≡ p → ⊥) → (pointer_of d (at_index t j)).holder ≡ Held q → ⊥
    shut_own t Blank stood j q there other is = true≢false (sym stood)
    shut_own t (Leaf keys) stood j q there other is = true≢false (sym there)
    shut_own t (Inner count) stood j q there other is =
        let shut = (and_parts (all_below count (is_same_child d t n)) (all_below count (λ i. holder_is p (child d t i).holder)) stood).1 in
        other (holder_one p q (pointer_of d (at_index t j)).holder (below-each count (λ i. holder_is p (child d t i).holder) shut j there) is)
    shut_own t Split stood j q there other is = true≢false (sym stood)

    swung_held : (o : Option ℕ) → can_swing_from p d x n o ≡ true → keeps_header p d o ≡ true → LeavesHeld p d (swung d g x n o).table
    swung_held None from keep = plain d refl refl refl
    swung_held (Some t) from keep =
        let stood = (and_parts (is_like d t (page_of d t) (snap_of d n)) (is_stood_for p d t n (pointer_of d x).span (page_of d t)) from).1 in
        dropped_held x n (t ∷ []) swing_open
        (λ s q hit other is. other (closed_one p q (header_of d t) keep (ap (header_of d) (only t s hit) ∙ is)))
        (λ z q hit live other is. shut_own t (page_of d t) stood z.index q
        (subst (λ (u : ℕ). has_pointer (page_of d u) z.index ≡ true) (sym (only t z.slot hit)) (and_parts (is_led (slot_of d z.slot).led) (has_pointer (page_of d z.slot) z.index) live).1)
        other (subst (λ (u : ℕ). (pointer_of d (at_index u z.index)).holder ≡ Held q) (sym (only t z.slot hit)) is))

  module _ (x : At) (n : ℕ) (c : Chain) (can : is_allowed p d g (SwingChain x n c) ≡ true) where
    chain_pointer : (z : Spot) (q : ℕ) (page : Page) → page_of d z.slot ≡ page → is_chain_page d c z.slot page ≡ true → is_live d (In z) ≡ true
        → (pointer_of d (In z)).holder ≡ Held q → ⊥
    chain_pointer z q Blank page chain live is = true≢false (sym chain)
    chain_pointer z q (Leaf keys) page chain live is =
        true≢false (sym (and_parts (is_led (slot_of d z.slot).led) (has_pointer (page_of d z.slot) z.index) live).1 ∙ ap (λ (u : Page). has_pointer u z.index) page)
    chain_pointer z q (Inner count) page chain live is = true≢false (sym chain)
    chain_pointer z q Split page chain live is =
        let parts = and_parts (is_led (slot_of d z.slot).led) (has_pointer (page_of d z.slot) z.index) live in
        dead_held q (sym (held.splits z.slot z.index parts.0 page (sym (ap (λ (u : Page). has_pointer u z.index) page) ∙ parts.1)) ∙ is)

    chain_held : LeavesHeld p d (dropped d x n c.slots)
    chain_held = dropped_held x n c.slots (chain_open homes d grips sound p g x n c can)
        (λ s q hit other is. other (holder_one p q (header_of d s) (link homes d grips sound p g x n c can s hit).0 is))
        (λ z q hit live other is.
        chain_pointer z q (page_of d z.slot) refl
        (and_parts (is_led_within x c.slots (slot_of d z.slot).led) (is_chain_page d c z.slot (page_of d z.slot)) (link homes d grips sound p g x n c can z.slot hit).1).1
        live is)

  pub act_leaves_held : (act : Act) → is_allowed p d g act ≡ true → LeavesHeld p d (effect p d g act).table
  act_leaves_held (Enter t) can = plain (with_slot d t (record (slot_of d t) { passes = (slot_of d t).passes + 1 })) refl refl refl
  act_leaves_held (Leave t) can = plain (with_slot d t (record (slot_of d t) { passes = (slot_of d t).passes - 1 })) refl refl refl
  act_leaves_held (Give t) can =
      let usable = (and_parts (ltb t d.room) (can_be_given (slot_of d t).state && (eqb (slot_of d t).passes 0 && ltb (slot_of d t).times most_times)) can).1 in
      let not = not_led_given homes d grips sound p g t (slot_of d t).led (sound.holds_counted.led t)
      (and_parts (can_be_given (slot_of d t).state) (eqb (slot_of d t).passes 0 && ltb (slot_of d t).times most_times) usable).0 in
      record {
        headers = λ q s other is. (header-other d.headers t Dead s (not_held t not q s is) ∙ is, refl);
        pointers = λ q x other live is. refl;
      }
  act_leaves_held (Publish t) can = plain (with_slot d t (record (slot_of d t) { state = Published })) refl refl refl
  act_leaves_held (Retire t) can = plain (with_slot d t (record (slot_of d t) { state = Retired })) refl refl refl
  act_leaves_held (FillPage t page) can =
      let own = (and_parts (is_owned (slot_of d t).state) (has_slot g.made t) can).0 in
      record {
        headers = λ q s other is. (is, page-other homes d grips sound t own page s (not_held t (not_led homes d grips sound t own) q s is));
        pointers = λ q x other live is. refl;
      }
  act_leaves_held (FillPointer x new) can =
      let own = (and_parts (is_owned (slot_of d x.slot).state) (has_slot g.made x.slot) can).0 in
      record {
        headers = λ q s other is. (is, refl);
        pointers = λ q y other live is. live_other homes d grips sound x.slot own x new refl y live;
      }
  act_leaves_held (FillSnapshot n page) can = plain (record d { snaps = (n, page) ∷ d.snaps }) refl refl refl
  act_leaves_held (Extend n) can = plain (record d { published = n }) refl refl refl
  act_leaves_held (Install x t) can =
      let shows_open = (and_parts (is_open d x) (install_rest d g x t) (and_parts (not (eqb p 0)) (can_install d g x t) can).1).0 in
      record {
        headers = λ q s other is. (is, refl);
        pointers = λ q y other live is.
            pointer-other d x t (From x) (Some t) (pointer_of d x).page y (λ e. open_not x shows_open q other (ap (λ (z : At). (pointer_of d z).holder) e ∙ is));
      }
  act_leaves_held (Swing x n) can = swung_held x n can (pointer_of d x).slot (swings_from x n can) (keeps x n can)
  act_leaves_held (Renew x n) can =
      pointer_held x (record (pointer_of d x) { page = n })
      (open_not x (and_parts (is_open d x) (not (is_none (pointer_of d x).slot) && is_page_over d n (pointer_of d x).span) can).0)
  act_leaves_held (Shut x) can = pointer_held x (record (pointer_of d x) { holder = Held p }) (open_not x can)
  act_leaves_held (Reopen x) can =
      pointer_held x (record (pointer_of d x) { holder = Free }) (λ q other is. other (holder_one p q (pointer_of d x).holder can is))
  act_leaves_held (FillHeader t) can =
      let own = (and_parts (is_owned (slot_of d t).state) (has_slot g.made t) can).0 in
      set_held t Free (λ q other is. not_held t (not_led homes d grips sound t own) q t is refl)
  act_leaves_held (LockHeader t) can =
      let free = (and_parts (is_free (header_of d t)) (eqb p 0 || not (is_split (page_of d t)))
      (and_parts (is_led (slot_of d t).led) (is_free (header_of d t) && (eqb p 0 || not (is_split (page_of d t)))) can).1).0 in
      set_held t (Held p) (λ q other is. free_held q (sym (free_is (header_of d t) free) ∙ is))
  act_leaves_held (OpenHeader t None) can = set_held t Free (λ q other is. other (holder_one p q (header_of d t) can is))
  act_leaves_held (OpenHeader t (Some k)) can =
      let grow = grows homes d grips sound t k (adds_key p d t k can) in
      let own : (q s : ℕ) → (q ≡ p → ⊥) → header_of d s ≡ Held q → t ≡ s → ⊥ =
      λ q s other is e. other (holder_one p q (header_of d t) (opens_held p d t k can) (ap (header_of d) e ∙ is)) in
      record {
        headers = λ q s other is. (header-other d.headers t Free s (own q s other is) ∙ is, grown-other d t k s (own q s other is));
        pointers = λ q x other live is. refl;
      }
  act_leaves_held (Twin w) can =
      let two = splits homes d grips sound p g w can in
      let own : (q s : ℕ) → (q ≡ p → ⊥) → header_of d s ≡ Held q → w.slot ≡ s → ⊥ =
      λ q s other is e. other (holder_one p q (header_of d w.slot) (splits_held p d g w can) (ap (header_of d) e ∙ is)) in
      record {
        headers = λ q s other is. (
          header-other d.headers w.slot Free s (own q s other is) ∙ is,
          page-other_twin homes d grips two.0 (slot_span d w.slot) w (leaf_keys (page_of d w.slot)) two.2 sound s (own q s other is),
        );
        pointers = λ q x other live is. old_same homes d grips two.0 (slot_span d w.slot) w (leaf_keys (page_of d w.slot)) two.2 sound x live;
      }
  act_leaves_held (SwingChain x n c) can = chain_held x n c can
