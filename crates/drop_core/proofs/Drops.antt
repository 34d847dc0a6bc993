-- Swing: all that hangs on a pointer is gone, and the keys below it are in a snapshot page, or nowhere.
use Rattle.std.proofs.Common.{◌≡◌, ℕ, ◌≤◌, true, false, not, true≢false, ◌&&◌, ◌⊎◌, inl, inr, List, refl, sym, ap, ◌∙◌, subst, Option, Some, None}
use Rattle.std.proofs.lemmas.Bool.{cases_Bool, and_parts, and_from, false_from_ne_true, cond-true, cond-false}
use Rattle.serial_model.specs.declared.key.Key.{Key}
use Rattle.homes.specs.declared.places.Holder.TheVariants.{Dead}
use Rattle.homes.specs.declared.places.Spot.{Spot}
use Rattle.homes.specs.declared.places.At.{At}
use Rattle.homes.specs.declared.places.At.TheVariants.{Root, In}
use Rattle.homes.specs.declared.places.Span.{Span}
use Rattle.homes.specs.declared.places.Home.{Home}
use Rattle.homes.specs.Homes.{same_at, has_key, in_span, moved, moves_to}
use Rattle.homes.specs.Laws.{same_at-self, same_at-true, at_or_other, moved-there, moved-other}
use Rattle.drop_core.specs.declared.table.Led.{Led}
use Rattle.drop_core.specs.declared.table.Led.TheVariants.{Never, From, Away}
use Rattle.drop_core.specs.declared.table.SlotState.{SlotState}
use Rattle.drop_core.specs.declared.table.Slot.{Slot}
use Rattle.drop_core.specs.declared.table.Page.{Page}
use Rattle.drop_core.specs.declared.table.Page.TheVariants.{Blank, Leaf, Inner, Split}
use Rattle.drop_core.specs.declared.table.Pointer.{Pointer}
use Rattle.drop_core.specs.declared.table.Table.{Table}
use Rattle.drop_core.specs.declared.grip.Grip.{Grip}
use Rattle.drop_core.specs.Table.{slot_of, page_of, pointer_of, has_slot, at_index, snap_home, is_led, has_pointer, is_live, is_inner, is_last_to, is_last}
use Rattle.drop_core.specs.Event.{is_given, is_in, bury, buried, dropped}
use Rattle.drop_core.specs.Sound.{span_at, TiesPage, TiesTo, Ties, Apart, HomesAreOwn, DeadStaysDead, IsLedSo, LeadsBack, SnapshotsFixed, IsSoundTable}
use Rattle.drop_core.specs.HomeLaws.{snap-fixed}
use Rattle.drop_core.proofs.Conditions.{CanDrop}
use Rattle.drop_core.proofs.PageLaws.{page_ties-same}
use Rattle.drop_core.proofs.Buried.{away-other, away-same, buried-look, bury-part, bury-dead, bury-stays}

none_some : (t : ℕ) → None ≡ Some t → ⊥
none_some t e = cc

from_from : (y z : At) → From y ≡ From z → y ≡ z
from_from y z e = cc

-- ---- what the slots and pointers are then

module _ (d : Table) (x : At) (n : ℕ) (gone : List ℕ) where
  abbrev now : Table
  now = dropped d x n gone

  pub slot-gone : (t : ℕ) → has_slot gone t ≡ true → slot_of now t ≡ record (slot_of d t) { led = Away }
  slot-gone t e = away-same gone d.slots t e

  pub slot-kept : (t : ℕ) → has_slot gone t ≡ false → slot_of now t ≡ slot_of d t
  slot-kept t e = away-other gone d.slots t e

  pub passes-same : (t : ℕ) → (slot_of now t).passes ≡ (slot_of d t).passes
  passes-same t = elim (cases_Bool (has_slot gone t)) [ inl e ↦ ap (λ (q : Slot). q.passes) (slot-gone t e) | inr e ↦ ap (λ (q : Slot). q.passes) (slot-kept t e) ]

  abbrev new_link : Pointer
  new_link = record (pointer_of d x) { slot = None; page = n }

  pub link-same : pointer_of now x ≡ new_link
  link-same = cond-true (same_at x x) new_link (pointer_of (buried d gone) x) (same_at-self x)

  pub link-other : (y : At) → (x ≡ y → ⊥) → pointer_of now y ≡ bury gone y (pointer_of d y)
  link-other y other =
      cond-false (same_at x y) new_link (pointer_of (buried d gone) y) (false_from_ne_true (same_at x y) (λ e. other (same_at-true x y e)))
      ∙ buried-look gone d.pointers y

  pub drop_span : (y : At) → (pointer_of now y).span ≡ (pointer_of d y).span
  drop_span y =
      elim (at_or_other x y) [
        | inl e ↦ subst (λ (z : At). (pointer_of now z).span ≡ (pointer_of d z).span) e.0 (ap (λ (q : Pointer). q.span) link-same)
        | inr o ↦ ap (λ (q : Pointer). q.span) (link-other y o.0) ∙ bury-part (λ (q : Pointer). q.span) (λ q. refl) gone y (pointer_of d y)
      ]

  slot-other : (y : At) → (x ≡ y → ⊥) → (pointer_of now y).slot ≡ (pointer_of d y).slot
  slot-other y other = ap (λ (q : Pointer). q.slot) (link-other y other) ∙ bury-part (λ (q : Pointer). q.slot) (λ q. refl) gone y (pointer_of d y)

  page-other : (y : At) → (x ≡ y → ⊥) → (pointer_of now y).page ≡ (pointer_of d y).page
  page-other y other = ap (λ (q : Pointer). q.page) (link-other y other) ∙ bury-part (λ (q : Pointer). q.page) (λ q. refl) gone y (pointer_of d y)

  pub dead-same : (y : At) → (pointer_of d y).holder ≡ Dead → (pointer_of now y).holder ≡ Dead
  dead-same y dead =
      elim (at_or_other x y) [
        | inl e ↦ subst (λ (z : At). (pointer_of now z).holder ≡ Dead) e.0 (ap (λ (q : Pointer). q.holder) link-same ∙ ap (λ (z : At). (pointer_of d z).holder) e.0 ∙ dead)
        | inr o ↦ ap (λ (q : Pointer). q.holder) (link-other y o.0) ∙ bury-stays gone y (pointer_of d y) dead
      ]

  -- live is what was live outside of them
  live-gone : (z : Spot) → has_slot gone z.slot ≡ true → is_live now (In z) ≡ false
  live-gone z e = ap (λ (q : Slot). is_led q.led && has_pointer (page_of d z.slot) z.index) (slot-gone z.slot e)

  pub live_cases : (y : At) → is_live now y ≡ true → (is_live d y ≡ true) × (is_in gone y ≡ false)
  live_cases (Root r) live = (refl, refl)
  live_cases (In z) live =
      elim (cases_Bool (has_slot gone z.slot)) [
        | inl e ↦ absurd (true≢false (sym live ∙ live-gone z e))
        | inr e ↦ (sym (ap (λ (q : Slot). is_led q.led && has_pointer (page_of d z.slot) z.index) (slot-kept z.slot e)) ∙ live, e)
      ]

  pub live_still : (y : At) → is_live d y ≡ true → is_in gone y ≡ false → is_live now y ≡ true
  live_still (Root r) live e = refl
  live_still (In z) live e = ap (λ (q : Slot). is_led q.led && has_pointer (page_of d z.slot) z.index) (slot-kept z.slot e) ∙ live

-- ---- the sound state

module _ (homes : Key → Home) (d : Table) (grips : List Grip) (x : At) (n : ℕ) (gone : List ℕ) (keys : List Key)
    (can : CanDrop homes d x n gone keys) (sound : IsSoundTable homes d grips) where
  abbrev d' : Table
  d' = dropped d x n gone

  abbrev to : Key → Home
  to = snap_home d n

  abbrev homes' : Key → Home
  homes' = moved (moves_to to keys) homes

  not_both : (y : At) → is_in gone y ≡ false → (x ≡ y → ⊥) → (x ≡ y) ⊎ (is_in gone y ≡ true) → ⊥
  not_both y out other (inl e) = other e
  not_both y out other (inr e) = true≢false (sym e ∙ out)

  -- ---- one home each

  -- a key below another end didn't move
  kept_below : (y : At) → (x ≡ y → ⊥) → is_in gone y ≡ false → is_last d y ≡ true → (k : Key) → in_span (pointer_of d y).span k ≡ true → homes' k ≡ homes k
  kept_below y other out last k inside =
      moved-other to keys homes k (false_from_ne_true (has_key keys k) (λ hit.
      let z = can.ends k (can.within k hit) in
      let is = sound.one_home_each.apart z.0 y z.1 last k z.2 inside in
      not_both y out other (subst (λ (w : At). (x ≡ w) ⊎ (is_in gone w ≡ true)) is z.3)))

  ties_page : (span : Span) (t : ℕ) (pg : Page) → (is_inner pg ≡ false → (k : Key) → in_span span k ≡ true → homes' k ≡ homes k) → TiesPage homes d span t pg → TiesPage homes' d' span t pg
  ties_page span t Blank kept ties = ties
  ties_page span t (Leaf ks) kept ties = (λ k inside. kept refl k inside ∙ ties.0 k inside, ties.1, ties.2)
  ties_page span t (Inner l) kept ties = page_ties-same homes' (span_at d) (span_at d') span t (Inner l) (λ j. drop_span d x n gone (at_index t j)) ties
  ties_page span t Split kept ties = page_ties-same homes' (span_at d) (span_at d') span t Split (λ j. drop_span d x n gone (at_index t j)) ties

  ties_to : (span : Span) (l : ℕ) (o : Option ℕ) → (is_last_to d o ≡ true → (k : Key) → in_span span k ≡ true → homes' k ≡ homes k) → TiesTo homes d span l o → TiesTo homes' d' span l o
  ties_to span l None kept ties = λ k inside. kept refl k inside ∙ ties k inside
  ties_to span l (Some t) kept ties = ties_page span t (page_of d t) (λ e. kept (ap not e)) ties

  by_parts : (y : At) (w : Span) (l : ℕ) (o : Option ℕ) → (pointer_of d' y).span ≡ w → (pointer_of d' y).page ≡ l → (pointer_of d' y).slot ≡ o → TiesTo homes' d' w l o
      → TiesTo homes' d' (pointer_of d' y).span (pointer_of d' y).page (pointer_of d' y).slot
  by_parts y w l o a b c ties =
      subst (λ (u : Span). TiesTo homes' d' u (pointer_of d' y).page (pointer_of d' y).slot) (sym a)
      (subst (λ (u : ℕ). TiesTo homes' d' w u (pointer_of d' y).slot) (sym b) (subst (λ (u : Option ℕ). TiesTo homes' d' w l u) (sym c) ties))

  x_ties : TiesTo homes' d' (pointer_of d x).span n None
  x_ties = λ k inside. elim (cases_Bool (has_key keys k)) [
    | inl hit ↦ moved-there to keys homes k hit
    | inr miss ↦ moved-other to keys homes k miss ∙ can.rest k inside miss
  ]

  ties_now : Ties homes' d'
  ties_now = λ y live. let was = live_cases d x n gone y live in
      elim (at_or_other x y) [
        | inl e ↦ subst (λ (z : At). TiesTo homes' d' (pointer_of d' z).span (pointer_of d' z).page (pointer_of d' z).slot) e.0
            (by_parts x (pointer_of d x).span n None (drop_span d x n gone x) (ap (λ (q : Pointer). q.page) (link-same d x n gone)) (ap (λ (q : Pointer). q.slot) (link-same d x n gone)) x_ties)
        | inr o ↦ by_parts y (pointer_of d y).span (pointer_of d y).page (pointer_of d y).slot (drop_span d x n gone y) (page-other d x n gone y o.0) (slot-other d x n gone y o.0)
            (ties_to (pointer_of d y).span (pointer_of d y).page (pointer_of d y).slot
            (λ to_end k inside. kept_below y o.0 was.1 (and_from (is_live d y) (is_last_to d (pointer_of d y).slot) was.0 to_end) k inside) (sound.one_home_each.ties y was.0))
      ]

  span_was : (y : At) (k : Key) → in_span (pointer_of d' y).span k ≡ true → in_span (pointer_of d y).span k ≡ true
  span_was y k inside = sym (ap (λ (w : Span). in_span w k) (drop_span d x n gone y)) ∙ inside

  last_was : (y : At) → (x ≡ y → ⊥) → is_last d' y ≡ true → (is_last d y ≡ true) × (is_in gone y ≡ false)
  last_was y other last =
      let parts = and_parts (is_live d' y) (is_last_to d (pointer_of d' y).slot) last in
      let was = live_cases d x n gone y parts.0 in
      (and_from (is_live d y) (is_last_to d (pointer_of d y).slot) was.0 (sym (ap (is_last_to d) (slot-other d x n gone y other)) ∙ parts.1), was.1)

  -- no other end has a key below x
  apart_x : (y : At) → (x ≡ y → ⊥) → is_last d' y ≡ true → (k : Key) → in_span (pointer_of d x).span k ≡ true → in_span (pointer_of d y).span k ≡ true → ⊥
  apart_x y other last k inx iny =
      let was = last_was y other last in
      let z = can.ends k inx in
      not_both y was.1 other (subst (λ (w : At). (x ≡ w) ⊎ (is_in gone w ≡ true)) (sound.one_home_each.apart z.0 y z.1 was.0 k z.2 iny) z.3)

  apart_now : Apart d'
  apart_now = λ y z ly lz k iny inz.
      elim (at_or_other x y) [
        | inl e ↦ elim (at_or_other x z) [
          | inl f ↦ sym e.0 ∙ f.0
          | inr o ↦ absurd (apart_x z o.0 lz k (subst (λ (w : At). in_span (pointer_of d w).span k ≡ true) (sym e.0) (span_was y k iny)) (span_was z k inz))
        ]
        | inr o ↦ elim (at_or_other x z) [
          | inl f ↦ absurd (apart_x y o.0 ly k (subst (λ (w : At). in_span (pointer_of d w).span k ≡ true) (sym f.0) (span_was z k inz)) (span_was y k iny))
          | inr q ↦ sound.one_home_each.apart y z (last_was y o.0 ly).0 (last_was z q.0 lz).0 k (span_was y k iny) (span_was z k inz)
        ]
      ]

  own_now : HomesAreOwn homes' d'
  own_now = λ k y e.
      elim (cases_Bool (has_key keys k)) [
        | inl hit ↦ absurd (snap-fixed d n k y (sym (moved-there to keys homes k hit) ∙ e))
        | inr miss ↦
            let at = sym (moved-other to keys homes k miss) ∙ e in
            let was = sound.one_home_each.own k y at in
            let out : has_slot gone y.slot ≡ false = false_from_ne_true (has_slot gone y.slot) (λ g. true≢false (sym (can.all k y at g) ∙ miss)) in
            record { keys = was.keys; page = was.page; at = was.at; led = ap (λ (q : Slot). is_led q.led) (slot-kept d x n gone y.slot out) ∙ was.led }
      ]

  gone_page : (t j : ℕ) → has_slot gone t ≡ true → (pointer_of d' (at_index t j)).holder ≡ Dead
  gone_page t j g =
      elim (at_or_other x (at_index t j)) [
        | inl is ↦ absurd (true≢false (sym g ∙ ap (is_in gone) (sym is.0) ∙ can.outside))
        | inr o ↦ ap (λ (q : Pointer). q.holder) (link-other d x n gone (at_index t j) o.0) ∙ bury-dead gone (at_index t j) (pointer_of d (at_index t j)) g
      ]

  dead_now : DeadStaysDead d'
  dead_now = λ t away j there.
      elim (cases_Bool (has_slot gone t)) [
        | inl g ↦ gone_page t j g
        | inr out ↦ dead-same d x n gone (at_index t j)
            (sound.one_home_each.dead t (sym (ap (λ (q : Slot). q.led) (slot-kept d x n gone t out)) ∙ away) j there)
      ]

  -- ---- holds

  led_kept : (t : ℕ) (state : SlotState) (led : Led) → has_slot gone t ≡ false → IsLedSo d t state led → IsLedSo d' t state led
  led_kept t state Never out so = so
  led_kept t state (From y) out so = (
    so.0,
    live_still d x n gone y so.1 (false_from_ne_true (is_in gone y) (λ g. true≢false (sym (can.inside y t g so.1 so.2) ∙ out))),
    elim (at_or_other x y) [
      | inl e ↦ absurd (true≢false (sym (can.leads t (ap (λ (z : At). (pointer_of d z).slot) e.0 ∙ so.2)) ∙ out))
      | inr o ↦ slot-other d x n gone y o.0 ∙ so.2
    ],
  )
  led_kept t state Away out so = so

  led_now : (t : ℕ) → IsLedSo d' t (slot_of d' t).state (slot_of d' t).led
  led_now t =
      elim (cases_Bool (has_slot gone t)) [
        | inl g ↦
            let led = can.led t g in
            let so = subst (λ (l : Led). IsLedSo d t (slot_of d t).state l) led.1 (sound.holds_counted.led t) in
            subst (λ (q : Slot). IsLedSo d' t q.state q.led) (sym (slot-gone d x n gone t g)) (ap is_given so.0)
        | inr out ↦ subst (λ (q : Slot). IsLedSo d' t q.state q.led) (sym (slot-kept d x n gone t out)) (led_kept t (slot_of d t).state (slot_of d t).led out (sound.holds_counted.led t))
      ]

  back_now : LeadsBack d'
  back_now = λ y t live leads. let was = live_cases d x n gone y live in
      elim (at_or_other x y) [
        | inl e ↦ absurd (none_some t (sym (ap (λ (q : Pointer). q.slot) (link-same d x n gone)) ∙ ap (λ (z : At). (pointer_of d' z).slot) e.0 ∙ leads))
        | inr o ↦
            let back = sound.holds_counted.back y t was.0 (sym (slot-other d x n gone y o.0) ∙ leads) in
            let out : has_slot gone t ≡ false = false_from_ne_true (has_slot gone t) (λ g.
            let led = can.led t g in not_both y was.1 o.0 (subst (λ (w : At). (x ≡ w) ⊎ (is_in gone w ≡ true)) (from_from led.0 y (sym led.1 ∙ back)) led.2)) in
            ap (λ (q : Slot). q.led) (slot-kept d x n gone t out) ∙ back
      ]

  -- ---- snapshots, and all

  pages_now : SnapshotsFixed d'
  pages_now = record {
    pointers = λ y live. elim (at_or_other x y) [
      | inl e ↦ subst (λ (z : At). (pointer_of d' z).page ≤ d.published) e.0 (subst (λ (u : ℕ). u ≤ d.published) (sym (ap (λ (q : Pointer). q.page) (link-same d x n gone))) can.published)
      | inr o ↦ subst (λ (u : ℕ). u ≤ d.published) (sym (page-other d x n gone y o.0)) (sound.snapshots_fixed.pointers y (live_cases d x n gone y live).0)
    ];
    closed = sound.snapshots_fixed.closed;
  }

  pub drop_sound : IsSoundTable homes' d' grips
  drop_sound = record {
    one_home_each = record { ties = ties_now; apart = apart_now; own = own_now; dead = dead_now };
    holds_counted = record { counted = λ t. passes-same d x n gone t ∙ sound.holds_counted.counted t; led = led_now; back = back_now };
    snapshots_fixed = pages_now;
  }
