-- Install of an interior page: no key moves, and the ways that ended at one pointer end at those of the page.
use Rattle.std.proofs.Common.{◌≡◌, ℕ, ◌≤◌, Bool, true, false, not, true≢false, ◌&&◌, ◌⊎◌, inl, inr, List, refl, sym, ap, ◌∙◌, subst, Option, Some, None}
use Rattle.std.proofs.lemmas.Bool.{and_parts, and_from}
use Rattle.serial_model.specs.declared.key.Key.{Key}
use Rattle.homes.specs.declared.places.Spot.{Spot}
use Rattle.homes.specs.declared.places.At.{At}
use Rattle.homes.specs.declared.places.At.TheVariants.{Root, In}
use Rattle.homes.specs.declared.places.Span.{Span}
use Rattle.homes.specs.declared.places.Home.{Home}
use Rattle.homes.specs.Homes.{in_span}
use Rattle.homes.specs.Laws.{at_or_other, number_or_other}
use Rattle.drop_core.specs.declared.table.Led.{Led}
use Rattle.drop_core.specs.declared.table.Led.TheVariants.{Never, From, Away}
use Rattle.drop_core.specs.declared.table.SlotState.{SlotState}
use Rattle.drop_core.specs.declared.table.Slot.{Slot}
use Rattle.drop_core.specs.declared.table.Page.{Page}
use Rattle.drop_core.specs.declared.table.Page.TheVariants.{Inner}
use Rattle.drop_core.specs.declared.table.Pointer.{Pointer}
use Rattle.drop_core.specs.declared.table.Table.{Table}
use Rattle.drop_core.specs.declared.grip.Grip.{Grip}
use Rattle.drop_core.specs.Table.{slot_of, page_of, pointer_of, at_index, snap_home, is_led, has_pointer, is_live, is_inner, is_last_to, is_last}
use Rattle.drop_core.specs.Event.{child, installed}
use Rattle.drop_core.specs.Sound.{span_at, TiesPage, TiesTo, Ties, Apart, IsLedSo, IsSoundTable}
use Rattle.drop_core.proofs.Conditions.{CanInstallInner}
use Rattle.drop_core.proofs.Repoints.{slot-same, slot-other, passes-same, pointer-same, pointer-other, span-same, holder-same}
use Rattle.drop_core.proofs.PageLaws.{page_ties-same}

none_some : (t : ℕ) → None ≡ Some t → ⊥
none_some t e = cc

some_some : (s t : ℕ) → Some s ≡ Some t → s ≡ t
some_some s t e = cc

module _ (homes : Key → Home) (d : Table) (grips : List Grip) (x : At) (s count : ℕ) (can : CanInstallInner d x s count) (sound : IsSoundTable homes d grips) where
  abbrev d' : Table
  d' = installed d x s

  abbrev page : ℕ
  page = (pointer_of d x).page

  now-other : (t : ℕ) → (s ≡ t → ⊥) → slot_of d' t ≡ slot_of d t
  now-other = slot-other d x s (From x) (Some s) page

  now-same : slot_of d' s ≡ record (slot_of d s) { led = From x }
  now-same = slot-same d x s (From x) (Some s) page

  not_led : is_led (slot_of d s).led ≡ false
  not_led = ap is_led can.led

  -- nothing led to the slot, so none of its pointers was live, and x isn't one
  not_live : (z : Spot) → is_live d (In z) ≡ true → s ≡ z.slot → ⊥
  not_live z live e = true≢false (sym (and_parts (is_led (slot_of d z.slot).led) (has_pointer (page_of d z.slot) z.index) live).0 ∙ ap (λ (u : ℕ). is_led (slot_of d u).led) (sym e) ∙ not_led)

  not_to : (y : At) (t : ℕ) → is_live d y ≡ true → (pointer_of d y).slot ≡ Some t → s ≡ t → ⊥
  not_to y t live leads e = true≢false (sym (ap is_led (sound.holds_counted.back y t live leads)) ∙ ap (λ (u : ℕ). is_led (slot_of d u).led) (sym e) ∙ not_led)

  child_other : (j : ℕ) → x ≡ at_index s j → ⊥
  child_other j e = not_live (record { slot = s; index = j }) (subst (λ (y : At). is_live d y ≡ true) e can.live) refl

  child-now : (j : ℕ) → pointer_of d' (at_index s j) ≡ child d s j
  child-now j = pointer-other d x s (From x) (Some s) page (at_index s j) (child_other j)

  -- what was live is, and what is new
  stays_live : (y : At) → is_live d y ≡ true → is_live d' y ≡ true
  stays_live (Root r) live = refl
  stays_live (In z) live = ap (λ (q : Slot). is_led q.led && has_pointer (page_of d z.slot) z.index) (now-other z.slot (not_live z live)) ∙ live

  abbrev IsNew : At → Type 0
  IsNew y = (j : ℕ) × (y ≡ at_index s j) × (has_pointer (Inner count) j ≡ true)

  live_cases : (y : At) → is_live d' y ≡ true → (is_live d y ≡ true) ⊎ IsNew y
  live_cases (Root r) live = inl refl
  live_cases (In z) live =
      elim (number_or_other s z.slot) [
        | inl e ↦ inr (
          z.index,
          ap (λ (u : ℕ). let w : Spot = record { slot = u; index = z.index } in In w) (sym e.0),
          ap (λ (q : Page). has_pointer q z.index) (sym can.page) ∙ ap (λ (u : ℕ). has_pointer (page_of d u) z.index) e.0
              ∙ (and_parts (is_led (slot_of d' z.slot).led) (has_pointer (page_of d z.slot) z.index) live).1,
        )
        | inr o ↦ inl (sym (ap (λ (q : Slot). is_led q.led && has_pointer (page_of d z.slot) z.index) (now-other z.slot o.0)) ∙ live)
      ]

  -- ---- one home each

  x_home : (k : Key) → in_span (pointer_of d x).span k ≡ true → homes k ≡ snap_home d page k
  x_home = subst (λ (o : Option ℕ). TiesTo homes d (pointer_of d x).span page o) can.none (sound.one_home_each.ties x can.live)

  x_last : is_last d x ≡ true
  x_last = and_from (is_live d x) (is_last_to d (pointer_of d x).slot) can.live (ap (is_last_to d) can.none)

  ties_page : (span : Span) (t : ℕ) (pg : Page) → TiesPage homes d span t pg → TiesPage homes d' span t pg
  ties_page span t pg ties = page_ties-same homes (span_at d) (span_at d') span t pg (λ j. span-same d x s (From x) (Some s) page (at_index t j)) ties

  ties_to : (span : Span) (n : ℕ) (o : Option ℕ) → TiesTo homes d span n o → TiesTo homes d' span n o
  ties_to span n None ties = ties
  ties_to span n (Some t) ties = ties_page span t (page_of d t) ties

  new_page : TiesPage homes d' (pointer_of d x).span s (Inner count)
  new_page = (
    λ k inside. let r = can.cover k inside in (r.0, r.1, ap (λ (q : Pointer). in_span q.span k) (child-now r.0) ∙ r.2),
    λ j k there inside. can.within j k there (sym (ap (λ (q : Pointer). in_span q.span k) (child-now j)) ∙ inside),
  )

  ties_now : Ties homes d'
  ties_now = λ y live.
      elim (at_or_other x y) [
        | inl e ↦ subst (λ (z : At). TiesTo homes d' (pointer_of d' z).span (pointer_of d' z).page (pointer_of d' z).slot) e.0
            (subst (λ (q : Pointer). TiesTo homes d' q.span q.page q.slot) (sym (pointer-same d x s (From x) (Some s) page))
            (subst (λ (q : Page). TiesPage homes d' (pointer_of d x).span s q) (sym can.page) new_page))
        | inr o ↦ elim (live_cases y live) [
          | inl old ↦ subst (λ (q : Pointer). TiesTo homes d' q.span q.page q.slot) (sym (pointer-other d x s (From x) (Some s) page y o.0))
              (ties_to (pointer_of d y).span (pointer_of d y).page (pointer_of d y).slot (sound.one_home_each.ties y old))
          | inr new ↦ subst (λ (z : At). TiesTo homes d' (pointer_of d' z).span (pointer_of d' z).page (pointer_of d' z).slot) (sym new.1)
              (subst (λ (q : Pointer). TiesTo homes d' q.span q.page q.slot) (sym (child-now new.0))
              (subst (λ (l : Option ℕ). TiesTo homes d' (child d s new.0).span (child d s new.0).page l) (sym (can.fits.none new.0 new.2))
              (λ k inside. x_home k (can.within new.0 k new.2 inside) ∙ sym (can.fits.same new.0 k new.2 inside))))
        ]
      ]

  -- x isn't an end any more; an end is an old one or one of the page
  x_not_last : is_last d' x ≡ false
  x_not_last =
      ap (λ (q : Pointer). is_live d' x && is_last_to d q.slot) (pointer-same d x s (From x) (Some s) page) ∙ ap (λ (q : Page). is_live d' x && not (is_inner q)) can.page ∙ and_false (is_live d' x)
    where
      and_false : (b : Bool) → (b && false) ≡ false
      and_false true = refl
      and_false false = refl

  not_x : (y : At) → is_last d' y ≡ true → x ≡ y → ⊥
  not_x y last e = true≢false (sym (subst (λ (z : At). is_last d' z ≡ true) (sym e) last) ∙ x_not_last)

  last_cases : (y : At) → is_last d' y ≡ true → (is_last d y ≡ true) ⊎ IsNew y
  last_cases y last =
      let parts = and_parts (is_live d' y) (is_last_to d' (pointer_of d' y).slot) last in
      elim (live_cases y parts.0) [
        | inl old ↦ inl (and_from (is_live d y) (is_last_to d (pointer_of d y).slot) old
            (sym (ap (λ (q : Pointer). is_last_to d q.slot) (pointer-other d x s (From x) (Some s) page y (not_x y last))) ∙ parts.1))
        | inr new ↦ inr new
      ]

  span_was : (y : At) (k : Key) → in_span (pointer_of d' y).span k ≡ true → in_span (pointer_of d y).span k ≡ true
  span_was y k inside = sym (ap (λ (w : Span). in_span w k) (span-same d x s (From x) (Some s) page y)) ∙ inside

  -- a key below a new end is below x
  new_below : (y : At) (k : Key) → (new : IsNew y) → in_span (pointer_of d' y).span k ≡ true → (in_span (pointer_of d x).span k ≡ true) × (in_span (child d s new.0).span k ≡ true)
  new_below y k new inside =
      let at = subst (λ (z : At). in_span (pointer_of d z).span k ≡ true) new.1 (span_was y k inside) in (can.within new.0 k new.2 at, at)

  apart_now : Apart d'
  apart_now = λ y z ly lz k iny inz.
      elim (last_cases y ly) [
        | inl oy ↦ elim (last_cases z lz) [
          | inl oz ↦ sound.one_home_each.apart y z oy oz k (span_was y k iny) (span_was z k inz)
          | inr nz ↦ absurd (not_x y ly (sym (sound.one_home_each.apart y x oy x_last k (span_was y k iny) (new_below z k nz inz).0)))
        ]
        | inr ny ↦ elim (last_cases z lz) [
          | inl oz ↦ absurd (not_x z lz (sym (sound.one_home_each.apart z x oz x_last k (span_was z k inz) (new_below y k ny iny).0)))
          | inr nz ↦ ny.1 ∙ ap (λ (j : ℕ). at_index s j) (can.apart ny.0 nz.0 k ny.2 nz.2 (new_below y k ny iny).1 (new_below z k nz inz).1) ∙ sym nz.1
        ]
      ]

  from_away : (y : At) → From y ≡ Away → ⊥
  from_away y e = cc

  -- ---- holds, snapshots, and all

  led_other : (t : ℕ) (state : SlotState) (led : Led) → IsLedSo d t state led → IsLedSo d' t state led
  led_other t state Never so = so
  led_other t state (From y) so = (
    so.0,
    stays_live y so.1,
    elim (at_or_other x y) [
      | inl e ↦ absurd (none_some t (sym can.none ∙ ap (λ (z : At). (pointer_of d z).slot) e.0 ∙ so.2))
      | inr o ↦ ap (λ (q : Pointer). q.slot) (pointer-other d x s (From x) (Some s) page y o.0) ∙ so.2
    ],
  )
  led_other t state Away so = so

  pub install_inner_sound : IsSoundTable homes d' grips
  install_inner_sound = record {
    one_home_each = record {
      ties = ties_now;
      apart = apart_now;
      own = λ k y e. let was = sound.one_home_each.own k y e in record {
        keys = was.keys;
        page = was.page;
        at = was.at;
        led = elim (number_or_other s y.slot) [
          | inl is ↦ absurd (true≢false (sym was.led ∙ ap (λ (u : ℕ). is_led (slot_of d u).led) (sym is.0) ∙ not_led))
          | inr o ↦ ap (λ (q : Slot). is_led q.led) (now-other y.slot o.0) ∙ was.led
        ];
      };
      dead = λ t away. elim (number_or_other s t) [
        | inl e ↦ absurd (from_away x (sym (ap (λ (q : Slot). q.led) now-same) ∙ subst (λ (u : ℕ). (slot_of d' u).led ≡ Away) (sym e.0) away))
        | inr o ↦ λ j there. holder-same d x s (From x) (Some s) page (at_index t j) ∙ sound.one_home_each.dead t (sym (ap (λ (q : Slot). q.led) (now-other t o.0)) ∙ away) j there
      ];
    };
    holds_counted = record {
      counted = λ t. passes-same d x s (From x) (Some s) page t ∙ sound.holds_counted.counted t;
      led = λ t. elim (number_or_other s t) [
        | inl e ↦ subst (λ (u : ℕ). IsLedSo d' u (slot_of d' u).state (slot_of d' u).led) e.0
            (subst (λ (q : Slot). IsLedSo d' s q.state q.led) (sym now-same) (can.state, stays_live x can.live, ap (λ (q : Pointer). q.slot) (pointer-same d x s (From x) (Some s) page)))
        | inr o ↦ subst (λ (q : Slot). IsLedSo d' t q.state q.led) (sym (now-other t o.0)) (led_other t (slot_of d t).state (slot_of d t).led (sound.holds_counted.led t))
      ];
      back = λ y t live leads. elim (at_or_other x y) [
        | inl e ↦
            let is : s ≡ t = some_some s t (sym (ap (λ (q : Pointer). q.slot) (pointer-same d x s (From x) (Some s) page)) ∙ ap (λ (z : At). (pointer_of d' z).slot) e.0 ∙ leads) in
            subst (λ (u : ℕ). (slot_of d' u).led ≡ From y) is (ap (λ (q : Slot). q.led) now-same ∙ ap (λ (z : At). From z) e.0)
        | inr o ↦ let leads' = sym (ap (λ (q : Pointer). q.slot) (pointer-other d x s (From x) (Some s) page y o.0)) ∙ leads in elim (live_cases y live) [
          | inl old ↦ ap (λ (q : Slot). q.led) (now-other t (not_to y t old leads')) ∙ sound.holds_counted.back y t old leads'
          | inr new ↦ absurd (none_some t (sym (can.fits.none new.0 new.2) ∙ ap (λ (z : At). (pointer_of d z).slot) (sym new.1) ∙ leads'))
        ]
      ];
    };
    snapshots_fixed = record {
      pointers = λ y live. elim (at_or_other x y) [
        | inl e ↦ subst (λ (z : At). (pointer_of d' z).page ≤ d.published) e.0
            (subst (λ (q : Pointer). q.page ≤ d.published) (sym (pointer-same d x s (From x) (Some s) page)) (sound.snapshots_fixed.pointers x can.live))
        | inr o ↦ subst (λ (q : Pointer). q.page ≤ d.published) (sym (pointer-other d x s (From x) (Some s) page y o.0)) (elim (live_cases y live) [
          | inl old ↦ sound.snapshots_fixed.pointers y old
          | inr new ↦ subst (λ (z : At). (pointer_of d z).page ≤ d.published) (sym new.1) (can.published new.0 new.2)
        ])
      ];
      closed = sound.snapshots_fixed.closed;
    };
  }
