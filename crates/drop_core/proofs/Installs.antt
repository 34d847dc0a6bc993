-- Install of a leaf: its keys move from a snapshot page, or from nowhere, to the places of a slot.
use Rattle.std.proofs.Common.{◌≡◌, ℕ, ◌≤◌, true, not, true≢false, inl, inr, List, sym, ap, ◌∙◌, subst, Option, Some, None}
use Rattle.std.proofs.lemmas.Bool.{cases_Bool, and_from}
use Rattle.serial_model.specs.declared.key.Key.{Key}
use Rattle.homes.specs.declared.places.At.{At}
use Rattle.homes.specs.declared.places.Home.{Home}
use Rattle.homes.specs.declared.places.Home.TheVariants.{InSlot}
use Rattle.homes.specs.Homes.{has_key, in_span, moved, moves_to}
use Rattle.homes.specs.Laws.{at_or_other, number_or_other, moved-there, moved-other}
use Rattle.drop_core.specs.declared.table.Led.{Led}
use Rattle.drop_core.specs.declared.table.Led.TheVariants.{Never, From, Away}
use Rattle.drop_core.specs.declared.table.SlotState.{SlotState}
use Rattle.drop_core.specs.declared.table.Slot.{Slot}
use Rattle.drop_core.specs.declared.table.Page.{Page}
use Rattle.drop_core.specs.declared.table.Pointer.{Pointer}
use Rattle.drop_core.specs.declared.table.Table.{Table}
use Rattle.drop_core.specs.declared.grip.Grip.{Grip}
use Rattle.drop_core.specs.Table.{slot_of, page_of, pointer_of, at_index, snap_home, leaf_home, is_led, is_live, is_inner, is_last_to, is_last}
use Rattle.drop_core.specs.Event.{installed}
use Rattle.drop_core.specs.Sound.{TiesPage, TiesTo, HomesAreOwn, DeadStaysDead, OneHomeEach, IsLedSo, LeadsBack, SnapshotsFixed, IsSoundTable}
use Rattle.drop_core.specs.HomeLaws.{leaf-none, leaf-in}
use Rattle.drop_core.proofs.Conditions.{CanInstall}
use Rattle.drop_core.proofs.Repoints.{slot-same, slot-other, passes-same, pointer-same, pointer-other, holder-same, live-same, apart_repointed, ties_repointed}

module _ (homes : Key → Home) (d : Table) (grips : List Grip) (x : At) (s : ℕ) (keys : List Key) (can : CanInstall d x s keys) (sound : IsSoundTable homes d grips) where
  abbrev to : Key → Home
  to = leaf_home s 0 keys

  abbrev homes' : Key → Home
  homes' = moved (moves_to to keys) homes

  abbrev d' : Table
  d' = installed d x s

  -- a key that moves was in the snapshot page
  pub was_home : (k : Key) → has_key keys k ≡ true → homes k ≡ snap_home d (pointer_of d x).page k
  was_home k hit =
      subst (λ (o : Option ℕ). TiesTo (homes) d (pointer_of d x).span (pointer_of d x).page o) can.none (sound.one_home_each.ties x can.live) k (can.fits.within k hit)

  -- ---- one home each

  never_from : (y : At) → Never ≡ From y → ⊥
  never_from y e = cc

  last_now : is_last_to d (Some s) ≡ is_last_to d (pointer_of d x).slot
  last_now = ap (λ (q : Page). not (is_inner q)) can.page ∙ sym (ap (is_last_to d) can.none)

  is_end : is_last d x ≡ true
  is_end = and_from (is_live d x) (is_last_to d (pointer_of d x).slot) can.live (ap (is_last_to d) can.none)

  new_ties : TiesTo homes' d' (pointer_of d x).span (pointer_of d x).page (Some s)
  new_ties = subst (λ (q : Page). TiesPage homes' d' (pointer_of d x).span s q) (sym can.page) (
    λ k inside. elim (cases_Bool (has_key keys k)) [
      | inl hit ↦ moved-there to keys homes k hit
      | inr miss ↦ moved-other to keys homes k miss ∙ old k inside ∙ can.fits.none k inside miss ∙ sym (leaf-none s 0 keys k miss)
    ],
    can.fits.within,
    can.fits.once,
  )
    where
      old : (k : Key) → in_span (pointer_of d x).span k ≡ true → homes k ≡ snap_home d (pointer_of d x).page k
      old = subst (λ (o : Option ℕ). TiesTo (homes) d (pointer_of d x).span (pointer_of d x).page o) can.none (sound.one_home_each.ties x can.live)

  own_now : HomesAreOwn homes' d'
  own_now = λ k y e.
      elim (cases_Bool (has_key keys k)) [
        | inl hit ↦
            let at = sym (moved-there to keys homes k hit) ∙ e in
            let is = leaf-in s 0 keys k y at in
            record {
              keys = keys;
              page = ap (page_of d) is.slot ∙ can.page;
              at = subst (λ (u : ℕ). leaf_home u 0 keys k ≡ InSlot y) (sym is.slot) at;
              led = ap (λ (u : ℕ). is_led (slot_of d' u).led) is.slot ∙ ap (λ (q : Slot). is_led q.led) (slot-same d x s (From x) (Some s) (pointer_of d x).page);
            }
        | inr miss ↦
            let was = sound.one_home_each.own k y (sym (moved-other to keys homes k miss) ∙ e) in
            record {
              keys = was.keys;
              page = was.page;
              at = was.at;
              led = elim (number_or_other s y.slot) [
                | inl is ↦ absurd (true≢false (sym was.led ∙ ap (λ (u : ℕ). is_led (slot_of d u).led) (sym is.0) ∙ ap is_led can.led))
                | inr o ↦ ap (λ (q : Slot). is_led q.led) (slot-other d x s (From x) (Some s) (pointer_of d x).page y.slot o.0) ∙ was.led
              ];
            }
      ]

  from_away : (y : At) → From y ≡ Away → ⊥
  from_away y e = cc

  dead_now : DeadStaysDead d'
  dead_now = λ t away.
      elim (number_or_other s t) [
        | inl e ↦ absurd (from_away x (sym (ap (λ (q : Slot). q.led) (slot-same d x s (From x) (Some s) (pointer_of d x).page)) ∙ subst (λ (u : ℕ). (slot_of d' u).led ≡ Away) (sym e.0) away))
        | inr o ↦ λ j there. holder-same d x s (From x) (Some s) (pointer_of d x).page (at_index t j) ∙ sound.one_home_each.dead t (sym (ap (λ (q : Slot). q.led) (slot-other d x s (From x) (Some s) (pointer_of d x).page t o.0)) ∙ away) j there
      ]

  one_home : OneHomeEach homes' d'
  one_home = record {
    ties = ties_repointed d x s (From x) (Some s) (pointer_of d x).page homes homes' keys can.page is_end can.fits.within (moved-other to keys homes) new_ties
        sound.one_home_each.apart sound.one_home_each.ties;
    apart = apart_repointed d x s (From x) (Some s) (pointer_of d x).page keys can.page last_now sound.one_home_each.apart;
    own = own_now;
    dead = dead_now;
  }

  -- ---- holds

  led_other : (t : ℕ) (state : SlotState) (led : Led) → (s ≡ t → ⊥) → IsLedSo d t state led → IsLedSo d' t state led
  led_other t state Never other so = so
  led_other t state (From y) other so = (
    so.0,
    live-same d x s (From x) (Some s) (pointer_of d x).page keys can.page y ∙ so.1,
    elim (at_or_other x y) [
      | inl e ↦ absurd (none_some t (sym can.none ∙ ap (λ (z : At). (pointer_of d z).slot) e.0 ∙ so.2))
      | inr o ↦ ap (λ (q : Pointer). q.slot) (pointer-other d x s (From x) (Some s) (pointer_of d x).page y o.0) ∙ so.2
    ],
  )
    where
      none_some : (t : ℕ) → None ≡ Some t → ⊥
      none_some t e = cc
  led_other t state Away other so = so

  led_now : (t : ℕ) → IsLedSo d' t (slot_of d' t).state (slot_of d' t).led
  led_now t =
      elim (number_or_other s t) [
        | inl e ↦ subst (λ (u : ℕ). IsLedSo d' u (slot_of d' u).state (slot_of d' u).led) e.0
            (subst (λ (q : Slot). IsLedSo d' s q.state q.led) (sym (slot-same d x s (From x) (Some s) (pointer_of d x).page)) (
              can.state,
              live-same d x s (From x) (Some s) (pointer_of d x).page keys can.page x ∙ can.live,
              ap (λ (q : Pointer). q.slot) (pointer-same d x s (From x) (Some s) (pointer_of d x).page),
            ))
        | inr o ↦ subst (λ (q : Slot). IsLedSo d' t q.state q.led) (sym (slot-other d x s (From x) (Some s) (pointer_of d x).page t o.0))
            (led_other t (slot_of d t).state (slot_of d t).led o.0 (sound.holds_counted.led t))
      ]

  back_now : LeadsBack d'
  back_now = λ y t live leads.
      elim (at_or_other x y) [
        | inl e ↦
            let is : Some s ≡ Some t = sym (ap (λ (q : Pointer). q.slot) (pointer-same d x s (From x) (Some s) (pointer_of d x).page)) ∙ ap (λ (z : At). (pointer_of d' z).slot) e.0 ∙ leads in
            let same : s ≡ t = cc in
            subst (λ (u : ℕ). (slot_of d' u).led ≡ From y) same
            (ap (λ (q : Slot). q.led) (slot-same d x s (From x) (Some s) (pointer_of d x).page) ∙ ap (λ (z : At). From z) e.0)
        | inr o ↦
            let was = sound.holds_counted.back y t (sym (live-same d x s (From x) (Some s) (pointer_of d x).page keys can.page y) ∙ live)
            (sym (ap (λ (q : Pointer). q.slot) (pointer-other d x s (From x) (Some s) (pointer_of d x).page y o.0)) ∙ leads) in
            elim (number_or_other s t) [
              | inl e ↦ absurd (never_from y (sym can.led ∙ ap (λ (u : ℕ). (slot_of d u).led) e.0 ∙ was))
              | inr p' ↦ ap (λ (q : Slot). q.led) (slot-other d x s (From x) (Some s) (pointer_of d x).page t p'.0) ∙ was
            ]
      ]

  -- ---- snapshots, and all

  pages_now : SnapshotsFixed d'
  pages_now = record {
    pointers = λ y live. elim (at_or_other x y) [
      | inl e ↦ subst (λ (z : At). (pointer_of d' z).page ≤ d.published) e.0
          (subst (λ (q : Pointer). q.page ≤ d.published) (sym (pointer-same d x s (From x) (Some s) (pointer_of d x).page)) (sound.snapshots_fixed.pointers x can.live))
      | inr o ↦ subst (λ (q : Pointer). q.page ≤ d.published) (sym (pointer-other d x s (From x) (Some s) (pointer_of d x).page y o.0)) (sound.snapshots_fixed.pointers y (sym (live-same d x s (From x) (Some s) (pointer_of d x).page keys can.page y) ∙ live))
    ];
    closed = sound.snapshots_fixed.closed;
  }

  pub install_sound : IsSoundTable homes' d' grips
  install_sound = record {
    one_home_each = one_home;
    holds_counted = record { counted = λ t. passes-same d x s (From x) (Some s) (pointer_of d x).page t ∙ sound.holds_counted.counted t; led = led_now; back = back_now };
    snapshots_fixed = pages_now;
  }
