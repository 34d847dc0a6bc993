-- Twin: a full leaf is split. Its pointer leads to it still, and it to the two leaves that have its keys now.
use Rattle.std.proofs.Common.{◌≡◌, ℕ, ◌≤◌, Bool, true, false, not, true≢false, cond, eqb, eqb-true, eq-eqb, ◌&&◌, ◌⊎◌, inl, inr, List, refl, sym, ap, ◌∙◌, subst, arith, Option, Some, None}
use Rattle.std.proofs.lemmas.Bool.{cases_Bool, and_parts, and_from, false_from_ne_true, cond-true, cond-false}
use Rattle.std.proofs.lemmas.Bool.Decides.{nat_tests}
use Rattle.std.specs.Prelude.{nat_lt}
use Rattle.serial_model.specs.declared.key.Key.{Key}
use Rattle.homes.specs.declared.places.Spot.{Spot}
use Rattle.homes.specs.declared.places.At.{At}
use Rattle.homes.specs.declared.places.At.TheVariants.{Root, In}
use Rattle.homes.specs.declared.places.Span.{Span}
use Rattle.homes.specs.declared.places.Home.{Home}
use Rattle.homes.specs.declared.places.Home.TheVariants.{InSlot}
use Rattle.homes.specs.Homes.{same_at, has_key, in_span, moved, moves_to}
use Rattle.homes.specs.Laws.{same_at-self, same_at-true, at_or_other, number_or_other, moved-there, moved-other}
use Rattle.drop_core.specs.declared.table.Led.{Led}
use Rattle.drop_core.specs.declared.table.Led.TheVariants.{Never, From, Away}
use Rattle.drop_core.specs.declared.table.SlotState.{SlotState}
use Rattle.drop_core.specs.declared.table.Slot.{Slot}
use Rattle.drop_core.specs.declared.table.Page.{Page}
use Rattle.drop_core.specs.declared.table.Page.TheVariants.{Blank, Leaf, Inner, Split}
use Rattle.drop_core.specs.declared.table.Pointer.{Pointer}
use Rattle.drop_core.specs.declared.table.Table.{Table}
use Rattle.drop_core.specs.declared.grip.Grip.{Grip}
use Rattle.drop_core.specs.declared.event.Twins.{Twins}
use Rattle.drop_core.specs.Table.{slot_of, page_of, pointer_of, at_index, leaf_home, is_led, is_never, has_pointer, is_live, is_inner, is_last_to, is_last}
use Rattle.drop_core.specs.Event.{leaf_keys, lower_span, upper_span, twin_pointer, twinned, twin_home}
use Rattle.drop_core.specs.Sound.{span_at, TiesPage, TiesTo, Ties, Apart, IsOwnHome, HomesAreOwn, DeadStaysDead, IsLedSo, LeadsBack, SnapshotsFixed, IsSoundTable}
use Rattle.drop_core.specs.HomeLaws.{leaf-none, leaf-in}
use Rattle.drop_core.proofs.Conditions.{CanTwin}
use Rattle.drop_core.proofs.PageLaws.{page_ties-same}

from_from : (y z : At) → From y ≡ From z → y ≡ z
from_from y z e = cc

in_in : (a b : Spot) → In a ≡ In b → a ≡ b
in_in a b e = cc

some_some : (s t : ℕ) → Some s ≡ Some t → s ≡ t
some_some s t e = cc

leaf_leaf : (a b : List Key) → Leaf a ≡ Leaf b → a ≡ b
leaf_leaf a b e = cc

never_from : (y : At) → Never ≡ From y → ⊥
never_from y e = cc

from_away : (y : At) → From y ≡ Away → ⊥
from_away y e = cc

index_other : (s i j : ℕ) → (i ≡ j → ⊥) → at_index s i ≡ at_index s j → ⊥
index_other s i j other e = other (ap (λ (z : Spot). z.index) (in_in (record { slot = s; index = i }) (record { slot = s; index = j }) e))

zero_one : ◌≡◌ {A = ℕ} 0 1 → ⊥
zero_one e = absurd (omega arith)

pub below_two : (j : ℕ) → nat_lt j 2 ≡ true → (j ≡ 0) ⊎ (j ≡ 1)
below_two j e =
    elim (cases_Bool (eqb j 0)) [
      | inl z ↦ inl (eqb-true j 0 z)
      | inr n ↦ inr (one j e n)
    ]
  where
    one : (j : ℕ) → nat_lt j 2 ≡ true → eqb j 0 ≡ false → j ≡ 1
    one j e n = grind (arith, nat_tests)

module _ (homes : Key → Home) (d : Table) (grips : List Grip) (x : At) (span : Span) (w : Twins) (keys : List Key)
    (can : CanTwin d x span w keys) (sound : IsSoundTable homes d grips) where
  abbrev d' : Table
  d' = twinned d span w

  abbrev s : ℕ
  s = w.slot

  abbrev a : ℕ
  a = w.minor

  abbrev b : ℕ
  b = w.major

  abbrev lower : Span
  lower = lower_span span w.separator

  abbrev upper : Span
  upper = upper_span span w.separator

  abbrev ka : List Key
  ka = leaf_keys (page_of d w.minor)

  abbrev kb : List Key
  kb = leaf_keys (page_of d w.major)

  abbrev all : List Key
  all = w.keys

  abbrev at0 : At
  at0 = at_index s 0

  abbrev at1 : At
  at1 = at_index s 1

  abbrev to : Key → Home
  to = twin_home d span w

  abbrev homes' : Key → Home
  homes' = moved (moves_to to all) homes

  -- ---- what slots, pages and pointers are then

  pub was_from : (slot_of d s).led ≡ From x
  was_from = sound.holds_counted.back x s can.live can.leads

  not_a : s ≡ a → ⊥
  not_a e = never_from x (sym can.a_led ∙ ap (λ (u : ℕ). (slot_of d u).led) (sym e) ∙ was_from)

  not_b : s ≡ b → ⊥
  not_b e = never_from x (sym can.b_led ∙ ap (λ (u : ℕ). (slot_of d u).led) (sym e) ∙ was_from)

  abbrev slot_a : Slot
  slot_a = record (slot_of d a) { led = From at0 }

  abbrev slot_b : Slot
  slot_b = record (slot_of d b) { led = From at1 }

  ne : (i j : ℕ) → (i ≡ j → ⊥) → eqb i j ≡ false
  ne i j other = false_from_ne_true (eqb i j) (λ e. other (eqb-true i j e))

  pub is_a : slot_of d' a ≡ slot_a
  is_a = cond-true (eqb a a) slot_a (cond (eqb b a) slot_b (slot_of d a)) (eq-eqb a a refl)

  pub is_b : slot_of d' b ≡ slot_b
  is_b = cond-false (eqb a b) slot_a (cond (eqb b b) slot_b (slot_of d b)) (ne a b can.two) ∙ cond-true (eqb b b) slot_b (slot_of d b) (eq-eqb b b refl)

  pub slot-other : (t : ℕ) → (a ≡ t → ⊥) → (b ≡ t → ⊥) → slot_of d' t ≡ slot_of d t
  slot-other t oa ob = cond-false (eqb a t) slot_a (cond (eqb b t) slot_b (slot_of d t)) (ne a t oa) ∙ cond-false (eqb b t) slot_b (slot_of d t) (ne b t ob)

  -- each slot is one of the twins or another
  pub slots : (P : ℕ → Slot → Type 0) → P a slot_a → P b slot_b → ((t : ℕ) → (a ≡ t → ⊥) → (b ≡ t → ⊥) → P t (slot_of d t)) → (t : ℕ) → P t (slot_of d' t)
  slots P pa pb po t =
      elim (number_or_other a t) [
        | inl ea ↦ subst (λ (u : ℕ). P u (slot_of d' u)) ea.0 (subst (λ (q : Slot). P a q) (sym is_a) pa)
        | inr oa ↦ elim (number_or_other b t) [
          | inl eb ↦ subst (λ (u : ℕ). P u (slot_of d' u)) eb.0 (subst (λ (q : Slot). P b q) (sym is_b) pb)
          | inr ob ↦ subst (λ (q : Slot). P t q) (sym (slot-other t oa.0 ob.0)) (po t oa.0 ob.0)
        ]
      ]

  pub is_page : page_of d' s ≡ Split
  is_page = cond-true (eqb s s) Split (page_of d s) (eq-eqb s s refl)

  pub page-other : (t : ℕ) → (s ≡ t → ⊥) → page_of d' t ≡ page_of d t
  page-other t o = cond-false (eqb s t) Split (page_of d t) (ne s t o)

  ne_at : (y z : At) → (y ≡ z → ⊥) → same_at y z ≡ false
  ne_at y z other = false_from_ne_true (same_at y z) (λ e. other (same_at-true y z e))

  pub is_0 : pointer_of d' at0 ≡ twin_pointer lower a
  is_0 = cond-true (same_at at0 at0) (twin_pointer lower a) (cond (same_at at1 at0) (twin_pointer upper b) (pointer_of d at0)) (same_at-self at0)

  pub is_1 : pointer_of d' at1 ≡ twin_pointer upper b
  is_1 = cond-false (same_at at0 at1) (twin_pointer lower a) (cond (same_at at1 at1) (twin_pointer upper b) (pointer_of d at1)) (ne_at at0 at1 (index_other s 0 1 zero_one))
      ∙ cond-true (same_at at1 at1) (twin_pointer upper b) (pointer_of d at1) (same_at-self at1)

  pointer-other : (y : At) → (at0 ≡ y → ⊥) → (at1 ≡ y → ⊥) → pointer_of d' y ≡ pointer_of d y
  pointer-other y o0 o1 = cond-false (same_at at0 y) (twin_pointer lower a) (cond (same_at at1 y) (twin_pointer upper b) (pointer_of d y)) (ne_at at0 y o0)
      ∙ cond-false (same_at at1 y) (twin_pointer upper b) (pointer_of d y) (ne_at at1 y o1)

  -- at another slot's index stands what stood there
  pub at-other : (t j : ℕ) → (s ≡ t → ⊥) → pointer_of d' (at_index t j) ≡ pointer_of d (at_index t j)
  at-other t j other = pointer-other (at_index t j) (λ e. other (slot_is 0 e)) (λ e. other (slot_is 1 e))
    where
      slot_is : (i : ℕ) → at_index s i ≡ at_index t j → s ≡ t
      slot_is i e = ap (λ (z : Spot). z.slot) (in_in (record { slot = s; index = i }) (record { slot = t; index = j }) e)

  -- ---- what is live

  -- no pointer of the page was live
  not_live : (z : Spot) → is_live d (In z) ≡ true → s ≡ z.slot → ⊥
  not_live z live e = true≢false (sym (and_parts (is_led (slot_of d z.slot).led) (has_pointer (page_of d z.slot) z.index) live).1 ∙ ap (λ (u : ℕ). has_pointer (page_of d u) z.index) (sym e) ∙ ap (λ (q : Page). has_pointer q z.index) can.page)

  not_at : (i : ℕ) (y : At) → is_live d y ≡ true → at_index s i ≡ y → ⊥
  not_at i y live e = not_live (record { slot = s; index = i }) (subst (λ (z : At). is_live d z ≡ true) (sym e) live) refl

  -- nothing led to the twins
  pub not_to : (y : At) (t : ℕ) → is_live d y ≡ true → (pointer_of d y).slot ≡ Some t → (slot_of d t).led ≡ Never → ⊥
  not_to y t live leads never = never_from y (sym never ∙ sound.holds_counted.back y t live leads)

  s_led : (slot_of d' s).led ≡ From x
  s_led = ap (λ (q : Slot). q.led) (slot-other s (λ e. not_a (sym e)) (λ e. not_b (sym e))) ∙ was_from

  pub twin_live : (j : ℕ) → nat_lt j 2 ≡ true → is_live d' (at_index s j) ≡ true
  twin_live j two = and_from (is_led (slot_of d' s).led) (has_pointer (page_of d' s) j) (ap is_led s_led) (ap (λ (q : Page). has_pointer q j) is_page ∙ two)

  abbrev IsTwin : At → Type 0
  IsTwin y = (at0 ≡ y) ⊎ (at1 ≡ y)

  leaf_none : (t : ℕ) (ks : List Key) (j : ℕ) → page_of d t ≡ Leaf ks → has_pointer (page_of d t) j ≡ false
  leaf_none t ks j e = ap (λ (q : Page). has_pointer q j) e

  live_in : (z : Spot) → (s ≡ z.slot → ⊥) → is_live d' (In z) ≡ is_live d (In z)
  live_in z other =
      ap (λ (q : Page). is_led (slot_of d' z.slot).led && has_pointer q z.index) (page-other z.slot other)
      ∙ elim (number_or_other a z.slot) [
        | inl e ↦ none (is_led (slot_of d' z.slot).led) (is_led (slot_of d z.slot).led) (has_pointer (page_of d z.slot) z.index) (leaf_none z.slot ka z.index (ap (page_of d) (sym e.0) ∙ can.a_page))
        | inr oa ↦ elim (number_or_other b z.slot) [
          | inl e ↦ none (is_led (slot_of d' z.slot).led) (is_led (slot_of d z.slot).led) (has_pointer (page_of d z.slot) z.index) (leaf_none z.slot kb z.index (ap (page_of d) (sym e.0) ∙ can.b_page))
          | inr ob ↦ ap (λ (q : Slot). is_led q.led && has_pointer (page_of d z.slot) z.index) (slot-other z.slot oa.0 ob.0)
        ]
      ]
    where
      none : (x y h : Bool) → h ≡ false → (x && h) ≡ (y && h)
      none true true h e = refl
      none true false h e = e
      none false true h e = sym e
      none false false h e = refl

  pub live_cases : (y : At) → is_live d' y ≡ true → (is_live d y ≡ true) ⊎ IsTwin y
  live_cases (Root r) live = inl refl
  live_cases (In z) live =
      elim (number_or_other s z.slot) [
        | inl e ↦
            let two : nat_lt z.index 2 ≡ true = ap (λ (q : Page). has_pointer q z.index) (sym is_page) ∙ ap (λ (u : ℕ). has_pointer (page_of d' u) z.index) e.0
            ∙ (and_parts (is_led (slot_of d' z.slot).led) (has_pointer (page_of d' z.slot) z.index) live).1 in
            elim (below_two z.index two) [
              | inl is ↦ inr (inl (spot_is 0 z e.0 (sym is)))
              | inr is ↦ inr (inr (spot_is 1 z e.0 (sym is)))
            ]
        | inr o ↦ inl (sym (live_in z o.0) ∙ live)
      ]
    where
      spot_is : (i : ℕ) (z : Spot) → s ≡ z.slot → i ≡ z.index → at_index s i ≡ In z
      spot_is i z e f = ap (λ (u : ℕ). at_index u i) e ∙ ap (λ (u : ℕ). at_index z.slot u) f

  pub stays_live : (y : At) → is_live d y ≡ true → is_live d' y ≡ true
  stays_live (Root r) live = refl
  stays_live (In z) live = live_in z (not_live z live) ∙ live

  pub old_same : (y : At) → is_live d y ≡ true → pointer_of d' y ≡ pointer_of d y
  old_same y live = pointer-other y (not_at 0 y live) (not_at 1 y live)

  -- ---- where keys go

  x_was : TiesPage homes d (pointer_of d x).span s (Leaf keys)
  x_was = subst (λ (q : Page). TiesPage homes d (pointer_of d x).span s q) can.page
      (subst (λ (o : Option ℕ). TiesTo homes d (pointer_of d x).span (pointer_of d x).page o) can.leads (sound.one_home_each.ties x can.live))

  below : (k : Key) → in_span (pointer_of d x).span k ≡ true → homes k ≡ leaf_home s 0 keys k
  below = x_was.0

  pub all_within : (k : Key) → has_key all k ≡ true → in_span (pointer_of d x).span k ≡ true
  all_within k hit = elim (can.parts k hit) [ inl e ↦ can.lower_in k (can.a_within k e) | inr e ↦ can.upper_in k (can.b_within k e) ]

  was_home : (k : Key) → has_key all k ≡ true → homes k ≡ leaf_home s 0 keys k
  was_home k hit = below k (all_within k hit)

  to_lower : (k : Key) → in_span lower k ≡ true → to k ≡ leaf_home a 0 ka k
  to_lower k e = cond-true (in_span lower k) (leaf_home a 0 ka k) (leaf_home b 0 kb k) e

  to_upper : (k : Key) → in_span upper k ≡ true → to k ≡ leaf_home b 0 kb k
  to_upper k e = cond-false (in_span lower k) (leaf_home a 0 ka k) (leaf_home b 0 kb k) (false_from_ne_true (in_span lower k) (λ l. can.apart k l e))

  -- a new home is in one of the twins
  to_slot : (k : Key) (y : Spot) → to k ≡ InSlot y → (y.slot ≡ a) ⊎ (y.slot ≡ b)
  to_slot k y e =
      elim (cases_Bool (in_span lower k)) [
        | inl l ↦ inl (leaf-in a 0 ka k y (sym (to_lower k l) ∙ e)).slot
        | inr u ↦ inr (leaf-in b 0 kb k y (sym (cond-false (in_span lower k) (leaf_home a 0 ka k) (leaf_home b 0 kb k) u) ∙ e)).slot
      ]

  -- a key whose home is in this slot is one of those that move
  own_has : (k : Key) (y : Spot) → homes k ≡ InSlot y → s ≡ y.slot → has_key all k ≡ true
  own_has k y at is =
      let own = sound.one_home_each.own k y at in
      let same : own.keys ≡ keys = leaf_leaf own.keys keys (sym own.page ∙ ap (page_of d) (sym is) ∙ can.page) in
      can.old k (subst (λ (l : List Key). has_key l k ≡ true) same (leaf-in y.slot 0 own.keys k y own.at).there)

  -- ---- one home each

  x_end : is_last d x ≡ true
  x_end = and_from (is_live d x) (is_last_to d (pointer_of d x).slot) can.live (ap (is_last_to d) can.leads ∙ ap (λ (q : Page). not (is_inner q)) can.page)

  -- a key below another end didn't move
  kept_below : (y : At) → (x ≡ y → ⊥) → is_last d y ≡ true → (k : Key) → in_span (pointer_of d y).span k ≡ true → homes' k ≡ homes k
  kept_below y other last k inside =
      moved-other to all homes k (false_from_ne_true (has_key all k) (λ hit. other (sound.one_home_each.apart x y x_end last k (all_within k hit) inside)))

  ties_page : (span : Span) (t : ℕ) (pg : Page) → (s ≡ t → ⊥) → (is_inner pg ≡ false → (k : Key) → in_span span k ≡ true → homes' k ≡ homes k) → TiesPage homes d span t pg → TiesPage homes' d' span t pg
  ties_page span t Blank other kept ties = ties
  ties_page span t (Leaf ks) other kept ties = (λ k inside. kept refl k inside ∙ ties.0 k inside, ties.1, ties.2)
  ties_page span t (Inner l) other kept ties = page_ties-same homes' (span_at d) (span_at d') span t (Inner l) (λ j. ap (λ (q : Pointer). q.span) (at-other t j other)) ties
  ties_page span t Split other kept ties = page_ties-same homes' (span_at d) (span_at d') span t Split (λ j. ap (λ (q : Pointer). q.span) (at-other t j other)) ties

  ties_to : (span : Span) (l : ℕ) (o : Option ℕ) → ((t : ℕ) → o ≡ Some t → s ≡ t → ⊥) → (is_last_to d o ≡ true → (k : Key) → in_span span k ≡ true → homes' k ≡ homes k) → TiesTo homes d span l o → TiesTo homes' d' span l o
  ties_to span l None other kept ties = λ k inside. kept refl k inside ∙ ties k inside
  ties_to span l (Some t) other kept ties =
      subst (λ (q : Page). TiesPage homes' d' span t q) (sym (page-other t (other t refl))) (ties_page span t (page_of d t) (other t refl) (λ e. kept (ap not e)) ties)

  -- x leads to the split page, which leads to its twins
  x_page : TiesPage homes' d' (pointer_of d x).span s Split
  x_page = (
    λ k inside. elim (can.cover k inside) [
      | inl l ↦ (0, refl, ap (λ (q : Pointer). in_span q.span k) is_0 ∙ l)
      | inr u ↦ (1, refl, ap (λ (q : Pointer). in_span q.span k) is_1 ∙ u)
    ],
    λ j k two inside. elim (below_two j two) [
      | inl e ↦ can.lower_in k (sym (ap (λ (q : Pointer). in_span q.span k) is_0) ∙ subst (λ (i : ℕ). in_span (pointer_of d' (at_index s i)).span k ≡ true) e inside)
      | inr e ↦ can.upper_in k (sym (ap (λ (q : Pointer). in_span q.span k) is_1) ∙ subst (λ (i : ℕ). in_span (pointer_of d' (at_index s i)).span k ≡ true) e inside)
    ],
  )

  -- what is below a twin
  twin_home-is : (t : ℕ) (ks : List Key) (k : Key) → (has_key ks k ≡ true → has_key all k ≡ true) → to k ≡ leaf_home t 0 ks k → in_span (pointer_of d x).span k ≡ true → homes' k ≡ leaf_home t 0 ks k
  twin_home-is t ks k in_all is inside =
      elim (cases_Bool (has_key all k)) [
        | inl hit ↦ moved-there to all homes k hit ∙ is
        | inr miss ↦ moved-other to all homes k miss ∙ below k inside
            ∙ leaf-none s 0 keys k (false_from_ne_true (has_key keys k) (λ e. true≢false (sym (can.old k e) ∙ miss)))
            ∙ sym (leaf-none t 0 ks k (false_from_ne_true (has_key ks k) (λ e. true≢false (sym (in_all e) ∙ miss))))
      ]

  a_ties : TiesTo homes' d' lower 0 (Some a)
  a_ties = subst (λ (q : Page). TiesPage homes' d' lower a q) (sym (page-other a not_a ∙ can.a_page)) (
    λ k l. twin_home-is a ka k (can.a_all k) (to_lower k l) (can.lower_in k l),
    can.a_within,
    can.a_once,
  )

  b_ties : TiesTo homes' d' upper 0 (Some b)
  b_ties = subst (λ (q : Page). TiesPage homes' d' upper b q) (sym (page-other b not_b ∙ can.b_page)) (
    λ k u. twin_home-is b kb k (can.b_all k) (to_upper k u) (can.upper_in k u),
    can.b_within,
    can.b_once,
  )

  abbrev TiesAt : At → Pointer → Type 0
  TiesAt y q = TiesTo homes' d' q.span q.page q.slot

  at_link : (y : At) (q : Pointer) → pointer_of d' y ≡ q → TiesAt y q → TiesAt y (pointer_of d' y)
  at_link y q e ties = subst (λ (l : Pointer). TiesAt y l) (sym e) ties

  ties_now : Ties homes' d'
  ties_now = λ y live.
      elim (live_cases y live) [
        | inl old ↦ at_link y (pointer_of d y) (old_same y old) (elim (at_or_other x y) [
          | inl e ↦ subst (λ (z : At). TiesAt z (pointer_of d z)) e.0
              (subst (λ (o : Option ℕ). TiesTo homes' d' (pointer_of d x).span (pointer_of d x).page o) (sym can.leads) (subst (λ (q : Page). TiesPage homes' d' (pointer_of d x).span s q) (sym is_page) x_page))
          | inr o ↦ ties_to (pointer_of d y).span (pointer_of d y).page (pointer_of d y).slot
              (λ t leads e. o.0 (from_from x y (sym was_from ∙ ap (λ (u : ℕ). (slot_of d u).led) e ∙ sound.holds_counted.back y t old leads)))
              (λ to_end k inside. kept_below y o.0 (and_from (is_live d y) (is_last_to d (pointer_of d y).slot) old to_end) k inside) (sound.one_home_each.ties y old)
        ])
        | inr twin ↦ elim twin [
          | inl e ↦ subst (λ (z : At). TiesAt z (pointer_of d' z)) e (at_link at0 (twin_pointer lower a) is_0 a_ties)
          | inr e ↦ subst (λ (z : At). TiesAt z (pointer_of d' z)) e (at_link at1 (twin_pointer upper b) is_1 b_ties)
        ]
      ]

  -- x is no end any more
  x_not_last : is_last d' x ≡ false
  x_not_last =
      ap (λ (q : Pointer). is_live d' x && is_last_to d' q.slot) (old_same x can.live) ∙ ap (λ (o : Option ℕ). is_live d' x && is_last_to d' o) can.leads
      ∙ ap (λ (q : Page). is_live d' x && not (is_inner q)) is_page ∙ and_false (is_live d' x)
    where
      and_false : (b : Bool) → (b && false) ≡ false
      and_false true = refl
      and_false false = refl

  last_to_same : (y : At) (o : Option ℕ) → is_live d y ≡ true → (x ≡ y → ⊥) → (pointer_of d y).slot ≡ o → is_last_to d' o ≡ is_last_to d o
  last_to_same y None live other e = refl
  last_to_same y (Some t) live other e =
      ap (λ (q : Page). not (is_inner q)) (page-other t (λ is. other (from_from x y (sym was_from ∙ ap (λ (u : ℕ). (slot_of d u).led) is ∙ sound.holds_counted.back y t live e))))

  last_cases : (y : At) → is_last d' y ≡ true → ((is_last d y ≡ true) × (x ≡ y → ⊥)) ⊎ IsTwin y
  last_cases y last =
      let parts = and_parts (is_live d' y) (is_last_to d' (pointer_of d' y).slot) last in
      elim (live_cases y parts.0) [
        | inl old ↦
            let other : x ≡ y → ⊥ = λ e. true≢false (sym (subst (λ (z : At). is_last d' z ≡ true) (sym e) last) ∙ x_not_last) in
            inl (
              and_from (is_live d y) (is_last_to d (pointer_of d y).slot) old
                  (sym (last_to_same y (pointer_of d y).slot old other refl) ∙ sym (ap (λ (q : Pointer). is_last_to d' q.slot) (old_same y old)) ∙ parts.1),
              other,
            )
        | inr twin ↦ inr twin
      ]

  -- a key below an old end
  old_span : (y : At) (k : Key) → is_last d y ≡ true → in_span (pointer_of d' y).span k ≡ true → in_span (pointer_of d y).span k ≡ true
  old_span y k last inside = sym (ap (λ (q : Pointer). in_span q.span k) (old_same y (and_parts (is_live d y) (is_last_to d (pointer_of d y).slot) last).0)) ∙ inside

  span0 : (y : At) (k : Key) → at0 ≡ y → in_span (pointer_of d' y).span k ≡ true → in_span lower k ≡ true
  span0 y k e inside = sym (ap (λ (q : Pointer). in_span q.span k) is_0) ∙ subst (λ (z : At). in_span (pointer_of d' z).span k ≡ true) (sym e) inside

  span1 : (y : At) (k : Key) → at1 ≡ y → in_span (pointer_of d' y).span k ≡ true → in_span upper k ≡ true
  span1 y k e inside = sym (ap (λ (q : Pointer). in_span q.span k) is_1) ∙ subst (λ (z : At). in_span (pointer_of d' z).span k ≡ true) (sym e) inside

  twin_span : (y : At) (k : Key) → IsTwin y → in_span (pointer_of d' y).span k ≡ true → in_span (pointer_of d x).span k ≡ true
  twin_span y k twin inside = elim twin [ inl e ↦ can.lower_in k (span0 y k e inside) | inr e ↦ can.upper_in k (span1 y k e inside) ]

  apart_now : Apart d'
  apart_now = λ y z ly lz k iny inz.
      elim (last_cases y ly) [
        | inl oy ↦ elim (last_cases z lz) [
          | inl oz ↦ sound.one_home_each.apart y z oy.0 oz.0 k (old_span y k oy.0 iny) (old_span z k oz.0 inz)
          | inr tz ↦ absurd (oy.1 (sound.one_home_each.apart x y x_end oy.0 k (twin_span z k tz inz) (old_span y k oy.0 iny)))
        ]
        | inr ty ↦ elim (last_cases z lz) [
          | inl oz ↦ absurd (oz.1 (sound.one_home_each.apart x z x_end oz.0 k (twin_span y k ty iny) (old_span z k oz.0 inz)))
          | inr tz ↦ elim ty [
            | inl y0 ↦ elim tz [ inl z0 ↦ sym y0 ∙ z0 | inr z1 ↦ absurd (can.apart k (span0 y k y0 iny) (span1 z k z1 inz)) ]
            | inr y1 ↦ elim tz [ inl z0 ↦ absurd (can.apart k (span0 z k z0 inz) (span1 y k y1 iny)) | inr z1 ↦ sym y1 ∙ z1 ]
          ]
        ]
      ]

  own_twin : (k : Key) (y : Spot) (t : ℕ) (ks : List Key) (l : Led) → (s ≡ t → ⊥) → page_of d t ≡ Leaf ks → (slot_of d' t).led ≡ l → is_led l ≡ true → leaf_home t 0 ks k ≡ InSlot y → IsOwnHome d' k y
  own_twin k y t ks l other page led is at =
      let slot = (leaf-in t 0 ks k y at).slot in record {
        keys = ks;
        page = page-other y.slot (λ e. other (e ∙ slot)) ∙ ap (page_of d) slot ∙ page;
        at = subst (λ (u : ℕ). leaf_home u 0 ks k ≡ InSlot y) (sym slot) at;
        led = ap (λ (u : ℕ). is_led (slot_of d' u).led) slot ∙ ap is_led led ∙ is;
      }

  own_now : HomesAreOwn homes' d'
  own_now = λ k y e.
      elim (cases_Bool (has_key all k)) [
        | inl hit ↦ let at = sym (moved-there to all homes k hit) ∙ e in elim (cases_Bool (in_span lower k)) [
          | inl l ↦ own_twin k y a ka (From at0) not_a can.a_page (ap (λ (q : Slot). q.led) is_a) refl (sym (to_lower k l) ∙ at)
          | inr u ↦ own_twin k y b kb (From at1) not_b can.b_page (ap (λ (q : Slot). q.led) is_b) refl (sym (cond-false (in_span lower k) (leaf_home a 0 ka k) (leaf_home b 0 kb k) u) ∙ at)
        ]
        | inr miss ↦
            let at = sym (moved-other to all homes k miss) ∙ e in
            let was = sound.one_home_each.own k y at in
            let not_never : (t : ℕ) → (slot_of d t).led ≡ Never → t ≡ y.slot → ⊥ = λ t never is. true≢false (sym was.led ∙ ap (λ (u : ℕ). is_led (slot_of d u).led) (sym is) ∙ ap is_led never) in
            record {
              keys = was.keys;
              page = page-other y.slot (λ is. true≢false (sym (own_has k y at is) ∙ miss)) ∙ was.page;
              at = was.at;
              led = ap (λ (q : Slot). is_led q.led) (slot-other y.slot (not_never a can.a_led) (not_never b can.b_led)) ∙ was.led;
            }
      ]

  pub not_away : (t : ℕ) → (slot_of d' t).led ≡ Away → (slot_of d t).led ≡ Away
  not_away = slots (λ t q. q.led ≡ Away → (slot_of d t).led ≡ Away) (λ e. absurd (from_away at0 e)) (λ e. absurd (from_away at1 e)) (λ t _ _ e. e)

  dead_now : DeadStaysDead d'
  dead_now = λ t away j there.
      let was = not_away t away in
      let other : s ≡ t → ⊥ = λ e. from_away x (sym was_from ∙ ap (λ (u : ℕ). (slot_of d u).led) e ∙ was) in
      ap (λ (q : Pointer). q.holder) (at-other t j other) ∙ sound.one_home_each.dead t was j (sym (ap (λ (q : Page). has_pointer q j) (page-other t other)) ∙ there)

  -- ---- holds, snapshots, and all

  led_old : (t : ℕ) (state : SlotState) (led : Led) → IsLedSo d t state led → IsLedSo d' t state led
  led_old t state Never so = so
  led_old t state (From y) so = (so.0, stays_live y so.1, ap (λ (q : Pointer). q.slot) (old_same y so.1) ∙ so.2)
  led_old t state Away so = so

  led_now : (t : ℕ) → IsLedSo d' t (slot_of d' t).state (slot_of d' t).led
  led_now = slots (λ t q. IsLedSo d' t q.state q.led)
      (can.a_state, twin_live 0 refl, ap (λ (q : Pointer). q.slot) is_0) (can.b_state, twin_live 1 refl, ap (λ (q : Pointer). q.slot) is_1)
      (λ t _ _. led_old t (slot_of d t).state (slot_of d t).led (sound.holds_counted.led t))

  back_now : LeadsBack d'
  back_now = λ y t live leads.
      elim (live_cases y live) [
        | inl old ↦
            let leads' = sym (ap (λ (q : Pointer). q.slot) (old_same y old)) ∙ leads in
            ap (λ (q : Slot). q.led) (slot-other t (λ e. not_to y t old leads' (ap (λ (u : ℕ). (slot_of d u).led) (sym e) ∙ can.a_led)) (λ e. not_to y t old leads' (ap (λ (u : ℕ). (slot_of d u).led) (sym e) ∙ can.b_led)))
            ∙ sound.holds_counted.back y t old leads'
        | inr twin ↦ elim twin [
          | inl e ↦
              let is = some_some a t (sym (ap (λ (q : Pointer). q.slot) is_0) ∙ ap (λ (z : At). (pointer_of d' z).slot) e ∙ leads) in
              ap (λ (u : ℕ). (slot_of d' u).led) (sym is) ∙ ap (λ (q : Slot). q.led) is_a ∙ ap (λ (z : At). From z) e
          | inr e ↦
              let is = some_some b t (sym (ap (λ (q : Pointer). q.slot) is_1) ∙ ap (λ (z : At). (pointer_of d' z).slot) e ∙ leads) in
              ap (λ (u : ℕ). (slot_of d' u).led) (sym is) ∙ ap (λ (q : Slot). q.led) is_b ∙ ap (λ (z : At). From z) e
        ]
      ]

  none_above : (n : ℕ) → 0 ≤ n
  none_above n = omega arith

  pages_now : SnapshotsFixed d'
  pages_now = record {
    pointers = λ y live. elim (live_cases y live) [
      | inl old ↦ subst (λ (q : Pointer). q.page ≤ d.published) (sym (old_same y old)) (sound.snapshots_fixed.pointers y old)
      | inr twin ↦ elim twin [
        | inl e ↦ subst (λ (z : At). (pointer_of d' z).page ≤ d.published) e (subst (λ (q : Pointer). q.page ≤ d.published) (sym is_0) (none_above d.published))
        | inr e ↦ subst (λ (z : At). (pointer_of d' z).page ≤ d.published) e (subst (λ (q : Pointer). q.page ≤ d.published) (sym is_1) (none_above d.published))
      ]
    ];
    closed = sound.snapshots_fixed.closed;
  }

  pub passes-same : (t : ℕ) → (slot_of d' t).passes ≡ (slot_of d t).passes
  passes-same = slots (λ t q. q.passes ≡ (slot_of d t).passes) refl refl (λ t _ _. refl)

  pub twin_sound : IsSoundTable homes' d' grips
  twin_sound = record {
    one_home_each = record { ties = ties_now; apart = apart_now; own = own_now; dead = dead_now };
    holds_counted = record { counted = λ t. passes-same t ∙ sound.holds_counted.counted t; led = led_now; back = back_now };
    snapshots_fixed = pages_now;
  }

  pub never_now : (t : ℕ) → is_never (slot_of d t).led ≡ false → is_never (slot_of d' t).led ≡ false
  never_now = slots (λ t q. is_never (slot_of d t).led ≡ false → is_never q.led ≡ false) (λ _. refl) (λ _. refl) (λ t _ _ e. e)
