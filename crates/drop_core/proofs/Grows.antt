-- A key is added to a leaf: the keys that were there stay where they were, and the new one is in the next place.
use Rattle.std.proofs.Common.{◌≡◌, ℕ, suc, ◌+◌, Bool, true, false, not, true≢false, eqb, eqb-true, eq-eqb, ◌&&◌, ◌⊎◌, inl, inr, List, [], ◌∷◌, ◌++◌, refl, sym, ap, ◌∙◌, subst, arith, length, Option, Some, None}
use Rattle.std.proofs.lemmas.Bool.{cases_Bool, and_parts, and_from, or_cases, or_left, or_right, false_from_ne_true, cond-true, cond-false}
use Rattle.serial_model.specs.declared.key.Key.{Key}
use Rattle.homes.specs.declared.places.Spot.{Spot}
use Rattle.homes.specs.declared.places.At.{At}
use Rattle.homes.specs.declared.places.At.TheVariants.{Root, In}
use Rattle.homes.specs.declared.places.Span.{Span}
use Rattle.homes.specs.declared.places.Home.{Home}
use Rattle.homes.specs.declared.places.Home.TheVariants.{InSlot, Nowhere}
use Rattle.homes.specs.Homes.{same_key, has_key, in_span}
use Rattle.homes.specs.Laws.{same_key-self, same_key-true, at_or_other, number_or_other}
use Rattle.drop_core.specs.declared.table.Led.{Led}
use Rattle.drop_core.specs.declared.table.Led.TheVariants.{Never, From, Away}
use Rattle.drop_core.specs.declared.table.SlotState.{SlotState}
use Rattle.drop_core.specs.declared.table.Page.{Page}
use Rattle.drop_core.specs.declared.table.Page.TheVariants.{Blank, Leaf, Inner, Split}
use Rattle.drop_core.specs.declared.table.Table.{Table}
use Rattle.drop_core.specs.declared.grip.Grip.{Grip}
use Rattle.drop_core.specs.Table.{slot_of, page_of, pointer_of, leaf_home, has_pointer, is_inner, is_led, is_live, is_last, is_last_to}
use Rattle.drop_core.specs.Event.{each_once, with_key, grown}
use Rattle.drop_core.specs.Sound.{TiesPage, TiesTo, IsLedSo, IsOwnHome, IsSoundTable}
use Rattle.drop_core.specs.HomeLaws.{leaf-none, leaf-in}
use Rattle.drop_core.proofs.Conditions.{CanGrow}

from_from : (y z : At) → From y ≡ From z → y ≡ z
from_from y z e = cc

leaf_leaf : (a b : List Key) → Leaf a ≡ Leaf b → a ≡ b
leaf_leaf a b e = cc

not_true : (b : Bool) → not b ≡ true → b ≡ false
not_true true e = absurd (true≢false (sym e))
not_true false e = refl

-- ---- keys in lists

pub has_key-head : (k : Key) (more : List Key) → has_key (k ∷ more) k ≡ true
has_key-head k more = or_left (same_key k k) (has_key more k) (same_key-self k)

has_key-tail : (x : Key) (more : List Key) (k : Key) → has_key more k ≡ true → has_key (x ∷ more) k ≡ true
has_key-tail x more k e = or_right (same_key x k) (has_key more k) e

pub has_key-cons : (x : Key) (more : List Key) (k : Key) → has_key (x ∷ more) k ≡ true → (x ≡ k) ⊎ (has_key more k ≡ true)
has_key-cons x more k e = elim (or_cases (same_key x k) (has_key more k) e) [ inl is ↦ inl (same_key-true x k is) | inr m ↦ inr m ]

-- a list of one key
pub only_key : (k q : Key) → has_key (k ∷ []) q ≡ true → k ≡ q
only_key k q hit = elim (has_key-cons k [] q hit) [ inl is ↦ is | inr none ↦ absurd (true≢false (sym none)) ]

-- ---- one more key in a leaf

has-append : (keys : List Key) (k q : Key) → has_key (keys ++ k ∷ []) q ≡ true → (has_key keys q ≡ true) ⊎ (k ≡ q)
has-append [] k q e = elim (has_key-cons k [] q e) [ inl is ↦ inr is | inr n ↦ absurd (true≢false (sym n)) ]
has-append (x ∷ keys) k q e =
    elim (has_key-cons x (keys ++ k ∷ []) q e) [
      | inl is ↦ inl (subst (λ (y : Key). has_key (x ∷ keys) y ≡ true) is (has_key-head x keys))
      | inr more ↦ elim (has-append keys k q more) [ inl old ↦ inl (has_key-tail x keys q old) | inr new ↦ inr new ]
    ]

-- the keys that were there are where they were
leaf-old : (s i : ℕ) (keys : List Key) (k q : Key) → has_key keys q ≡ true → leaf_home s i (keys ++ k ∷ []) q ≡ leaf_home s i keys q
leaf-old s i [] k q e = absurd (true≢false (sym e))
leaf-old s i (x ∷ keys) k q e =
    elim (cases_Bool (same_key x q)) [
      | inl hit ↦ cond-true (same_key x q) (InSlot (record { slot = s; index = i })) (leaf_home s (suc i) (keys ++ k ∷ []) q) hit
          ∙ sym (cond-true (same_key x q) (InSlot (record { slot = s; index = i })) (leaf_home s (suc i) keys q) hit)
      | inr miss ↦ cond-false (same_key x q) (InSlot (record { slot = s; index = i })) (leaf_home s (suc i) (keys ++ k ∷ []) q) miss
          ∙ leaf-old s (suc i) keys k q (rest x keys q e miss)
          ∙ sym (cond-false (same_key x q) (InSlot (record { slot = s; index = i })) (leaf_home s (suc i) keys q) miss)
    ]
  where
    rest : (x : Key) (keys : List Key) (q : Key) → has_key (x ∷ keys) q ≡ true → same_key x q ≡ false → has_key keys q ≡ true
    rest x keys q e miss = elim (or_cases (same_key x q) (has_key keys q) e) [ inl h ↦ absurd (true≢false (sym h ∙ miss)) | inr n ↦ n ]

-- the new one is in the next place
leaf-new : (s i : ℕ) (keys : List Key) (k : Key) → has_key keys k ≡ false → leaf_home s i (keys ++ k ∷ []) k ≡ InSlot (record { slot = s; index = i + length keys })
leaf-new s i [] k e =
    cond-true (same_key k k) (InSlot (record { slot = s; index = i })) Nowhere (same_key-self k)
    ∙ ap (λ (j : ℕ). InSlot (record { slot = s; index = j })) (let none : i ≡ i + 0 = omega arith in none)
leaf-new s i (x ∷ keys) k e =
    let miss : same_key x k ≡ false = false_from_ne_true (same_key x k) (λ h. true≢false (sym (or_left (same_key x k) (has_key keys k) h) ∙ e)) in
    let rest : has_key keys k ≡ false = false_from_ne_true (has_key keys k) (λ h. true≢false (sym (or_right (same_key x k) (has_key keys k) h) ∙ e)) in
    cond-false (same_key x k) (InSlot (record { slot = s; index = i })) (leaf_home s (suc i) (keys ++ k ∷ []) k) miss
    ∙ leaf-new s (suc i) keys k rest ∙ ap (λ (j : ℕ). InSlot (record { slot = s; index = j })) (index i (length keys) (length (x ∷ keys)) refl)
  where
    index : (i n l : ℕ) → l ≡ suc n → suc i + n ≡ i + l
    index i n l e = omega (arith, e)

once-append : (keys : List Key) (k : Key) → each_once keys ≡ true → has_key keys k ≡ false → each_once (keys ++ k ∷ []) ≡ true
once-append [] k once e = refl
once-append (x ∷ keys) k once e =
    let parts = and_parts (not (has_key keys x)) (each_once keys) once in
    and_from (not (has_key (keys ++ k ∷ []) x)) (each_once (keys ++ k ∷ []))
    (ap not (false_from_ne_true (has_key (keys ++ k ∷ []) x) (λ h. elim (has-append keys k x h) [
      | inl old ↦ true≢false (sym old ∙ not_true (has_key keys x) parts.0)
      | inr is ↦ true≢false (sym (subst (λ (y : Key). has_key (x ∷ keys) y ≡ true) (sym is) (has_key-head x keys)) ∙ e)
    ])))
    (once-append keys k parts.1 (false_from_ne_true (has_key keys k) (λ h. true≢false (sym (has_key-tail x keys k h) ∙ e))))

-- ---- pages

pub grown-page : (d : Table) (s : ℕ) (k : Key) (keys : List Key) → page_of d s ≡ Leaf keys → page_of (grown d s k) s ≡ Leaf (keys ++ k ∷ [])
grown-page d s k keys page = cond-true (eqb s s) (with_key k (page_of d s)) (page_of d s) (eq-eqb s s refl) ∙ ap (with_key k) page

pub grown-other : (d : Table) (s : ℕ) (k : Key) (t : ℕ) → (s ≡ t → ⊥) → page_of (grown d s k) t ≡ page_of d t
grown-other d s k t o = cond-false (eqb s t) (with_key k (page_of d s)) (page_of d t) (false_from_ne_true (eqb s t) (λ e. o (eqb-true s t e)))

-- ---- the sound state

module _ (homes homes' : Key → Home) (d : Table) (grips : List Grip) (x : At) (s : ℕ) (keys : List Key) (k : Key) (can : CanGrow d x s keys k) (sound : IsSoundTable homes d grips)
    (now : homes' k ≡ InSlot (record { slot = s; index = length keys })) (others : (q : Key) → (k ≡ q → ⊥) → homes' q ≡ homes q) where
  abbrev d' : Table
  d' = grown d s k

  abbrev more : List Key
  more = keys ++ k ∷ []

  abbrev spot : Spot
  spot = record { slot = s; index = length keys }

  was_from : (slot_of d s).led ≡ From x
  was_from = sound.holds_counted.back x s can.live can.leads

  x_was : TiesPage homes d (pointer_of d x).span s (Leaf keys)
  x_was = subst (λ (q : Page). TiesPage homes d (pointer_of d x).span s q) can.page
      (subst (λ (o : Option ℕ). TiesTo homes d (pointer_of d x).span (pointer_of d x).page o) can.leads (sound.one_home_each.ties x can.live))

  new_index : leaf_home s 0 more k ≡ InSlot spot
  new_index = leaf-new s 0 keys k can.new ∙ ap (λ (j : ℕ). InSlot (record { slot = s; index = j })) (let same : 0 + length keys ≡ length keys = omega arith in same)

  is_page : page_of d' s ≡ Leaf more
  is_page = grown-page d s k keys can.page

  page-other : (t : ℕ) → (s ≡ t → ⊥) → page_of d' t ≡ page_of d t
  page-other = grown-other d s k

  -- a leaf is a leaf still, and the other pages are as they were
  pointer-same : (t j : ℕ) → has_pointer (page_of d' t) j ≡ has_pointer (page_of d t) j
  pointer-same t j =
      elim (number_or_other s t) [
        | inl e ↦ subst (λ (u : ℕ). has_pointer (page_of d' u) j ≡ has_pointer (page_of d u) j) e.0
            (ap (λ (q : Page). has_pointer q j) is_page ∙ sym (ap (λ (q : Page). has_pointer q j) can.page))
        | inr o ↦ ap (λ (q : Page). has_pointer q j) (page-other t o.0)
      ]

  inner-same : (t : ℕ) → is_inner (page_of d' t) ≡ is_inner (page_of d t)
  inner-same t =
      elim (number_or_other s t) [
        | inl e ↦ subst (λ (u : ℕ). is_inner (page_of d' u) ≡ is_inner (page_of d u)) e.0 (ap is_inner is_page ∙ sym (ap is_inner can.page))
        | inr o ↦ ap is_inner (page-other t o.0)
      ]

  live-same : (y : At) → is_live d' y ≡ is_live d y
  live-same (Root r) = refl
  live-same (In z) = ap (λ (b : Bool). is_led (slot_of d z.slot).led && b) (pointer-same z.slot z.index)

  to-same : (o : Option ℕ) → is_last_to d' o ≡ is_last_to d o
  to-same None = refl
  to-same (Some t) = ap not (inner-same t)

  last-same : (y : At) → is_last d' y ≡ is_last d y
  last-same y = ap (λ (b : Bool). b && is_last_to d' (pointer_of d y).slot) (live-same y) ∙ ap (λ (b : Bool). is_live d y && b) (to-same (pointer_of d y).slot)

  x_end : is_last d x ≡ true
  x_end = and_from (is_live d x) (is_last_to d (pointer_of d x).slot) can.live (ap (is_last_to d) can.leads ∙ ap (λ (q : Page). not (is_inner q)) can.page)

  x_page : TiesPage homes' d' (pointer_of d x).span s (Leaf more)
  x_page = (
    λ q inside. elim (key_or_other k q) [
      | inl e ↦ subst (λ (z : Key). homes' z ≡ leaf_home s 0 more z) e (now ∙ sym new_index)
      | inr o ↦ others q o ∙ x_was.0 q inside ∙ elim (cases_Bool (has_key keys q)) [
        | inl hit ↦ sym (leaf-old s 0 keys k q hit)
        | inr miss ↦ leaf-none s 0 keys q miss ∙ sym (leaf-none s 0 more q (false_from_ne_true (has_key more q) (λ h. elim (has-append keys k q h) [
          | inl old ↦ true≢false (sym old ∙ miss)
          | inr is ↦ o is
        ])))
      ]
    ],
    λ q h. elim (has-append keys k q h) [ inl old ↦ x_was.1 q old | inr is ↦ subst (λ (z : Key). in_span (pointer_of d x).span z ≡ true) is can.inside ],
    once-append keys k x_was.2 can.new,
  )
    where
      key_or_other : (a b : Key) → (a ≡ b) ⊎ (a ≡ b → ⊥)
      key_or_other a b =
          elim (cases_Bool (same_key a b)) [
            | inl hit ↦ inl (same_key-true a b hit)
            | inr miss ↦ inr (λ e. true≢false (sym (subst (λ (z : Key). same_key a z ≡ true) e (same_key-self a)) ∙ miss))
          ]

  -- below another end the key isn't
  kept_below : (y : At) → (x ≡ y → ⊥) → is_last d y ≡ true → (q : Key) → in_span (pointer_of d y).span q ≡ true → homes' q ≡ homes q
  kept_below y other last q inside = others q (λ e. other (sound.one_home_each.apart x y x_end last k can.inside (subst (λ (z : Key). in_span (pointer_of d y).span z ≡ true) (sym e) inside)))

  ties_page : (span : Span) (t : ℕ) (pg : Page) → (is_inner pg ≡ false → (q : Key) → in_span span q ≡ true → homes' q ≡ homes q) → TiesPage homes d span t pg → TiesPage homes' d' span t pg
  ties_page span t Blank kept ties = ties
  ties_page span t (Leaf ks) kept ties = (λ q inside. kept refl q inside ∙ ties.0 q inside, ties.1, ties.2)
  ties_page span t (Inner n) kept ties = ties
  ties_page span t Split kept ties = ties

  ties_to : (span : Span) (l : ℕ) (o : Option ℕ) → ((t : ℕ) → o ≡ Some t → s ≡ t → ⊥) → (is_last_to d o ≡ true → (q : Key) → in_span span q ≡ true → homes' q ≡ homes q)
      → TiesTo homes d span l o → TiesTo homes' d' span l o
  ties_to span l None other kept ties = λ q inside. kept refl q inside ∙ ties q inside
  ties_to span l (Some t) other kept ties =
      subst (λ (q : Page). TiesPage homes' d' span t q) (sym (page-other t (other t refl))) (ties_page span t (page_of d t) (λ e. kept (ap not e)) ties)

  led_so : (t : ℕ) (state : SlotState) (led : Led) → IsLedSo d t state led → IsLedSo d' t state led
  led_so t state Never so = so
  led_so t state (From y) so = (so.0, live-same y ∙ so.1, so.2)
  led_so t state Away so = so

  from_away : (y : At) → From y ≡ Away → ⊥
  from_away y e = cc

  pub grown_sound : IsSoundTable homes' d' grips
  grown_sound = record {
    one_home_each = record {
      ties = λ y live. let was = sym (live-same y) ∙ live in elim (at_or_other x y) [
        | inl e ↦ subst (λ (z : At). TiesTo homes' d' (pointer_of d z).span (pointer_of d z).page (pointer_of d z).slot) e.0
            (subst (λ (o : Option ℕ). TiesTo homes' d' (pointer_of d x).span (pointer_of d x).page o) (sym can.leads)
            (subst (λ (q : Page). TiesPage homes' d' (pointer_of d x).span s q) (sym is_page) x_page))
        | inr o ↦ ties_to (pointer_of d y).span (pointer_of d y).page (pointer_of d y).slot
            (λ t leads e. o.0 (from_from x y (sym was_from ∙ ap (λ (u : ℕ). (slot_of d u).led) e ∙ sound.holds_counted.back y t was leads)))
            (λ to_end q inside. kept_below y o.0 (and_from (is_live d y) (is_last_to d (pointer_of d y).slot) was to_end) q inside) (sound.one_home_each.ties y was)
      ];
      apart = λ y z ly lz. sound.one_home_each.apart y z (sym (last-same y) ∙ ly) (sym (last-same z) ∙ lz);
      own = λ q y e. elim (cases_Bool (same_key k q)) [
        | inl hit ↦
            let key : k ≡ q = same_key-true k q hit in
            let is : spot ≡ y = spot_is (InSlot spot) y refl (sym now ∙ subst (λ (z : Key). homes' z ≡ InSlot y) (sym key) e) in
            subst (λ (z : Spot). IsOwnHome d' q z) is (subst (λ (z : Key). IsOwnHome d' z spot) key (record { keys = more; page = is_page; at = new_index; led = ap is_led was_from }))
        | inr miss ↦
            let at = sym (others q (λ is. true≢false (sym (subst (λ (z : Key). same_key k z ≡ true) is (same_key-self k)) ∙ miss))) ∙ e in
            let was = sound.one_home_each.own q y at in
            elim (number_or_other s y.slot) [
              | inl is ↦
                  let same : was.keys ≡ keys = leaf_leaf was.keys keys (sym was.page ∙ ap (page_of d) (sym is.0) ∙ can.page) in
                  let there = subst (λ (l : List Key). leaf_home y.slot 0 l q ≡ InSlot y) same was.at in
                  record {
                    keys = more;
                    page = ap (page_of d') (sym is.0) ∙ is_page;
                    at = leaf-old y.slot 0 keys k q (leaf-in y.slot 0 keys q y there).there ∙ there;
                    led = was.led;
                  }
              | inr o ↦ record { keys = was.keys; page = page-other y.slot o.0 ∙ was.page; at = was.at; led = was.led }
            ]
      ];
      dead = λ t away j there. elim (number_or_other s t) [
        | inl e ↦ absurd (from_away x (sym was_from ∙ ap (λ (u : ℕ). (slot_of d u).led) e.0 ∙ away))
        | inr o ↦ sound.one_home_each.dead t away j (sym (ap (λ (q : Page). has_pointer q j) (page-other t o.0)) ∙ there)
      ];
    };
    holds_counted = record {
      counted = sound.holds_counted.counted;
      led = λ t. led_so t (slot_of d t).state (slot_of d t).led (sound.holds_counted.led t);
      back = λ y t live leads. sound.holds_counted.back y t (sym (live-same y) ∙ live) leads;
    };
    snapshots_fixed = record { pointers = λ y live. sound.snapshots_fixed.pointers y (sym (live-same y) ∙ live); closed = sound.snapshots_fixed.closed };
  }
    where
      spot_is : (h : Home) (y : Spot) → h ≡ InSlot spot → h ≡ InSlot y → spot ≡ y
      spot_is h y e f = let both : InSlot spot ≡ InSlot y = sym e ∙ f in cc
