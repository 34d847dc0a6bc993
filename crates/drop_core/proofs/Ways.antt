-- The way from a live pointer ends at the key's home.
use Rattle.std.proofs.Common.{◌≡◌, ℕ, zero, suc, ◌+◌, ◌<◌, ◌≤◌, true, false, true≢false, inl, inr, List, refl, sym, ap, ◌∙◌, subst, arith, Option, Some, None}
use Rattle.std.proofs.lemmas.Bool.{cases_Bool, and_parts, and_from, cond-true, cond-false}
use Rattle.std.proofs.lemmas.Bool.Decides.{nat_tests}
use Rattle.std.specs.Prelude.{nat_lt}
use Rattle.serial_model.specs.declared.key.Key.{Key}
use Rattle.homes.specs.declared.places.At.{At}
use Rattle.homes.specs.declared.places.Span.{Span}
use Rattle.homes.specs.declared.places.Home.{Home}
use Rattle.homes.specs.declared.places.At.TheVariants.{Root, In}
use Rattle.homes.specs.Homes.{in_span}
use Rattle.homes.specs.Laws.{number_or_other}
use Rattle.drop_core.specs.declared.table.Led.TheVariants.{From}
use Rattle.drop_core.specs.declared.table.Page.{Page}
use Rattle.drop_core.specs.declared.table.Page.TheVariants.{Blank, Leaf, Inner, Split}
use Rattle.drop_core.specs.declared.table.Table.{Table}
use Rattle.drop_core.specs.declared.grip.Grip.{Grip}
use Rattle.drop_core.specs.Table.{slot_of, page_of, pointer_of, at_index, is_led, has_pointer, is_live}
use Rattle.drop_core.specs.Sound.{span_at, TiesPage, TiesTo, IsSoundTable, IsRanked}
use Rattle.drop_core.specs.Way.{option_and_then, child_with, way_page, way_to, way}

-- the child that is found is one of the page's, and has the key
child-found : (spans : At → Span) (s n : ℕ) (k : Key) (y : At) → child_with spans s n k ≡ Some y → (j : ℕ) × (y ≡ at_index s j) × (nat_lt j n ≡ true) × (in_span (spans (at_index s j)) k ≡ true)
child-found spans s zero k y e = absurd (none_some y e)
  where
    none_some : (y : At) → None ≡ Some y → ⊥
    none_some y e = cc
child-found spans s (suc n) k y e =
    elim (cases_Bool (in_span (spans (at_index s n)) k)) [
      | inl hit ↦ (n, sym (some_at (at_index s n) y (sym (cond-true (in_span (spans (at_index s n)) k) (Some (at_index s n)) (child_with spans s n k) hit) ∙ e)), last n, hit)
      | inr miss ↦ let r = child-found spans s n k y (sym (cond-false (in_span (spans (at_index s n)) k) (Some (at_index s n)) (child_with spans s n k) miss) ∙ e) in (r.0, r.1, less r.0 n r.2, r.3)
    ]
  where
    some_at : (a b : At) → Some a ≡ Some b → a ≡ b
    some_at a b e = cc

    last : (n : ℕ) → nat_lt n (suc n) ≡ true
    last n = grind (arith, nat_tests)

    less : (j n : ℕ) → nat_lt j n ≡ true → nat_lt j (suc n) ≡ true
    less j n e = grind (arith, nat_tests)

-- where a child has the key, one is found
child-there : (spans : At → Span) (s n : ℕ) (k : Key) → child_with spans s n k ≡ None → (j : ℕ) → nat_lt j n ≡ true → in_span (spans (at_index s j)) k ≡ true → ⊥
child-there spans s zero k e j less inside = none j less
  where
    none : (j : ℕ) → nat_lt j 0 ≡ true → ⊥
    none j less = grind (arith, nat_tests)
child-there spans s (suc n) k e j less inside =
    elim (cases_Bool (in_span (spans (at_index s n)) k)) [
      | inl hit ↦ some_none (at_index s n) (sym (cond-true (in_span (spans (at_index s n)) k) (Some (at_index s n)) (child_with spans s n k) hit) ∙ e)
      | inr miss ↦ elim (number_or_other n j) [
        | inl is ↦ true≢false (sym (subst (λ (m : ℕ). in_span (spans (at_index s m)) k ≡ true) (sym is.0) inside) ∙ miss)
        | inr other ↦ child-there spans s n k (sym (cond-false (in_span (spans (at_index s n)) k) (Some (at_index s n)) (child_with spans s n k) miss) ∙ e) j (under n j less other.0) inside
      ]
    ]
  where
    some_none : (y : At) → Some y ≡ None → ⊥
    some_none y e = cc

    under : (n j : ℕ) → nat_lt j (suc n) ≡ true → (n ≡ j → ⊥) → nat_lt j n ≡ true
    under n j less other = elim (cases_Bool (nat_lt j n)) [ inl e ↦ e | inr e ↦ absurd (other (at_least n j less e)) ]
      where
        at_least : (n j : ℕ) → nat_lt j (suc n) ≡ true → nat_lt j n ≡ false → n ≡ j
        at_least n j less e = grind (arith, nat_tests)

-- ---- the way from a live pointer ends at the key's home: ranks rise along it

module _ (homes : Key → Home) (d : Table) (grips : List Grip) (sound : IsSoundTable homes d grips) (ranked : IsRanked (λ s. (slot_of d s).led)) (k : Key) where
  -- so many steps are enough from here
  abbrev Near : At → ℕ → Type 0
  Near (Root r) f = ranked.top < f
  Near (In z) f = ranked.top ≤ f + ranked.rank z.slot

  abbrev Ends : ℕ → Type 0
  Ends f = (y : At) → is_live d y ≡ true → in_span (pointer_of d y).span k ≡ true → Near y f → way f d y k ≡ Some (homes k)

  by_child : (f : ℕ) (s n : ℕ) (o : Option At) → child_with (span_at d) s n k ≡ o → ((j : ℕ) → has_pointer (page_of d s) j ≡ nat_lt j n) → is_led (slot_of d s).led ≡ true
      → ((j : ℕ) × (nat_lt j n ≡ true) × (in_span (span_at d (at_index s j)) k ≡ true)) → ranked.top ≤ f + ranked.rank s → Ends f
      → option_and_then (λ y. way f d y k) o ≡ Some (homes k)
  by_child f s n None is page led some near ends = absurd (child-there (span_at d) s n k is some.0 some.1 some.2)
  by_child f s n (Some y) is page led some near ends =
      let r = child-found (span_at d) s n k y is in
      subst (λ (z : At). way f d z k ≡ Some (homes k)) (sym r.1)
      (ends (at_index s r.0) (and_from (is_led (slot_of d s).led) (has_pointer (page_of d s) r.0) led (page r.0 ∙ r.2)) r.3 near)

  by_page : (f : ℕ) (span : Span) (s : ℕ) (pg : Page) → page_of d s ≡ pg → is_led (slot_of d s).led ≡ true → in_span span k ≡ true
      → ranked.top ≤ f + ranked.rank s → Ends f → TiesPage homes d span s pg → way_page (λ y. way f d y k) (span_at d) s k pg ≡ Some (homes k)
  by_page f span s Blank page led inside near ends ties = absurd ties
  by_page f span s (Leaf keys) page led inside near ends ties = ap (λ (h : Home). Some h) (sym (ties.0 k inside))
  by_page f span s (Inner n) page led inside near ends ties =
      by_child f s n (child_with (span_at d) s n k) refl (λ j. ap (λ (q : Page). has_pointer q j) page) led (ties.0 k inside) near ends
  by_page f span s Split page led inside near ends ties =
      by_child f s 2 (child_with (span_at d) s 2 k) refl (λ j. ap (λ (q : Page). has_pointer q j) page) led (ties.0 k inside) near ends

  by_slot : (f : ℕ) (x : At) (o : Option ℕ) → (pointer_of d x).slot ≡ o → is_live d x ≡ true → in_span (pointer_of d x).span k ≡ true
      → ((s : ℕ) → (slot_of d s).led ≡ From x → ranked.top ≤ f + ranked.rank s) → Ends f
      → TiesTo homes d (pointer_of d x).span (pointer_of d x).page o → way_to (λ y. way f d y k) d k o (pointer_of d x).page ≡ Some (homes k)
  by_slot f x None is live inside near ends ties = ap (λ (h : Home). Some h) (sym (ties k inside))
  by_slot f x (Some s) is live inside near ends ties =
      let led = sound.holds_counted.back x s live is in
      by_page f (pointer_of d x).span s (page_of d s) refl (ap is_led led) inside (near s led) ends ties

  -- one step less is enough from the slot that the pointer leads to
  nearer : (f : ℕ) (x : At) → Near x (suc f) → (s : ℕ) → (slot_of d s).led ≡ From x → ranked.top ≤ f + ranked.rank s
  nearer f (Root r) near s led = omega (arith, near)
  nearer f (In z) near s led = let less = ranked.below s z led in omega (arith, near, less)

  -- there is a step to take
  far : (x : At) → is_live d x ≡ true → Near x 0 → ⊥
  far (Root r) live near = absurd (omega (arith, near))
  far (In z) live near =
      let less = ranked.within z.slot (and_parts (is_led (slot_of d z.slot).led) (has_pointer (page_of d z.slot) z.index) live).0 in
      absurd (omega (arith, near, less))

  ends_at : (f : ℕ) → Ends f
  unfolding way
  ends_at zero x live inside near = absurd (far x live near)
  ends_at (suc f) x live inside near =
      by_slot f x (pointer_of d x).slot refl live inside (nearer f x near) (ends_at f) (sound.one_home_each.ties x live)

  near_top : (x : At) → Near x (ranked.top + 1)
  near_top (Root r) = omega arith
  near_top (In z) = omega arith

pub way_home : (homes : Key → Home) (d : Table) (grips : List Grip) (sound : IsSoundTable homes d grips) (ranked : IsRanked (λ s. (slot_of d s).led)) (x : At) (k : Key)
    → is_live d x ≡ true → in_span (pointer_of d x).span k ≡ true → way (ranked.top + 1) d x k ≡ Some (homes k)
way_home homes d grips sound ranked x k live inside = ends_at homes d grips sound ranked k (ranked.top + 1) x live inside (near_top homes d grips sound ranked k x)
