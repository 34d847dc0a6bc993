-- The two cases of Swing: a leaf, and an interior page of which no pointer leads to a slot.
use Rattle.std.proofs.Common.{◌≡◌, ℕ, true, false, not, true≢false, eqb, eqb-true, eq-eqb, inl, inr, List, [], ◌∷◌, refl, sym, ap, ◌∙◌, subst, Option, Some, None}
use Rattle.std.proofs.lemmas.Bool.{and_parts, and_from, or_cases, or_left, false_from_ne_true}
use Rattle.serial_model.specs.declared.key.Key.{Key}
use Rattle.homes.specs.declared.places.At.{At}
use Rattle.homes.specs.declared.places.At.TheVariants.{Root, In}
use Rattle.homes.specs.declared.places.Home.{Home}
use Rattle.homes.specs.Homes.{has_key, in_span}
use Rattle.drop_core.specs.declared.table.Led.TheVariants.{From}
use Rattle.drop_core.specs.declared.table.Page.{Page}
use Rattle.drop_core.specs.declared.table.Page.TheVariants.{Leaf, Inner}
use Rattle.drop_core.specs.declared.table.Table.{Table}
use Rattle.drop_core.specs.declared.grip.Grip.{Grip}
use Rattle.drop_core.specs.Table.{slot_of, page_of, pointer_of, has_slot, at_index, snap_home, leaf_home, is_led, has_pointer, is_live, is_inner, is_last_to}
use Rattle.drop_core.specs.Event.{child, is_in}
use Rattle.drop_core.specs.Sound.{TiesPage, TiesTo, IsSoundTable}
use Rattle.drop_core.specs.HomeLaws.{leaf-none, leaf-in}
use Rattle.drop_core.proofs.Conditions.{CanSwing, CanSwingInner, CanDrop}

one_slot : (s t : ℕ) → has_slot (s ∷ []) t ≡ true → s ≡ t
one_slot s t e = elim (or_cases (eqb s t) false e) [ inl h ↦ eqb-true s t h | inr n ↦ absurd (true≢false (sym n)) ]

slot_one : (s t : ℕ) → s ≡ t → has_slot (s ∷ []) t ≡ true
slot_one s t e = or_left (eqb s t) false (eq-eqb s t e)

some_some : (s t : ℕ) → Some s ≡ Some t → s ≡ t
some_some s t e = cc

none_some : (t : ℕ) → None ≡ Some t → ⊥
none_some t e = cc

leaf_leaf : (a b : List Key) → Leaf a ≡ Leaf b → a ≡ b
leaf_leaf a b e = cc

leaf_inner : (ks : List Key) (l : ℕ) → Leaf ks ≡ Inner l → ⊥
leaf_inner ks l e = cc

module _ (homes : Key → Home) (d : Table) (grips : List Grip) (sound : IsSoundTable homes d grips) (s : ℕ) where
  -- a live pointer in the slot's page is one that the page has
  live_there : (y : At) → is_in (s ∷ []) y ≡ true → is_live d y ≡ true → (j : ℕ) × (y ≡ at_index s j) × (has_pointer (page_of d s) j ≡ true)
  live_there (Root r) e live = absurd (true≢false (sym e))
  live_there (In z) e live = let is = one_slot s z.slot e in (
    z.index,
    ap (λ (u : ℕ). at_index u z.index) (sym is),
    ap (λ (u : ℕ). has_pointer (page_of d u) z.index) is ∙ (and_parts (is_led (slot_of d z.slot).led) (has_pointer (page_of d z.slot) z.index) live).1,
  )

  -- ---- a leaf

  module _ (x : At) (n : ℕ) (keys : List Key) (can : CanSwing d x n s keys) where
    no_pointer_in : (y : At) → is_in (s ∷ []) y ≡ true → is_live d y ≡ true → ⊥
    no_pointer_in y e live = let r = live_there y e live in true≢false (sym r.2 ∙ ap (λ (q : Page). has_pointer q r.0) can.page)

    tied : TiesPage homes d (pointer_of d x).span s (Leaf keys)
    tied = subst (λ (q : Page). TiesPage homes d (pointer_of d x).span s q) can.page
        (subst (λ (o : Option ℕ). TiesTo homes d (pointer_of d x).span (pointer_of d x).page o) can.leads (sound.one_home_each.ties x can.live))

    pub within : (k : Key) → has_key keys k ≡ true → in_span (pointer_of d x).span k ≡ true
    within = tied.1

    -- the keys were in the leaf
    pub was_leaf : (k : Key) → has_key keys k ≡ true → homes k ≡ leaf_home s 0 keys k
    was_leaf k hit = tied.0 k (within k hit)

    pub leaf_drop : CanDrop homes d x n (s ∷ []) keys
    leaf_drop = record {
      live = can.live;
      published = can.published;
      outside = false_from_ne_true (is_in (s ∷ []) x) (λ e. no_pointer_in x e can.live);
      leads = λ t e. slot_one s t (some_some s t (sym can.leads ∙ e));
      inside = λ y t e live _. absurd (no_pointer_in y e live);
      led = λ t e. (x, ap (λ (u : ℕ). (slot_of d u).led) (sym (one_slot s t e)) ∙ sound.holds_counted.back x s can.live can.leads, inl refl);
      ends = λ k inside. (
        x,
        and_from (is_live d x) (is_last_to d (pointer_of d x).slot) can.live (ap (is_last_to d) can.leads ∙ ap (λ (q : Page). not (is_inner q)) can.page),
        inside,
        inl refl,
      );
      within = within;
      all = λ k y at e.
          let is = one_slot s y.slot e in
          let own = sound.one_home_each.own k y at in
          let same : own.keys ≡ keys = leaf_leaf own.keys keys (sym own.page ∙ ap (page_of d) (sym is) ∙ can.page) in
          subst (λ (l : List Key). has_key l k ≡ true) same (leaf-in y.slot 0 own.keys k y own.at).there;
      rest = λ k inside miss. tied.0 k inside ∙ leaf-none s 0 keys k miss ∙ sym (can.none k inside miss);
    }

  -- ---- an interior page

  module _ (x : At) (n count : ℕ) (can : CanSwingInner d x n s count) where
    there : (y : At) → is_in (s ∷ []) y ≡ true → is_live d y ≡ true → (pointer_of d y).slot ≡ None
    there y e live =
        let r = live_there y e live in
        ap (λ (z : At). (pointer_of d z).slot) r.1 ∙ can.fits.none r.0 (ap (λ (q : Page). has_pointer q r.0) (sym can.page) ∙ r.2)

    was_from : (slot_of d s).led ≡ From x
    was_from = sound.holds_counted.back x s can.live can.leads

    was_inner : TiesPage (homes) d (pointer_of d x).span s (Inner count)
    was_inner = subst (λ (q : Page). TiesPage (homes) d (pointer_of d x).span s q) can.page
        (subst (λ (o : Option ℕ). TiesTo (homes) d (pointer_of d x).span (pointer_of d x).page o) can.leads (sound.one_home_each.ties x can.live))

    child_live : (j : ℕ) → has_pointer (Inner count) j ≡ true → is_live d (at_index s j) ≡ true
    child_live j e = and_from (is_led (slot_of d s).led) (has_pointer (page_of d s) j) (ap is_led was_from) (ap (λ (q : Page). has_pointer q j) can.page ∙ e)

    child_home : (j : ℕ) (k : Key) → has_pointer (Inner count) j ≡ true → in_span (child d s j).span k ≡ true → homes k ≡ snap_home d n k
    child_home j k e inside =
        subst (λ (o : Option ℕ). TiesTo (homes) d (child d s j).span (child d s j).page o) (can.fits.none j e) (sound.one_home_each.ties (at_index s j) (child_live j e)) k inside
        ∙ can.fits.same j k e inside

    pub inner_drop : CanDrop homes d x n (s ∷ []) []
    inner_drop = record {
      live = can.live;
      published = can.published;
      outside = false_from_ne_true (is_in (s ∷ []) x) (λ e. none_some s (sym (there x e can.live) ∙ can.leads));
      leads = λ t e. slot_one s t (some_some s t (sym can.leads ∙ e));
      inside = λ y t e live leads. absurd (none_some t (sym (there y e live) ∙ leads));
      led = λ t e. (x, ap (λ (u : ℕ). (slot_of d u).led) (sym (one_slot s t e)) ∙ was_from, inl refl);
      ends = λ k inside. let r = was_inner.0 k inside in (
        at_index s r.0,
        and_from (is_live d (at_index s r.0)) (is_last_to d (child d s r.0).slot) (child_live r.0 r.1) (ap (is_last_to d) (can.fits.none r.0 r.1)),
        r.2,
        inr (slot_one s s refl),
      );
      within = λ k hit. absurd (true≢false (sym hit));
      all = λ k y at e. let own = sound.one_home_each.own k y at in absurd (leaf_inner own.keys count (sym own.page ∙ ap (page_of d) (sym (one_slot s y.slot e)) ∙ can.page));
      rest = λ k inside _. let r = was_inner.0 k inside in child_home r.0 k r.1 r.2;
    }
