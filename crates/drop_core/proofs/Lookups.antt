-- Look-ups, item by item.
use Rattle.std.proofs.Common.{◌≡◌, ℕ, zero, suc, ◌+◌, ◌-◌, ◌<◌, Bool, true, false, ◌&&◌, List, [], ◌∷◌, ◌++◌, length, take, drop, get_or, refl, sym, ap, ◌∙◌, subst, arith, Option, Some, None}
use Rattle.std.proofs.lemmas.Bool.{cond-true}
use Rattle.std.proofs.lemmas.Grind.{common_steps}
use Rattle.std.proofs.lemmas.List.{drop_more, take_more}
use Rattle.std.specs.List.{find}
use Rattle.std.specs.Option.{option_map_or}
use Rattle.serial_model.specs.declared.key.Key.{Key}
use Rattle.homes.specs.declared.places.Content.{Content}
use Rattle.homes.specs.declared.places.At.{At}
use Rattle.homes.specs.declared.places.At.TheVariants.{Root}
use Rattle.homes.specs.declared.places.Span.{Span}
use Rattle.homes.specs.declared.places.Home.TheVariants.{InSlot, InPage, Nowhere}
use Rattle.homes.specs.Homes.{same_key, in_span, look}
use Rattle.homes.specs.Laws.{look-found}
use Rattle.drop_core.specs.declared.table.Pointer.{Pointer}
use Rattle.drop_core.specs.declared.table.SnapPage.{SnapPage}
use Rattle.drop_core.specs.declared.table.SnapPage.TheVariants.{Missing, Entries, Children}
use Rattle.drop_core.specs.Table.{entry_home, child_of, snap_step, snap_walk, leaf_home}
use Rattle.drop_core.specs.Event.{all_below}
use Rattle.drop_core.specs.Opening.{root_pointer, root_pointers}

-- ---- what was found

pub looked-up : {K V : Type 0} (same : K → K → Bool) (d : V) (xs : List (K × V)) (q : K) (e : K × V) → find (λ x. same x.0 q) xs ≡ Some e → e.1 ≡ look same d xs q
looked-up {K} {V} same d xs q e is = sym (look-found same d xs q ∙ ap (λ (o : Option (K × V)). option_map_or (λ x. x.1) o d) is)

pub looked-none : {K V : Type 0} (same : K → K → Bool) (d : V) (xs : List (K × V)) (q : K) → find (λ x. same x.0 q) xs ≡ None → d ≡ look same d xs q
looked-none {K} {V} same d xs q is = sym (look-found same d xs q ∙ ap (λ (o : Option (K × V)). option_map_or (λ x. x.1) o d) is)

-- what was found in an equal list
pub found_in : {A : Type 0} (test : A → Bool) {xs ys : List A} {o : Option A} → ys ≡ xs → find test ys ≡ o → find test xs ≡ o
found_in test same is = ap (find test) (sym same) ∙ is

-- ---- one item at a time

pub entry-here : (n : ℕ) (xs : List (Key × Content)) (k : Key) (i : ℕ) (d : Key × Content) → i < length xs → entry_home n xs k ≡ entry_home n (drop i xs) k
    → same_key (get_or xs i d).0 k ≡ true → InPage n (get_or xs i d).1 ≡ entry_home n xs k
entry-here n xs k i d lt so hit =
    sym (so ∙ ap (λ (l : List (Key × Content)). entry_home n l k) (drop_more xs i d lt)
    ∙ cond-true (same_key (get_or xs i d).0 k) (InPage n (get_or xs i d).1) (entry_home n (drop (i + 1) xs) k) hit)

pub child-here : (xs : List (Span × ℕ)) (k : Key) (i : ℕ) (d : Span × ℕ) → i < length xs → child_of xs k ≡ child_of (drop i xs) k
    → in_span (get_or xs i d).0 k ≡ true → (get_or xs i d).1 ≡ child_of xs k
child-here xs k i d lt so hit =
    sym (so ∙ ap (λ (l : List (Span × ℕ)). child_of l k) (drop_more xs i d lt)
    ∙ cond-true (in_span (get_or xs i d).0 k) (get_or xs i d).1 (child_of (drop (i + 1) xs) k) hit)

pub key-here : (s : ℕ) (xs : List Key) (k : Key) (i : ℕ) (d : Key) → i < length xs → leaf_home s 0 xs k ≡ leaf_home s i (drop i xs) k
    → same_key (get_or xs i d) k ≡ true → InSlot (record { slot = s; index = i }) ≡ leaf_home s 0 xs k
key-here s xs k i d lt so hit =
    sym (so ∙ ap (λ (l : List Key). leaf_home s i l k) (drop_more xs i d lt)
    ∙ cond-true (same_key (get_or xs i d) k) (InSlot (record { slot = s; index = i })) (leaf_home s (suc i) (drop (i + 1) xs) k) hit)

-- ---- one number more

pub below-next : (n : ℕ) (test : ℕ → Bool) → all_below (n + 1) test ≡ (test n && all_below n test)
below-next n test = ap (λ (m : ℕ). all_below m test) (next n)
  where
    next : (n : ℕ) → n + 1 ≡ suc n
    next n = omega arith

-- ---- one root more

pub roots-more : (i : ℕ) (xs : List (Span × ℕ)) (e : Span × ℕ) → root_pointers i (xs ++ e ∷ []) ≡ root_pointers i xs ++ (Root (i + length xs), root_pointer e.0 e.1) ∷ []
roots-more i [] e = ap (λ (n : ℕ). (Root n, root_pointer e.0 e.1) ∷ []) (none i)
  where
    none : (i : ℕ) → i ≡ i + 0
    none i = omega arith
roots-more i (x ∷ xs) e =
    ap (λ (l : List (At × Pointer)). (Root i, root_pointer x.0 x.1) ∷ l)
    (roots-more (suc i) xs e ∙ ap (λ (n : ℕ). root_pointers (suc i) xs ++ (Root n, root_pointer e.0 e.1) ∷ []) (next i (length xs)))
  where
    next : (i n : ℕ) → suc i + n ≡ i + suc n
    next i n = omega arith

-- the roots so far, and the next
pub roots-next : (xs : List (Span × ℕ)) (i : ℕ) (d : Span × ℕ) → i < length xs
    → root_pointers 0 (take (i + 1) xs) ≡ root_pointers 0 (take i xs) ++ (Root i, root_pointer (get_or xs i d).0 (get_or xs i d).1) ∷ []
roots-next xs i d lt =
    ap (root_pointers 0) (take_more xs i d lt) ∙ roots-more 0 (take i xs) (get_or xs i d)
    ∙ ap (λ (n : ℕ). root_pointers 0 (take i xs) ++ (Root n, root_pointer (get_or xs i d).0 (get_or xs i d).1) ∷ []) (front xs i lt)
  where
    front : (xs : List (Span × ℕ)) (i : ℕ) → i < length xs → 0 + length (take i xs) ≡ i
    front xs i lt = grind (arith, common_steps)

-- the same, from the parts
pub roots-join : (xs : List (Span × ℕ)) (i j : ℕ) (d : Span × ℕ) (old new : List (At × Pointer)) (q : Pointer) → i ≡ j → j < length xs → old ≡ root_pointers 0 (take i xs)
    → q ≡ root_pointer (get_or xs j d).0 (get_or xs j d).1 → new ≡ old ++ (Root i, q) ∷ [] → new ≡ root_pointers 0 (take (i + 1) xs)
roots-join xs i j d old new q same lt so is e =
    e ∙ ap (λ (r : Pointer). old ++ (Root i, r) ∷ []) (is ∙ ap (λ (n : ℕ). root_pointer (get_or xs n d).0 (get_or xs n d).1) (sym same))
    ∙ ap (λ (l : List (At × Pointer)). l ++ (Root i, root_pointer (get_or xs i d).0 (get_or xs i d).1) ∷ []) so
    ∙ sym (roots-next xs i d (subst (λ (n : ℕ). n < length xs) (sym same) lt))

-- one test more, that holds or doesn't
pub below-yes : (test : ℕ → Bool) (n : ℕ) (all next now : Bool) → now ≡ test n → now ≡ true → all ≡ all_below n test → next ≡ all → next ≡ all_below (n + 1) test
below-yes test n all next now is holds so e = e ∙ so ∙ ap (λ (b : Bool). b && all_below n test) (sym holds ∙ is) ∙ sym (below-next n test)

pub below-no : (test : ℕ → Bool) (n : ℕ) (next now : Bool) → now ≡ test n → now ≡ false → next ≡ now → next ≡ all_below (n + 1) test
below-no test n next now is fails e = e ∙ fails ∙ ap (λ (b : Bool). b && all_below n test) (sym fails ∙ is) ∙ sym (below-next n test)

-- ---- the way by snapshot pages

module _ (snaps : ℕ → SnapPage) where
  pub walk-zero : (f n : ℕ) (k : Key) → f ≡ 0 → Nowhere ≡ snap_walk f snaps n k
  unfolding snap_walk
  walk-zero zero n k e = refl
  walk-zero (suc f) n k e = absurd (no f e)
    where
      no : (f : ℕ) → suc f ≡ 0 → ⊥
      no f e = omega arith

  walk-step : (f n : ℕ) (k : Key) (page : SnapPage) → (f ≡ 0 → ⊥) → snaps n ≡ page → snap_step (λ m q. snap_walk (f - 1) snaps m q) n k page ≡ snap_walk f snaps n k
  unfolding snap_walk
  walk-step zero n k page e is = absurd (e refl)
  walk-step (suc f) n k page e is =
      ap (λ (g : ℕ). snap_step (λ m q. snap_walk g snaps m q) n k page) (less f) ∙ ap (snap_step (λ m q. snap_walk f snaps m q) n k) (sym is)
    where
      less : (f : ℕ) → suc f - 1 ≡ f
      less f = omega arith

  pub walk-missing : (f n : ℕ) (k : Key) → (f ≡ 0 → ⊥) → snaps n ≡ Missing → Nowhere ≡ snap_walk f snaps n k
  walk-missing f n k e is = walk-step f n k Missing e is

  pub walk-entries : (f n : ℕ) (k : Key) (over : Span) (entries : List (Key × Content)) → (f ≡ 0 → ⊥) → snaps n ≡ Entries over entries → entry_home n entries k ≡ snap_walk f snaps n k
  walk-entries f n k over entries e is = walk-step f n k (Entries over entries) e is

  pub walk-children : (f n : ℕ) (k : Key) (over : Span) (children : List (Span × ℕ)) → (f ≡ 0 → ⊥) → snaps n ≡ Children over children
      → snap_walk (f - 1) snaps (child_of children k) k ≡ snap_walk f snaps n k
  walk-children f n k over children e is = walk-step f n k (Children over children) e is
