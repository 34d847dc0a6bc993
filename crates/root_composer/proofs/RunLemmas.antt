-- The entries of one storage in a run that rises by key.
use Rattle.std.proofs.Common.{◌≡◌, ℕ, ◌+◌, ◌<◌, ◌≤◌, zero, suc, true, false, List, [], ◌∷◌, ◌++◌, length, get_or, map, Option, Some, None, refl, ap, arith, inl, inr, eqb}
use Rattle.std.specs.Prelude.{cond}
use Rattle.std.specs.List.{AllByRecursion}
use Rattle.std.specs.List.Sorted.{IsNonDecreasingBy}
use Rattle.std.proofs.lemmas.Bool.Decides.{nat_tests}
use Rattle.lists.specs.Each.{all_weaker}
use Rattle.serial_model.specs.Keys.{IsKeyBelow}
use Rattle.serial_model.specs.Numbers.{IsNumber}
use Rattle.serial_model.specs.declared.key.Key.{Key}
use Rattle.serial_model.specs.declared.decl.Decl.{Decl}
use Rattle.wire_form.specs.declared.bucket.Entry.{Entry}
use Rattle.wire_form.specs.Items.{RisesAfter, Rises}
use Rattle.log_reducer.specs.Reduced.{entry_key}
use Rattle.root_composer.specs.declared.last.Last.{Last}
use Rattle.root_composer.specs.Rows.{Rising}
use Rattle.root_composer.specs.Storages.{last_of, part_of}
use Rattle.root_composer.specs.Composition.{IsEntryOf}

-- ---- order

key_then : (a b c : Key) → IsKeyBelow a b → IsKeyBelow b c → IsKeyBelow a c
key_then a b c (inl p) (inl q) = inl (omega arith)
key_then a b c (inl p) (inr q) = inl (omega (arith, q.0))
key_then a b c (inr p) (inl q) = inl (omega (arith, p.0))
key_then a b c (inr p) (inr q) = inr (omega (arith, p.0, q.0), omega (arith, p.1, q.1))

-- an earlier key is below all that rise after it
all_above : (k : Key) (es : List Entry) → RisesAfter IsKeyBelow (Some k) (map entry_key es) → AllByRecursion (λ e. IsKeyBelow k e.key) es
all_above k [] rise = tt
all_above k (e ∷ es) rise = (rise.0, all_weaker (λ f. IsKeyBelow e.key f.key) (λ f. IsKeyBelow k f.key) (λ f below. key_then k e.key f.key rise.0 below) es (all_above e.key es rise.1))

part_above : (id : ℕ) (k : Key) (es : List Entry) → k.storage ≡ id → AllByRecursion (λ e. IsKeyBelow k e.key) es → AllByRecursion (λ l. k.key ≤ l.key) (part_of id es)
part_above id k [] same all = tt
part_above id k (e ∷ es) same all =
    elim (eqb e.key.storage id) as (λ b. eqb e.key.storage id ≡ b → AllByRecursion (λ l. k.key ≤ l.key) (cond b (last_of e ∷ part_of id es) (part_of id es))) [
      | true ↦ λ t. (key_within (is_same e.key.storage id t) all.0, part_above id k es same all.1)
      | false ↦ λ t. part_above id k es same all.1
    ] refl
  where
    is_same : (a b : ℕ) → eqb a b ≡ true → a ≡ b
    is_same a b e = grind (arith, nat_tests)

    key_within : e.key.storage ≡ id → IsKeyBelow k e.key → k.key ≤ e.key.key
    key_within here (inl p) = absurd (omega arith)
    key_within here (inr p) = omega (arith, p.1)

-- numbers that are at least those before them
ordered : (l : Last) (ls : List Last) → AllByRecursion (λ m. l.key ≤ m.key) ls → IsNonDecreasingBy (λ (m : Last). m.key) ls → IsNonDecreasingBy (λ (m : Last). m.key) (l ∷ ls)
ordered l ls all rest zero zero d le h = omega arith
ordered l ls all rest zero (suc k) d le h = at ls k d all (omega (arith, h))
  where
    at : (ms : List Last) (k : ℕ) (d : Last) → AllByRecursion (λ m. l.key ≤ m.key) ms → k < length ms → l.key ≤ (get_or ms k d).key
    at [] k d all h = absurd (omega (arith, h))
    at (m ∷ ms) zero d all h = all.0
    at (m ∷ ms) (suc k) d all h = at ms k d all.1 (omega (arith, h))
ordered l ls all rest (suc i) zero d le h = absurd (omega (arith, le))
ordered l ls all rest (suc i) (suc k) d le h = rest i k d (omega (arith, le)) (omega (arith, h))

part_ordered : (id : ℕ) (last : Option Key) (es : List Entry) → RisesAfter IsKeyBelow last (map entry_key es) → IsNonDecreasingBy (λ (m : Last). m.key) (part_of id es)
part_ordered id last [] rise = λ i k d le h. absurd (omega (arith, h))
part_ordered id last (e ∷ es) rise =
    let rest = part_ordered id (Some e.key) es rise.1 in
    elim (eqb e.key.storage id) as (λ b. eqb e.key.storage id ≡ b → IsNonDecreasingBy (λ (m : Last). m.key) (cond b (last_of e ∷ part_of id es) (part_of id es))) [
      | true ↦ λ t. ordered (last_of e) (part_of id es) (part_above id e.key es (is_same e.key.storage id t) (all_above e.key es rise.1)) rest
      | false ↦ λ t. rest
    ] refl
  where
    is_same : (a b : ℕ) → eqb a b ≡ true → a ≡ b
    is_same a b e = grind (arith, nat_tests)

pub part_in_order : (id : ℕ) (run : List Entry) → Rises IsKeyBelow (map entry_key run) → IsNonDecreasingBy (λ (m : Last). m.key) (part_of id run)
part_in_order id run rise = part_ordered id None run rise

part_above_key : (id : ℕ) (k : Key) (es : List Entry) → k.storage ≡ id → AllByRecursion (λ e. IsKeyBelow k e.key) es → AllByRecursion (λ l. k.key < l.key) (part_of id es)
part_above_key id k [] same all = tt
part_above_key id k (e ∷ es) same all =
    elim (eqb e.key.storage id) as (λ b. eqb e.key.storage id ≡ b → AllByRecursion (λ l. k.key < l.key) (cond b (last_of e ∷ part_of id es) (part_of id es))) [
      | true ↦ λ t. (key_below (is_same e.key.storage id t) all.0, part_above_key id k es same all.1)
      | false ↦ λ t. part_above_key id k es same all.1
    ] refl
  where
    is_same : (a b : ℕ) → eqb a b ≡ true → a ≡ b
    is_same a b e = grind (arith, nat_tests)

    key_below : e.key.storage ≡ id → IsKeyBelow k e.key → k.key < e.key.key
    key_below here (inl p) = absurd (omega arith)
    key_below here (inr p) = omega (arith, p.1)

-- the keys of one storage rise strictly
part_rises_after : (id : ℕ) (last : Option Key) (es : List Entry) → RisesAfter IsKeyBelow last (map entry_key es) → Rising 0 (part_of id es)
part_rises_after id last [] rise = tt
part_rises_after id last (e ∷ es) rise =
    let rest = part_rises_after id (Some e.key) es rise.1 in
    elim (eqb e.key.storage id) as (λ b. eqb e.key.storage id ≡ b → Rising 0 (cond b (last_of e ∷ part_of id es) (part_of id es))) [
      | true ↦ λ t. (omega arith, from (e.key.key + 1) 0 (part_of id es) rest (all_weaker (λ l. e.key.key < l.key) (λ l. e.key.key + 1 ≤ l.key) (λ l h. omega (arith, h)) (part_of id es) (part_above_key id e.key es (is_same e.key.storage id t) (all_above e.key es rise.1))))
      | false ↦ λ t. rest
    ] refl
  where
    is_same : (a b : ℕ) → eqb a b ≡ true → a ≡ b
    is_same a b e = grind (arith, nat_tests)

    from : (low l : ℕ) (ls : List Last) → Rising l ls → AllByRecursion (λ m. low ≤ m.key) ls → Rising low ls
    from low l [] rising all = tt
    from low l (m ∷ ms) rising all = (all.0, rising.1)

pub part_rises : (id : ℕ) (run : List Entry) → Rises IsKeyBelow (map entry_key run) → Rising 0 (part_of id run)
part_rises id run rise = part_rises_after id None run rise

-- an entry of the storage
pub part_one : (id : ℕ) (e : Entry) → e.key.storage ≡ id → part_of id (e ∷ []) ≡ last_of e ∷ []
part_one id e same = let t : eqb e.key.storage id ≡ true = grind (arith, nat_tests) in ap (λ b. cond b (last_of e ∷ []) []) t

-- the entries of a storage in two runs
pub part_of-append : (id : ℕ) (xs ys : List Entry) → part_of id (xs ++ ys) ≡ part_of id xs ++ part_of id ys
part_of-append id [] ys = refl
part_of-append id (x ∷ xs) ys =
    elim (eqb x.key.storage id) as (λ b. cond b (last_of x ∷ part_of id (xs ++ ys)) (part_of id (xs ++ ys)) ≡ cond b (last_of x ∷ part_of id xs) (part_of id xs) ++ part_of id ys) [
      | true ↦ ap (λ l. last_of x ∷ l) (part_of-append id xs ys)
      | false ↦ part_of-append id xs ys
    ]

-- each entry of a run has a commit number
pub number_at : (run : List Entry) (i : ℕ) (d : Entry) → i < length run → AllByRecursion (λ e. IsNumber e.number) run → IsNumber (get_or run i d).number
number_at [] i d h all = absurd (omega (arith, h))
number_at (e ∷ es) zero d h all = all.0
number_at (e ∷ es) (suc i) d h all = number_at es i d (omega (arith, h)) all.1

pub all_numbers : (decls : List Decl) (epoch : ℕ) (run : List Entry) → AllByRecursion (IsEntryOf decls epoch) run → AllByRecursion (λ e. IsNumber e.number) run
all_numbers decls epoch run all = all_weaker (IsEntryOf decls epoch) (λ e. IsNumber e.number) (λ e is. is.number) run all
