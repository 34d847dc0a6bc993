-- Lists of items of one form, as laws for those who use them.
use Rattle.std.proofs.Common.{◌≡◌, ℕ, suc, ◌+◌, ◌*◌, ◌<◌, List, [], ◌∷◌, ◌++◌, length, Option, Some, map, refl, sym, ap, ap₂, ◌∙◌, arith}
use Rattle.std.specs.List.{flat_map, AllByRecursion}
use Rattle.std.proofs.lemmas.List.{length-append}
use Rattle.std.proofs.lemmas.List.Concat.{flat_map-append}
use Rattle.lists.specs.Each.{all_append}
use Rattle.lists.specs.Fronts.{same_parts}
use Rattle.wire_form.specs.Items.{AreItems, RisesAfter, last_key}

-- so many items of n words or bytes each are n times as many
pub length-items : {X : Type 0} (spell : X → List ℕ) (n : ℕ) → ((x : X) → length (spell x) ≡ n) → (xs : List X)
    → length (flat_map spell xs) ≡ n * length xs
length-items spell n wide [] = omega arith
length-items spell n wide (x ∷ xs) =
    let one : n * suc (length xs) ≡ n + n * length xs = omega arith in
    omega (arith, one, length-append (spell x) (flat_map spell xs), wide x, length-items spell n wide xs)

-- items with the same spelling are the same
pub same_items : {X : Type 0} (Is : X → Type 0) (spell : X → List ℕ) (n : ℕ) → 0 < n
    → ((x : X) → length (spell x) ≡ n) → ((x y : X) → Is x → Is y → spell x ≡ spell y → x ≡ y)
    → (xs ys : List X) → AllByRecursion Is xs → AllByRecursion Is ys → flat_map spell xs ≡ flat_map spell ys → xs ≡ ys
same_items Is spell n some wide one [] [] p q e = refl
same_items Is spell n some wide one [] (y ∷ ys) p q e =
    absurd (omega (arith, ap length e, length-append (spell y) (flat_map spell ys), wide y))
same_items Is spell n some wide one (x ∷ xs) [] p q e =
    absurd (omega (arith, ap length e, length-append (spell x) (flat_map spell xs), wide x))
same_items Is spell n some wide one (x ∷ xs) (y ∷ ys) p q e =
    let parts = same_parts (spell x) (spell y) (flat_map spell xs) (flat_map spell ys) (wide x ∙ sym (wide y)) e in
    let first : x ≡ y = one x y p.0 q.0 parts.0 in
    let rest : xs ≡ ys = same_items Is spell n some wide one xs ys p.1 q.1 parts.1 in
    cc

-- and what holds of each of both holds of each of the second
pub all_behind : {X : Type 0} (P : X → Type 0) (xs ys : List X) → AllByRecursion P (xs ++ ys) → AllByRecursion P ys
all_behind P [] ys p = p
all_behind P (x ∷ xs) ys p = all_behind P xs ys p.1

-- keys that rise, and others that rise after the last of them, rise together
pub rises-append : {X K : Type 0} (key : X → K) (R : K → K → Type 0) (last : Option K) (xs ys : List X)
    → RisesAfter R last (map key xs) → RisesAfter R (last_key key last xs) (map key ys)
    → RisesAfter R last (map key (xs ++ ys))
rises-append key R last [] ys p q = q
rises-append key R last (x ∷ xs) ys p q = (p.0, rises-append key R (Some (key x)) xs ys p.1 q)

-- and of keys that rise together the second rise after the last of the first
pub rises_behind : {X K : Type 0} (key : X → K) (R : K → K → Type 0) (last : Option K) (xs ys : List X)
    → RisesAfter R last (map key (xs ++ ys)) → RisesAfter R (last_key key last xs) (map key ys)
rises_behind key R last [] ys p = p
rises_behind key R last (x ∷ xs) ys p = rises_behind key R (Some (key x)) xs ys p.1

-- items, and others that go on after them, are items together
pub items-append : {X K : Type 0} (Is : X → Type 0) (spell : X → List ℕ) (key : X → K) (R : K → K → Type 0)
    (last : Option K) (front back : List ℕ) (xs ys : List X)
    → AreItems Is spell key R last front xs
    → AreItems Is spell key R (last_key key last xs) back ys → AreItems Is spell key R last (front ++ back) (xs ++ ys)
items-append Is spell key R last front back xs ys p q = record {
  each = all_append Is xs ys p.each q.each;
  rising = rises-append key R last xs ys p.rising q.rising;
  spelled = ap₂ (λ (a b : List ℕ). a ++ b) p.spelled q.spelled ∙ sym (flat_map-append spell xs ys);
}
