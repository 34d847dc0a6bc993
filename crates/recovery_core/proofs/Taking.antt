-- The first items of a list, one more at a time.
use Rattle.std.proofs.Common.{◌≡◌, ℕ, ◌+◌, ◌<◌, zero, suc, List, [], ◌∷◌, ◌++◌, length, take, get_or, map, ◌^◌}
use Rattle.std.proofs.Common.{Some, None, refl, ap, sym, ◌∙◌, arith}
use Rattle.std.proofs.lemmas.List.{take_more, map-append}
use Rattle.std.specs.Prelude.{slice_get}
use Rattle.std.specs.List.{AllByRecursion}

-- one more item of a list, that is there
pub take_get : {X : Type 0} (xs : List X) (i : ℕ) (x : X) → slice_get xs i ≡ Some x → take (i + 1) xs ≡ take i xs
    ++ x ∷ []
take_get [] i x e = absurd (cc)
take_get (y ∷ ys) zero x e = let same : y ≡ x = cc in ap (λ z. z ∷ []) same
take_get (y ∷ ys) (suc i) x e =
    let next : suc i + 1 ≡ suc (i + 1) = omega arith in
    ap (λ k. take k (y ∷ ys)) next ∙ ap (λ l. y ∷ l) (take_get ys i x e)

-- there is an item at each index within
pub some_at : {X : Type 0} (xs : List X) (i : ℕ) → i < length xs → None ≡ slice_get xs i → ⊥
some_at [] i below none = omega (arith, below)
some_at (y ∷ ys) zero below none = absurd (cc none)
some_at (y ∷ ys) (suc i) below none = some_at ys i (omega (arith, below)) none

-- a list whose items fit has items that fit
pub all_fit : (words : List ℕ) → ((i : ℕ) → get_or words i 0 < 2 ^ 64) → AllByRecursion (λ w. w < 2 ^ 64) words
all_fit [] fits = tt
all_fit (w ∷ ws) fits = (fits 0, all_fit ws (λ i. fits (suc i)))

-- what a function gives of one more item
pub map_take_more : {X Y : Type 0} (f : X → Y) (xs ys : List X) (i : ℕ) (d : X) → i < length xs → i < length ys
    → map f (take i xs) ≡ map f (take i ys)
    → f (get_or xs i d) ≡ f (get_or ys i d) → map f (take (i + 1) xs) ≡ map f (take (i + 1) ys)
map_take_more f xs ys i d in_xs in_ys before here =
    ap (map f) (take_more xs i d in_xs) ∙ map-append f (take i xs) (get_or xs i d ∷ [])
    ∙ ap (λ l. l ++ f (get_or xs i d) ∷ []) before
    ∙ ap (λ y. map f (take i ys) ++ y ∷ []) here ∙ sym (map-append f (take i ys) (get_or ys i d ∷ []))
    ∙ ap (map f) (sym (take_more ys i d in_ys))

-- and of one item of two lists of which it gives the same
pub map_same_at : {X Y : Type 0} (f : X → Y) (xs ys : List X) (i : ℕ) (d : X) → i < length xs → map f xs ≡ map f ys
    → f (get_or xs i d) ≡ f (get_or ys i d)
map_same_at f [] ys i d below same = absurd (omega (arith, below))
map_same_at f (x ∷ xs) [] i d below same = absurd (omega (arith, ap length same))
map_same_at f (x ∷ xs) (y ∷ ys) zero d below same = let first : f x ≡ f y = cc same in first
map_same_at f (x ∷ xs) (y ∷ ys) (suc i) d below same = let rest : map f xs ≡ map f ys =
    cc same in map_same_at f xs ys i d (omega (arith, below)) rest

-- what a function gives of an item that is there
pub map_at : {X Y : Type 0} (f : X → Y) (xs : List X) (i : ℕ) (d : X) → i < length xs → slice_get (map f xs) i
    ≡ Some (f (get_or xs i d))
map_at f [] i d below = absurd (omega (arith, below))
map_at f (x ∷ xs) zero d below = refl
map_at f (x ∷ xs) (suc i) d below = map_at f xs i d (omega (arith, below))
