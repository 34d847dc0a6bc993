-- Elements of a list by their places, and the device that a list of one has.
use Rattle.std.proofs.Common.{◌≡◌, ◌≢◌, ◌<◌, ◌∷◌, ◌++◌, inl, inr, sym, ap, refl, ℕ, zero, suc, List, []}
use Rattle.std.proofs.Common.{arith, get_or, length, map, Bool, true, false, Option, Some, None}
use Rattle.std.specs.Prelude.{◌||◌, is_some, slice_get}
use Rattle.std.specs.List.{AllByRecursion, Contains, list_any}
use Rattle.std.proofs.lemmas.Option.{same_Some}
use Rattle.lists.specs.Elements.{in_cases, in_none}
use Rattle.outside.specs.declared.device.Device.TheVariants as devices
use Rattle.tx_script.specs.Run.{LogRefusal}

-- an index within a list has an element
pub item_at : {X : Type 0} (xs : List X) (i : ℕ) → i < length xs → (x : X) × (slice_get xs i ≡ Some x)
item_at [] i within = absurd (omega (arith, within))
item_at (x ∷ xs) zero within = (x, refl)
item_at (x ∷ xs) (suc i) within = item_at xs i (omega (arith, within))

-- whatever else is given where there is none
pub item_read : {X : Type 0} (xs : List X) (i : ℕ) (x other : X) → slice_get xs i ≡ Some x → get_or xs i other ≡ x
item_read [] i x other there = absurd cc
item_read (z ∷ zs) zero x other there = same_Some z x there
item_read (z ∷ zs) (suc i) x other there = item_read zs i x other there

-- an index with an element is within the list
pub within_of : {X : Type 0} (xs : List X) (i : ℕ) (x : X) → slice_get xs i ≡ Some x → i < length xs
within_of [] i x is = absurd cc
within_of (y ∷ xs) zero x is = omega arith
within_of (y ∷ xs) (suc i) x is = omega (arith, within_of xs i x is)

-- what stands in a mapped list
pub map_at : {X Y : Type 0} (f : X → Y) (xs : List X) (i : ℕ) (y : Y) → slice_get (map f xs) i ≡ Some y
    → (x : X) × (slice_get xs i ≡ Some x) × (f x ≡ y)
map_at f [] i y is = absurd cc
map_at f (x ∷ xs) zero y is = (x, refl, same_Some (f x) y is)
map_at f (x ∷ xs) (suc i) y is = map_at f xs i y is

-- a fact of each element of a list
pub all_from : {X : Type 0} (P : X → Type 0) (xs : List X) → ((i : ℕ) (x : X) → slice_get xs i ≡ Some x → P x)
    → AllByRecursion P xs
all_from P [] each = tt
all_from P (x ∷ xs) each = (each 0 x refl, all_from P xs (λ i y at. each (suc i) y at))

pub all_front : {X : Type 0} (P : X → Type 0) (xs ys : List X) → AllByRecursion P (xs ++ ys) → AllByRecursion P xs
all_front P [] ys all = tt
all_front P (x ∷ xs) ys all = (all.0, all_front P xs ys all.1)

-- a refusal among none
pub none_refused : (refusals : List (Option LogRefusal)) → list_any is_some refusals ≡ false → (i : ℕ) (r : Option LogRefusal)
    → slice_get refusals i ≡ Some r → r ≡ None
none_refused [] none i r at = absurd cc
none_refused (None ∷ refusals) none zero r at = sym (same_Some None r at)
none_refused (None ∷ refusals) none (suc i) r at = none_refused refusals none i r at
none_refused (Some x ∷ refusals) none i r at = absurd cc

pub nothing_there : {X : Type 0} (x : Option X) → is_some x ≡ false → x ≡ None
nothing_there None is = refl
nothing_there (Some x) is = absurd cc

pub map_there : {X Y : Type 0} (f : X → Y) (xs : List X) (i : ℕ) (x : X) → slice_get xs i ≡ Some x
    → slice_get (map f xs) i ≡ Some (f x)
map_there f [] i x is = absurd cc
map_there f (y ∷ xs) zero x is = ap (λ z. Some (f z)) (same_Some y x is)
map_there f (y ∷ xs) (suc i) x is = map_there f xs i x is

pub not_save : (number : ℕ) → Contains (devices.Save ∷ []) (devices.Bank number) → ⊥
not_save number has = elim (in_cases (devices.Bank number) devices.Save [] has) [
  | inl same ↦ absurd (let no = same in cc)
  | inr none ↦ in_none (devices.Bank number) none
]

pub other_bank : (i number : ℕ) → number ≢ i → Contains (devices.Bank number ∷ []) (devices.Bank i) → ⊥
other_bank i number differs has = elim (in_cases (devices.Bank i) (devices.Bank number) [] has) [
  | inl same ↦ differs cc
  | inr none ↦ in_none (devices.Bank i) none
]

pub or_parts : (a b : Bool) → (a || b) ≡ false → (a ≡ false) × (b ≡ false)
or_parts false false none = (refl, refl)
or_parts false true none = absurd cc
or_parts true b none = absurd cc

-- an element by its place, as code reads it
pub read_at : {X : Type 0} (xs : List X) (i : ℕ) (x default : X) → slice_get xs i ≡ Some x → get_or xs i default ≡ x
read_at [] i x default is = absurd cc
read_at (y ∷ xs) zero x default is = same_Some y x is
read_at (y ∷ xs) (suc i) x default is = read_at xs i x default is
