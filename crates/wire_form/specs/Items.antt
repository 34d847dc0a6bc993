-- What reading gives, and lists of items of one form, written one after another.
use Rattle.std.specs.Prelude.{◌≡◌, ℕ, List, [], ◌∷◌, Option, Some, None, IfSome, IfNone, map, ⊤}
use Rattle.std.specs.List.{flat_map, AllByRecursion}

-- a value is the only one that is spelled so: as a word, or as a list of words or bytes
pub record IsSpelled {V W : Type 0} (Is : V → Type 0) (spell : V → W) (written : W) (v : V) : Type 0 where
  pub valid : Is v
  pub spelled : spell v ≡ written
  pub only : (u : V) → Is u → spell u ≡ written → u ≡ v

-- what reading gives: the value that is spelled so, and nothing only where none is
abbrev pub Reads : {V W : Type 0} → (V → Type 0) → (V → W) → W → Option V → Type 0
Reads {V} {W} Is spell written result =
    IfSome result (IsSpelled Is spell written) × IfNone result ((v : V) → Is v → spell v ≡ written → ⊥)

-- ---- lists of items

-- an earlier key, if there is one, has R to the next
abbrev pub IsFollowed : {K : Type 0} → (K → K → Type 0) → Option K → K → Type 0
IsFollowed R last key = IfSome last (λ l. R l key)

-- each key has R to the next, and an earlier one to the first
abbrev pub RisesAfter : {K : Type 0} → (K → K → Type 0) → Option K → List K → Type 0
RisesAfter R last [] = ⊤
RisesAfter R last (k ∷ ks) = IsFollowed R last k × RisesAfter R (Some k) ks

-- each key has R to the next
abbrev pub Rises : {K : Type 0} → (K → K → Type 0) → List K → Type 0
Rises R ks = RisesAfter R None ks

-- no order at all
abbrev pub AnyOrder : {K : Type 0} → K → K → Type 0
AnyOrder a b = ⊤

-- each item is one, their keys rise after an earlier key, and what is written is the items' spellings
pub record AreItems {X K : Type 0} (Is : X → Type 0) (spell : X → List ℕ) (key : X → K) (R : K → K → Type 0)
    (last : Option K) (written : List ℕ) (items : List X) : Type 0 where
  pub each : AllByRecursion Is items
  pub rising : RisesAfter R last (map key items)
  pub spelled : written ≡ flat_map spell items

-- the key of the last item, or an earlier key where there is no item
abbrev pub last_key : {X K : Type 0} → (X → K) → Option K → List X → Option K
last_key key last [] = last
last_key key last (x ∷ xs) = last_key key (Some (key x)) xs
