-- The ranges of keys that the children of a tree's interior page have.
use Rattle.std.specs.Prelude.{ℕ, ◌+◌, ◌-◌, ◌&&◌, Bool, List, [], ◌∷◌, nat_le, if◌then◌else◌}

-- the range between the fences, cut just before each separator
abbrev pub child_ranges : ℕ → ℕ → List ℕ → List (ℕ × ℕ)
child_ranges low high [] = (low, high) ∷ []
child_ranges low high (separator ∷ separators) = (low, separator - 1) ∷ child_ranges separator high separators

-- the key is in the range, whose ends count
abbrev pub is_in : ℕ → ℕ × ℕ → Bool
is_in key range = nat_le range.0 key && nat_le key range.1

-- how many of the ranges a key lies in
abbrev pub ranges_with : ℕ → List (ℕ × ℕ) → ℕ
ranges_with key [] = 0
ranges_with key (range ∷ ranges) = (if is_in key range then 1 else 0) + ranges_with key ranges
