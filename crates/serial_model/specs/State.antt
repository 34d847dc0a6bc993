-- The contents of all storages.
use Rattle.std.specs.Prelude.{ℕ, ◌==◌, ◌&&◌, Bool, List, nat_le, unwrap_or, take, map, filter}
use Rattle.std.specs.FinMap.{FinMap, entries, get}
use Rattle.serial_model.specs.Keys.{key_cmp}
use Rattle.serial_model.specs.declared.key.Key.{Key}

-- A finite map from keys to values. An array key that is not in it reads 0; a tree key that is not in it is absent.
abbrev pub State : Type 0
State = FinMap key_cmp ℕ

-- what sums and differences start from
abbrev pub amount_at : State → Key → ℕ
amount_at s k = unwrap_or (get s k) 0

-- a key of this storage, from low to high
abbrev pub is_within : ℕ → ℕ → ℕ → Key → Bool
is_within storage low high k = (k.storage == storage) && (nat_le low k.key && nat_le k.key high)

-- the first 16 present pairs of the storage with keys from low to high, ascending
abbrev pub rows_of : State → ℕ → ℕ → ℕ → List (ℕ × ℕ)
rows_of s storage low high =
    take 16 (map (λ e. (e.0.key, e.1)) (filter (λ e. is_within storage low high e.0) (entries s)))
