-- What it comes to that a key is looked for in a leaf.
use Rattle.std.specs.Prelude.{◌≡◌, ℕ, false, List, Option, Some, None, slice_get}
use Rattle.serial_model.specs.declared.key.Key.{Key}
use Rattle.homes.specs.Homes.{has_key}

-- the record with this index is the key's, or none is
abbrev pub IsSearched : List Key → Key → Option ℕ → Type 0
IsSearched keys k None = has_key keys k ≡ false
IsSearched keys k (Some i) = slice_get keys i ≡ Some k
