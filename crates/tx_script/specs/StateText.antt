-- The text of a state: the epoch that was saved, and a line for each key that stands in it.
use Rattle.std.specs.Prelude.{ℕ, ◌||◌, Bool, List, [], ◌∷◌, ◌++◌, codes, decimal, filter, flat_map, nat_lt}
use Rattle.std.specs.FinMap.{entries}
use Rattle.serial_model.specs.Keys.{is_tree}
use Rattle.serial_model.specs.State.{State}
use Rattle.serial_model.specs.declared.decl.Decl.{Decl}
use Rattle.serial_model.specs.declared.key.Key.{Key}
use Rattle.text_output.specs.Output.{Bytes}

-- A key of a tree stands in the text where it is present; one of an array does where its value isn't 0, since an array
-- key that was never written reads 0.
abbrev pub stands : List Decl → Key × ℕ → Bool
stands decls e = nat_lt 0 e.1 || is_tree decls e.0.storage

-- a key's storage, the key in it, and its value
abbrev pub key_line : Key × ℕ → Bytes
key_line e = decimal e.0.storage ++ codes " " ++ decimal e.0.key ++ codes " " ++ decimal e.1 ++ 10 ∷ []

-- the lines of those keys that stand
abbrev pub key_lines : List Decl → List (Key × ℕ) → Bytes
key_lines decls pairs = flat_map key_line (filter (stands decls) pairs)

-- the line of the epoch
abbrev pub epoch_line : ℕ → Bytes
epoch_line epoch = codes "epoch " ++ decimal epoch ++ 10 ∷ []

-- the epoch, and then the keys in ascending order, by storage and then by key
abbrev pub state_text : ℕ → List Decl → State → Bytes
state_text epoch decls state = epoch_line epoch ++ key_lines decls (entries state)
