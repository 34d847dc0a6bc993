-- The rows that a leaf of the snapshot gives between two keys.
use Rattle.std.specs.Prelude.{◌≡◌, ℕ, ◌<◌, ◌==◌, ◌&&◌, ◌++◌, nat_le, if◌then◌else◌, List, [], ◌∷◌, Option, Some, None}
use Rattle.std.specs.Prelude.{Contains, ⊤}
use Rattle.serial_model.specs.declared.key.Key.{Key}
use Rattle.snapshot_store.specs.Places.{Found}
use Rattle.wire_form.specs.declared.records.TreeRecord.{TreeRecord}

-- the key with this number in the storage
abbrev pub key_in : ℕ → ℕ → Key
key_in storage n = record { storage = storage; key = n }

-- each of the rows has a key above this one
abbrev pub AreAbove : ℕ → List (ℕ × ℕ) → Type 0
AreAbove n rows = (row : ℕ × ℕ) → Contains rows row → n < row.0

-- the rows ascend by their keys
abbrev pub AreRising : List (ℕ × ℕ) → Type 0
AreRising [] = ⊤
AreRising (row ∷ more) = AreAbove row.0 more × AreRising more

-- stands for a record where there is none
abbrev pub no_record : TreeRecord
no_record = record { key = 0; number = record { epoch = 0; draw = 0 }; value = 0 }

-- a record's row, if its key is from this one on and at most that one
abbrev pub row_for : ℕ → ℕ → TreeRecord → List (ℕ × ℕ)
row_for from last r = if nat_le from r.key && nat_le r.key last then (r.key, r.value) ∷ [] else []

-- the rows of all of them
abbrev pub rows_in : ℕ → ℕ → List TreeRecord → List (ℕ × ℕ)
rows_in from last [] = []
rows_in from last (r ∷ rs) = row_for from last r ++ rows_in from last rs

-- the value that the rows have at a key
abbrev pub row_value : List (ℕ × ℕ) → ℕ → Option ℕ
row_value [] n = None
row_value (row ∷ more) n = if row.0 == n then Some row.1 else row_value more n

-- the value of what was found
abbrev pub found_value : Option Found → Option ℕ
found_value None = None
found_value (Some f) = Some f.value
