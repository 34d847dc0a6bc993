-- Records of a tree in ascending order, and what the last entries of a storage make of them.
use Rattle.std.specs.Prelude.{◌≡◌, ℕ, ◌+◌, ◌≤◌, ◌==◌, List, [], ◌∷◌, ◌++◌, Option, Some, None, cond, nat_lt, map, if◌then◌else◌, ⊤}
use Rattle.snapshot_store.specs.Places.{Found}
use Rattle.snapshot_store.specs.TreePages.{Record, node_of, records_of}
use Rattle.serial_model.specs.declared.number.Number.{Number}
use Rattle.serial_model.specs.Numbers.{IsNumber}
use Rattle.wire_form.specs.Words.{number_word}
use Rattle.root_composer.specs.declared.last.Last.{Last}
use Rattle.root_composer.specs.declared.row.Row.{Row}
use Rattle.root_composer.specs.Overlaid.{is_between}

-- what is found at a row's key
abbrev pub found_of : Row → Found
found_of r = record { number = r.number; value = r.value }

-- a record as a row
abbrev pub row_of : Record → Row
row_of r = record { key = r.key; number = r.found.number; value = r.found.value }

-- a row as a record
abbrev pub record_of : Row → Record
record_of r = record { key = r.key; found = found_of r }

-- the rows of a leaf, by its words
abbrev pub rows_of : List ℕ → List Row
rows_of words = map row_of (records_of (node_of words))

-- what is found at a key
abbrev pub row_for : List Row → ℕ → Option Found
row_for [] key = None
row_for (r ∷ rs) key = if r.key == key then Some (found_of r) else row_for rs key

-- keys that rise strictly, none below the first bound or above the second
abbrev pub Ascends : ℕ → ℕ → List Row → Type 0
Ascends low high [] = ⊤
Ascends low high (r ∷ rs) = (low ≤ r.key) × (r.key ≤ high) × Ascends (r.key + 1) high rs

-- the same of entries
abbrev pub Rising : ℕ → List Last → Type 0
Rising low [] = ⊤
Rising low (e ∷ es) = (low ≤ e.key) × Rising (e.key + 1) es

-- the word of a commit number
abbrev pub IsNumberWord : ℕ → Type 0
IsNumberWord w = (n : Number) × IsNumber n × (w ≡ number_word n)

-- ---- rows under entries

-- the entries of a range
abbrev pub entries_in : ℕ → ℕ → List Last → List Last
entries_in low high [] = []
entries_in low high (e ∷ es) = cond (is_between low high e.key) (e ∷ entries_in low high es) (entries_in low high es)

-- what an entry puts
abbrev pub put_list : ℕ → ℕ → Option ℕ → List Row
put_list key number None = []
put_list key number (Some v) = record { key = key; number = number; value = v } ∷ []

-- the rows up to the first with at least this key
abbrev pub rows_below : ℕ → List Row → List Row
rows_below key [] = []
rows_below key (r ∷ rs) = cond (nat_lt r.key key) (r ∷ rows_below key rs) []

-- the rows from the first with at least this key on
abbrev pub rows_from : ℕ → List Row → List Row
rows_from key [] = []
rows_from key (r ∷ rs) = cond (nat_lt r.key key) (rows_from key rs) (r ∷ rs)

-- the rows without the first, where it has this key
abbrev pub rows_behind : ℕ → List Row → List Row
rows_behind key [] = []
rows_behind key (r ∷ rs) = cond (r.key == key) rs (r ∷ rs)

-- rows with entries among them: a put replaces or adds its row, a removal takes it out
abbrev pub merged : List Last → List Row → List Row
merged [] rs = rs
merged (e ∷ es) rs =
    rows_below e.key rs ++ (put_list e.key e.number e.value ++ merged es (rows_behind e.key (rows_from e.key rs)))
