-- What a scan has seen, and the rows that this comes to.
use Rattle.std.specs.Prelude.{◌≡◌, ◌⊎◌, ℕ, ◌+◌, ◌<◌, ◌≤◌, ◌++◌, List, [], ◌∷◌, length, get_or, take, Option, Some}
use Rattle.std.specs.Prelude.{None, Contains}
use Rattle.serial_model.specs.declared.key.Key.{Key}
use Rattle.commit_core.specs.declared.part.Part.{Part}
use Rattle.serial_bridge.specs.Transaction.{Vouched}
use Rattle.tx_sets.specs.declared.writes.Write.{Write}
use Rattle.tx_sets.specs.Entries.{value_of}
use Rattle.tree_scans.specs.Rows.{key_in, row_value, AreRising}

-- the value at the key is what the transaction wrote there last, else what some part has
abbrev pub IsSeen : List Write → List Part → Key → Option ℕ → Type 0
IsSeen ws parts k value = (value_of k ws ≡ Some value) ⊎ ((value_of k ws ≡ None) × Vouched parts k value)

-- The rows are those of a storage's keys from one on and below another one, ascending: at each of these keys the value
-- is seen that the rows have there, or that there is none.
pub record AreRowsOf
    (storage low at : ℕ) (ws : List Write) (parts : List Part) (rows : List (ℕ × ℕ)) : Type 0 where
  pub rising : AreRising rows
  pub bounds : (row : ℕ × ℕ) → Contains rows row → (low ≤ row.0) × (row.0 < at)
  pub seen : (n : ℕ) → low ≤ n → n < at → IsSeen ws parts (key_in storage n) (row_value rows n)

-- rows up to the first key have become rows up to the second one, wherever they begin
abbrev pub RowsGoOn :
    ℕ → ℕ → ℕ → List Write → List Part → List Part → List (ℕ × ℕ) → List (ℕ × ℕ) → Type 0
RowsGoOn storage from to ws parts later rows more = (low : ℕ) → low ≤ from → AreRowsOf storage low from ws parts rows
    → AreRowsOf storage low to ws later more

-- with the row of a key that has a value
abbrev pub with_row : ℕ → Option ℕ → List (ℕ × ℕ) → List (ℕ × ℕ)
with_row n None rows = rows
with_row n (Some value) rows = rows ++ (n, value) ∷ []

-- none of the storage's keys from this one to that one is written
abbrev pub AreFree : ℕ → ℕ → ℕ → List Write → Type 0
AreFree storage from to ws = (n : ℕ) → from ≤ n → n ≤ to → value_of (key_in storage n) ws ≡ None

-- the write is of no key of the storage above this one and at most that one
abbrev pub IsApart : ℕ → ℕ → ℕ → Write → Type 0
IsApart storage from to w = w.key.storage ≡ storage → from < w.key.key → w.key.key ≤ to → ⊥

-- All of these rows were added to those of before, up to this key, and there is room for more.
pub record AddsAll (rows found : List (ℕ × ℕ)) (to : ℕ) (more : List (ℕ × ℕ)) (end : ℕ) : Type 0 where
  pub end_is : end ≡ to
  pub is : more ≡ rows ++ found
  pub few : length more < 16

-- The first ones were, up to the one with this index, whose key is the last one then: there are 16.
pub record AddsSome (rows found more : List (ℕ × ℕ)) (end : ℕ) : Type 0 where
  pub index : ℕ
  pub there : index < length found
  pub other : ℕ × ℕ
  pub end_is : end ≡ (get_or found index other).0
  pub is : more ≡ rows ++ take (index + 1) found
  pub full : length more ≡ 16
