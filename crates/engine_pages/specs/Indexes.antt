-- At which index a storage stands among the declared ones, by its id.
use Rattle.std.specs.Prelude.{◌≡◌, ℕ, ◌+◌, ◌<◌, ◌==◌, List, length, get_or}
use Rattle.std.specs.List.{position_or_len}
use Rattle.serial_model.specs.declared.decl.Decl.{Decl}
use Rattle.serial_model.specs.Keys.{id_of}

-- the index of the first storage with this id, or how many storages there are, where none has it
abbrev pub index_of : List Decl → ℕ → ℕ
index_of decls id = position_or_len (λ d. id_of d == id) decls

-- for each id the index is noted that it has among these storages, which stand behind so many others
pub record AreIndexesFrom (before : ℕ) (decls : List Decl) (indexes : List ℕ) : Type 0 where
  pub many : length indexes ≡ 256
  pub each : (id : ℕ) → id < 256 → get_or indexes id 0 ≡ before + index_of decls id

-- the same among all storages
pub record AreIndexes (decls : List Decl) (indexes : List ℕ) : Type 0 where
  pub many : length indexes ≡ 256
  pub each : (id : ℕ) → id < 256 → get_or indexes id 0 ≡ index_of decls id
