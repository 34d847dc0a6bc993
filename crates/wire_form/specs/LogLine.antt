-- A log line: the number of a commit, the count of its changes, and each change as three words.
use Rattle.std.specs.Prelude.{◌≡◌, ℕ, ◌+◌, ◌*◌, ◌^◌, ◌<◌, ◌≤◌, List, [], ◌∷◌, ◌++◌, Option, Some, None, IfSome, length, drop, unwrap_or, map}
use Rattle.std.specs.List.{flat_map, AllByRecursion}
use Rattle.serial_model.specs.declared.key.Key.{Key}
use Rattle.serial_model.specs.declared.number.Change.{Change}
use Rattle.serial_model.specs.declared.number.Commit.{Commit}
use Rattle.serial_model.specs.Keys.{IsKeyBelow}
use Rattle.serial_model.specs.Numbers.{IsNumber}
use Rattle.wire_form.specs.Words.{number_word}
use Rattle.wire_form.specs.Bytes.{bytes_of}
use Rattle.wire_form.specs.Items.{Rises}

-- the storage, the key and the value fit their words
pub record IsChange (c : Change) : Type 0 where
  pub storage : c.key.storage < 256
  pub key : c.key.key < 2 ^ 64
  pub value : IfSome c.value (λ v. v < 2 ^ 64)

-- the key that a change is of
abbrev pub key_of : Change → Key
key_of c = c.key

-- what the first word of a change has beside the storage: 256 says that it puts a value
abbrev pub put_mark : Option ℕ → ℕ
put_mark None = 0
put_mark (Some v) = 256

-- the storage with its mark, the key, and the value, or 0 for a removal
abbrev pub change_words : Change → List ℕ
change_words c = (c.key.storage + put_mark c.value) ∷ c.key.key ∷ unwrap_or c.value 0 ∷ []

-- the bytes of a change
abbrev pub change_bytes : Change → List ℕ
change_bytes c = bytes_of (change_words c)

-- a commit that has a log line: its number is one, and it has 1 to 16 changes with keys that rise
pub record IsLoggable (c : Commit) : Type 0 where
  pub number : IsNumber c.number
  pub some : 1 ≤ length c.changes
  pub most : length c.changes ≤ 16
  pub rising : Rises IsKeyBelow (map key_of c.changes)

-- such a commit with changes in the ranges of their types, as all changes in memory are
pub record IsLogLine (c : Commit) : Type 0 where
  pub loggable : IsLoggable c
  pub each : AllByRecursion IsChange c.changes

-- the log line of a commit
abbrev pub line_bytes : Commit → List ℕ
line_bytes c = bytes_of (number_word c.number ∷ length c.changes ∷ []) ++ flat_map change_bytes c.changes

-- the bytes begin with the commit's log line, which is so long
pub record BeginsWith (bytes : List ℕ) (c : Commit) (len : ℕ) : Type 0 where
  pub line : IsLogLine c
  pub length : len ≡ 16 + 24 * length c.changes
  pub begins : bytes ≡ line_bytes c ++ drop len bytes
