-- The bytes of a log file that count: whole log lines one after another, with numbers that rise.
use Rattle.std.specs.Prelude.{◌≡◌, ℕ, ◌≤◌, List, ◌++◌, Option, Some, None, IsTrue, Bool, length}
use Rattle.std.specs.List.{flat_map, AllByRecursion}
use Rattle.serial_model.specs.Keys.{has_key, is_tree}
use Rattle.serial_model.specs.Numbers.{IsBelow}
use Rattle.serial_model.specs.declared.decl.Decl.{Decl}
use Rattle.serial_model.specs.declared.key.Key.{Key}
use Rattle.serial_model.specs.declared.number.Change.{Change}
use Rattle.serial_model.specs.declared.number.Commit.{Commit}
use Rattle.serial_model.specs.declared.number.Number.{Number}
use Rattle.wire_form.specs.Items.{AreItems, IsFollowed, last_key}
use Rattle.wire_form.specs.LogLine.{IsLogLine, line_bytes}

-- the number of a commit
abbrev pub commit_number : Commit → Number
commit_number c = c.number

-- the log lines of commits, one after another
abbrev pub lines_bytes : List Commit → List ℕ
lines_bytes commits = flat_map line_bytes commits

-- the bytes are the log lines of these commits, whose numbers rise after an earlier one, if there is one
abbrev pub AreLogLines : Option Number → List ℕ → List Commit → Type 0
AreLogLines last bytes commits = AreItems IsLogLine line_bytes commit_number IsBelow last bytes commits

-- the storages have the key for a put, and the tree for a removal
abbrev pub has_place_for : List Decl → Key → Option ℕ → Bool
has_place_for decls k (Some v) = has_key decls k
has_place_for decls k None = is_tree decls k.storage

-- the change is of one of the storages: an array's key is below its size and never removed
abbrev pub IsChangeOf : List Decl → Change → Type 0
IsChangeOf decls c = IsTrue (has_place_for decls c.key c.value)

-- a commit with a log line, and changes of these storages alone
pub record IsLineOf (decls : List Decl) (c : Commit) : Type 0 where
  pub line : IsLogLine c
  pub each : AllByRecursion (IsChangeOf decls) c.changes

-- the bytes are such lines, whose numbers rise after an earlier one, if there is one
abbrev pub AreLinesOf : List Decl → Option Number → List ℕ → List Commit → Type 0
AreLinesOf decls last bytes commits = AreItems (IsLineOf decls) line_bytes commit_number IsBelow last bytes commits

-- Lines stand in front of this byte, and more bytes behind it, but no line that goes on there: it is
-- the first byte of the first line that isn't one.
pub record IsDamagedAt (decls : List Decl) (last : Option Number) (bytes : List ℕ) (at : ℕ) : Type 0 where
  pub front : List Commit
  pub rest : List ℕ
  pub lines : AreLinesOf decls last (lines_bytes front) front
  pub behind : at ≡ length (lines_bytes front)
  pub whole : bytes ≡ lines_bytes front ++ rest
  pub more : 1 ≤ length rest
  pub none : (c : Commit) (after : List ℕ) → IsLineOf decls c
      → IsFollowed IsBelow (last_key commit_number last front) c.number → rest ≡ line_bytes c ++ after → ⊥
