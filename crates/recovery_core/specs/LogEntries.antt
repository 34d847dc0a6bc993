-- The lines of the log files that a savepoint counts, and their entries: which of them count, and which is the last.
use Rattle.std.specs.Prelude.{◌≡◌, ℕ, ◌<◌, ◌≤◌, ◌==◌, ◌&&◌, Bool, List, [], ◌∷◌, Option, Some, None, length}
use Rattle.std.specs.Prelude.{take, filter, get_or, nat_lt, nat_le, if◌then◌else◌}
use Rattle.std.specs.List.{flat_map}
use Rattle.serial_model.specs.Numbers.{is_below}
use Rattle.serial_model.specs.declared.decl.Decl.{Decl}
use Rattle.serial_model.specs.declared.key.Key.{Key}
use Rattle.serial_model.specs.declared.number.Commit.{Commit}
use Rattle.wire_form.specs.LogFile.{AreLinesOf}
use Rattle.log_mapper.specs.Mapped.{entries_of}
use Rattle.wire_form.specs.declared.bucket.Entry.{Entry}
use Rattle.wire_form.specs.declared.savepoint.Savepoint.{Savepoint}
use Rattle.joint_crashes.specs.Images.{counted_of}

-- The first so many bytes of a log file are there, and are these whole lines, of these storages, with numbers that
-- rise.
pub record IsCountedFile (decls : List Decl) (count : ℕ) (bytes : List ℕ) (lines : List Commit) : Type 0 where
  pub there : count ≤ length bytes
  pub lines_are : AreLinesOf decls None (take count bytes) lines

-- the lines of each of the 16 log files that the savepoint counts
pub record AreCounted (decls : List Decl) (p : Savepoint) (bank : ℕ → List ℕ)
    (lines : List (List Commit)) : Type 0 where
  pub files : length lines ≡ 16
  pub each : (n : ℕ) → n < 16 → IsCountedFile decls (counted_of (Some p) n) (bank n) (get_or lines n [])

-- what the commits of the log files did, the lowest log file first
abbrev pub logged : List (List Commit) → List Entry
logged files = flat_map (flat_map entries_of) files

-- an entry counts where its epoch is above the snapshot's and at most the saved one
abbrev pub counts : ℕ → ℕ → Entry → Bool
counts snapshot saved e = nat_lt snapshot e.number.epoch && nat_le e.number.epoch saved

-- the entry is one of this key
abbrev pub is_of : Key → Entry → Bool
is_of key e = (e.key.storage == key.storage) && (e.key.key == key.key)

-- of two entries the one with the greater number, and of equal ones the first
abbrev pub greater : Entry → Option Entry → Entry
greater e None = e
greater e (Some f) = if is_below e.number f.number then f else e

-- of entries the one with the greatest number, and of equal ones the first
abbrev pub greatest : List Entry → Option Entry
greatest [] = None
greatest (e ∷ es) = Some (greater e (greatest es))

-- the last entry of a key
abbrev pub last_of : Key → List Entry → Option Entry
last_of key entries = greatest (filter (is_of key) entries)
