-- A log file is mapped one window of its bytes after another.
use Rattle.std.specs.Prelude.{◌≡◌, ◌+◌, ◌≤◌, ◌⊎◌, [], ℕ, List, ◌++◌, Option, None, length, take}
use Rattle.outside.specs.Disk.{IfTold}
use Rattle.serial_model.specs.declared.decl.Decl.{Decl}
use Rattle.serial_model.specs.declared.number.Commit.{Commit}
use Rattle.wire_form.specs.Items.{last_key}
use Rattle.wire_form.specs.LogFile.{commit_number, AreLinesOf, IsDamagedAt}
use Rattle.log_mapper.specs.Mapped.{buckets_of, entries_after}
use Rattle.log_mapper.specs.declared.lines.SoFar.{SoFar}

-- the bytes so far are lines of the storages, and the buckets have their entries
pub record AreMappedSoFar (bank : ℕ) (decls : List Decl) (from to : ℕ) (done : List ℕ) (s : SoFar) : Type 0 where
  pub front : List Commit
  pub lines : AreLinesOf decls None done front
  pub place : s.at ≡ length done
  pub last_is : s.last ≡ last_key commit_number None front
  pub mapped : s.buckets.items ≡ buckets_of bank decls (entries_after from to front)

-- lines at the front of a window were mapped, and these bytes of it are left
pub record MapsFront (decls : List Decl) (from to : ℕ) (window rest : List ℕ) (old new : SoFar) : Type 0 where
  pub done : List ℕ
  pub whole : window ≡ done ++ rest
  pub place : new.at ≡ old.at + length done
  pub goes : (bank : ℕ) (before : List ℕ) → AreMappedSoFar bank decls from to before old
      → AreMappedSoFar bank decls from to (before ++ done) new

-- Whatever stood before a window, and whatever stands behind it where the longest line is no longer than it: the first
-- line that isn't one begins at this byte.
abbrev pub IsDamagedIn : List Decl → ℕ → ℕ → List ℕ → ℕ → SoFar → ℕ → Type 0
IsDamagedIn decls from to window least old at = (bank : ℕ) (before after : List ℕ) → AreMappedSoFar bank decls from to before old
    → (400 ≤ least) ⊎ (after ≡ []) → IsDamagedAt decls None (before ++ (window ++ after)) at

-- the bytes at the front of the log file up to here are such lines
pub record IsMappedTo (told : Option (List ℕ)) (bank : ℕ) (decls : List Decl) (from to count : ℕ) (s : SoFar) : Type 0 where
  pub done : List ℕ
  pub lines : AreMappedSoFar bank decls from to done s
  pub front : IfTold told (λ file. (count ≤ length file) × (done ≡ take (length done) file))
