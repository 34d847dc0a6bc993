-- A savepoint in one of the two places of its device: the valid byte, seven zeros, and the words of the body.
use Rattle.std.specs.Prelude.{◌≡◌, ℕ, ◌+◌, ◌%◌, ◌^◌, ◌<◌, ◌≤◌, List, [], ◌∷◌, ◌++◌, length}
use Rattle.std.specs.List.{AllByRecursion}
use Rattle.serial_model.specs.Numbers.{last_epoch}
use Rattle.wire_form.specs.Bytes.{bytes_of, padded}
use Rattle.wire_form.specs.declared.savepoint.Savepoint.{Savepoint}

-- the fields in their ranges, with the lengths of so many log files
pub record IsSavepointWith (files : ℕ) (s : Savepoint) : Type 0 where
  pub first : 1 ≤ s.sequence
  pub last : s.sequence < 2 ^ 63
  pub epoch : s.epoch < last_epoch
  pub catalogue : 1 ≤ s.catalogue
  pub newest : s.catalogue ≡ s.count
  pub count : s.count ≤ 65536
  pub banks : length s.lengths ≡ files
  pub lengths : AllByRecursion (λ n. n < 2 ^ 40) s.lengths

-- the log files are 16
abbrev pub IsSavepoint : Savepoint → Type 0
IsSavepoint s = IsSavepointWith 16 s

-- the savepoints of odd sequence stand in place 0, those of even sequence in place 1
abbrev pub StandsAt : ℕ → Savepoint → Type 0
StandsAt place s = place + s.sequence % 2 ≡ 1

-- such a savepoint, in its place
pub record IsPlacedWith (files place : ℕ) (s : Savepoint) : Type 0 where
  pub point : IsSavepointWith files s
  pub stands : StandsAt place s

-- a savepoint of version 1, in its place
abbrev pub IsSavepointOf : ℕ → Savepoint → Type 0
IsSavepointOf place s = IsPlacedWith 16 place s

-- FOEDUS, and the version
abbrev pub magic : ℕ → ℕ
magic version = 0x464F_4544_5553_0000 + version

-- the body in a version, of so many words
abbrev pub versioned_words : ℕ → ℕ → Savepoint → List ℕ
versioned_words version size s = padded size (magic version ∷ s.sequence ∷ s.epoch ∷ s.catalogue ∷ s.count ∷ s.lengths)

-- the valid byte of an open place
abbrev pub valid_byte : ℕ
valid_byte = 0xA5

-- an open place in a version, with a body of so many words
abbrev pub versioned_bytes : ℕ → ℕ → Savepoint → List ℕ
versioned_bytes version size s = padded 8 (valid_byte ∷ []) ++ bytes_of (versioned_words version size s)

-- version 1 has a body of 63 words
abbrev pub body_words : Savepoint → List ℕ
body_words s = versioned_words 1 63 s

-- the bytes of an open place in version 1
abbrev pub place_bytes : Savepoint → List ℕ
place_bytes s = versioned_bytes 1 63 s
