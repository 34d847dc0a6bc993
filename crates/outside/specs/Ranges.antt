-- What a write and a cut leave of a file, as laws for those who use a disk.
use Rattle.std.specs.Prelude.{◌≡◌, ◌≤◌, ℕ, ◌+◌, ◌-◌, List, ◌++◌, length, take, drop, refl}
use Rattle.std.proofs.Common.{arith, length-append, length-drop, append_assoc}
use Rattle.std.proofs.lemmas.List.{take_at, drop_at, length-take-le, length-take, take-take}
use Rattle.outside.specs.Disk.{written, Torn, Shortened}

-- how long a file is once it was written
pub length-written : (at : ℕ) (bytes file : List ℕ) → at ≤ length file
    → length (written at bytes file) ≡ at + length bytes + (length file - (at + length bytes))
length-written at bytes file within = omega (
  arith,
  length-append (take at file ++ bytes) (drop (at + length bytes) file),
  length-append (take at file) bytes,
  length-take-le at file within,
  length-drop (at + length bytes) file,
)

-- a write that was done is one of those that may be left of it
pub torn_written : (at : ℕ) (bytes file : List ℕ) → at ≤ length file
    → Torn at (length bytes) file (written at bytes file)
torn_written at bytes file within = record {
  before = rw append_assoc (take_at (take at file) (bytes ++ drop (at + length bytes) file) at (length-take-le at file within));
  after = drop_at (take at file ++ bytes) (drop (at + length bytes) file) (at + length bytes) (omega (arith, length-append (take at file) bytes, length-take-le at file within));
  no_shorter = omega (arith, length-written at bytes file within);
  no_longer = omega (arith, length-written at bytes file within);
}

-- and so is one that was not done
pub torn_same : (at count : ℕ) (file : List ℕ) → Torn at count file file
torn_same at count file = record {
  before = refl;
  after = refl;
  no_shorter = omega arith;
  no_longer = omega arith;
}

-- a cut that was done is one of those that may be left of it
pub shortened_cut : (len : ℕ) (file : List ℕ) → Shortened len file (take len file)
shortened_cut len file = record {
  front = take-take len len file (omega arith);
  no_longer = omega (arith, length-take len file);
}

-- and so is one that was not done
pub shortened_same : (len : ℕ) (file : List ℕ) → Shortened len file file
shortened_same len file = record { front = refl; no_longer = omega arith }
