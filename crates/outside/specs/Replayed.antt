-- A disk in memory as it reads is one of its images.
use Rattle.std.specs.Prelude.{◌≡◌, ◌*◌, ℕ, zero, suc, Bool, true, false, List, [], ◌∷◌, Some, length, nat_le, if◌then◌else◌, refl}
use Rattle.std.proofs.Common.{subst, arith, inl, inr}
use Rattle.std.proofs.lemmas.Bool.{cases_lt}
use Rattle.std.proofs.lemmas.Bool.Decides.{nat_tests}
use Rattle.outside.specs.declared.call.Call.{Call}
use Rattle.outside.specs.declared.call.Call.TheVariants.{Len, Read, Write, Cut, Sync}
use Rattle.outside.specs.declared.call.Made.{Made}
use Rattle.outside.specs.Disk.{written, Torn}
use Rattle.outside.specs.Ranges.{torn_written, torn_same, shortened_cut, shortened_same}
use Rattle.outside.specs.Replay.{done, read_after, LeftAfter, read_through, LeftAt, IsImage, moments_of}

-- what a write does is one of what may be left of it
torn_done : (at : ℕ) (bytes file : List ℕ)
    → Torn at (length bytes) file (if nat_le at (length file) then written at bytes file else file)
torn_done at bytes file = elim (cases_lt (length file) at) [
  | inr le ↦ let torn = torn_written at bytes file le in grind (arith, nat_tests)
  | inl gt ↦ let torn = torn_same at (length bytes) file in grind (arith, nat_tests)
]

-- what reads give after a call may be left after it
reads_after : (call : Call) (failed : Bool) (file : List ℕ) (before : List ℕ → Type 0) → before file
    → LeftAfter call failed file before (if failed then file else done call file)
reads_after Sync false file before is = refl
reads_after Sync true file before is = is
reads_after (Write at bytes) false file before is = (file, is, torn_done at bytes.items file)
reads_after (Write at bytes) true file before is = (file, is, torn_same at (length bytes.items) file)
reads_after (Cut len) false file before is = (file, is, shortened_cut len file)
reads_after (Cut len) true file before is = (file, is, shortened_same len file)
reads_after Len false file before is = is
reads_after Len true file before is = is
reads_after Read false file before is = is
reads_after Read true file before is = is

-- and so at the last moment of these calls
reads_at : (m : ℕ) (calls : List Made) (file : List ℕ) (before : List ℕ → Type 0)
    → m ≡ 2 * length calls → before file → LeftAt m calls file before (read_through calls file)
reads_at zero [] file before at_end is = is
reads_at (suc m) [] file before at_end is = is
reads_at zero (made ∷ calls) file before at_end is = absurd (omega arith)
reads_at (suc zero) (made ∷ calls) file before at_end is = absurd (omega arith)
reads_at (suc (suc m)) (made ∷ calls) file before at_end is =
    let step = reads_after made.call made.failed file before is in
    reads_at m calls (read_after made file) (LeftAfter made.call made.failed file before) (omega arith) step

-- what reads give after all calls is an image of the last moment
pub reads_as_left : (calls : List Made) (first : List ℕ)
    → IsImage first calls (moments_of calls) (read_through calls first)
reads_as_left calls first = reads_at (2 * length calls) calls first (λ file. file ≡ first) refl refl

-- what is told of a disk, and what reads give, is one
pub told_as_left : (calls : List Made) (first bytes file : List ℕ)
    → bytes ≡ read_through calls first → Some bytes ≡ Some file
    → IsImage first calls (moments_of calls) file
told_as_left calls first bytes file read told =
    let is : read_through calls first ≡ file = cc in
    subst (λ c. IsImage first calls (moments_of calls) c) is (reads_as_left calls first)
