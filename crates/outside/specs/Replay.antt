-- What the calls of a disk in memory make of its first bytes, and what a stop may leave of them.
--
-- Until a sync is done a stop may find any content in a range that was written, also where the file
-- grew by it, and finds every other byte as it was; of a file that was cut it may find some of the
-- last bytes still there, in any state. What answered a fault has the same effect, but for a sync,
-- which then has none. Once a sync is done a stop finds what reads give. A stop within a call is one
-- like any other.
use Rattle.std.specs.Prelude.{◌≡◌, ◌*◌, ℕ, zero, suc, Bool, true, false, List, [], ◌∷◌, length, take, nat_le, if◌then◌else◌}
use Rattle.outside.specs.declared.call.Call.{Call}
use Rattle.outside.specs.declared.call.Call.TheVariants.{Len, Read, Write, Cut, Sync}
use Rattle.outside.specs.declared.call.Made.{Made}
use Rattle.outside.specs.Disk.{written, Torn, Shortened, Same}

-- what reads give after a call that was done
abbrev pub done : Call → List ℕ → List ℕ
done (Write at bytes) file = if nat_le at (length file) then written at bytes.items file else file
done (Cut len) file = take len file
done Len file = file
done Read file = file
done Sync file = file

-- what reads give after a call that was made; one that failed is not done
abbrev pub read_after : Made → List ℕ → List ℕ
read_after made file = if made.failed then file else done made.call file

-- what reads give after these calls
abbrev pub read_through : List Made → List ℕ → List ℕ
read_through [] file = file
read_through (made ∷ calls) file = read_through calls (read_after made file)

-- what a call does to what a stop may leave
abbrev pub step_of : Call → List ℕ → List ℕ → Type 0
step_of (Write at bytes) = Torn at (length bytes.items)
step_of (Cut len) = Shortened len
step_of Len = Same
step_of Read = Same
step_of Sync = Same

-- What a stop within a call may leave, where `before` holds of what one could leave as it began.
abbrev pub LeftDuring : Call → (List ℕ → Type 0) → List ℕ → Type 0
LeftDuring (Write at bytes) before c = (d : List ℕ) × before d × Torn at (length bytes.items) d c
LeftDuring (Cut len) before c = (d : List ℕ) × before d × Shortened len d c
LeftDuring Len before c = before c
LeftDuring Read before c = before c
LeftDuring Sync before c = before c

-- What a stop after a call may leave, of a file as it was read: a sync that was done, and did not
-- fail, leaves just that. After each other call a stop may leave what it could within the call.
abbrev pub LeftAfter : Call → Bool → List ℕ → (List ℕ → Type 0) → List ℕ → Type 0
LeftAfter Sync false file before c = c ≡ file
LeftAfter Sync true file before c = before c
LeftAfter (Write at bytes) failed file before c = LeftDuring (Write at bytes) before c
LeftAfter (Cut len) failed file before c = LeftDuring (Cut len) before c
LeftAfter Len failed file before c = before c
LeftAfter Read failed file before c = before c

-- What a stop at a moment of these calls may leave: an even moment lies between two calls, an odd
-- one within a call.
abbrev pub LeftAt : ℕ → List Made → List ℕ → (List ℕ → Type 0) → List ℕ → Type 0
LeftAt zero calls file before c = before c
LeftAt (suc m) [] file before c = before c
LeftAt (suc zero) (made ∷ calls) file before c = LeftDuring made.call before c
LeftAt (suc (suc m)) (made ∷ calls) file before c = LeftAt m calls (read_after made file) (LeftAfter made.call made.failed file before) c

-- the moments of these calls
abbrev pub moments_of : List Made → ℕ
moments_of calls = 2 * length calls

-- what a stop at a moment of these calls may leave of a disk that was settled with the first bytes
abbrev pub IsImage : List ℕ → List Made → ℕ → List ℕ → Type 0
IsImage first calls moment c = LeftAt moment calls first (λ file. file ≡ first) c

-- A call whose step may be left after it, as within it: each but a sync that was done.
abbrev pub IsLoose : Call → Bool → Type 0
IsLoose Sync false = ⊥
IsLoose Sync true = Unit {0}
IsLoose Len failed = Unit {0}
IsLoose Read failed = Unit {0}
IsLoose (Write at bytes) failed = Unit {0}
IsLoose (Cut len) failed = Unit {0}

-- what the last moment leaves, by what could be left before the call
pub record LeavesLast {D : Type 0} (clock : D → ℕ) (image_at : D → ℕ → List ℕ → Type 0) (after : (List ℕ → Type 0) → List ℕ → Type 0) (old new : D) : Type 0 where
  pub last : (c : List ℕ) → image_at new (clock new) c → after (image_at old (clock old)) c
