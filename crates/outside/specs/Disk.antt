-- What the calls of a disk do to the bytes that it tells, to its clock, and to what a stop may leave of it.
use Rattle.std.specs.Prelude.{◌≡◌, ◌⊎◌, ◌<◌, ◌≤◌, ℕ, ◌+◌, ◌^◌, max, List, ◌++◌, length, take, drop, Option, Some, Result, OnOk, OnErr}
use Rattle.outside.specs.Faults.{HasCause}

-- P of what is told, where anything is
abbrev pub IfTold : Option (List ℕ) → (List ℕ → Type 0) → Type 0
IfTold told P = (bytes : List ℕ) → told ≡ Some bytes → P bytes

-- a file with these bytes written over it from this offset on
abbrev pub written : ℕ → List ℕ → List ℕ → List ℕ
written at bytes file = take at file ++ bytes ++ drop (at + length bytes) file

-- A write of so many bytes that was done in part: any bytes in its range and past the old end,
-- and the same elsewhere.
pub record Torn (at count : ℕ) (old new : List ℕ) : Type 0 where
  pub before : take at new ≡ take at old
  pub after : drop (at + count) new ≡ drop (at + count) old
  pub no_shorter : length old ≤ length new
  pub no_longer : length new ≤ max (length old) (at + count)

-- A cut that was done in part: any bytes or none from its length to the old end.
pub record Shortened (len : ℕ) (old new : List ℕ) : Type 0 where
  pub front : take len new ≡ take len old
  pub no_longer : length new ≤ length old

-- a call that changes nothing
abbrev pub Same : List ℕ → List ℕ → Type 0
Same old new = old ≡ new

-- A call that is made takes two ticks of the clock, its begin and its end, and one that is refused
-- before it begins takes none. At the clock's last values no call is made.
pub record Ticks {T E : Type 0} (before now : ℕ) (result : Result T E) : Type 0 where
  pub ok : OnOk result (now ≡ before + 2)
  pub err : OnErr result ((now ≡ before + 2) ⊎ (now ≡ before))
  pub counted : OnOk result (now < 2 ^ 64)

-- The crash images of a disk are told for each moment of its clock: image_at disk moment bytes says
-- that a stop then may leave these bytes.

-- What a call does to them. The moments before it have the images that they had, and no others. At the later ones a
-- stop leaves what it could leave as the call began, after a step.
pub record Goes {D : Type 0} (clock : D → ℕ) (image_at : D → ℕ → List ℕ → Type 0) (step : List ℕ → List ℕ → Type 0) (old new : D) : Type 0 where
  pub later : clock old ≤ clock new
  pub kept : (m : ℕ) (c : List ℕ) → m ≤ clock old → image_at old m c → image_at new m c
  pub no_new : (m : ℕ) (c : List ℕ) → m ≤ clock old → image_at new m c → image_at old m c
  pub from : (m : ℕ) (c : List ℕ) → clock old < m → m ≤ clock new → image_at new m c
      → (d : List ℕ) × image_at old (clock old) d × step d c

-- And each such step may be left, at each moment of the call up to this one.
pub record LeavesEach {D : Type 0} (clock : D → ℕ) (image_at : D → ℕ → List ℕ → Type 0) (step : List ℕ → List ℕ → Type 0) (old new : D) (end : ℕ) : Type 0 where
  pub each : (m : ℕ) (d c : List ℕ) → clock old < m → m ≤ end → image_at old (clock old) d → step d c → image_at new m c

-- What each call of a disk does, by a step that it may be done in part: to the images of the moments before it and at
-- it, to the clock, and to the count of faults. The step may be left at each moment up to the end.
pub record Calls {D T E : Type 0} (clock : D → ℕ) (image_at : D → ℕ → List ℕ → Type 0) (faults : D → ℕ) (step : List ℕ → List ℕ → Type 0) (end : ℕ) (old new : D) (result : Result T E) : Type 0 where
  pub moments : Goes clock image_at step old new
  pub each : LeavesEach clock image_at step old new end
  pub ticks : Ticks (clock old) (clock new) result
  pub cause : HasCause (faults old) (faults new) result

-- what a stop now may leave
abbrev pub MayLeave : {D : Type 0} → (clock : D → ℕ) → (image_at : D → ℕ → List ℕ → Type 0) → D → List ℕ → Type 0
MayLeave clock image_at disk c = image_at disk (clock disk) c

-- what a stop at some moment since this one might have left
abbrev pub MightHaveLeft : {D : Type 0} → (clock : D → ℕ) → (image_at : D → ℕ → List ℕ → Type 0) → D → ℕ → List ℕ → Type 0
MightHaveLeft clock image_at disk since c = (m : ℕ) × (since ≤ m) × (m ≤ clock disk) × image_at disk m c

-- a stop now leaves this and nothing else
abbrev pub Only : {D : Type 0} → (clock : D → ℕ) → (image_at : D → ℕ → List ℕ → Type 0) → D → List ℕ → Type 0
Only clock image_at disk file = (c : List ℕ) → image_at disk (clock disk) c → c ≡ file

-- nothing is pending: the disk reads as this, and a stop now leaves just that
pub record IsSettled {D : Type 0} (tells : D → Option (List ℕ)) (clock : D → ℕ) (image_at : D → ℕ → List ℕ → Type 0) (disk : D) (file : List ℕ) : Type 0 where
  pub told : tells disk ≡ Some file
  pub only : Only clock image_at disk file

-- One call or many: the moments before have the images that they had, and no others, and at each later one a stop
-- leaves what has P.
pub record Runs {D : Type 0} (clock : D → ℕ) (image_at : D → ℕ → List ℕ → Type 0) (old new : D) (P : List ℕ → Type 0) : Type 0 where
  pub later : clock old ≤ clock new
  pub kept : (m : ℕ) (c : List ℕ) → m ≤ clock old → image_at old m c → image_at new m c
  pub no_new : (m : ℕ) (c : List ℕ) → m ≤ clock old → image_at new m c → image_at old m c
  pub leaves : (m : ℕ) (c : List ℕ) → clock old < m → m ≤ clock new → image_at new m c → P c
