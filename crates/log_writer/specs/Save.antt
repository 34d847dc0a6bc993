-- What the save device names: one savepoint, or none, whatever else its two places hold.
use Rattle.std.specs.Prelude.{◌≡◌, ◌≢◌, ◌⊎◌, ℕ, ◌*◌, List, [], ◌∷◌, Option, Some, None, length, take, drop, slice_index, nat_lt, ◌==◌, if◌then◌else◌}
use Rattle.wire_form.specs.declared.savepoint.Savepoint.{Savepoint}
use Rattle.wire_form.specs.Savepoint.{IsSavepointOf, place_bytes, valid_byte}
use Rattle.outside.specs.Disk.{IfTold, written, Torn, Only}
use Rattle.log_writer.specs.Points.{sequence_of}

-- place 0 is the first half of the device, and place 1 the second
abbrev pub place_in : List ℕ → ℕ → List ℕ
place_in file place = take 512 (drop (512 * place) file)

-- A place is closed, and then has none whatever its other bytes are, or it is open and has a
-- savepoint of its own.
abbrev pub HasPoint : ℕ → List ℕ → Option Savepoint → Type 0
HasPoint place bytes None = slice_index bytes 0 ≢ valid_byte
HasPoint place bytes (Some p) = IsSavepointOf place p × (bytes ≡ place_bytes p)

-- of two places the one that has the savepoint of greater sequence
abbrev pub newer : Option Savepoint → Option Savepoint → Option Savepoint
newer None b = b
newer (Some a) None = Some a
newer (Some a) (Some b) = if nat_lt a.sequence b.sequence then Some b else Some a

-- the device has this for its newest savepoint
pub record Names (file : List ℕ) (newest : Option Savepoint) : Type 0 where
  pub size : length file ≡ 1024
  pub first : Option Savepoint
  pub second : Option Savepoint
  pub in_first : HasPoint 0 (place_in file 0) first
  pub in_second : HasPoint 1 (place_in file 1) second
  pub counts : newest ≡ newer first second

-- a place that is open and has no savepoint of its own
abbrev pub IsBroken : ℕ → List ℕ → Type 0
IsBroken place bytes = (point : Option Savepoint) → HasPoint place bytes point → ⊥

-- Which byte is told of a device that names nothing: 0 for its length, else where the first broken
-- place begins.
pub record IsDamaged (file : List ℕ) (at : ℕ) : Type 0 where
  pub cause : ((length file ≢ 1024) × (at ≡ 0))
      ⊎ (((length file ≡ 1024) × IsBroken 0 (place_in file 0) × (at ≡ 0))
      ⊎ ((length file ≡ 1024) × (first : Option Savepoint) × HasPoint 0 (place_in file 0) first × IsBroken 1 (place_in file 1) × (at ≡ 512)))

-- a stop now leaves this file and no other, and it names this savepoint for the newest
pub record LeavesNewest {D : Type 0} (clock : D → ℕ) (image_at : D → ℕ → List ℕ → Type 0) (disk : D) (newest : Option Savepoint) (file : List ℕ) : Type 0 where
  pub only : Only clock image_at disk file
  pub names : Names file newest

-- where the device tells its bytes, a stop now leaves those, and they name this savepoint for the newest
abbrev pub IsStored : {D : Type 0} → (tells : D → Option (List ℕ)) → (clock : D → ℕ) → (image_at : D → ℕ → List ℕ → Type 0) → D → Option Savepoint → Type 0
IsStored tells clock image_at disk newest = IfTold (tells disk) (LeavesNewest clock image_at disk newest)

-- what a stop leaves while a savepoint is stored over another, or over none
abbrev pub NamesOldOrNew : Option Savepoint → Savepoint → List ℕ → Type 0
NamesOldOrNew old new file = Names file old ⊎ Names file (Some new)

-- the device with the place closed that begins at this byte
abbrev pub closed : ℕ → List ℕ → List ℕ
closed at file = if slice_index file at == valid_byte then written at (0 ∷ []) file else file

-- what a stop leaves meanwhile: a place that isn't open is not written
abbrev pub ClosedOrTorn : ℕ → List ℕ → List ℕ → Type 0
ClosedOrTorn at file c = (c ≡ file) ⊎ ((slice_index file at ≡ valid_byte) × Torn at 1 file c)

-- the save device names a savepoint of this sequence for the newest, as far as it tells its bytes, and nothing of it is
-- pending
abbrev pub IsNewest : {D : Type 0} → (tells : D → Option (List ℕ)) → (clock : D → ℕ) → (image_at : D → ℕ → List ℕ → Type 0) → D → ℕ → Type 0
IsNewest tells clock image_at disk sequence =
    (newest : Option Savepoint) × IsStored tells clock image_at disk newest × (sequence_of newest ≡ sequence)
