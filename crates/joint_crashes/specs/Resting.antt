-- A database of which nothing that counts is pending.
use Rattle.std.specs.Prelude.{◌≡◌, ◌≤◌, ◌*◌, ℕ, List, [], Option, Some, length}
use Rattle.std.specs.List.{Contains}
use Rattle.outside.specs.Disk.{Only}
use Rattle.outside.specs.Fronts.{AllBegin}
use Rattle.log_writer.specs.declared.records.Tie.{Tie}
use Rattle.wire_form.specs.declared.savepoint.Savepoint.{Savepoint}
use Rattle.log_writer.specs.Save.{Names}
use Rattle.joint_crashes.specs.Images.{Images, count_of, counted_of}
use Rattle.joint_crashes.specs.JointCrash.{CrashesNow, Parts}

-- The save has one image, all images of the snapshots begin with the pages that it counts, and all images of each log
-- file with the bytes that it counts. What lies behind them may be pending, as after a cut that wasn't synced.
pub record IsResting {D : Type 0} (clock : D → ℕ) (image_at : D → ℕ → List ℕ → Type 0) (parts : Parts D) : Type 0 where
  pub file : List ℕ
  pub point : Option Savepoint
  pub pages : List ℕ
  pub counted : ℕ → List ℕ
  pub save : Only clock image_at parts.save file
  pub names : Names file point
  pub snaps : AllBegin (image_at parts.snaps (clock parts.snaps)) pages
  pub pages_sized : length pages ≡ 512 * count_of point
  pub bank : (n : ℕ) (bank : D) → parts.banks n ≡ Some bank → AllBegin (image_at bank (clock bank)) (counted n)
  pub bank_sized : (n : ℕ) (bank : D) → parts.banks n ≡ Some bank → length (counted n) ≡ counted_of point n

-- no store and no cut is recorded
pub record HasNoRecords {D : Type 0} (parts : Parts D) : Type 0 where
  pub ties : parts.ties ≡ []
  pub cuts : parts.cuts ≡ []

-- each device tells its bytes
pub record AreTold {D : Type 0} (tells : D → Option (List ℕ)) (parts : Parts D) (found : Images) : Type 0 where
  pub save : tells parts.save ≡ Some found.save
  pub snaps : tells parts.snaps ≡ Some found.snaps
  pub bank : (n : ℕ) (bank : D) → parts.banks n ≡ Some bank → tells bank ≡ Some (found.bank n)

-- Nothing is pending: of each device a stop now leaves what it tells, and nothing else.
pub record AreSettled {D : Type 0} (tells : D → Option (List ℕ)) (clock : D → ℕ) (image_at : D → ℕ → List ℕ → Type 0)
    (parts : Parts D) (found : Images) : Type 0 where
  pub told : AreTold tells parts found
  pub save : Only clock image_at parts.save found.save
  pub snaps : Only clock image_at parts.snaps found.snaps
  pub bank : (n : ℕ) (bank : D) → parts.banks n ≡ Some bank → Only clock image_at bank (found.bank n)

-- each store that is told to have ended had ended by now
abbrev pub HaveEnded : {D : Type 0} → (D → ℕ) → Parts D → Type 0
HaveEnded clock parts = (tie : Tie) (end : ℕ) → Contains parts.ties tie → tie.ended ≡ Some end → end ≤ clock parts.save

-- A stop of all devices now is a joint crash, whatever it leaves, and what was recorded has come.
pub record StopsNow {D : Type 0} (clock : D → ℕ) (image_at : D → ℕ → List ℕ → Type 0) (parts : Parts D) : Type 0 where
  pub crashes : CrashesNow clock image_at parts
  pub ended : HaveEnded clock parts
