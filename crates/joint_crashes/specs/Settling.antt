-- A savepoint that counts nothing of some log files, and their cuts.
use Rattle.std.specs.Prelude.{◌≡◌, ◌≤◌, ◌⊎◌, ◌+◌, ℕ, List, []}
use Rattle.std.specs.Prelude.{Option, Some, is_some, true, length, nat_le, if◌then◌else◌}
use Rattle.std.specs.List.{Contains}
use Rattle.outside.specs.declared.device.Device.TheVariants.{Bank}
use Rattle.wire_form.specs.declared.savepoint.Savepoint.{Savepoint}
use Rattle.log_writer.specs.declared.saved.Saved.{Saved}
use Rattle.log_writer.specs.Points.{point_of, sequence_of}
use Rattle.lists.specs.Fronts.{IsFront}
use Rattle.outside.specs.Disk.{Only}
use Rattle.outside.specs.Fronts.{AllBegin}
use Rattle.log_writer.specs.Save.{Names}
use Rattle.joint_crashes.specs.Images.{Images, counted_of}
use Rattle.joint_crashes.specs.JointCrash.{Parts, Moments, HasCut, IsSince, IsJointCrash, CrashesNow, KeepsCrashes}
use Rattle.joint_crashes.specs.Resting.{HasNoRecords, HaveEnded}
use Rattle.joint_crashes.specs.Story.{Story, BankTold, BankOpen, IsTold}
use Rattle.joint_crashes.specs.Cutting.{AreReady, ArePast}

module _ {D : Type 0} (clock : D → ℕ) (image_at : D → ℕ → List ℕ → Type 0) where
  -- The next savepoint says this, and what it counts is there.
  pub record MayStore (tells : D → Option (List ℕ)) (story : Story) (from : Moments) (low : ℕ)
      (newest : Option Savepoint) (saved : Saved) (parts : Parts D) : Type 0 where
    pub told : IsTold clock image_at story from low (sequence_of newest) parts
    pub newest_is : story.point (sequence_of newest) ≡ newest
    pub point : story.point (sequence_of newest + 1) ≡ Some (point_of (sequence_of newest + 1) saved)
    pub tells_save : is_some (tells parts.save) ≡ true
    pub pages : AllBegin (image_at parts.snaps (clock parts.snaps)) (story.pages (sequence_of newest + 1))
    pub banks : (n : ℕ) (bank : D) → parts.banks n ≡ Some bank
        → BankTold clock image_at (λ k. story.counted k n) (from.bank n) low (sequence_of newest + 1) bank
        (HasCut parts.cuts (Bank n))
    pub sized : (n : ℕ) (bank : D) → parts.banks n ≡ Some bank → length (story.counted (sequence_of newest + 1) n)
        ≡ counted_of (story.point (sequence_of newest + 1)) n
    pub ready : AreReady clock image_at story (sequence_of newest) parts
    pub ready_next : AreReady clock image_at story (sequence_of newest + 1) parts

  -- What is left by a call that failed: its joint crashes are known, and the present instant is one.
  pub record IsLeft (story : Story) (from : Moments) (low top : ℕ) (parts : Parts D) : Type 0 where
    pub high : ℕ
    pub within : high ≤ top
    pub told : IsTold clock image_at story from low high parts
    pub instant : CrashesNow clock image_at parts

  -- What is left by one that was done: nothing is durable of the log files of these numbers, and the others are as
  -- they were.
  pub record IsSettled (story : Story) (from : Moments) (low high : ℕ) (numbers : List ℕ)
      (old new : Parts D) : Type 0 where
    pub told : IsTold clock image_at story from low high new
    pub instant : CrashesNow clock image_at new
    pub past : ArePast clock image_at new
    pub empty : (n : ℕ) (bank : D) → Contains numbers n → new.banks n ≡ Some bank
        → BankOpen clock image_at (λ j. story.counted j n) (from.bank n) low high bank (HasCut new.cuts (Bank n)) []
    pub others : (n : ℕ) → (Contains numbers n → ⊥) → new.banks n ≡ old.banks n
    pub open_others : (n : ℕ) (bank : D) (made : List ℕ) → (Contains numbers n → ⊥)
        → BankOpen clock image_at (λ j. story.counted j n) (from.bank n) low high bank (HasCut old.cuts (Bank n)) made
        → BankOpen clock image_at (λ j. story.counted j n) (from.bank n) low high bank (HasCut new.cuts (Bank n)) made

-- What a settling begins with: the devices rest on this savepoint, these pages and these bytes of the log files,
-- which tell
-- their bytes, and no store and no cut is recorded.
pub record RestsOn {D : Type 0} (tells : D → Option (List ℕ)) (clock : D → ℕ) (image_at : D → ℕ → List ℕ → Type 0)
    (newest : Option Savepoint) (pages : List ℕ) (counted : ℕ → List ℕ) (parts : Parts D) : Type 0 where
  pub file : List ℕ
  pub save : Only clock image_at parts.save file
  pub names : Names file newest
  pub snaps : AllBegin (image_at parts.snaps (clock parts.snaps)) pages
  pub bank : (n : ℕ) (bank : D) → parts.banks n ≡ Some bank → AllBegin (image_at bank (clock bank)) (counted n)
  pub sized : (n : ℕ) (bank : D) → parts.banks n ≡ Some bank → length (counted n) ≡ counted_of newest n
  pub told : (n : ℕ) (bank : D) → parts.banks n ≡ Some bank → (bytes : List ℕ) × (tells bank ≡ Some bytes)
  pub no_records : HasNoRecords parts

-- One savepoint is followed by another that counts the same pages, or more, and nothing of the log files.
unfoldable pub story_of : Option Savepoint → Savepoint → List ℕ → List ℕ → (ℕ → List ℕ) → Story
story_of newest next pages more counted = record {
  point = λ k. if nat_le k (sequence_of newest) then newest else Some next;
  pages = λ k. if nat_le k (sequence_of newest) then pages else more;
  counted = λ k n. if nat_le k (sequence_of newest) then counted n else [];
}

-- The images are those of the savepoint that was newest, or of the next one, which counts nothing of the log files.
abbrev pub FoundOldOrNew : {D : Type 0} → Option Savepoint → Savepoint → List ℕ → List ℕ → (ℕ → List ℕ) → Parts D
    → Images → Type 0
FoundOldOrNew {D} newest next pages more counted parts found =
    (Names found.save newest × IsFront pages found.snaps
    × ((n : ℕ) (bank : D) → parts.banks n ≡ Some bank → IsFront (counted n) (found.bank n)))
    ⊎ (Names found.save (Some next) × IsFront more found.snaps)

-- Each joint crash since these moments finds the one or the other, a stop now is one, and none was lost; and stores that
-- are told to have ended had ended by now.
pub record IsSafe {D : Type 0} (clock : D → ℕ) (image_at : D → ℕ → List ℕ → Type 0) (from : Moments)
    (newest : Option Savepoint) (next : Savepoint) (pages more : List ℕ) (counted : ℕ → List ℕ)
    (old new : Parts D) : Type 0 where
  pub stays : KeepsCrashes clock image_at from old new
  pub instant : CrashesNow clock image_at new
  pub ended : HaveEnded clock new
  pub stops : (at : Moments) (found : Images) → IsSince from at → IsJointCrash clock image_at new at found
      → FoundOldOrNew newest next pages more counted new found
