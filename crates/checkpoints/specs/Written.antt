-- What the writing of a new snapshot leaves of all devices.
use Rattle.std.specs.Prelude.{◌≡◌, ℕ, ◌+◌, ◌*◌, ◌^◌, ◌<◌, ◌≤◌, List, [], Option, length}
use Rattle.std.specs.List.{AllByRecursion}
use Rattle.wire_form.specs.declared.page.Page.{Page}
use Rattle.wire_form.specs.declared.savepoint.Savepoint.{Savepoint}
use Rattle.log_writer.specs.Points.{point_of, sequence_of}
use Rattle.log_writer.specs.declared.saved.Saved.{Saved}
use Rattle.snapshot_store.specs.Store.{IsWhole}
use Rattle.joint_crashes.specs.Images.{Images}
use Rattle.joint_crashes.specs.JointCrash.{Parts, Moments}
use Rattle.joint_crashes.specs.Resting.{IsResting, HasNoRecords, AreTold}
use Rattle.joint_crashes.specs.Settling.{IsSafe, story_of}
use Rattle.joint_crashes.specs.SettleRests.{RestsSince}
use Rattle.joint_crashes.specs.Story.{IsTold, AreOpen}

-- a page in memory has 64 words of 64 bits
pub record FitsDevice (page : Page) : Type 0 where
  pub fit : AllByRecursion (λ w. w < 2 ^ 64) page.words
  pub whole : IsWhole page

module _ {D : Type 0} (clock : D → ℕ) (image_at : D → ℕ → List ℕ → Type 0) where
  -- Devices that rested since some moments, on the newest savepoint and at most so many pages.
  pub record RestsFrom (tells : D → Option (List ℕ)) (newest : Option Savepoint) (have : ℕ) (found : Images)
      (from : Moments) (parts : Parts D) (rest : IsResting clock image_at parts) : Type 0 where
    pub none : HasNoRecords parts
    pub told : AreTold tells parts found
    pub since : RestsSince clock image_at from rest.point rest.pages rest.counted parts
    pub newest_is : rest.point ≡ newest
    pub within : length rest.pages ≤ 512 * have

  -- Whatever the writing answers: each joint crash since these moments finds the newest savepoint with all that it
  -- counts, or the next one with these pages.
  abbrev pub LeavesOldOrNext : (D → Option (List ℕ)) → Option Savepoint → Saved → ℕ → List ℕ → Parts D → Parts D
      → Type 0
  LeavesOldOrNext tells newest saved have more old new =
      (found : Images) (from : Moments) → (rest : IsResting clock image_at old)
      → RestsFrom tells newest have found from old rest
      → IsSafe clock image_at from newest (point_of (sequence_of newest + 1) saved) rest.pages more rest.counted old new

  -- and where it was done, this is known of each device, and nothing is durable of the log files
  abbrev pub HasWritten : (D → Option (List ℕ)) → Option Savepoint → Saved → ℕ → List ℕ → Parts D → Parts D → Type 0
  HasWritten tells newest saved have more old new =
      (found : Images) (from : Moments) → (rest : IsResting clock image_at old)
      → RestsFrom tells newest have found from old rest
      → IsTold clock image_at (story_of newest (point_of (sequence_of newest + 1) saved) rest.pages more rest.counted)
      from (sequence_of newest) (sequence_of newest + 1) new
      × AreOpen clock image_at (story_of newest (point_of (sequence_of newest + 1) saved) rest.pages more rest.counted)
      from (sequence_of newest) (sequence_of newest + 1) new (λ n. [])
