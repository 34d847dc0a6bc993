-- What a glean that is asked for by itself leaves of the crashes of all devices.
use Rattle.std.specs.Prelude.{◌≡◌, ℕ, List, Option, true}
use Rattle.log_writer.specs.declared.vault.Vault.{Vault}
use Rattle.serial_model.specs.declared.number.Commit.{Commit}
use Rattle.log_writer.specs.Points.{sequence_of}
use Rattle.joint_crashes.specs.JointCrash.{CrashesNow, KeepsCrashes, Moments, parts_of}
use Rattle.joint_crashes.specs.Story.{IsTold, Story}
use Rattle.round_engine.specs.Crashes.{KnowsBefore}
use Rattle.round_engine.specs.Standing.{RuntimeState}

module _ {D : Type 0} (tells : D → Option (List ℕ)) (clock : D → ℕ) (image_at : D → ℕ → List ℕ → Type 0) where
  -- Each joint crash of moments since these finds one of the savepoints that it could find before, with all that it
  -- counts: so it leaves the epoch and the state that this one stands for. A stop as the call returns is a joint crash,
  -- and none is lost. All of it is known as the next call begins, unless the snapshots failed.
  pub record KnowsStill (story : Story) (from : Moments) (low : ℕ) (commits gone : ℕ → List Commit)
      (durable closed : ℕ → List ℕ) (old new : RuntimeState) (before now : Vault D) : Type 0 where
    pub told : IsTold clock image_at story from low (sequence_of old.save.newest) (parts_of now)
    pub instant : CrashesNow clock image_at (parts_of now)
    pub keeps : KeepsCrashes clock image_at from (parts_of before) (parts_of now)
    pub next : new.store.sound ≡ true
        → KnowsBefore tells clock image_at story from low commits gone durable closed new now

  -- A glean leaves that of whatever was known.
  abbrev pub CarriesKnown : RuntimeState → RuntimeState → Vault D → Vault D → Type 0
  CarriesKnown old new before now = (story : Story) (from : Moments) (low : ℕ) (commits gone : ℕ → List Commit)
      (durable closed : ℕ → List ℕ)
      → KnowsBefore tells clock image_at story from low commits gone durable closed old before
      → KnowsStill story from low commits gone durable closed old new before now
