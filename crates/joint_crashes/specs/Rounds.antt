-- What the keeper has to tell of a round: the savepoints that it stored, and the snapshots.
use Rattle.std.specs.Prelude.{◌≤◌, ◌<◌, ◌⊎◌, ℕ, List}
use Rattle.std.specs.List.{Contains}
use Rattle.log_writer.specs.declared.records.Tie.{Tie}
use Rattle.joint_crashes.specs.Story.{Lasts}
use Rattle.joint_crashes.specs.JointCrash.{Moments}
use Rattle.joint_crashes.specs.Story.{Story, SaveTold, SnapsTold}

-- The keeper's: the savepoints of these sequences were stored one after another, over pages that only grew.
pub record KeeperRan {D : Type 0} (clock : D → ℕ) (image_at : D → ℕ → List ℕ → Type 0) (story : Story)
    (from : Moments) (low s high : ℕ) (save_was save snaps_was snaps : D) (ties_was ties : List Tie) : Type 0 where
  pub more : s ≤ high
  pub save_told : SaveTold clock image_at story.point from.save low high save ties
  pub snaps_told : SnapsTold clock image_at story.pages from.snaps low high snaps ties
  pub save_lasts : Lasts clock image_at save_was save
  pub snaps_lasts : Lasts clock image_at snaps_was snaps
  pub keeps : (tie : Tie) → Contains ties_was tie → Contains ties tie
  pub adds : (tie : Tie) → Contains ties tie → Contains ties_was tie ⊎ (s < tie.sequence)
