-- Stops of all devices by moments of marks. A mark counts bytes of a log file from a moment of this file's clock on; a
-- savepoint takes that moment over with what it counts. A stop that meets no log file before it finds all of it.
use Rattle.std.specs.Prelude.{◌≡◌, ◌≤◌, ◌<◌, ℕ, List, Option, Some}
use Rattle.std.specs.List.{Contains}
use Rattle.outside.specs.Fronts.{AllBegin}
use Rattle.outside.specs.declared.device.Device.TheVariants.{Bank}
use Rattle.log_writer.specs.declared.records.Tie.{Tie}
use Rattle.log_writer.specs.Points.{sequence_of}
use Rattle.log_writer.specs.Save.{Names}
use Rattle.wire_form.specs.declared.savepoint.Savepoint.{Savepoint}
use Rattle.joint_crashes.specs.Images.{Images}
use Rattle.joint_crashes.specs.JointCrash.{AreImages, HasCut, Moments, Parts}
use Rattle.joint_crashes.specs.Story.{Story}

-- for each sequence and each log file the moment of the mark by which its savepoint counts
abbrev pub Since : Type 0
Since = ℕ → ℕ → ℕ

module _ {D : Type 0} (clock : D → ℕ) (image_at : D → ℕ → List ℕ → Type 0) where
  -- One log file: what each savepoint counts of it is in all images from its moment on, which lies past each cut that an
  -- older one allowed, up to the first cut that a newer one allowed.
  pub record BankSince (counted : ℕ → List ℕ) (since : ℕ → ℕ) (from low high : ℕ) (bank : D)
      (IsCut : ℕ → ℕ → Type 0) : Type 0 where
    pub come : (k : ℕ) → low ≤ k → k ≤ high → since k ≤ clock bank
    pub past : (k : ℕ) → low ≤ k → k ≤ high → (began after : ℕ) → IsCut began after → after < k → began < since k
    pub kept : (k m : ℕ) → low ≤ k → k ≤ high → from ≤ m → since k ≤ m → m ≤ clock bank
        → ((began after : ℕ) → IsCut began after → k < after → m ≤ began)
        → AllBegin (image_at bank m) (counted k)

  -- so it is with all log files
  abbrev pub AreSince : Story → Since → Moments → ℕ → ℕ → Parts D → Type 0
  AreSince story since from low high parts = (n : ℕ) (bank : D) → parts.banks n ≡ Some bank
      → BankSince (λ k. story.counted k n) (λ k. since k n) (from.bank n) low high bank (HasCut parts.cuts (Bank n))

  -- A stop of all devices that could be at one instant. Where the save names a savepoint, its store had begun, so no log
  -- file is met before the moment of the mark by which the savepoint counts it; and ties and cuts are as they were
  -- recorded. Nothing is asked of the images of the log files' moments.
  pub record IsCausal (since : Since) (parts : Parts D) (at : Moments) (found : Images) : Type 0 where
    pub images : AreImages clock image_at parts at found
    pub marked : (point : Option Savepoint) → Names found.save point
        → (n : ℕ) (bank : D) → parts.banks n ≡ Some bank → since (sequence_of point) n ≤ at.bank n
    pub stored : (point : Option Savepoint) → Names found.save point
        → (tie : Tie) → Contains parts.ties tie → tie.sequence ≡ sequence_of point → tie.snaps ≤ at.snaps
    pub ended : (n : ℕ) (bank : D) → parts.banks n ≡ Some bank → (began after : ℕ)
        → HasCut parts.cuts (Bank n) began after
        → began < at.bank n → (tie : Tie) (end : ℕ) → Contains parts.ties tie → tie.sequence ≡ after
        → tie.ended ≡ Some end → end ≤ at.save
