-- What is known of each device by itself, since some moments, so that each joint crash stands for one savepoint.
use Rattle.std.specs.Prelude.{◌≡◌, ◌≤◌, ◌<◌, ◌⊎◌, ℕ, List, Option, Some, length}
use Rattle.std.specs.List.{Contains}
use Rattle.outside.specs.declared.device.Device.TheVariants.{Bank}
use Rattle.log_writer.specs.declared.records.Tie.{Tie}
use Rattle.wire_form.specs.declared.savepoint.Savepoint.{Savepoint}
use Rattle.log_writer.specs.Points.{sequence_of}
use Rattle.log_writer.specs.Save.{Names}
use Rattle.lists.specs.Fronts.{IsFront}
use Rattle.outside.specs.Fronts.{AllBegin, AgreesOn}
use Rattle.joint_crashes.specs.Images.{Images, counted_of}
use Rattle.joint_crashes.specs.JointCrash.{Parts, Moments, HasCut}

-- what was saved under each sequence: the savepoint, the pages and the bytes of each log file that it counts
pub record Story : Type 0 where
  pub point : ℕ → Option Savepoint
  pub pages : ℕ → List ℕ
  pub counted : ℕ → ℕ → List ℕ

-- the moments of a device that have come have the images that they had
pub record Lasts {D : Type 0} (clock : D → ℕ) (image_at : D → ℕ → List ℕ → Type 0) (old new : D) : Type 0 where
  pub later : clock old ≤ clock new
  pub kept : (m : ℕ) (c : List ℕ) → m ≤ clock old → image_at old m c → image_at new m c
  pub no_new : (m : ℕ) (c : List ℕ) → m ≤ clock old → image_at new m c → image_at old m c

module _ {D : Type 0} (clock : D → ℕ) (image_at : D → ℕ → List ℕ → Type 0) where
  -- The save since a moment: each image names the savepoint of one of the sequences, and none that is older
  -- than a store that had ended.
  pub record SaveTold (point : ℕ → Option Savepoint) (from low high : ℕ) (save : D) (ties : List Tie) : Type 0 where
    pub ordered : low ≤ high
    pub began : from ≤ clock save
    pub numbered : (k : ℕ) → low ≤ k → k ≤ high → sequence_of (point k) ≡ k
    pub names : (m : ℕ) (c : List ℕ) → from ≤ m → m ≤ clock save → image_at save m c
        → (k : ℕ) × (low ≤ k) × (k ≤ high) × Names c (point k)
    pub newest : (tie : Tie) → Contains ties tie → tie.sequence ≤ high
    pub ended_time : (tie : Tie) (end : ℕ) → Contains ties tie → tie.ended ≡ Some end → end ≤ clock save
    pub ended : (tie : Tie) (end m : ℕ) (c : List ℕ) (k : ℕ) → Contains ties tie → tie.ended ≡ Some end → from ≤ m
        → end ≤ m → m ≤ clock save → image_at save m c
        → low ≤ k → k ≤ high → Names c (point k) → tie.sequence ≤ k

  -- The snapshots since a moment: each image begins with the pages of each savepoint whose store had begun.
  pub record SnapsTold (pages : ℕ → List ℕ) (from low high : ℕ) (snaps : D) (ties : List Tie) : Type 0 where
    pub began : from ≤ clock snaps
    pub times : (tie : Tie) → Contains ties tie → tie.snaps ≤ clock snaps
    pub since : (k m : ℕ) → low ≤ k → k ≤ high → from ≤ m → m ≤ clock snaps
        → ((tie : Tie) → Contains ties tie → tie.sequence ≡ k → tie.snaps ≤ m) → AllBegin (image_at snaps m) (pages k)

  -- One log file since a moment: between the cut before a savepoint and the cut after it, so many bytes as the
  -- savepoint counts are alike in all images only where they are those that it counts.
  pub record BankTold (counted : ℕ → List ℕ) (from low high : ℕ) (bank : D) (IsCut : ℕ → ℕ → Type 0) : Type 0 where
    pub began : from ≤ clock bank
    pub kept : (k m : ℕ) (front : List ℕ) → low ≤ k → k ≤ high → from ≤ m → m ≤ clock bank
        → ((began after : ℕ) → IsCut began after → after < k → began < m)
        → ((began after : ℕ) → IsCut began after → k < after → m ≤ began)
        → (c : List ℕ) → image_at bank m c
        → length front ≡ length (counted k) → AllBegin (image_at bank m) front → front ≡ counted k

  -- Since its last cut these bytes have become durable.
  pub record BankOpen (counted : ℕ → List ℕ) (from low high : ℕ) (bank : D) (IsCut : ℕ → ℕ → Type 0)
      (made : List ℕ) : Type 0 where
    pub past : (began after : ℕ) → IsCut began after → began < clock bank
    pub now : AllBegin (image_at bank (clock bank)) made
    pub agrees : (m : ℕ) → from ≤ m → m ≤ clock bank → ((began after : ℕ) → IsCut began after → began < m)
        → AgreesOn (image_at bank m) made
    pub counts : (k : ℕ) → low ≤ k → k ≤ high → ((began after : ℕ) → IsCut began after → after ≤ k)
        → IsFront (counted k) made

  -- A stop now, that finds this savepoint, finds what it counts of the log file, past each cut that an older one
  -- allowed.
  pub record BankReady (counted : ℕ → List ℕ) (k : ℕ) (bank : D) (IsCut : ℕ → ℕ → Type 0) : Type 0 where
    pub now : AllBegin (image_at bank (clock bank)) (counted k)
    pub past : (began after : ℕ) → IsCut began after → after < k → began < clock bank

  -- All devices since some moments, each by itself, and what the cuts have to do with the stores.
  pub record IsTold (story : Story) (from : Moments) (low high : ℕ) (parts : Parts D) : Type 0 where
    pub save : SaveTold story.point from.save low high parts.save parts.ties
    pub snaps : SnapsTold story.pages from.snaps low high parts.snaps parts.ties
    pub bank : (n : ℕ) (bank : D) → parts.banks n ≡ Some bank
        → BankTold (λ k. story.counted k n) (from.bank n) low high bank (HasCut parts.cuts (Bank n))
    pub sized : (n k : ℕ) (bank : D) → parts.banks n ≡ Some bank → low ≤ k → k ≤ high → length (story.counted k n)
        ≡ counted_of (story.point k) n
    pub older : (n began after : ℕ) → HasCut parts.cuts (Bank n) began after → after ≤ high
    pub allowed : (n began after : ℕ) → HasCut parts.cuts (Bank n) began after
        → (after ≤ low) ⊎ ((tie : Tie) × (end : ℕ) × Contains parts.ties tie × (tie.sequence ≡ after)
        × (tie.ended ≡ Some end))

  -- what is durable of each log file since its last cut
  abbrev pub AreOpen : Story → Moments → ℕ → ℕ → Parts D → (ℕ → List ℕ) → Type 0
  AreOpen story from low high parts made = (n : ℕ) (bank : D) → parts.banks n ≡ Some bank
      → BankOpen (λ k. story.counted k n) (from.bank n) low high bank (HasCut parts.cuts (Bank n)) (made n)

  -- The images are those of one savepoint: it is named, and all that it counts is there.
  pub record StandsFor (story : Story) (parts : Parts D) (found : Images) (k : ℕ) : Type 0 where
    pub names : Names found.save (story.point k)
    pub pages : IsFront (story.pages k) found.snaps
    pub counted : (n : ℕ) (bank : D) → parts.banks n ≡ Some bank → IsFront (story.counted k n) (found.bank n)
