-- What cuts of some log files leave of all devices.
use Rattle.std.specs.Prelude.{◌≡◌, ◌≢◌, ◌<◌, ◌≤◌, ◌⊎◌, ◌++◌, ◌∷◌, ℕ, List, [], Option, Some, is_some, true}
use Rattle.std.specs.List.{Contains}
use Rattle.outside.specs.declared.device.Device.TheVariants.{Bank}
use Rattle.log_writer.specs.Vault.{disk_in}
use Rattle.log_writer.specs.declared.vault.Vault.{Vault}
use Rattle.log_writer.specs.declared.records.Tie.{Tie}
use Rattle.joint_crashes.specs.JointCrash.{Parts, Moments, HasCut, KeepsCrashes}
use Rattle.joint_crashes.specs.Story.{Story, IsTold, BankOpen, BankReady}

-- a store of this sequence had ended, or none was begun since
abbrev pub HadEnded : {D : Type 0} → Parts D → ℕ → ℕ → Type 0
HadEnded parts low high = (high ≤ low) ⊎ ((tie : Tie) × (end : ℕ) × Contains parts.ties tie
    × (tie.sequence ≡ high) × (tie.ended ≡ Some end))

-- no log file's count of faults fell
abbrev pub FaultsLast : {D : Type 0} → (D → ℕ) → Vault D → Vault D → Type 0
FaultsLast {D} faults old new = (n : ℕ) (was now : D) → disk_in old (Bank n) ≡ Some was → disk_in new (Bank n)
    ≡ Some now → faults was ≤ faults now

-- each log file's count of faults stands still
abbrev pub FaultsStand : {D : Type 0} → (D → ℕ) → Vault D → Vault D → Type 0
FaultsStand {D} faults old new = (n : ℕ) (was now : D) → disk_in old (Bank n) ≡ Some was → disk_in new (Bank n)
    ≡ Some now → faults now ≡ faults was

-- Cuts of these log files stopped at this one: those behind it are as they were.
pub record CutsUpTo {D : Type 0} (n : ℕ) (numbers : List ℕ) (old new : Vault D) : Type 0 where
  pub front : List ℕ
  pub behind : List ℕ
  pub are : numbers ≡ front ++ n ∷ behind
  pub others : (m : ℕ) → (Contains front m → ⊥) → m ≢ n → disk_in new (Bank m) ≡ disk_in old (Bank m)

-- these log files tell their bytes
abbrev pub AreToldIn : {D : Type 0} → (D → Option (List ℕ)) → List ℕ → Parts D → Type 0
AreToldIn {D} tells numbers parts = (n : ℕ) (bank : D) → Contains numbers n → parts.banks n ≡ Some bank
    → is_some (tells bank) ≡ true

module _ {D : Type 0} (clock : D → ℕ) (image_at : D → ℕ → List ℕ → Type 0) where
  -- a stop now that finds this savepoint finds all that it counts of the log files
  abbrev pub AreReady : Story → ℕ → Parts D → Type 0
  AreReady story k parts = (n : ℕ) (bank : D) → parts.banks n ≡ Some bank
      → BankReady clock image_at (λ j. story.counted j n) k bank (HasCut parts.cuts (Bank n))

  -- each cut of a log file has begun before now
  abbrev pub ArePast : Parts D → Type 0
  ArePast parts = (n : ℕ) (bank : D) → parts.banks n ≡ Some bank → (began after : ℕ)
      → HasCut parts.cuts (Bank n) began after → began < clock bank

  -- Whatever the cuts answered: each joint crash stands for one savepoint, a stop now is one, and none was lost.
  pub record CutsLeave (story : Story) (from : Moments) (low high : ℕ) (old new : Parts D) : Type 0 where
    pub told : IsTold clock image_at story from low high new
    pub ready : AreReady story high new
    pub stays : KeepsCrashes clock image_at from old new

  -- The log files of these numbers were cut, and nothing of them is durable. The others are as they were.
  pub record AreCut (story : Story) (from : Moments) (low high : ℕ) (numbers : List ℕ)
      (old new : Parts D) : Type 0 where
    pub left : CutsLeave story from low high old new
    pub past : ArePast new
    pub empty : (n : ℕ) (bank : D) → Contains numbers n → new.banks n ≡ Some bank
        → BankOpen clock image_at (λ j. story.counted j n) (from.bank n) low high bank (HasCut new.cuts (Bank n)) []
    pub others : (n : ℕ) → (Contains numbers n → ⊥) → new.banks n ≡ old.banks n
    pub open_others : (n : ℕ) (bank : D) (made : List ℕ) → (Contains numbers n → ⊥)
        → BankOpen clock image_at (λ j. story.counted j n) (from.bank n) low high bank (HasCut old.cuts (Bank n)) made
        → BankOpen clock image_at (λ j. story.counted j n) (from.bank n) low high bank (HasCut new.cuts (Bank n)) made

  -- Log files of these numbers may be cut: the newest savepoint counts nothing of them, and its store had ended.
  pub record MayCut (tells : D → Option (List ℕ)) (story : Story) (from : Moments) (low high : ℕ)
      (numbers : List ℕ) (parts : Parts D) : Type 0 where
    pub told : IsTold clock image_at story from low high parts
    pub ready : AreReady story high parts
    pub past : ArePast parts
    pub none : (n : ℕ) → Contains numbers n → story.counted high n ≡ []
    pub ended : HadEnded parts low high
    pub tell : AreToldIn tells numbers parts
