-- The vault of a call, before it and after it.
use Rattle.std.specs.Prelude.{◌≡◌, ℕ, Option}
use Rattle.outside.specs.declared.device.Device.{Device}
use Rattle.log_writer.specs.declared.vault.Vault.{Vault}
use Rattle.joint_crashes.specs.Images.{Images}
use Rattle.joint_crashes.specs.JointCrash.{parts_of}
use Rattle.joint_crashes.specs.Resting.{AreTold}
use Rattle.joint_crashes.specs.VaultReads.{AreQuiet, RoseIn}
use Rattle.script_grammar.specs.Script.{Bytes}

-- What a device tells of its bytes, of its clock and its crash images at each moment, and its count of faults; the
-- vault as the call began, and as it returned.
pub record Vaults (D : Type 0) : Type 1 where
  pub tells : D → Option Bytes
  pub clock : D → ℕ
  pub image_at : D → ℕ → Bytes → Type 0
  pub faults : D → ℕ
  pub was : Vault D
  pub is : Vault D

-- the same by its parts
abbrev pub vaults_of : {D : Type 0} → (D → Option Bytes) → (D → ℕ) → (D → ℕ → Bytes → Type 0) → (D → ℕ) → Vault D
    → Vault D → Vaults D
vaults_of tells clock image_at faults was is =
    record { tells = tells; clock = clock; image_at = image_at; faults = faults; was = was; is = is }

-- no device was called, and nothing was recorded of them
abbrev pub IsUntouched : {D : Type 0} → Vaults D → Type 0
IsUntouched v = v.is ≡ v.was

-- This holds of the bytes that the devices had as the call began, where they tell them.
abbrev pub HoldsOf : {D : Type 0} → Vaults D → (Images → Type 0) → Type 0
HoldsOf v P = (found : Images) → AreTold v.tells (parts_of v.was) found → P found

-- the devices tell what they told as the call began
abbrev pub TellsTheSame : {D : Type 0} → Vaults D → Type 0
TellsTheSame v = HoldsOf v (AreTold v.tells (parts_of v.is))

-- the count of faults of each device stands still
abbrev pub CountsStandStill : {D : Type 0} → Vaults D → Type 0
CountsStandStill v = AreQuiet v.faults v.was v.is

-- no device failed: no count rose, or stands at its last value
abbrev pub NoneFailed : {D : Type 0} → Vaults D → Type 0
NoneFailed v = (device : Device) → RoseIn v.faults device v.was v.is → ⊥
