-- What exits answer, over plain variables: a tactic within an answer reads all that is known there.
use Rattle.std.proofs.Common.{◌≡◌, ◌<◌, ◌≤◌, ◌*◌, ℕ, List, Option, Result, Ok, Err, arith}
use Rattle.lists.specs.declared.memory.OrMemory.{OrMemory}
use Rattle.lists.specs.declared.memory.OrMemory.TheVariants.{Fault, Memory}
use Rattle.outside.specs.declared.device.Device.{Device}
use Rattle.log_writer.specs.declared.save.SaveOpen.{SaveOpen}
use Rattle.log_writer.specs.declared.save.SaveOpen.TheVariants.{Damaged as Broken, Device as Unreadable}
use Rattle.log_writer.specs.declared.vault.Vault.{Vault}
use Rattle.recovery_core.specs.ReadsDevices.{ReadsDevices, reads_as}
use Rattle.recovery_core.specs.declared.fault.RecoverFault.{RecoverFault}
use Rattle.recovery_core.specs.declared.fault.RecoverFault.TheVariants.{Damaged, Device as Failed}

module _ {T E : Type 0} where
  -- an answer is no fault
  pub not_err : (x : T) (e : E) → ◌≡◌ {A = Result T E} (Ok x) (Err e) → ⊥
  not_err x e bad = cc

  -- and a fault is one
  pub same_err : (x y : E) → ◌≡◌ {A = Result T E} (Err x) (Err y) → x ≡ y
  same_err x y is = cc

-- a fault that is handed on
pub handed_on : {T U E : Type 0} (r : Result T E) (e x y : E) → r ≡ Err y → y ≡ e → r ≡ Err x
    → ◌≡◌ {A = Result U E} (Err e) (Err x)
handed_on r e x y is same told = cc

-- want of memory is no fault of a device, and damage is none
pub memory_is_no_fault : {T E : Type 0} (f : E) → ◌≡◌ {A = Result T (OrMemory E)} (Err Memory) (Err (Fault f)) → ⊥
memory_is_no_fault f bad = cc

pub damage_is_no_fault : {T : Type 0} (device other : Device) (at : ℕ)
    → ◌≡◌ {A = Result T (OrMemory RecoverFault)} (Err (Fault (Damaged device at))) (Err (Fault (Failed other))) → ⊥
damage_is_no_fault device other at bad = cc

-- a device that failed is no damage
pub fault_is_no_damage : {T : Type 0} (device other : Device) (at : ℕ)
    → ◌≡◌ {A = Result T (OrMemory RecoverFault)} (Err (Fault (Failed device))) (Err (Fault (Damaged other at))) → ⊥
fault_is_no_damage device other at bad = cc

-- want of memory is no fault of a device where it is handed on
pub memory_told : {T E : Type 0} (r : Result T (OrMemory E)) (y : OrMemory E) (f : E) → r ≡ Err y → y ≡ Memory
    → r ≡ Err (Fault f) → ⊥
memory_told r y f is same told = cc

-- a save that is damaged didn't fail
pub broken_is_no_fault : {T : Type 0} (s : SaveOpen) (at : ℕ) → s ≡ Broken at
    → ◌≡◌ {A = Result T SaveOpen} (Err s) (Err Unreadable) → ⊥
broken_is_no_fault s at is bad = cc

-- the damage that is told
pub damaged_so : {T : Type 0} (device other : Device) (at place : ℕ)
    → ◌≡◌ {A = Result T (OrMemory RecoverFault)} (Err (Fault (Damaged device at))) (Err (Fault (Damaged other place)))
    → (other ≡ device) × (at ≡ place)
damaged_so device other at place is = (cc, cc)

-- the device that is told
pub failed_so : {T : Type 0} (device other : Device)
    → ◌≡◌ {A = Result T (OrMemory RecoverFault)} (Err (Fault (Failed device))) (Err (Fault (Failed other)))
    → device ≡ other
failed_so device other is = cc

-- nothing stands before the first byte
pub none_before : (n : ℕ) → n < 512 * 0 → ⊥
none_before n none = omega arith

-- no more pages than have numbers
pub few_pages : (n : ℕ) → n ≤ 65536 → 65536 < n → ⊥
few_pages n few many = omega arith

module _ {D : Type 0} {tells : D → Option (List ℕ)} {clock : D → ℕ} {image_at : D → ℕ → List ℕ → Type 0}
    {faults : D → ℕ}
    {old new : Vault D} {T U : Type 0} where
  -- what is left of the devices where a fault is handed on
  pub reads_handed_on : (s : Result U (OrMemory RecoverFault)) (e y : OrMemory RecoverFault) → s ≡ Err y → y ≡ e
      → ReadsDevices {T = T} tells clock image_at faults old new (Err e)
      → ReadsDevices tells clock image_at faults old new s
  reads_handed_on s e y is same reads = reads_as s (λ device told. handed_on s e _ y is same told)
      (λ device told. cc (is, same, told)) reads

  -- and where what was answered is told in another form
  pub reads_well : (x : T) (z : U) → ReadsDevices tells clock image_at faults old new (Ok x)
      → ReadsDevices tells clock image_at faults old new (Ok z)
  reads_well x z reads = reads_as (Ok z) (λ device told. absurd (not_err z _ told))
      (λ device told. absurd (not_err x _ told)) reads

  pub reads_forgotten : (x : T) (s : Result U (OrMemory RecoverFault)) → s ≡ Err Memory
      → ReadsDevices tells clock image_at faults old new (Ok x) → ReadsDevices tells clock image_at faults old new s
  reads_forgotten x s is reads = reads_as s (λ device told. absurd (let no = told in cc))
      (λ device told. absurd (not_err x _ told)) reads

  pub reads_damage : (x : T) (device : Device) (at : ℕ) → ReadsDevices tells clock image_at faults old new (Ok x)
      → ReadsDevices {T = U} tells clock image_at faults old new (Err (Fault (Damaged device at)))
  reads_damage x device at reads = reads_as (Err (Fault (Damaged device at)))
      (λ other told. absurd (damage_is_no_fault device other at told)) (λ other told. absurd (not_err x _ told)) reads
