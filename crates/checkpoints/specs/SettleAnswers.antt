-- What a settling answers: that it is done, or why it is refused.
use Rattle.std.specs.Prelude.{◌≡◌, ◌==◌, ◌-◌, ◌^◌, ◌<◌, ◌≤◌, ℕ, false, IfSome, Result, Ok, Err}
use Rattle.std.specs.List.{list_all}
use Rattle.lists.specs.declared.memory.OrMemory.TheVariants.{Fault, Memory}
use Rattle.log_writer.specs.declared.vault.Vault.{Vault}
use Rattle.log_writer.specs.Points.{sequence_of}
use Rattle.log_writer.specs.declared.saved.Saved.{Saved}
use Rattle.joint_crashes.specs.VaultReads.{RoseIn, AreQuiet}
use Rattle.recovery_core.specs.declared.recovered.Recovered.{Recovered}
use Rattle.checkpoints.specs.declared.fault.SettleFault.{SettleFault}
use Rattle.checkpoints.specs.declared.fault.SettleFault.TheVariants.{Device, Deep, Limit, Sequence}
use Rattle.checkpoints.specs.Due.{OfSaved, WouldBeDeep, IsOverLimit, IsWithin, IsStoreDue, TheFault}
use Rattle.checkpoints.specs.Settled.{SameDevices}

-- The settling of what was recovered may be done: its pages are within what is let in, and where a store is due a
-- sequence is left for it.
pub record CanSettle (r : Recovered) (snap : ℕ) : Type 0 where
  pub fits : IfSome r.saved (IsWithin r snap)
  pub left : IsStoreDue r → sequence_of r.save.newest ≡ 2 ^ 63 - 1 → ⊥

-- its pages are not within what is let in
abbrev pub IsBeyond : Recovered → ℕ → Type 0
IsBeyond r snap = IfSome r.saved (IsWithin r snap) → ⊥

-- Why it is refused, by what is told: where a page would stand too deep, where pages would be more than are let in, and
-- where a store is due behind the last sequence, and only there; for want of memory; or since a device failed, where
-- nothing else stood in its way. But for that last one the devices are as they were.
abbrev pub IsRefused : {D : Type 0} → (D → ℕ) → Recovered → ℕ → Vault D → Vault D → TheFault → Type 0
IsRefused faults r snap old new Memory = SameDevices old new
IsRefused faults r snap old new (Fault (Device device)) = RoseIn faults device old new × CanSettle r snap
IsRefused faults r snap old new (Fault Deep) =
    OfSaved r (WouldBeDeep r) × IsBeyond r snap × SameDevices old new
IsRefused faults r snap old new (Fault (Limit have more room)) =
    OfSaved r (λ p. (have ≡ p.count) × (room ≡ snap) × IsOverLimit r p snap more) × IsBeyond r snap
    × SameDevices old new
IsRefused faults r snap old new (Fault (Sequence sequence)) =
    (sequence ≡ sequence_of r.save.newest) × (sequence ≡ 2 ^ 63 - 1) × IsStoreDue r
    × IfSome r.saved (IsWithin r snap) × SameDevices old new

-- It is done where no device failed and nothing stood in its way, or it is told why not.
abbrev pub SettleAnswers : {D X : Type 0} → (D → ℕ) → Recovered → ℕ → Vault D → Vault D → Result X TheFault
    → Type 0
SettleAnswers faults r snap old new (Ok s) = AreQuiet faults old new × CanSettle r snap
SettleAnswers faults r snap old new (Err fault) = IsRefused faults r snap old new fault

-- ---- a savepoint of which no entry counts

-- Beside this newest sequence, such a savepoint may be settled: its pages are within what is let in, and where it counts
-- bytes of log files, so that one without them is due, a sequence is left for that.
pub record CanSave (saved : Saved) (snap newest : ℕ) : Type 0 where
  pub fits : saved.count ≤ snap
  pub left : list_all (λ n. n == 0) saved.lengths ≡ false → newest ≡ 2 ^ 63 - 1 → ⊥

-- why it isn't: its pages are more than are let in, or no sequence is left; or since a device failed
abbrev pub IsSaveRefused : {D : Type 0} → (D → ℕ) → Saved → ℕ → ℕ → Vault D → Vault D → SettleFault → Type 0
IsSaveRefused faults saved snap newest old new (Device device) =
    RoseIn faults device old new × CanSave saved snap newest
IsSaveRefused faults saved snap newest old new Deep = ⊥
IsSaveRefused faults saved snap newest old new (Limit have more room) =
    (have ≡ saved.count) × (more ≡ 0) × (room ≡ snap) × (snap < saved.count) × (new ≡ old)
IsSaveRefused faults saved snap newest old new (Sequence sequence) =
    (sequence ≡ newest) × (sequence ≡ 2 ^ 63 - 1) × (list_all (λ n. n == 0) saved.lengths ≡ false)
    × (saved.count ≤ snap) × (new ≡ old)

-- it is done where no device failed and nothing stood in its way, or it is told why not
abbrev pub SaveAnswers : {D : Type 0} → (D → ℕ) → Saved → ℕ → ℕ → Vault D → Vault D → Result Saved SettleFault → Type 0
SaveAnswers faults saved snap newest old new (Ok s) = AreQuiet faults old new × CanSave saved snap newest
SaveAnswers faults saved snap newest old new (Err fault) = IsSaveRefused faults saved snap newest old new fault
