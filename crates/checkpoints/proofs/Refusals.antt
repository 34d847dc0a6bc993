-- Why a settling is refused, from why one of its parts is.
use Rattle.std.proofs.Common.{◌≡◌, ◌∙◌, ◌<◌, ◌≤◌, inl, inr, ℕ, Bool, true, false, Some, None, refl, sym, ap, subst, arith}
use Rattle.std.specs.Prelude.{◌==◌, ◌-◌, ◌^◌, IfSome, if◌then◌else◌}
use Rattle.std.specs.List.{list_all}
use Rattle.lists.specs.declared.memory.OrMemory.TheVariants.{Fault, Memory}
use Rattle.outside.specs.declared.device.Device.{Device as TheDevice}
use Rattle.outside.specs.declared.device.Device.TheVariants as devices
use Rattle.log_writer.specs.Vault.{disk_in}
use Rattle.log_writer.specs.declared.vault.Vault.{Vault}
use Rattle.log_writer.specs.declared.save.SaveFault.TheVariants as saves
use Rattle.log_writer.specs.Points.{sequence_of}
use Rattle.log_writer.specs.declared.saved.Saved.{Saved}
use Rattle.joint_crashes.specs.declared.settling.StoreAndCutFault.{StoreAndCutFault}
use Rattle.joint_crashes.specs.declared.settling.StoreAndCutFault.TheVariants.{Store, Cut}
use Rattle.joint_crashes.specs.VaultReads.{RoseIn}
use Rattle.recovery_core.specs.declared.recovered.Recovered.{Recovered}
use Rattle.checkpoints.specs.declared.fault.SettleFault.{SettleFault}
use Rattle.checkpoints.specs.declared.fault.SettleFault.TheVariants.{Device, Deep, Limit, Sequence}
use Rattle.checkpoints.specs.Due.{NoneCount, WouldBeDeep, WouldBeMany, ComposesWithin, IsWithin, IsStoreDue}
use Rattle.checkpoints.specs.Due.{IsDueRefusal, TheFault}
use Rattle.checkpoints.specs.Settled.{SameDevices, stores_due}
use Rattle.checkpoints.specs.SettleAnswers.{CanSettle, IsRefused, CanSave, IsSaveRefused}
use Rattle.checkpoints.specs.StoreAnswers.{IsStoreRefused, IsWriteRefused, settle_fault_of}
use Rattle.checkpoints.proofs.OneRun.{within_not_deep, within_not_many}
use Rattle.checkpoints.proofs.SettledReadings.{same_then, same_devices}

-- ---- devices that are as they were

same_disk : {D : Type 0} {old mid : Vault D} → SameDevices old mid → (device : TheDevice)
    → disk_in mid device ≡ disk_in old device
same_disk same devices.Save = ap (λ d. Some d) same.save
same_disk same devices.Snaps = ap (λ d. Some d) same.snaps
same_disk same (devices.Bank n) = rw (same.even, same.odd) refl

-- a count that rose since then rose in all
rose_same : {D : Type 0} (faults : D → ℕ) {old mid : Vault D} (new : Vault D) → SameDevices old mid
    → (device : TheDevice) → RoseIn faults device mid new → RoseIn faults device old new
rose_same faults new same device rose =
    (rose.0, rose.1, sym (same_disk same device) ∙ rose.2, rose.3, rose.4)

-- ---- pages that are not within what is let in

beyond_deep : (r : Recovered) (p : Saved) (snap : ℕ) → r.saved ≡ Some p → WouldBeDeep r p
    → IfSome r.saved (IsWithin r snap) → ⊥
beyond_deep r p snap here deep within =
    let w : IsWithin r snap p = subst (λ o. IfSome o (IsWithin r snap)) here within in
    elim w [
      | inl plain ↦ deep.due.some plain.0
      | inr fits ↦ within_not_deep r p snap fits deep
    ]

beyond_many : (r : Recovered) (p : Saved) (snap new : ℕ) → r.saved ≡ Some p → WouldBeMany r p snap new
    → IfSome r.saved (IsWithin r snap) → ⊥
beyond_many r p snap new here many within =
    let w : IsWithin r snap p = subst (λ o. IfSome o (IsWithin r snap)) here within in
    elim w [
      | inl plain ↦ many.due.some plain.0
      | inr fits ↦ within_not_many r p snap new fits many
    ]

beyond_plain : (r : Recovered) (p : Saved) (snap : ℕ) → r.saved ≡ Some p → NoneCount r → snap < p.count
    → IfSome r.saved (IsWithin r snap) → ⊥
beyond_plain r p snap here none over within =
    let w : IsWithin r snap p = subst (λ o. IfSome o (IsWithin r snap)) here within in
    elim w [
      | inl plain ↦ omega (arith, plain.1, over)
      | inr fits ↦ fits.due.some none
    ]

-- ---- the stores that are due

length_due : (b : Bool) → ◌≡◌ {A = ℕ} (if b then 0 else 1) 1 → b ≡ false
length_due true is = absurd (omega (arith, is))
length_due false is = refl

due_length : (b : Bool) → b ≡ false → ◌≡◌ {A = ℕ} (if b then 0 else 1) 1
due_length true is = absurd (let no = is in cc)
due_length false is = refl

plain_due : (r : Recovered) → NoneCount r → IsStoreDue r → stores_due r.saved ≡ 1
plain_due r none (inl plain) = plain.1
plain_due r none (inr some) = absurd (some none)

-- where no entry counts, a store is due of a savepoint that counts bytes of log files
lengths_due : (r : Recovered) (saved : Saved) → NoneCount r → r.saved ≡ Some saved → IsStoreDue r
    → list_all (λ n. n == 0) saved.lengths ≡ false
lengths_due r saved none here due =
    length_due (list_all (λ n. n == 0) saved.lengths) (sym (ap stores_due here) ∙ plain_due r none due)

-- ---- what may be settled

-- a fresh database
pub can_fresh : (r : Recovered) (snap : ℕ) → r.saved ≡ None → r.save.newest ≡ None → CanSettle r snap
can_fresh r snap absent none = record {
  fits = subst (λ o. IfSome o (IsWithin r snap)) (sym absent) tt;
  left = λ due at. let first : sequence_of r.save.newest ≡ 0 = ap sequence_of none in omega (arith, at, first);
}

-- one of which no entry counts
pub can_saved : (r : Recovered) (snap : ℕ) (saved : Saved) → NoneCount r → r.saved ≡ Some saved
    → CanSave saved snap (sequence_of r.save.newest) → CanSettle r snap
can_saved r snap saved none here can = record {
  fits = subst (λ o. IfSome o (IsWithin r snap)) (sym here) (inl (none, can.fits));
  left = λ due at. can.left (lengths_due r saved none here due) at;
}

-- one of which entries count
pub can_entries : (r : Recovered) (snap : ℕ) (p : Saved) → r.saved ≡ Some p → ComposesWithin r p snap
    → sequence_of r.save.newest < 2 ^ 63 - 1 → CanSettle r snap
can_entries r snap p here within below = record {
  fits = subst (λ o. IfSome o (IsWithin r snap)) (sym here) (inr within);
  left = λ due at. omega (arith, at, below);
}

-- ---- refusals

-- the writing of a new snapshot was refused
pub write_refused : {D : Type 0} (faults : D → ℕ) (r : Recovered) (snap : ℕ) {old mid : Vault D} (new : Vault D)
    → SameDevices old mid → CanSettle r snap → (fault : TheFault) → IsWriteRefused faults mid new fault
    → IsRefused faults r snap old new fault
write_refused faults r snap new same can Memory why = same_then same why
write_refused faults r snap new same can (Fault (Device device)) why = (rose_same faults new same device why, can)
write_refused faults r snap new same can (Fault Deep) why = absurd why
write_refused faults r snap new same can (Fault (Limit have more room)) why = absurd why
write_refused faults r snap new same can (Fault (Sequence n)) why = absurd why

-- its pages were
pub due_refused : {D : Type 0} (faults : D → ℕ) (r : Recovered) (snap : ℕ) (p : Saved) {old : Vault D} (new : Vault D)
    → r.saved ≡ Some p → SameDevices old new → (fault : TheFault) → IsDueRefusal fault
    → (fault ≡ Fault Deep → WouldBeDeep r p)
    → ((have more room : ℕ) → fault ≡ Fault (Limit have more room)
    → (have ≡ p.count) × (room ≡ snap) × WouldBeMany r p snap more)
    → IsRefused faults r snap old new fault
due_refused faults r snap p new here same Memory may deep many = same
due_refused faults r snap p new here same (Fault Deep) may deep many =
    ((p, here, deep refl), beyond_deep r p snap here (deep refl), same)
due_refused faults r snap p new here same (Fault (Limit have more room)) may deep many =
    let over = many have more room refl in
    ((p, here, (over.0, over.1, inr over.2)), beyond_many r p snap more here over.2, same)
due_refused faults r snap p new here same (Fault (Device device)) may deep many = absurd may
due_refused faults r snap p new here same (Fault (Sequence n)) may deep many = absurd may

-- a savepoint without log files was
pub lengths_refused : {D : Type 0} (faults : D → ℕ) (saved : Saved) (snap newest : ℕ) (old new : Vault D)
    (fault : StoreAndCutFault) → saved.count ≤ snap → list_all (λ n. n == 0) saved.lengths ≡ false
    → IsStoreRefused faults newest old new fault
    → IsSaveRefused faults saved snap newest old new (settle_fault_of fault)
lengths_refused faults saved snap newest old new (Store saves.Device) fits stand why =
    (why.0, record { fits = fits; left = λ lengths at. why.1 at })
lengths_refused faults saved snap newest old new (Store (saves.Down n)) fits stand why = absurd why
lengths_refused faults saved snap newest old new (Store (saves.Limit n)) fits stand why =
    (why.0, why.1, stand, fits, why.2)
lengths_refused faults saved snap newest old new (Cut n) fits stand why =
    (why.0, record { fits = fits; left = λ lengths at. why.1 at })

-- and so the settling was of which no entry counts
pub save_refused : {D : Type 0} (faults : D → ℕ) (r : Recovered) (snap : ℕ) (saved : Saved) {old mid : Vault D}
    (new : Vault D) → SameDevices old mid → NoneCount r → r.saved ≡ Some saved → (fault : SettleFault)
    → IsSaveRefused faults saved snap (sequence_of r.save.newest) mid new fault
    → IsRefused faults r snap old new (Fault fault)
save_refused faults r snap saved new same none here (Device device) why =
    (rose_same faults new same device why.0, can_saved r snap saved none here why.1)
save_refused faults r snap saved new same none here Deep why = absurd why
save_refused faults r snap saved new same none here (Limit have more room) why = (
  (saved, here, (why.0, why.2, inl (none, why.1, why.3))),
  beyond_plain r saved snap here none why.3,
  same_devices same why.4,
)
save_refused faults r snap saved new same none here (Sequence n) why = (
  why.0,
  why.1,
  inl (none, ap stores_due here ∙ due_length (list_all (λ n. n == 0) saved.lengths) why.2),
  subst (λ o. IfSome o (IsWithin r snap)) (sym here) (inl (none, why.3)),
  same_devices same why.4,
)
