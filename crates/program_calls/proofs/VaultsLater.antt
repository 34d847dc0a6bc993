-- What devices did in a row of calls.
use Rattle.std.proofs.Common.{◌≡◌, ◌∙◌, inl, inr, sym, subst, refl, arith, ℕ, List, [], ◌∷◌, ◌++◌, Option, Some}
use Rattle.std.specs.List.{AllByRecursion, Contains}
use Rattle.std.proofs.lemmas.Bool.{cases_lt}
use Rattle.std.proofs.lemmas.List.{append-nil}
use Rattle.std.proofs.Common.{ap}
use Rattle.lists.specs.Elements.{in_none}
use Rattle.log_writer.specs.Cuts.{whole_bank, whole_ends}
use Rattle.outside.specs.Faults.{Rose}
use Rattle.log_writer.specs.Vault.{IsWhole, disk_in}
use Rattle.outside.specs.declared.device.Device.{Device}
use Rattle.outside.specs.declared.device.Device.TheVariants.{Save, Snaps, Bank}
use Rattle.log_writer.specs.declared.vault.Vault.{Vault}
use Rattle.std.proofs.lemmas.Option.{same_Some}
use Rattle.joint_crashes.specs.Images.{Images}
use Rattle.joint_crashes.specs.JointCrash.{parts_of}
use Rattle.joint_crashes.specs.Resting.{AreTold}
use Rattle.joint_crashes.specs.VaultReads.{AreQuiet, RoseIn, VaultOnlyReads, some_of}
use Rattle.tx_script.specs.Run.{Ran}
use Rattle.round_engine.specs.RanRound.{AreFailed}
use Rattle.program_calls.specs.Ending.{RunGoesOn, devices_in}
use Rattle.program_calls.specs.EndLaws.{goes_on_quiet}

-- ---- the devices of which rounds tell that they failed

-- none where all went on
pub none_failed_in : (rans : List Ran) → AllByRecursion RunGoesOn rans → devices_in rans ≡ []
none_failed_in [] on = refl
none_failed_in (ran ∷ rans) on = ap (λ (l : List Device). l ++ devices_in rans) (goes_on_quiet ran on.0) ∙ none_failed_in rans on.1

-- those of the last one, where the others went on
pub devices_in-push : (rans : List Ran) (ran : Ran) → AllByRecursion RunGoesOn rans → devices_in (rans ++ ran ∷ []) ≡ ran.beside.devices
devices_in-push [] ran on = append-nil ran.beside.devices
devices_in-push (q ∷ rans) ran on =
    ap (λ (l : List Device). l ++ devices_in (rans ++ ran ∷ [])) (goes_on_quiet q on.0) ∙ devices_in-push rans ran on.1

-- ---- counts

module _ {D : Type 0} where
  -- a device of a whole vault is one of each other whole vault
  pub there : {a b : Vault D} → IsWhole a → IsWhole b → (device : Device) (x : D) → disk_in b device ≡ Some x → (y : D) × (disk_in a device ≡ Some y)
  there {a = a} whole other Save x is = (a.save, refl)
  there {a = a} whole other Snaps x is = (a.snaps, refl)
  there {a = a} whole other (Bank n) x is = elim (cases_lt n 16) [
    | inl below ↦ some_of (disk_in a (Bank n)) (whole_bank whole n below)
    | inr past ↦ absurd (cc (is, whole_ends other n past))
  ]

module _ {D : Type 0} {faults : D → ℕ} where
  -- counts that stood still in two calls stood still in both
  pub quiet_two : (a b c : Vault D) → IsWhole a → IsWhole b → AreQuiet faults a b → AreQuiet faults b c → AreQuiet faults a c
  quiet_two a b c whole other first next device was now before after =
      let mid = there other whole device was before in
      next device mid.0 now mid.1 after ∙ first device was mid.0 before mid.1

  -- a count that rose behind a call in which none did rose in all
  pub rose_back : (a b c : Vault D) → IsWhole a → IsWhole b → AreQuiet faults a b → (device : Device) → RoseIn faults device b c → RoseIn faults device a c
  rose_back a b c whole other quiet device rose =
      let first = there whole other device rose.0 rose.2 in (
        first.0,
        rose.1,
        first.1,
        rose.3,
        subst (λ n. Rose n (faults rose.1)) (quiet device first.0 rose.0 first.1 rose.2) rose.4,
      )

  -- a count that rose before devices were only read rose in all
  pub rose_on : {tells : D → Option (List ℕ)} {clock : D → ℕ} {image_at : D → ℕ → List ℕ → Type 0} (a b c : Vault D) (device : Device)
      → VaultOnlyReads tells clock image_at faults b c → RoseIn faults device a b → RoseIn faults device a c
  rose_on a b c device reads rose =
      let now = reads.each device rose.1 rose.3 in
      (rose.0, now.0, rose.2, now.1, (let risen = rose.4 in let later = now.2.later in omega arith))

  pub failed_back : (a b c : Vault D) (failed : List Device) → IsWhole a → IsWhole b → AreQuiet faults a b → AreFailed faults failed b c → AreFailed faults failed a c
  failed_back a b c failed whole other quiet are = record {
    rose = λ device has. rose_back a b c whole other quiet device (are.rose device has);
    quiet = λ device not was now before after.
        let mid = there other whole device was before in
        are.quiet device not mid.0 now mid.1 after ∙ quiet device was mid.0 before mid.1;
  }

  -- where none of them failed all stood still
  pub quiet_failed : {a b : Vault D} (failed : List Device) → failed ≡ [] → AreFailed faults failed a b → AreQuiet faults a b
  quiet_failed failed none are device =
      are.quiet device (λ has. in_none device (subst (λ l. Contains l device) none has))

  -- and where all stood still none of them failed
  pub failed_none : {a b : Vault D} → AreQuiet faults a b → AreFailed faults [] a b
  failed_none quiet = record { rose = λ device has. absurd (in_none device has); quiet = λ device not. quiet device }

-- what devices tell that were only read they told before
pub told_back : {D : Type 0} {tells : D → Option (List ℕ)} {clock : D → ℕ} {image_at : D → ℕ → List ℕ → Type 0} {faults : D → ℕ} (old new : Vault D) (found : Images)
    → VaultOnlyReads tells clock image_at faults old new → AreTold tells (parts_of new) found → AreTold tells (parts_of old) found
told_back {tells = tells} old new found reads told =
    let save = reads.each Save old.save refl in
    let snaps = reads.each Snaps old.snaps refl in
    record {
      save = sym save.2.told ∙ ap tells (sym (same_Some _ _ save.1)) ∙ told.save;
      snaps = sym snaps.2.told ∙ ap tells (sym (same_Some _ _ snaps.1)) ∙ told.snaps;
      bank = λ n bank there.
          let now = reads.each (Bank n) bank there in
          sym now.2.told ∙ told.bank n now.0 now.1;
    }
