-- A run that doesn't begin: how it ends, and what the vault keeps then.
use Rattle.std.proofs.Common.{◌≡◌, inl, inr, ◌∙◌, sym, ap, subst, refl, true, ℕ, ◌+◌, ◌<◌, ◌≤◌, List, [], Option, Some, None, arith}
use Rattle.std.specs.Prelude.{◌^◌, IfNone, IfSome, IsSome, is_some}
use Rattle.std.specs.List.{AllByRecursion}
use Rattle.std.specs.List.Sorted.{IsPermutation}
use Rattle.std.specs.Option.{option_map}
use Rattle.std.proofs.lemmas.Option.{same_Some}
use Rattle.lists.specs.declared.memory.OrMemory.{OrMemory}
use Rattle.lists.specs.declared.memory.OrMemory.TheVariants as errors
use Rattle.outside.specs.Disk.{IfTold, Only}
use Rattle.outside.specs.Fronts.{AllBegin}
use Rattle.outside.specs.Moments.{left_after}
use Rattle.log_writer.specs.Vault.{IsWhole, disk_in}
use Rattle.outside.specs.declared.device.Device.{Device}
use Rattle.outside.specs.declared.device.Device.TheVariants.{Save, Snaps, Bank}
use Rattle.log_writer.specs.declared.vault.Vault.{Vault}
use Rattle.serial_model.specs.State.{State}
use Rattle.serial_model.specs.declared.decl.Decl.{Decl}
use Rattle.script_grammar.specs.Script.{Bytes, Script}
use Rattle.wire_form.specs.declared.savepoint.Savepoint.{Savepoint}
use Rattle.log_writer.specs.Points.{saved_of, sequence_of}
use Rattle.log_writer.specs.Save.{Names}
use Rattle.log_writer.specs.declared.saved.Saved.{Saved}
use Rattle.snapshot_store.specs.Content.{words_of}
use Rattle.snapshot_store.specs.Store.{IsWhole as IsWholePage}
use Rattle.recovery_core.specs.Damage.{IsDamagedIn, IsReadBefore}
use Rattle.joint_crashes.specs.Images.{Images}
use Rattle.checkpoints.specs.CrashesRecover.{LeavesSame}
use Rattle.joint_crashes.specs.JointCrash.{IsNow, Moments, parts_of}
use Rattle.recovery_core.specs.Recoverable.{IsRecoverable}
use Rattle.recovery_core.specs.Recovered.{IsUp, Recovers, recovers_state}
use Rattle.joint_crashes.specs.Resting.{AreTold, HasNoRecords, IsResting}
use Rattle.checkpoints.specs.SettleGoesOn.{rests_settled}
use Rattle.joint_crashes.specs.SettleRests.{RestsSince}
use Rattle.checkpoints.specs.Settled.{SameDevices}
use Rattle.joint_crashes.specs.VaultReads.{AreQuiet, RoseIn, VaultOnlyReads, quiet_then, told_read, whole_read}
use Rattle.recovery_core.specs.declared.fault.RecoverFault.{RecoverFault}
use Rattle.recovery_core.specs.declared.fault.RecoverFault.TheVariants as recovers
use Rattle.checkpoints.specs.declared.fault.SettleFault.{SettleFault}
use Rattle.checkpoints.specs.declared.fault.SettleFault.TheVariants as settles
use Rattle.recovery_core.specs.declared.recovered.Recovered.{Recovered}
use Rattle.checkpoints.specs.declared.without_entries.Settled.{Settled}
use Rattle.worker_logs.specs.Saves.{CountsOf}
use Rattle.worker_logs.specs.declared.savepoints.Side.TheVariants.{Even}
use Rattle.checkpoints.specs.SettleRecords.{SettleRecords}
use Rattle.checkpoints.specs.Due.{IsStoreDue, IsWithin}
use Rattle.checkpoints.specs.SettleAnswers.{IsRefused}
use Rattle.checkpoints.specs.SettlesInto.{SettlesInto}
use Rattle.tx_script.specs.Causes.{last_sequence}
use Rattle.tx_script.specs.Run.{clock_after}
use Rattle.round_engine.specs.Begun.{begun}
use Rattle.round_engine.specs.Logs.{AreClosedFiles, AreLogs}
use Rattle.round_engine.specs.Standing.{RuntimeState, StandsOn}
use Rattle.round_engine.specs.declared.report.LimitName.{LimitName}
use Rattle.round_engine.specs.declared.report.LimitName.TheVariants.{Height, Snap, Sequence}
use Rattle.program_calls.specs.Beginning.{IsBefore, Opening, SameDecls, StandsAtLimit}
use Rattle.program_calls.specs.Causes.{ReadsAlone, RestsAgain}
use Rattle.program_calls.specs.declared.ending.Ending.{Ending}
use Rattle.program_calls.specs.declared.ending.Ending.TheVariants.{Finished, NoScript, Shape, Usage, ReadFault, NoDevice, Damaged, AtLimit, NoMemory, NoSnapshot}
use Rattle.program_calls.specs.Ending.{RunComes, status_of}
use Rattle.program_calls.specs.OnTheWay.{AsksForSnapshot, BeginsRun, AreOther, EndsBefore, IsForgotten, IsOtherShape, KeptSnapshots, ending_of_refusal, ending_of_settling}
use Rattle.program_calls.specs.Vaults.{vaults_of}
use Rattle.program_calls.proofs.Begins.{may_begin, stands_at_pages, stands_at_sequence, stands_too_deep, would_store}
use Rattle.program_calls.proofs.Courses.{nowhere}
use Rattle.program_calls.proofs.KeptEnd.{kept_settled, told_reading}
use Rattle.program_calls.specs.RunKept.{StandsWhenStopped}
use Rattle.program_calls.specs.Vaults.{vaults_of}
use Rattle.program_calls.proofs.CrashesBegun.{RestsBehind, rests_after_reads, resting_still, stops_read, stops_settled}
use Rattle.program_calls.proofs.KeptThrough.{one_kept}
use Rattle.program_calls.proofs.SameRun.{permuted_decls}
use Rattle.program_calls.proofs.SnapshotsKept.{each_between}
use Rattle.program_calls.proofs.StandsStill.{stands_still, still_snapshots}
use Rattle.program_calls.proofs.VaultsLater.{quiet_two, rose_back}

-- ---- devices that are as they were

-- two vaults with the same devices
pub record AreSame {D : Type 0} (old new : Vault D) : Type 0 where
  pub save : new.save ≡ old.save
  pub snaps : new.snaps ≡ old.snaps
  pub even : new.even ≡ old.even
  pub odd : new.odd ≡ old.odd

module _ {D : Type 0} {old new : Vault D} (same : AreSame old new) where
  pub disk_same : (device : Device) → disk_in new device ≡ disk_in old device
  disk_same Save = ap Some same.save
  disk_same Snaps = ap Some same.snaps
  disk_same (Bank n) = rw (same.even, same.odd) refl

  pub told_same : (tells : D → Option Bytes) (found : Images) → AreTold tells (parts_of old) found → AreTold tells (parts_of new) found
  told_same tells found told = record {
    save = ap tells same.save ∙ told.save;
    snaps = ap tells same.snaps ∙ told.snaps;
    bank = λ n bank at. told.bank n bank (sym (disk_same (Bank n)) ∙ at);
  }

  pub whole_same : IsWhole old → IsWhole new
  whole_same whole = record {
    even = rw same.even whole.even;
    odd = rw same.odd whole.odd;
  }

  pub quiet_same : (faults : D → ℕ) → AreQuiet faults old new
  quiet_same faults device was now before after =
      ap faults (same_Some now was (sym after ∙ disk_same device ∙ before))

-- devices that are as they were rest as they did
rests_same : {D : Type 0} {clock : D → ℕ} {image_at : D → ℕ → Bytes → Type 0} {old new : Vault D} {from : Moments}
    → AreSame old new → (rest : IsResting clock image_at (parts_of old))
    × RestsSince clock image_at from rest.point rest.pages rest.counted (parts_of old)
    → (rest : IsResting clock image_at (parts_of new))
    × RestsSince clock image_at from rest.point rest.pages rest.counted (parts_of new)
rests_same {clock = clock} {image_at = image_at} {old = old} {new = new} {from = from} same rests =
    let rest = rests.0 in
    let since = rests.1 in
    let before = λ (n : ℕ) (bank : _) (here : disk_in new (Bank n) ≡ Some bank). sym (disk_same same (Bank n)) ∙ here in (
      record {
        file = rest.file;
        point = rest.point;
        pages = rest.pages;
        counted = rest.counted;
        save = subst (λ d. Only clock image_at d rest.file) (sym same.save) rest.save;
        names = rest.names;
        snaps = subst (λ d. AllBegin (image_at d (clock d)) rest.pages) (sym same.snaps) rest.snaps;
        pages_sized = rest.pages_sized;
        bank = λ n bank here. rest.bank n bank (before n bank here);
        bank_sized = λ n bank here. rest.bank_sized n bank (before n bank here);
      },
      record {
        save_came = subst (λ d. from.save ≤ clock d) (sym same.save) since.save_came;
        snaps_came = subst (λ d. from.snaps ≤ clock d) (sym same.snaps) since.snaps_came;
        bank_came = λ n bank here. since.bank_came n bank (before n bank here);
        save = subst (λ d. (m : ℕ) (c : Bytes) → from.save ≤ m → m ≤ clock d → image_at d m c → Names c rest.point)
            (sym same.save) since.save;
        snaps = subst (λ d. (m : ℕ) → from.snaps ≤ m → m ≤ clock d → AllBegin (image_at d m) rest.pages) (sym same.snaps)
            since.snaps;
        bank = λ n bank here. since.bank n bank (before n bank here);
      },
    )

-- what is said of them by recovery
same_of : {D : Type 0} {old new : Vault D} → SameDevices old new → AreSame old new
same_of same = record { save = same.save; snaps = same.snaps; even = same.even; odd = same.odd }

-- what was recovered of a savepoint is one that the devices name
some_point : (found : Images) (r : Recovered) (recovers : Recovers found r) → r.saved ≡ option_map saved_of r.save.newest → IsSome r.saved → IsSome recovers.reading.point
some_point found r recovers saved some = of_some recovers.reading.point (subst IsSome (saved ∙ ap (option_map saved_of) recovers.point) some)
  where
    of_some : (o : Option Savepoint) → IsSome (option_map saved_of o) → IsSome o
    of_some None is = absurd (cc is)
    of_some (Some p) is = refl

-- ---- the save has one image still

module _ {D : Type 0} {tells : D → Option Bytes} {clock : D → ℕ} {image_at : D → ℕ → Bytes → Type 0} {faults : D → ℕ} where
  -- behind calls that only read
  pub one_read : {old new : Vault D} → VaultOnlyReads tells clock image_at faults old new → IfTold (tells old.save) (Only clock image_at old.save)
      → IfTold (tells new.save) (Only clock image_at new.save)
  one_read {old = old} {new = new} reads one bytes told = λ c image.
      let now = reads.each Save old.save refl in
      let same : new.save ≡ now.0 = same_Some new.save now.0 now.1 in
      let left : Only clock image_at old.save bytes = one bytes (sym (ap tells same ∙ now.2.told) ∙ told) in
      elim (left_after c now.2.moments (subst (λ d. image_at d (clock d) c) same image)) [
        | inl before ↦ left c before
        | inr within ↦ sym within.2 ∙ left within.0 within.1
      ]

  pub rests_read : (status : ℕ) {old new : Vault D} → VaultOnlyReads tells clock image_at faults old new → RestsAgain tells clock image_at status old new
  rests_read status reads = record { again = λ not_4 not_5 one. one_read reads one }

  -- ---- the run doesn't begin, and the vault was only read

  read_only : (reads_told : (disk : D) (file : Bytes) → tells disk ≡ Some file → image_at disk (clock disk) file)
      {snap : ℕ} {script : Script} {was is : Vault D} (opening : Opening) (ending : Ending) → IsWhole was → VaultOnlyReads tells clock image_at faults was is
      → RunComes (vaults_of tells clock image_at faults was is) snap script opening [] ending
      → EndsBefore tells clock image_at faults snap script was is ending
  read_only reads_told {script = script} {was = was} {is = is} opening ending whole reads comes = record {
    opening = opening;
    comes = comes;
    kept = record {
      stands = λ sound. stands_still (vaults_of tells clock image_at faults was is) script.decls (whole_read reads whole) (λ found told. told_read reads whole told);
      snapshots = λ sound. still_snapshots (vaults_of tells clock image_at faults was is) script.decls [] (whole_read reads whole)
          (λ found told. told_read reads whole told);
      declared = λ some. absurd (some refl);
      whole = λ finished. refl;
      stops = stops_read (vaults_of tells clock image_at faults was is) reads_told script.decls opening whole reads;
      through_reads = λ some. absurd (some refl);
    };
    rests = rests_read (status_of ending) reads;
    reads = λ told. reads;
  }

  -- recovery was refused
  pub recovery_refused : (reads_told : (disk : D) (file : Bytes) → tells disk ≡ Some file → image_at disk (clock disk) file)
      {snap : ℕ} {script : Script} {was is : Vault D} (refusal : OrMemory RecoverFault) → IsWhole was → VaultOnlyReads tells clock image_at faults was is
      → ((device : Device) (n : ℕ) → refusal ≡ errors.Fault (recovers.Damaged device n) → (found : Images) → AreTold tells (parts_of was) found → IsDamagedIn found device n)
      → ((device : Device) → refusal ≡ errors.Fault (recovers.Device device) → RoseIn faults device was is)
      → ((device : Device) → refusal ≡ errors.Fault (recovers.Device device) → (found : Images) → AreTold tells (parts_of was) found → IsReadBefore found device)
      → (((device : Device) → refusal ≡ errors.Fault (recovers.Device device) → ⊥) → AreQuiet faults was is)
      → EndsBefore tells clock image_at faults snap script was is (ending_of_refusal refusal)
  recovery_refused reads_told (errors.Fault (recovers.Device device)) whole reads damaged rose before spared =
      read_only reads_told nowhere (NoDevice device) whole reads (
        rose device refl,
        inr (refl, inl ((λ found told. told_read reads whole told), before device refl)),
      )
  recovery_refused reads_told (errors.Fault (recovers.Damaged device n)) whole reads damaged rose before spared =
      read_only reads_told nowhere (Damaged device n) whole reads (inl (
        refl,
        (λ found told. told_read reads whole told),
        damaged device n refl,
        spared (λ other is. let no = is in cc),
      ))
  recovery_refused reads_told errors.Memory whole reads damaged rose before spared =
      read_only reads_told nowhere NoMemory whole reads (inl (tt, inl refl, spared (λ other is. let no = is in cc)))

  -- other storages were declared
  pub shape_refused : (reads_told : (disk : D) (file : Bytes) → tells disk ≡ Some file → image_at disk (clock disk) file)
      {snap : ℕ} {script : Script} {was is : Vault D} (r : Recovered) (ending : Ending) → IsWhole was → VaultOnlyReads tells clock image_at faults was is
      → AreQuiet faults was is
      → ((found : Images) → AreTold tells (parts_of was) found → Recovers found r) → IsUp r → IsOtherShape script.decls r ending
      → EndsBefore tells clock image_at faults snap script was is ending
  shape_refused reads_told {snap = snap} {script = script} {was = was} {is = is} r ending whole reads quiet recovered up shape = by_ending ending shape.other
    where
      by_ending : (e : Ending) → AreOther script.decls r.decls e → EndsBefore tells clock image_at faults snap script was is e
      by_ending (Shape declared kept) other =
          read_only reads_told nowhere (Shape declared kept) whole reads (
            refl,
            (λ found told. told_read reads whole told),
            record {
              declared_are = other.0;
              in_order = other.1;
              other = other.2;
              kept_are = λ found told.
                  let it = recovered found told in
                  record { reading = it.reading; is = it.is; saved = some_point found r it up.saved shape.saved; kept_are = other.3 ∙ it.decls };
            },
            quiet,
          )
      by_ending NoMemory other = read_only reads_told nowhere NoMemory whole reads (inl (tt, inl refl, quiet))
      by_ending Finished other = absurd other
      by_ending (NoScript fault) other = absurd other
      by_ending Usage other = absurd other
      by_ending ReadFault other = absurd other
      by_ending (NoDevice device) other = absurd other
      by_ending (Damaged device at) other = absurd other
      by_ending (AtLimit name) other = absurd other
      by_ending (NoSnapshot epoch) other = absurd other

-- ---- settling was refused

-- no status above 3 but 6 is that of a run that only reads
pub not_alone : (status : ℕ) → 3 < status → (status ≡ 6 → ⊥) → ReadsAlone status → ⊥
not_alone status above not_6 (inl between) = omega (arith, above, between.1)
not_alone status above not_6 (inr six) = not_6 six

-- what was recovered, as it reads, and the vault as settling finds it
pub record IsRead {D : Type 0} (tells : D → Option Bytes) (clock : D → ℕ) (image_at : D → ℕ → Bytes → Type 0) (faults : D → ℕ) (decls : List Decl) (was between : Vault D) (r : Recovered) : Type 0 where
  pub whole_was : IsWhole was
  pub whole : IsWhole between
  pub told : (found : Images) → AreTold tells (parts_of was) found → AreTold tells (parts_of between) found
  pub quiet : AreQuiet faults was between
  pub one : IfTold (tells was.save) (Only clock image_at was.save) → IfTold (tells between.save) (Only clock image_at between.save)
  pub recovers : (found : Images) → AreTold tells (parts_of was) found → Recovers found r
  pub up : IsUp r
  pub has : IfSome r.saved (λ _. SameDecls decls r.decls)
  pub rests : (from : Moments) → IsResting clock image_at (parts_of was) → IsNow clock image_at (parts_of was) from
      → (rest : IsResting clock image_at (parts_of between))
      × RestsSince clock image_at from rest.point rest.pages rest.counted (parts_of between)
  pub empty : HasNoRecords (parts_of between)

-- a vault that was only read and whose records were forgotten
pub is_read : {D : Type 0} {tells : D → Option Bytes} {clock : D → ℕ} {image_at : D → ℕ → Bytes → Type 0} {faults : D → ℕ} {decls : List Decl} {was read between : Vault D} {r : Recovered}
    → IsWhole was → VaultOnlyReads tells clock image_at faults was read → AreQuiet faults was read → IsForgotten read between
    → ((found : Images) → AreTold tells (parts_of was) found → Recovers found r) → IsUp r → IfSome r.saved (λ _. SameDecls decls r.decls)
    → IsRead tells clock image_at faults decls was between r
is_read {tells = tells} {clock = clock} {image_at = image_at} {faults = faults} {was = was} {read = read} {between = between} whole reads quiet forgotten recovers up has =
    let same : AreSame read between = record { save = forgotten.save; snaps = forgotten.snaps; even = forgotten.even; odd = forgotten.odd } in
    record {
      whole_was = whole;
      whole = whole_same same (whole_read reads whole);
      told = λ found told. told_same same tells found (told_read reads whole told);
      quiet = quiet_then between reads quiet (quiet_same same faults);
      one = λ one. subst (λ d. IfTold (tells d) (Only clock image_at d)) (sym forgotten.save) (one_read reads one);
      recovers = recovers;
      up = up;
      has = has;
      rests = λ from rest now. rests_same same (resting_still rest whole (whole_read reads whole)
          (rests_after_reads rest whole reads now));
      empty = record { ties = forgotten.ties; cuts = forgotten.cuts };
    }

-- the opening of a run from what was recovered, once so many savepoints are stored
abbrev pub opening_of : Recovered → ℕ → Opening
opening_of r stored = record { state = r.state; saved = r.epoch; sequence = sequence_of r.save.newest + stored }

-- Settling left what was recovered, at each crash since the devices rested.
abbrev pub SettlingLeaves : {D : Type 0} → (D → Option Bytes) → (D → ℕ) → (D → ℕ → Bytes → Type 0) → Vault D → Recovered
    → Vault D → Type 0
SettlingLeaves tells clock image_at between r is = (found : Images) (from : Moments)
    → (rest : IsResting clock image_at (parts_of between)) → HasNoRecords (parts_of between)
    → AreTold tells (parts_of between) found
    → RestsSince clock image_at from rest.point rest.pages rest.counted (parts_of between) → (it : Recovers found r)
    → LeavesSame clock image_at from it.reading r.epoch r.state (parts_of between) (parts_of is)

-- so each crash since the call began leaves it
pub settling_left : {D : Type 0} {tells : D → Option Bytes} {clock : D → ℕ} {image_at : D → ℕ → Bytes → Type 0}
    {faults : D → ℕ} {decls : List Decl} {was between : Vault D} {r : Recovered}
    (read : IsRead tells clock image_at faults decls was between r) (is : Vault D)
    → SettlingLeaves tells clock image_at between r is → (found : Images) (from : Moments)
    → (told : AreTold tells (parts_of was) found) → IsResting clock image_at (parts_of was)
    → IsNow clock image_at (parts_of was) from
    → LeavesSame clock image_at from (read.recovers found told).reading r.epoch r.state (parts_of between) (parts_of is)
settling_left read is leaves found from told rest now =
    let rests = read.rests from rest now in
    leaves found from rests.0 read.empty (read.told found told) rests.1 (read.recovers found told)

stops_so : {D : Type 0} {tells : D → Option Bytes} {clock : D → ℕ} {image_at : D → ℕ → Bytes → Type 0} {faults : D → ℕ}
    {was between : Vault D} {r : Recovered} (decls : List Decl)
    (read : IsRead tells clock image_at faults decls was between r) (is : Vault D) (opening : Opening)
    → SettlingLeaves tells clock image_at between r is → RestsBehind tells clock image_at faults was is
    → StandsWhenStopped (vaults_of tells clock image_at faults was is) decls [] opening []
stops_so {between = between} {r = r} decls read is opening leaves rests =
    stops_settled between r decls opening read.recovers (settling_left read is leaves) rests

-- the counts of devices that are as they were since stand still
still_quiet : {D : Type 0} {tells : D → Option Bytes} {clock : D → ℕ} {image_at : D → ℕ → Bytes → Type 0}
    {faults : D → ℕ} {decls : List Decl} {was between : Vault D} {r : Recovered}
    → IsRead tells clock image_at faults decls was between r → (is : Vault D) → AreSame between is → AreQuiet faults was is
still_quiet {faults = faults} {was = was} {between = between} read is same =
    quiet_two was between is read.whole_was read.whole read.quiet (quiet_same same faults)

module _ {D : Type 0} {tells : D → Option Bytes} {clock : D → ℕ} {image_at : D → ℕ → Bytes → Type 0} {faults : D → ℕ} {snap : ℕ} {script : Script} {was between : Vault D} {r : Recovered}
    (read : IsRead tells clock image_at faults script.decls was between r) where
  -- the devices are as they were
  untouched_before : (is : Vault D) (opening : Opening) (ending : Ending) → SettlingLeaves tells clock image_at between r is → AreSame between is → (ReadsAlone (status_of ending) → ⊥)
      → RunComes (vaults_of tells clock image_at faults was is) snap script opening [] ending
      → EndsBefore tells clock image_at faults snap script was is ending
  untouched_before is opening ending leaves same not_read comes = record {
    opening = opening;
    comes = comes;
    kept = record {
      stands = λ sound. stands_still (vaults_of tells clock image_at faults was is) script.decls (whole_same same read.whole)
          (λ found told. told_same same tells found (read.told found told));
      snapshots = λ sound. still_snapshots (vaults_of tells clock image_at faults was is) script.decls [] (whole_same same read.whole)
          (λ found told. told_same same tells found (read.told found told));
      declared = λ some. absurd (some refl);
      whole = λ finished. refl;
      stops = stops_so script.decls read is opening leaves
          (λ none found from told rest now file image only. (rests_same same (read.rests from rest now)).0);
      through_reads = λ some. absurd (some refl);
    };
    rests = record { again = λ not_4 not_5 one. subst (λ d. IfTold (tells d) (Only clock image_at d)) (sym same.save) (read.one one) };
    reads = λ status. absurd (not_read status);
  }

  pub settle_at_limit : (is : Vault D) (name : LimitName) → SettlingLeaves tells clock image_at between r is → IsBefore name → AreSame between is
      → ((found : Images) → AreTold tells (parts_of was) found → StandsAtLimit snap script.decls name found)
      → EndsBefore tells clock image_at faults snap script was is (AtLimit name)
  settle_at_limit is name leaves before same at = untouched_before is nowhere (AtLimit name) leaves same (not_alone 7 (omega arith) (λ six. omega arith)) (inr (refl, before, (λ found told. told_same same tells found (read.told found told)), at, still_quiet read is same))

  pub settle_memory : (is : Vault D) → SettlingLeaves tells clock image_at between r is → AreSame between is → EndsBefore tells clock image_at faults snap script was is NoMemory
  settle_memory is leaves same = untouched_before is nowhere NoMemory leaves same (not_alone 8 (omega arith) (λ six. omega arith))
      (inl (tt, inl refl, still_quiet read is same))

  pub settle_device : (is : Vault D) (device : Device) → SettlingLeaves tells clock image_at between r is → RoseIn faults device between is
      → IfSome r.saved (IsWithin r snap) → (IsStoreDue r → sequence_of r.save.newest ≡ last_sequence → ⊥)
      → EndsBefore tells clock image_at faults snap script was is (NoDevice device)
  settle_device is device leaves rose fits left =
      let stored = would_store snap r r.saved refl fits read.up.saved in
      let rose_all = rose_back was between is read.whole_was read.whole read.quiet device rose in
      record {
        opening = opening_of r stored.0;
        comes = (
          rose_all,
          inr (
            refl,
            inr (λ found told.
                let recovered = read.recovers found told in
                may_begin snap script.decls found r (opening_of r stored.0) stored.0 recovered read.up.saved read.has fits
                left refl refl (stored.1 found recovered) refl),
          ),
        );
        kept = record {
          stands = λ sound. elim sound [
            | inl none ↦ absurd (none device rose_all)
            | inr finished ↦ absurd (device_not_finished finished)
          ];
          snapshots = λ sound. elim sound [
            | inl none ↦ absurd (none device rose_all)
            | inr finished ↦ absurd (device_not_finished finished)
          ];
          declared = λ some. absurd (some refl);
          whole = λ finished. refl;
          stops = stops_so script.decls read is (opening_of r stored.0) leaves
              (λ none. absurd (none device rose_all));
          through_reads = λ some. absurd (some refl);
        };
        rests = record { again = λ not_4 not_5. absurd (not_5 refl) };
        reads = λ status. absurd (not_alone 5 (omega arith) (λ six. omega arith) status);
      }
    where
      device_not_finished : (let e : Ending = NoDevice device in e ≡ Finished) → ⊥
      device_not_finished is = cc

  -- settling was done, and then memory was wanted
  pub settled_memory : (is : Vault D) (settled : Settled) → SettlingLeaves tells clock image_at between r is → SettlesInto tells clock image_at r script.decls between is settled
      → KeptSnapshots r settled → AreQuiet faults between is
      → EndsBefore tells clock image_at faults snap script was is NoMemory
  settled_memory is settled leaves settles keeps quiet = record {
    opening = nowhere;
    comes = inl (tt, inl refl, quiet_two was between is read.whole_was read.whole read.quiet quiet);
    kept = record {
      stands = λ sound found now epoch state told told_now that.
          let recovered = read.recovers found told in
          let stands = kept_settled found now settles (read.told found told) recovered told_now in
          let one = one_kept found r.epoch epoch r.state state (recovers_state found r recovered) that in
          subst (λ e. IsRecoverable now e state) one.0 (subst (λ (s : State). IsRecoverable now r.epoch s) one.1 stands);
      snapshots = λ sound found now epoch state reading told told_now before reads.
          let recovered = read.recovers found told in
          let rests = settles.rests found (read.told found told) recovered in
          let says = rests.2 in
          each_between script.decls [] found now recovered.reading says.reading r.epoch r.state recovered.is
          (told_reading settles.whole rests.1 told_now says.is) (keeps found rests.0 recovered says) recovered.epoch
          recovered.state epoch state reading before reads;
      declared = λ some. absurd (some refl);
      whole = λ finished. refl;
      stops = stops_so script.decls read is nowhere leaves
          (λ none found from told rest now.
          let rests = read.rests from rest now in
          rests_settled (settles.goes_on found from rests.0 read.empty (read.told found told) rests.1
          (read.recovers found told)));
      through_reads = λ some. absurd (some refl);
    };
    rests = record { again = λ not_4 not_5 one bytes told. (settles.stored bytes told).only };
    reads = λ status. absurd (not_alone 8 (omega arith) (λ six. omega arith) status);
  }

  -- settling was refused, in whichever way
  pub settling_refused : (is : Vault D) (refusal : OrMemory SettleFault) → SettlingLeaves tells clock image_at between r is
      → IsRefused faults r snap between is refusal
      → EndsBefore tells clock image_at faults snap script was is (ending_of_settling refusal)
  settling_refused is errors.Memory leaves why = settle_memory is leaves (same_of why)
  settling_refused is (errors.Fault (settles.Device d)) leaves why =
      settle_device is d leaves why.0 why.1.fits why.1.left
  settling_refused is (errors.Fault settles.Deep) leaves why =
      settle_at_limit is Height leaves tt (same_of why.2) (λ found told.
      stands_too_deep snap script.decls found r (read.recovers found told) read.up.saved read.has why.0)
  settling_refused is (errors.Fault (settles.Limit have new room)) leaves why =
      settle_at_limit is Snap leaves tt (same_of why.2) (λ found told.
      stands_at_pages snap script.decls found r have new room (read.recovers found told) read.up.saved read.has why.0)
  settling_refused is (errors.Fault (settles.Sequence n)) leaves why =
      settle_at_limit is Sequence leaves tt (same_of why.4) (λ found told.
      stands_at_sequence snap script.decls found r (read.recovers found told) read.up.saved read.has why.3 why.2
      (sym why.0 ∙ why.1))

-- ---- the run begins

-- the settled storages are those that were declared
declared_same : (r : Recovered) (decls settled : List Decl) → IfNone r.saved (IsPermutation decls settled) → IfSome r.saved (λ _. settled ≡ r.decls)
    → IfSome r.saved (λ _. SameDecls decls r.decls) → SameDecls decls settled
declared_same r decls settled fresh kept has = of r.saved fresh kept has
  where
    of : (o : Option Saved) → IfNone o (IsPermutation decls settled) → IfSome o (λ _. settled ≡ r.decls) → IfSome o (λ _. SameDecls decls r.decls)
        → SameDecls decls settled
    of None fresh kept has = permuted_decls decls settled fresh
    of (Some s) fresh kept has = subst (λ ds. SameDecls decls ds) (sym kept) has

module _ {D : Type 0} {tells : D → Option Bytes} {clock : D → ℕ} {image_at : D → ℕ → Bytes → Type 0} {faults : D → ℕ} {snap slots : ℕ} {script : Script} {was between : Vault D} {r : Recovered}
    (read : IsRead tells clock image_at faults script.decls was between r) (room : ℕ)
    (room_is : AsksForSnapshot script → room ≡ snap) where
  -- what was settled is what a run begins on
  pub begins_run : (is : Vault D) (settled : Settled) (runtime : RuntimeState) → SettlingLeaves tells clock image_at between r is
      → SettlesInto tells clock image_at r script.decls between is settled → KeptSnapshots r settled → AreQuiet faults between is
      → SettleRecords r true between is → IfSome r.saved (IsWithin r snap) → (IsStoreDue r → sequence_of r.save.newest ≡ last_sequence → ⊥)
      → runtime ≡ begun settled.decls settled.state runtime.stands settled.save settled.store room (clock_after settled.saved.epoch)
      → runtime.stands.slots ≡ slots
      → AllByRecursion IsWholePage settled.store.pages → AllByRecursion (AllByRecursion (λ w. w < 2 ^ 64)) (words_of settled.store.pages)
      → StandsOn tells clock image_at runtime is
      → (((number : ℕ) (bank : D) → disk_in is (Bank number) ≡ Some bank → tells bank ≡ Some []) → AreLogs tells clock image_at (λ worker. []) (λ worker. []) runtime is
      × AreClosedFiles tells clock image_at (λ worker. []) (λ worker. []) runtime is)
      → CountsOf Even (λ worker. []) (λ worker. []) (λ worker. []) (λ worker. []) runtime.save.newest
      → BeginsRun tells clock image_at faults snap slots script was is runtime
  begins_run is settled runtime leaves settles keeps quiet records fits left begins slots_are pages words stands logs counts = record {
    room = room;
    room_is = room_is;
    recovered = r;
    settled = settled;
    between = between;
    recovers = read.recovers;
    told = read.told;
    up = read.up;
    same = declared_same r script.decls settled.decls settles.declared settles.kept read.has;
    has = read.has;
    fits = fits;
    sequence = left;
    settles = settles;
    snapshots = keeps;
    begins = begins;
    slots_are = slots_are;
    stands = stands;
    pages_whole = pages;
    pages_fit = words;
    logs_told = λ found told.
        let told_between = read.told found told in
        logs (settles.emptied (λ n b there. ap is_some (told_between.bank n b there)));
    counts = counts;
    goes_on = λ found from told rest now.
        let rests = read.rests from rest now in
        let left = settling_left read is leaves found from told rest now in (
          settles.goes_on found from rests.0 read.empty (read.told found told) rests.1 (read.recovers found told),
          left.now,
          left.keeps,
          rests.0,
          rests.1,
        );
    empty = read.empty;
    records = records;
    whole_between = read.whole;
    quiet = quiet_two was between is read.whole_was read.whole read.quiet quiet;
    whole = read.whole_was;
  }

  -- the same over a vault that a call left as it was
  pub begins_over : (is now : Vault D) (settled : Settled) (runtime : RuntimeState) → SettlingLeaves tells clock image_at between r is → now ≡ is → SettlesInto tells clock image_at r script.decls between is settled → KeptSnapshots r settled → AreQuiet faults between is
      → SettleRecords r true between is → IfSome r.saved (IsWithin r snap) → (IsStoreDue r → sequence_of r.save.newest ≡ last_sequence → ⊥)
      → runtime ≡ begun settled.decls settled.state runtime.stands settled.save settled.store room (clock_after settled.saved.epoch)
      → runtime.stands.slots ≡ slots
      → AllByRecursion IsWholePage settled.store.pages → AllByRecursion (AllByRecursion (λ w. w < 2 ^ 64)) (words_of settled.store.pages)
      → StandsOn tells clock image_at runtime now
      → (((number : ℕ) (bank : D) → disk_in is (Bank number) ≡ Some bank → tells bank ≡ Some []) → AreLogs tells clock image_at (λ worker. []) (λ worker. []) runtime now
      × AreClosedFiles tells clock image_at (λ worker. []) (λ worker. []) runtime now)
      → CountsOf Even (λ worker. []) (λ worker. []) (λ worker. []) (λ worker. []) runtime.save.newest
      → BeginsRun tells clock image_at faults snap slots script was now runtime
  begins_over is now settled runtime leaves same settles keeps quiet records fits left begins slots_are pages words stands logs counts =
      subst (λ vault. BeginsRun tells clock image_at faults snap slots script was vault runtime) (sym same)
      (begins_run is settled runtime leaves settles keeps quiet records fits left begins slots_are pages words (subst (λ vault. StandsOn tells clock image_at runtime vault) same stands)
      (λ empty. subst (λ vault. AreLogs tells clock image_at (λ worker. []) (λ worker. []) runtime vault
      × AreClosedFiles tells clock image_at (λ worker. []) (λ worker. []) runtime vault) same (logs empty)) counts)
