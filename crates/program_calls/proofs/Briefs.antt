-- What a run in brief comes to, and why it comes so.
use Rattle.std.proofs.Common.{◌≡◌, ◌⊎◌, ◌∙◌, inl, inr, sym, ap, subst, refl, ℕ, ◌≤◌, Bool, true, false, List, [], ◌∷◌, Option, Some, None, Result, Ok, Err, arith}
use Rattle.std.specs.Prelude.{not, ⊤}
use Rattle.lists.specs.declared.memory.OrMemory.{OrMemory}
use Rattle.lists.specs.declared.memory.OrMemory.TheVariants as errors
use Rattle.outside.specs.declared.fault.Failed.{Failed}
use Rattle.outside.specs.declared.device.Device.{Device}
use Rattle.log_writer.specs.declared.vault.Vault.{Vault}
use Rattle.text_output.specs.Output.{Adds, Breaks, Bytes, Output, Prints}
use Rattle.text_output.specs.Printed.{adds_nothing, breaks_within}
use Rattle.script_grammar.specs.Script.{Script}
use Rattle.log_writer.specs.Vault.{IsWhole}
use Rattle.recovery_core.specs.Damage.{IsDamagedIn, IsReadBefore}
use Rattle.recovery_core.specs.DamageLaws.{reading_stands}
use Rattle.joint_crashes.specs.Images.{Images}
use Rattle.joint_crashes.specs.JointCrash.{parts_of}
use Rattle.recovery_core.specs.Recovered.{Recovers}
use Rattle.joint_crashes.specs.Resting.{AreTold}
use Rattle.joint_crashes.specs.VaultReads.{AreQuiet, RoseIn, VaultOnlyReads, vault_reads_then}
use Rattle.recovery_core.specs.declared.fault.RecoverFault.{RecoverFault}
use Rattle.recovery_core.specs.declared.fault.RecoverFault.TheVariants as causes
use Rattle.recovery_core.specs.declared.recovered.Recovered.{Recovered}
use Rattle.tx_script.specs.Run.{Ran}
use Rattle.brief_output.specs.Brief.{run_in_brief, tally_of, tally_text, total_of}
use Rattle.brief_output.specs.declared.tally.Tally.{Tally}
use Rattle.command_line.specs.declared.command.Command.TheVariants.{Run}
use Rattle.command_line.specs.declared.command.RunOptions.{RunOptions}
use Rattle.program_calls.specs.declared.ending.Ending.{Ending}
use Rattle.program_calls.specs.declared.ending.Ending.TheVariants.{Finished, NoScript, Shape, Usage, ReadFault, NoDevice, Damaged, AtLimit, NoMemory, NoSnapshot}
use Rattle.program_calls.specs.Causes.{AnswersDevices, AnswersFaults, Counts, IsReadStatus, ReadsDamage, RestsAgain}
use Rattle.program_calls.specs.Ending.{RunComes, last_line, status_of}
use Rattle.program_calls.specs.InBrief.{IsUnreadable, SumsRead, SumsUp, ended_behind, ending_of_refusal, up_to}
use Rattle.program_calls.specs.OnTheWay.{AddsRun, AddsText, RunsInBrief, RunsRounds, RunsScript, TellsInBrief, status_told}
use Rattle.program_calls.specs.Telling.{TellsRun}
use Rattle.program_calls.specs.Vaults.{Vaults, vaults_of}
use Rattle.program_calls.proofs.NotBegun.{one_read}
use Rattle.program_calls.proofs.Statuses.{device_ended, faults_broke, faults_quiet, no_device_told, quiet_finished, ran_not_3, ran_not_usage, run_status, status_of-not_4}
use Rattle.program_calls.proofs.Sentences.{recovered_from}
use Rattle.program_calls.proofs.VaultsLater.{quiet_two, rose_back, rose_on, told_back}

-- ---- the text

-- what is not false
pub is_so : (b : Bool) → not b ≡ false → b ≡ true
is_so true not_false = refl
is_so false not_false = absurd cc

-- what is false
pub is_none : (b : Bool) → not b ≡ true → b ≡ false
is_none false not_true = refl
is_none true not_true = absurd cc

-- where rounds were run the tally has lines
tallied : (rans : List Ran) (tally : Tally) (total : Option ℕ) → tally ≡ tally_of rans → tally.ran ≡ true → tally_text tally total ≡ run_in_brief rans total
tallied [] tally total is ran = let none : tally.ran ≡ false = ap (λ (t : Tally). t.ran) is in absurd cc
tallied (ran ∷ rans) tally total is some = ap (λ (t : Tally). tally_text t total) is

-- so it has where some were
ran_some : (rans : List Ran) (tally : Tally) → tally ≡ tally_of rans → (rans ≡ [] → ⊥) → tally.ran ≡ true
ran_some [] tally is some = absurd (some refl)
ran_some (ran ∷ rans) tally is some = ap (λ (t : Tally). t.ran) is

-- and else there are none
none_run : (rans : List Ran) (tally : Tally) → tally ≡ tally_of rans → tally.ran ≡ false → rans ≡ []
none_run [] tally is none = refl
none_run (ran ∷ rans) tally is none = let some : tally.ran ≡ true = ap (λ (t : Tally). t.ran) is in absurd cc

-- ---- how the call ends

-- as the run did, or, where that finished, as recovery is refused
abbrev BehindCases : Ending → Option (OrMemory RecoverFault) → Type 0
BehindCases ended refusal = (ended_behind ended refusal ≡ ended)
    ⊎ ((ended ≡ Finished) × (x : OrMemory RecoverFault) × (refusal ≡ Some x)
    × (ended_behind ended refusal ≡ ending_of_refusal x))

behind_cases : (ended : Ending) (refusal : Option (OrMemory RecoverFault)) → BehindCases ended refusal
behind_cases ended None = inl refl
behind_cases Finished (Some x) = inr (refl, x, refl, refl)
behind_cases (NoScript fault) (Some x) = inl refl
behind_cases (Shape declared others) (Some x) = inl refl
behind_cases Usage (Some x) = inl refl
behind_cases ReadFault (Some x) = inl refl
behind_cases (NoDevice device) (Some x) = inl refl
behind_cases (Damaged device at) (Some x) = inl refl
behind_cases (AtLimit name) (Some x) = inl refl
behind_cases NoMemory (Some x) = inl refl
behind_cases (NoSnapshot epoch) (Some x) = inl refl

-- how a refusal of recovery doesn't end a call
refused_not_usage : (x : OrMemory RecoverFault) → ending_of_refusal x ≡ Usage → ⊥
refused_not_usage (errors.Fault (causes.Device device)) is = cc
refused_not_usage (errors.Fault (causes.Damaged device at)) is = cc
refused_not_usage errors.Memory is = cc

refused_no_snapshot : (x : OrMemory RecoverFault) (epoch : ℕ) → ending_of_refusal x ≡ NoSnapshot epoch → ⊥
refused_no_snapshot (errors.Fault (causes.Device device)) epoch is = cc
refused_no_snapshot (errors.Fault (causes.Damaged device at)) epoch is = cc
refused_no_snapshot errors.Memory epoch is = cc

refused_high : (x : OrMemory RecoverFault) → 5 ≤ status_of (ending_of_refusal x)
refused_high (errors.Fault (causes.Device device)) = omega arith
refused_high (errors.Fault (causes.Damaged device at)) = omega arith
refused_high errors.Memory = omega arith

module _ {D : Type 0} (v : Vaults D) (mid : Vault D) where
  -- ---- the sum

  -- what is kept was read
  pub is_read : (r : Recovered) (total : ℕ) → AreQuiet v.faults mid v.is
      → ((now : Images) → AreTold v.tells (parts_of v.is) now → Recovers now r) → total ≡ total_of r.state
      → SumsRead v mid (Some total) None
  is_read r total quiet reads sum = (
    quiet,
    λ now told.
        let all = reads now told in
        (r.epoch, r.state, record { reading = all.reading; is = all.is; epoch_is = all.epoch; state_is = all.state }, sum),
  )

  -- reading was refused
  pub is_refused : (refusal : OrMemory RecoverFault) → ((device : Device) (n : ℕ) → refusal ≡ errors.Fault (causes.Damaged device n)
      → (now : Images) → AreTold v.tells (parts_of mid) now → IsDamagedIn now device n)
      → ((device : Device) → refusal ≡ errors.Fault (causes.Device device) → RoseIn v.faults device mid v.is)
      → ((device : Device) → refusal ≡ errors.Fault (causes.Device device)
      → (now : Images) → AreTold v.tells (parts_of mid) now → IsReadBefore now device) → SumsRead v mid None (Some refusal)
  is_refused (errors.Fault (causes.Device device)) damaged rose before = (rose device refl, before device refl)
  is_refused (errors.Fault (causes.Damaged device n)) damaged rose before = damaged device n refl
  is_refused errors.Memory damaged rose before = tt

  -- it is refused for a cause
  pub refused_for : (rans : List Ran) (total : Option ℕ) (refusal : Option (OrMemory RecoverFault))
      (x : OrMemory RecoverFault) → refusal ≡ Some x → SumsUp v mid rans total refusal → IsUnreadable v mid x
  refused_for [] total refusal x is sums = let no : None ≡ Some x = sym sums.1 ∙ is in absurd cc
  refused_for (ran ∷ rans) (Some total) None x is sums = absurd cc
  refused_for (ran ∷ rans) (Some total) (Some y) x is sums = absurd sums
  refused_for (ran ∷ rans) None None x is sums = absurd cc
  refused_for (ran ∷ rans) None (Some y) x is sums = let same : y ≡ x = cc in subst (IsUnreadable v mid) same sums

  -- only behind rounds
  pub refused_behind : (rans : List Ran) (total : Option ℕ) (refusal : Option (OrMemory RecoverFault))
      (x : OrMemory RecoverFault) → refusal ≡ Some x → SumsUp v mid rans total refusal → rans ≡ [] → ⊥
  refused_behind [] total refusal x is sums none = let no : None ≡ Some x = sym sums.1 ∙ is in cc
  refused_behind (ran ∷ rans) total refusal x is sums none = cc

  -- and where it isn't refused all stood still
  pub quiet_behind : (rans : List Ran) (tally : Tally) (total : Option ℕ) → tally ≡ tally_of rans
      → SumsUp v mid rans total None → IsWhole v.was → (tally.ran ≡ true → IsWhole mid)
      → AreQuiet v.faults v.was mid → AreQuiet v.faults v.was v.is
  quiet_behind [] tally total is sums whole whole_mid quiet =
      subst (λ (x : Vault D). AreQuiet v.faults v.was x) (sym sums.2) quiet
  quiet_behind (ran ∷ rans) tally (Some total) is sums whole whole_mid quiet =
      quiet_two v.was mid v.is whole (whole_mid (ap (λ (t : Tally). t.ran) is)) quiet sums.0
  quiet_behind (ran ∷ rans) tally None is sums whole whole_mid quiet = absurd sums

  -- ---- what is told behind the rounds

  -- no round was run
  pub tells_none : (rans : List Ran) (tally : Tally) (ended : Ending) (at : Output) → tally ≡ tally_of rans
      → tally.ran ≡ false → v.is ≡ mid → TellsInBrief v mid rans ended (AddsText at at (Ok ended))
  tells_none rans tally ended at is none same =
      subst (λ (l : List Ran). TellsInBrief v mid l ended (AddsText at at (Ok ended))) (sym (none_run rans tally is none))
      (record { total = None; refusal = None; sums = (refl, refl, same); shown = (refl, adds_nothing at) })

  -- so the sum is told of rounds that were run
  sums_of : (rans : List Ran) (tally : Tally) (total : Option ℕ) (refusal : Option (OrMemory RecoverFault))
      → tally ≡ tally_of rans → tally.ran ≡ true → SumsRead v mid total refusal → SumsUp v mid rans total refusal
  sums_of [] tally total refusal is ran sums =
      let none : tally.ran ≡ false = ap (λ (t : Tally). t.ran) is in absurd cc
  sums_of (ran ∷ rans) tally total refusal is some sums = sums

  -- some were, with this sum or without one, and that was told
  pub tells_sum : (rans : List Ran) (tally : Tally) (ended last : Ending) (total : Option ℕ)
      (refusal : Option (OrMemory RecoverFault)) (old new : Output) (done : ⊤) → tally ≡ tally_of rans
      → tally.ran ≡ true → SumsRead v mid total refusal → last ≡ ended_behind ended refusal
      → Prints {T = ⊤} {E = Failed} old new (tally_text tally total) (Ok done)
      → TellsInBrief v mid rans ended (AddsText old new (Ok last))
  tells_sum rans tally ended last total refusal old new done is some sums ends prints = record {
    total = total;
    refusal = refusal;
    sums = sums_of rans tally total refusal is some sums;
    shown = (sym ends, subst (λ (text : Bytes). Adds old new text) (tallied rans tally total is some) prints);
  }

  -- the sink failed in it
  pub tells_broke : (rans : List Ran) (tally : Tally) (ended : Ending) (total : Option ℕ)
      (refusal : Option (OrMemory RecoverFault)) (old new : Output) (failed : Failed) → tally ≡ tally_of rans
      → tally.ran ≡ true → SumsRead v mid total refusal
      → Prints {T = ⊤} old new (tally_text tally total) (Err failed)
      → TellsInBrief v mid rans ended (AddsText old new (Err failed))
  tells_broke rans tally ended total refusal old new failed is some sums prints = record {
    total = total;
    refusal = refusal;
    sums = sums_of rans tally total refusal is some sums;
    shown = breaks_within (last_line (ended_behind ended refusal))
        (subst (λ (text : Bytes). Breaks old new text) (tallied rans tally total is some) prints);
  }

module _ {D : Type 0} (v : Vaults D) (snap : ℕ) (script : Script) where
  -- ---- the streams

  -- it is no usage
  pub usage_not_brief : {slots tries : ℕ} (old new : Output) (r : Result Ending Failed)
      → RunsInBrief v snap slots tries script (AddsText old new r) → r ≡ Ok Usage → ⊥
  usage_not_brief old new (Ok ending) brief is =
      let runs = brief.runs in
      let same : ending ≡ Usage = cc in
      elim (behind_cases runs.ending brief.refusal) [
        | inl as_run ↦ ran_not_usage (up_to v brief.mid) snap script runs.opening runs.rans runs.ending runs.comes
            (sym as_run ∙ (runs.shown.1.0 ∙ same))
        | inr refused ↦ refused_not_usage refused.1 (sym refused.3 ∙ (runs.shown.1.0 ∙ same))
      ]
  usage_not_brief old new (Err failed) brief is = cc

  -- no other status comes
  pub status_brief : {slots tries : ℕ} (old new : Output) (r : Result Ending Failed)
      → RunsInBrief v snap slots tries script (AddsText old new r) → status_told r ≤ 8
  status_brief old new (Err failed) brief = omega arith
  status_brief old new (Ok came) brief =
      let runs = brief.runs in
      run_status came (λ epoch is. elim (behind_cases runs.ending brief.refusal) [
        | inl as_run ↦ subst (RunComes (up_to v brief.mid) snap script runs.opening runs.rans)
            (sym as_run ∙ (runs.shown.1.0 ∙ is)) runs.comes
        | inr refused ↦ refused_no_snapshot refused.1 epoch (sym refused.3 ∙ (runs.shown.1.0 ∙ is))
      ])

  -- the source isn't read again, and the sink may fail
  pub faults_brief : {slots tries : ℕ} (source : Counts) (old new : Output) (r : Result Ending Failed)
      → RunsInBrief v snap slots tries script (AddsText old new r) → source.after ≡ source.before
      → AnswersFaults source (record { before = old.faults; after = new.faults }) (status_told r)
  faults_brief source old new (Ok ending) brief quiet =
      let runs = brief.runs in
      let shown = runs.shown.1 in
      let adds = shown.1 in
      faults_quiet source (record { before = old.faults; after = new.faults }) (status_of ending) quiet adds.faults
      (λ three. elim (behind_cases runs.ending brief.refusal) [
        | inl as_run ↦ ran_not_3 (up_to v brief.mid) snap script runs.opening runs.rans runs.ending runs.comes
            (ap status_of (sym as_run ∙ shown.0) ∙ three)
        | inr refused ↦
            let high = refused_high refused.1 in
            let is : status_of (ending_of_refusal refused.1) ≡ 3 = ap status_of (sym refused.3 ∙ shown.0) ∙ three in
            omega (arith, high, is)
      ]) (status_of-not_4 ending)
  faults_brief source old new (Err failed) brief quiet = let shown = brief.runs.shown in faults_broke source old new _ shown.1 quiet

  -- the same sink
  pub same_brief : {slots tries : ℕ} (old new : Output) (r : Result Ending Failed)
      → RunsInBrief v snap slots tries script (AddsText old new r) → new.sink ≡ old.sink
  same_brief old new (Ok ending) brief = let shown = brief.runs.shown.1 in let adds = shown.1 in adds.same
  same_brief old new (Err failed) brief = let shown = brief.runs.shown in let breaks = shown.1 in breaks.same

-- ---- the rounds, and then what is behind them

-- a run that ends with status 0 finished
only_finished : (e : Ending) → status_of e ≡ 0 → e ≡ Finished
only_finished Finished zero = refl
only_finished (NoScript fault) zero = absurd (omega arith)
only_finished (Shape declared others) zero = absurd (omega arith)
only_finished Usage zero = absurd (omega arith)
only_finished ReadFault zero = absurd (omega arith)
only_finished (NoDevice device) zero = absurd (omega arith)
only_finished (Damaged device at) zero = absurd (omega arith)
only_finished (AtLimit name) zero = absurd (omega arith)
only_finished NoMemory zero = absurd (omega arith)
only_finished (NoSnapshot epoch) zero = absurd (omega arith)

-- and none was refused behind it
unrefused_0 : (refusal : Option (OrMemory RecoverFault)) → ended_behind Finished refusal ≡ Finished → refusal ≡ None
unrefused_0 None is = refl
unrefused_0 (Some (errors.Fault (causes.Device device))) is = absurd cc
unrefused_0 (Some (errors.Fault (causes.Damaged device at))) is = absurd cc
unrefused_0 (Some errors.Memory) is = absurd cc

module _ {D : Type 0} (tells : D → Option Bytes) (clock : D → ℕ) (image_at : D → ℕ → Bytes → Type 0) (faults : D → ℕ) (was mid is : Vault D) where
  abbrev call : Vaults D
  call = vaults_of tells clock image_at faults was is

  abbrev run_call : Vaults D
  run_call = vaults_of tells clock image_at faults was mid

  -- the rounds were counted
  abbrev pub RunsTold : ℕ → ℕ → ℕ → Script → Tally → Output → Output → Ending → Type 0
  RunsTold snap slots tries script tally old at ended =
      RunsRounds run_call snap slots tries script (TellsRun true tally old at (Ok ended))

  -- and this came of them behind them
  abbrev pub TellsBehind : Tally → Output → Output → Ending → Result Ending Failed → Type 0
  TellsBehind tally at new ended r = (rans : List Ran) → tally ≡ tally_of rans
      → TellsInBrief call mid rans ended (AddsText at new r)

  module _ {snap slots tries : ℕ} {script : Script} (tally : Tally) (old at new : Output) (ended : Ending)
      (r : Result Ending Failed) (runs : RunsTold snap slots tries script tally old at ended)
      (reads : VaultOnlyReads tells clock image_at faults mid is) (behind : TellsBehind tally at new ended r) where
    told : TellsInBrief call mid runs.rans ended (AddsText at new r)
    told = behind runs.rans runs.shown.1.1

    -- what was run, and what was told behind it, together
    pub brief_done : (tally.ran ≡ true → IsWhole mid) → RunsInBrief call snap slots tries script (AddsText old new r)
    brief_done whole_mid = record {
      mid = mid;
      total = told.total;
      refusal = told.refusal;
      runs = record {
        rans = runs.rans;
        ending = runs.ending;
        opening = runs.opening;
        state = runs.state;
        run = runs.run;
        comes = runs.comes;
        caused = runs.caused;
        full = runs.full;
        history = runs.history;
        files = runs.files;
        kept = runs.kept;
        shown = (
          told.sums,
          subst (λ (e : Ending). AddsText old new r (run_in_brief runs.rans told.total) (ended_behind e told.refusal))
              (sym runs.shown.0)
              (subst (λ (o : Output). AddsText o new r (run_in_brief runs.rans told.total) (ended_behind ended told.refusal))
              runs.shown.1.0 told.shown),
        );
      };
      reads = reads;
      whole = λ some. whole_mid (ran_some runs.rans tally runs.shown.1.1 some);
    }

    module _ (last : Ending) (result : r ≡ Ok last) where
      -- how the call ends
      ends : ended_behind ended told.refusal ≡ last
      ends =
          let shown : AddsText at new (Ok last) (run_in_brief runs.rans told.total) (ended_behind ended told.refusal) =
          subst (λ (x : Result Ending Failed). AddsText at new x (run_in_brief runs.rans told.total)
          (ended_behind ended told.refusal)) result told.shown in
          shown.0

      -- a device that failed behind a run that finished
      refused_rose : IsWhole was → (tally.ran ≡ true → IsWhole mid) → ended ≡ Finished → (x : OrMemory RecoverFault)
          → told.refusal ≡ Some x → status_of (ending_of_refusal x) ≡ 5
          → (device : Device) × RoseIn faults device was is
      refused_rose whole whole_mid finished (errors.Fault (causes.Device device)) refused five =
          let rose = refused_for call mid runs.rans told.total told.refusal (errors.Fault (causes.Device device)) refused
          told.sums in (
            device,
            rose_back was mid is whole
                (whole_mid (ran_some runs.rans tally runs.shown.1.1
                (refused_behind call mid runs.rans told.total told.refusal _ refused told.sums)))
                (quiet_finished run_call snap script runs.opening runs.rans runs.ending runs.comes
                (ap status_of (runs.shown.0 ∙ finished))) device rose.0,
          )
      refused_rose whole whole_mid finished (errors.Fault (causes.Damaged device n)) refused five = absurd (omega arith)
      refused_rose whole whole_mid finished errors.Memory refused five = absurd (omega arith)

      -- the devices
      pub brief_devices : IsWhole was → (tally.ran ≡ true → IsWhole mid) → AnswersDevices faults was is (status_of last)
      brief_devices whole whole_mid = subst (λ (x : Ending). AnswersDevices faults was is (status_of x)) ends (record {
        failed = λ five. elim (behind_cases ended told.refusal) [
          | inl as_run ↦
              let one = device_ended run_call snap script runs.opening runs.rans runs.ending runs.comes
              (ap status_of (runs.shown.0 ∙ sym as_run) ∙ five) in
              (one.0, rose_on was mid is one.0 reads one.1)
          | inr refused ↦
              refused_rose whole whole_mid refused.0 refused.1 refused.2 (ap status_of (sym refused.3) ∙ five)
        ];
        quiet = λ zero. elim (behind_cases ended told.refusal) [
          | inl as_run ↦
              let finished = only_finished ended (ap status_of (sym as_run) ∙ zero) in
              let none = unrefused_0 told.refusal
              (ap (λ (e : Ending). ended_behind e told.refusal) (sym finished) ∙ (as_run ∙ finished)) in
              quiet_behind call mid runs.rans tally told.total runs.shown.1.1
              (subst (SumsUp call mid runs.rans told.total) none told.sums) whole whole_mid
              (quiet_finished run_call snap script runs.opening runs.rans runs.ending runs.comes
              (ap status_of (runs.shown.0 ∙ finished)))
          | inr refused ↦
              let high = refused_high refused.1 in
              let none : status_of (ending_of_refusal refused.1) ≡ 0 = ap status_of (sym refused.3) ∙ zero in
              absurd (omega (arith, high, none))
        ];
      })

      -- where the devices tell it, what a run that finished left isn't damaged
      undamaged : ended ≡ Finished → (x : OrMemory RecoverFault) → told.refusal ≡ Some x
          → status_of (ending_of_refusal x) ≡ 6 → (found now : Images) → AreTold tells (parts_of was) found
          → AreTold tells (parts_of mid) now → ⊥
      undamaged finished (errors.Fault (causes.Device device)) refused six found now told_was told_mid = omega arith
      undamaged finished (errors.Fault (causes.Damaged device n)) refused six found now told_was told_mid =
          let bad = refused_for call mid runs.rans told.total told.refusal (errors.Fault (causes.Damaged device n)) refused
          told.sums in
          let first = recovered_from run_call snap script runs.opening runs.rans runs.ending runs.comes
          (refused_behind call mid runs.rans told.total told.refusal _ refused told.sums) found told_was in
          let stands = runs.kept.stands (inr (runs.shown.0 ∙ finished)) found now runs.opening.saved runs.opening.state
          told_was told_mid first in
          reading_stands now stands.reading device n stands.is (bad now told_mid)
      undamaged finished errors.Memory refused six found now told_was told_mid = omega arith

      -- damage
      pub brief_damage : ReadsDamage tells clock image_at faults (status_of ended) was mid
          → ReadsDamage tells clock image_at faults (status_of last) was is
      brief_damage alone six found now told_was told_now = elim (behind_cases ended told.refusal) [
        | inl as_run ↦ vault_reads_then (alone (ap status_of (sym as_run ∙ ends) ∙ six) found now told_was
            (told_back mid is now reads told_now)) reads
        | inr refused ↦ absurd (undamaged refused.0 refused.1 refused.2 (ap status_of (sym refused.3 ∙ ends) ∙ six) found now
            told_was (told_back mid is now reads told_now))
      ]

      -- a status of a call that only reads
      pub brief_reads : (IsReadStatus (status_of ended) → VaultOnlyReads tells clock image_at faults was mid)
          → IsReadStatus (status_of last) → VaultOnlyReads tells clock image_at faults was is
      brief_reads alone only = elim (behind_cases ended told.refusal) [
        | inl as_run ↦
            vault_reads_then (alone (subst (λ (e : Ending). IsReadStatus (status_of e)) (sym ends ∙ as_run) only)) reads
        | inr refused ↦
            let high = refused_high refused.1 in
            let is : status_of last ≡ status_of (ending_of_refusal refused.1) = ap status_of (sym ends ∙ refused.3) in
            let most = only.1 in
            absurd (omega (arith, high, is, most))
      ]

      -- the save has one image again
      pub brief_rests : RestsAgain tells clock image_at (status_of ended) was mid
          → RestsAgain tells clock image_at (status_of last) was is
      brief_rests rests = elim (behind_cases ended told.refusal) [
        | inl as_run ↦
            let status : status_of ended ≡ status_of last = ap status_of (sym as_run ∙ ends) in
            record {
              again = λ not_4 not_5 one. one_read reads
                  (rests.again (λ four. not_4 (sym status ∙ four)) (λ five. not_5 (sym status ∙ five)) one);
            }
        | inr refused ↦
            let zero : status_of ended ≡ 0 = ap status_of refused.0 in
            record {
              again = λ not_4 not_5 one. one_read reads
                  (rests.again (λ four. omega (arith, zero, four)) (λ five. omega (arith, zero, five)) one);
            }
      ]

  -- ---- whatever the sink did

  pub devices_told : {snap slots tries : ℕ} {script : Script} (tally : Tally) (old at new : Output)
      (ended : Ending) (r : Result Ending Failed) → RunsTold snap slots tries script tally old at ended
      → VaultOnlyReads tells clock image_at faults mid is → TellsBehind tally at new ended r
      → IsWhole was → (tally.ran ≡ true → IsWhole mid) → AnswersDevices faults was is (status_told r)
  devices_told tally old at new ended (Ok last) runs reads behind whole whole_mid =
      brief_devices tally old at new ended (Ok last) runs reads behind last refl whole whole_mid
  devices_told tally old at new ended (Err failed) runs reads behind whole whole_mid =
      no_device_told faults was is 4 (λ five. omega arith) (λ zero. omega arith)

  pub damage_told : {snap slots tries : ℕ} {script : Script} (tally : Tally) (old at new : Output)
      (ended : Ending) (r : Result Ending Failed) → RunsTold snap slots tries script tally old at ended
      → VaultOnlyReads tells clock image_at faults mid is → TellsBehind tally at new ended r
      → ReadsDamage tells clock image_at faults (status_of ended) was mid
      → ReadsDamage tells clock image_at faults (status_told r) was is
  damage_told tally old at new ended (Ok last) runs reads behind alone =
      brief_damage tally old at new ended (Ok last) runs reads behind last refl alone
  damage_told tally old at new ended (Err failed) runs reads behind alone =
      λ six found now told_was told_now. absurd (omega (arith, six))

  pub reads_told : {snap slots tries : ℕ} {script : Script} (tally : Tally) (old at new : Output)
      (ended : Ending) (r : Result Ending Failed) → RunsTold snap slots tries script tally old at ended
      → VaultOnlyReads tells clock image_at faults mid is → TellsBehind tally at new ended r
      → (IsReadStatus (status_of ended) → VaultOnlyReads tells clock image_at faults was mid)
      → IsReadStatus (status_told r) → VaultOnlyReads tells clock image_at faults was is
  reads_told tally old at new ended (Ok last) runs reads behind alone only =
      brief_reads tally old at new ended (Ok last) runs reads behind last refl alone only
  reads_told tally old at new ended (Err failed) runs reads behind alone only = absurd (omega (arith, only.1))

  pub rests_told : {snap slots tries : ℕ} {script : Script} (tally : Tally) (old at new : Output)
      (ended : Ending) (r : Result Ending Failed) → RunsTold snap slots tries script tally old at ended
      → VaultOnlyReads tells clock image_at faults mid is → TellsBehind tally at new ended r
      → RestsAgain tells clock image_at (status_of ended) was mid
      → RestsAgain tells clock image_at (status_told r) was is
  rests_told tally old at new ended (Ok last) runs reads behind rests =
      brief_rests tally old at new ended (Ok last) runs reads behind last refl rests
  rests_told tally old at new ended (Err failed) runs reads behind rests =
      record { again = λ not_4 not_5. absurd (not_4 refl) }

-- told as it was asked
pub told_as : {D : Type 0} {slots tries : ℕ} (v : Vaults D) (snap : ℕ) (script : Script) (b asked : Bool) (tally : Tally) (old new : Output)
    (r : Result Ending Failed) → b ≡ asked → RunsRounds v snap slots tries script (TellsRun b tally old new r)
    → RunsRounds v snap slots tries script (TellsRun asked tally old new r)
told_as {slots = slots} {tries = tries} v snap script b asked tally old new r same =
    subst (λ (x : Bool). RunsRounds v snap slots tries script (TellsRun x tally old new r)) same

-- in brief the sink can't fail before the end
pub no_break : {D : Type 0} {slots tries : ℕ} (v : Vaults D) (snap : ℕ) (script : Script) (b : Bool) (tally : Tally) (old new : Output) (failed : Failed)
    → b ≡ true → RunsRounds v snap slots tries script (TellsRun b tally old new (Err failed)) → ⊥
no_break v snap script true tally old new failed same runs = runs.shown
no_break v snap script false tally old new failed same runs = cc

-- the lines of the rounds, and the ending
pub full_done : {D : Type 0} {slots tries : ℕ} (v : Vaults D) (script : Script) (tally : Tally) (options : RunOptions) (snap : ℕ)
    (old new : Output) (r : Result Ending Failed) → RunsRounds v snap slots tries script (TellsRun false tally old new r) → RunsScript v snap slots tries script (AddsRun (Run options) old new r)
full_done v script tally options snap old new (Ok came) runs = let shown = runs.shown in record {
  rans = runs.rans;
  ending = runs.ending;
  opening = runs.opening;
  state = runs.state;
  run = runs.run;
  comes = runs.comes;
  caused = runs.caused;
  full = runs.full;
  history = runs.history;
  files = runs.files;
  kept = runs.kept;
  shown = (shown.0, shown.1);
}
full_done v script tally options snap old new (Err failed) runs = record {
  rans = runs.rans;
  ending = runs.ending;
  opening = runs.opening;
  state = runs.state;
  run = runs.run;
  comes = runs.comes;
  caused = runs.caused;
  full = runs.full;
  history = runs.history;
  files = runs.files;
  kept = runs.kept;
  shown = runs.shown;
}
