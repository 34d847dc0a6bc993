-- What follows of a run in brief: with nothing in its way it is done, and its sum is that of the run's last state.
use Rattle.std.specs.Prelude.{◌≡◌, ℕ, List, [], ◌∷◌, ◌++◌, length, IfSome, Option, Some, None}
use Rattle.std.proofs.Common.{inr, ◌∙◌, refl, sym, ap, subst, arith}
use Rattle.lists.specs.declared.memory.OrMemory.{OrMemory}
use Rattle.lists.specs.declared.memory.OrMemory.TheVariants as errors
use Rattle.log_writer.specs.Vault.{IsWhole}
use Rattle.log_writer.specs.declared.vault.Vault.{Vault}
use Rattle.serial_model.specs.State.{State}
use Rattle.script_grammar.specs.Script.{Bytes, Line, Round, Script, IsTextOf, last_round}
use Rattle.joint_crashes.specs.Images.{Images}
use Rattle.joint_crashes.specs.JointCrash.{parts_of}
use Rattle.recovery_core.specs.DamageLaws.{reading_stands}
use Rattle.recovery_core.specs.Recoverable.{IsRecoverable, Reading, value_of_key}
use Rattle.recovery_core.specs.RecoverableLaws.{one_reading}
use Rattle.recovery_core.specs.declared.fault.RecoverFault.{RecoverFault}
use Rattle.recovery_core.specs.declared.fault.RecoverFault.TheVariants as causes
use Rattle.joint_crashes.specs.VaultReads.{AreQuiet}
use Rattle.joint_crashes.specs.Resting.{AreTold}
use Rattle.tx_script.specs.Run.{Ran}
use Rattle.brief_output.specs.Brief.{total_of}
use Rattle.command_line.specs.declared.command.Command.TheVariants.{Run}
use Rattle.command_line.specs.declared.command.RunOptions.{RunOptions}
use Rattle.round_engine.specs.declared.report.LimitName.{LimitName}
use Rattle.program_calls.specs.Beginning.{HasStorages, Opening}
use Rattle.program_calls.specs.declared.ending.Ending.{Ending}
use Rattle.program_calls.specs.declared.ending.Ending.TheVariants.{Finished, ReadFault, AtLimit, NoMemory}
use Rattle.program_calls.specs.Ending.{Comes}
use Rattle.program_calls.specs.InBrief.{CameInBrief, IsTotal, SumsUp, up_to}
use Rattle.program_calls.specs.Laws.{all_is_done}
use Rattle.program_calls.specs.RunKept.{last_saved}
use Rattle.program_calls.specs.Vaults.{NoneFailed, Vaults}
use Rattle.program_calls.proofs.Briefs.{refused_for}
use Rattle.program_calls.proofs.OneState.{one_state}
use Rattle.program_calls.proofs.Statuses.{quiet_finished}
use Rattle.program_calls.proofs.VaultsLater.{rose_back, rose_on, told_back}

-- a script has a round
some_rounds : (joined : List Round) (rest : List Line) → joined ++ last_round joined rest ≡ [] → ⊥
some_rounds [] rest none = cc
some_rounds (round ∷ joined) rest none = cc

-- as many of two lists
none_of_none : {X Y : Type 0} (xs : List X) (ys : List Y) → xs ≡ [] → length xs ≡ length ys → ys ≡ []
none_of_none xs [] none same = refl
none_of_none xs (y ∷ ys) none same = let no : length xs ≡ 0 = ap (λ l. length l) none in absurd (omega arith)

module _ {D : Type 0} (v : Vaults D) (mid : Vault D) where
  -- a run that finished has rounds
  has_rounds : (options : RunOptions) (bytes : Bytes) (o : Option Script) (opening : Opening) (rans : List Ran)
      → IfSome o (IsTextOf bytes) → Comes (up_to v mid) (Run options) bytes o opening rans Finished → rans ≡ [] → ⊥
  has_rounds options bytes None opening rans text comes none = comes
  has_rounds options bytes (Some script) opening rans text comes none =
      some_rounds text.joined text.rest (sym text.rounds ∙ none_of_none rans script.rounds none comes.1.whole)

module _ {D : Type 0} (v : Vaults D) (options : RunOptions) (had left : Option Bytes)
    (Shows : Bytes → Ending → Type 0) where
  -- so it is of a call that finished
  begins_on : (brief : CameInBrief v options had left Shows) → brief.came.course.ending ≡ Finished
      → Comes (up_to v brief.mid) (Run options) brief.came.course.bytes brief.came.course.script
      brief.came.course.opening brief.came.course.rans Finished
  begins_on brief finished =
      let course = brief.came.course in
      subst (λ (e : Ending). Comes (up_to v brief.mid) (Run options) course.bytes course.script course.opening
      course.rans e) finished brief.came.comes

  -- it has rounds
  some_ran : (brief : CameInBrief v options had left Shows) → brief.came.course.ending ≡ Finished
      → brief.came.course.rans ≡ [] → ⊥
  some_ran brief finished =
      let course = brief.came.course in
      has_rounds v brief.mid options course.bytes course.script course.opening course.rans brief.came.read.script
      (begins_on brief finished)

  -- behind a call that finished the state of its run is what the vault stands for, where the devices tell it
  pub state_stands : (brief : CameInBrief v options had left Shows) → brief.came.course.ending ≡ Finished
      → (found now : Images)
      → AreTold v.tells (parts_of v.was) found → AreTold v.tells (parts_of v.is) now
      → IsRecoverable now (last_saved brief.came.course.opening.saved brief.came.course.rans) brief.came.course.state
  state_stands brief finished found now told told_now =
      let came = brief.came in
      let course = came.course in
      let first = came.serial.recovered (some_ran brief finished) found told in
      subst (λ (s : State). IsRecoverable now (last_saved course.opening.saved course.rans) s) (came.kept.whole finished)
      (came.kept.stands (inr finished) found now course.opening.saved course.opening.state told
      (told_back brief.mid v.is now brief.reads told_now) first)

  -- behind a run that finished, where that was read, the sum is told
  sum_read : (rans : List Ran) (brief : CameInBrief v options had left Shows) → (rans ≡ [] → ⊥) → brief.refusal ≡ None
      → SumsUp v brief.mid rans brief.total brief.refusal → (total : ℕ) × (brief.total ≡ Some total) × IsTotal v total
  sum_read rans brief some none sums =
      of rans brief.total some (subst (SumsUp v brief.mid rans brief.total) none sums)
    where
      of : (rans : List Ran) (total : Option ℕ) → (rans ≡ [] → ⊥) → SumsUp v brief.mid rans total None
          → (sum : ℕ) × (total ≡ Some sum) × IsTotal v sum
      of [] total some sums = absurd (some refl)
      of (ran ∷ rans) None some sums = absurd sums
      of (ran ∷ rans) (Some total) some sums = (total, refl, sums.1)

  -- Where the devices tell their bytes it is that of the run's state, for which the vault stands as the call returns.
  pub sum_is : (brief : CameInBrief v options had left Shows) → brief.came.course.ending ≡ Finished
      → brief.refusal ≡ None → (found now : Images)
      → AreTold v.tells (parts_of v.was) found → AreTold v.tells (parts_of v.is) now
      → brief.total ≡ Some (total_of brief.came.course.state)
  sum_is brief finished none found now told told_now =
      let read = sum_read brief.came.course.rans brief (some_ran brief finished) none brief.sums in
      let kept = read.2 now told_now in
      let stands = state_stands brief finished found now told told_now in
      let readings = one_reading now kept.2.reading stands.reading kept.2.is stands.is in
      let states : kept.1 ≡ brief.came.course.state =
      one_state kept.1 brief.came.course.state (λ key. kept.2.state_is key
      ∙ ap (λ (r : Reading). value_of_key r key) readings ∙ sym (stands.state_is key)) in
      read.1 ∙ ap (λ n. Some n) (kept.3 ∙ ap total_of states)

  -- all was done, and the sum is that of the state after all commits
  pub record IsDoneInBrief (brief : CameInBrief v options had left Shows) : Type 0 where
    pub ending : brief.came.course.ending ≡ Finished
    pub refusal : brief.refusal ≡ None
    pub total : brief.total ≡ Some (total_of brief.came.course.state)

  -- With a script, a vault in its formats that has the script's storages, no device or stream that fails, no limit
  -- that is met, and memory, all is done.
  pub brief_is_done : (brief : CameInBrief v options had left Shows) (script : Script) (found now : Images)
      → IsTextOf brief.came.course.bytes script → AreTold v.tells (parts_of v.was) found
      → AreTold v.tells (parts_of v.is) now → IsWhole v.was
      → ((read : Script) → brief.came.course.script ≡ Some read → HasStorages found read.decls) → NoneFailed v
      → (brief.came.course.ending ≡ ReadFault → ⊥) → ((name : LimitName) → brief.came.course.ending ≡ AtLimit name → ⊥)
      → (brief.came.course.ending ≡ NoMemory → ⊥) → (brief.refusal ≡ Some errors.Memory → ⊥) → IsDoneInBrief brief
  brief_is_done brief script found now text told told_now whole has none not_read not_limit not_memory not_wanted =
      let still : NoneFailed (up_to v brief.mid) = λ device rose.
      none device (rose_on v.was brief.mid v.is device brief.reads rose) in
      let finished : brief.came.course.ending ≡ Finished = all_is_done (up_to v brief.mid) options had left _ brief.came
      script found text told has still not_read not_limit not_memory in
      let unrefused = of finished brief.refusal refl in
      record {
        ending = finished;
        refusal = unrefused;
        total = sum_is brief finished unrefused found now told told_now;
      }
    where
      quiet : brief.came.course.ending ≡ Finished → AreQuiet v.faults v.was brief.mid
      quiet finished = of_script brief.came.course.script (begins_on brief finished)
        where
          of_script : (o : Option Script)
              → Comes (up_to v brief.mid) (Run options) brief.came.course.bytes o brief.came.course.opening
              brief.came.course.rans Finished
              → AreQuiet v.faults v.was brief.mid
          of_script None comes = absurd comes
          of_script (Some read) comes =
              quiet_finished (up_to v brief.mid) options.snap read brief.came.course.opening brief.came.course.rans Finished
              comes refl

      of : brief.came.course.ending ≡ Finished → (refusal : Option (OrMemory RecoverFault)) → brief.refusal ≡ refusal
          → brief.refusal ≡ None
      of finished None is = is
      of finished (Some errors.Memory) is = absurd (not_wanted is)
      of finished (Some (errors.Fault (causes.Device device))) is =
          let rose = refused_for v brief.mid brief.came.course.rans brief.total brief.refusal _ is brief.sums in
          absurd (none device (rose_back v.was brief.mid v.is whole (brief.whole (some_ran brief finished))
          (quiet finished) device rose.0))
      of finished (Some (errors.Fault (causes.Damaged device at))) is =
          let bad = refused_for v brief.mid brief.came.course.rans brief.total brief.refusal _ is brief.sums in
          let stands = state_stands brief finished found now told told_now in
          absurd (reading_stands now stands.reading device at stands.is
          (bad now (told_back brief.mid v.is now brief.reads told_now)))
