-- From what the vault keeps of a run to the sentences of the main theorem.
use Rattle.std.proofs.Common.{◌≡◌, inl, inr, ℕ, ◌≤◌, List, [], ◌∷◌}
use Rattle.joint_crashes.specs.Images.{Images}
use Rattle.joint_crashes.specs.JointCrash.{parts_of}
use Rattle.joint_crashes.specs.Resting.{AreTold}
use Rattle.recovery_core.specs.Recoverable.{IsRecoverable}
use Rattle.recovery_core.specs.RecoverableLaws.{one_recoverable}
use Rattle.serial_model.specs.History.{Entry, as_of}
use Rattle.serial_model.specs.State.{State}
use Rattle.serial_model.specs.declared.decl.Decl.{Decl}
use Rattle.script_grammar.specs.Script.{Script}
use Rattle.tx_script.specs.Run.{Ran}
use Rattle.program_calls.specs.Beginning.{Opening}
use Rattle.program_calls.specs.Ending.{BeginsOn, RunComes}
use Rattle.program_calls.specs.Main.{Course, RestsBehindTheRun, SnapshotsAreTheRun, StandsForTheRun}
use Rattle.program_calls.specs.Main.{StopsCoverTheTold, StopsLeaveTheRun, decls_in}
use Rattle.program_calls.specs.RunKept.{AtRest, IsRunThrough, KeepsRun, StandsAtStops}
use Rattle.program_calls.specs.Vaults.{HoldsOf, Vaults}
use Rattle.program_calls.specs.declared.ending.Ending.{Ending}
use Rattle.program_calls.specs.declared.ending.Ending.TheVariants.{Finished, NoScript, Shape, Usage, ReadFault, NoDevice}
use Rattle.program_calls.specs.declared.ending.Ending.TheVariants.{Damaged, AtLimit, NoMemory, NoSnapshot}

-- ---- where a run began

module _ {D : Type 0} (v : Vaults D) (snap : ℕ) (script : Script) (opening : Opening) (rans : List Ran) where
  -- Where rounds were run the devices had what the run may begin on, however it ended.
  begins_on : (ending : Ending) → RunComes v snap script opening rans ending → (rans ≡ [] → ⊥)
      → BeginsOn v snap script opening
  begins_on Finished comes some = comes.0.begins
  begins_on (NoDevice device) comes some = elim comes.1 [ inl ran ↦ ran.0.begins | inr none ↦ absurd (some none.0) ]
  begins_on (Damaged device at) comes some = elim comes [ inl none ↦ absurd (some none.0) | inr ran ↦ ran.ran.begins ]
  begins_on (Shape declared kept) comes some = absurd (some comes.0)
  begins_on (AtLimit name) comes some = elim comes [ inl ran ↦ ran.ran.begins | inr none ↦ absurd (some none.0) ]
  begins_on NoMemory comes some = elim comes [
    | inl went ↦ elim went.1 [ inl none ↦ absurd (some none) | inr begins ↦ begins ]
    | inr ran ↦ ran.ran.begins
  ]
  begins_on (NoScript fault) comes some = absurd comes
  begins_on Usage comes some = absurd comes
  begins_on ReadFault comes some = absurd comes
  begins_on (NoSnapshot epoch) comes some = absurd comes

  -- So it began from the state and the epoch that recovery gives of them.
  pub recovered_from : (ending : Ending) → RunComes v snap script opening rans ending → (rans ≡ [] → ⊥)
      → HoldsOf v (λ found. IsRecoverable found opening.saved opening.state)
  recovered_from ending comes some = λ found told.
      let begins = begins_on ending comes some found told in
      record {
        reading = begins.has.reading;
        is = begins.has.is;
        epoch_is = begins.saved;
        state_is = begins.state;
      }

-- ---- what is kept, sentence by sentence

-- Images that stand for an epoch and the state as of it stand for nothing else.
run_through : (left : Images) (decls : List Decl) (state : State) (commits : List Entry) (epoch : ℕ)
    → IsRecoverable left epoch (as_of decls state commits epoch) → IsRunThrough left decls state commits epoch
run_through left decls state commits epoch is = record {
  is = is;
  alone = λ other s that. one_recoverable left other epoch s (as_of decls state commits epoch) that is;
}

module _ {D : Type 0} (v : Vaults D) (c : Course)
    (kept : KeepsRun v (decls_in c.script) c.commits c.opening c.state c.rans c.ending) where
  -- what holds of each stop, of a call that began at rest
  at_stops : (rested : AtRest v) → StandsAtStops v (decls_in c.script) c.commits c.opening.sequence c.rans rested.from
      rested.kept.reading rested.epoch rested.state
  at_stops rested =
      kept.stops rested.found rested.from rested.epoch rested.state rested.told rested.kept rested.rests rested.now

  pub snapshots_are : SnapshotsAreTheRun v c
  snapshots_are = record {
    returned = kept.snapshots;
    stopped = λ rested at left now may is. (at_stops rested).snapshots at left now may.since may.crash is;
  }

  pub stops_leave : StopsLeaveTheRun v c
  stops_leave = λ rested at left may.
      let it = (at_stops rested).leaves at left may.since may.crash in
      (it.0, it.1, run_through left (decls_in c.script) rested.state c.commits it.0 it.2)

  pub stops_cover : StopsCoverTheTold v c
  stops_cover = record {
    recorded = λ rested some. (at_stops rested).recorded some;
    covers = λ rested i saved at. (at_stops rested).covers i saved at;
  }

  pub stands_for : StandsForTheRun v c
  stands_for = record { stands = kept.stands; declared = kept.declared; whole = kept.whole }

  pub rests_behind : RestsBehindTheRun v c
  rests_behind = record {
    instant = λ rested before. (at_stops rested).instant before;
    rests = λ rested none file image only. (at_stops rested).rests none file image only;
    through_reads = kept.through_reads;
  }
