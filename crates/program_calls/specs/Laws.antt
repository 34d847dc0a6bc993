-- What follows from the main theorem. No round draws more numbers than its lines have tries. No run ends at the limit of
-- the draws while each line has few tries. A run with nothing in its way is done; and of one that is done each line is
-- committed, in conflict at each of its tries, or at the last one found no usable slot or filled a set, and each round
-- is durable.
use Rattle.std.specs.Prelude.{◌≡◌, ◌+◌, ◌≤◌, ℕ, List, [], ◌∷◌, ◌++◌, IfSome, IsSome, Option, Some, None}
use Rattle.std.specs.List.{AllByRecursion}
use Rattle.std.proofs.Common.{inl, inr, ◌∙◌, refl, sym, subst, arith}
use Rattle.serial_model.specs.declared.decl.Decl.{Decl}
use Rattle.serial_model.specs.declared.number.Number.{Number}
use Rattle.script_grammar.specs.Script.{Bytes, Round, Script, IsTextOf}
use Rattle.wire_form.specs.declared.savepoint.Savepoint.{Savepoint}
use Rattle.recovery_core.specs.Catalogues.{newest_decls}
use Rattle.recovery_core.specs.DamageLaws.{reading_stands}
use Rattle.joint_crashes.specs.Images.{Images}
use Rattle.joint_crashes.specs.JointCrash.{parts_of}
use Rattle.recovery_core.specs.Recoverable.{Reading}
use Rattle.recovery_core.specs.RecoverableLaws.{one_reading}
use Rattle.joint_crashes.specs.Resting.{AreTold}
use Rattle.tx_script.specs.Causes.{AllCaused}
use Rattle.tx_script.specs.Draws.{DrawsAreCounted, DrawsWithin, IsBelowDraws, below_draws, counted_within}
use Rattle.tx_script.specs.Run.{AreOfFirst, IsRun, Ran, RunsClocks, clock_after, joined}
use Rattle.round_engine.specs.declared.report.LimitName.{LimitName}
use Rattle.round_engine.specs.declared.report.LimitName.TheVariants.{Draw}
use Rattle.command_line.specs.declared.command.Command.TheVariants.{Run}
use Rattle.command_line.specs.declared.command.RunOptions.{RunOptions}
use Rattle.program_calls.specs.Beginning.{HasKept, HasStorages, Opening, SameDecls}
use Rattle.program_calls.specs.EndLaws.{IsAnswered, WasRun, all_answered, draw_end_met}
use Rattle.program_calls.specs.EndLaws.{durable_unlimited}
use Rattle.program_calls.specs.EndLaws.{goes_on_answered, goes_on_run}
use Rattle.program_calls.specs.declared.ending.Ending.{Ending}
use Rattle.program_calls.specs.declared.ending.Ending.TheVariants.{Finished, NoScript, Shape, Usage, ReadFault}
use Rattle.program_calls.specs.declared.ending.Ending.TheVariants.{NoDevice}
use Rattle.program_calls.specs.declared.ending.Ending.TheVariants.{Damaged, AtLimit, NoMemory, NoSnapshot}
use Rattle.program_calls.specs.Ending.{Comes, RunGoesOn, RunComes}
use Rattle.program_calls.specs.Ending.{AreBytes}
use Rattle.program_calls.specs.Main.{Came, decls_in, rounds_of}
use Rattle.program_calls.specs.RoundCauses.{IsDurable}
use Rattle.program_calls.specs.Vaults.{NoneFailed, Vaults}

-- The last round is one of the rounds.
last_of : (P : Ran → Type 0) (before : List Ran) (last : Ran) → AllByRecursion P (before ++ last ∷ []) → P last
last_of P [] last all = all.0
last_of P (ran ∷ before) last all = last_of P before last all.1

-- What holds where something is there holds of what is there.
taken : {C : Type 0} (o : Option Savepoint) → IsSome o → IfSome o (λ _. C) → C
taken None some has = absurd (cc some)
taken (Some p) some has = has

-- A vault that has the declared storages keeps no others.
storages_of : (found : Images) (decls kept : List Decl) → HasStorages found decls → HasKept kept found
    → SameDecls decls kept
storages_of found decls kept here there =
    let same = one_reading found here.reading there.reading here.is there.is in
    let has : IfSome there.reading.point (λ _. SameDecls decls (newest_decls there.reading.catalogues)) =
    subst (λ (r : Reading). IfSome r.point (λ _. SameDecls decls (newest_decls r.catalogues))) same here.same in
    subst (λ ds. SameDecls decls ds) (sym there.kept_are) (taken there.reading.point there.saved has)

-- Each line of the round is committed, in conflict at each of its tries, or at the last one found no usable slot or
-- filled a set; each of the maintenance thread is done, and the round's last epoch is durable.
pub record IsDone (ran : Ran) : Type 0 where
  pub all_run : AllByRecursion (AllByRecursion WasRun) ran.printed.outcomes
  pub answered : AllByRecursion IsAnswered ran.printed.answers
  pub durable : ran.printed.durable ≡ Some ran.printed.end.epoch

-- So it is in rounds that go on.
done_of : (index : ℕ) (clock : Number) (rans : List Ran) (rounds : List Round) → RunsClocks index clock rans rounds
    → AllByRecursion RunGoesOn rans → AllByRecursion AllCaused rans → AllByRecursion IsDurable rans
    → AllByRecursion IsDone rans
done_of index clock [] rounds clocks on caused durable = tt
done_of index clock (ran ∷ rans) [] clocks on caused durable = absurd clocks
done_of index clock (ran ∷ rans) (round ∷ rounds) clocks on caused durable =
    let lasts = durable.0.lasts on.0 in (
      record {
        all_run = goes_on_run ran caused.0 on.0;
        answered = all_answered ran.printed.answers (goes_on_answered ran caused.0 on.0).0
            (durable_unlimited ran caused.0 clocks.1.epoch durable.0.as_told lasts);
        durable = lasts;
      },
      done_of (index + 1) (joined ran.printed.end) rans rounds clocks.2 on.1 caused.1 durable.1,
    )

-- Rounds whose draws are counted draw no more numbers than their lines have tries.
all_within : (tries : ℕ) (rans : List Ran) → AllByRecursion AllCaused rans → AllByRecursion DrawsAreCounted rans
    → AllByRecursion (λ ran. ran.beside.tries ≡ tries) rans → AllByRecursion (DrawsWithin tries) rans
all_within tries [] caused counted tried = tt
all_within tries (ran ∷ rans) caused counted tried = (
  subst (λ n. DrawsWithin n ran) tried.0 (counted_within ran caused.0 counted.0),
  all_within tries rans caused.1 counted.1 tried.1,
)

-- rounds of no script are none
none_of_none : (rans : List Ran) → AreOfFirst rans [] → rans ≡ []
none_of_none [] of = refl
none_of_none (ran ∷ rans) of = absurd of

module _ {D : Type 0} (v : Vaults D) (options : RunOptions) (had left : Option Bytes)
    (Shows : List Ran → Ending → Type 0) where
  -- What was run is a run of the rounds that were read, from where it began.
  pub whole_run : (came : Came v (Run options) had left Shows)
      → IsRun (decls_in came.course.script) 0 (rounds_of came.course.script) came.course.opening.state
      (clock_after came.course.opening.saved) came.course.rans came.course.state
  whole_run came = record {
    lines = came.lines.lines;
    workers = came.lines.workers;
    clocks = came.serial.clocks;
    ordered = came.course.commits;
    same = came.serial.printed;
    serial = came.serial.serial;
    draws = came.serial.draws;
    after = came.serial.after;
  }

  -- Where no script was read nothing was run.
  pub none_is_run : (came : Came v (Run options) had left Shows) → came.course.script ≡ None → came.course.rans ≡ []
  none_is_run came none = none_of_none came.course.rans
      (subst (λ (o : Option Script). AreOfFirst came.course.rans (rounds_of o)) none came.lines.lines)

  -- No round draws more numbers than its lines have tries.
  pub draws_within : (came : Came v (Run options) had left Shows)
      → AllByRecursion (DrawsWithin options.tries) came.course.rans
  draws_within came = all_within options.tries came.course.rans came.caused.in_rounds.caused
      came.caused.in_rounds.counted came.caused.in_rounds.tried

  -- Where the source tells its bytes they are these.
  pub bytes_told : (came : Came v (Run options) had left Shows) (told : Bytes) → had ≡ Some told
      → told ≡ came.course.bytes
  bytes_told came told is = subst (λ (o : Option Bytes). AreBytes o came.course.bytes) is came.read.bytes

  -- A run that ends at the limit of the draws has a round whose clock came to it.
  met_draws : (snap : ℕ) (script : Script) (opening : Opening) (rans : List Ran) → AllByRecursion AllCaused rans
      → AllByRecursion IsBelowDraws rans → RunComes v snap script opening rans (AtLimit Draw) → ⊥
  met_draws snap script opening rans caused below (inl runs) =
      let by = runs.stops in
      let met = draw_end_met by.last runs.number
      (last_of AllCaused by.before by.last (subst (AllByRecursion AllCaused) by.rounds caused)) by.refused in
      let less = last_of IsBelowDraws by.before by.last (subst (AllByRecursion IsBelowDraws) by.rounds below) in
      omega (arith, met, less)
  met_draws snap script opening rans caused below (inr before) = before.1

  -- No run ends at the limit of the draws where a line has up to 16,383 tries.
  pub never_at_draws : (came : Came v (Run options) had left Shows) → options.tries ≤ 16383
      → came.course.ending ≡ AtLimit Draw → ⊥
  never_at_draws came few is = of came.course.script came.read.script (whole_run came)
      (subst (λ (e : Ending). Comes v (Run options) came.course.bytes came.course.script came.course.opening
      came.course.rans e) is came.comes)
    where
      of : (script : Option Script) → IfSome script (IsTextOf came.course.bytes)
          → IsRun (decls_in script) 0 (rounds_of script) came.course.opening.state
          (clock_after came.course.opening.saved) came.course.rans came.course.state
          → Comes v (Run options) came.course.bytes script came.course.opening came.course.rans (AtLimit Draw) → ⊥
      of None text run comes = comes
      of (Some script) text run comes =
          met_draws options.snap script came.course.opening came.course.rans came.caused.in_rounds.caused
          (below_draws came.course.bytes script came.course.opening.state came.course.opening.saved options.tries
          came.course.rans came.course.state text run few (draws_within came)) comes

  -- With a script, a vault in its formats that has the script's storages, no device or stream that fails, no limit
  -- that is met, and memory, all is done.
  pub all_is_done : (came : Came v (Run options) had left Shows) (script : Script) (found : Images)
      → IsTextOf came.course.bytes script
      → AreTold v.tells (parts_of v.was) found
      → ((read : Script) → came.course.script ≡ Some read → HasStorages found read.decls) → NoneFailed v
      → (came.course.ending ≡ ReadFault → ⊥) → ((name : LimitName) → came.course.ending ≡ AtLimit name → ⊥)
      → (came.course.ending ≡ NoMemory → ⊥) → came.course.ending ≡ Finished
  all_is_done came script found text told has none not_read not_limit not_memory =
      of came.course.script came.course.ending refl refl came.comes
    where
      run_done : (read : Script) (e : Ending) → came.course.script ≡ Some read → came.course.ending ≡ e
          → RunComes v options.snap read came.course.opening came.course.rans e → e ≡ Finished
      run_done read Finished is same comes = refl
      run_done read (NoScript fault) is same comes = absurd comes
      run_done read (Shape declared kept) is same comes =
          let here = has read is in
          let there = comes.2.kept_are found told in
          absurd (comes.2.other (storages_of found read.decls kept here there))
      run_done read Usage is same comes = absurd comes
      run_done read ReadFault is same comes = absurd comes
      run_done read (NoDevice device) is same comes = absurd (none device comes.0)
      run_done read (Damaged device at) is same comes =
          let here = has read is in elim comes [
            | inl before ↦ absurd (reading_stands found here.reading device at here.is (before.2 found told))
            | inr damage ↦ absurd (damage.untold found told)
          ]
      run_done read (AtLimit name) is same comes = absurd (not_limit name same)
      run_done read NoMemory is same comes = absurd (not_memory same)
      run_done read (NoSnapshot epoch) is same comes = absurd comes

      of : (o : Option Script) (e : Ending) → came.course.script ≡ o → came.course.ending ≡ e
          → Comes v (Run options) came.course.bytes o came.course.opening came.course.rans e
          → came.course.ending ≡ Finished
      of None Finished is same comes = absurd comes
      of None (NoScript fault) is same comes = absurd (comes.0 script text)
      of None (Shape declared kept) is same comes = absurd comes
      of None Usage is same comes = absurd comes
      of None ReadFault is same comes = absurd (not_read same)
      of None (NoDevice device) is same comes = absurd comes
      of None (Damaged device at) is same comes = absurd comes
      of None (AtLimit name) is same comes = absurd comes
      of None NoMemory is same comes = absurd (not_memory same)
      of None (NoSnapshot epoch) is same comes = absurd comes
      of (Some read) e is same comes = same ∙ run_done read e is same comes

  -- Then each round is done.
  pub each_is_done : (came : Came v (Run options) had left Shows) → came.course.ending ≡ Finished
      → AllByRecursion IsDone came.course.rans
  each_is_done came is = of came.course.script came.serial.clocks
      (subst (λ (e : Ending). Comes v (Run options) came.course.bytes came.course.script came.course.opening
      came.course.rans e) is came.comes)
    where
      of : (script : Option Script)
          → RunsClocks 0 (clock_after came.course.opening.saved) came.course.rans (rounds_of script)
          → Comes v (Run options) came.course.bytes script came.course.opening came.course.rans Finished
          → AllByRecursion IsDone came.course.rans
      of None clocks comes = absurd comes
      of (Some script) clocks comes = done_of 0 (clock_after came.course.opening.saved) came.course.rans script.rounds
          clocks comes.1.went_on came.caused.in_rounds.caused came.caused.in_rounds.durable
