-- An answer, made where `top` is called or an ending is told, and handed on.
use Rattle.std.proofs.Common.{◌≡◌, inl, inr, sym, subst, ℕ, List, Option, Result, Err}
use Rattle.outside.specs.declared.device.Device.{Device}
use Rattle.outside.specs.Disk.{IfTold, Only}
use Rattle.serial_model.specs.State.{State}
use Rattle.log_writer.specs.declared.vault.Vault.{Vault}
use Rattle.log_writer.specs.Vault.{IsWhole}
use Rattle.joint_crashes.specs.Images.{Images}
use Rattle.joint_crashes.specs.JointCrash.{Moments, IsNow, parts_of}
use Rattle.joint_crashes.specs.Resting.{AreTold}
use Rattle.joint_crashes.specs.Synced.{SyncsAll, TakesOver, taken_told, whole_taken}
use Rattle.recovery_core.specs.Recoverable.{IsRecoverable}
use Rattle.command_line.specs.Options.{command_of}
use Rattle.command_line.specs.declared.command.Command.{Command}
use Rattle.command_line.specs.declared.command.Command.TheVariants.{Run}
use Rattle.command_line.specs.declared.command.RunOptions.{RunOptions}
use Rattle.script_grammar.specs.Script.{Bytes}
use Rattle.program_calls.specs.Answers.{Sources}
use Rattle.database_files.specs.declared.not_opened.NotOpened.{NotOpened}
use Rattle.program_calls.specs.Causes.{LeavesVault}
use Rattle.program_calls.specs.OnTheWay.{TellsEnding}
use Rattle.program_calls.specs.RunKept.{AtRest}
use Rattle.program_calls.specs.StopLaws.{settled_begins}
use Rattle.program_calls.specs.TopAnswers.{Sinks, TopAnswers}
use Rattle.program_calls.specs.Vaults.{Vaults, vaults_of}
use Rattle.program_calls.specs.declared.ending.Ending.{Ending}
use Rattle.program_calls.specs.declared.ending.Ending.TheVariants.{NoDevice}
use Rattle.program_entry.specs.Endings.{ending_unopened}
use Rattle.program_entry.specs.Entry.{AnsweredAlone, AnsweredBy, AnsweredOver, ForSomeVault, InOneOf, IsTakenOver, MayChange, OneOf, OrEarly}

-- ---- the call, and what is told before it

-- nothing is pending of a vault that was taken over
taken_rests : {D : Type 0} {settled : D → Type 0} (v : Vaults D) (from : Vault D)
    → ((disk : D) → settled disk → IfTold (v.tells disk) (Only v.clock v.image_at disk)) → IsWhole v.was
    → IsTakenOver settled v from
    → (found : Images) (epoch : ℕ) (state : State) (at : Moments) → AreTold v.tells (parts_of v.was) found
    → IsRecoverable found epoch state → IsNow v.clock v.image_at (parts_of from) at
    → AtRest (vaults_of v.tells v.clock v.image_at v.faults from v.is)
taken_rests v from rests whole taken found epoch state at told kept now =
    settled_begins (vaults_of v.tells v.clock v.image_at v.faults from v.is) found at epoch state
    (whole_taken taken whole) (taken_told tt rests taken whole told) kept now

module _ {D S : Type 0} {settled : D → Type 0} (v : Vaults D) {words : List Bytes} {source : Sources S} {sink : Sinks}
    {status : ℕ} (from : Vault D) where
  -- `top` was called over a vault that was taken over
  pub called_run : ((disk : D) → settled disk → IfTold (v.tells disk) (Only v.clock v.image_at disk)) → IsWhole v.was
      → MayChange (command_of words)
      → IsTakenOver settled v from
      → TopAnswers (vaults_of v.tells v.clock v.image_at v.faults from v.is) words source sink status
      → AnsweredBy settled v words source sink status
  unfolding OneOf
  called_run rests whole may taken answers = record {
    way = inl (record {
      from = from;
      taken = λ may. taken;
      rested = λ may. taken_rests v from rests whole taken;
      synced = λ none. absurd (none may);
      answers = answers;
    });
  }

  -- and over one that was only read and synced
  pub called_listing : (MayChange (command_of words) → ⊥) → (answer : Result (Unit {0}) Device)
      → SyncsAll v.tells v.clock v.image_at v.faults settled v.was from answer
      → TopAnswers (vaults_of v.tells v.clock v.image_at v.faults from v.is) words source sink status
      → AnsweredBy settled v words source sink status
  unfolding OneOf
  called_listing none answer synced answers = record {
    way = inl (record {
      from = from;
      taken = λ may. absurd (none may);
      rested = λ may. absurd (none may);
      synced = λ none. (answer, synced);
      answers = answers;
    });
  }

-- the vault couldn't be taken over
pub not_taken : {D S : Type 0} {settled : D → Type 0} {v : Vaults D} {words : List Bytes} {source : Sources S} {sink : Sinks}
    {status : ℕ} (device : Device) → MayChange (command_of words)
    → (let failed : Result (Unit {0}) Device = Err device in
    TakesOver v.tells v.clock v.image_at v.faults settled v.was v.is failed)
    → TellsEnding (NoDevice device) sink.faults sink.held sink.holds status → source.is ≡ source.was
    → AnsweredBy settled v words source sink status
unfolding OneOf
not_taken device may left told unread = record {
  way = inr (record { may = may; device = device; left = left; told = told; unread = unread });
}

-- a run may change the vault
pub run_changes : {command : Command} {options : RunOptions} → command ≡ Run options → MayChange command
run_changes is = subst MayChange (sym is) tt

-- this is some vault
pub called : {D S : Type 0} {settled : D → Type 0} {tells : D → Option Bytes} {clock : D → ℕ}
    {image_at : D → ℕ → Bytes → Type 0} {faults : D → ℕ} {words : List Bytes} {source : Sources S} {sink : Sinks}
    {status : ℕ} (was is : Vault D)
    → AnsweredBy settled (vaults_of tells clock image_at faults was is) words source sink status
    → AnsweredOver settled tells clock image_at faults words source sink status
unfolding ForSomeVault
called was is answers = record { call = (was, is, answers) }

-- and so is this one, for words that leave it alone
pub called_alone : {D S : Type 0} {tells : D → Option Bytes} {clock : D → ℕ} {image_at : D → ℕ → Bytes → Type 0}
    {faults : D → ℕ} {words : List Bytes} {source : Sources S} {sink : Sinks} {status : ℕ} (was is : Vault D)
    → LeavesVault (command_of words)
    → TopAnswers (vaults_of tells clock image_at faults was is) words source sink status
    → AnsweredAlone tells clock image_at faults words source sink status
unfolding ForSomeVault
called_alone was is alone answers = record { alone = alone; call = (was, is, answers) }

pub came : {Comes : Sinks → ℕ → Type 0} {sink : Sinks} {status : ℕ} → Comes sink status → OrEarly Comes sink status
unfolding OneOf
came is = record { way = inl is }

pub told_early : {Comes : Sinks → ℕ → Type 0} {sink : Sinks} {status : ℕ} (why : NotOpened) (ending : Ending)
    → ending ≡ ending_unopened why → TellsEnding ending sink.faults sink.held sink.holds status
    → OrEarly Comes sink status
unfolding OneOf
told_early {sink = sink} {status = status} why ending is told = record {
  way = inr (record {
    why = why;
    told = subst (λ e. TellsEnding e sink.faults sink.held sink.holds status) is told;
  });
}

-- ---- one of two ways

pub in_one : {One Other : Sinks → ℕ → Type 0} {sink : Sinks} {status : ℕ} → OrEarly One sink status
    → OrEarly (InOneOf One Other) sink status
unfolding OneOf
in_one is = record {
  way = elim is.way [
    | inl one ↦ inl (record { way = inl one })
    | inr early ↦ inr early
  ];
}

pub in_other : {One Other : Sinks → ℕ → Type 0} {sink : Sinks} {status : ℕ} → OrEarly Other sink status
    → OrEarly (InOneOf One Other) sink status
unfolding OneOf
in_other is = record {
  way = elim is.way [
    | inl other ↦ inl (record { way = inr other })
    | inr early ↦ inr early
  ];
}

-- ---- texts that are the words

pub of_words : {D E S : Type 0} {settled : D → Type 0} {tells : D → Option Bytes} {clock : D → ℕ} {image_at : D → ℕ → Bytes → Type 0}
    {faults : D → ℕ} {tells_none : E → Option Bytes} {clock_none : E → ℕ} {image_none : E → ℕ → Bytes → Type 0}
    {faults_none : E → ℕ} {source : Sources S} {sink : Sinks} {status : ℕ} {texts words : List Bytes} → texts ≡ words
    → OrEarly (InOneOf (AnsweredOver settled tells clock image_at faults texts source)
    (AnsweredAlone tells_none clock_none image_none faults_none texts source)) sink status
    → OrEarly (InOneOf (AnsweredOver settled tells clock image_at faults words source)
    (AnsweredAlone tells_none clock_none image_none faults_none words source)) sink status
of_words {settled = settled} {tells = tells} {clock = clock} {image_at = image_at} {faults = faults} {tells_none = tells_none}
    {clock_none = clock_none} {image_none = image_none} {faults_none = faults_none} {source = source} {sink = sink}
    {status = status} same is =
    subst (λ w. OrEarly (InOneOf (AnsweredOver settled tells clock image_at faults w source)
    (AnsweredAlone tells_none clock_none image_none faults_none w source)) sink status) same is
