-- On the way to the main theorem: what one round comes to with what is told of it, and a run of rounds.
use Rattle.std.specs.Prelude.{◌≡◌, ◌⊎◌, ◌+◌, ◌<◌, ◌^◌, ℕ, Bool, true, List, Option, Some, Result, Ok, Err, IfOk}
use Rattle.std.specs.Prelude.{length, sum_by}
use Rattle.lists.specs.declared.memory.Memory.{Memory}
use Rattle.log_writer.specs.Vault.{IsWhole}
use Rattle.outside.specs.declared.fault.Failed.{Failed}
use Rattle.log_writer.specs.declared.vault.Vault.{Vault}
use Rattle.serial_model.specs.State.{State}
use Rattle.joint_crashes.specs.VaultReads.{VaultOnlyReads}
use Rattle.text_output.specs.Output.{Output}
use Rattle.script_grammar.specs.Script.{Bytes, Round, Script}
use Rattle.tx_script.specs.Run.{Ran}
use Rattle.brief_output.specs.declared.tally.Tally.{Tally}
use Rattle.round_engine.specs.RanRound.{Rounds}
use Rattle.round_engine.specs.Standing.{RuntimeState}
use Rattle.round_engine.specs.declared.report.End.{End}
use Rattle.round_engine.specs.declared.report.End.TheVariants as ends
use Rattle.round_engine.specs.declared.report.Report.{Report}
use Rattle.program_calls.specs.declared.ending.Ending.{Ending}
use Rattle.program_calls.specs.Causes.{IsReadStatus, ReadsDamage, RestsAgain}
use Rattle.program_calls.specs.OnTheWay.{RunsRounds}
use Rattle.program_calls.specs.Telling.{TellsRound}
use Rattle.program_calls.specs.Vaults.{Vaults}

-- ---- one round

-- It was run, and told, or the sink failed within its lines; this ends the run, if anything does.
pub record IsToldRound {D : Type 0} (tells : D → Option Bytes) (clock : D → ℕ) (image_at : D → ℕ → Bytes → Type 0)
    (faults : D → ℕ) (tries : ℕ) (round : Round) (old new : RuntimeState) (before now : Vault D) (brief : Bool)
    (tally after : Tally) (out added : Output) (result : Result (Option End) Failed) : Type 0 where
  pub report : Report
  pub ran : Rounds tells clock image_at faults tries round old new before now (Ok report)
  pub told : TellsRound brief tally after out added report result
  pub end_is : IfOk result (λ end. end ≡ report.end)

-- Memory was wanted for it, which ends the run. Nothing is told.
pub record IsWantedRound {D : Type 0} (tells : D → Option Bytes) (clock : D → ℕ) (image_at : D → ℕ → Bytes → Type 0)
    (faults : D → ℕ) (tries : ℕ) (round : Round) (old new : RuntimeState) (before now : Vault D)
    (tally after : Tally) (out added : Output) (result : Result (Option End) Failed) : Type 0 where
  pub memory : Memory
  pub wanted : Rounds tells clock image_at faults tries round old new before now (Err memory)
  pub tally_is : after ≡ tally
  pub out_is : added ≡ out
  pub end_is : result ≡ Ok (Some ends.Memory)

-- one of both
abbrev pub RunsRound : {D : Type 0} → (D → Option Bytes) → (D → ℕ) → (D → ℕ → Bytes → Type 0) → (D → ℕ) → ℕ → Round
    → RuntimeState → RuntimeState → Vault D → Vault D → Bool → Tally → Tally → Output → Output
    → Result (Option End) Failed → Type 0
RunsRound tells clock image_at faults tries round old new before now brief tally after out added result =
    IsToldRound tells clock image_at faults tries round old new before now brief tally after out added result
    ⊎ IsWantedRound tells clock image_at faults tries round old new before now tally after out added result

-- Where rounds are counted, the commits so far and the lines of this round are few enough, whatever comes of it.
abbrev pub CanCount : {D : Type 0} → (D → Option Bytes) → (D → ℕ) → (D → ℕ → Bytes → Type 0) → (D → ℕ) → ℕ → Round
    → RuntimeState → Vault D → Bool → Tally → Type 0
CanCount tells clock image_at faults tries round old before brief tally = brief ≡ true
    → (report : Report) (new : RuntimeState) (now : _)
    → Rounds tells clock image_at faults tries round old new before now (Ok report)
    → tally.commits + sum_by length report.outcomes < 2 ^ 64

-- ---- all rounds

-- The rounds of a script were run to the end of the run, which has this status, and this is shown of them; and the
-- vault is left as it has to be.
pub record RunsToEnd {D : Type 0} (v : Vaults D) (snap slots tries : ℕ) (script : Script) (status : ℕ)
    (Shows : List Ran → State → Ending → Type 0) : Type 0 where
  pub runs : RunsRounds v snap slots tries script Shows
  pub whole : IsWhole v.is
  pub reads : IsReadStatus status → VaultOnlyReads v.tells v.clock v.image_at v.faults v.was v.is
  pub damage : ReadsDamage v.tells v.clock v.image_at v.faults status v.was v.is
  pub rests : RestsAgain v.tells v.clock v.image_at status v.was v.is
