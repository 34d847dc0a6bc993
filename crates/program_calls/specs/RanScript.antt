-- What running a script comes to, told in full or in brief.
use Rattle.std.specs.Prelude.{◌≡◌, ◌≢◌, ℕ, true, false, Result, Ok}
use Rattle.outside.specs.declared.fault.Failed.{Failed}
use Rattle.joint_crashes.specs.VaultReads.{VaultOnlyReads}
use Rattle.text_output.specs.Output.{Output}
use Rattle.script_grammar.specs.Script.{Script}
use Rattle.command_line.specs.declared.command.Command.TheVariants.{Run}
use Rattle.command_line.specs.declared.command.RunOptions.{RunOptions}
use Rattle.program_calls.specs.Causes.{AnswersDevices, AnswersFaults, IsRunStatus, ReadsDamage, ReadsOnly, RestsAgain}
use Rattle.program_calls.specs.OnTheWay.{AddsRun, AddsText, RunsInBrief, RunsScript, status_told}
use Rattle.program_calls.specs.Vaults.{Vaults}
use Rattle.program_calls.specs.declared.ending.Ending.{Ending}
use Rattle.program_calls.specs.declared.ending.Ending.TheVariants.{Usage}

-- What a script came to that was run with these options on what the vault stands for: as these ask it is told line by
-- line or in brief, in the text that was added to what the sink holds; and of each status what it says of the sink and
-- of the devices.
pub record RanScript {D : Type 0} (v : Vaults D) (options : RunOptions) (script : Script) (old new : Output)
    (result : Result Ending Failed) : Type 0 where
  pub full : options.brief ≡ false
      → RunsScript v options.snap options.slots options.tries script (AddsRun (Run options) old new result)
  pub brief : options.brief ≡ true
      → RunsInBrief v options.snap options.slots options.tries script (AddsText old new result)
  pub usage : result ≢ Ok Usage
  pub statuses : IsRunStatus (status_told result)
  pub faults : (source : ℕ) → AnswersFaults (record { before = source; after = source })
      (record { before = old.faults; after = new.faults }) (status_told result)
  pub reads : ReadsOnly (Run options) (status_told result)
      → VaultOnlyReads v.tells v.clock v.image_at v.faults v.was v.is
  pub damage : ReadsDamage v.tells v.clock v.image_at v.faults (status_told result) v.was v.is
  pub devices : AnswersDevices v.faults v.was v.is (status_told result)
  pub rests : RestsAgain v.tells v.clock v.image_at (status_told result) v.was v.is
  pub same : new.sink ≡ old.sink
