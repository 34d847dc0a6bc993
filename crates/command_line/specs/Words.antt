-- What the words of a call are read as.
use Rattle.std.specs.Prelude.{◌≡◌, ℕ, List, Result, Ok, IfOk, OnOk}
use Rattle.clap.specs.Walk.{Text}
use Rattle.command_line.specs.Options.{AreInRange, AreMadeInRange, IsWithin, Refuses, command_of, epoch_range}
use Rattle.command_line.specs.Plain.{AsksForHelp, IsPlain, IsPlainDump, IsPlainMake, IsPlainSnap, IsPlainSnaps}
use Rattle.command_line.specs.declared.command.Command.{Command}
use Rattle.command_line.specs.declared.command.Command.TheVariants.{Run, Dump, Snaps, Snap, Make, Refused}
use Rattle.command_line.specs.declared.command.MakeArguments.{MakeArguments}
use Rattle.command_line.specs.declared.command.RunOptions.{RunOptions}

-- What is read, unless memory is wanted: what the definitions say of these words. Plain words are read as what they
-- name; each number is in its range; and words are refused for a cause alone, as calls for help are.
pub record ReadsWords {E : Type 0} (words : List Text) (result : Result Command E) : Type 0 where
  pub command : IfOk result (λ asked. asked ≡ command_of words)
  pub plain : (options : RunOptions) → IsPlain words options → OnOk result (result ≡ Ok (Run options))
  pub plain_dump : IsPlainDump words → OnOk result (result ≡ Ok Dump)
  pub plain_snaps : IsPlainSnaps words → OnOk result (result ≡ Ok Snaps)
  pub plain_snap : (epoch : ℕ) → IsPlainSnap words epoch → OnOk result (result ≡ Ok (Snap epoch))
  pub plain_make : (arguments : MakeArguments) → IsPlainMake words arguments
      → OnOk result (result ≡ Ok (Make arguments))
  pub ranges : (options : RunOptions) → result ≡ Ok (Run options) → AreInRange options
  pub made_ranges : (arguments : MakeArguments) → result ≡ Ok (Make arguments) → AreMadeInRange arguments
  pub epoch_range : (epoch : ℕ) → result ≡ Ok (Snap epoch) → IsWithin epoch_range epoch
  pub refused : result ≡ Ok Refused → Refuses words
  pub help : AsksForHelp words → OnOk result (result ≡ Ok Refused)
