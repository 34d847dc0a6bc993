-- All that `top` promises of a call, as one: for a program that calls it, and promises the same.
use Rattle.std.specs.Prelude.{ℕ, List, Option}
use Rattle.joint_crashes.specs.Images.{Images}
use Rattle.joint_crashes.specs.JointCrash.{parts_of}
use Rattle.joint_crashes.specs.Resting.{AreTold}
use Rattle.script_grammar.specs.Script.{Bytes}
use Rattle.command_line.specs.Options.{command_of}
use Rattle.program_calls.specs.Answers.{Answers, Sources}
use Rattle.program_calls.specs.Causes.{AnswersWords, Counts}
use Rattle.program_calls.specs.Ending.{ShownText}
use Rattle.program_calls.specs.Listings.{IsListing, IsUndisturbed, TellsAll}
use Rattle.program_calls.specs.Vaults.{Vaults}

-- The sink of a call: what it held before it and holds after it, where it tells that, and the counts of its faults.
pub record Sinks : Type 0 where
  pub held : Option Bytes
  pub holds : Option Bytes
  pub faults : Counts

-- the same by its parts
abbrev pub sinks_of : {K : Type 0} → (K → Option Bytes) → (K → ℕ) → K → K → Sinks
sinks_of held faults was is =
    record { held = held was; holds = held is; faults = record { before = faults was; after = faults is } }

-- What a call of these words comes to over this vault, this source and this sink, with this status: `top`'s clauses.
pub record TopAnswers {D S : Type 0} (v : Vaults D) (words : List Bytes) (source : Sources S) (sink : Sinks) (status : ℕ)
    : Type 0 where
  pub answers : Answers v (command_of words) source sink.faults status (ShownText sink.held sink.holds status)
  pub asked : AnswersWords words status
  pub complete : IsListing (command_of words) → (found : Images) → AreTold v.tells (parts_of v.was) found
      → IsUndisturbed status → TellsAll (command_of words) found sink.held sink.holds status
