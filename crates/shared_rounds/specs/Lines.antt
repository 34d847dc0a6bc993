-- What comes of the workers' lines of a round, as the call answers it.
use Rattle.std.specs.Prelude.{ℕ, Bool, List, Option}
use Rattle.script_grammar.specs.Script.{Round}
use Rattle.tx_script.specs.Readied.{Readied}
use Rattle.worker_logs.specs.Logs.{LogState}
use Rattle.worker_logs.specs.Shown.{Stood}
use Rattle.shared_rounds.specs.SharedState.{SharedState}
use Rattle.shared_rounds.specs.Standing.{Standing}
use Rattle.shared_rounds.specs.Workers.{RunsWorkers}
use Rattle.shared_rounds.specs.declared.ends.WorkersRan.{WorkersRan}

-- an engine of words as a standing, in a run that has ended or goes on
abbrev pub standing : Bool → SharedState → Standing
standing ended s = record {
  decls = s.decls;
  state = s.state;
  opening = s.opening;
  clock = s.clock;
  mine = s.mine;
  refused = s.refused;
  met = s.met;
  slots = s.slots;
  pages = s.pages;
  resident = s.resident;
  drops = s.drops;
  ended = ended;
}

module _ {D : Type 0} (tells : D → Option (List ℕ)) (clock : D → ℕ) (image_at : D → ℕ → List ℕ → Type 0)
    (faults : D → ℕ) where
  -- All lines were run, each so often at most, with these outcomes and ends of logs: a record that a proof can carry over
  -- to equal logs and log files.
  pub record LinesCome (tries : ℕ) (round : Round) (s t : Standing) (marks : List (List Stood))
      (readied : List (List Readied)) (logs_was logs : List LogState) (banks_was banks : List D) (ran : WorkersRan)
      : Type 0 where
    pub come : RunsWorkers tells clock image_at faults tries round s t ran.outcomes ran.ends.items marks readied logs_was
        logs banks_was banks
