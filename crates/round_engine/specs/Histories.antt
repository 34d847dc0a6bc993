-- Whose commits a round's are.
use Rattle.std.specs.Prelude.{List}
use Rattle.script_grammar.specs.Script.{Round}
use Rattle.tx_script.specs.declared.outcome.Outcome.{Outcome}
use Rattle.shared_rounds.specs.Standing.{Standing}
pub use Rattle.shared_rounds.specs.Gathers.{ComeFrom, ComeFromOne, HasGathered, comes_more, none_come}

-- The commits that are told of the round are the attempts which came to the history that threads share.
pub record KeepsHistory (round : Round) (outcomes : List (List Outcome)) (s t : Standing) : Type 0 where
  pub gathered : HasGathered s.decls round outcomes s.mine t.mine
