use Rattle.log_writer.specs.Newest.{holds_one, names_one}
use Rattle.log_writer.proofs.laws.one_newest.Goals as goal

pub returns-clause-holds : goal.returns-clause-holds
returns-clause-holds c = holds_one

pub returns-clause-names : goal.returns-clause-names
returns-clause-names c = names_one
