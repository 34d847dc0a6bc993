use Rattle.engine_pages.specs.Passes.{view}
use Rattle.tx_runner.specs.OwnThreads.{over_done}
use Rattle.bank_tellers.proofs.bank.end_one.Goals as goal

pub end-requires-clause-over : goal.end-requires-clause-over
end-requires-clause-over c = over_done (view c.args.teller.pass) c.requires.teller.over
