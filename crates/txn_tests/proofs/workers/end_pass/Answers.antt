use Rattle.engine_pages.specs.Passes.{view}
use Rattle.txn_tests.proofs.OverLaws.{over_done}
use Rattle.txn_tests.proofs.workers.end_pass.Goals as goal

pub end-requires-clause-over : goal.end-requires-clause-over
end-requires-clause-over c = over_done (view c.args.pass) c.requires.over
