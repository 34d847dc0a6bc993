use Rattle.std.proofs.Common.{◌≡◌}
use Rattle.engine_pages.specs.Passes.{view, IsPassOf}
use Rattle.page_commit.specs.Live.{IsLive}
use Rattle.txn_tests.specs.declared.worker.Phase.TheVariants as phases
use Rattle.txn_tests.specs.Standing.{declared, IsSize}
use Rattle.txn_tests.proofs.plays.read_many.Given as goal

abbrev pub invariant-loop-k : goal.invariant-loop-k
invariant-loop-k l =
    IsPassOf l.engine l.worker.pass × IsSize l.worker.size
    × ((view l.worker.pass).layout.decls ≡ declared l.worker.size) × (l.worker.phase ≡ phases.Over)
    × IsLive l.worker.txn.sets (view l.worker.pass)
