-- Where there is nothing to do the pass stays as it is.
use Rattle.engine_pages.specs.Passes.{view}
use Rattle.shared_rounds.specs.Beside.{went_none}
use Rattle.shared_rounds.proofs.beside.run_beside.Goals as goal

pub returns-then-not-has_work-clause-went : goal.returns-then-not-has_work-clause-went
returns-then-not-has_work-clause-went g c = went_none (view c.args.keeper.now)

pub returns-then-not-has_work-clause-did : goal.returns-then-not-has_work-clause-did
returns-then-not-has_work-clause-did g c =
    c.has_work.ensures c.if-not-has_work.true (view c.args.keeper.now) c.requires.can
