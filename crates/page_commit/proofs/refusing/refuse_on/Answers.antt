use Rattle.engine_pages.specs.Passes.{view}
use Rattle.page_commit.proofs.WideLaws.{on_wide_due}
use Rattle.page_commit.proofs.refusing.refuse_on.Goals as goal

pub refuse-requires-clause-wide : goal.refuse-requires-clause-wide
refuse-requires-clause-wide c =
    on_wide_due c.args.why c.args.key c.args.sets.now (view c.args.pass.now) c.requires.on
