use Rattle.std.proofs.Common.{arith}
use Rattle.page_opening.proofs.Filled.{page_read, paged_next}
use Rattle.page_opening.proofs.filling.fill_pages.Goals as goal

pub loop-i-preserved : goal.loop-i-preserved
loop-i-preserved c =
    paged_next _ _ _ _ _ _ _ c.loop-i.invariant c.fill_page.ensures
    (page_read c.args.pages.now c.loop-i.i _ (omega (arith, c.loop-i-test.true)))
