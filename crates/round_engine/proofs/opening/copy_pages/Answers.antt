-- One more page is copied.
use Rattle.std.proofs.Common.{◌++◌, ◌∷◌, [], sym, ap, ◌∙◌, take_all, arith}
use Rattle.round_engine.proofs.Taking.{take_get}
use Rattle.round_engine.proofs.opening.copy_pages.Goals as goal

pub loop-i-preserved : goal.loop-i-preserved
loop-i-preserved c =
    c.in_ok-push.ensures.ok ∙ ap (λ l. l ++ c.page_at.result ∷ []) c.loop-i.invariant
    ∙ sym (take_get c.args.store.now.pages c.loop-i.i c.page_at.result c.page_at.ensures)

pub returns : goal.returns
returns c =
    c.loop-i.invariant
    ∙ take_all c.loop-i.i c.args.store.now.pages (omega (arith, c.count-i-end.ensures.count, c.loop-i-test.false))
