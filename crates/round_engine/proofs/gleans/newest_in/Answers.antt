-- The newest catalogue is the last page.
use Rattle.std.proofs.Common.{◌∙◌, ap}
use Rattle.round_engine.proofs.LastPage.{last_words, small_epoch}
use Rattle.round_engine.proofs.gleans.newest_in.Goals as goal

pub returns-clause-epoch : goal.returns-clause-epoch
returns-clause-epoch c contents here = c.small.ensures ∙
    ap (λ (p : _ × _). p.0) (c.epoch_and_previous-epoch.ensures contents
    (last_words c.args.store.now.pages c.count-page.result c.page.result.now contents c.count-page.ensures.count
    c.page.ensures.page here))

pub small-requires : goal.small-requires
small-requires c =
    let some = c.requires.some in
    small_epoch c.epoch_and_previous-epoch.result.0 some.0 some.1 (ap (λ (p : _ × _). p.0)
    (c.epoch_and_previous-epoch.ensures some.0
    (last_words c.args.store.now.pages c.count-page.result c.page.result.now some.0 c.count-page.ensures.count
    c.page.ensures.page some.1)))
