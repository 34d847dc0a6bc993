use Rattle.engine_pages.specs.Passes.{view}
use Rattle.tree_drops.proofs.HeadUnits.{can_seal, seal_done, seal_missed, tried_due, tried_keeper, tried_kept, tried_last}
use Rattle.tree_drops.proofs.Places.{word_here}
use Rattle.tree_drops.proofs.taking.seal_page.Goals as goal

pub seal-found-requires-clause-seal : goal.seal-found-requires-clause-seal
seal-found-requires-clause-seal c =
    can_seal c.args.page (view c.args.pass.now) c.requires.keeper c.requires.page c.requires.moved c.requires.split

pub keep-changed-requires-clause-keeper : goal.keep-changed-requires-clause-keeper
keep-changed-requires-clause-keeper c =
    let v = view c.args.pass.now in
    let u = view c.seal-found.new.pass in
    let here = word_here c.args.engine.now c.args.pass.now c.args.page.slot 0 c.word_at-at.result c.requires.of c.word_at-at.ensures in
    let looked = seal_missed c.args.page.slot c.word_at-at.result c.args.page.header c.seal-found.result v u c.if-found-page.true c.seal-found.ensures.seals in
    tried_keeper c.args.root c.args.page c.word_at-at.result c.seal-found.result v u here looked c.if-found-page.true c.requires.keeper

pub keep-changed-requires-clause-last : goal.keep-changed-requires-clause-last
keep-changed-requires-clause-last c =
    let v = view c.args.pass.now in
    let u = view c.seal-found.new.pass in
    let here = word_here c.args.engine.now c.args.pass.now c.args.page.slot 0 c.word_at-at.result c.requires.of c.word_at-at.ensures in
    let looked = seal_missed c.args.page.slot c.word_at-at.result c.args.page.header c.seal-found.result v u c.if-found-page.true c.seal-found.ensures.seals in
    tried_last c.args.root c.args.page c.word_at-at.result c.seal-found.result v u here looked c.if-found-page.true

pub keep-changed-requires-clause-due : goal.keep-changed-requires-clause-due
keep-changed-requires-clause-due c =
    let v = view c.args.pass.now in
    let u = view c.seal-found.new.pass in
    let here = word_here c.args.engine.now c.args.pass.now c.args.page.slot 0 c.word_at-at.result c.requires.of c.word_at-at.ensures in
    let looked = seal_missed c.args.page.slot c.word_at-at.result c.args.page.header c.seal-found.result v u c.if-found-page.true c.seal-found.ensures.seals in
    tried_due c.args.root c.args.page c.word_at-at.result c.seal-found.result v u here looked c.if-found-page.true c.requires.seen

pub returns-then-found-page-clause-works : goal.returns-then-found-page-clause-works
returns-then-found-page-clause-works c =
    let v = view c.args.pass.now in
    let u = view c.seal-found.new.pass in
    let here = word_here c.args.engine.now c.args.pass.now c.args.page.slot 0 c.word_at-at.result c.requires.of c.word_at-at.ensures in
    let looked = seal_missed c.args.page.slot c.word_at-at.result c.args.page.header c.seal-found.result v u c.if-found-page.true c.seal-found.ensures.seals in
    tried_kept c.args.root c.args.page c.word_at-at.result c.seal-found.result v u here looked c.if-found-page.true
    c.keep-changed.result (view c.keep-changed.new.pass) c.keep-changed.ensures.is c.keep-changed.ensures.notes

pub returns-clause-works : goal.returns-clause-works
returns-clause-works c =
    let v = view c.args.pass.now in
    let u = view c.seal-found.new.pass in
    let here = word_here c.args.engine.now c.args.pass.now c.args.page.slot 0 c.word_at-at.result c.requires.of c.word_at-at.ensures in
    seal_done c.args.root c.args.page c.word_at-at.result c.seal-found.result v u here c.requires.split c.if-found-page.false c.seal-found.ensures.seals
