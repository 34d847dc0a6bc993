use Rattle.std.proofs.Common.{◌≡◌, ap, arith}
use Rattle.engine_pages.specs.declared.layout.Layout.{Layout}
use Rattle.engine_pages.specs.Passes.{view}
use Rattle.resident_pages.proofs.PagesFilled.{none_filled}
use Rattle.resident_pages.proofs.publishing.fill_next.Goals as goal

pub fill_words-requires-clause-first : goal.fill_words-requires-clause-first
fill_words-requires-clause-first c =
    let place = c.first_word-first.ensures.place in
    let same : (view c.args.pass.now).layout.slots ≡ c.args.engine.now.table.shared.key.slots =
    ap (λ (l : Layout). l.slots) c.requires.of.layout in omega (arith, place, same)

pub fill_words-requires-clause-claimed : goal.fill_words-requires-clause-claimed
fill_words-requires-clause-claimed c =
    none_filled c.args.page c.args.words.now (view c.args.pass.now) c.requires.claimed c.requires.above c.requires.room
