-- The page's words are those that its number names.
use Rattle.std.proofs.Common.{sym}
use Rattle.snapshot_store.specs.ReadLaws.{page_at, whole_words}
use Rattle.snapshot_store.proofs.store.SnapStore.words.Goals as goal

pub returns-clause-words : goal.returns-clause-words
returns-clause-words c =
    sym (page_at c.args.self.now.pages c.args.number c.page.result.now c.requires.first c.page.ensures.page)

pub returns-clause-long : goal.returns-clause-long
returns-clause-long c = whole_words c.page.result.now c.page.ensures.whole
