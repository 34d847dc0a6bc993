use Rattle.std.proofs.Common.{◌+◌, ◌-◌, ◌*◌, ◌<◌, sym, ap, ◌∙◌, subst}
use Rattle.engine_pages.specs.declared.layout.Layout.{Layout}
use Rattle.engine_pages.specs.Layout.{page_at}
use Rattle.engine_pages.specs.Passes.{view}
use Rattle.array_pages.proofs.RecordLaws.{index_of}
use Rattle.array_pages.proofs.SpanLaws.{record_at}
use Rattle.array_pages.proofs.finding.read_record.Goals as goal

pub word_at-at-requires-clause-slot : goal.word_at-at-requires-clause-slot
word_at-at-requires-clause-slot c =
    subst (λ (l : Layout). c.args.slot < l.slots) c.requires.of.layout c.requires.there

pub read_word-requires-clause-place : goal.read_word-requires-clause-place
read_word-requires-clause-place c =
    record_at (view c.args.pass.now) c.args.key c.args.slot c.args.low c.word_at-at.result c.requires.way
    c.requires.there
    c.requires.fits.array c.requires.over
    (c.word_at-at.ensures
    ∙ ap (λ (l : Layout). page_at l.slots c.args.slot (2 * (c.args.key.key - c.args.low))) (sym c.requires.of.layout))

pub read_word-requires-clause-index : goal.read_word-requires-clause-index
read_word-requires-clause-index c = index_of c.args.key c.args.low c.requires.even c.requires.over

pub returns-clause-reads : goal.returns-clause-reads
returns-clause-reads c = c.read_word.ensures.reads
