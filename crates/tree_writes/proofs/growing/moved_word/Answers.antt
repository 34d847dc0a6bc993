use Rattle.engine_pages.specs.Passes.{view}
use Rattle.tree_writes.proofs.NamedWords.{header_told, index_few, record_told}
use Rattle.tree_writes.proofs.growing.moved_word.Goals as goal

-- ---- the header

pub load_header-seen-requires-clause-pass : goal.load_header-seen-requires-clause-pass
load_header-seen-requires-clause-pass c = c.requires.can.1.active

pub load_header-seen-requires-clause-slot : goal.load_header-seen-requires-clause-slot
load_header-seen-requires-clause-slot c = c.requires.can.1.there

pub load_header-seen-requires-clause-word : goal.load_header-seen-requires-clause-word
load_header-seen-requires-clause-word c = c.requires.head

pub load_header-seen-requires-clause-page : goal.load_header-seen-requires-clause-page
load_header-seen-requires-clause-page c = c.requires.can.1.page

pub returns-then-word-head-clause-told : goal.returns-then-word-head-clause-told
returns-then-word-head-clause-told c =
    header_told c.args.leaf c.conflict.result c.args.head c.args.word c.load_header-seen.result (view c.args.pass.now)
    (view c.load_header-seen.new.pass) c.if-word-head.true c.requires.head c.conflict.ensures
    c.load_header-seen.ensures.loads

-- ---- a record

pub moved_record-requires-clause-index : goal.moved_record-requires-clause-index
moved_record-requires-clause-index c =
    index_few (view c.args.pass.now).layout.slots c.args.leaf.slot c.args.head c.args.word c.index_of-index.result
    c.requires.head c.if-word-head.false c.requires.word c.index_of-index.ensures

pub returns-clause-told : goal.returns-clause-told
returns-clause-told c =
    record_told c.args.leaf c.moved_record.result c.args.head c.args.word c.index_of-index.result
    (view c.args.pass.now) (view c.moved_record.new.pass) c.requires.head c.if-word-head.false c.requires.word
    c.index_of-index.ensures c.moved_record.ensures.missed
