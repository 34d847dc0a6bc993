use Rattle.std.proofs.Common.{sym, ◌∙◌}
use Rattle.tree_calls.proofs.SetLaws.{word_pushed, word_same}
use Rattle.tree_calls.proofs.reading.keep_header.Goals as goal

pub push-requires : goal.push-requires
push-requires c = record { absent = sym c.contains.ensures ∙ c.if-not-contains.true }

pub returns-then-not-contains : goal.returns-then-not-contains
returns-then-not-contains c =
    word_pushed 256 c.args.header c.args.headers.now _ c.push.result c.push.ensures
    (sym c.contains.ensures ∙ c.if-not-contains.true) c.requires

pub returns-else-not-contains : goal.returns-else-not-contains
returns-else-not-contains c =
    word_same 256 c.args.header c.args.headers.now (sym c.contains.ensures ∙ c.if-not-contains.false) c.requires
