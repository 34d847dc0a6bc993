use Rattle.engine_pages.specs.Passes.{view}
use Rattle.tree_drops.proofs.Places.{key_found}
use Rattle.tree_drops.proofs.records.key_at.Goals as goal

pub returns-clause-key : goal.returns-clause-key
returns-clause-key c =
    λ x.
    key_found c.args.leaf.slot c.args.leaf.count c.args.index c.word_at-at.result c.load_word-key.result c.args.leaf.span
    (view c.args.pass.now) (view c.load_word-key.new.pass) x c.requires.index c.load_word-key.ensures.loads
