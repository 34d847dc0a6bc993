use Rattle.engine_pages.specs.Passes.{view}
use Rattle.tree_drops.proofs.LongKept.{long_keeper, long_kept, long_last}
use Rattle.tree_drops.proofs.Places.{word_here}
use Rattle.tree_drops.proofs.chain_visits.keep_long.Goals as goal

pub keep-requires-clause-keeper : goal.keep-requires-clause-keeper
keep-requires-clause-keeper c =
    long_keeper c.args.root c.word_at-at.result c.load_moved-header.result (view c.args.pass.now) (view c.load_moved-header.new.pass)
    c.requires.known c.load_moved-header.ensures.meets c.requires.keeper

pub keep-requires-clause-last : goal.keep-requires-clause-last
keep-requires-clause-last c =
    long_last c.args.root c.word_at-at.result c.load_moved-header.result (view c.args.pass.now) (view c.load_moved-header.new.pass)
    c.requires.known c.load_moved-header.ensures.meets

pub returns-clause-keeps : goal.returns-clause-keeps
returns-clause-keeps c =
    long_kept c.args.root c.word_at-at.result c.load_moved-header.result c.keep.result (view c.args.pass.now)
    (view c.load_moved-header.new.pass) (view c.keep.new.pass) c.requires.known
    (word_here c.args.engine.now c.args.pass.now c.args.root.slot 0 c.word_at-at.result c.requires.of c.word_at-at.ensures)
    c.load_moved-header.ensures.meets c.keep.ensures.is c.keep.ensures.notes
