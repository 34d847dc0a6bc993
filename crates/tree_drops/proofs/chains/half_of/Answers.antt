use Rattle.std.proofs.Common.{◌-◌, arith}
use Rattle.engine_pages.specs.Passes.{view}
use Rattle.tree_drops.proofs.Places.{word_here}
use Rattle.tree_drops.proofs.PartedSplits.{lower_half, upper_half, word_fits}
use Rattle.tree_drops.proofs.chains.half_of.Goals as goal

pub overflow_cast-slot : goal.overflow_cast-slot
overflow_cast-slot c =
    let few = word_fits c.args.split c.args.word c.word_at-at.result c.load_word-found.result (view c.args.pass.now)
    (view c.load_word-found.new.pass) c.requires.enter c.requires.word c.load_word-found.ensures.loads c.word_at-at.type_inv
    (word_here c.args.engine.now c.args.pass.now c.args.split.slot c.args.word c.word_at-at.result c.requires.of c.word_at-at.ensures) in
    omega (arith, few)

pub returns-then-word-eq4-clause-half : goal.returns-then-word-eq4-clause-half
returns-then-word-eq4-clause-half c =
    upper_half c.args.split c.args.word c.word_at-at.result c.load_word-found.result (view c.args.pass.now)
    (view c.load_word-found.new.pass) c.requires.enter c.requires.word c.load_word-found.ensures.loads c.word_at-at.type_inv
    (word_here c.args.engine.now c.args.pass.now c.args.split.slot c.args.word c.word_at-at.result c.requires.of c.word_at-at.ensures)
    c.if-word-eq4.true

pub returns-clause-half : goal.returns-clause-half
returns-clause-half c =
    lower_half c.args.split c.args.word c.word_at-at.result c.load_word-found.result (view c.args.pass.now)
    (view c.load_word-found.new.pass) c.requires.enter c.requires.word c.load_word-found.ensures.loads c.word_at-at.type_inv
    (word_here c.args.engine.now c.args.pass.now c.args.split.slot c.args.word c.word_at-at.result c.requires.of c.word_at-at.ensures)
    c.if-word-eq4.false
