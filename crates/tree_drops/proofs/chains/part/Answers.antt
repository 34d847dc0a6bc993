use Rattle.std.proofs.Common.{inl, inr, arith}
use Rattle.engine_pages.specs.declared.view.KeptWhy.TheVariants.{Unlike}
use Rattle.engine_pages.specs.Passes.{view}
use Rattle.tree_drops.proofs.PartedSplits.{part_other, part_out, parts_so, word_last}
use Rattle.tree_drops.proofs.Places.{word_here}
use Rattle.tree_drops.proofs.chains.part.Goals as goal

pub returns-then-header-ne-SPLIT-clause-parts : goal.returns-then-header-ne-SPLIT-clause-parts
returns-then-header-ne-SPLIT-clause-parts c =
    part_other c.args.slot c.word_at-here.result c.args.header c.args.span c.keep-other.result (view c.args.pass.now)
    (view c.keep-other.new.pass) c.requires.part
    (word_here c.args.engine.now c.args.pass.now c.args.slot 0 c.word_at-here.result c.requires.of c.word_at-here.ensures)
    c.if-header-ne-SPLIT.true c.keep-other.ensures.is c.keep-other.ensures.notes

pub keep-low-requires-clause-last : goal.keep-low-requires-clause-last
keep-low-requires-clause-last c =
    word_last c.args.slot 5 c.word_at-at.result c.load_word-separator.result Unlike (view c.args.pass.now)
    (view c.load_word-separator.new.pass) c.load_word-separator.ensures.loads

pub returns-then-separator-span-clause-parts : goal.returns-then-separator-span-clause-parts
returns-then-separator-span-clause-parts c =
    part_out c.args.slot c.args.header c.word_at-at.result c.load_word-separator.result c.args.span c.keep-low.result
    (view c.args.pass.now) (view c.load_word-separator.new.pass) (view c.keep-low.new.pass) c.load_word-separator.ensures.loads
    (word_here c.args.engine.now c.args.pass.now c.args.slot 5 c.word_at-at.result c.requires.of c.word_at-at.ensures)
    (inl c.if-separator-span.true) c.keep-low.ensures.is c.keep-low.ensures.notes

pub keep-high-requires-clause-last : goal.keep-high-requires-clause-last
keep-high-requires-clause-last c =
    word_last c.args.slot 5 c.word_at-at.result c.load_word-separator.result Unlike (view c.args.pass.now)
    (view c.load_word-separator.new.pass) c.load_word-separator.ensures.loads

pub returns-then-span-separator-clause-parts : goal.returns-then-span-separator-clause-parts
returns-then-span-separator-clause-parts c =
    part_out c.args.slot c.args.header c.word_at-at.result c.load_word-separator.result c.args.span c.keep-high.result
    (view c.args.pass.now) (view c.load_word-separator.new.pass) (view c.keep-high.new.pass) c.load_word-separator.ensures.loads
    (word_here c.args.engine.now c.args.pass.now c.args.slot 5 c.word_at-at.result c.requires.of c.word_at-at.ensures)
    (inr c.if-span-separator.true) c.keep-high.ensures.is c.keep-high.ensures.notes

pub returns-clause-parts : goal.returns-clause-parts
returns-clause-parts c =
    let low = c.if-separator-span.false in
    let high = c.if-span-separator.false in
    parts_so c.args.slot c.args.header c.word_at-at.result c.load_word-separator.result c.args.span (view c.args.pass.now)
    (view c.load_word-separator.new.pass) c.load_word-separator.ensures.loads c.if-header-ne-SPLIT.false (omega (arith, low))
    (omega (arith, high))
