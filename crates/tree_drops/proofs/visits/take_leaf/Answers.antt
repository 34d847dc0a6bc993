use Rattle.std.proofs.Common.{◌%◌, ◌^◌, ap, subst, arith}
use Rattle.std.specs.List.{Contains}
use Rattle.engine_pages.specs.declared.view.View.{View}
use Rattle.engine_pages.specs.declared.view.KeptWhy.TheVariants.{Unlike}
use Rattle.engine_pages.specs.Passes.{view}
use Rattle.tree_drops.proofs.Dues.{header_foreign, seen_on}
use Rattle.tree_drops.proofs.Places.{word_here}
use Rattle.tree_drops.proofs.Takes.{no_leaf, taken_dropped, taken_locked, taken_unlike, word_last, work_glanced}
use Rattle.tree_drops.proofs.visits.take_leaf.Goals as goal

pub returns-then-header-ge-SHUT-clause-takes : goal.returns-then-header-ge-SHUT-clause-takes
returns-then-header-ge-SHUT-clause-takes c =
    let high = c.if-header-ge-SHUT.true in
    taken_locked c.args.target.place c.args.target.span c.args.target.at c.args.held.slot c.args.target.page c.args.held.word
    c.args.target.epoch c.args.header c.word_at-at.result c.keep-locked.result (view c.args.pass.now) (view c.keep-locked.new.pass)
    c.requires.work (word_here c.args.engine.now c.args.pass.now c.args.held.slot 0 c.word_at-at.result c.requires.of c.word_at-at.ensures)
    c.keep-locked.ensures.is c.keep-locked.ensures.notes (omega (arith, high))
    (let few = c.requires.bits in omega (arith, few))

pub keep-other-requires-clause-last : goal.keep-other-requires-clause-last
keep-other-requires-clause-last c =
    word_last c.args.held.slot 0 c.word_at-at.result c.load_word-again.result Unlike (view c.count_in.new.pass)
    (view c.load_word-again.new.pass) c.load_word-again.ensures.loads

pub returns-in_default-clause-takes : goal.returns-in_default-clause-takes
returns-in_default-clause-takes c =
    taken_unlike c.args.target.place c.args.target.span c.args.target.at c.args.held.slot c.args.target.page c.args.held.word
    c.args.target.epoch c.word_at-at.result c.load_word-again.result c.keep-other.result (view c.args.pass.now)
    (view c.count_in.new.pass) (view c.load_word-again.new.pass) (view c.keep-other.new.pass) c.requires.work
    (word_here c.args.engine.now c.args.pass.now c.args.held.slot 0 c.word_at-at.result c.requires.of c.word_at-at.ensures)
    c.count_in.ensures.glances c.load_word-again.ensures.loads c.keep-other.ensures.is c.keep-other.ensures.notes
    (no_leaf (view c.args.pass.now).pages c.args.target.span c.args.target.page c.count_in.result c.in_default.not-Some
    c.count_in.ensures.counts)

pub drop_leaf-requires-clause-drop : goal.drop_leaf-requires-clause-drop
drop_leaf-requires-clause-drop c =
    (work_glanced c.args.target.place c.args.target.span c.args.target.at c.args.held.slot c.args.target.page c.args.held.word
    c.args.target.epoch (c.args.header % 2 ^ 8) c.in-Some.records (view c.args.pass.now) (view c.count_in.new.pass) c.requires.work
    c.count_in.ensures.glances).drop

pub returns-clause-takes : goal.returns-clause-takes
returns-clause-takes c =
    taken_dropped c.args.target.place c.args.target.span c.args.target.at c.args.held.slot c.args.target.page c.args.held.word
    c.args.target.epoch (c.args.header % 2 ^ 8) c.in-Some.records (view c.args.pass.now) (view c.count_in.new.pass) c.requires.work
    c.count_in.ensures.glances c.drop_leaf.result (view c.drop_leaf.new.pass) c.drop_leaf.ensures.reads
    c.drop_leaf.ensures.drops c.drop_leaf.ensures.keeps c.drop_leaf.ensures.tells

pub keep-locked-requires-clause-due : goal.keep-locked-requires-clause-due
keep-locked-requires-clause-due c =
    let low = c.requires.bits in
    header_foreign (view c.args.pass.now) c.args.held.slot c.word_at-at.result c.args.header c.requires.work.bare (omega (arith, low))
    (word_here c.args.engine.now c.args.pass.now c.args.held.slot 0 c.word_at-at.result c.requires.of c.word_at-at.ensures)

pub drop_leaf-requires-clause-whole : goal.drop_leaf-requires-clause-whole
drop_leaf-requires-clause-whole c =
    λ x has same. c.requires.whole x (subst (λ l. Contains l x) (ap (λ (z : View). z.moved) c.count_in.ensures.glances.is) has) same

pub drop_leaf-requires-clause-met : goal.drop_leaf-requires-clause-met
drop_leaf-requires-clause-met c =
    let v = view c.args.pass.now in
    let u = view c.count_in.new.pass in
    seen_on c.args.held.slot 0 c.args.header v u (ap (λ (z : View). z.layout) c.count_in.ensures.glances.is)
    (ap (λ (z : View). z.reads) c.count_in.ensures.glances.is) c.requires.met
