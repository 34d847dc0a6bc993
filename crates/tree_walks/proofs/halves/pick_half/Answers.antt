use Rattle.std.proofs.Common.{◌-◌, ◌<◌, sym, ap, ◌∙◌, subst, arith}
use Rattle.engine_pages.specs.declared.layout.Layout.{Layout}
use Rattle.engine_pages.specs.Layout.{page_at}
use Rattle.engine_pages.specs.Passes.{view}
use Rattle.array_pages.proofs.LookLaws.{glanced_then}
use Rattle.tree_walks.proofs.HalfLaws.{lower_half, lower_word, parted_word, split_glanced, upper_half, upper_word}
use Rattle.tree_walks.proofs.LoadLaws.{glanced_active, glanced_layout, word_glanced, word_steps}
use Rattle.tree_walks.proofs.halves.pick_half.Goals as goal

pub word_at-parted-requires-clause-slot : goal.word_at-parted-requires-clause-slot
word_at-parted-requires-clause-slot c =
    subst (λ (l : Layout). c.args.page.slot < l.slots) c.requires.of.layout c.requires.on.there

pub load_word-separator-requires-clause-slot : goal.load_word-separator-requires-clause-slot
load_word-separator-requires-clause-slot c = c.requires.on.there

pub load_word-separator-requires-clause-word : goal.load_word-separator-requires-clause-word
load_word-separator-requires-clause-word c =
    c.word_at-parted.ensures ∙ ap (λ (l : Layout). page_at l.slots c.args.page.slot 5) (sym c.requires.of.layout)

pub word_at-minor-requires-clause-slot : goal.word_at-minor-requires-clause-slot
word_at-minor-requires-clause-slot c =
    subst (λ (l : Layout). c.args.page.slot < l.slots) c.requires.of.layout c.requires.on.there

pub load_word-lower-requires-clause-pass : goal.load_word-lower-requires-clause-pass
load_word-lower-requires-clause-pass c =
    let v = view c.args.pass.now in
    let u = view c.load_word-separator.new.pass in
    glanced_active v u
    (word_glanced c.args.page.slot 5 c.word_at-parted.result v c.load_word-separator.result u
    c.load_word-separator.ensures.loads) c.requires.active

pub load_word-lower-requires-clause-slot : goal.load_word-lower-requires-clause-slot
load_word-lower-requires-clause-slot c =
    let v = view c.args.pass.now in
    let u = view c.load_word-separator.new.pass in
    subst (λ (l : Layout). c.args.page.slot < l.slots)
    (sym (glanced_layout v u (word_glanced c.args.page.slot 5 c.word_at-parted.result v c.load_word-separator.result u
    c.load_word-separator.ensures.loads))) c.requires.on.there

pub load_word-lower-requires-clause-word : goal.load_word-lower-requires-clause-word
load_word-lower-requires-clause-word c =
    c.word_at-minor.ensures
    ∙ ap (λ (l : Layout). page_at l.slots c.args.page.slot 3) (sym c.load_word-separator.ensures.of.layout)

pub word_at-major-requires-clause-slot : goal.word_at-major-requires-clause-slot
word_at-major-requires-clause-slot c =
    subst (λ (l : Layout). c.args.page.slot < l.slots) c.requires.of.layout c.requires.on.there

pub load_word-upper-requires-clause-pass : goal.load_word-upper-requires-clause-pass
load_word-upper-requires-clause-pass c =
    let v = view c.args.pass.now in
    let u = view c.load_word-separator.new.pass in
    glanced_active v u
    (word_glanced c.args.page.slot 5 c.word_at-parted.result v c.load_word-separator.result u
    c.load_word-separator.ensures.loads) c.requires.active

pub load_word-upper-requires-clause-slot : goal.load_word-upper-requires-clause-slot
load_word-upper-requires-clause-slot c =
    let v = view c.args.pass.now in
    let u = view c.load_word-separator.new.pass in
    subst (λ (l : Layout). c.args.page.slot < l.slots)
    (sym (glanced_layout v u (word_glanced c.args.page.slot 5 c.word_at-parted.result v c.load_word-separator.result u
    c.load_word-separator.ensures.loads))) c.requires.on.there

pub load_word-upper-requires-clause-word : goal.load_word-upper-requires-clause-word
load_word-upper-requires-clause-word c =
    c.word_at-major.ensures
    ∙ ap (λ (l : Layout). page_at l.slots c.args.page.slot 4) (sym c.load_word-separator.ensures.of.layout)

pub overflow_cast-slot : goal.overflow_cast-slot
overflow_cast-slot c =
    let v = view c.args.pass.now in
    let u = view c.load_word-separator.new.pass in
    let w = view c.load_word-lower.new.pass in
    let is = lower_word c.args.page.slot c.word_at-parted.result c.word_at-minor.result v c.load_word-separator.result u
    c.load_word-lower.result w c.requires.split c.load_word-separator.ensures.loads c.load_word-lower.ensures.loads in
    let few = c.args.engine.now.few in
    let room = c.args.engine.now.room in
    let less = subst (λ (l : Layout). (c.requires.split.moved).minor < l.slots) c.requires.of.layout c.requires.split.minor in
    omega (arith, is, few, room, less)

pub overflow_cast-slot-2 : goal.overflow_cast-slot-2
overflow_cast-slot-2 c =
    let v = view c.args.pass.now in
    let u = view c.load_word-separator.new.pass in
    let w = view c.load_word-upper.new.pass in
    let is = upper_word c.args.page.slot c.word_at-parted.result c.word_at-major.result v c.load_word-separator.result u
    c.load_word-upper.result w c.requires.split c.load_word-separator.ensures.loads c.load_word-upper.ensures.loads in
    let few = c.args.engine.now.few in
    let room = c.args.engine.now.room in
    let less = subst (λ (l : Layout). (c.requires.split.moved).major < l.slots) c.requires.of.layout c.requires.split.major in
    omega (arith, is, few, room, less)

pub overflow_sub-slot : goal.overflow_sub-slot
overflow_sub-slot c =
    let v = view c.args.pass.now in
    let u = view c.load_word-separator.new.pass in
    let w = view c.load_word-lower.new.pass in
    let is = lower_word c.args.page.slot c.word_at-parted.result c.word_at-minor.result v c.load_word-separator.result u
    c.load_word-lower.result w c.requires.split c.load_word-separator.ensures.loads c.load_word-lower.ensures.loads in
    omega (arith, is)

pub overflow_sub-slot-2 : goal.overflow_sub-slot-2
overflow_sub-slot-2 c =
    let v = view c.args.pass.now in
    let u = view c.load_word-separator.new.pass in
    let w = view c.load_word-upper.new.pass in
    let is = upper_word c.args.page.slot c.word_at-parted.result c.word_at-major.result v c.load_word-separator.result u
    c.load_word-upper.result w c.requires.split c.load_word-separator.ensures.loads c.load_word-upper.ensures.loads in
    omega (arith, is)

pub returns-then-wanted-separator-clause-glances : goal.returns-then-wanted-separator-clause-glances
returns-then-wanted-separator-clause-glances c =
    let v = view c.args.pass.now in
    let u = view c.load_word-separator.new.pass in
    let w = view c.load_word-lower.new.pass in
    glanced_then v u w
    (word_glanced c.args.page.slot 5 c.word_at-parted.result v c.load_word-separator.result u
    c.load_word-separator.ensures.loads)
    (word_glanced c.args.page.slot 3 c.word_at-minor.result u c.load_word-lower.result w c.load_word-lower.ensures.loads)

pub returns-then-wanted-separator-clause-most : goal.returns-then-wanted-separator-clause-most
returns-then-wanted-separator-clause-most c =
    let v = view c.args.pass.now in
    let u = view c.load_word-separator.new.pass in
    let w = view c.load_word-lower.new.pass in
    let one = word_steps c.args.page.slot 5 c.word_at-parted.result v c.load_word-separator.result u
    c.load_word-separator.ensures.loads in
    let two = word_steps c.args.page.slot 3 c.word_at-minor.result u c.load_word-lower.result w c.load_word-lower.ensures.loads in
    omega (arith, one, two)

pub returns-then-wanted-separator-clause-half : goal.returns-then-wanted-separator-clause-half
returns-then-wanted-separator-clause-half c =
    let v = view c.args.pass.now in
    let u = view c.load_word-separator.new.pass in
    let w = view c.load_word-lower.new.pass in
    let a = word_glanced c.args.page.slot 5 c.word_at-parted.result v c.load_word-separator.result u
    c.load_word-separator.ensures.loads in
    let b = word_glanced c.args.page.slot 3 c.word_at-minor.result u c.load_word-lower.result w c.load_word-lower.ensures.loads in
    lower_half c.args.key w c.args.page.slot c.args.page.span
    (split_glanced v w c.args.page.slot (glanced_then v u w a b) c.requires.split) c.load_word-separator.result
    c.load_word-lower.result c.requires.on.over
    (parted_word c.args.page.slot c.word_at-parted.result v c.load_word-separator.result u c.requires.split
    c.load_word-separator.ensures.loads)
    (lower_word c.args.page.slot c.word_at-parted.result c.word_at-minor.result v c.load_word-separator.result u
    c.load_word-lower.result w c.requires.split c.load_word-separator.ensures.loads c.load_word-lower.ensures.loads)
    c.if-wanted-separator.true

pub returns-clause-glances : goal.returns-clause-glances
returns-clause-glances c =
    let v = view c.args.pass.now in
    let u = view c.load_word-separator.new.pass in
    let w = view c.load_word-upper.new.pass in
    glanced_then v u w
    (word_glanced c.args.page.slot 5 c.word_at-parted.result v c.load_word-separator.result u
    c.load_word-separator.ensures.loads)
    (word_glanced c.args.page.slot 4 c.word_at-major.result u c.load_word-upper.result w c.load_word-upper.ensures.loads)

pub returns-clause-most : goal.returns-clause-most
returns-clause-most c =
    let v = view c.args.pass.now in
    let u = view c.load_word-separator.new.pass in
    let w = view c.load_word-upper.new.pass in
    let one = word_steps c.args.page.slot 5 c.word_at-parted.result v c.load_word-separator.result u
    c.load_word-separator.ensures.loads in
    let two = word_steps c.args.page.slot 4 c.word_at-major.result u c.load_word-upper.result w c.load_word-upper.ensures.loads in
    omega (arith, one, two)

pub returns-clause-half : goal.returns-clause-half
returns-clause-half c =
    let v = view c.args.pass.now in
    let u = view c.load_word-separator.new.pass in
    let w = view c.load_word-upper.new.pass in
    let a = word_glanced c.args.page.slot 5 c.word_at-parted.result v c.load_word-separator.result u
    c.load_word-separator.ensures.loads in
    let b = word_glanced c.args.page.slot 4 c.word_at-major.result u c.load_word-upper.result w c.load_word-upper.ensures.loads in
    upper_half c.args.key w c.args.page.slot c.args.page.span
    (split_glanced v w c.args.page.slot (glanced_then v u w a b) c.requires.split) c.load_word-separator.result
    c.load_word-upper.result c.requires.on.over
    (parted_word c.args.page.slot c.word_at-parted.result v c.load_word-separator.result u c.requires.split
    c.load_word-separator.ensures.loads)
    (upper_word c.args.page.slot c.word_at-parted.result c.word_at-major.result v c.load_word-separator.result u
    c.load_word-upper.result w c.requires.split c.load_word-separator.ensures.loads c.load_word-upper.ensures.loads)
    c.if-wanted-separator.false
