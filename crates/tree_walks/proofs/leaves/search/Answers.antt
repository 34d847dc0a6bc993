use Rattle.std.proofs.Common.{◌+◌, ◌*◌, ◌<◌, sym, ap, ◌∙◌, subst, arith}
use Rattle.engine_pages.specs.declared.layout.Layout.{Layout}
use Rattle.engine_pages.specs.Layout.{page_at}
use Rattle.engine_pages.specs.Passes.{view}
use Rattle.array_pages.proofs.LookLaws.{glanced_self, glanced_then}
use Rattle.tree_walks.proofs.LoadLaws.{glanced_active, glanced_layout, word_glanced, word_steps}
use Rattle.tree_walks.proofs.SearchLaws.{searched_all, searched_here, searched_on}
use Rattle.tree_walks.proofs.leaves.search.Goals as goal

pub loop-index-init : goal.loop-index-init
loop-index-init c = record {
  of = c.requires.of;
  glances = glanced_self (view c.args.pass.now);
  most = omega arith;
  none = λ l j q less. absurd (omega (arith, less));
}

pub overflow_mul-place : goal.overflow_mul-place
overflow_mul-place c =
    let count = c.requires.leaf.count in
    let few = c.requires.leaf.few in
    let less = c.loop-index-test.true in omega (arith, count, few, less)

pub overflow_add-place : goal.overflow_add-place
overflow_add-place c =
    let count = c.requires.leaf.count in
    let few = c.requires.leaf.few in
    let less = c.loop-index-test.true in omega (arith, count, few, less)

pub word_at-at-requires-clause-slot : goal.word_at-at-requires-clause-slot
word_at-at-requires-clause-slot c =
    subst (λ (l : Layout). c.args.leaf.slot < l.slots) c.requires.of.layout (c.requires.leaf.on).there

pub word_at-at-requires-clause-index : goal.word_at-at-requires-clause-index
word_at-at-requires-clause-index c =
    let count = c.requires.leaf.count in
    let few = c.requires.leaf.few in
    let less = c.loop-index-test.true in omega (arith, count, few, less)

pub load_word-found-requires-clause-of : goal.load_word-found-requires-clause-of
load_word-found-requires-clause-of c = c.loop-index.invariant.of

pub load_word-found-requires-clause-pass : goal.load_word-found-requires-clause-pass
load_word-found-requires-clause-pass c =
    glanced_active (view c.args.pass.now) (view c.loop-index.pass) c.loop-index.invariant.glances c.requires.active

pub load_word-found-requires-clause-slot : goal.load_word-found-requires-clause-slot
load_word-found-requires-clause-slot c =
    subst (λ (l : Layout). c.args.leaf.slot < l.slots)
    (sym (glanced_layout (view c.args.pass.now) (view c.loop-index.pass) c.loop-index.invariant.glances))
    (c.requires.leaf.on).there

pub load_word-found-requires-clause-word : goal.load_word-found-requires-clause-word
load_word-found-requires-clause-word c =
    c.word_at-at.ensures
    ∙ ap (λ (l : Layout). page_at l.slots c.args.leaf.slot (16 + 3 * c.loop-index.index))
    (sym c.loop-index.invariant.of.layout)

pub loop-index-preserved : goal.loop-index-preserved
loop-index-preserved c =
    let v = view c.args.pass.now in
    let u = view c.loop-index.pass in
    let w = view c.load_word-found.new.pass in
    let most = c.loop-index.invariant.most in
    let one = word_steps c.args.leaf.slot (16 + 3 * c.loop-index.index) c.word_at-at.result u c.load_word-found.result w
    c.load_word-found.ensures.loads in record {
      of = c.load_word-found.ensures.of;
      glances = glanced_then v u w c.loop-index.invariant.glances
          (word_glanced c.args.leaf.slot (16 + 3 * c.loop-index.index) c.word_at-at.result u c.load_word-found.result w
          c.load_word-found.ensures.loads);
      most = omega (arith, most, one);
      none = searched_on c.args.key c.args.leaf c.loop-index.index c.word_at-at.result v u c.load_word-found.result w
          c.loop-index.invariant.glances c.load_word-found.ensures.loads c.loop-index-test.true c.if-found-wanted.false
          c.loop-index.invariant.none;
    }

pub returns-then-found-wanted-clause-glances : goal.returns-then-found-wanted-clause-glances
returns-then-found-wanted-clause-glances c =
    glanced_then (view c.args.pass.now) (view c.loop-index.pass) (view c.load_word-found.new.pass)
    c.loop-index.invariant.glances
    (word_glanced c.args.leaf.slot (16 + 3 * c.loop-index.index) c.word_at-at.result (view c.loop-index.pass)
    c.load_word-found.result (view c.load_word-found.new.pass) c.load_word-found.ensures.loads)

pub returns-then-found-wanted-clause-most : goal.returns-then-found-wanted-clause-most
returns-then-found-wanted-clause-most c =
    let most = c.loop-index.invariant.most in
    let count = c.requires.leaf.count in
    let few = c.requires.leaf.few in
    let less = c.loop-index-test.true in
    let one = word_steps c.args.leaf.slot (16 + 3 * c.loop-index.index) c.word_at-at.result (view c.loop-index.pass)
    c.load_word-found.result (view c.load_word-found.new.pass) c.load_word-found.ensures.loads in
    omega (arith, most, one, count, few, less)

pub returns-then-found-wanted-clause-searched : goal.returns-then-found-wanted-clause-searched
returns-then-found-wanted-clause-searched c = λ l.
    searched_here c.args.key c.args.leaf c.loop-index.index c.word_at-at.result (view c.args.pass.now)
    (view c.loop-index.pass) c.load_word-found.result (view c.load_word-found.new.pass) c.loop-index.invariant.glances
    c.load_word-found.ensures.loads c.loop-index-test.true l c.if-found-wanted.true

pub returns-clause-glances : goal.returns-clause-glances
returns-clause-glances c = c.loop-index.invariant.glances

pub returns-clause-most : goal.returns-clause-most
returns-clause-most c =
    let most = c.loop-index.invariant.most in
    let count = c.requires.leaf.count in
    let few = c.requires.leaf.few in
    let within = c.loop-index.auto.index-end in omega (arith, most, count, few, within)

pub returns-clause-searched : goal.returns-clause-searched
returns-clause-searched c =
    let last = c.loop-index-test.false in
    let within = c.loop-index.auto.index-end in
    searched_all c.args.key c.args.leaf (view c.args.pass.now)
    (λ l j q less. c.loop-index.invariant.none l j q (omega (arith, last, within, less)))

pub returns-clause-of : goal.returns-clause-of
returns-clause-of c = c.loop-index.invariant.of
