use Rattle.std.proofs.Common.{◌≡◌, ℕ, suc, ◌+◌, ◌-◌, ◌<◌, sym, ap, ◌∙◌, subst, arith}
use Rattle.engine_pages.specs.declared.layout.Layout.{Layout}
use Rattle.engine_pages.specs.Layout.{page_at}
use Rattle.engine_pages.specs.Passes.{view}
use Rattle.array_pages.proofs.LookLaws.{glanced_self, glanced_then}
use Rattle.tree_walks.specs.declared.children.Child.{Child}
use Rattle.tree_walks.specs.Steps.{IsChildFor, IsInnerAt}
use Rattle.tree_walks.proofs.ChildLaws.{IsBegun, begun_first, begun_next, child_before, child_last}
use Rattle.tree_walks.proofs.LoadLaws.{glanced_active, glanced_inners, glanced_layout, word_glanced}
use Rattle.tree_walks.proofs.LoadLaws.{word_steps}
use Rattle.tree_walks.proofs.children.pick_child.Goals as goal

pub loop-index-init : goal.loop-index-init
loop-index-init c =
    let x = c.requires.inner in
    let many = x.count in record {
      of = c.requires.of;
      glances = glanced_self (view c.args.pass.now);
      most = omega arith;
      some = omega arith;
      within = omega (arith, many);
      begun = λ z. begun_first c.args.key c.args.page.span z.inner c.requires.on.over;
    }

pub word_at-at-requires-clause-slot : goal.word_at-at-requires-clause-slot
word_at-at-requires-clause-slot c =
    subst (λ (l : Layout). c.args.page.slot < l.slots) c.requires.of.layout c.requires.on.there

pub word_at-at-requires-clause-index : goal.word_at-at-requires-clause-index
word_at-at-requires-clause-index c =
    let x = c.requires.inner in
    let many = x.count in
    let few = x.few in
    let some = c.loop-index.invariant.some in
    let less = c.loop-index-test.true in omega (arith, many, few, some, less)

pub load_word-separator-requires-clause-pass : goal.load_word-separator-requires-clause-pass
load_word-separator-requires-clause-pass c =
    glanced_active (view c.args.pass.now) (view c.loop-index.pass) c.loop-index.invariant.glances c.requires.active

pub load_word-separator-requires-clause-slot : goal.load_word-separator-requires-clause-slot
load_word-separator-requires-clause-slot c =
    subst (λ (l : Layout). c.args.page.slot < l.slots)
    (sym (glanced_layout (view c.args.pass.now) (view c.loop-index.pass) c.loop-index.invariant.glances)) c.requires.on.there

pub load_word-separator-requires-clause-word : goal.load_word-separator-requires-clause-word
load_word-separator-requires-clause-word c =
    c.word_at-at.ensures
    ∙ ap (λ (l : Layout). page_at l.slots c.args.page.slot (34 + (c.loop-index.index - 1)))
    (sym c.loop-index.invariant.of.layout)

pub overflow_sub-high : goal.overflow_sub-high
overflow_sub-high c = let less = c.if-wanted-separator.true in omega (arith, less)

pub returns-then-wanted-separator-clause-glances : goal.returns-then-wanted-separator-clause-glances
returns-then-wanted-separator-clause-glances c =
    glanced_then (view c.args.pass.now) (view c.loop-index.pass) (view c.load_word-separator.new.pass)
    c.loop-index.invariant.glances
    (word_glanced c.args.page.slot _ c.word_at-at.result (view c.loop-index.pass) c.load_word-separator.result
    (view c.load_word-separator.new.pass) c.load_word-separator.ensures.loads)

pub returns-then-wanted-separator-clause-most : goal.returns-then-wanted-separator-clause-most
returns-then-wanted-separator-clause-most c =
    let most = c.loop-index.invariant.most in
    let one = word_steps c.args.page.slot _ c.word_at-at.result (view c.loop-index.pass) c.load_word-separator.result
    (view c.load_word-separator.new.pass) c.load_word-separator.ensures.loads in
    let x = c.requires.inner in
    let many = x.count in
    let few = x.few in
    let less = c.loop-index-test.true in omega (arith, most, one, many, few, less)

pub returns-then-wanted-separator-clause-child : goal.returns-then-wanted-separator-clause-child
returns-then-wanted-separator-clause-child c =
    let v = view c.args.pass.now in
    let u = view c.loop-index.pass in
    let w = view c.load_word-separator.new.pass in
    let x : IsInnerAt v c.args.page.slot c.args.count = c.requires.inner in
    let g = glanced_then v u w c.loop-index.invariant.glances
    (word_glanced c.args.page.slot _ c.word_at-at.result u c.load_word-separator.result w c.load_word-separator.ensures.loads) in
    let many = x.count in
    let some = c.loop-index.invariant.some in
    let less = c.loop-index-test.true in
    let index : ℕ = c.loop-index.index - 1 in
    subst (λ (r : Child). IsChildFor c.args.key w c.args.page.slot c.args.page.span r) (sym c.child_of.ensures)
    (child_before c.args.key w c.args.page.slot c.args.page.span x.inner index c.loop-index.low c.load_word-separator.result
    (glanced_inners v w x.inner g x.knows) x.same x.few c.requires.on.over (c.loop-index.invariant.begun x)
    (omega (arith, many, some, less))
    (c.load_word-separator.ensures.loads.separator x.inner index (glanced_inners v u x.inner c.loop-index.invariant.glances x.knows)
    x.same (omega (arith, many, some, less)) (omega (arith, some)))
    c.if-wanted-separator.true)

pub loop-index-preserved : goal.loop-index-preserved
loop-index-preserved c =
    let v = view c.args.pass.now in
    let u = view c.loop-index.pass in
    let w = view c.load_word-separator.new.pass in
    let most = c.loop-index.invariant.most in
    let one = word_steps c.args.page.slot _ c.word_at-at.result u c.load_word-separator.result w
    c.load_word-separator.ensures.loads in
    let some = c.loop-index.invariant.some in
    let less = c.loop-index-test.true in record {
      of = c.load_word-separator.ensures.of;
      glances = glanced_then v u w c.loop-index.invariant.glances
          (word_glanced c.args.page.slot _ c.word_at-at.result u c.load_word-separator.result w
          c.load_word-separator.ensures.loads);
      most = omega (arith, most, one);
      some = omega arith;
      within = omega (arith, less);
      begun = λ x.
          let many = x.count in
          subst (λ i. IsBegun c.args.key c.args.page.span x.inner i c.load_word-separator.result)
          (let e : suc (c.loop-index.index - 1) ≡ (c.loop-index.index + 1) - 1 = omega (arith, some) in e)
          (begun_next c.args.key c.args.page.span x.inner (c.loop-index.index - 1) c.loop-index.low
          c.load_word-separator.result (c.loop-index.invariant.begun x) (omega (arith, many, some, less))
          (c.load_word-separator.ensures.loads.separator x.inner (c.loop-index.index - 1)
          (glanced_inners v u x.inner c.loop-index.invariant.glances x.knows) x.same (omega (arith, many, some, less))
          (omega (arith, some)))
          c.if-wanted-separator.false);
    }

pub returns-clause-glances : goal.returns-clause-glances
returns-clause-glances c = c.loop-index.invariant.glances

pub returns-clause-most : goal.returns-clause-most
returns-clause-most c =
    let most = c.loop-index.invariant.most in
    let x = c.requires.inner in
    let many = x.count in
    let few = x.few in
    let within = c.loop-index.invariant.within in omega (arith, most, many, few, within)

pub returns-clause-child : goal.returns-clause-child
returns-clause-child c =
    let v = view c.args.pass.now in
    let u = view c.loop-index.pass in
    let x : IsInnerAt v c.args.page.slot c.args.count = c.requires.inner in
    let many = x.count in
    let some = c.loop-index.invariant.some in
    let within = c.loop-index.invariant.within in
    let last = c.loop-index-test.false in
    let index : c.loop-index.index - 1 ≡ c.args.count - 1 = omega (arith, many, some, within, last) in
    subst (λ (r : Child). IsChildFor c.args.key u c.args.page.slot c.args.page.span r) (sym c.child_of-2.ensures)
    (child_last c.args.key u c.args.page.slot c.args.page.span x.inner (c.args.count - 1) c.loop-index.low
    (glanced_inners v u x.inner c.loop-index.invariant.glances x.knows) x.same x.few c.requires.on.over
    (subst (λ i. IsBegun c.args.key c.args.page.span x.inner i c.loop-index.low) index (c.loop-index.invariant.begun x))
    (omega (arith, many)))

pub load_word-separator-requires-clause-of : goal.load_word-separator-requires-clause-of
load_word-separator-requires-clause-of c = c.loop-index.invariant.of

pub returns-clause-of : goal.returns-clause-of
returns-clause-of c = c.loop-index.invariant.of
