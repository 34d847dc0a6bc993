use Rattle.std.proofs.Common.{◌≡◌, ℕ, ◌+◌, ◌*◌, ◌%◌, ◌^◌, ◌<◌, ◌≤◌, refl, sym, ap, ◌∙◌, subst, arith, Option, Some}
use Rattle.std.specs.List.{slice_get}
use Rattle.engine_pages.specs.declared.layout.Layout.{Layout}
use Rattle.engine_pages.specs.Layout.{page_at}
use Rattle.engine_pages.specs.Passes.{view}
use Rattle.serial_model.specs.declared.key.Key.{Key}
use Rattle.array_pages.proofs.LookLaws.{glanced_self, glanced_then}
use Rattle.tree_walks.specs.Ways.{IsLeafAt}
use Rattle.tree_walks.proofs.LoadLaws.{glanced_active, glanced_known, glanced_layout, word_glanced, word_steps}
use Rattle.tree_scans.specs.Smallest.{IsLeast}
use Rattle.tree_scans.specs.declared.smallest.Place.{Place}
use Rattle.tree_scans.proofs.SmallestLaws.{least_all, least_more, least_none}
use Rattle.tree_scans.proofs.smallest.smallest_from.Goals as goal

pub loop-index-init : goal.loop-index-init
loop-index-init c = record {
  of = c.requires.of;
  glances = glanced_self (view c.args.pass.now);
  most = omega arith;
  least = λ l. least_none l.keys c.args.from;
}

pub overflow_mul-place : goal.overflow_mul-place
overflow_mul-place c =
    let count = c.requires.leaf.count in
    let few = c.requires.leaf.few in
    let less = c.loop-index-test.true in omega (arith, count, few, less)

pub overflow_add-place : goal.overflow_add-place
overflow_add-place c =
    let count = c.requires.leaf.count in
    let few = c.requires.leaf.few in
    let less = c.loop-index-test.true in omega (arith, count, few, less)

pub word_at-at-requires-clause-slot : goal.word_at-at-requires-clause-slot
word_at-at-requires-clause-slot c =
    subst (λ (l : Layout). c.args.leaf.slot < l.slots) c.requires.of.layout (c.requires.leaf.on).there

pub word_at-at-requires-clause-index : goal.word_at-at-requires-clause-index
word_at-at-requires-clause-index c =
    let count = c.requires.leaf.count in
    let few = c.requires.leaf.few in
    let less = c.loop-index-test.true in omega (arith, count, few, less)

pub load_word-found-requires-clause-of : goal.load_word-found-requires-clause-of
load_word-found-requires-clause-of c = c.loop-index.invariant.of

pub load_word-found-requires-clause-pass : goal.load_word-found-requires-clause-pass
load_word-found-requires-clause-pass c =
    glanced_active (view c.args.pass.now) (view c.loop-index.pass) c.loop-index.invariant.glances c.requires.active

pub load_word-found-requires-clause-slot : goal.load_word-found-requires-clause-slot
load_word-found-requires-clause-slot c =
    subst (λ (l : Layout). c.args.leaf.slot < l.slots)
    (sym (glanced_layout (view c.args.pass.now) (view c.loop-index.pass) c.loop-index.invariant.glances))
    (c.requires.leaf.on).there

pub load_word-found-requires-clause-word : goal.load_word-found-requires-clause-word
load_word-found-requires-clause-word c =
    c.word_at-at.ensures
    ∙ ap (λ (l : Layout). page_at l.slots c.args.leaf.slot (16 + 3 * c.loop-index.index))
    (sym c.loop-index.invariant.of.layout)

pub loop-index-preserved : goal.loop-index-preserved
loop-index-preserved c =
    let v = view c.args.pass.now in
    let u = view c.loop-index.pass in
    let w = view c.load_word-found.new.pass in
    let most = c.loop-index.invariant.most in
    let one = word_steps c.args.leaf.slot (16 + 3 * c.loop-index.index) c.word_at-at.result u c.load_word-found.result w
    c.load_word-found.ensures.loads in record {
      of = c.load_word-found.ensures.of;
      glances = glanced_then v u w c.loop-index.invariant.glances
          (word_glanced c.args.leaf.slot (16 + 3 * c.loop-index.index) c.word_at-at.result u c.load_word-found.result w
          c.load_word-found.ensures.loads);
      most = omega (arith, most, one);
      least = λ l.
          subst (λ (o : Option Place). IsLeast l.keys c.args.from (c.loop-index.index + 1) o)
          (sym c.smaller_of-best.ensures)
          (least_more l.keys c.args.from c.loop-index.index c.load_word-found.result
          (let count = l.count in let less = c.loop-index-test.true in omega (arith, count, less))
          (λ q at.
          c.load_word-found.ensures.loads.key (record { slot = c.args.leaf.slot; keys = l.keys }) c.loop-index.index q
          (glanced_known v u (record { slot = c.args.leaf.slot; keys = l.keys }) c.loop-index.invariant.glances
          l.knows) refl at refl)
          c.loop-index.best (c.loop-index.invariant.least l));
    }

pub returns-clause-glances : goal.returns-clause-glances
returns-clause-glances c = c.loop-index.invariant.glances

pub returns-clause-most : goal.returns-clause-most
returns-clause-most c =
    let most = c.loop-index.invariant.most in
    let count = c.requires.leaf.count in
    let few = c.requires.leaf.few in
    let within = c.loop-index.auto.index-end in omega (arith, most, count, few, within)

pub returns-clause-smallest : goal.returns-clause-smallest
returns-clause-smallest c =
    let last = c.loop-index-test.false in
    λ l.
    least_all l.keys c.args.from c.loop-index.index c.loop-index.best
    (let count = l.count in omega (arith, last, count)) (c.loop-index.invariant.least l)

pub returns-clause-of : goal.returns-clause-of
returns-clause-of c = c.loop-index.invariant.of
