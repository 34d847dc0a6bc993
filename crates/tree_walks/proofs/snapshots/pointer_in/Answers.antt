use Rattle.std.proofs.Common.{◌≡◌, ℕ, ◌+◌, List, get_or, ap, ◌∙◌, arith}
use Rattle.engine_pages.specs.declared.view.View.{View}
use Rattle.engine_pages.specs.Passes.{view}
use Rattle.tree_heads.proofs.InnerWords.{pointer_word}
use Rattle.array_pages.proofs.LookLaws.{glanced_is}
use Rattle.tree_walks.proofs.SnapLaws.{pointer_small}
use Rattle.tree_walks.proofs.snapshots.pointer_in.Goals as goal

pub load_resident-number-requires-clause-pass : goal.load_resident-number-requires-clause-pass
load_resident-number-requires-clause-pass c = c.requires.can.active

pub load_resident-number-requires-clause-room : goal.load_resident-number-requires-clause-room
load_resident-number-requires-clause-room c =
    let there = c.requires.there in let room = c.requires.can.room in omega (arith, there, room)

pub load_resident-number-requires-clause-index : goal.load_resident-number-requires-clause-index
load_resident-number-requires-clause-index c =
    let x = c.requires.inner.1 in
    let less = c.requires.inner.2 in
    let most = (x.is).most in
    let count = x.count in omega (arith, less, most, count)

pub overflow_add-place : goal.overflow_add-place
overflow_add-place c =
    let x = c.requires.inner.1 in
    let less = c.requires.inner.2 in
    let most = (x.is).most in
    let count = x.count in omega (arith, less, most, count)

pub overflow_cast-result : goal.overflow_cast-result
overflow_cast-result c =
    let x = c.requires.inner.1 in
    let less = c.requires.inner.2 in
    let count = x.count in
    let small = pointer_small (view c.args.pass.now).pages c.args.page c.requires.inner.0 c.args.index x less in
    let there = c.requires.there in
    let most = c.requires.can.most in
    let is : c.load_resident-number.result ≡ get_or (x.children).pointers c.args.index 0 =
    c.load_resident-number.ensures.loads.1
    ∙ (ap (λ (q : List ℕ). get_or q (4 + c.args.index) 0) x.words
    ∙ pointer_word x.low x.high c.args.page x.children x.is c.args.index (omega (arith, less, count))) in
    omega (arith, small, there, most, is)

pub returns-clause-glances : goal.returns-clause-glances
returns-clause-glances c =
    glanced_is _ c.load_resident-number.result (view c.args.pass.now) (view c.load_resident-number.new.pass)
    c.load_resident-number.ensures.loads.0

pub returns-clause-most : goal.returns-clause-most
returns-clause-most c =
    let is = ap (λ (z : View). z.steps) c.load_resident-number.ensures.loads.0 in omega (arith, is)

pub returns-clause-number : goal.returns-clause-number
returns-clause-number c = λ many x less.
    let count = x.count in
    c.load_resident-number.ensures.loads.1
    ∙ (ap (λ (q : List ℕ). get_or q (4 + c.args.index) 0) x.words
    ∙ pointer_word x.low x.high c.args.page x.children x.is c.args.index (omega (arith, less, count)))
