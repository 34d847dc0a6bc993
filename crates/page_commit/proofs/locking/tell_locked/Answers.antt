use Rattle.std.proofs.Common.{ap, arith}
use Rattle.engine_pages.specs.declared.view.View.{View}
use Rattle.engine_pages.specs.Passes.{view}
use Rattle.page_commit.specs.Places.{spot_for}
use Rattle.page_commit.proofs.AnyPlaces.{any_spot}
use Rattle.page_commit.proofs.LockLaws.{glanced_none, glanced_once, locked_conflict, told_again, told_once}
use Rattle.page_commit.proofs.locking.tell_locked.Goals as goal

pub load_word_as-seen-requires-clause-place : goal.load_word_as-seen-requires-clause-place
load_word_as-seen-requires-clause-place c = any_spot (view c.args.pass.now) c.args.key c.args.at c.requires.place

pub returns-then-tells_once-clause-conflict : goal.returns-then-tells_once-clause-conflict
returns-then-tells_once-clause-conflict c = λ v t met l.
    locked_conflict c.args.reads.now c.args.key t c.args.at c.args.word c.known-expected.result v
    (view c.args.pass.now) met l c.known-expected.ensures c.requires.locked
    (told_once c.args.engine.now c.args.pass.now c.args.reads.now c.args.key t c.args.at c.args.word v
    c.tells_once.result c.requires.of l c.tells_once.ensures c.if-tells_once.true)

pub returns-then-tells_once-clause-glanced : goal.returns-then-tells_once-clause-glanced
returns-then-tells_once-clause-glanced c = glanced_none (view c.args.pass.now)

pub returns-clause-conflict : goal.returns-clause-conflict
returns-clause-conflict c = λ v t met l.
    told_again c.args.engine.now c.args.pass.now c.args.reads.now c.args.key t
    (spot_for (view c.args.pass.now).layout c.args.key c.args.at).slot c.args.at c.args.word
    c.known-expected.result c.load_word_as-seen.result v (view c.load_word_as-seen.new.pass) c.tells_once.result c.requires.of
    met l c.tells_once.ensures c.if-tells_once.false c.known-expected.ensures c.load_word_as-seen.ensures.loads
    c.requires.locked

pub returns-clause-glanced : goal.returns-clause-glanced
returns-clause-glanced c =
    glanced_once (view c.args.pass.now) (view c.load_word_as-seen.new.pass) c.args.at c.load_word_as-seen.result
    c.load_word_as-seen.ensures.loads.is

pub returns-clause-most : goal.returns-clause-most
returns-clause-most c =
    let one = ap (λ (y : View). y.steps) c.load_word_as-seen.ensures.loads.is in omega (arith, one)
