use Rattle.std.proofs.Common.{ap, arith}
use Rattle.engine_pages.specs.declared.view.View.{View}
use Rattle.engine_pages.specs.Passes.{view}
use Rattle.page_commit.specs.Places.{spot_for}
use Rattle.page_commit.proofs.AnyPlaces.{any_spot}
use Rattle.page_commit.proofs.LockLaws.{bit_set, glanced_once, glanced_twice, loaded_active, loaded_key, loaded_place}
use Rattle.page_commit.proofs.LockLaws.{lock_conflict, lock_glanced, open_loaded, other_conflict, plain_loaded, taken}
use Rattle.page_commit.proofs.LockLaws.{taken_known}
use Rattle.page_commit.proofs.StepLaws.{load_most, take_steps, take_most}
use Rattle.page_commit.proofs.locking.take.Goals as goal

pub load_word_as-word-requires-clause-place : goal.load_word_as-word-requires-clause-place
load_word_as-word-requires-clause-place c = any_spot (view c.args.pass.now) c.args.key c.args.at c.requires.place

pub tell_locked-requires-clause-pass : goal.tell_locked-requires-clause-pass
tell_locked-requires-clause-pass c =
    loaded_active (spot_for (view c.args.pass.now).layout c.args.key c.args.at).slot c.args.at c.load_word_as-word.result (view c.args.pass.now)
    (view c.load_word_as-word.new.pass) c.requires.worker c.load_word_as-word.ensures.loads

pub tell_locked-requires-clause-place : goal.tell_locked-requires-clause-place
tell_locked-requires-clause-place c =
    loaded_key c.args.key (spot_for (view c.args.pass.now).layout c.args.key c.args.at).slot c.args.at c.load_word_as-word.result (view c.args.pass.now)
    (view c.load_word_as-word.new.pass) c.requires.place c.load_word_as-word.ensures.loads

pub tell_locked-requires-clause-locked : goal.tell_locked-requires-clause-locked
tell_locked-requires-clause-locked c =
    bit_set c.load_word_as-word.result c.is_locked.result c.is_locked.ensures c.if-is_locked.true

pub lock_as-seen-requires-clause-place : goal.lock_as-seen-requires-clause-place
lock_as-seen-requires-clause-place c =
    loaded_place c.args.key (spot_for (view c.args.pass.now).layout c.args.key c.args.at).slot c.args.at c.load_word_as-word.result (view c.args.pass.now)
    (view c.load_word_as-word.new.pass) c.requires.place c.load_word_as-word.ensures.loads

pub lock_as-seen-requires-clause-expected : goal.lock_as-seen-requires-clause-expected
lock_as-seen-requires-clause-expected c =
    open_loaded (spot_for (view c.args.pass.now).layout c.args.key c.args.at).slot c.args.at c.load_word_as-word.result c.known-expected.result
    c.is_locked.result (view c.args.pass.now) (view c.load_word_as-word.new.pass) c.load_word_as-word.ensures.loads
    c.is_locked.ensures c.if-is_locked.false c.if-word-expected.false

pub returns-then-is_locked-clause-conflict : goal.returns-then-is_locked-clause-conflict
returns-then-is_locked-clause-conflict c =
    c.tell_locked.ensures.conflict (view c.args.pass.now) (spot_for (view c.args.pass.now).layout c.args.key c.args.at).slot c.requires.met c.load_word_as-word.ensures.loads

pub returns-then-is_locked-clause-glanced : goal.returns-then-is_locked-clause-glanced
returns-then-is_locked-clause-glanced c =
    glanced_twice (view c.args.pass.now) (view c.load_word_as-word.new.pass) (view c.tell_locked.new.pass)
    (glanced_once (view c.args.pass.now) (view c.load_word_as-word.new.pass) c.args.at c.load_word_as-word.result
    c.load_word_as-word.ensures.loads.is) c.tell_locked.ensures.glanced

pub returns-then-is_locked-clause-most : goal.returns-then-is_locked-clause-most
returns-then-is_locked-clause-most c =
    let one = ap (λ (y : View). y.steps) c.load_word_as-word.ensures.loads.is in
    let most = c.tell_locked.ensures.most in omega (arith, one, most)

pub returns-then-word-expected-clause-conflict : goal.returns-then-word-expected-clause-conflict
returns-then-word-expected-clause-conflict c =
    other_conflict c.args.reads.now c.args.key (spot_for (view c.args.pass.now).layout c.args.key c.args.at).slot c.args.at c.load_word_as-word.result
    c.known-expected.result (view c.args.pass.now) (view c.load_word_as-word.new.pass) c.requires.met
    c.load_word_as-word.ensures.loads c.known-expected.ensures c.if-word-expected.true

pub returns-then-word-expected-clause-glanced : goal.returns-then-word-expected-clause-glanced
returns-then-word-expected-clause-glanced c =
    glanced_once (view c.args.pass.now) (view c.load_word_as-word.new.pass) c.args.at c.load_word_as-word.result
    c.load_word_as-word.ensures.loads.is

pub returns-then-word-expected-clause-most : goal.returns-then-word-expected-clause-most
returns-then-word-expected-clause-most c =
    load_most c.args.at c.load_word_as-word.result (view c.args.pass.now) (view c.load_word_as-word.new.pass)
    c.load_word_as-word.ensures.loads.is

pub returns-then-seen-expected-clause-conflict : goal.returns-then-seen-expected-clause-conflict
returns-then-seen-expected-clause-conflict c =
    lock_conflict c.args.reads.now c.args.key (spot_for (view c.load_word_as-word.new.pass).layout c.args.key c.args.at) (spot_for (view c.args.pass.now).layout c.args.key c.args.at).slot c.args.at
    c.load_word_as-word.result c.known-expected.result c.lock_as-seen.result (view c.args.pass.now)
    (view c.load_word_as-word.new.pass) (view c.lock_as-seen.new.pass) c.requires.met c.load_word_as-word.ensures.loads
    c.known-expected.ensures c.if-word-expected.false
    (plain_loaded c.args.key (spot_for (view c.args.pass.now).layout c.args.key c.args.at).slot c.args.at c.load_word_as-word.result c.is_locked.result
    (view c.args.pass.now) (view c.load_word_as-word.new.pass) c.requires.place c.load_word_as-word.ensures.loads
    c.is_locked.ensures c.if-is_locked.false) c.if-seen-expected.true c.lock_as-seen.ensures.locks

pub returns-then-seen-expected-clause-glanced : goal.returns-then-seen-expected-clause-glanced
returns-then-seen-expected-clause-glanced c =
    lock_glanced c.args.key (spot_for (view c.load_word_as-word.new.pass).layout c.args.key c.args.at) c.args.at c.load_word_as-word.result c.known-expected.result
    c.lock_as-seen.result (view c.args.pass.now) (view c.load_word_as-word.new.pass) (view c.lock_as-seen.new.pass)
    c.load_word_as-word.ensures.loads.is c.if-seen-expected.true c.lock_as-seen.ensures.locks

pub returns-then-seen-expected-clause-most : goal.returns-then-seen-expected-clause-most
returns-then-seen-expected-clause-most c =
    take_most c.args.key (spot_for (view c.load_word_as-word.new.pass).layout c.args.key c.args.at) c.args.at c.load_word_as-word.result c.known-expected.result
    c.lock_as-seen.result (view c.args.pass.now) (view c.load_word_as-word.new.pass) (view c.lock_as-seen.new.pass)
    c.load_word_as-word.ensures.loads.is c.lock_as-seen.ensures.locks

pub returns-clause-takes : goal.returns-clause-takes
returns-clause-takes c =
    taken c.args.key c.args.at c.load_word_as-word.result c.known-expected.result
    c.lock_as-seen.result (view c.args.pass.now) (view c.load_word_as-word.new.pass) (view c.lock_as-seen.new.pass)
    c.load_word_as-word.ensures.loads.is c.if-seen-expected.false c.lock_as-seen.ensures.locks

pub returns-clause-known : goal.returns-clause-known
returns-clause-known c =
    taken_known c.args.reads.now c.args.at c.load_word_as-word.result c.known-expected.result c.lock_as-seen.result
    c.known-expected.ensures c.if-word-expected.false c.if-seen-expected.false

pub returns-clause-steps : goal.returns-clause-steps
returns-clause-steps c =
    take_steps c.args.key (spot_for (view c.load_word_as-word.new.pass).layout c.args.key c.args.at) c.args.at c.load_word_as-word.result c.known-expected.result
    c.lock_as-seen.result (view c.args.pass.now) (view c.load_word_as-word.new.pass) (view c.lock_as-seen.new.pass)
    c.load_word_as-word.ensures.loads.is c.lock_as-seen.ensures.locks
