use Rattle.std.specs.Prelude.{Err}
use Rattle.std.proofs.Common.{◌≡◌, [], refl, sym, subst, length, arith}
use Rattle.engine_pages.specs.Passes.{view}
use Rattle.page_commit.specs.Steps.{HasLocked}
use Rattle.page_commit.proofs.LockLaws.{can_lock, idle_still, place_at, locked_none, met_at, aside_so_far}
use Rattle.page_commit.proofs.LockLaws.{locked_so_far, read_so_far, lock_stopped, lock_apart, lock_refused}
use Rattle.page_commit.proofs.LockLaws.{all_locked, found_count}
use Rattle.std.proofs.lemmas.Result.{err_from_is_err_and}
use Rattle.page_commit.proofs.Lists.{take_all}
use Rattle.page_commit.proofs.StepLaws.{more_locked, stops_locked, ends_at}
use Rattle.page_commit.proofs.locking.lock_all.Goals as goal

pub loop-done-init : goal.loop-done-init
loop-done-init c = record {
  of = c.requires.of;
  count = omega arith;
  locked = subst (λ l. HasLocked [] l (view c.args.pass.now) (view c.args.pass.now)) (sym c.requires.fresh)
      (locked_none (view c.args.pass.now) c.requires.free);
  read = tt;
  steps = omega arith;
  aside = λ at clear. refl;
}

pub take-requires-clause-worker : goal.take-requires-clause-worker
take-requires-clause-worker c = can_lock _ c.loop-done.found (view c.args.pass.now) (view c.loop-done.pass)
    c.requires.free c.loop-done.invariant.locked

pub take-requires-clause-idle : goal.take-requires-clause-idle
take-requires-clause-idle c = idle_still _ c.loop-done.found (view c.args.pass.now) (view c.loop-done.pass)
    c.requires.free c.loop-done.invariant.locked

pub take-requires-clause-place : goal.take-requires-clause-place
take-requires-clause-place c =
    place_at c.args.writes.now c.loop-done.found c.loop-done.done _ (view c.args.pass.now) (view c.loop-done.pass)
    c.requires.places c.loop-done.invariant.locked c.loop-done-test.true

pub take-requires-clause-met : goal.take-requires-clause-met
take-requires-clause-met c =
    met_at c.args.reads.now c.args.writes.now c.loop-done.found c.loop-done.done _ (view c.args.pass.now)
    (view c.loop-done.pass) c.requires.places c.requires.apart c.requires.met c.requires.small c.requires.unkept
    c.loop-done.invariant.locked c.loop-done.invariant.aside c.loop-done-test.true

pub loop-done-preserved : goal.loop-done-preserved
loop-done-preserved c = record {
  of = c.take.ensures.of;
  count = omega arith;
  locked = locked_so_far c.args.writes.now c.loop-done.found _ c.loop-done.done _ c.in_ok-word.word
      (view c.args.pass.now)
      (view c.loop-done.pass) (view c.take.new.pass) c.loop-done-test.true c.push.ensures c.loop-done.invariant.locked
      c.in_ok-word.ensures.takes;
  read = read_so_far c.args.reads.now c.args.writes.now c.loop-done.found _ c.loop-done.done _ c.in_ok-word.word
      (view c.args.pass.now) (view c.loop-done.pass) c.loop-done-test.true c.push.ensures c.loop-done.invariant.locked
      c.in_ok-word.ensures.known c.loop-done.invariant.read;
  steps = more_locked (view c.args.pass.now) (view c.loop-done.pass) (view c.take.new.pass) c.loop-done.done
      c.loop-done.invariant.steps c.in_ok-word.ensures.steps;
  aside = aside_so_far c.args.writes.now c.loop-done.done _ c.in_ok-word.word (view c.args.pass.now)
      (view c.loop-done.pass) (view c.take.new.pass) c.loop-done-test.true c.in_ok-word.ensures.takes
      c.loop-done.invariant.aside;
}

pub returns-in_err-word-clause-within : goal.returns-in_err-word-clause-within
returns-in_err-word-clause-within c =
    let same = found_count c.args.writes.now c.loop-done.found c.loop-done.done (view c.args.pass.now)
    (view c.loop-done.pass)
    c.loop-done.invariant.count c.loop-done.invariant.locked in
    let p = err_from_is_err_and c.from_residual.result c.from_residual.ensures.1 in
    let told : c.from_residual.result ≡ Err c.in_err-word.field-0.0 = let a = p.1 in let b = p.2 in cc in
    let less = c.loop-done-test.true in rw told (omega (arith, same, less))

pub returns-in_err-word-clause-stopped : goal.returns-in_err-word-clause-stopped
returns-in_err-word-clause-stopped c =
    let p = err_from_is_err_and c.from_residual.result c.from_residual.ensures.1 in
    let told : c.from_residual.result ≡ Err c.in_err-word.field-0.0 = let a = p.1 in let b = p.2 in cc in
    rw told (lock_stopped c.args.writes.now c.loop-done.found c.loop-done.done (view c.args.pass.now)
    (view c.loop-done.pass)
    (view c.take.new.pass) c.loop-done.invariant.count c.loop-done.invariant.locked c.in_err-word.ensures.glanced)

pub returns-in_err-word-clause-clear : goal.returns-in_err-word-clause-clear
returns-in_err-word-clause-clear c =
    let p = err_from_is_err_and c.from_residual.result c.from_residual.ensures.1 in
    let told : c.from_residual.result ≡ Err c.in_err-word.field-0.0 = let a = p.1 in let b = p.2 in cc in
    rw told (lock_apart c.args.writes.now c.loop-done.found c.loop-done.done _ c.in_err-word.field-0.0.word
    (view c.args.pass.now) (view c.loop-done.pass) c.requires.apart c.loop-done-test.true
    c.in_err-word.ensures.place c.loop-done.invariant.locked)

pub returns-in_err-word-clause-conflict : goal.returns-in_err-word-clause-conflict
returns-in_err-word-clause-conflict c =
    let p = err_from_is_err_and c.from_residual.result c.from_residual.ensures.1 in
    let told : c.from_residual.result ≡ Err c.in_err-word.field-0.0 = let a = p.1 in let b = p.2 in cc in
    rw told (lock_refused c.args.reads.now c.args.writes.now c.loop-done.found c.loop-done.done _
    c.in_err-word.field-0.0.word
    c.in_err-word.field-0.0.expected c.in_err-word.field-0.0.seen (view c.args.pass.now) (view c.loop-done.pass)
    (view c.take.new.pass) c.loop-done-test.true c.in_err-word.ensures.place c.loop-done.invariant.locked
    c.in_err-word.ensures.conflict)

pub returns-in_err-word-clause-most : goal.returns-in_err-word-clause-most
returns-in_err-word-clause-most c =
    let same = found_count c.args.writes.now c.loop-done.found c.loop-done.done (view c.args.pass.now)
    (view c.loop-done.pass)
    c.loop-done.invariant.count c.loop-done.invariant.locked in
    let p = err_from_is_err_and c.from_residual.result c.from_residual.ensures.1 in
    let told : c.from_residual.result ≡ Err c.in_err-word.field-0.0 = let a = p.1 in let b = p.2 in cc in
    rw told (stops_locked (view c.args.pass.now) (view c.loop-done.pass) (view c.take.new.pass) c.loop-done.done
    (length c.loop-done.found) same c.loop-done.invariant.steps c.in_err-word.ensures.most)

pub returns-clause-steps : goal.returns-clause-steps
returns-clause-steps c =
    ends_at (view c.args.pass.now) (view c.loop-done.pass) c.loop-done.done (length c.args.writes.now)
    c.loop-done.invariant.steps c.loop-done.invariant.count c.loop-done-test.false

pub returns-clause-ok : goal.returns-clause-ok
returns-clause-ok c =
    all_locked c.args.reads.now c.args.writes.now c.loop-done.found c.loop-done.done (view c.args.pass.now)
    (view c.loop-done.pass) (take_all c.args.writes.now c.loop-done.done c.loop-done-test.false)
    c.loop-done.invariant.locked c.loop-done.invariant.read c.loop-done.invariant.aside
