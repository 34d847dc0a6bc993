use Rattle.std.proofs.Common.{length, arith}
use Rattle.engine_pages.specs.Passes.{view}
use Rattle.page_commit.proofs.Lists.{apart}
use Rattle.page_commit.proofs.PutLaws.{anew_here, can_open_here, can_put_here, decided_small, open_active, put_active}
use Rattle.page_commit.proofs.PutLaws.{published_one, published_all, put_here, starts}
use Rattle.page_commit.proofs.StepLaws.{more_put, ends_at}
use Rattle.page_commit.proofs.publishing.publish_all.Goals as goal

pub loop-done-init : goal.loop-done-init
loop-done-init c = record {
  of = c.requires.of;
  count = omega arith;
  steps = omega arith;
  so = λ found h. starts c.args.writes.now found c.args.number (view c.args.pass.now) h;
}

pub put_as-requires-clause-pass : goal.put_as-requires-clause-pass
put_as-requires-clause-pass c =
    let h = c.requires.decided in
    put_active c.args.writes.now h.0 (view c.args.pass.now) (view c.loop-done.pass) c.loop-done.done c.requires.pass
    (c.loop-done.invariant.so h.0 h.1)

pub put_as-requires-clause-place : goal.put_as-requires-clause-place
put_as-requires-clause-place c =
    let h = c.requires.decided in
    put_here c.args.writes.now h.0 (view c.args.pass.now) (view c.loop-done.pass) c.loop-done.done _ c.requires.places
    (c.loop-done.invariant.so h.0 h.1) c.loop-done-test.true

pub put_as-requires-clause-writes : goal.put_as-requires-clause-writes
put_as-requires-clause-writes c =
    let h = c.requires.decided in
    rw c.unwrap_or.ensures (can_put_here c.args.engine.now c.args.pass.now c.loop-done.pass c.args.writes.now h.0
    c.args.number c.loop-done.done _ c.requires.of c.loop-done.invariant.of h.1 (c.loop-done.invariant.so h.0 h.1)
    c.loop-done-test.true (apart c.args.writes.now c.requires.ascending) c.requires.places)

pub open_anew_as-requires-clause-pass : goal.open_anew_as-requires-clause-pass
open_anew_as-requires-clause-pass c =
    let h = c.requires.decided in
    open_active c.args.writes.now h.0 (view c.args.pass.now) (view c.loop-done.pass) (view c.put_as.new.pass)
    c.loop-done.done
    _ _ _ c.requires.pass (c.loop-done.invariant.so h.0 h.1) c.put_as.ensures.puts

pub open_anew_as-requires-clause-place : goal.open_anew_as-requires-clause-place
open_anew_as-requires-clause-place c =
    let h = c.requires.decided in
    anew_here c.args.writes.now h.0 (view c.args.pass.now) (view c.loop-done.pass) (view c.put_as.new.pass)
    c.loop-done.done _
    _ _ c.requires.places (c.loop-done.invariant.so h.0 h.1) c.loop-done-test.true c.put_as.ensures.puts

pub open_anew_as-requires-clause-word : goal.open_anew_as-requires-clause-word
open_anew_as-requires-clause-word c =
    let h = c.requires.decided in
    rw c.with_absence-word.ensures (can_open_here c.args.engine.now c.args.pass.now c.put_as.new.pass c.args.writes.now h.0
    c.args.number c.loop-done.done _ (view c.loop-done.pass) _ _ c.requires.of c.put_as.ensures.of h.1
    (c.loop-done.invariant.so h.0 h.1) c.loop-done-test.true (apart c.args.writes.now c.requires.ascending)
    c.requires.places c.put_as.ensures.puts)

-- the word of a number has no bit above it
pub with_absence-word-requires : goal.with_absence-word-requires
with_absence-word-requires c = decided_small c.args.writes.now c.args.number (view c.args.pass.now) c.requires.decided

pub loop-done-preserved : goal.loop-done-preserved
loop-done-preserved c = record {
  of = c.open_anew_as.ensures.of;
  count = omega arith;
  steps = more_put _ _ _ _ _ (view c.args.pass.now) (view c.loop-done.pass) (view c.put_as.new.pass)
      (view c.open_anew_as.new.pass)
      c.loop-done.done c.loop-done.invariant.steps c.put_as.ensures.puts c.open_anew_as.ensures.opens;
  so = λ found h.
      published_one c.args.writes.now found c.args.number c.loop-done.done _ (view c.args.pass.now)
      (view c.loop-done.pass)
      (view c.put_as.new.pass) (view c.open_anew_as.new.pass) _ _ _ _ h (c.loop-done.invariant.so found h) c.loop-done-test.true
      (apart c.args.writes.now c.requires.ascending) c.put_as.ensures.puts c.open_anew_as.ensures.opens;
}

pub returns-clause-published : goal.returns-clause-published
returns-clause-published c =
    let h = c.requires.decided in
    published_all c.args.writes.now h.0 (view c.args.pass.now) (view c.loop-done.pass) c.loop-done.done
    (c.loop-done.invariant.so h.0 h.1) c.loop-done-test.false

pub returns-clause-steps : goal.returns-clause-steps
returns-clause-steps c =
    ends_at (view c.args.pass.now) (view c.loop-done.pass) c.loop-done.done (length c.args.writes.now)
    c.loop-done.invariant.steps c.loop-done.invariant.count c.loop-done-test.false
