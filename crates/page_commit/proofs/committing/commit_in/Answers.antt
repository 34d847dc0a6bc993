use Rattle.std.proofs.Common.{List, length, ap, arith, ℕ}
use Rattle.tx_sets.specs.declared.writes.Write.{Write}
use Rattle.engine_pages.specs.Passes.{view}
use Rattle.page_commit.specs.Committing.{checks_of}
use Rattle.page_commit.proofs.CommitLaws.{locked_gone, locked_holds, stopped_met, each_slice, small_slice, met_slice}
use Rattle.page_commit.proofs.CommitLaws.{apart_slice, conflict_slice, locked_slice, sets_places, sets_ascending}
use Rattle.page_commit.proofs.CommitLaws.{sets_few, can_commit, stopped_worker, stopped_places, stopped_locks}
use Rattle.page_commit.proofs.CommitLaws.{stopped_cause, unkept_slice}
use Rattle.page_commit.proofs.DrawLaws.{is_free}
use Rattle.page_commit.proofs.GiveUpLaws.{locked_refused}
use Rattle.page_commit.proofs.CommitResults.{commits_for, caused_for, refused_for_all, steps_for, most_for}
use Rattle.page_commit.proofs.StepLaws.{stopped_most}
use Rattle.page_commit.proofs.committing.commit_in.Goals as goal

pub lock_all-requires-clause-free : goal.lock_all-requires-clause-free
lock_all-requires-clause-free c = is_free c.args.sets.now (view c.args.pass.now) c.requires.live

pub lock_all-requires-clause-places : goal.lock_all-requires-clause-places
lock_all-requires-clause-places c =
    sets_places c.args.sets.now c.args.writes.now (view c.args.pass.now) c.requires.live c.requires.writes

pub lock_all-requires-clause-ascending : goal.lock_all-requires-clause-ascending
lock_all-requires-clause-ascending c =
    sets_ascending c.args.sets.now c.args.writes.now c.requires.writes c.requires.ascending

pub lock_all-requires-clause-few : goal.lock_all-requires-clause-few
lock_all-requires-clause-few c = sets_few c.args.sets.now c.args.writes.now c.requires.writes c.requires.few

pub lock_all-requires-clause-small : goal.lock_all-requires-clause-small
lock_all-requires-clause-small c =
    small_slice c.args.sets.now c.args.reads.now (view c.args.pass.now) c.requires.live c.requires.reads

pub lock_all-requires-clause-unkept : goal.lock_all-requires-clause-unkept
lock_all-requires-clause-unkept c =
    unkept_slice c.args.sets.now c.args.writes.now (view c.args.pass.now) c.requires.live c.requires.writes

pub lock_all-requires-clause-apart : goal.lock_all-requires-clause-apart
lock_all-requires-clause-apart c = apart_slice c.args.sets.now c.args.writes.now c.requires.writes c.requires.apart

pub commit_locked-requires-clause-can : goal.commit_locked-requires-clause-can
commit_locked-requires-clause-can c = (
  view c.args.pass.now,
  can_commit c.args.sets.now c.args.writes.now c.lock_all.new.found (view c.args.pass.now) (view c.lock_all.new.pass)
      c.requires.live c.requires.writes
      (locked_slice c.args.sets.now c.args.reads.now c.args.writes.now c.lock_all.new.found (view c.args.pass.now)
      (view c.lock_all.new.pass) c.requires.reads c.in-Ok.ensures.ok),
)

pub returns-in-Ok-clause-commits : goal.returns-in-Ok-clause-commits
returns-in-Ok-clause-commits c =
    let can = can_commit c.args.sets.now c.args.writes.now c.lock_all.new.found (view c.args.pass.now)
    (view c.lock_all.new.pass)
    c.requires.live c.requires.writes
    (locked_slice c.args.sets.now c.args.reads.now c.args.writes.now c.lock_all.new.found (view c.args.pass.now)
    (view c.lock_all.new.pass) c.requires.reads c.in-Ok.ensures.ok) in
    commits_for c.commit_locked.result c.args.sets.now c.lock_all.new.found (view c.args.pass.now)
    (view c.lock_all.new.pass)
    (view c.commit_locked.new.pass) can c.commit_locked.ensures.commits

pub returns-in-Ok-clause-cause : goal.returns-in-Ok-clause-cause
returns-in-Ok-clause-cause c =
    let can = can_commit c.args.sets.now c.args.writes.now c.lock_all.new.found (view c.args.pass.now)
    (view c.lock_all.new.pass)
    c.requires.live c.requires.writes
    (locked_slice c.args.sets.now c.args.reads.now c.args.writes.now c.lock_all.new.found (view c.args.pass.now)
    (view c.lock_all.new.pass) c.requires.reads c.in-Ok.ensures.ok) in
    caused_for c.commit_locked.result c.args.sets.now c.lock_all.new.found (view c.args.pass.now)
    (view c.lock_all.new.pass)
    (view c.commit_locked.new.pass) can c.commit_locked.ensures.cause

pub returns-in-Ok-clause-refused : goal.returns-in-Ok-clause-refused
returns-in-Ok-clause-refused c =
    let can = can_commit c.args.sets.now c.args.writes.now c.lock_all.new.found (view c.args.pass.now)
    (view c.lock_all.new.pass)
    c.requires.live c.requires.writes
    (locked_slice c.args.sets.now c.args.reads.now c.args.writes.now c.lock_all.new.found (view c.args.pass.now)
    (view c.lock_all.new.pass) c.requires.reads c.in-Ok.ensures.ok) in
    refused_for_all c.commit_locked.result c.args.sets.now c.lock_all.new.found (view c.args.pass.now)
    (view c.lock_all.new.pass)
    (view c.commit_locked.new.pass) can c.commit_locked.ensures.refused

pub back_out-requires-clause-worker : goal.back_out-requires-clause-worker
back_out-requires-clause-worker c =
    stopped_worker c.args.sets.now _ c.lock_all.new.found (view c.args.pass.now) (view c.lock_all.new.pass)
    c.requires.live
    c.in-Err.ensures.stopped

pub back_out-requires-clause-places : goal.back_out-requires-clause-places
back_out-requires-clause-places c =
    stopped_places c.args.sets.now _ c.args.writes.now c.lock_all.new.found (view c.args.pass.now)
    (view c.lock_all.new.pass)
    c.requires.live c.in-Err.ensures.stopped c.requires.writes

pub back_out-requires-clause-ascending : goal.back_out-requires-clause-ascending
back_out-requires-clause-ascending c =
    sets_ascending c.args.sets.now c.args.writes.now c.requires.writes c.requires.ascending

pub back_out-requires-clause-locked : goal.back_out-requires-clause-locked
back_out-requires-clause-locked c =
    stopped_locks c.args.sets.now _ c.lock_all.new.found (view c.args.pass.now) (view c.lock_all.new.pass)
    c.requires.live
    c.in-Err.ensures.stopped

pub returns-in-Err-clause-cause : goal.returns-in-Err-clause-cause
returns-in-Err-clause-cause c =
    stopped_cause c.args.sets.now (length c.lock_all.new.found) c.args.writes.now c.lock_all.new.found
    c.in-Err.conflict.word
    c.in-Err.conflict.expected
    c.in-Err.conflict.seen c.back_out.result (view c.args.pass.now) (view c.lock_all.new.pass)
    (view c.back_out.new.pass) c.requires.live
    c.requires.writes c.in-Err.ensures.stopped c.in-Err.ensures.clear c.back_out.ensures.gives_up
    (conflict_slice c.args.sets.now c.args.reads.now c.args.writes.now c.in-Err.conflict.word c.in-Err.conflict.expected
    c.in-Err.conflict.seen (view c.args.pass.now) (view c.lock_all.new.pass) c.requires.reads c.in-Err.ensures.conflict)
    c.back_out.ensures.why

pub returns-in-Err-clause-refused : goal.returns-in-Err-clause-refused
returns-in-Err-clause-refused c =
    locked_refused c.back_out.result c.args.sets.now _ c.lock_all.new.found c.in-Err.conflict.word
    c.in-Err.conflict.expected c.in-Err.conflict.seen (view c.args.pass.now)
    (view c.lock_all.new.pass)
    (view c.back_out.new.pass) c.requires.live c.in-Err.ensures.stopped c.back_out.ensures.why
    (stopped_met c.args.sets.now _ c.args.writes.now c.lock_all.new.found c.in-Err.conflict.word c.in-Err.conflict.expected
    c.in-Err.conflict.seen (view c.args.pass.now) (view c.lock_all.new.pass) c.requires.live c.requires.writes
    c.in-Err.ensures.stopped (conflict_slice c.args.sets.now c.args.reads.now c.args.writes.now c.in-Err.conflict.word
    c.in-Err.conflict.expected c.in-Err.conflict.seen (view c.args.pass.now) (view c.lock_all.new.pass) c.requires.reads
    c.in-Err.ensures.conflict))
    c.back_out.ensures.gives_up

pub returns-in-Ok-clause-steps : goal.returns-in-Ok-clause-steps
returns-in-Ok-clause-steps c =
    steps_for c.commit_locked.result c.args.sets.now c.args.writes.now c.args.holds.now (view c.args.pass.now)
    (view c.lock_all.new.pass) (view c.commit_locked.new.pass) c.requires.writes c.requires.holds c.in-Ok.ensures.steps
    c.commit_locked.ensures.steps

pub returns-in-Ok-clause-most : goal.returns-in-Ok-clause-most
returns-in-Ok-clause-most c =
    most_for c.commit_locked.result c.args.sets.now c.args.writes.now c.args.holds.now (view c.args.pass.now)
    (view c.lock_all.new.pass) (view c.commit_locked.new.pass) c.requires.writes c.requires.holds c.in-Ok.ensures.steps
    c.commit_locked.ensures.most

pub returns-in-Err-clause-most : goal.returns-in-Err-clause-most
returns-in-Err-clause-most c =
    stopped_most (checks_of c.args.sets.now) (length c.args.writes.now)
    (length c.args.sets.now.writes) (length c.args.holds.now) (length c.args.sets.now.holds)
    (length c.lock_all.new.found) (view c.args.pass.now) (view c.lock_all.new.pass) (view c.back_out.new.pass)
    (ap (λ (l : List Write). length l) c.requires.writes) (ap (λ (l : List ℕ). length l) c.requires.holds)
    c.in-Err.ensures.within c.in-Err.ensures.most
    c.back_out.ensures.steps

pub back_out-requires-clause-within : goal.back_out-requires-clause-within
back_out-requires-clause-within c = let less = c.in-Err.ensures.within in omega (arith, less)

pub lock_all-requires-clause-met : goal.lock_all-requires-clause-met
lock_all-requires-clause-met c =
    met_slice c.args.sets.now c.args.reads.now (view c.args.pass.now) c.requires.live c.requires.reads

pub back_out-requires-clause-met : goal.back_out-requires-clause-met
back_out-requires-clause-met c =
    stopped_met c.args.sets.now _ c.args.writes.now c.lock_all.new.found c.in-Err.conflict.word c.in-Err.conflict.expected
    c.in-Err.conflict.seen (view c.args.pass.now) (view c.lock_all.new.pass) c.requires.live c.requires.writes
    c.in-Err.ensures.stopped (conflict_slice c.args.sets.now c.args.reads.now c.args.writes.now c.in-Err.conflict.word
    c.in-Err.conflict.expected c.in-Err.conflict.seen (view c.args.pass.now) (view c.lock_all.new.pass) c.requires.reads
    c.in-Err.ensures.conflict)

pub back_out-requires-clause-gone : goal.back_out-requires-clause-gone
back_out-requires-clause-gone c =
    locked_gone c.args.sets.now _ c.lock_all.new.found (view c.args.pass.now) (view c.lock_all.new.pass) c.requires.live
    c.in-Err.ensures.stopped

pub back_out-requires-clause-holds : goal.back_out-requires-clause-holds
back_out-requires-clause-holds c =
    locked_holds c.args.sets.now _ c.lock_all.new.found c.args.holds.now (view c.args.pass.now) (view c.lock_all.new.pass)
    c.requires.live c.in-Err.ensures.stopped c.requires.holds

pub back_out-requires-clause-each : goal.back_out-requires-clause-each
back_out-requires-clause-each c = each_slice c.args.sets.now c.args.holds.now c.requires.holds c.requires.each

pub back_out-requires-clause-apart : goal.back_out-requires-clause-apart
back_out-requires-clause-apart c = c.in-Err.ensures.clear
