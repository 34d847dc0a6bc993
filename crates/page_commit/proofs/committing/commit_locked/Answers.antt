use Rattle.std.proofs.Common.{List, length, ap, subst, refl}
use Rattle.engine_pages.specs.Passes.{view}
use Rattle.serial_model.specs.declared.number.Change.{Change}
use Rattle.page_commit.proofs.CommitLaws.{each_slice, failed_gone, failed_holds, published_active, published_holds}
use Rattle.page_commit.proofs.CommitLaws.{published_kept, sets_ascending, sets_draw, sets_active, sets_tried}
use Rattle.page_commit.proofs.CommitLaws.{drawn_active, checked_active, failed_worker, chosen_active, chosen_places}
use Rattle.page_commit.proofs.CommitLaws.{chosen_decided, all_committed, check_locks, check_places, found_within}
use Rattle.page_commit.proofs.CommitLaws.{found_apart, found_locks, check_refused, check_cause, checked_met}
use Rattle.page_commit.specs.Committing.{changes_of, checks_of, HasCommitted}
use Rattle.page_commit.proofs.StepLaws.{commits_steps, fails_steps}
use Rattle.page_commit.proofs.committing.commit_locked.Goals as goal

pub draw_as-word-requires-clause-pass : goal.draw_as-word-requires-clause-pass
draw_as-word-requires-clause-pass c =
    let can = c.requires.can in sets_active c.args.sets.now c.args.found.now can.0 (view c.args.pass.now) can.1

pub draw_as-word-requires-clause-can : goal.draw_as-word-requires-clause-can
draw_as-word-requires-clause-can c =
    let can = c.requires.can in
    sets_draw c.args.sets.now c.args.found.now c.args.writes.now (changes_of c.args.writes.now) can.0
    (view c.args.pass.now) can.1
    refl c.requires.writes

pub check_all-requires-clause-pass : goal.check_all-requires-clause-pass
check_all-requires-clause-pass c =
    let can = c.requires.can in
    drawn_active (changes_of c.args.writes.now) c.draw_as-word.result (view c.args.pass.now) (view c.draw_as-word.new.pass)
    (sets_active c.args.sets.now c.args.found.now can.0 (view c.args.pass.now) can.1) c.draw_as-word.ensures.draws

pub check_all-requires-clause-once : goal.check_all-requires-clause-once
check_all-requires-clause-once c = c.requires.can.1.live.places

pub check_all-requires-clause-tried : goal.check_all-requires-clause-tried
check_all-requires-clause-tried c =
    let can = c.requires.can in
    sets_tried c.args.sets.now c.args.found.now (changes_of c.args.writes.now) c.draw_as-word.result can.0
    (view c.args.pass.now) (view c.draw_as-word.new.pass) can.1 c.draw_as-word.ensures.draws

pub decide-requires-clause-pass : goal.decide-requires-clause-pass
decide-requires-clause-pass c =
    let can = c.requires.can in
    checked_active (view c.draw_as-word.new.pass) (view c.check_all.new.pass)
    (drawn_active (changes_of c.args.writes.now) c.draw_as-word.result (view c.args.pass.now) (view c.draw_as-word.new.pass)
    (sets_active c.args.sets.now c.args.found.now can.0 (view c.args.pass.now) can.1) c.draw_as-word.ensures.draws)
    c.in-Ok.ensures.checked

pub decide-requires-clause-checked : goal.decide-requires-clause-checked
decide-requires-clause-checked c = c.in-Ok.ensures.checked.can

pub publish_all-requires-clause-pass : goal.publish_all-requires-clause-pass
publish_all-requires-clause-pass c =
    let can = c.requires.can in
    let m = c.decide.ensures.decides in
    chosen_active m.0 (view c.check_all.new.pass) (view c.decide.new.pass)
    (checked_active (view c.draw_as-word.new.pass) (view c.check_all.new.pass)
    (drawn_active (changes_of c.args.writes.now) c.draw_as-word.result (view c.args.pass.now) (view c.draw_as-word.new.pass)
    (sets_active c.args.sets.now c.args.found.now can.0 (view c.args.pass.now) can.1) c.draw_as-word.ensures.draws)
    c.in-Ok.ensures.checked)
    m.1

pub publish_all-requires-clause-places : goal.publish_all-requires-clause-places
publish_all-requires-clause-places c =
    let can = c.requires.can in
    let m = c.decide.ensures.decides in
    chosen_places c.args.sets.now c.args.found.now c.args.writes.now (changes_of c.args.writes.now) c.draw_as-word.result m.0
    can.0
    (view c.args.pass.now) (view c.draw_as-word.new.pass) (view c.check_all.new.pass) (view c.decide.new.pass) can.1
    c.draw_as-word.ensures.draws c.requires.writes c.in-Ok.ensures.checked m.1

pub publish_all-requires-clause-ascending : goal.publish_all-requires-clause-ascending
publish_all-requires-clause-ascending c =
    sets_ascending c.args.sets.now c.args.writes.now c.requires.writes c.requires.ascending

pub publish_all-requires-clause-decided : goal.publish_all-requires-clause-decided
publish_all-requires-clause-decided c =
    let can = c.requires.can in
    let m = c.decide.ensures.decides in (
      c.args.found.now,
      chosen_decided c.args.sets.now c.args.found.now c.args.writes.now (changes_of c.args.writes.now) c.draw_as-word.result
          m.0 can.0
          (view c.args.pass.now) (view c.draw_as-word.new.pass) (view c.check_all.new.pass) (view c.decide.new.pass) can.1
          c.draw_as-word.ensures.draws refl c.requires.writes c.in-Ok.ensures.checked m.1,
    )

pub returns-in-Ok-clause-commits : goal.returns-in-Ok-clause-commits
returns-in-Ok-clause-commits c = λ v can.
    let m = c.decide.ensures.decides in
    subst (λ (l : List Change). HasCommitted l c.number_of.result v (view c.leave_all.new.pass))
    (ap changes_of c.requires.writes)
    (all_committed c.args.sets.now c.args.found.now c.args.writes.now (changes_of c.args.writes.now) c.draw_as-word.result m.0
    c.number_of.result v (view c.args.pass.now) (view c.draw_as-word.new.pass) (view c.check_all.new.pass)
    (view c.decide.new.pass) (view c.publish_all.new.pass) (view c.leave_all.new.pass) can c.draw_as-word.ensures.draws refl
    c.requires.writes c.in-Ok.ensures.checked m.1 c.publish_all.ensures.published c.leave_all.ensures.left
    c.number_of.ensures)

pub back_out-requires-clause-worker : goal.back_out-requires-clause-worker
back_out-requires-clause-worker c =
    let can = c.requires.can in
    failed_worker c.args.sets.now c.args.found.now (changes_of c.args.writes.now) c.draw_as-word.result can.0
    (view c.args.pass.now) (view c.draw_as-word.new.pass) (view c.check_all.new.pass) can.1 c.draw_as-word.ensures.draws
    c.in-Err.ensures.failed

pub back_out-requires-clause-places : goal.back_out-requires-clause-places
back_out-requires-clause-places c =
    let can = c.requires.can in
    check_places c.args.sets.now c.args.found.now c.args.writes.now (changes_of c.args.writes.now) c.draw_as-word.result can.0
    (view c.args.pass.now) (view c.draw_as-word.new.pass) (view c.check_all.new.pass) can.1 c.draw_as-word.ensures.draws
    c.requires.writes c.in-Err.ensures.failed

pub back_out-requires-clause-ascending : goal.back_out-requires-clause-ascending
back_out-requires-clause-ascending c =
    sets_ascending c.args.sets.now c.args.writes.now c.requires.writes c.requires.ascending

pub back_out-requires-clause-within : goal.back_out-requires-clause-within
back_out-requires-clause-within c =
    let can = c.requires.can in
    found_within c.args.sets.now c.args.found.now c.args.writes.now can.0 (view c.args.pass.now) can.1 c.requires.writes

pub back_out-requires-clause-locked : goal.back_out-requires-clause-locked
back_out-requires-clause-locked c =
    let can = c.requires.can in
    check_locks c.args.sets.now c.args.found.now c.args.writes.now (changes_of c.args.writes.now) c.draw_as-word.result can.0
    (view c.args.pass.now) (view c.draw_as-word.new.pass) (view c.check_all.new.pass) can.1 c.draw_as-word.ensures.draws
    c.requires.writes c.in-Err.ensures.failed

pub returns-in-Err-clause-cause : goal.returns-in-Err-clause-cause
returns-in-Err-clause-cause c = λ v can.
    check_cause c.args.sets.now c.args.found.now c.args.writes.now (changes_of c.args.writes.now)
    c.draw_as-word.result c.in-Err.conflict.word c.in-Err.conflict.expected c.in-Err.conflict.seen c.back_out.result v
    (view c.args.pass.now) (view c.draw_as-word.new.pass) (view c.check_all.new.pass) (view c.back_out.new.pass) can
    c.draw_as-word.ensures.draws c.in-Err.ensures.failed c.requires.writes c.in-Err.ensures.apart c.back_out.ensures.gives_up
    c.in-Err.ensures.conflict c.back_out.ensures.why

pub returns-in-Err-clause-refused : goal.returns-in-Err-clause-refused
returns-in-Err-clause-refused c = λ v can.
    check_refused c.args.sets.now c.args.found.now _ (changes_of c.args.writes.now) c.draw_as-word.result
    c.in-Err.conflict.word c.in-Err.conflict.expected c.in-Err.conflict.seen c.back_out.result v
    (view c.args.pass.now) (view c.draw_as-word.new.pass) (view c.check_all.new.pass) (view c.back_out.new.pass) can
    c.draw_as-word.ensures.draws c.in-Err.ensures.failed c.back_out.ensures.why c.in-Err.ensures.conflict
    c.back_out.ensures.gives_up

pub returns-in-Ok-clause-steps : goal.returns-in-Ok-clause-steps
returns-in-Ok-clause-steps c =
    let m = c.decide.ensures.decides in
    commits_steps (changes_of c.args.writes.now) c.draw_as-word.result m.0
    (checks_of c.args.sets.now) (length c.args.writes.now) (length c.args.holds.now)
    (view c.args.pass.now) (view c.draw_as-word.new.pass) (view c.check_all.new.pass) (view c.decide.new.pass)
    (view c.publish_all.new.pass) (view c.leave_all.new.pass) c.draw_as-word.ensures.draws c.in-Ok.ensures.steps m.1
    c.publish_all.ensures.steps c.leave_all.ensures.steps

pub returns-in-Err-clause-most : goal.returns-in-Err-clause-most
returns-in-Err-clause-most c =
    let can = c.requires.can in
    fails_steps (changes_of c.args.writes.now) c.draw_as-word.result
    (checks_of c.args.sets.now) (length c.args.writes.now) (length c.args.holds.now)
    (length c.args.found.now) (view c.args.pass.now) (view c.draw_as-word.new.pass) (view c.check_all.new.pass)
    (view c.back_out.new.pass) c.draw_as-word.ensures.draws c.in-Err.ensures.most
    (found_locks c.args.sets.now c.args.found.now c.args.writes.now can.0 (view c.args.pass.now) can.1
    c.requires.writes)
    c.back_out.ensures.steps

pub back_out-requires-clause-met : goal.back_out-requires-clause-met
back_out-requires-clause-met c =
    checked_met c.args.sets.now c.in-Err.conflict.word c.in-Err.conflict.expected c.in-Err.conflict.seen
    (view c.draw_as-word.new.pass) (view c.check_all.new.pass) c.in-Err.ensures.conflict

pub leave_all-requires-clause-pass : goal.leave_all-requires-clause-pass
leave_all-requires-clause-pass c =
    let can = c.requires.can in
    let m = c.decide.ensures.decides in
    published_active (view c.decide.new.pass) (view c.publish_all.new.pass)
    (chosen_active m.0 (view c.check_all.new.pass) (view c.decide.new.pass)
    (checked_active (view c.draw_as-word.new.pass) (view c.check_all.new.pass)
    (drawn_active (changes_of c.args.writes.now) c.draw_as-word.result (view c.args.pass.now) (view c.draw_as-word.new.pass)
    (sets_active c.args.sets.now c.args.found.now can.0 (view c.args.pass.now) can.1) c.draw_as-word.ensures.draws)
    c.in-Ok.ensures.checked)
    m.1)
    c.publish_all.ensures.published

pub leave_all-requires-clause-holds : goal.leave_all-requires-clause-holds
leave_all-requires-clause-holds c =
    let can = c.requires.can in
    let m = c.decide.ensures.decides in
    published_holds c.args.sets.now c.args.found.now c.args.holds.now (changes_of c.args.writes.now) c.draw_as-word.result
    m.0 can.0 (view c.args.pass.now) (view c.draw_as-word.new.pass) (view c.check_all.new.pass) (view c.decide.new.pass)
    (view c.publish_all.new.pass) can.1 c.draw_as-word.ensures.draws c.requires.holds c.in-Ok.ensures.checked m.1
    c.publish_all.ensures.published

pub leave_all-requires-clause-once : goal.leave_all-requires-clause-once
leave_all-requires-clause-once c = each_slice c.args.sets.now c.args.holds.now c.requires.holds c.requires.each

pub leave_all-requires-clause-kept : goal.leave_all-requires-clause-kept
leave_all-requires-clause-kept c =
    published_kept (view c.decide.new.pass) (view c.publish_all.new.pass) c.publish_all.ensures.published

pub back_out-requires-clause-gone : goal.back_out-requires-clause-gone
back_out-requires-clause-gone c =
    let can = c.requires.can in
    failed_gone c.args.sets.now c.args.found.now (changes_of c.args.writes.now) c.draw_as-word.result can.0
    (view c.args.pass.now) (view c.draw_as-word.new.pass) (view c.check_all.new.pass) can.1 c.draw_as-word.ensures.draws
    c.in-Err.ensures.failed

pub back_out-requires-clause-holds : goal.back_out-requires-clause-holds
back_out-requires-clause-holds c =
    let can = c.requires.can in
    failed_holds c.args.sets.now c.args.found.now c.args.holds.now (changes_of c.args.writes.now) c.draw_as-word.result can.0
    (view c.args.pass.now) (view c.draw_as-word.new.pass) (view c.check_all.new.pass) can.1 c.draw_as-word.ensures.draws
    c.requires.holds c.in-Err.ensures.failed

pub back_out-requires-clause-each : goal.back_out-requires-clause-each
back_out-requires-clause-each c = each_slice c.args.sets.now c.args.holds.now c.requires.holds c.requires.each

pub back_out-requires-clause-apart : goal.back_out-requires-clause-apart
back_out-requires-clause-apart c =
    let can = c.requires.can in
    found_apart c.args.sets.now c.args.found.now c.args.writes.now c.in-Err.conflict.word can.0 (view c.args.pass.now) can.1
    c.requires.writes c.in-Err.ensures.apart
