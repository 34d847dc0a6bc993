use Rattle.std.proofs.Common.{length, arith, ◌+◌}
use Rattle.engine_pages.specs.Passes.{view}
use Rattle.page_commit.proofs.CheckLaws.{check_active}
use Rattle.page_commit.proofs.PointerLaws.{checked_for, conflict_for, failed_for, most_both, steps_both}
use Rattle.page_commit.proofs.checking.check_all.Goals as goal

pub check_rest-requires-clause-pass : goal.check_rest-requires-clause-pass
check_rest-requires-clause-pass c =
    check_active c.args.sets.now (length c.args.sets.now.reads) 0 (view c.args.pass.now) (view c.check_records.new.pass)
    c.requires.pass c.in-Ok.ensures.checked

pub check_rest-requires-clause-so : goal.check_rest-requires-clause-so
check_rest-requires-clause-so c = (view c.args.pass.now, c.requires.tried, c.in-Ok.ensures.checked)

pub returns-in-Ok-clause-checked : goal.returns-in-Ok-clause-checked
returns-in-Ok-clause-checked c =
    checked_for c.check_rest.result c.args.sets.now (view c.args.pass.now) (view c.check_records.new.pass)
    (view c.check_rest.new.pass) c.requires.tried c.in-Ok.ensures.checked c.check_rest.ensures.checked

pub returns-in-Ok-clause-failed : goal.returns-in-Ok-clause-failed
returns-in-Ok-clause-failed c =
    failed_for c.check_rest.result c.args.sets.now (view c.args.pass.now) (view c.check_records.new.pass)
    (view c.check_rest.new.pass) c.requires.tried c.in-Ok.ensures.checked c.check_rest.ensures.failed

pub returns-in-Ok-clause-conflict : goal.returns-in-Ok-clause-conflict
returns-in-Ok-clause-conflict c =
    conflict_for c.check_rest.result c.args.sets.now (view c.args.pass.now) (view c.check_records.new.pass)
    (view c.check_rest.new.pass) c.requires.tried c.in-Ok.ensures.checked c.check_rest.ensures.conflict

pub returns-in-Ok-clause-steps : goal.returns-in-Ok-clause-steps
returns-in-Ok-clause-steps c =
    steps_both c.check_rest.result (length c.args.sets.now.reads)
    (length c.args.sets.now.pointers + length c.args.sets.now.headers)
    (view c.args.pass.now) (view c.check_records.new.pass) (view c.check_rest.new.pass) c.in-Ok.ensures.steps
    c.check_rest.ensures.steps

pub returns-in-Ok-clause-most : goal.returns-in-Ok-clause-most
returns-in-Ok-clause-most c =
    most_both c.check_rest.result (length c.args.sets.now.reads)
    (length c.args.sets.now.pointers + length c.args.sets.now.headers)
    (view c.args.pass.now) (view c.check_records.new.pass) (view c.check_rest.new.pass) c.in-Ok.ensures.steps
    c.check_rest.ensures.most

pub returns-in-Err-clause-most : goal.returns-in-Err-clause-most
returns-in-Err-clause-most c = let most = c.in-Err.ensures.most in omega (arith, most)
