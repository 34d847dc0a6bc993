use Rattle.std.proofs.Common.{length, arith}
use Rattle.engine_pages.specs.Passes.{view}
use Rattle.page_commit.proofs.PointerLaws.{heads_caused, heads_failed, heads_for, most_both, pointers_active, steps_both}
use Rattle.page_commit.proofs.checking.check_rest.Goals as goal

pub check_headers-requires-clause-pass : goal.check_headers-requires-clause-pass
check_headers-requires-clause-pass c =
    let s = c.requires.so in
    pointers_active c.args.sets.now s.0 (view c.args.pass.now) (view c.check_pointers.new.pass) c.requires.pass s.2
    (c.in-Ok.ensures.checked s.0 s.1 s.2)

pub check_headers-requires-clause-so : goal.check_headers-requires-clause-so
check_headers-requires-clause-so c =
    let s = c.requires.so in (s.0, s.1, c.in-Ok.ensures.checked s.0 s.1 s.2)

pub returns-in-Ok-clause-checked : goal.returns-in-Ok-clause-checked
returns-in-Ok-clause-checked c =
    heads_for c.check_headers.result c.args.sets.now (view c.args.pass.now) (view c.check_pointers.new.pass)
    (view c.check_headers.new.pass) c.in-Ok.ensures.checked c.check_headers.ensures.checked

pub returns-in-Ok-clause-failed : goal.returns-in-Ok-clause-failed
returns-in-Ok-clause-failed c =
    heads_failed c.check_headers.result c.args.sets.now (view c.args.pass.now) (view c.check_pointers.new.pass)
    (view c.check_headers.new.pass) c.in-Ok.ensures.checked c.check_headers.ensures.failed

pub returns-in-Ok-clause-conflict : goal.returns-in-Ok-clause-conflict
returns-in-Ok-clause-conflict c =
    heads_caused c.check_headers.result c.args.sets.now (view c.args.pass.now) (view c.check_pointers.new.pass)
    (view c.check_headers.new.pass) c.in-Ok.ensures.checked c.check_headers.ensures.conflict

pub returns-in-Ok-clause-steps : goal.returns-in-Ok-clause-steps
returns-in-Ok-clause-steps c =
    steps_both c.check_headers.result (length c.args.sets.now.pointers) (length c.args.sets.now.headers)
    (view c.args.pass.now) (view c.check_pointers.new.pass) (view c.check_headers.new.pass) c.in-Ok.ensures.steps
    c.check_headers.ensures.steps

pub returns-in-Ok-clause-most : goal.returns-in-Ok-clause-most
returns-in-Ok-clause-most c =
    most_both c.check_headers.result (length c.args.sets.now.pointers) (length c.args.sets.now.headers)
    (view c.args.pass.now) (view c.check_pointers.new.pass) (view c.check_headers.new.pass) c.in-Ok.ensures.steps
    c.check_headers.ensures.most

pub returns-in-Err-clause-most : goal.returns-in-Err-clause-most
returns-in-Err-clause-most c = let most = c.in-Err.ensures.most in omega (arith, most)
