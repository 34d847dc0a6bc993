use Rattle.std.specs.Prelude.{Err}
use Rattle.std.proofs.Common.{◌≡◌, ap, ◌∙◌, arith}
use Rattle.std.proofs.lemmas.Result.{err_from_is_err_and}
use Rattle.engine_pages.specs.Passes.{view}
use Rattle.page_commit.specs.Committing.{changes_of, kept_writes}
use Rattle.tx_runner.proofs.Commits.{try_committed}
use Rattle.tx_runner.proofs.Refusals.{begin_refused, commit_refused, op_refused}
use Rattle.tx_runner.proofs.Standing.{begins_stands, run_stands, run_last, begun_below, begun_fits}
use Rattle.tx_runner.proofs.Standing.{try_refused, try_took}
use Rattle.tx_runner.proofs.tries.try_line.Goals as goal

pub returns-clause-commits : goal.returns-clause-commits
returns-clause-commits c =
    let a = c.in_ok-verdict.ensures.answers in
    try_committed c.args.ops.now c.in_ok-verdict.verdict c.run_ops.new.replies
    (record { number = c.in_ok-room.field-0; changes = c.commit.new.changes })
    c.run_ops.new.txn.sets
    (view c.args.pass.now) (view c.run_ops.new.pass) (view c.commit.new.pass)
    (run_stands c.args.ops.now c.begin.new.self.sets (view c.args.pass.now) (view c.begin.new.pass)
    (view c.run_ops.new.pass) c.in_ok-begin.ensures.begins a.only) a.keys a.run
    (c.in_ok-room.ensures.changes.are
    ∙ ap (λ b. changes_of (kept_writes b c.run_ops.new.txn.sets.writes)) c.keeps.ensures)
    c.in_ok-room.ensures.changes.rising c.in_ok-room.ensures.changes.few c.in_ok-room.ensures.commits
    (let took = c.in_ok-room.ensures.steps in omega (arith, took))
    (begun_below c.begin.new.self.sets (view c.args.pass.now) (view c.begin.new.pass) c.in_ok-begin.ensures.begins)
    (run_last c.args.ops.now c.begin.new.self.sets (view c.args.pass.now) (view c.begin.new.pass)
    (view c.run_ops.new.pass) c.requires.over c.in_ok-begin.ensures.begins a.only)

pub returns-clause-steps : goal.returns-clause-steps
returns-clause-steps c =
    let a = c.in_ok-verdict.ensures.answers in
    try_took c.args.ops.now c.keeps.result c.begin.new.self.sets c.run_ops.new.txn.sets (view c.args.pass.now)
    (view c.begin.new.pass) (view c.run_ops.new.pass) (view c.commit.new.pass) c.in_ok-begin.ensures.begins
    c.run_ops.ensures.steps a.sized c.has_room.ensures (let took = c.in_ok-room.ensures.steps in omega (arith, took))

pub returns-in_err-begin-clause-refused : goal.returns-in_err-begin-clause-refused
returns-in_err-begin-clause-refused c =
    let p = err_from_is_err_and c.from_residual.result c.from_residual.ensures.1 in
    let told : c.from_residual.result ≡ Err c.in_err-begin.field-0.0 = let a = p.1 in let b = p.2 in cc in
    rw told (begin_refused c.args.ops.now c.in_err-begin.field-0.0 (view c.args.pass.now) (view c.begin.new.pass)
    c.in_err-begin.ensures.refused)

pub returns-in_err-begin-clause-steps : goal.returns-in_err-begin-clause-steps
returns-in_err-begin-clause-steps c = let one = c.in_err-begin.ensures.refused.steps in omega (arith, one)

pub run_ops-requires-clause-fitting : goal.run_ops-requires-clause-fitting
run_ops-requires-clause-fitting c = begun_fits c.args.ops.now c.begin.new.self.sets (view c.args.pass.now)
    (view c.begin.new.pass) c.in_ok-begin.ensures.begins c.requires.fitting

pub returns-in_err-verdict-clause-refused : goal.returns-in_err-verdict-clause-refused
returns-in_err-verdict-clause-refused c =
    let p = err_from_is_err_and c.from_residual-in_err-verdict.result c.from_residual-in_err-verdict.ensures.1 in
    let told : c.from_residual-in_err-verdict.result ≡ Err c.in_err-verdict.field-0.0 =
    let a = p.1 in let b = p.2 in cc in
    rw told (op_refused c.args.ops.now c.in_err-verdict.field-0.0 (view c.args.pass.now) (view c.begin.new.pass)
    (view c.run_ops.new.pass)
    (begun_below c.begin.new.self.sets (view c.args.pass.now) (view c.begin.new.pass) c.in_ok-begin.ensures.begins)
    (begins_stands c.args.ops.now c.begin.new.self.sets (view c.args.pass.now) (view c.begin.new.pass)
    c.in_ok-begin.ensures.begins)
    c.in_err-verdict.ensures.refused c.in_err-verdict.ensures.cause)

pub returns-in_err-verdict-clause-steps : goal.returns-in_err-verdict-clause-steps
returns-in_err-verdict-clause-steps c =
    try_refused c.args.ops.now c.begin.new.self.sets (view c.args.pass.now) (view c.begin.new.pass)
    (view c.run_ops.new.pass) c.in_ok-begin.ensures.begins c.run_ops.ensures.steps

pub returns-in_err-room-clause-refused : goal.returns-in_err-room-clause-refused
returns-in_err-room-clause-refused c =
    let a = c.in_ok-verdict.ensures.answers in
    let p = err_from_is_err_and c.from_residual-in_err-room.result c.from_residual-in_err-room.ensures.1 in
    let told : c.from_residual-in_err-room.result ≡ Err c.in_err-room.field-0.0 =
    let a = p.1 in let b = p.2 in cc in
    rw told (commit_refused c.args.ops.now c.in_err-room.field-0.0 c.run_ops.new.txn.sets c.keeps.result
    (view c.args.pass.now)
    (view c.run_ops.new.pass) (view c.commit.new.pass)
    (begun_below c.begin.new.self.sets (view c.args.pass.now) (view c.begin.new.pass) c.in_ok-begin.ensures.begins)
    (run_stands c.args.ops.now c.begin.new.self.sets (view c.args.pass.now) (view c.begin.new.pass)
    (view c.run_ops.new.pass) c.in_ok-begin.ensures.begins a.only) a.keys a.live c.in_err-room.ensures.refused
    c.in_err-room.ensures.cause)

pub returns-in_err-room-clause-steps : goal.returns-in_err-room-clause-steps
returns-in_err-room-clause-steps c =
    let a = c.in_ok-verdict.ensures.answers in
    try_took c.args.ops.now c.keeps.result c.begin.new.self.sets c.run_ops.new.txn.sets (view c.args.pass.now)
    (view c.begin.new.pass) (view c.run_ops.new.pass) (view c.commit.new.pass) c.in_ok-begin.ensures.begins
    c.run_ops.ensures.steps a.sized c.has_room.ensures c.in_err-room.ensures.most
