use Rattle.std.proofs.Common.{◌≡◌, ◌∙◌, Some, is_some, List, ℕ, ap, subst}
use Rattle.std.proofs.lemmas.Result.{err_from_is_err_and, on_err_weaker}
use Rattle.outside.specs.Disk.{Only}
use Rattle.outside.specs.Faults.{HasCause}
use Rattle.log_writer.proofs.Closing.{cause_handed, closed_already, closed_by, looked_at, none_done}
use Rattle.log_writer.proofs.Closing.{opened_again, still_there, synced_then, written_then}
use Rattle.log_writer.proofs.Flushes.{on_err, on_ok}
use Rattle.log_writer.proofs.save.close.Goals as goal

-- ---- the place can't be read

pub returns-in_err-found-clause-closed : goal.returns-in_err-found-clause-closed
returns-in_err-found-clause-closed g c =
    let p = err_from_is_err_and c.from_residual.result c.from_residual.ensures.1 in
    none_done _ c.from_residual.result p.0 p.1

pub returns-in_err-found-clause-durable : goal.returns-in_err-found-clause-durable
returns-in_err-found-clause-durable g c =
    let p = err_from_is_err_and c.from_residual.result c.from_residual.ensures.1 in
    none_done _ c.from_residual.result p.0 p.1

pub returns-in_err-found-clause-told : goal.returns-in_err-found-clause-told
returns-in_err-found-clause-told g c = ap is_some c.is_open.ensures.told

pub returns-in_err-found-clause-taken_back : goal.returns-in_err-found-clause-taken_back
returns-in_err-found-clause-taken_back g c = on_err c.from_residual.result (still_there c.args.at _ _ c.is_open.ensures.told)

pub returns-in_err-found-clause-any_moment : goal.returns-in_err-found-clause-any_moment
returns-in_err-found-clause-any_moment g c file told only = looked_at c.args.at file c.is_open.ensures.moments only

pub returns-in_err-found-clause-cause : goal.returns-in_err-found-clause-cause
returns-in_err-found-clause-cause g c =
    let p = err_from_is_err_and c.from_residual.result c.from_residual.ensures.1 in
    cause_handed _ _ c.from_residual.result _ p.0 p.1 c.in_err-found.ensures.cause

-- ---- it is open

pub returns-then-found-clause-closed : goal.returns-then-found-clause-closed
returns-then-found-clause-closed g c =
    closed_by (λ (f : List ℕ). g.D.Disk.tells c.write_or_take_back.new.disk ≡ Some f) (g.D.Disk.tells c.args.disk.now)
    (g.D.Disk.tells c.is_open.new.disk) c.args.at c.in_ok-found.found c.write_or_take_back.result c.is_open.ensures.told
    c.in_ok-found.ensures.is c.if-found.true c.write_or_take_back.ensures.written

pub returns-then-found-clause-durable : goal.returns-then-found-clause-durable
returns-then-found-clause-durable g c =
    closed_by (Only g.D.Disk.clock g.D.Disk.image_at c.write_or_take_back.new.disk) (g.D.Disk.tells c.args.disk.now)
    (g.D.Disk.tells c.is_open.new.disk) c.args.at c.in_ok-found.found c.write_or_take_back.result c.is_open.ensures.told
    c.in_ok-found.ensures.is c.if-found.true c.write_or_take_back.ensures.durable

pub returns-then-found-clause-told : goal.returns-then-found-clause-told
returns-then-found-clause-told g c = c.write_or_take_back.ensures.told ∙ ap is_some c.is_open.ensures.told

pub returns-then-found-clause-taken_back : goal.returns-then-found-clause-taken_back
returns-then-found-clause-taken_back g c = on_err_weaker c.write_or_take_back.result
    (opened_again c.args.at c.in_ok-found.found c.is_open.ensures.told c.in_ok-found.ensures.is c.if-found.true
    c.in_ok-found.ensures.cause.quiet) c.write_or_take_back.ensures.taken_back

pub returns-then-found-clause-any_moment : goal.returns-then-found-clause-any_moment
returns-then-found-clause-any_moment g c file told only =
    written_then c.args.at file c.in_ok-found.found (c.in_ok-found.ensures.is file told) c.if-found.true
    c.is_open.ensures.moments c.write_or_take_back.ensures.moments only

pub returns-then-found-clause-cause : goal.returns-then-found-clause-cause
returns-then-found-clause-cause g c =
    subst (λ n. HasCause n (g.D.Disk.faults c.write_or_take_back.new.disk) c.write_or_take_back.result)
    c.in_ok-found.ensures.cause.quiet c.write_or_take_back.ensures.cause

-- ---- it is closed

pub returns-clause-closed : goal.returns-clause-closed
returns-clause-closed g c =
    closed_already (λ (f : List ℕ). g.D.Disk.tells c.sync.new.self ≡ Some f) (g.D.Disk.tells c.args.disk.now)
    (g.D.Disk.tells c.is_open.new.disk) c.args.at c.in_ok-found.found c.sync.result c.is_open.ensures.told
    c.in_ok-found.ensures.is c.if-found.false (on_ok c.sync.result (λ file is. c.sync.ensures.told ∙ is))

pub returns-clause-durable : goal.returns-clause-durable
returns-clause-durable g c =
    closed_already (Only g.D.Disk.clock g.D.Disk.image_at c.sync.new.self) (g.D.Disk.tells c.args.disk.now)
    (g.D.Disk.tells c.is_open.new.disk) c.args.at c.in_ok-found.found c.sync.result c.is_open.ensures.told
    c.in_ok-found.ensures.is c.if-found.false c.sync.ensures.durable

pub returns-clause-told : goal.returns-clause-told
returns-clause-told g c = ap is_some (c.sync.ensures.told ∙ c.is_open.ensures.told)

pub returns-clause-taken_back : goal.returns-clause-taken_back
returns-clause-taken_back g c =
    on_err c.sync.result (still_there c.args.at _ _ (c.sync.ensures.told ∙ c.is_open.ensures.told))

pub returns-clause-any_moment : goal.returns-clause-any_moment
returns-clause-any_moment g c file told only =
    synced_then c.args.at file c.is_open.ensures.moments c.sync.ensures.goes.moments only

pub returns-clause-cause : goal.returns-clause-cause
returns-clause-cause g c =
    subst (λ n. HasCause n (g.D.Disk.faults c.sync.new.self) c.sync.result)
    c.in_ok-found.ensures.cause.quiet c.sync.ensures.goes.cause
