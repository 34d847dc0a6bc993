-- The devices were synced, and the byte was written again.
use Rattle.std.proofs.Common.{◌∙◌, Err, ap}
use Rattle.std.proofs.lemmas.Result.{err_from_is_err_and}
use Rattle.joint_crashes.proofs.TakingOver.{kept_behind, taken, unsynced, unwritten}
use Rattle.joint_crashes.proofs.syncing.take_over.Goals as goal

pub returns-in_err-sync_all : goal.returns-in_err-sync_all
returns-in_err-sync_all g c =
    let p = err_from_is_err_and c.from_residual.result c.from_residual.ensures.1 in
    unsynced c.from_residual.result c.in_err-sync_all.field-0.0 (p.1 ∙ ap Err p.2) c.in_err-sync_all.ensures

pub returns-in-Ok : goal.returns-in-Ok
returns-in-Ok g c =
    let again = c.in-Ok.ensures in
    taken c.write_again.new.disk tt tt c.in_ok-sync_all.ensures
    (kept_behind c.sync_all.ensures.reads again.tells again.any_moment again.unnamed) again.settled
    again.told again.cause.quiet

pub returns-in-Err : goal.returns-in-Err
returns-in-Err g c =
    let again = c.in-Err.ensures in
    unwritten c.write_again.new.disk tt c.in_ok-sync_all.ensures
    (kept_behind c.sync_all.ensures.reads again.tells again.any_moment again.unnamed)
    again.cause.failed
