use Rattle.std.proofs.Common.{◌==◌, ap, ℕ}
use Rattle.std.proofs.lemmas.Result.{err_from_is_err_and}
use Rattle.wire_form.specs.Savepoint.{valid_byte}
use Rattle.log_writer.proofs.Closing.{cause_handed, cause_told, read_byte}
use Rattle.log_writer.proofs.save.is_open.Goals as goal

pub returns-in_err-read-clause-told : goal.returns-in_err-read-clause-told
returns-in_err-read-clause-told g c = c.read.ensures.told

pub returns-in_err-read-clause-moments : goal.returns-in_err-read-clause-moments
returns-in_err-read-clause-moments g c = c.read.ensures.goes.moments

pub returns-in_err-read-clause-cause : goal.returns-in_err-read-clause-cause
returns-in_err-read-clause-cause g c =
    let p = err_from_is_err_and c.from_residual.result c.from_residual.ensures.1 in
    cause_handed _ _ c.from_residual.result _ p.0 p.1 c.in_err-read.ensures.goes.cause

pub returns-clause-is : goal.returns-clause-is
returns-clause-is g c file told =
    let value = c.in_ok-read.ensures.value file told in
    ap (λ (x : ℕ). x == valid_byte) (read_byte c.args.at _ file c.read.new.buf (c.requires file told) value.0 value.1)

pub returns-clause-told : goal.returns-clause-told
returns-clause-told g c = c.read.ensures.told

pub returns-clause-moments : goal.returns-clause-moments
returns-clause-moments g c = c.read.ensures.goes.moments

pub returns-clause-cause : goal.returns-clause-cause
returns-clause-cause g c = cause_told _ _ _ _ c.in_ok-read.ensures.goes.cause
