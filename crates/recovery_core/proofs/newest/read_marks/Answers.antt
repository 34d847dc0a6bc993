-- What the catalogues before it answer is handed on.
use Rattle.std.proofs.lemmas.Result.{err_from_is_err_and}
use Rattle.recovery_core.proofs.Exits.{handed_on}
use Rattle.recovery_core.proofs.newest.read_marks.Goals as goal

pub returns-in_err-read_before-clause-breaks : goal.returns-in_err-read_before-clause-breaks
returns-in_err-read_before-clause-breaks c at same =
    let p = err_from_is_err_and c.from_residual-in_err-read_before.result c.from_residual-in_err-read_before.ensures.1
    in
    c.in_err-read_before.ensures.breaks at (handed_on _ _ _ p.0 p.1 p.2 same)
