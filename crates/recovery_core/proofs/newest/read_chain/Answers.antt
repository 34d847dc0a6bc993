-- The newest catalogue stands in front of those before it.
use Rattle.std.proofs.Common.{◌∷◌}
use Rattle.std.proofs.lemmas.Result.{err_from_is_err_and}
use Rattle.recovery_core.proofs.Exits.{handed_on}
use Rattle.recovery_core.proofs.newest.read_chain.Goals as goal

pub returns-in_err-marks-clause-breaks : goal.returns-in_err-marks-clause-breaks
returns-in_err-marks-clause-breaks c at same =
    let p = err_from_is_err_and c.from_residual-in_err-marks.result c.from_residual-in_err-marks.ensures.1 in
    let found = rw c.in-Some.is at c.in_ok-newest.ensures.found in
    let broken = c.in_err-marks.ensures.breaks at (handed_on _ _ _ p.0 p.1 p.2 same) in (
      c.in-Some.newest ∷ broken.0,
      (c.requires.first, record { here = found.0; epoch = found.1; decls = tt; first = found.2 }, broken.1),
    )

pub returns-clause-chain : goal.returns-clause-chain
returns-clause-chain c =
    let found = rw c.in-Some.is at c.in_ok-newest.ensures.found in
    let older = c.in_ok-marks.ensures.chain in (
      older.0,
      (c.requires.first, record { here = found.0; epoch = found.1; decls = tt; first = found.2 }, older.1),
      older.2,
    )
