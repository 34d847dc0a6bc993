-- What the rounds came to was told, with their sum, where it can be read.
use Rattle.std.proofs.lemmas.Result.{err_from_is_err_and}
use Rattle.std.proofs.Common.{refl}
use Rattle.program_calls.proofs.Briefs.{is_none, is_so, tells_broke, tells_none, tells_sum}
use Rattle.program_calls.proofs.brief.tell_in_brief.Goals as goal

pub returns-then-not-teller-clause-tells : goal.returns-then-not-teller-clause-tells
returns-then-not-teller-clause-tells g c = λ was rans is.
    tells_none _ _ rans c.args.teller.tally c.args.ended _ is (is_none _ c.if-not-teller.true) refl

pub returns-in_err-put_brief-clause-tells : goal.returns-in_err-put_brief-clause-tells
returns-in_err-put_brief-clause-tells g c =
    let p = err_from_is_err_and c.from_residual.result c.from_residual.ensures.1 in
    rw p.1 (λ was rans is.
    tells_broke _ _ rans c.args.teller.tally c.args.ended c.read_total-total.result.0 c.read_total-total.result.1
    _ _ _ is (is_so _ c.if-not-teller.false) (c.read_total-total.ensures.total was) c.in_err-put_brief.ensures)

pub returns-clause-tells : goal.returns-clause-tells
returns-clause-tells g c = λ was rans is.
    tells_sum _ _ rans c.args.teller.tally c.args.ended c.ended_behind.result c.read_total-total.result.0
    c.read_total-total.result.1 _ _ tt is (is_so _ c.if-not-teller.false) (c.read_total-total.ensures.total was)
    c.ended_behind.ensures c.in_ok-put_brief.ensures
