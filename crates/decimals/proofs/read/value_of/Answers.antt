use Rattle.std.proofs.Common.{sym, arith}
use Rattle.decimals.proofs.Values.{digit_from_48, value_more, too_great, is_value}
use Rattle.decimals.proofs.read.value_of.Goals as goal

pub overflow_sub-digit : goal.overflow_sub-digit
overflow_sub-digit c = digit_from_48 c.args.digits.now c.loop-digit.digit-index c.requires c.loop-digit-test.true

pub returns-in_err-checked_mul : goal.returns-in_err-checked_mul
returns-in_err-checked_mul c =
    let more = value_more c.args.digits.now c.loop-digit.digit-index c.requires c.loop-digit-test.true in
    rw c.from_residual.ensures (sym (too_great c.args.digits.now c.loop-digit.digit-index (omega (arith, more, c.in_err-checked_mul.ensures))))

pub returns-in_err-value : goal.returns-in_err-value
returns-in_err-value c =
    let more = value_more c.args.digits.now c.loop-digit.digit-index c.requires c.loop-digit-test.true in
    rw c.from_residual-in_err-value.ensures
    (sym (too_great c.args.digits.now c.loop-digit.digit-index (omega (arith, more, c.in_ok-checked_mul.ensures, c.in_err-value.ensures))))

pub loop-digit-preserved : goal.loop-digit-preserved
loop-digit-preserved c =
    let more = value_more c.args.digits.now c.loop-digit.digit-index c.requires c.loop-digit-test.true in
    (omega (arith, c.in_ok-value.ensures), omega (arith, more, c.in_ok-checked_mul.ensures, c.in_ok-value.ensures))

pub returns : goal.returns
returns c = sym (is_value c.args.digits.now c.loop-digit.digit-index c.loop-digit.value (omega arith) c.loop-digit.invariant.1 c.loop-digit.invariant.0)
