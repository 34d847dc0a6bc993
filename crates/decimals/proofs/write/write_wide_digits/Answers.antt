-- Each turn writes one more digit.
use Rattle.std.proofs.Common.{arith, refl}
use Rattle.decimals.proofs.WrittenDigits.{in_39_digits, last_digit, next_digit, no_digit_yet}
use Rattle.decimals.proofs.write.write_wide_digits.Goals as goal

pub loop-left-init : goal.loop-left-init
loop-left-init c = no_digit_yet 39 25 c.args.n c.args.digits.now (omega arith) refl (in_39_digits c.args.n c.ranges.n.fits) c.told-digits

pub returns-then-left-eq0-clause-digits : goal.returns-then-left-eq0-clause-digits
returns-then-left-eq0-clause-digits c =
    last_digit 39 25 c.args.n c.loop-left.left c.loop-left.start c.loop-left.digits c.loop-left.invariant c.if-left-eq0.true

pub loop-left-preserved : goal.loop-left-preserved
loop-left-preserved c =
    next_digit 39 25 c.args.n c.loop-left.left c.loop-left.start c.loop-left.digits c.loop-left.invariant c.if-left-eq0.false
