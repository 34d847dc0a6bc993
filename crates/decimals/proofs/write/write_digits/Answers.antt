-- Each turn writes one more digit.
use Rattle.std.proofs.Common.{arith, refl}
use Rattle.decimals.proofs.WrittenDigits.{in_20_digits, last_digit, next_digit, no_digit_yet}
use Rattle.decimals.proofs.write.write_digits.Goals as goal

pub loop-rest-init : goal.loop-rest-init
loop-rest-init c = no_digit_yet 20 44 c.args.n c.args.digits.now (omega arith) refl (in_20_digits c.args.n c.ranges.n.fits) c.told-digits

pub returns-then-rest-eq0-clause-digits : goal.returns-then-rest-eq0-clause-digits
returns-then-rest-eq0-clause-digits c =
    last_digit 20 44 c.args.n c.loop-rest.rest c.loop-rest.start c.loop-rest.digits c.loop-rest.invariant c.if-rest-eq0.true

pub loop-rest-preserved : goal.loop-rest-preserved
loop-rest-preserved c =
    next_digit 20 44 c.args.n c.loop-rest.rest c.loop-rest.start c.loop-rest.digits c.loop-rest.invariant c.if-rest-eq0.false
