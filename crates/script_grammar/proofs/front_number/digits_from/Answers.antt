use Rattle.std.proofs.Common.{arith}
use Rattle.script_grammar.proofs.FrontNumbers.{more_digits}
use Rattle.script_grammar.proofs.front_number.digits_from.Goals as goal

pub loop-at-preserved : goal.loop-at-preserved
loop-at-preserved c = λ start before.
    more_digits c.args.bytes.now start c.loop-at.at c.loop-at.value c.digit_at-digit.result (c.loop-at.invariant start before) (omega arith) (c.digit_at-digit.ensures (omega arith))
