use Rattle.std.proofs.Common.{arith}
use Rattle.script_grammar.proofs.FrontNumbers.{id_one}
use Rattle.script_grammar.proofs.front_number.id_from.Goals as goal

pub returns : goal.returns
returns c =
    id_one c.args.bytes.now c.args.start c.digit_at-digit.result (omega arith) (c.digit_at-digit.ensures (omega arith)) (omega arith) c.if-bytes-start-ne32.false
