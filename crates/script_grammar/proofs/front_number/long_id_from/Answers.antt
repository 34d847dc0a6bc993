use Rattle.std.proofs.Common.{arith}
use Rattle.script_grammar.proofs.FrontNumbers.{first_digit, number_end, id_end}
use Rattle.script_grammar.proofs.front_number.long_id_from.Goals as goal

pub returns : goal.returns
returns c =
    let first = c.digit_at-first.result in
    let one = first_digit c.args.bytes.now c.args.start first (omega arith) (omega arith) (c.digit_at-first.ensures (omega arith)) in
    let near = c.in_ok-id.ensures.near in
    let number = number_end c.args.bytes.now c.args.start c.in_ok-id.end c.in_ok-id.id (c.in_ok-id.ensures.digits c.args.start one) (omega arith) (omega arith) in
    id_end c.args.bytes.now c.args.start c.in_ok-id.id c.in_ok-id.end number (omega arith) c.if-bytes-end-ne32.false (omega arith)
