use Rattle.std.proofs.Common.{◌+◌, ◌*◌, arith}
use Rattle.script_grammar.proofs.FrontNumbers.{number_one, number_end, two_digits, digit_more}
use Rattle.script_grammar.proofs.front_number.number_from.Goals as goal

pub returns-then-second-gt9 : goal.returns-then-second-gt9
returns-then-second-gt9 c = number_one c.args.bytes.now c.args.start c.digit_at-first.result (omega arith) (c.digit_at-first.ensures (omega arith))

pub returns-then-third-gt9 : goal.returns-then-third-gt9
returns-then-third-gt9 c =
    let first = c.digit_at-first.result in
    let second = c.digit_at-second.result in
    let two = two_digits c.args.bytes.now c.args.start first second (omega arith) (omega arith) (c.digit_at-first.ensures (omega arith)) (omega arith) (c.digit_at-second.ensures (omega arith)) in
    number_end c.args.bytes.now c.args.start (c.args.start + 2) (first * 10 + second) two (omega arith) (omega arith)

pub returns-then-fourth-gt9 : goal.returns-then-fourth-gt9
returns-then-fourth-gt9 c =
    let first = c.digit_at-first.result in
    let second = c.digit_at-second.result in
    let third = c.digit_at-third.result in
    let two = two_digits c.args.bytes.now c.args.start first second (omega arith) (omega arith) (c.digit_at-first.ensures (omega arith)) (omega arith) (c.digit_at-second.ensures (omega arith)) in
    let three = digit_more c.args.bytes.now c.args.start 2 (first * 10 + second) third two (omega arith) (c.digit_at-third.ensures (omega arith)) in
    number_end c.args.bytes.now c.args.start (c.args.start + 3) ((first * 10 + second) * 10 + third) three (omega arith) (omega arith)

pub returns : goal.returns
returns c =
    let first = c.digit_at-first.result in
    let second = c.digit_at-second.result in
    let third = c.digit_at-third.result in
    let fourth = c.digit_at-fourth.result in
    let two = two_digits c.args.bytes.now c.args.start first second (omega arith) (omega arith) (c.digit_at-first.ensures (omega arith)) (omega arith) (c.digit_at-second.ensures (omega arith)) in
    let three = digit_more c.args.bytes.now c.args.start 2 (first * 10 + second) third two (omega arith) (c.digit_at-third.ensures (omega arith)) in
    let four = digit_more c.args.bytes.now c.args.start 3 ((first * 10 + second) * 10 + third) fourth three (omega arith) (c.digit_at-fourth.ensures (omega arith)) in
    let near = c.in_ok-value.ensures.near in
    number_end c.args.bytes.now c.args.start c.in_ok-value.end c.in_ok-value.value (c.in_ok-value.ensures.digits c.args.start four) (omega arith) (omega arith)
