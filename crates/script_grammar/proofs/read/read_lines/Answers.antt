use Rattle.std.proofs.Common.{◌≡◌, ◌+◌, List, arith, sym, subst}
use Rattle.std.specs.Prelude.{◌==◌}
use Rattle.std.specs.List.{slice_split}
use Rattle.std.proofs.lemmas.Result.{err_from_is_err_and}
use Rattle.script_grammar.specs.Script.{Bytes}
use Rattle.script_grammar.proofs.FirstFault.{AreReadSoFar, no_line_yet, front_read, line_read, stops, last_line}
use Rattle.script_grammar.proofs.read.read_lines.Goals as goal

abbrev split : Bytes → List Bytes
split bytes = slice_split (λ b. b == 10) bytes

pub loop-line-init : goal.loop-line-init
loop-line-init c =
    let leaves = c.in_ok-number.ensures in
    let bytes : Bytes = c.args.bytes.now in
    let rest : Bytes = c.in_ok-number.rest.now in
    let count = c.in_ok-number.number in
    let begun : AreReadSoFar (split bytes) (split bytes) 1 c.args.reader.now = subst (AreReadSoFar (split bytes) (split bytes) 1) (sym c.requires.fresh) (no_line_yet (split bytes)) in
    let next : 1 + count ≡ count + 1 = omega arith in
    record {
      so_far = subst (λ n. AreReadSoFar (split bytes) (split rest) n c.read_front.new.reader) next
          (front_read (split bytes) bytes rest 1 count c.args.reader.now c.read_front.new.reader leaves begun);
      small = omega (arith, leaves.shorter);
    }

pub returns-in_err-step : goal.returns-in_err-step
returns-in_err-step c =
    let p = err_from_is_err_and c.from_residual-in_err-step.result c.from_residual-in_err-step.ensures.1 in
    rw (p.1, p.2)
    (stops (Unit {0}) c.in_err-step.field-0.0 (split c.args.bytes.now) (split c.loop-line.rest.now) (c.loop-line.number + 1) c.loop-line.reader c.step.new.self c.step.new.self c.in-Some.line.now
    (split c.in-Some.after.now) c.in-Some.ensures.parts c.in_err-step.ensures c.loop-line.invariant.so_far)

pub loop-line-preserved : goal.loop-line-preserved
loop-line-preserved c =
    let bytes : Bytes = c.args.bytes.now in
    let after : Bytes = c.in-Some.after.now in
    let others : Bytes = c.in_ok-count.others.now in
    let number = c.loop-line.number in
    let count = c.in_ok-count.count in
    let leaves = c.in_ok-count.ensures in
    let one = line_read (split bytes) (split c.loop-line.rest.now) (number + 1) c.loop-line.reader c.step.new.self c.in-Some.line.now (split after) c.in-Some.ensures.parts c.in_ok-step.ensures
    c.loop-line.invariant.so_far in
    let more = front_read (split bytes) after others (number + 1 + 1) count c.step.new.self c.read_front-in-Some.new.reader leaves one in
    let next : number + 1 + 1 + count ≡ number + (1 + count) + 1 = omega arith in
    record {
      so_far = subst (λ n. AreReadSoFar (split bytes) (split others) n c.read_front-in-Some.new.reader) next more;
      small = omega (arith, leaves.shorter, c.in-Some.ensures.shorter, c.loop-line.invariant.small);
    }

pub returns : goal.returns
returns c =
    last_line c.step-2.result (split c.args.bytes.now) (split c.loop-line.rest.now) (c.loop-line.number + 1) c.loop-line.reader c.step-2.new.self c.loop-line.rest.now c.in_default.ensures.parts c.step-2.ensures
    c.loop-line.invariant.so_far
