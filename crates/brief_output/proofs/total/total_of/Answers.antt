-- The values that are left have a sum that fits.
use Rattle.std.proofs.Common.{ap, arith, length}
use Rattle.std.specs.FinMap.{len-entries}
use Rattle.brief_output.proofs.total.total_of.Goals as goal

pub overflow_add-total : goal.overflow_add-total
overflow_add-total c =
    let lengths = ap length c.in-Some.ensures.steps in
    omega (arith, lengths, c.loop-value.invariant.1, c.len-values.ensures, len-entries c.args.state.now)
