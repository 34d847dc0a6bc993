-- The sum so far and the values that are left, each of which is below 2^64.
use Rattle.std.proofs.Common.{◌≡◌, ◌+◌, ◌*◌, ◌≤◌, length}
use Rattle.std.specs.Prelude.{sum_by}
use Rattle.std.specs.FinMap.{entries}
use Rattle.brief_output.specs.Brief.{total_of}
use Rattle.brief_output.proofs.total.total_of.Given as goal

abbrev pub invariant-loop-value : goal.invariant-loop-value
invariant-loop-value l =
    (l.total + sum_by (λ e. e.1) l.value-iterator ≡ total_of l.state)
    × (l.total + 18446744073709551615 * length l.value-iterator ≤ 18446744073709551615 * length (entries l.state))
