-- Each part is shorter than what it was cut from.
use Rattle.std.proofs.Common.{◌+◌, ◌*◌, length}
use Rattle.shared_rounds.proofs.cells.+parts.Given as goal

abbrev pub decreases-run_all : goal.decreases-run_all
decreases-run_all g l = 4 * length l.cells.now

abbrev pub decreases-run_both : goal.decreases-run_both
decreases-run_both g l = 4 * length l.rest.now + 2

abbrev pub decreases-run_both-here : goal.decreases-run_both-here
decreases-run_both-here g l = 4 * length l.rest.now + 1
