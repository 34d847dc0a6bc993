-- The pages that the way may still have.
use Rattle.drop_core.proofs.table.Table.+home_within.Given as goal

abbrev pub decreases-home_within : goal.decreases-home_within
decreases-home_within l = l.most
