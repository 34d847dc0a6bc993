-- The keys that are left.
use Rattle.std.proofs.Common.{length}
use Rattle.drop_core.proofs.stands.+each_once.Given as goal

abbrev pub decreases-each_once : goal.decreases-each_once
decreases-each_once l = length l.keys.now
