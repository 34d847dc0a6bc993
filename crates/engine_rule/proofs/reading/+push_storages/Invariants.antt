-- The declarations that are left.
use Rattle.std.proofs.Common.{length}
use Rattle.engine_rule.proofs.reading.+push_storages.Given as goal

abbrev pub decreases-push_storages : goal.decreases-push_storages
decreases-push_storages l = length l.decls.now
