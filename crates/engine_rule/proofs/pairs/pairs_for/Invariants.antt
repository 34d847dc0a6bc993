-- What the page has for the keys so far.
use Rattle.std.proofs.Common.{◌≡◌, take}
use Rattle.drop_core.specs.Table.{snap_home}
use Rattle.engine_rule.specs.Pairs.{pairs_for}
use Rattle.engine_rule.proofs.pairs.pairs_for.Given as goal

abbrev pub invariant-loop-key : goal.invariant-loop-key
invariant-loop-key l = l.pairs ≡ pairs_for (snap_home l.table l.page) (take l.key-index l.keys)
