-- What the pages have for the keys so far.
use Rattle.std.proofs.Common.{◌≡◌, take}
use Rattle.drop_core.specs.Table.{child_of, snap_home}
use Rattle.engine_rule.specs.Pairs.{pairs_for}
use Rattle.engine_rule.proofs.opening.opening_pairs.Given as goal

abbrev pub invariant-loop-key : goal.invariant-loop-key
invariant-loop-key l = l.pairs.items ≡ pairs_for (λ k. snap_home l.table (child_of l.roots k) k) (take l.key-index l.keys)
