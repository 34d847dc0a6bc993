-- The homes of the keys so far.
use Rattle.std.proofs.Common.{◌≡◌, map, take}
use Rattle.drop_core.specs.Table.{child_of, snap_home}
use Rattle.engine_rule.proofs.opening.opening_homes.Given as goal

abbrev pub invariant-loop-key : goal.invariant-loop-key
invariant-loop-key l = l.homes ≡ map (λ k. (k, snap_home l.table (child_of l.roots k) k)) (take l.key-index l.keys)
