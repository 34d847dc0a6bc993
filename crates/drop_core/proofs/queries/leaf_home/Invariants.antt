-- The keys so far are others.
use Rattle.std.proofs.Common.{◌≡◌, drop}
use Rattle.drop_core.specs.Table.{leaf_home}
use Rattle.drop_core.proofs.queries.leaf_home.Given as goal

abbrev pub invariant-loop-k : goal.invariant-loop-k
invariant-loop-k l = record {
  count : l.index ≡ l.k-index;
  rest : leaf_home l.slot 0 l.keys l.key ≡ leaf_home l.slot l.index (drop l.index l.keys) l.key;
}
