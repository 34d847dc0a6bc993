-- The children so far do not have the key.
use Rattle.std.proofs.Common.{◌≡◌, drop}
use Rattle.drop_core.specs.Table.{child_of}
use Rattle.drop_core.proofs.queries.child_of.Given as goal

abbrev pub invariant-loop-child : goal.invariant-loop-child
invariant-loop-child l = child_of l.children l.key ≡ child_of (drop l.child-index l.children) l.key
