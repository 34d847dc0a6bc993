-- The places of the indexes so far.
use Rattle.std.proofs.Common.{◌≡◌, ◌+◌, ◌*◌, ◌≤◌}
use Rattle.snapshot_store.specs.ArrayPages.{row}
use Rattle.engine_rule.proofs.below.row.Given as goal

abbrev pub invariant-loop-i : goal.invariant-loop-i
invariant-loop-i l = record {
  so_far : l.places ≡ row l.words l.part l.low l.i;
  next : l.next ≡ l.low + l.i * l.part;
  small : l.next ≤ l.low + l.i * 4294967296;
}
