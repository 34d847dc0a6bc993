-- Whose the first lines are.
use Rattle.std.proofs.Common.{◌≤◌, take}
use Rattle.round_engine.specs.Owners.{AreOwners}
use Rattle.round_engine.proofs.owners.owners_of.Given as goal

abbrev pub invariant-loop-index : goal.invariant-loop-index
invariant-loop-index l = record {
  are : AreOwners (take l.index l.round.lines) l.owners;
  few : l.owners.keeper ≤ l.index;
}
