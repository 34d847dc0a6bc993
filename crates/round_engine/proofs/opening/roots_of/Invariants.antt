-- The roots so far are the first ones.
use Rattle.std.proofs.Common.{◌≡◌, map, take}
use Rattle.round_engine.specs.FirstRecords.{root_in}
use Rattle.round_engine.proofs.opening.roots_of.Given as goal

abbrev pub invariant-loop-i : goal.invariant-loop-i
invariant-loop-i l = l.roots ≡ take l.i (map root_in l.storages)
