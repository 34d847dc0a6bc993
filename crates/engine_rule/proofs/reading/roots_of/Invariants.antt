-- The roots so far.
use Rattle.std.proofs.Common.{◌≡◌, take}
use Rattle.engine_rule.specs.Reading.{roots_of}
use Rattle.engine_rule.proofs.reading.roots_of.Given as goal

abbrev pub invariant-loop-storage : goal.invariant-loop-storage
invariant-loop-storage l = l.roots ≡ roots_of l.places (take l.storage-index l.storages)
