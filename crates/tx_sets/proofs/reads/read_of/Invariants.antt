-- What is found among all is found among those that are left.
use Rattle.std.proofs.Common.{◌≡◌, ◌-◌, length, drop}
use Rattle.tx_sets.specs.Entries.{read_of}
use Rattle.tx_sets.proofs.reads.read_of.Given as goal

abbrev pub invariant-loop-at : goal.invariant-loop-at
invariant-loop-at l = read_of l.key l.entries ≡ read_of l.key (drop l.at l.entries)

abbrev pub decreases-loop-at : goal.decreases-loop-at
decreases-loop-at l = length l.entries - l.at
