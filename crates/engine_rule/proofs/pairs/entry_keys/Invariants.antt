-- The keys of the entries so far.
use Rattle.std.proofs.Common.{◌≡◌, map, take}
use Rattle.engine_rule.proofs.pairs.entry_keys.Given as goal

abbrev pub invariant-loop-entry : goal.invariant-loop-entry
invariant-loop-entry l = l.keys ≡ map (λ e. e.0) (take l.entry-index l.entries)
