use Rattle.std.proofs.Common.{◌≡◌, take, map}
use Rattle.script_grammar.specs.FlatOps.{op_of}
use Rattle.script_grammar.proofs.flat_ops.FlatOps.fill.Given as goal

abbrev pub invariant-loop-flat : goal.invariant-loop-flat
invariant-loop-flat l = l.room ≡ map op_of (take l.flat-index l.flats)
