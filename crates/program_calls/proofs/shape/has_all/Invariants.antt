-- The wanted storages so far are among the others.
use Rattle.std.proofs.Common.{ℕ, ◌<◌, get_or}
use Rattle.std.specs.List.{Contains}
use Rattle.serial_model.specs.declared.decl.Decl.{Decl}
use Rattle.program_calls.proofs.shape.has_all.Given as goal

abbrev pub invariant-loop-index : goal.invariant-loop-index
invariant-loop-index l = (k : ℕ) (d : Decl) → k < l.index → Contains l.decls (get_or l.wanted k d)
