-- Operations as they lie in memory.
use Rattle.std.specs.Prelude.{ℕ, ◌+◌, ◌*◌, ◌^◌}
use Rattle.serial_model.specs.declared.key.Key.{Key}
use Rattle.serial_model.specs.declared.op.Op.{Op}
use Rattle.serial_model.specs.declared.op.Op.TheVariants as ops
use Rattle.script_grammar.specs.declared.flat_ops.Halves.{Halves}
use Rattle.script_grammar.specs.declared.flat_ops.FlatOp.{FlatOp}
use Rattle.script_grammar.specs.declared.flat_ops.OpKind.{OpKind}
use Rattle.script_grammar.specs.declared.flat_ops.OpKind.TheVariants.{Read, Write, Remove, Add, Take, Scan}

-- the number of two halves
abbrev pub wide : Halves → ℕ
wide n = n.low + 2 ^ 32 * n.high

-- the operation of a kind, with a key, and with the value of a change or the highest key of a scan
abbrev pub op_of_kind : OpKind → Key → ℕ → Op
op_of_kind Read key value = ops.Read key
op_of_kind Write key value = ops.Write key value
op_of_kind Remove key value = ops.Remove key
op_of_kind Add key value = ops.Add key value
op_of_kind Take key value = ops.Take key value
op_of_kind Scan key value = ops.Scan key.storage key.key value

-- the operation of 20 bytes
abbrev pub op_of : FlatOp → Op
op_of flat = op_of_kind flat.kind (record { storage = flat.storage; key = wide flat.key }) (wide flat.value)
