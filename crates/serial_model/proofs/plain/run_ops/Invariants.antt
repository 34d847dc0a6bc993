use Rattle.std.proofs.Common.{◌≡◌, drop}
use Rattle.serial_model.specs.Step.{step, step_from}
use Rattle.serial_model.specs.Draft.{working, GoesBack}
use Rattle.serial_model.proofs.Told.{with_replies}
use Rattle.serial_model.proofs.plain.run_ops.Given as goal

-- the replies so far, and what is left over the transaction's own writes, are the whole transaction
abbrev pub invariant-loop-op : goal.invariant-loop-op
invariant-loop-op l = record {
  told : with_replies l.replies (step_from l.decls l.fn.state (drop l.op-index l.ops) (working l.state l.draft.gone.keys)) ≡ step l.decls l.fn.state l.ops;
  back : GoesBack l.draft.undo.items l.state l.fn.state;
}
