use Rattle.std.proofs.Common.{◌↔◌, drop, map}
use Rattle.wire_form.specs.Items.{Rises, RisesAfter}
use Rattle.serial_model.specs.Keys.{IsKeyBelow}
use Rattle.wire_form.specs.LogLine.{key_of}
use Rattle.wire_form.proofs.log_line.rises.Given as goal

-- all keys rise exactly if those that are left rise after the last one
abbrev pub invariant-loop-change : goal.invariant-loop-change
invariant-loop-change l =
    Rises IsKeyBelow (map key_of l.changes) ↔ RisesAfter IsKeyBelow l.last (map key_of (drop l.change-index l.changes))
