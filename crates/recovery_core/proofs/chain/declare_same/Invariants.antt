use Rattle.std.proofs.Common.{◌≡◌, map, take}
use Rattle.wire_form.specs.Pages.{stored_decl}
use Rattle.recovery_core.proofs.chain.declare_same.Given as goal

abbrev pub invariant-loop-i : goal.invariant-loop-i
invariant-loop-i l = take l.i (map stored_decl l.storages) ≡ take l.i (map stored_decl l.others)
