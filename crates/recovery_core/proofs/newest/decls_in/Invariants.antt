use Rattle.std.proofs.Common.{◌≡◌, map, take}
use Rattle.wire_form.specs.Pages.{stored_decl}
use Rattle.recovery_core.proofs.newest.decls_in.Given as goal

abbrev pub invariant-loop-i : goal.invariant-loop-i
invariant-loop-i l = l.decls ≡ take l.i (map stored_decl l.storages)
