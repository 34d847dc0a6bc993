-- Devices stand for one epoch and one state, and have the storages that were declared.
use Rattle.std.proofs.Common.{◌≡◌, sym, subst, ℕ, List, Option, Some, None}
use Rattle.std.specs.Prelude.{IfSome}
use Rattle.serial_model.specs.State.{State}
use Rattle.serial_model.specs.declared.decl.Decl.{Decl}
use Rattle.recovery_core.specs.Catalogues.{newest_decls}
use Rattle.joint_crashes.specs.Images.{Images}
use Rattle.recovery_core.specs.Recoverable.{IsRecoverable}
use Rattle.recovery_core.specs.RecoverableLaws.{one_recoverable}
use Rattle.program_calls.specs.Beginning.{HasStorages, SameDecls}
use Rattle.program_calls.proofs.OneState.{one_state}

-- Devices stand for one epoch and one state.
pub one_kept : (found : Images) (e f : ℕ) (s t : State) → IsRecoverable found e s → IsRecoverable found f t
    → (e ≡ f) × (s ≡ t)
one_kept found e f s t one other =
    let same = one_recoverable found e f s t one other in
    (same.0, one_state s t same.1)

-- Devices that keep the storages of a vault have those that were declared, as they are the same.
pub storages_kept : {now : Images} {ds es : List Decl} {epoch : ℕ} {state : State} → SameDecls es ds
    → (is : IsRecoverable now epoch state) → newest_decls is.reading.catalogues ≡ ds → HasStorages now es
storages_kept {ds = ds} {es = es} same is decls_are = record {
  reading = is.reading;
  is = is.is;
  same = there is.reading.point (subst (SameDecls es) (sym decls_are) same);
}
  where
    there : {X : Type 0} (point : Option X) → SameDecls es (newest_decls is.reading.catalogues)
        → IfSome point (λ _. SameDecls es (newest_decls is.reading.catalogues))
    there None same_decls = tt
    there (Some x) same_decls = same_decls
