use Rattle.std.proofs.Common.{sym, ap, ◌∙◌}
use Rattle.std.specs.Prelude.{cond}
use Rattle.std.specs.FinMap.{get, get-insert, get-remove}
use Rattle.std.specs.Ordering.{eq_by_cmp}
use Rattle.serial_model.specs.Keys.{key_cmp}
use Rattle.serial_model.specs.KeyOrder.{keys_total}
use Rattle.recovery_core.proofs.last_entries.put_or_remove.Goals as goal

pub returns-in_ok-insert-in-Some : goal.returns-in_ok-insert-in-Some
returns-in_ok-insert-in-Some c other =
    ap (λ m. get m other) c.in_ok-insert-in-Some.ensures.ok
    ∙ get-insert keys_total c.args.state.now c.args.key c.in-Some.value other
    ∙ ap (λ o. cond (eq_by_cmp key_cmp other c.args.key) o (get c.args.state.now other)) (sym c.in-Some.is)

pub returns-in-None : goal.returns-in-None
returns-in-None c other =
    ap (λ m. get m other) c.remove.ensures.removed ∙ get-remove keys_total c.args.state.now c.args.key other
    ∙ ap (λ o. cond (eq_by_cmp key_cmp other c.args.key) o (get c.args.state.now other)) (sym c.in-None.is)
