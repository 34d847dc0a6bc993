-- Moves that are allowed fail for want of memory alone.
use Rattle.std.proofs.lemmas.Result.{err_from_is_err_and}
use Rattle.engine_rule.proofs.KeptWithKey.{memory_left, renewed_from}
use Rattle.engine_rule.proofs.acts.move_and_renew.Goals as goal

pub returns-in_err-move_keys-clause-memory : goal.returns-in_err-move_keys-clause-memory
returns-in_err-move_keys-clause-memory c =
    let p = err_from_is_err_and c.from_residual-in_err-move_keys.result c.from_residual-in_err-move_keys.ensures.1 in
    let left = memory_left _ c.requires c.in_err-move_keys.ensures in
    rw (p.1, p.2) left.0

pub returns-in_err-move_keys-clause-same : goal.returns-in_err-move_keys-clause-same
returns-in_err-move_keys-clause-same c =
    let p = err_from_is_err_and c.from_residual-in_err-move_keys.result c.from_residual-in_err-move_keys.ensures.1 in
    let left = memory_left _ c.requires c.in_err-move_keys.ensures in
    rw p.1 left.1

pub returns-clause-done : goal.returns-clause-done
returns-clause-done c = record {
  story = c.in_ok-move_keys.ensures.1.0;
  seat = renewed_from c.args.slot c.move_keys.new.seat _ c.renew.new.seat c.leaf_keys-count.result.now _
      c.in_ok-kept.kept _ c.renew.ensures c.in_ok-move_keys.ensures.1.1 c.leaf_keys-count.ensures
      c.in_ok-kept.ensures;
}
