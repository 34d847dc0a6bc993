use Rattle.std.proofs.Common.{set}
use Rattle.std.proofs.lemmas.Result.{err_from_is_err_and}
use Rattle.engine_pages.specs.Passes.{view}
use Rattle.foster_tree.specs.Adding.{new_entry}
use Rattle.foster_tree.proofs.UnderLock.{can_halve, can_open_all, can_turn, has_split, no_records, not_split}
use Rattle.foster_tree.proofs.splitting.split_locked.Goals as goal

pub returns-in_err-lock_records-clause-missed : goal.returns-in_err-lock_records-clause-missed
returns-in_err-lock_records-clause-missed c =
    let p = err_from_is_err_and c.from_residual.result c.from_residual.ensures.1 in
    rw (p.1, p.2) (no_records c.args.holds.now c.args.slot c.args.at c.args.word c.args.span c.args.key _
    (view c.args.pass.now) (view c.lock_records.new.pass) c.requires.can c.in_err-lock_records.ensures.missed)

pub make_halves-requires-clause-halves : goal.make_halves-requires-clause-halves
make_halves-requires-clause-halves c =
    can_halve c.args.holds.now c.args.slot c.args.at c.args.word c.args.span c.args.key c.lock_records.new.entries
    (view c.args.pass.now) (view c.lock_records.new.pass) c.requires.can c.lock_records.array_long
    (c.in_ok-lock_records.ensures.locked c.requires.can.keys
    record { leaf = c.requires.can.leaf; unlocked = c.requires.can.unlocked; took = c.requires.can.took })
    c.in_order-sorted.result c.in_order-sorted.ensures

pub turn-requires-clause-can : goal.turn-requires-clause-can
turn-requires-clause-can c = (
  c.requires.can.keys,
  set c.lock_records.new.entries 16 (new_entry c.args.key),
  can_turn c.args.holds.now c.args.slot c.args.at c.args.word c.args.span c.args.key c.lock_records.new.entries
      (view c.args.pass.now) (view c.lock_records.new.pass) c.requires.can c.lock_records.array_long
      (c.in_ok-lock_records.ensures.locked c.requires.can.keys
      record { leaf = c.requires.can.leaf; unlocked = c.requires.can.unlocked; took = c.requires.can.took })
      c.in_order-sorted.result c.in-Ok.halves.minor c.in-Ok.halves.major (view c.make_halves.new.pass)
      c.in_order-sorted.ensures c.in-Ok.ensures.made.0,
)

pub open_records-requires-clause-can : goal.open_records-requires-clause-can
open_records-requires-clause-can c =
    can_open_all c.args.holds.now c.args.slot c.args.at c.args.word c.args.span c.args.key c.lock_records.new.entries
    (view c.args.pass.now) (view c.lock_records.new.pass) c.requires.can c.lock_records.array_long
    (c.in_ok-lock_records.ensures.locked c.requires.can.keys
    record { leaf = c.requires.can.leaf; unlocked = c.requires.can.unlocked; took = c.requires.can.took })
    c.in-Err.why (view c.make_halves.new.pass) c.in-Err.ensures.missed

pub returns-in-Ok-clause-split : goal.returns-in-Ok-clause-split
returns-in-Ok-clause-split c =
    has_split c.args.holds.now c.args.slot c.args.at c.args.word c.args.span c.args.key c.lock_records.new.entries
    (view c.args.pass.now) (view c.lock_records.new.pass) c.requires.can c.lock_records.array_long
    (c.in_ok-lock_records.ensures.locked c.requires.can.keys
    record { leaf = c.requires.can.leaf; unlocked = c.requires.can.unlocked; took = c.requires.can.took })
    c.in_order-sorted.result c.in-Ok.halves.minor c.in-Ok.halves.major (view c.make_halves.new.pass)
    c.in_order-sorted.ensures c.in-Ok.ensures.made.0 c.turn.result c.args.holds.now c.turn.new.holds
    (view c.turn.new.pass) c.turn.ensures.turned

pub returns-in-Err-clause-missed : goal.returns-in-Err-clause-missed
returns-in-Err-clause-missed c =
    not_split c.args.holds.now c.args.slot c.args.at c.args.word c.args.span c.args.key c.lock_records.new.entries
    (view c.args.pass.now) (view c.lock_records.new.pass) c.requires.can c.lock_records.array_long
    (c.in_ok-lock_records.ensures.locked c.requires.can.keys
    record { leaf = c.requires.can.leaf; unlocked = c.requires.can.unlocked; took = c.requires.can.took })
    c.in-Err.why (view c.make_halves.new.pass) c.in-Err.ensures.missed (view c.open_records.new.pass)
    c.open_records.ensures.opened
