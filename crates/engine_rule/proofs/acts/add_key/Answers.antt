-- What adding a key leaves, step by step.
use Rattle.std.proofs.Common.{ap, refl, sym, ◌∙◌}
use Rattle.std.proofs.lemmas.Result.{err_from_is_err_and}
use Rattle.engine_rule.specs.Event.{after_moves, may_move}
use Rattle.engine_rule.proofs.KeptWithKey.{add_key_leaves, add_key_wants}
use Rattle.engine_rule.proofs.acts.add_key.Goals as goal

pub move_and_renew-requires : goal.move_and_renew-requires
move_and_renew-requires c = ap (may_move c.args.id c.args.story.now c.args.seat.now) c.in-Ok.ensures.1
    ∙ sym c.may_shift.ensures ∙ c.if-not-may_shift.false

pub returns-in_err-move_and_renew : goal.returns-in_err-move_and_renew
returns-in_err-move_and_renew c =
    let p = err_from_is_err_and c.from_residual.result c.from_residual.ensures.1 in
    let e = c.in_err-move_and_renew.ensures in
    let wants = p.2 ∙ e.memory in
    rw (p.1, wants) (add_key_wants c.args.id c.args.story.now c.args.seat.now c.args.table.now c.args.grip.now
    c.args.slot c.args.key c.in-Ok.ensures.0 (sym c.is_trying.ensures ∙ c.if-is_trying.false)
    (sym c.may_shift.ensures ∙ c.if-not-may_shift.false) c.move_and_renew.new.story c.move_and_renew.new.seat
    e.same.0 e.same.1)

pub returns : goal.returns
returns c =
    let done = c.in_ok-move_and_renew.ensures.done in
    add_key_leaves c.args.id c.args.story.now c.args.seat.now c.args.table.now c.args.grip.now c.args.slot c.args.key
    c.in-Ok.ensures.0 (sym c.is_trying.ensures ∙ c.if-is_trying.false)
    (sym c.may_shift.ensures ∙ c.if-not-may_shift.false) c.in-Ok.swap.moves c.in-Ok.ensures.1
    c.move_and_renew.new.story (after_moves c.args.id c.args.story.now c.args.seat.now c.in-Ok.swap.moves).seat
    done.story refl _ refl _ refl c.move_and_renew.new.seat done.seat
    c.put.new.table (c.put.ensures.table ∙ c.in-Ok.ensures.2) c.put.new.grip (c.put.ensures.grip ∙ c.in-Ok.ensures.3)
