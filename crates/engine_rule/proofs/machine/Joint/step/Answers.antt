-- A step is the act of its seat.
use Rattle.std.proofs.Common.{◌≡◌, Some, subst, arith}
use Rattle.std.specs.List.{slice_get}
use Rattle.engine_rule.specs.JointState.{JointState}
use Rattle.engine_rule.specs.Event.{with_joined}
use Rattle.engine_rule.specs.Answers.{all_of, AnswersEvent}
use Rattle.engine_rule.proofs.Stepping.{read_there, answers_event, answers_sound}
use Rattle.engine_rule.proofs.machine.Joint.step.Goals as goal

pub returns-clause-event : goal.returns-clause-event
returns-clause-event c =
    let seats = c.self.inside.seats.items in
    let grips = c.self.inside.grips.items in
    let id = c.args.event.seat in
    let at : slice_get seats id ≡ Some c.index_mut-seat.result.now = read_there seats id _ c.index_mut-seat.result.now (omega (arith, c.if-index-len.false, c.len.ensures)) c.index_mut-seat.ensures.value in
    let holds : slice_get grips id ≡ Some c.index_mut-grip.result.now = read_there grips id _ c.index_mut-grip.result.now (omega (arith, c.if-index-len-2.false, c.len-2.ensures)) c.index_mut-grip.ensures.value in
    let was : JointState = record {
      commits = record { opening = c.self.inside.opening.items; story = c.self.inside.story; seats = seats };
      pages = record { table = c.self.inside.table; grips = grips };
    } in
    subst (λ (x : JointState). AnswersEvent x c.args.event c.act.result (with_joined was id (all_of c.act.new.story c.act.new.seat c.act.new.table c.act.new.grip))) c.self.view_is
    (answers_event was c.args.event c.index_mut-seat.result.now c.index_mut-grip.result.now at holds c.act.result c.act.new.story c.act.new.seat c.act.new.table c.act.new.grip c.act.ensures)

pub returns-clause-sound : goal.returns-clause-sound
returns-clause-sound c = answers_sound c.both_stay_sound.ensures.each_event _ c.args.event c.act.result _ (returns-clause-event c)
