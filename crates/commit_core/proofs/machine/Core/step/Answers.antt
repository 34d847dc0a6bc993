-- A step is the act of its seat.
use Rattle.std.proofs.Common.{◌≡◌, Some, refl, length, subst}
use Rattle.std.specs.List.{slice_get}
use Rattle.std.proofs.lemmas.Option.{slice_get_read}
use Rattle.commit_core.specs.CoreState.{CoreState}
use Rattle.commit_core.specs.Event.{AnswersEvent}
use Rattle.commit_core.proofs.StepLaws.{with_seat, answers_event, answers_sound}
use Rattle.commit_core.proofs.machine.Core.step.Goals as goal

pub returns-in-Some-clause-event : goal.returns-in-Some-clause-event
returns-in-Some-clause-event c =
    let at : slice_get c.self.inside.seats.items c.args.event.now.seat ≡ Some c.in-Some.seat.now = slice_get_read c.self.inside.seats.items (length c.self.inside.seats.items) c.args.event.now.seat c.in-Some.seat.now refl c.in-Some.ensures.item.3.0 c.in-Some.ensures.value in
    let was : CoreState = record { opening = c.self.inside.opening.items; story = c.self.inside.story; seats = c.self.inside.seats.items } in
    subst (λ (x : CoreState). AnswersEvent x c.args.event.now c.act.result (with_seat was c.args.event.now.seat c.act.new.story c.act.new.seat)) c.self.view_is
    (answers_event was c.args.event.now c.in-Some.seat.now c.act.result c.act.new.story c.act.new.seat at c.act.ensures)

pub returns-in-Some-clause-sound : goal.returns-in-Some-clause-sound
returns-in-Some-clause-sound c = answers_sound _ _ c.act.result _ (returns-in-Some-clause-event c)
