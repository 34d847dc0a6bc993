-- A step is the act of its seat.
use Rattle.std.proofs.Common.{◌≡◌, ◌∙◌, Some, refl, length, subst}
use Rattle.std.specs.List.{slice_get}
use Rattle.std.proofs.lemmas.Option.{slice_get_read}
use Rattle.drop_core.specs.Event.{DropState, AnswersEvent}
use Rattle.drop_core.proofs.StepLaws.{with_grip, same_sound, answers_event, answers_sound}
use Rattle.drop_core.proofs.machine.DropCore.step.Goals.{in-FillPage+in-Leaf-1, in-FillPage+in-Blank-1, in-FillSnapshot+in-Entries-1, in-FillSnapshot+in-Children-1, in-FillSnapshot+in-Missing-1, in-Enter-1, in-Twin-1, in-SwingChain-1}
use Rattle.drop_core.proofs.machine.DropCore.step.Goals as goal

pub returns-in-Some-clause-event : goal.returns-in-Some-clause-event
returns-in-Some-clause-event c =
    let at : slice_get c.self.inside.grips.items c.args.event.seat ≡ Some c.in-Some.grip.now = slice_get_read c.self.inside.grips.items (length c.self.inside.grips.items) c.args.event.seat c.in-Some.grip.now refl c.in-Some.ensures.item.3.0 c.in-Some.ensures.value in
    let was : DropState = record { table = c.self.inside.table; grips = c.self.inside.grips.items } in
    subst (λ (x : DropState). AnswersEvent x c.args.event c.apply.result (with_grip was c.args.event.seat c.apply.new.table c.apply.new.grip)) c.self.view_is
    (answers_event was c.args.event c.in-Some.grip.now c.apply.result c.apply.new.table c.apply.new.grip at c.apply.ensures)

pub returns-in-Some-clause-sound : goal.returns-in-Some-clause-sound
returns-in-Some-clause-sound c = λ homes. answers_sound homes _ _ c.apply.result _ (returns-in-Some-clause-event c)

pub returns-in-None-clause-sound : goal.returns-in-None-clause-sound
returns-in-None-clause-sound c = λ homes sound. elim c.match-event.branch [
  | in-FillPage+in-Leaf-1 w ↦ same_sound homes _ _ (w.self-is ∙ c.self.view_is) sound
  | in-FillPage+in-Blank-1 w ↦ same_sound homes _ _ (w.self-is ∙ c.self.view_is) sound
  | in-FillSnapshot+in-Entries-1 w ↦ same_sound homes _ _ (w.self-is ∙ c.self.view_is) sound
  | in-FillSnapshot+in-Children-1 w ↦ same_sound homes _ _ (w.self-is ∙ c.self.view_is) sound
  | in-FillSnapshot+in-Missing-1 w ↦ same_sound homes _ _ (w.self-is ∙ c.self.view_is) sound
  | in-Enter-1 w ↦ same_sound homes _ _ (w.self-is ∙ c.self.view_is) sound
  | in-Twin-1 w ↦ same_sound homes _ _ (w.self-is ∙ c.self.view_is) sound
  | in-SwingChain-1 w ↦ same_sound homes _ _ (w.self-is ∙ c.self.view_is) sound
]
