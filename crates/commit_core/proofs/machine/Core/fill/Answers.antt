-- A filled place is at no key.
use Rattle.std.proofs.Common.{sym, ◌∙◌, subst}
use Rattle.commit_core.specs.declared.story.Story.{Story}
use Rattle.commit_core.specs.CoreState.{CoreState}
use Rattle.commit_core.specs.Fill.{NobodyKeeps}
use Rattle.commit_core.specs.Sound.{IsSound}
use Rattle.commit_core.proofs.FillLaws.{fill_sound}
use Rattle.commit_core.proofs.machine.Core.fill.Goals as goal

pub returns-then-is_nobodys-clause-sound : goal.returns-then-is_nobodys-clause-sound
returns-then-is_nobodys-clause-sound c =
    let was : CoreState = record { opening = c.self.inside.opening.items; story = c.self.inside.story; seats = c.self.inside.seats.items } in
    subst (λ (x : CoreState). NobodyKeeps x c.args.spot → IsSound x → IsSound (record was { story = c.fill.new.self })) c.self.view_is
    (λ none sound.
    subst (λ (m : Story). IsSound (record was { story = m })) (sym c.in_ok-fill.ensures.ok)
    (fill_sound was c.args.spot c.args.content (sym c.is_nobodys.ensures ∙ c.if-is_nobodys.true) none sound))
