-- The attempts so far that are decided.
use Rattle.std.proofs.Common.{◌≡◌, filter, take}
use Rattle.commit_core.specs.CoreState.{is_decided}
use Rattle.commit_core.proofs.story.Story.committed.Given as goal

abbrev pub invariant-loop-attempt : goal.invariant-loop-attempt
invariant-loop-attempt l = l.attempts ≡ filter (λ a. is_decided l.self.decided a.number) (take l.attempt-index l.self.history)
