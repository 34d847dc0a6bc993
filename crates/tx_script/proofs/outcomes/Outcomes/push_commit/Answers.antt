-- The head and the words of the replies are appended.
use Rattle.std.proofs.Common.{refl}
use Rattle.tx_script.proofs.FlatOutcomes.{commit_are, commit_in}
use Rattle.tx_script.proofs.outcomes.Outcomes.push_commit.Goals as goal

pub invariant_of-self-in-Ok : goal.invariant_of-self-in-Ok
invariant_of-self-in-Ok c =
    rw (c.in-Ok.ensures.ok, c.in_ok-append.ensures.ok, c.head_of_commit-head.ensures)
    (commit_are _ _ _ _ c.args.replies.now c.self.invariant refl c.words-words.ensures)

pub returns-in-Ok-clause-ok : goal.returns-in-Ok-clause-ok
returns-in-Ok-clause-ok c =
    rw (c.in-Ok.ensures.ok, c.in_ok-append.ensures.ok, c.head_of_commit-head.ensures)
    (commit_in _ _ _ _ _ c.args.verdict c.args.replies.now c.self.invariant refl c.words-words.ensures refl
    c.self.view_is)
