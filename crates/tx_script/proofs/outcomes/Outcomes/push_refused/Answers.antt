-- A head without words is appended.
use Rattle.std.proofs.Common.{refl}
use Rattle.tx_script.proofs.FlatOutcomes.{refused_are, refused_in}
use Rattle.tx_script.proofs.outcomes.Outcomes.push_refused.Goals as goal

pub invariant_of-self-2 : goal.invariant_of-self-2
invariant_of-self-2 c =
    rw (c.in_ok-push.ensures.ok, c.head_of_refused.ensures) (refused_are _ _ _ c.self.invariant refl)

pub returns-clause-ok : goal.returns-clause-ok
returns-clause-ok c =
    rw (c.in_ok-push.ensures.ok, c.head_of_refused.ensures)
    (refused_in _ _ _ _ c.args.refused c.self.invariant refl refl c.self.view_is)
