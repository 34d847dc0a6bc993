use Rattle.bucket_queues.specs.Moves.{puts}
use Rattle.bucket_queues.proofs.into_queues.put_one.Goals as goal

pub push_as-requires-clause-rule : goal.push_as-requires-clause-rule
push_as-requires-clause-rule g c = (puts _ _ _ _ c.requires.pass.1, λ items views holds at. tt)
