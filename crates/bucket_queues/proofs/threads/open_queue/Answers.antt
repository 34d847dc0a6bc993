use Rattle.std.proofs.Common.{rules}
use Rattle.bucket_queues.specs.Moves.{begins, forks}
use Rattle.bucket_queues.proofs.threads.open_queue.Goals as goal

pub ruled-requires-clause-rule : goal.ruled-requires-clause-rule
ruled-requires-clause-rule c = begins

pub another-low-requires-clause-rule : goal.another-low-requires-clause-rule
another-low-requires-clause-rule c = forks _ _ (search rules)

pub another-high-requires-clause-rule : goal.another-high-requires-clause-rule
another-high-requires-clause-rule c = forks _ _ (search rules)

pub another-takes-requires-clause-rule : goal.another-takes-requires-clause-rule
another-takes-requires-clause-rule c = forks _ _ (search rules)
