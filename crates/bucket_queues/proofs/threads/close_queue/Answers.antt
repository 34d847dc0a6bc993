use Rattle.std.proofs.Common.{rules}
use Rattle.bucket_queues.specs.Moves.{merges}
use Rattle.bucket_queues.proofs.threads.close_queue.Goals as goal

pub absorb-requires-clause-rule : goal.absorb-requires-clause-rule
absorb-requires-clause-rule c = merges _ _ _ _ (search rules)

pub absorb-requires-2-clause-rule : goal.absorb-requires-2-clause-rule
absorb-requires-2-clause-rule c = merges _ _ _ _ (search rules)

pub absorb-requires-3-clause-rule : goal.absorb-requires-3-clause-rule
absorb-requires-3-clause-rule c = merges _ _ _ _ (search rules)
