use Rattle.std.proofs.Common.{◌≡◌, ◌++◌, List, false}
use Rattle.crossbeam_queue.specs.Passes.{view, IsSamePass}
use Rattle.wire_form.specs.declared.bucket.Bucket.{Bucket}
use Rattle.bucket_queues.specs.Passed.{HavePassed}
use Rattle.bucket_queues.specs.Turns.{GoByTurns}
use Rattle.bucket_queues.specs.TurnLaws.{turn_after}
use Rattle.bucket_queues.proofs.into_queues.put_by_turns.Given as goal

-- the buckets so far were passed on, by turns
abbrev pub invariant-loop-bucket : goal.invariant-loop-bucket
invariant-loop-bucket g l = IsSamePass l.fn.at_even l.at_even × IsSamePass l.fn.at_odd l.at_odd
    × (done : List Bucket) × (l.fn.buckets.items ≡ done ++ l.bucket-iterator.rest.items)
    × HavePassed (view l.fn.at_even) (view l.at_even) (view l.fn.at_odd) (view l.at_odd) l.fn.back.items l.back.items done
    × (l.to_odd ≡ turn_after done false)
    × GoByTurns (view l.fn.at_even).put (view l.at_even).put (view l.fn.at_odd).put (view l.at_odd).put done
