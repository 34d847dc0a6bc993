use Rattle.std.proofs.Common.{◌≡◌, ◌-◌, ◌+◌, ◌*◌, List}
use Rattle.std.specs.BTreeMap as tree
use Rattle.crossbeam_queue.specs.Passes.{view, IsSamePass}
use Rattle.serial_model.specs.Keys.{key_cmp}
use Rattle.wire_form.specs.declared.bucket.Bucket.{Bucket}
use Rattle.bucket_queues.specs.Taken.{HasTaken}
use Rattle.bucket_queues.proofs.from_queues.reduce_from.Given as goal

-- these buckets were taken so far
abbrev pub invariant-loop-got : goal.invariant-loop-got
invariant-loop-got g l = IsSamePass l.fn.pass l.pass
    × (taken : List Bucket) × HasTaken (view l.fn.pass) (view l.pass) (tree.get key_cmp l.fn.latest) (tree.get key_cmp l.latest) taken

abbrev pub decreases-loop-got : goal.decreases-loop-got
decreases-loop-got g l = (l.wanted - l.got) * 1048577 + (1048576 - l.empty)
