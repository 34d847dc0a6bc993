use Rattle.std.proofs.Common.{◌≡◌, ◌++◌, List}
use Rattle.std.specs.BTreeMap as tree
use Rattle.serial_model.specs.Keys.{key_cmp}
use Rattle.wire_form.specs.declared.bucket.Bucket.{Bucket}
use Rattle.log_reducer.specs.Gathered.{KeepsLatest}
use Rattle.log_reducer.specs.Reduced.{all_logged}
use Rattle.log_reducer.specs.declared.latest.Logged.{Logged}
use Rattle.bucket_queues.proofs.from_queues.keep_back.Given as goal

-- the entries of the buckets so far are kept
abbrev pub invariant-loop-bucket : goal.invariant-loop-bucket
invariant-loop-bucket l = (done : List Bucket) × (l.fn.buckets.items ≡ done ++ l.bucket-iterator.rest.items)
    × ((all : List Logged) → KeepsLatest all (tree.get key_cmp l.fn.latest) → KeepsLatest (all ++ all_logged done) (tree.get key_cmp l.latest))
