-- What a reducer took from its queue.
use Rattle.std.specs.Prelude.{◌≡◌, ◌++◌, List, Option}
use Rattle.std.specs.List.Sorted.{IsPermutation}
use Rattle.serial_model.specs.declared.key.Key.{Key}
use Rattle.wire_form.specs.declared.bucket.Bucket.{Bucket}
use Rattle.wire_form.specs.declared.bucket.Entry.{Entry}
use Rattle.bucket_queues.specs.Balance.{hand}
use Rattle.bucket_queues.specs.declared.rule.Hand.{Hand}
use Rattle.log_reducer.specs.declared.latest.Logged.{Logged}
use Rattle.log_reducer.specs.Gathered.{KeepsLatest}
use Rattle.log_reducer.specs.Reduced.{AreLast, all_logged}

-- these buckets were taken, and the latest of their entries are kept, beside those that were before
pub record HasTaken (old new : Hand) (was is : Key → Option Logged) (taken : List Bucket) : Type 0 where
  pub view_is : new ≡ hand old.parts old.put (old.taken ++ taken)
  pub kept : (all : List Logged) → KeepsLatest all was → KeepsLatest (all ++ all_logged taken) is

-- all that was put into the two queues has been taken, what was left of it last, and the run has the last entries of what was
-- kept, what was left and what was kept back
pub record HasGathered (even odd : Hand) (was_even was_odd : Key → Option Logged) (low_back high_back : List Bucket) (run : List Entry)
    : Type 0 where
  pub left_even : List Bucket
  pub left_odd : List Bucket
  pub even_all : IsPermutation even.put (even.taken ++ left_even)
  pub odd_all : IsPermutation odd.put (odd.taken ++ left_odd)
  pub last : (all_even all_odd : List Logged) → KeepsLatest all_even was_even → KeepsLatest all_odd was_odd
      → AreLast ((((all_even ++ all_logged left_even) ++ (all_odd ++ all_logged left_odd)) ++ all_logged low_back) ++ all_logged high_back) run
