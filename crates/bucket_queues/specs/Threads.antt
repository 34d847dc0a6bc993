-- What mappers and reducers come to that ran in threads.
use Rattle.std.specs.Prelude.{◌≡◌, ◌+◌, ◌++◌, [], List, Option, Some, None, Result, Ok, Err}
use Rattle.std.specs.BTreeMap as tree
use Rattle.std.specs.List.Sorted.{IsPermutation}
use Rattle.lists.specs.declared.memory.OrMemory.{OrMemory}
use Rattle.lists.specs.declared.memory.OrMemory.TheVariants as or
use Rattle.serial_model.specs.Keys.{key_cmp}
use Rattle.wire_form.specs.declared.bucket.Bucket.{Bucket}
use Rattle.wire_form.specs.declared.bucket.Entry.{Entry}
use Rattle.crossbeam_queue.specs.Passes.{view, IsSamePass}
use Rattle.log_reducer.specs.Reduced.{AreLast, all_logged}
use Rattle.bucket_queues.specs.Balance.{hand}
use Rattle.bucket_queues.specs.declared.rule.Hand.{Hand}
use Rattle.bucket_queues.specs.Passed.{HavePassed}
use Rattle.bucket_queues.specs.Taken.{HasTaken}
use Rattle.bucket_queues.specs.declared.into_queues.Mapper.{Mapper}
use Rattle.bucket_queues.specs.declared.threads.Reducer.{Reducer}

-- a pass that has put and taken nothing, with one part
abbrev pub fresh : Hand
fresh = hand 1 [] []

-- a mapper's passes are the same as before
abbrev pub IsSameMapper : Mapper → Mapper → Type 0
IsSameMapper old new = IsSamePass old.at_even new.at_even × IsSamePass old.at_odd new.at_odd

-- the buckets went into the queues or were kept back
abbrev pub HasPut : Mapper → Mapper → List Bucket → Type 0
HasPut old new made = HavePassed (view old.at_even) (view new.at_even) (view old.at_odd) (view new.at_odd) old.back.items new.back.items made

-- the buckets were taken, and their latest entries are kept
abbrev pub HasReduced : Reducer → Reducer → Type 0
HasReduced old new = (taken : List Bucket) × HasTaken (view old.pass) (view new.pass) (tree.get key_cmp old.latest) (tree.get key_cmp new.latest) taken

-- what is known at last of a queue: all that its mappers have put and its reducer has taken
abbrev pub closed : Hand → Hand → Hand → Hand → Hand
closed rest low high takes = hand (((rest.parts + low.parts) + high.parts) + takes.parts) (((rest.put ++ low.put) ++ high.put) ++ takes.put)
    (((rest.taken ++ low.taken) ++ high.taken) ++ takes.taken)

-- the fault that is answered, if one is
abbrev pub fault_in : {F : Type 0} → Result (Unit {0}) (OrMemory F) → Option F
fault_in (Err (or.Fault fault)) = Some fault
fault_in _ = None

-- The buckets that the two reducers took, those that were left in their queues, and those that the two mappers kept back
-- are together those that were made, each once; and the run has their last entries.
pub record AreGathered (made : List Bucket) (run : List Entry) : Type 0 where
  pub taken_even : List Bucket
  pub left_even : List Bucket
  pub taken_odd : List Bucket
  pub left_odd : List Bucket
  pub low_back : List Bucket
  pub high_back : List Bucket
  pub each_once : IsPermutation made ((((taken_even ++ left_even) ++ (taken_odd ++ left_odd)) ++ low_back) ++ high_back)
  pub last : AreLast (all_logged ((((taken_even ++ left_even) ++ (taken_odd ++ left_odd)) ++ low_back) ++ high_back)) run
