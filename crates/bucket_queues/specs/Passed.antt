-- Where buckets went that a mapper made.
use Rattle.std.specs.Prelude.{◌≡◌, ◌++◌, List}
use Rattle.std.specs.List.Sorted.{IsPermutation}
use Rattle.wire_form.specs.declared.bucket.Bucket.{Bucket}
use Rattle.bucket_queues.specs.Balance.{hand}
use Rattle.bucket_queues.specs.declared.rule.Hand.{Hand}

-- Each of these buckets was put into one of the two queues or kept back, once.
pub record HavePassed (even even_now odd odd_now : Hand) (was is made : List Bucket) : Type 0 where
  pub to_even : List Bucket
  pub to_odd : List Bucket
  pub back : List Bucket
  pub even_is : even_now ≡ hand even.parts (even.put ++ to_even) even.taken
  pub odd_is : odd_now ≡ hand odd.parts (odd.put ++ to_odd) odd.taken
  pub back_is : is ≡ was ++ back
  pub all : IsPermutation made ((to_even ++ to_odd) ++ back)
