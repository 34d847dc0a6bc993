-- What was sorted is in order.
use Rattle.std.proofs.Common.{rules}
use Rattle.std.proofs.lemmas.List.Sorted.{IsNonDecreasingBy-from_sort_by_key}
use Rattle.serial_model.specs.Keys.{id_of}
use Rattle.program_calls.proofs.shape.in_order.Goals as goal

pub returns-clause-rising : goal.returns-clause-rising
returns-clause-rising c = rw c.from_vec.ensures (IsNonDecreasingBy-from_sort_by_key id_of _ c.in_ok-sort_by_key.ensures.sorted (λ a r q k. search rules))
