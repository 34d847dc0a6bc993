use Rattle.std.proofs.Common.{◌≡◌, ◌++◌, sym, ap, subst, ◌∙◌}
use Rattle.std.specs.List.Sorted.{IsPermutation}
use Rattle.crossbeam_queue.specs.Passes.{view}
use Rattle.wire_form.specs.declared.bucket.Bucket.{Bucket}
use Rattle.bucket_queues.specs.declared.rule.Hand.{Hand}
use Rattle.log_reducer.specs.Reduced.{all_logged}
use Rattle.bucket_queues.proofs.from_queues.gather.Goals as goal

pub returns : goal.returns
returns g c =
    let even = c.in_ok-reduce_rest.ensures.taken in
    let odd = c.in_ok-reduce_rest-2.ensures.taken in
    record {
      left_even = even.0;
      left_odd = odd.0;
      even_all = subst (IsPermutation (view c.args.at_even.now).put) (ap (λ (x : Hand). x.taken) even.1.view_is) c.in_ok-reduce_rest.ensures.whole;
      odd_all = subst (IsPermutation (view c.args.at_odd.now).put) (ap (λ (x : Hand). x.taken) odd.1.view_is) c.in_ok-reduce_rest-2.ensures.whole;
      last = λ all_even all_odd keeps_even keeps_odd. c.in_ok-run_of.ensures _
          (c.in_ok-keep_back-2.ensures _ (c.in_ok-keep_back.ensures _ (c.in_ok-merge.ensures _ _ (even.1.kept all_even keeps_even) (odd.1.kept all_odd keeps_odd))));
    }
