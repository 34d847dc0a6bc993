use Rattle.std.proofs.Common.{rules, ◌≡◌, ◌++◌, [], List, None, refl, sym, ap, subst, ◌∙◌}
use Rattle.std.specs.BTreeMap as tree
use Rattle.crossbeam_queue.specs.Passes.{view}
use Rattle.serial_model.specs.Keys.{key_cmp}
use Rattle.bucket_queues.specs.ThreadLaws.{from_fresh, gathered_all, taken_fresh}
use Rattle.bucket_queues.proofs.threads.through_queues.Goals as goal

pub returns-in-Ok-finish-clause-run : goal.returns-in-Ok-finish-clause-run
returns-in-Ok-finish-clause-run g c =
    let low = rw c.in-Ok-low_mapped.is at c.run_all-answers.ensures.low in
    let high = rw c.in-Ok-high_mapped.is at c.run_all-answers.ensures.high in
    let even = rw c.in-Ok-even_reduced.is at c.run_all-answers.ensures.even in
    let odd = rw c.in-Ok-odd_reduced.is at c.run_all-answers.ensures.odd in (
      low.0,
      high.0,
      low.1,
      high.1,
      gathered_all _ _ _ _ _ _ _ _ _ _ _ _ _ _ _ _ _ _ _
          (from_fresh _ _ _ _ _ _ _ c.in-Ok.ensures.low.1 c.in-Ok-open_queue.ensures.low.1 c.new.ensures.items low.2)
          (from_fresh _ _ _ _ _ _ _ c.in-Ok.ensures.high.1 c.in-Ok-open_queue.ensures.high.1 c.new-2.ensures.items high.2)
          (taken_fresh _ _ _ _ _ c.in-Ok.ensures.takes.1 even.1)
          (taken_fresh _ _ _ _ _ c.in-Ok-open_queue.ensures.takes.1 odd.1)
          (λ key f is. absurd (let none : tree.get key_cmp c.new-3.result key ≡ None = search rules in let both = sym none ∙ is in cc))
          (λ key f is. absurd (let none : tree.get key_cmp c.new-4.result key ≡ None = search rules in let both = sym none ∙ is in cc))
          refl refl c.in-Ok-finish.ensures,
    )
