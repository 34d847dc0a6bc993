use Rattle.std.proofs.Common.{◌≡◌, ◌++◌, ◌∷◌, [], List, false, not, refl, sym, ap, subst, ◌∙◌, append_assoc, append-nil, rules}
use Rattle.crossbeam_queue.specs.Passes.{view}
use Rattle.wire_form.specs.declared.bucket.Bucket.{Bucket}
use Rattle.bucket_queues.specs.Passed.{HavePassed}
use Rattle.bucket_queues.specs.PassedLaws.{passed_none, passed_then}
use Rattle.bucket_queues.specs.Turns.{GoByTurns}
use Rattle.bucket_queues.specs.TurnLaws.{turn_after, turn_push, turns_none, turns_then}
use Rattle.bucket_queues.proofs.into_queues.put_by_turns.Goals as goal

pub loop-bucket-init : goal.loop-bucket-init
loop-bucket-init g c = ((refl, refl, refl), (refl, refl, refl), [], sym (search rules), passed_none _ _ _, refl, turns_none _ _)

pub loop-bucket-preserved : goal.loop-bucket-preserved
loop-bucket-preserved g c =
    let was = c.loop-bucket.invariant in
    let even = c.put_into.ensures.same.0 in
    let odd = c.put_into.ensures.same.1 in
    let next : c.loop-bucket.bucket-iterator.rest.items ≡ c.in-Some.bucket ∷ c.next.new.self.rest.items = search rules in (
      (even.0 ∙ was.0.0, even.1 ∙ was.0.1, even.2 ∙ was.0.2),
      (odd.0 ∙ was.1.0, odd.1 ∙ was.1.1, odd.2 ∙ was.1.2),
      was.2 ++ c.in-Some.bucket ∷ [],
      was.3 ∙ ap (λ l. was.2 ++ l) next ∙ sym (append_assoc was.2 (c.in-Some.bucket ∷ []) c.next.new.self.rest.items),
      passed_then _ _ _ _ _ _ _ _ _ _ _ was.4 c.in_ok-put_into.ensures.passed,
      ap not was.5 ∙ sym (turn_push was.2 false c.in-Some.bucket),
      turns_then _ _ _ _ _ _ _ _ _ was.5 was.6 c.in_ok-put_into.ensures.turn,
    )
