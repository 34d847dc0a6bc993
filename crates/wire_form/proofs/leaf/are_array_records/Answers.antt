use Rattle.std.proofs.Common.{None, Some, ◌∷◌, [], ◌++◌, arith}
use Rattle.wire_form.specs.Items.{AnyOrder}
use Rattle.wire_form.specs.Pages.{IsArrayRecord, array_record_words}
use Rattle.wire_form.proofs.ItemLemmas.{rejoined, Takes-none, Takes-more, no_item, no_items, some_items, at_two, any_follows}
use Rattle.wire_form.proofs.leaf.are_array_records.Goals as goal
use Rattle.wire_form.specs.Parts.{itself}

pub loop-init : goal.loop-init
loop-init c =
    record { taken = ([], None, Takes-none IsArrayRecord array_record_words itself AnyOrder c.args.words.now); left = omega arith }

pub returns-in-None : goal.returns-in-None
returns-in-None c =
    let front = c.split_at.result.0.now in
    let after = c.split_at.result.1.now in
    let parts = rejoined 2 c.loop.rest.now front after c.split_at.ensures.front c.split_at.ensures.back in
    let none = at_two IsArrayRecord array_record_words front None (omega arith) c.in-None.ensures in
    let taken = c.loop.invariant.taken in
    no_items IsArrayRecord array_record_words itself AnyOrder _ (no_item IsArrayRecord array_record_words itself AnyOrder front after (omega arith) (λ _. omega arith) _ taken.0 taken.1 _ parts taken.2 none.1)

pub loop-preserved : goal.loop-preserved
loop-preserved c =
    let front = c.split_at.result.0.now in
    let after = c.split_at.result.1.now in
    let parts = rejoined 2 c.loop.rest.now front after c.split_at.ensures.front c.split_at.ensures.back in
    let x = c.in-Some.field-0 in
    let found = at_two IsArrayRecord array_record_words front (Some x) (omega arith) c.in-Some.ensures in
    let taken = c.loop.invariant.taken in
    record {
      taken = (taken.0 ++ x ∷ [], Some x, Takes-more IsArrayRecord array_record_words itself AnyOrder front after (omega arith) (λ _. omega arith) _ taken.0 taken.1 _ x parts taken.2 found.0 (any_follows taken.1 x));
      left = omega arith;
    }

pub returns : goal.returns
returns c =
    let taken = c.loop.invariant.taken in
    some_items IsArrayRecord array_record_words itself AnyOrder _ taken.0 taken.1 c.loop.rest.now (omega arith) taken.2
