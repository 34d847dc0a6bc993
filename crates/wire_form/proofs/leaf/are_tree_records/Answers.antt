use Rattle.std.proofs.Common.{None, Some, refl, ◌<◌, ◌∷◌, [], ◌++◌, arith}
use Rattle.std.proofs.lemmas.Bool.{false≢true}
use Rattle.wire_form.specs.Pages.{IsTreeRecord, tree_record_words, record_key}
use Rattle.wire_form.proofs.ItemLemmas.{rejoined, Takes-more, no_item, falls, no_items, some_items, at_three}
use Rattle.wire_form.proofs.leaf.are_tree_records.Goals as goal

pub returns-in_default : goal.returns-in_default
returns-in_default c =
    let front = c.split_at.result.0.now in
    let after = c.split_at.result.1.now in
    let parts = rejoined 3 c.loop.rest.now front after c.split_at.ensures.front c.split_at.ensures.back in
    let Is = IsTreeRecord c.args.low c.args.high in
    let none = at_three Is tree_record_words front None (omega arith) (rw c.in_default.is at c.of_words.ensures) in
    let taken = c.loop.invariant.taken in
    no_items Is tree_record_words record_key ◌<◌ _ (no_item Is tree_record_words record_key ◌<◌ front after (omega arith) (λ _. omega arith) _ taken.0 c.loop.last _ parts taken.1 none.1)

pub returns-then-not-goes_on : goal.returns-then-not-goes_on
returns-then-not-goes_on c =
    let front = c.split_at.result.0.now in
    let after = c.split_at.result.1.now in
    let parts = rejoined 3 c.loop.rest.now front after c.split_at.ensures.front c.split_at.ensures.back in
    let Is = IsTreeRecord c.args.low c.args.high in
    let found = at_three Is tree_record_words front (Some c.in-Some.record) (omega arith) c.in-Some.ensures in
    let taken = c.loop.invariant.taken in
    no_items Is tree_record_words record_key ◌<◌ _ (falls Is tree_record_words record_key ◌<◌ front after (omega arith) (λ _. omega arith) _ taken.0 c.loop.last _ c.in-Some.record parts taken.1 found.0
    (λ above. false≢true (c.if-not-goes_on.ensures.1 above)))

pub loop-preserved : goal.loop-preserved
loop-preserved c =
    let front = c.split_at.result.0.now in
    let after = c.split_at.result.1.now in
    let parts = rejoined 3 c.loop.rest.now front after c.split_at.ensures.front c.split_at.ensures.back in
    let Is = IsTreeRecord c.args.low c.args.high in
    let x = c.in-Some.record in
    let found = at_three Is tree_record_words front (Some x) (omega arith) c.in-Some.ensures in
    let taken = c.loop.invariant.taken in
    record {
      taken = (taken.0 ++ x ∷ [], Takes-more Is tree_record_words record_key ◌<◌ front after (omega arith) (λ _. omega arith) _ taken.0 c.loop.last _ x parts taken.1 found.0 (c.if-not-goes_on.ensures.0 refl));
      left = omega arith;
    }

pub returns : goal.returns
returns c =
    let taken = c.loop.invariant.taken in
    some_items (IsTreeRecord c.args.low c.args.high) tree_record_words record_key ◌<◌ _ taken.0 c.loop.last c.loop.rest.now (omega arith) taken.1
