use Rattle.std.proofs.Common.{None, Some, refl, sym, subst, ◌<◌, ◌∷◌, [], ◌++◌, arith}
use Rattle.std.proofs.lemmas.Bool.{false≢true}
use Rattle.wire_form.specs.Items.{IsFollowed}
use Rattle.wire_form.specs.Pages.{IsStored, stored_words, stored_id}
use Rattle.wire_form.proofs.ItemLemmas.{rejoined, Takes, Takes-more, no_item, falls, no_items, some_items, at_three}
use Rattle.wire_form.proofs.catalogue.are_stored.Goals as goal

pub returns-in_default : goal.returns-in_default
returns-in_default c =
    let front = c.split_at.result.0.now in
    let after = c.split_at.result.1.now in
    let parts = rejoined 3 c.loop.rest.now front after c.split_at.ensures.front c.split_at.ensures.back in
    let Is = IsStored c.args.number in
    let none = at_three Is stored_words front None (omega arith) (rw c.in_default.is at c.of_words.ensures) in
    let taken = c.loop.invariant.taken in
    no_items Is stored_words stored_id ◌<◌ _ (no_item Is stored_words stored_id ◌<◌ front after (omega arith) (λ _. omega arith) _ taken.0 c.loop.last _ parts taken.1 none.1)

pub returns-then-not-goes_on : goal.returns-then-not-goes_on
returns-then-not-goes_on c =
    let front = c.split_at.result.0.now in
    let after = c.split_at.result.1.now in
    let parts = rejoined 3 c.loop.rest.now front after c.split_at.ensures.front c.split_at.ensures.back in
    let Is = IsStored c.args.number in
    let found = at_three Is stored_words front (Some c.in-Some.stored) (omega arith) c.in-Some.ensures in
    let taken = c.loop.invariant.taken in
    no_items Is stored_words stored_id ◌<◌ _ (falls Is stored_words stored_id ◌<◌ front after (omega arith) (λ _. omega arith) _ taken.0 c.loop.last _ c.in-Some.stored parts taken.1 found.0
    (λ above. false≢true (c.if-not-goes_on.ensures.1 (subst (λ k. IsFollowed ◌<◌ c.loop.last k) (sym c.id-id.ensures) above))))

pub loop-preserved : goal.loop-preserved
loop-preserved c =
    let front = c.split_at.result.0.now in
    let after = c.split_at.result.1.now in
    let parts = rejoined 3 c.loop.rest.now front after c.split_at.ensures.front c.split_at.ensures.back in
    let Is = IsStored c.args.number in
    let x = c.in-Some.stored in
    let found = at_three Is stored_words front (Some x) (omega arith) c.in-Some.ensures in
    let taken = c.loop.invariant.taken in
    let above = subst (λ k. IsFollowed ◌<◌ c.loop.last k) c.id-id.ensures (c.if-not-goes_on.ensures.0 refl) in
    let more = Takes-more Is stored_words stored_id ◌<◌ front after (omega arith) (λ _. omega arith) _ taken.0 c.loop.last _ x parts taken.1 found.0 above in
    record {
      taken = (taken.0 ++ x ∷ [], subst (λ k. Takes Is stored_words stored_id ◌<◌ c.args.words.now (taken.0 ++ x ∷ []) (Some k) after) (sym c.id-id.ensures) more);
      left = omega arith;
    }

pub returns : goal.returns
returns c =
    let taken = c.loop.invariant.taken in
    some_items (IsStored c.args.number) stored_words stored_id ◌<◌ _ taken.0 c.loop.last c.loop.rest.now (omega arith) taken.1
