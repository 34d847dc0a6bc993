use Rattle.std.proofs.Common.{◌<◌, refl, subst, arith}
use Rattle.wire_form.specs.Pages.{IsStored, stored_words, stored_id}
use Rattle.wire_form.proofs.ItemLemmas.{refused, instead}
use Rattle.wire_form.proofs.PageLemmas.{catalogue_forth, catalogue_back}
use Rattle.wire_form.proofs.catalogue.is_catalogue.Goals as goal
use Rattle.wire_form.specs.Parts.{HasItems}

pub returns-in_default : goal.returns-in_default
returns-in_default c =
    refused (λ p. absurd (c.in_default.ensures p.0 p.1 p.2)) (catalogue_forth c.args.number c.args.words.now _ _ c.told-words c.split_at.ensures.front c.split_at.ensures.back)

pub returns : goal.returns
returns c =
    let head = c.split_at.result.0.now in
    let body = c.split_at.result.1.now in
    let n = c.in-Some.count in
    instead _ c.has_stored.ensures
    (λ p. let q = catalogue_forth c.args.number c.args.words.now head body c.told-words c.split_at.ensures.front c.split_at.ensures.back p in
    subst (λ k. HasItems (IsStored c.args.number) stored_words stored_id ◌<◌ k body) (omega (arith, q.2, c.in-Some.ensures.1)) q.6)
    (λ q. catalogue_back c.args.number c.args.words.now head body c.told-words c.split_at.ensures.front c.split_at.ensures.back (n, c.in-Some.ensures.0, c.in-Some.ensures.1, omega arith, omega arith, c.if-not-is_head.ensures.0 refl, q))
