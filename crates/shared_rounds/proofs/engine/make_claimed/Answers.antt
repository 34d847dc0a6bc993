use Rattle.std.proofs.Common.{◌∙◌, sym, ap, subst, length}
use Rattle.engine_pages.specs.Passes.{view}
use Rattle.engine_pages.specs.declared.view.View.{View}
use Rattle.resident_pages.specs.Publishes.{OnlyFilled}
use Rattle.shared_rounds.proofs.engine.make_claimed.Goals as goal

pub claim_rest-requires-clause-keeper : goal.claim_rest-requires-clause-keeper
claim_rest-requires-clause-keeper c = ap (λ (v : View). v.role) c.in_ok-words.ensures.ok.1

pub claim_rest-requires-clause-known : goal.claim_rest-requires-clause-known
claim_rest-requires-clause-known c =
    c.page_count-known.ensures ∙ sym (ap (λ (v : View). length v.pages) c.in_ok-words.ensures.ok.1)

pub claim_rest-requires-clause-resident : goal.claim_rest-requires-clause-resident
claim_rest-requires-clause-resident c =
    c.resident-resident.ensures ∙ sym (ap (λ (v : View). v.layout.resident) c.in_ok-words.ensures.ok.1)

pub claim_rest-requires-clause-none : goal.claim_rest-requires-clause-none
claim_rest-requires-clause-none c = ap (λ (v : View). v.fills) c.in_ok-words.ensures.ok.1

pub returns : goal.returns
returns c = record {
  ok = (
    c.claim_rest.ensures.of,
    subst (λ (v : View). OnlyFilled v (view c.claim_rest.new.pass)) c.in_ok-words.ensures.ok.1
        c.claim_rest.ensures.only,
    c.claim_rest.ensures.claims c.if-not-claim_rest.false,
  );
}
