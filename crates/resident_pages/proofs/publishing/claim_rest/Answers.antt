use Rattle.std.proofs.Common.{◌≡◌, ◌+◌, true≢false, refl, sym, ap, ◌∙◌, arith}
use Rattle.engine_pages.specs.declared.view.View.{View}
use Rattle.engine_pages.specs.Passes.{view}
use Rattle.resident_pages.proofs.PagesFilled.{claim_more, claimed_all, claimed_same, found_more}
use Rattle.resident_pages.proofs.PagesFilled.{none_claimed, only_then}
use Rattle.resident_pages.proofs.publishing.claim_rest.Goals as goal

pub loop-i-init : goal.loop-i-init
loop-i-init c = record { of = c.requires.of; so = none_claimed (view c.args.pass.now) c.requires.none }

pub claim_page-count-requires-clause-keeper : goal.claim_page-count-requires-clause-keeper
claim_page-count-requires-clause-keeper c = ap (λ (v : View). v.role) c.loop-i.invariant.so.only ∙ c.requires.keeper

pub claim_page-count-requires-clause-room : goal.claim_page-count-requires-clause-room
claim_page-count-requires-clause-room c =
    let same : (view c.loop-i.pass).layout.resident ≡ (view c.args.pass.now).layout.resident =
    ap (λ (v : View). v.layout.resident) c.loop-i.invariant.so.only in
    let resident = c.requires.resident in
    let less = c.loop-i-test.true in
    let within = c.requires.within in omega (arith, same, resident, less, within)

pub loop-i-preserved : goal.loop-i-preserved
loop-i-preserved c = record {
  of = c.claim_page-count.ensures.of;
  so = claim_more ((c.args.known + c.loop-i.i) + 1) (view c.loop-i.pass) c.claim_page-count.result
      (view c.claim_page-count.new.pass) c.args.known c.loop-i.i (view c.args.pass.now) c.loop-i.invariant.so
      c.requires.known refl c.claim_page-count.ensures.claims
      (let not = c.if-count-from.false in let page = c.from.ensures in omega (arith, not, page));
}

pub returns-then-count-from-clause-only : goal.returns-then-count-from-clause-only
returns-then-count-from-clause-only c =
    let v = view c.loop-i.pass in
    let w = view c.claim_page-count.new.pass in
    only_then (view c.args.pass.now) v w w.steps w.last w.fills c.loop-i.invariant.so.only
    (claimed_same ((c.args.known + c.loop-i.i) + 1) v c.claim_page-count.result w c.claim_page-count.ensures.claims)

pub returns-then-count-from-clause-claims : goal.returns-then-count-from-clause-claims
returns-then-count-from-clause-claims c is = absurd (true≢false (sym is))

pub returns-then-count-from-clause-found : goal.returns-then-count-from-clause-found
returns-then-count-from-clause-found c is =
    found_more (view c.args.pass.now) (view c.loop-i.pass) ((c.args.known + c.loop-i.i) + 1) c.claim_page-count.result
    (view c.claim_page-count.new.pass)
    (let known = c.requires.known in omega (arith, known))
    (let high = c.if-count-from.true in let page = c.from.ensures in omega (arith, high, page))
    c.claim_page-count.ensures.claims

pub returns-clause-found : goal.returns-clause-found
returns-clause-found c is = absurd (true≢false is)

pub returns-clause-only : goal.returns-clause-only
returns-clause-only c = c.loop-i.invariant.so.only

pub returns-clause-claims : goal.returns-clause-claims
returns-clause-claims c is =
    claimed_all c.args.known c.args.resident c.loop-i.i (view c.args.pass.now) (view c.loop-i.pass) c.loop-i.invariant.so
    c.requires.known c.requires.resident
    (let end = c.loop-i.auto.i-end in let within = c.requires.within in omega (arith, end, within))
