use Rattle.std.proofs.Common.{ap, arith}
use Rattle.engine_pages.specs.Passes.{view}
use Rattle.engine_pages.specs.declared.view.View.{View}
use Rattle.resident_pages.proofs.PagesFilled.{knows_all}
use Rattle.shared_rounds.proofs.Claimed.{claimed_still}
use Rattle.shared_rounds.proofs.NewPages.{only_looked}
use Rattle.shared_rounds.proofs.publishing.count_known.Goals as goal

pub returns-clause-only : goal.returns-clause-only
returns-clause-only c =
    only_looked (view c.args.keeper.now) (view c.look_at_pages.new.pass) c.look_at_pages.result
    c.look_at_pages.ensures.looks

pub returns-clause-claimed : goal.returns-clause-claimed
returns-clause-claimed c =
    let is = c.look_at_pages.ensures.looks.is in
    claimed_still (view c.args.keeper.now) (view c.look_at_pages.new.pass) c.requires.claimed
    (ap (λ (v : View). v.layout) is) (ap (λ (v : View). v.fills) is) (ap (λ (v : View). v.pages) is)

pub returns-clause-count : goal.returns-clause-count
returns-clause-count c =
    let count = knows_all (view c.args.keeper.now) c.look_at_pages.result (view c.look_at_pages.new.pass)
    c.requires.claimed c.look_at_pages.ensures.looks in
    let most = c.look_at_pages.ensures.looks.most in
    let few = c.requires.few in omega (arith, count, most, few)
