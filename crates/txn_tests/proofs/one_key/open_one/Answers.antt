use Rattle.std.proofs.Common.{ap}
use Rattle.engine_pages.specs.declared.view.View.{View}
use Rattle.engine_pages.specs.Passes.{view}
use Rattle.page_commit.proofs.PlaceLaws.{spot_here}
use Rattle.txn_tests.specs.Standing.{first_key}
use Rattle.txn_tests.proofs.KeyLaws.{can_open, opens, spot_any, within_active}
use Rattle.txn_tests.proofs.one_key.open_one.Goals as goal

pub open_anew-requires-clause-pass : goal.open_anew-requires-clause-pass
open_anew-requires-clause-pass c =
    within_active c.args.holds.now (view c.args.pass.now) c.requires.put.within

pub open_anew-requires-clause-place : goal.open_anew-requires-clause-place
open_anew-requires-clause-place c =
    spot_any c.args.engine.now c.args.pass.now first_key c.args.at c.spot_of.result c.requires.of c.spot_of.ensures
    c.requires.put.has.place

pub open_anew-requires-clause-word : goal.open_anew-requires-clause-word
open_anew-requires-clause-word c =
    can_open c.args.holds.now c.args.at c.args.number c.spot_of.result (view c.args.pass.now) c.requires.put
    (spot_here c.args.engine.now c.args.pass.now c.args.at c.spot_of.result c.requires.of c.spot_of.ensures)

pub returns-clause-layout : goal.returns-clause-layout
returns-clause-layout c = ap (λ (v : View). v.layout) c.open_anew.ensures.opens

pub returns-clause-opens : goal.returns-clause-opens
returns-clause-opens c =
    opens c.args.holds.now c.args.at c.args.number _ (view c.args.pass.now) _ c.requires.put c.open_anew.ensures.opens
