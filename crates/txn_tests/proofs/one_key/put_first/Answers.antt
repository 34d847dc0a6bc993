use Rattle.std.proofs.Common.{◌≡◌, ap, ◌∙◌, subst, sym, List}
use Rattle.serial_model.specs.declared.number.Change.{Change}
use Rattle.engine_pages.specs.declared.view.View.{View}
use Rattle.engine_pages.specs.Passes.{view}
use Rattle.page_records.specs.Attempts.{HasDrawn}
use Rattle.page_commit.proofs.PlaceLaws.{spot_here}
use Rattle.txn_tests.specs.Standing.{first_key}
use Rattle.txn_tests.proofs.KeyLaws.{can_decide, can_draw, can_put, has_put, is_putting, spot_any, within_active, IsPutting}
use Rattle.txn_tests.proofs.one_key.put_first.Goals as goal
use Rattle.txn_tests.proofs.one_key.put_first.Goals.{After-decide}

pub draw-number-requires-clause-pass : goal.draw-number-requires-clause-pass
draw-number-requires-clause-pass c =
    within_active c.args.holds.now (view c.args.pass.now) c.requires.holds.within

pub draw-number-requires-clause-can : goal.draw-number-requires-clause-can
draw-number-requires-clause-can c =
    can_draw c.args.holds.now c.args.at c.args.value c.change_of-changes.result (view c.args.pass.now)
    c.change_of-changes.ensures c.requires.holds

pub decide-requires-clause-checked : goal.decide-requires-clause-checked
decide-requires-clause-checked c =
    can_decide c.args.holds.now c.args.at _ _ (view c.args.pass.now) _ c.requires.holds c.draw-number.ensures.draws

putting : (c : After-decide) → IsPutting c.args.holds.now c.args.at c.draw-number.result c.args.value
    (view c.decide.new.pass)
putting c =
    is_putting c.args.holds.now c.args.at c.args.value c.draw-number.result c.decide.ensures.decides.0
    (view c.args.pass.now) (view c.draw-number.new.pass) (view c.decide.new.pass) c.requires.holds
    (subst (λ (l : List Change). HasDrawn l (view c.args.pass.now) c.draw-number.result (view c.draw-number.new.pass))
    c.change_of-changes.ensures c.draw-number.ensures.draws)
    c.decide.ensures.decides.1

pub put-requires-clause-pass : goal.put-requires-clause-pass
put-requires-clause-pass c =
    let at = (goal.at.put-requires-clause-pass c).After-decide in
    within_active c.args.holds.now (view c.decide.new.pass) (putting at).within

pub put-requires-clause-place : goal.put-requires-clause-place
put-requires-clause-place c =
    let at = (goal.at.put-requires-clause-place c).After-decide in
    spot_any c.args.engine.now c.decide.new.pass first_key c.args.at c.spot_of.result c.decide.ensures.of
    c.spot_of.ensures (putting at).has.place

pub put-requires-clause-writes : goal.put-requires-clause-writes
put-requires-clause-writes c =
    let at = (goal.at.put-requires-clause-writes c).After-decide in
    can_put c.args.holds.now c.args.at c.draw-number.result c.args.value c.spot_of.result (view c.decide.new.pass)
    (putting at)
    (spot_here c.args.engine.now c.decide.new.pass c.args.at c.spot_of.result c.decide.ensures.of c.spot_of.ensures)

pub returns-clause-layout : goal.returns-clause-layout
returns-clause-layout c =
    ap (λ (v : View). v.layout) c.put.ensures.puts
    ∙ (ap (λ (v : View). v.layout) c.decide.ensures.decides.1.is
    ∙ ap (λ (v : View). v.layout) c.draw-number.ensures.draws.is)

pub returns-clause-puts : goal.returns-clause-puts
returns-clause-puts c =
    let at = (goal.at.returns-clause-puts c).After-decide in
    has_put c.args.holds.now c.args.at c.draw-number.result c.args.value _ (view c.decide.new.pass) _ (putting at)
    c.put.ensures.puts
