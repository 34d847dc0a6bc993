-- The parts are those of the opening.
use Rattle.std.proofs.Common.{◌∙◌, refl, sym, ap}
use Rattle.drop_core.specs.Event.{DropState}
use Rattle.engine_rule.specs.Pairs.{snap_keys}
use Rattle.engine_rule.proofs.OpeningLaws.{opened_is}
use Rattle.engine_rule.proofs.opening.opened.Goals as goal

pub returns : goal.returns
returns c =
    let d = c.table.result.now in
    opened_is c.args.snaps c.args.published c.args.roots.now c.args.first c.args.room c.args.seats c.of_parts.result d _
    (snap_keys d.snaps) (snap_keys d.snaps) _ _ _ _
    (c.table.ensures ∙ ap (λ (s : DropState). s.table) c.in_ok-pages.ensures.opens)
    (c.into_parts-table.ensures.grips ∙ ap (λ (s : DropState). s.grips) c.in_ok-pages.ensures.opens)
    refl refl c.in_ok-opening.ensures.0 c.in_ok-opening.ensures.1 c.fresh_story-story.ensures c.in_ok-opening.ensures.2
    c.of_parts.ensures.opening c.of_parts.ensures.story c.of_parts.ensures.seats
    (c.of_parts.ensures.table ∙ c.into_parts-table.ensures.table ∙ sym c.table.ensures) c.of_parts.ensures.grips
