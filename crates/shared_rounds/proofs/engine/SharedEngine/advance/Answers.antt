-- The clock alone goes on.
use Rattle.std.proofs.Common.{◌+◌, ◌<◌, ◌∙◌, arith, sym, ap, subst}
use Rattle.serial_model.specs.Numbers.{last_epoch}
use Rattle.engine_pages.specs.declared.view.View.{View}
use Rattle.shared_rounds.specs.SharedState.{SharedState}
use Rattle.shared_rounds.proofs.Kept.{kept_next}
use Rattle.shared_rounds.proofs.engine.SharedEngine.advance.Goals as goal

pub invariant_of-self : goal.invariant_of-self
invariant_of-self c =
    let was = c.self.invariant.0 in
    let number = was.number in
    let low = subst (λ (s : SharedState). s.clock.epoch < last_epoch) (sym c.self.view_is) c.requires in
    let next = c.advance.ensures.advances in (
      record {
        of = c.advance.ensures.of;
        kept = kept_next _ _ next was.kept;
        decls_are = was.decls_are ∙ ap (λ (v : View). v.layout.decls) (sym next);
        number = record {
          some_epoch = omega arith;
          most_epoch = omega (arith, low);
          some_draw = number.some_draw;
          most_draw = number.most_draw;
        };
        epoch = ap (λ e. e + 1) was.epoch ∙ ap (λ (v : View). v.epoch) (sym next);
        draw = let first = ap (λ (v : View). v.layout.first.draw + v.draws) next in omega (arith, was.draw, first);
      },
      c.self.invariant.1,
    )
