-- What is made of the pages has what they have at keys.
use Rattle.std.proofs.Common.{◌∙◌, arith, sym, ap, subst}
use Rattle.serial_model.specs.declared.number.Number.{Number}
use Rattle.serial_model.specs.Numbers.{IsNumber}
use Rattle.engine_pages.specs.declared.view.View.{View}
use Rattle.shared_rounds.proofs.Begins.{first_kept, first_shared}
use Rattle.shared_rounds.proofs.Declared.{opens_declared}
use Rattle.shared_rounds.proofs.engine.SharedEngine.new.Goals as goal

pub invariant_of-result : goal.invariant_of-result
invariant_of-result c =
    let made = c.in_ok-words.ensures.ok in
    let draw-is = ap (λ (n : Number). n.draw) c.first-clock.ensures.value in
    let first-is = ap (λ (v : View). v.layout.first.draw) made.1 in (
      record {
        of = made.0;
        kept = first_kept c.args.start _ c.requires.can
            (opens_declared c.args.start c.requires.can c.first-clock.ensures.read) made.1 made.2;
        decls_are = c.requires.decls ∙ ap (λ (v : View). v.layout.decls) (sym made.1);
        number = subst IsNumber (sym c.first-clock.ensures.value) c.requires.can.opens.number;
        epoch = ap (λ (n : Number). n.epoch) c.first-clock.ensures.value ∙ ap (λ (v : View). v.epoch) (sym made.1);
        draw = let draws-is = ap (λ (v : View). v.draws) made.1 in omega (arith, draw-is, first-is, draws-is);
      },
      c.in_ok-desks.ensures,
    )

pub returns : goal.returns
returns c = record {
  begins = first_shared c.args.start _ c.in_ok-words.keeper c.in_ok-words.ensures.ok.1 c.first-clock.ensures.value;
}
