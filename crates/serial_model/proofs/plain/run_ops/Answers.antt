use Rattle.std.proofs.Common.{◌∙◌, ap, refl, subst, sym}
use Rattle.serial_model.specs.Step.{step_from}
use Rattle.serial_model.specs.Draft.{GoesBack, working}
use Rattle.serial_model.proofs.Told.{with_replies}
use Rattle.serial_model.proofs.Working.{working-none}
use Rattle.serial_model.proofs.plain.run_ops.Goals as goal

pub loop-op-init : goal.loop-op-init
loop-op-init c =
    let decls = c.args.decls.now in
    let s = c.args.state.now in
    let ops = c.args.ops.now in
    record {
      told = ap (λ rs. with_replies rs (step_from decls s ops (working s c.args.draft.now.gone.keys))) c.requires.replies
          ∙ ap (step_from decls s ops) (ap (working s) c.requires.gone ∙ working-none s);
      back = subst (λ us. GoesBack us s s) (sym c.requires.undo) refl;
    }
