use Rattle.std.proofs.Common.{◌++◌, ◌∷◌, [], map, sym, ap, ◌∙◌, take_all, arith}
use Rattle.std.proofs.lemmas.List.{length-map}
use Rattle.wire_form.specs.Pages.{stored_decl}
use Rattle.recovery_core.proofs.Taking.{take_get}
use Rattle.recovery_core.proofs.newest.decls_in.Goals as goal

pub loop-i-preserved : goal.loop-i-preserved
loop-i-preserved c =
    c.in_ok-push.ensures.ok ∙ ap (λ l. l ++ c.decl_at.result ∷ []) c.loop-i.invariant
    ∙ sym (take_get (map stored_decl c.args.storages.now) c.loop-i.i c.decl_at.result c.decl_at.ensures)

pub returns : goal.returns
returns c =
    c.loop-i.invariant
    ∙ take_all c.loop-i.i (map stored_decl c.args.storages.now)
    (omega (arith, length-map c.args.storages.now stored_decl, c.loop-i-test.false))
