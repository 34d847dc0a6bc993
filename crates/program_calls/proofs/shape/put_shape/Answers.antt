-- The words and both lists.
use Rattle.std.proofs.Common.{[], ◌∷◌}
use Rattle.std.specs.Prelude.{codes}
use Rattle.text_output.specs.Printed.{adds_then, breaks_then, breaks_within, prints_at_stop, prints_then}
use Rattle.program_calls.specs.Ending.{decls_text}
use Rattle.program_calls.proofs.shape.put_shape.Goals as goal

pub returns-in_err-put : goal.returns-in_err-put
returns-in_err-put g c = prints_at_stop _ _ c.from_residual.ensures.1
    (breaks_within (10 ∷ []) (breaks_within (decls_text c.args.kept.now) (breaks_within (codes " kept ") (breaks_within (decls_text c.args.declared.now) c.in_err-put.ensures))))

pub returns-in_err-put_decls : goal.returns-in_err-put_decls
returns-in_err-put_decls g c = prints_at_stop _ _ c.from_residual-in_err-put_decls.ensures.1
    (breaks_within (10 ∷ []) (breaks_within (decls_text c.args.kept.now) (breaks_within (codes " kept ") (breaks_then c.in_ok-put.ensures c.in_err-put_decls.ensures))))

pub returns-in_err-put-2 : goal.returns-in_err-put-2
returns-in_err-put-2 g c = prints_at_stop _ _ c.from_residual-in_err-put-2.ensures.1
    (breaks_within (10 ∷ []) (breaks_within (decls_text c.args.kept.now) (breaks_then (adds_then c.in_ok-put.ensures c.in_ok-put_decls.ensures) c.in_err-put-2.ensures)))

pub returns-in_err-put_decls-2 : goal.returns-in_err-put_decls-2
returns-in_err-put_decls-2 g c = prints_at_stop _ _ c.from_residual-in_err-put_decls-2.ensures.1
    (breaks_within (10 ∷ []) (breaks_then (adds_then (adds_then c.in_ok-put.ensures c.in_ok-put_decls.ensures) c.in_ok-put-2.ensures) c.in_err-put_decls-2.ensures))

pub returns : goal.returns
returns g c = prints_then _ (10 ∷ []) _
    (adds_then (adds_then (adds_then c.in_ok-put.ensures c.in_ok-put_decls.ensures) c.in_ok-put-2.ensures) c.in_ok-put_decls-2.ensures)
    c.put-3.ensures
