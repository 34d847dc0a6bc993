-- The first storage, and the others.
use Rattle.std.proofs.Common.{drop}
use Rattle.std.proofs.lemmas.List.{get_or_default}
use Rattle.text_output.specs.Printed.{breaks_within, prints_at_stop, prints_then}
use Rattle.program_calls.specs.Ending.{more_decls_text}
use Rattle.program_calls.proofs.DeclsTold.{some_decls}
use Rattle.program_calls.proofs.shape.put_some_decls.Goals as goal

pub returns-in_err-put_decl : goal.returns-in_err-put_decl
returns-in_err-put_decl g c = some_decls _ _ c.args.decls.now _ _ c.requires (get_or_default _ _ _ _ c.requires)
    (prints_at_stop _ _ c.from_residual.ensures.1 (breaks_within (more_decls_text (drop 1 c.args.decls.now)) c.in_err-put_decl.ensures))

pub returns : goal.returns
returns g c = some_decls _ _ c.args.decls.now _ _ c.requires (get_or_default _ _ _ _ c.requires)
    (prints_then _ _ _ c.in_ok-put_decl.ensures c.put_more_decls.ensures)
