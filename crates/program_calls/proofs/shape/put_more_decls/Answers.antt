-- Each turn adds a comma and a storage.
use Rattle.std.proofs.lemmas.List.{get_or_default}
use Rattle.text_output.specs.Printed.{adds_then, breaks_then, prints_at_stop}
use Rattle.program_calls.proofs.DeclsTold.{comma_broke, decl_broke, one_decl}
use Rattle.program_calls.proofs.shape.put_more_decls.Goals as goal

pub returns-in_err-put : goal.returns-in_err-put
returns-in_err-put g c = prints_at_stop _ _ c.from_residual.ensures.1
    (comma_broke _ _ _ c.args.decls.now c.loop-index.index c.loop-index.invariant c.loop-index-test.true c.in_err-put.ensures)

pub returns-in_err-put_decl : goal.returns-in_err-put_decl
returns-in_err-put_decl g c = prints_at_stop _ _ c.from_residual-in_err-put_decl.ensures.1
    (decl_broke _ _ _ c.args.decls.now c.loop-index.index _ c.loop-index.invariant c.loop-index-test.true
    (get_or_default _ _ _ _ c.loop-index-test.true) (breaks_then c.in_ok-put.ensures c.in_err-put_decl.ensures))

pub loop-index-preserved : goal.loop-index-preserved
loop-index-preserved g c =
    one_decl _ _ _ c.args.decls.now c.loop-index.index _ c.loop-index.invariant c.loop-index-test.true
    (get_or_default _ _ _ _ c.loop-index-test.true) (adds_then c.in_ok-put.ensures c.in_ok-put_decl.ensures)
