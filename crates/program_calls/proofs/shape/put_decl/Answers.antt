-- An array, or a tree's id and its letter.
use Rattle.std.specs.Prelude.{codes}
use Rattle.text_output.specs.Printed.{breaks_within, prints_at_stop, prints_then}
use Rattle.program_calls.proofs.shape.put_decl.Goals as goal

pub returns-in_err-put_number-in-Tree : goal.returns-in_err-put_number-in-Tree
returns-in_err-put_number-in-Tree g c = rw c.in-Tree.is (prints_at_stop _ _ c.from_residual.ensures.1 (breaks_within (codes ":t") c.in_err-put_number-in-Tree.ensures))

pub returns-in_ok-put_number-in-Tree : goal.returns-in_ok-put_number-in-Tree
returns-in_ok-put_number-in-Tree g c = rw c.in-Tree.is (prints_then _ (codes ":t") _ c.in_ok-put_number-in-Tree.ensures c.put.ensures)
