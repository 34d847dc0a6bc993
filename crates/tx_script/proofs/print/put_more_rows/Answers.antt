-- Each turn adds a comma and a pair.
use Rattle.std.proofs.Common.{◌≡◌, ◌++◌, ap}
use Rattle.std.specs.Prelude.{codes}
use Rattle.text_output.specs.Printed.{adds_then, breaks_then, breaks_within, prints_at_stop}
use Rattle.tx_script.specs.Text.{more_rows_text, pair_text}
use Rattle.tx_script.proofs.TextSoFar.{so_far-breaks, so_far-more}
use Rattle.tx_script.proofs.print.put_more_rows.Goals as goal

pub returns-in_err-put : goal.returns-in_err-put
returns-in_err-put g c =
    let split : more_rows_text c.loop-pair.left ≡ (codes "," ++ pair_text c.in-Some.pair) ++ more_rows_text c.in-Some.rest = ap more_rows_text c.in-Some.ensures in
    prints_at_stop _ _ c.from_residual.ensures.1 (so_far-breaks _ (more_rows_text c.in-Some.rest) c.loop-pair.invariant split (breaks_within (pair_text c.in-Some.pair) c.in_err-put.ensures))

pub returns-in_err-put_pair : goal.returns-in_err-put_pair
returns-in_err-put_pair g c =
    let split : more_rows_text c.loop-pair.left ≡ (codes "," ++ pair_text c.in-Some.pair) ++ more_rows_text c.in-Some.rest = ap more_rows_text c.in-Some.ensures in
    prints_at_stop _ _ c.from_residual-in_err-put_pair.ensures.1 (so_far-breaks _ _ c.loop-pair.invariant split (breaks_then c.in_ok-put.ensures c.in_err-put_pair.ensures))

pub loop-pair-preserved : goal.loop-pair-preserved
loop-pair-preserved g c =
    let split : more_rows_text c.loop-pair.left ≡ (codes "," ++ pair_text c.in-Some.pair) ++ more_rows_text c.in-Some.rest = ap more_rows_text c.in-Some.ensures in
    so_far-more _ _ c.loop-pair.invariant split (adds_then c.in_ok-put.ensures c.in_ok-put_pair.ensures)
