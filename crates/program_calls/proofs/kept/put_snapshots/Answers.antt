-- Each turn adds a line.
use Rattle.std.proofs.lemmas.List.{get_or_default}
use Rattle.text_output.specs.Printed.{prints_at_stop}
use Rattle.program_calls.proofs.SnapshotsTold.{line_broke, one_line}
use Rattle.program_calls.proofs.kept.put_snapshots.Goals as goal

pub returns-in_err-put_snapshot : goal.returns-in_err-put_snapshot
returns-in_err-put_snapshot g c = prints_at_stop _ _ c.from_residual.ensures.1
    (line_broke _ _ _ c.args.marks.now c.loop-index.index _ c.loop-index.invariant c.loop-index-test.true
    (get_or_default _ _ _ _ c.loop-index-test.true) c.in_err-put_snapshot.ensures)

pub loop-index-preserved : goal.loop-index-preserved
loop-index-preserved g c =
    one_line _ _ _ c.args.marks.now c.loop-index.index _ c.loop-index.invariant c.loop-index-test.true
    (get_or_default _ _ _ _ c.loop-index-test.true) c.in_ok-put_snapshot.ensures
