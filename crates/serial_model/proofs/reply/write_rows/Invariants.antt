-- The mark, the count, and the rows so far.
use Rattle.serial_model.proofs.RowsWritten.{WrittenSoFar}
use Rattle.serial_model.proofs.reply.write_rows.Given as goal

abbrev pub invariant-loop-key : goal.invariant-loop-key
invariant-loop-key l = WrittenSoFar l.rows l.key-index l.end l.words
