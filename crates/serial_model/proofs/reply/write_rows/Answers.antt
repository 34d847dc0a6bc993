-- First the mark and the count, last all rows.
use Rattle.std.proofs.Common.{arith}
use Rattle.serial_model.proofs.RowsWritten.{none_written, all_written}
use Rattle.serial_model.proofs.reply.write_rows.Goals as goal

pub loop-key-init : goal.loop-key-init
loop-key-init c = none_written c.args.rows.now c.args.words.now c.told-words

pub returns-clause-written : goal.returns-clause-written
returns-clause-written c =
    all_written c.args.rows.now c.loop-key.key-index c.loop-key.end c.loop-key.words (omega arith) c.loop-key.invariant
