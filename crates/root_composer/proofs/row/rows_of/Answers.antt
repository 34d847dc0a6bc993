use Rattle.std.proofs.Common.{arith}
use Rattle.root_composer.proofs.WordLemmas.{row_pushed, rows_read}
use Rattle.root_composer.proofs.row.rows_of.Goals as goal

pub loop-i-preserved : goal.loop-i-preserved
loop-i-preserved c = row_pushed c.args.words.now c.loop-i.i c.loop-i.rows.items c.push.new.self.items c.in_ok-push.ensures.items c.loop-i.invariant

pub returns : goal.returns
returns c = rows_read c.args.words.now c.loop-i.i c.loop-i.rows.items (omega arith) c.requires.leaf c.loop-i.invariant
