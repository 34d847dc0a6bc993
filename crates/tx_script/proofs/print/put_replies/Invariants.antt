-- The text of the replies so far was added.
use Rattle.std.proofs.Common.{length}
use Rattle.tx_script.specs.Text.{replies_text}
use Rattle.tx_script.proofs.TextSoFar.{TextSoFar}
use Rattle.tx_script.proofs.print.put_replies.Given as goal

abbrev pub invariant-loop-reply : goal.invariant-loop-reply
invariant-loop-reply g l = TextSoFar l.fn.printer l.printer (replies_text l.left) (replies_text l.fn.replies)

abbrev pub decreases-loop-reply : goal.decreases-loop-reply
decreases-loop-reply g l = length l.left
