-- Each turn adds a space and a reply.
use Rattle.std.proofs.Common.{◌≡◌, ◌++◌, ap}
use Rattle.std.specs.Prelude.{codes}
use Rattle.serial_model.specs.Lent.{reply_lent}
use Rattle.text_output.specs.Printed.{adds_then, breaks_then, breaks_within, prints_at_stop}
use Rattle.tx_script.specs.Text.{replies_text, reply_text}
use Rattle.tx_script.proofs.TextSoFar.{so_far-breaks, so_far-more}
use Rattle.tx_script.proofs.print.put_replies.Goals as goal

pub returns-in_err-put : goal.returns-in_err-put
returns-in_err-put g c =
    let split : replies_text c.loop-reply.left ≡ (codes " " ++ reply_text (reply_lent c.in-Some.reply)) ++ replies_text c.in-Some.rest = ap replies_text c.in-Some.ensures in
    prints_at_stop _ _ c.from_residual.ensures.1 (so_far-breaks _ (replies_text c.in-Some.rest) c.loop-reply.invariant split (breaks_within (reply_text (reply_lent c.in-Some.reply)) c.in_err-put.ensures))

pub returns-in_err-put_reply : goal.returns-in_err-put_reply
returns-in_err-put_reply g c =
    let split : replies_text c.loop-reply.left ≡ (codes " " ++ reply_text (reply_lent c.in-Some.reply)) ++ replies_text c.in-Some.rest = ap replies_text c.in-Some.ensures in
    prints_at_stop _ _ c.from_residual-in_err-put_reply.ensures.1 (so_far-breaks _ _ c.loop-reply.invariant split (breaks_then c.in_ok-put.ensures c.in_err-put_reply.ensures))

pub loop-reply-preserved : goal.loop-reply-preserved
loop-reply-preserved g c =
    let split : replies_text c.loop-reply.left ≡ (codes " " ++ reply_text (reply_lent c.in-Some.reply)) ++ replies_text c.in-Some.rest = ap replies_text c.in-Some.ensures in
    so_far-more _ _ c.loop-reply.invariant split (adds_then c.in_ok-put.ensures c.in_ok-put_reply.ensures)
