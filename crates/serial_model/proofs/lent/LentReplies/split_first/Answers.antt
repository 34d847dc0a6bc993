-- No words are no replies.
use Rattle.std.proofs.Common.{sym, ap, ◌∙◌}
use Rattle.serial_model.specs.ReplyWords.{replies_of, replies_of-none}
use Rattle.serial_model.proofs.lent.LentReplies.split_first.Goals as goal

pub returns-in_err-reply : goal.returns-in_err-reply
returns-in_err-reply c = rw c.from_residual.ensures (sym c.self.view_is ∙ ap replies_of c.in_err-reply.ensures ∙ replies_of-none)
