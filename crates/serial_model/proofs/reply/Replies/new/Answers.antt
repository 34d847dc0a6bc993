-- No words are no replies.
use Rattle.std.proofs.Common.{sym, ap, ◌∙◌, subst, List, ℕ}
use Rattle.serial_model.specs.ReplyWords.{AreReplyWords, are_none, replies_of, replies_of-none}
use Rattle.serial_model.proofs.reply.Replies.new.Goals as goal

pub invariant_of-result : goal.invariant_of-result
invariant_of-result c = subst (λ (l : List ℕ). AreReplyWords l) (sym c.new.ensures) are_none

pub returns : goal.returns
returns c = ap replies_of c.new.ensures ∙ replies_of-none
