-- No words are no replies.
use Rattle.std.proofs.Common.{sym, ap, ◌∙◌, subst, List, ℕ}
use Rattle.serial_model.specs.ReplyWords.{AreReplyWords, are_none, replies_of, replies_of-none}
use Rattle.serial_model.proofs.reply.Replies.clear.Goals as goal

pub invariant_of-self : goal.invariant_of-self
invariant_of-self c = subst (λ (l : List ℕ). AreReplyWords l) (sym c.clear.ensures) are_none

pub returns : goal.returns
returns c = ap replies_of c.clear.ensures ∙ replies_of-none
