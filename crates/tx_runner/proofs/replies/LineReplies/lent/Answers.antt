use Rattle.std.proofs.Common.{sym, ap, ◌∙◌, subst}
use Rattle.serial_model.specs.ReplyWords.{AreReplyWords, are_words, replies_of, replies_of-words}
use Rattle.tx_runner.proofs.replies.LineReplies.lent.Goals as goal

pub new-requires : goal.new-requires
new-requires c = subst AreReplyWords (sym c.words.ensures) (are_words c.args.self.now)

pub returns : goal.returns
returns c = c.new.ensures ∙ (ap replies_of c.words.ensures ∙ replies_of-words c.args.self.now)
