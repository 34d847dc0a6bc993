-- A mark alone.
use Rattle.std.proofs.Common.{refl}
use Rattle.serial_model.specs.ReplyWords.{reply_words}
use Rattle.serial_model.specs.declared.reply.Reply.TheVariants.{Absent}
use Rattle.serial_model.proofs.Pushed.{was_pushed}
use Rattle.serial_model.proofs.reply.Replies.push_absent.Goals as goal

pub push_words-requires : goal.push_words-requires
unfolding reply_words
push_words-requires c = (Absent, refl)

pub returns-clause-ok : goal.returns-clause-ok
unfolding reply_words
returns-clause-ok c = was_pushed c.push_words.result c.args.self.now c.push_words.new.self _ Absent refl c.push_words.ensures.ok
