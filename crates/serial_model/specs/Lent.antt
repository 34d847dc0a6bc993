-- Replies that are read where they lie.
use Rattle.serial_model.specs.declared.reply.Reply.{Reply}
use Rattle.serial_model.specs.declared.reply.Reply.TheVariants.{Value, Absent, Rows}
use Rattle.serial_model.specs.declared.lent.LentReply.{LentReply}
use Rattle.serial_model.specs.declared.lent.LentReply.TheVariants as lent

-- the reply that is read
abbrev pub reply_lent : LentReply → Reply
reply_lent (lent.Value v) = Value v
reply_lent lent.Absent = Absent
reply_lent (lent.Rows rows) = Rows rows
