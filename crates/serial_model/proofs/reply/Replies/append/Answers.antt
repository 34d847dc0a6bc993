-- The words of the other replies.
use Rattle.serial_model.proofs.Pushed.{words_appended, replies_appended}
use Rattle.serial_model.proofs.reply.Replies.append.Goals as goal

pub invariant_of-self : goal.invariant_of-self
invariant_of-self c =
    words_appended c.append.result c.self.inside.words c.append.new.self c.words.result.now c.args.other.now c.self.invariant c.words.ensures
    c.append.ensures.ok c.append.ensures.memory

pub returns-clause-ok : goal.returns-clause-ok
returns-clause-ok c =
    replies_appended c.append.result c.self.inside.words c.append.new.self c.words.result.now c.args.self.now c.args.other.now c.self.invariant
    c.self.view_is c.words.ensures c.append.ensures.ok
