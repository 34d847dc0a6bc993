-- The words of one reply more.
use Rattle.std.proofs.Common.{[], ◌∷◌}
use Rattle.serial_model.proofs.Pushed.{words_appended, each_pushed, one_reply}
use Rattle.serial_model.proofs.reply.Replies.push_words.Goals as goal

pub invariant_of-self : goal.invariant_of-self
invariant_of-self c =
    words_appended c.append.result c.self.inside.words c.append.new.self c.args.words.now (c.requires.0 ∷ []) c.self.invariant
    (one_reply c.args.words.now c.requires.0 c.requires.1) c.append.ensures.ok c.append.ensures.memory

pub returns-clause-ok : goal.returns-clause-ok
returns-clause-ok c =
    each_pushed c.append.result c.self.inside.words c.append.new.self c.args.words.now c.args.self.now c.self.invariant c.self.view_is c.append.ensures.ok
