use Rattle.std.proofs.Common.{[], ◌∷◌, ◌++◌, ap, ◌∙◌}
use Rattle.serial_model.specs.declared.reply.Reply.TheVariants.{Absent}
use Rattle.tx_runner.proofs.Words.{absent_more}
use Rattle.tx_runner.proofs.replies.LineReplies.push_absent.Goals as goal

pub invariant_of-self : goal.invariant_of-self
invariant_of-self c = (absent_more c.self.inside.words c.push.new.self c.self.invariant c.push.ensures).0

pub returns : goal.returns
returns c = (absent_more c.self.inside.words c.push.new.self c.self.invariant c.push.ensures).1
    ∙ ap (λ l. l ++ Absent ∷ []) c.self.view_is
