use Rattle.std.proofs.Common.{[], ◌∷◌, ◌++◌, ap, ◌∙◌, arith}
use Rattle.serial_model.specs.declared.reply.Reply.TheVariants.{Value}
use Rattle.tx_runner.proofs.Words.{small_more, great_more}
use Rattle.tx_runner.proofs.replies.LineReplies.push_value.Goals as goal

pub invariant_of-self : goal.invariant_of-self
invariant_of-self c = (small_more c.args.value c.self.inside.words c.push.new.self
    (omega (arith, c.if-value.true)) c.self.invariant c.push.ensures).0

pub returns-then-value : goal.returns-then-value
returns-then-value c = (small_more c.args.value c.self.inside.words c.push.new.self
    (omega (arith, c.if-value.true)) c.self.invariant c.push.ensures).1
    ∙ ap (λ l. l ++ Value c.args.value ∷ []) c.self.view_is

pub invariant_of-self-else-value : goal.invariant_of-self-else-value
invariant_of-self-else-value c = (great_more c.args.value c.self.inside.words c.push-else-value.new.self
    c.push-else-value-2.new.self (omega (arith, c.if-value.false)) c.self.invariant
    c.push-else-value.ensures c.push-else-value-2.ensures).0

pub returns-else-value : goal.returns-else-value
returns-else-value c = (great_more c.args.value c.self.inside.words c.push-else-value.new.self
    c.push-else-value-2.new.self (omega (arith, c.if-value.false)) c.self.invariant
    c.push-else-value.ensures c.push-else-value-2.ensures).1
    ∙ ap (λ l. l ++ Value c.args.value ∷ []) c.self.view_is
