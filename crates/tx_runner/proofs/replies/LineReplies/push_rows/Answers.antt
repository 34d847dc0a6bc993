use Rattle.std.proofs.Common.{[], ◌∷◌, ◌++◌, ap, length, ◌∙◌}
use Rattle.serial_model.specs.declared.reply.Reply.TheVariants.{Rows}
use Rattle.serial_model.specs.ReplyWords.{rows_words}
use Rattle.tx_runner.proofs.Words.{rows_more}
use Rattle.tx_runner.proofs.replies.LineReplies.push_rows.Goals as goal

pub invariant_of-self : goal.invariant_of-self
invariant_of-self c =
    let pairs = c.as_slice-pairs.ensures in
    (rows_more c.args.rows.now c.self.inside.words c.push.new.self c.push-2.new.self c.push_pairs.new.words pairs.bound
    c.self.invariant c.push.ensures (c.push-2.ensures ∙ ap (λ l. c.push.new.self ++ length l ∷ []) pairs.value)
    (c.push_pairs.ensures ∙ ap (λ l. c.push-2.new.self ++ rows_words l) pairs.value)).0

pub returns : goal.returns
returns c =
    let pairs = c.as_slice-pairs.ensures in
    (rows_more c.args.rows.now c.self.inside.words c.push.new.self c.push-2.new.self c.push_pairs.new.words pairs.bound
    c.self.invariant c.push.ensures (c.push-2.ensures ∙ ap (λ l. c.push.new.self ++ length l ∷ []) pairs.value)
    (c.push_pairs.ensures ∙ ap (λ l. c.push-2.new.self ++ rows_words l) pairs.value)).1
    ∙ ap (λ l. l ++ Rows c.args.rows.now ∷ []) c.self.view_is
