-- No more replies than words.
use Rattle.std.proofs.Common.{◌≡◌, ◌∙◌, ap, sym, ℕ, length, List, arith}
use Rattle.serial_model.specs.ReplyWords.{few_replies, replies_words}
use Rattle.serial_model.specs.declared.reply.Reply.{Reply}
use Rattle.serial_model.proofs.reply.Replies.len.Goals as goal

pub loop-behind-init : goal.loop-behind-init
loop-behind-init c =
    let words : replies_words c.args.self.now ≡ c.self.inside.words = ap replies_words (sym c.self.view_is) ∙ c.self.invariant in
    let same : length (replies_words c.args.self.now) ≡ length c.self.inside.words = ap (λ (l : List ℕ). length l) words in
    (omega (arith, ap (λ (l : List Reply). length l) c.lent-rest.ensures), omega (arith, few_replies c.args.self.now, same, c.len-most.ensures.value))
