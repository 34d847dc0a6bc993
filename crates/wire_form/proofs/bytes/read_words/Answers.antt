use Rattle.std.proofs.Common.{arith, ◌<◌, ◌^◌}
use Rattle.std.proofs.lemmas.List.{take_more_set}
use Rattle.lists.specs.Each.{all_append}
use Rattle.wire_form.proofs.ByteLemmas.{one_more_read}
use Rattle.wire_form.proofs.bytes.read_words.Goals as goal

pub loop-i-preserved : goal.loop-i-preserved
loop-i-preserved c = record {
  read = one_more_read c.args.bytes.now c.loop-i.words c.loop-i.i c.word_at.result (omega arith) c.loop-i.invariant.read c.word_at.ensures;
  fit = rw (take_more_set c.loop-i.words c.loop-i.i c.word_at.result (omega arith)) (all_append (λ w. w < 2 ^ 64) _ _ c.loop-i.invariant.fit (c.word_at.type_inv, tt));
}
