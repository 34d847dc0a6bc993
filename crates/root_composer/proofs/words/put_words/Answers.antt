use Rattle.std.proofs.Common.{arith, ◌∙◌}
use Rattle.root_composer.proofs.WordLemmas.{pasted_none, pasted_more, pasted_all}
use Rattle.root_composer.proofs.words.put_words.Goals as goal

pub loop-i-init : goal.loop-i-init
loop-i-init c = pasted_none c.args.words.now c.args.at c.args.list.now

pub loop-i-preserved : goal.loop-i-preserved
loop-i-preserved c = pasted_more c.args.words.now c.loop-i.words c.args.at c.args.list.now c.loop-i.i (omega arith) (omega arith) c.loop-i.invariant

pub returns : goal.returns
returns c = c.loop-i.invariant ∙ pasted_all c.args.words.now c.args.at c.args.list.now c.loop-i.i (omega arith)
