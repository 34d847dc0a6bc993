-- The entry of one record more.
use Rattle.engine_rule.proofs.ReadTrees.{entry_pushed}
use Rattle.engine_rule.proofs.entries.tree_entries.Goals as goal

pub loop-i-preserved : goal.loop-i-preserved
loop-i-preserved c =
    entry_pushed c.args.id c.args.words.now c.loop-i.i c.loop-i.entries c.push.new.self c.word_at.result
    c.word_at-in-loop-i.result c.word_at-in-loop-i-2.result c.number_in.result c.number_in.ensures
    c.in_ok-push.ensures.ok c.word_at.ensures c.word_at-in-loop-i.ensures c.word_at-in-loop-i-2.ensures c.loop-i.invariant
