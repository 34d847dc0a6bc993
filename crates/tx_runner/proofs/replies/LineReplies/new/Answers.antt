use Rattle.tx_runner.proofs.Words.{few_none, none_of}
use Rattle.tx_runner.proofs.replies.LineReplies.new.Goals as goal

pub invariant_of-result : goal.invariant_of-result
invariant_of-result c = few_none c.new.result c.new.ensures

pub returns : goal.returns
returns c = none_of c.new.result c.new.ensures
