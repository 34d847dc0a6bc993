use Rattle.tx_runner.proofs.Words.{few_none, none_of}
use Rattle.tx_runner.proofs.replies.LineReplies.clear.Goals as goal

pub invariant_of-self : goal.invariant_of-self
invariant_of-self c = few_none c.clear.new.self c.clear.ensures

pub returns : goal.returns
returns c = none_of c.clear.new.self c.clear.ensures
