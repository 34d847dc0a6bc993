-- Page n is the n-th of them.
use Rattle.engine_rule.proofs.ReadPages.{words_read}
use Rattle.engine_rule.proofs.reading.words_at.Goals as goal

pub returns : goal.returns
returns c = words_read c.args.pages.now c.args.number _ c.requires.some c.requires.most
