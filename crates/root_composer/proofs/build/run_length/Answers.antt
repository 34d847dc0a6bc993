use Rattle.std.proofs.Common.{sym, arith}
use Rattle.root_composer.proofs.WordLemmas.{length_back}
use Rattle.root_composer.proofs.build.run_length.Goals as goal

pub returns : goal.returns
returns c = sym (length_back c.args.count c.args.runs c.args.i c.requires.within (omega arith))
