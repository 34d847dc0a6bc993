use Rattle.std.proofs.Math.Facts.{Fits-lt-pow}
use Rattle.recovery_core.proofs.Taking.{all_fit}
use Rattle.recovery_core.proofs.catalogue.words_fit.Goals as goal

pub returns : goal.returns
returns c = all_fit c.args.words.now (λ i. Fits-lt-pow (c.type_inv.words i))
