use Rattle.recovery_core.specs.RecoverableLaws.{one_reading, one_recoverable}
use Rattle.recovery_core.specs.DamageLaws.{reading_stands, one_damaged}
use Rattle.recovery_core.proofs.laws.one_recoverable.Goals as goal

pub returns : goal.returns
returns c = record { reading = one_reading; state = one_recoverable; stands = reading_stands; damage = one_damaged }
