use Rattle.recovery_core.proofs.GatherLaws.{puts_never}
use Rattle.recovery_core.proofs.gather_array.put_record.Goals as goal

pub returns-then-number-eq0 : goal.returns-then-number-eq0
returns-then-number-eq0 c = puts_never c.args.key c.args.number c.args.value c.args.state.now c.if-number-eq0.true
