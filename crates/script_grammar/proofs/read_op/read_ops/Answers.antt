use Rattle.std.proofs.Common.{sym, subst}
use Rattle.script_grammar.proofs.OpsSoFar.{AreOpsSoFar, none_yet}
use Rattle.script_grammar.proofs.read_op.read_ops.Goals as goal

pub loop-part-init : goal.loop-part-init
loop-part-init c = subst (λ ops. AreOpsSoFar c.args.bytes.now ops c.args.bytes.now) (sym c.clear.ensures) (none_yet c.args.bytes.now)
