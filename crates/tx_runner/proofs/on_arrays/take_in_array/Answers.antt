use Rattle.std.proofs.Common.{refl}
use Rattle.serial_model.specs.declared.op.Op.TheVariants as ops
use Rattle.engine_pages.specs.Passes.{view}
use Rattle.tx_runner.proofs.Answered.{alters_answered}
use Rattle.tx_runner.proofs.Causes.{alters_caused}
use Rattle.tx_runner.proofs.Ran.{array_ran}
use Rattle.tx_runner.proofs.on_arrays.take_in_array.Goals as goal

pub returns-clause-runs : goal.returns-clause-runs
returns-clause-runs c = λ replies.
    array_ran (ops.Take c.args.key c.args.amount) c.take.result replies replies c.args.txn.now.sets c.take.new.self.sets
    (view c.args.pass.now) (view c.take.new.pass) c.requires.live.decls c.requires.array.array
    (alters_answered c.take.result (ops.Take c.args.key c.args.amount) replies c.args.txn.now.sets c.take.new.self.sets
    (view c.args.pass.now) (view c.take.new.pass) c.take.ensures.turns)
    c.take.ensures.refused
    (alters_caused c.take.result (ops.Take c.args.key c.args.amount) c.args.txn.now.sets c.take.new.self.sets c.args.key
    (view c.args.pass.now) (view c.take.new.pass) refl refl c.requires.array.array c.take.ensures.grows
    c.take.ensures.cause)
    c.take.ensures.most c.take.ensures.grows
