use Rattle.std.proofs.Common.{refl}
use Rattle.serial_model.specs.declared.op.Op.TheVariants as ops
use Rattle.engine_pages.specs.Passes.{view}
use Rattle.tx_runner.proofs.Answered.{alters_answered}
use Rattle.tx_runner.proofs.Causes.{alters_caused}
use Rattle.tx_runner.proofs.Ran.{array_ran}
use Rattle.tx_runner.proofs.on_arrays.add_in_array.Goals as goal

pub returns-clause-runs : goal.returns-clause-runs
returns-clause-runs c = λ replies.
    array_ran (ops.Add c.args.key c.args.amount) c.add.result replies replies c.args.txn.now.sets c.add.new.self.sets
    (view c.args.pass.now) (view c.add.new.pass) c.requires.live.decls c.requires.array.array
    (alters_answered c.add.result (ops.Add c.args.key c.args.amount) replies c.args.txn.now.sets c.add.new.self.sets
    (view c.args.pass.now) (view c.add.new.pass) c.add.ensures.turns)
    c.add.ensures.refused
    (alters_caused c.add.result (ops.Add c.args.key c.args.amount) c.args.txn.now.sets c.add.new.self.sets c.args.key
    (view c.args.pass.now) (view c.add.new.pass) refl refl c.requires.array.array c.add.ensures.grows
    c.add.ensures.cause)
    c.add.ensures.most c.add.ensures.grows
