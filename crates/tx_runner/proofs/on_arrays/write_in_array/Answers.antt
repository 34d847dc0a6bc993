use Rattle.std.proofs.Common.{Err, Ok, arith, refl}
use Rattle.serial_model.specs.declared.op.Op.TheVariants as ops
use Rattle.serial_model.specs.declared.reply.Verdict.TheVariants.{Done}
use Rattle.engine_pages.specs.Passes.{view}
use Rattle.tx_runner.proofs.Answered.{without_reply}
use Rattle.tx_runner.proofs.Causes.{write_cause}
use Rattle.tx_runner.proofs.Ran.{array_ran}
use Rattle.tx_runner.proofs.on_arrays.write_in_array.Goals as goal

pub returns-in-Ok-clause-runs : goal.returns-in-Ok-clause-runs
returns-in-Ok-clause-runs c = λ replies.
    array_ran (ops.Write c.args.key c.args.value) (Ok Done) replies replies c.args.txn.now.sets c.write.new.self.sets
    (view c.args.pass.now) (view c.write.new.pass) c.requires.live.decls c.requires.array.array
    (without_reply (ops.Write c.args.key c.args.value) replies c.args.txn.now.sets c.write.new.self.sets
    (view c.args.pass.now) (view c.write.new.pass) c.in-Ok.ensures.done)
    tt tt (let took = c.write.ensures.most in omega (arith, took))
    (let few = c.write.ensures.grows in omega (arith, few))

pub returns-in-Err-clause-runs : goal.returns-in-Err-clause-runs
returns-in-Err-clause-runs c = λ replies.
    array_ran (ops.Write c.args.key c.args.value) (Err c.in-Err.why) replies replies c.args.txn.now.sets
    c.write.new.self.sets (view c.args.pass.now) (view c.write.new.pass) c.requires.live.decls c.requires.array.array tt
    c.in-Err.ensures.refused
    (write_cause (ops.Write c.args.key c.args.value) c.args.txn.now.sets c.write.new.self.sets c.args.key c.in-Err.why
    (view c.args.pass.now) (view c.write.new.pass) refl (let few = c.write.ensures.grows in omega (arith, few))
    c.in-Err.ensures.cause)
    (let took = c.write.ensures.most in omega (arith, took))
    (let few = c.write.ensures.grows in omega (arith, few))
