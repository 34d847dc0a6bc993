use Rattle.std.proofs.Common.{Err, Ok, arith, refl}
use Rattle.serial_model.specs.declared.op.Op.TheVariants as ops
use Rattle.serial_model.specs.declared.reply.Reply.TheVariants.{Value}
use Rattle.serial_model.specs.declared.reply.Verdict.TheVariants.{Done}
use Rattle.engine_pages.specs.Passes.{view}
use Rattle.tx_runner.proofs.Answered.{with_reply}
use Rattle.tx_runner.proofs.Causes.{read_cause}
use Rattle.tx_runner.proofs.Ran.{array_ran}
use Rattle.tx_runner.proofs.on_arrays.read_in_array.Goals as goal

pub returns-in-Ok-clause-runs : goal.returns-in-Ok-clause-runs
returns-in-Ok-clause-runs c =
    array_ran (ops.Read c.args.key) (Ok Done) c.args.replies.now c.push_value.new.self c.args.txn.now.sets
    c.read.new.self.sets (view c.args.pass.now) (view c.read.new.pass) c.requires.live.decls c.requires.array.array
    (with_reply (ops.Read c.args.key) (Value c.in-Ok.value) c.args.replies.now c.push_value.new.self c.args.txn.now.sets
    c.read.new.self.sets (view c.args.pass.now) (view c.read.new.pass) c.in-Ok.ensures.replies c.push_value.ensures)
    tt tt (let took = c.read.ensures.most in omega (arith, took))
    (let few = c.read.ensures.grows in omega (arith, few))

pub returns-in-Err-clause-runs : goal.returns-in-Err-clause-runs
returns-in-Err-clause-runs c =
    array_ran (ops.Read c.args.key) (Err c.in-Err.why) c.args.replies.now c.args.replies.now c.args.txn.now.sets
    c.read.new.self.sets (view c.args.pass.now) (view c.read.new.pass) c.requires.live.decls c.requires.array.array tt
    c.in-Err.ensures.refused
    (read_cause (ops.Read c.args.key) c.args.txn.now.sets c.read.new.self.sets c.args.key c.in-Err.why
    (view c.args.pass.now) (view c.read.new.pass) refl c.requires.array.array
    (let few = c.read.ensures.grows in omega (arith, few)) c.in-Err.ensures.cause)
    (let took = c.read.ensures.most in omega (arith, took))
    (let few = c.read.ensures.grows in omega (arith, few))
