use Rattle.std.proofs.Common.{Err, Ok, arith, refl, true}
use Rattle.serial_model.specs.declared.op.Op.TheVariants as ops
use Rattle.serial_model.specs.declared.reply.Verdict.TheVariants.{Done}
use Rattle.serial_model.specs.Step.{reply_of}
use Rattle.engine_pages.specs.Passes.{view}
use Rattle.tx_runner.proofs.Answered.{with_reply}
use Rattle.tx_runner.proofs.Causes.{tree_read_cause}
use Rattle.tx_runner.proofs.Ran.{on_tree, tree_ran}
use Rattle.tx_runner.proofs.on_trees.read_in_tree.Goals as goal

pub returns-in-Ok-clause-runs : goal.returns-in-Ok-clause-runs
returns-in-Ok-clause-runs c =
    tree_ran (ops.Read c.args.key) (Ok Done) c.args.replies.now c.push_reply.new.replies c.args.sets.now c.read.new.sets
    (view c.args.pass.now) (view c.read.new.pass) c.requires.tree
    (with_reply (ops.Read c.args.key) (reply_of true c.in-Ok.value) c.args.replies.now c.push_reply.new.replies
    c.args.sets.now c.read.new.sets (view c.args.pass.now) (view c.read.new.pass) c.in-Ok.ensures.replies
    c.push_reply.ensures)
    tt tt (let took = c.read.ensures.most in omega (arith, took))

pub returns-in-Err-clause-runs : goal.returns-in-Err-clause-runs
returns-in-Err-clause-runs c =
    tree_ran (ops.Read c.args.key) (Err c.in-Err.why) c.args.replies.now c.args.replies.now c.args.sets.now
    c.read.new.sets (view c.args.pass.now) (view c.read.new.pass) c.requires.tree tt c.in-Err.ensures.refused
    (tree_read_cause (ops.Read c.args.key) c.args.sets.now c.read.new.sets c.args.key c.in-Err.why (view
    c.args.pass.now)
    (view c.read.new.pass) refl c.requires.live.decls c.requires.tree
    (on_tree (view c.args.pass.now).layout.decls (ops.Read c.args.key) c.requires.tree) c.in-Err.ensures.cause)
    (let took = c.read.ensures.most in omega (arith, took))
