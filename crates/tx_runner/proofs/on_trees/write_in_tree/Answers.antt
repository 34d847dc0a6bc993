use Rattle.std.proofs.Common.{Err, Ok, refl}
use Rattle.serial_model.specs.declared.op.Op.TheVariants as ops
use Rattle.serial_model.specs.declared.reply.Verdict.TheVariants.{Done}
use Rattle.engine_pages.specs.Passes.{view}
use Rattle.tx_runner.proofs.Answered.{without_reply}
use Rattle.tx_runner.proofs.Causes.{tree_write_cause}
use Rattle.tx_runner.proofs.Ran.{on_tree, tree_ran}
use Rattle.tx_runner.proofs.on_trees.write_in_tree.Goals as goal

pub returns-in-Ok-clause-runs : goal.returns-in-Ok-clause-runs
returns-in-Ok-clause-runs c = λ replies.
    tree_ran (ops.Write c.args.key c.args.value) (Ok Done) replies replies c.args.sets.now c.write.new.sets
    (view c.args.pass.now) (view c.write.new.pass) c.requires.tree
    (without_reply (ops.Write c.args.key c.args.value) replies c.args.sets.now c.write.new.sets
    (view c.args.pass.now) (view c.write.new.pass) c.in-Ok.ensures.done)
    tt tt c.write.ensures.most

pub returns-in-Err-clause-runs : goal.returns-in-Err-clause-runs
returns-in-Err-clause-runs c = λ replies.
    tree_ran (ops.Write c.args.key c.args.value) (Err c.in-Err.why) replies replies c.args.sets.now c.write.new.sets
    (view c.args.pass.now) (view c.write.new.pass) c.requires.tree tt c.in-Err.ensures.refused
    (tree_write_cause (ops.Write c.args.key c.args.value) c.args.sets.now c.write.new.sets c.args.key c.in-Err.why
    (view c.args.pass.now) (view c.write.new.pass) refl c.requires.live.decls c.requires.tree
    (on_tree (view c.args.pass.now).layout.decls (ops.Write c.args.key c.args.value) c.requires.tree)
    c.in-Err.ensures.cause)
    c.write.ensures.most
