use Rattle.std.proofs.Common.{refl}
use Rattle.serial_model.specs.declared.op.Op.TheVariants as ops
use Rattle.engine_pages.specs.Passes.{view}
use Rattle.tx_runner.proofs.Answered.{alters_answered}
use Rattle.tx_runner.proofs.Causes.{tree_alters_caused}
use Rattle.tx_runner.proofs.Ran.{on_tree, tree_ran}
use Rattle.tx_runner.proofs.on_trees.add_in_tree.Goals as goal

pub returns-clause-runs : goal.returns-clause-runs
returns-clause-runs c = λ replies.
    tree_ran (ops.Add c.args.key c.args.amount) c.add.result replies replies c.args.sets.now c.add.new.sets
    (view c.args.pass.now) (view c.add.new.pass) c.requires.tree
    (alters_answered c.add.result (ops.Add c.args.key c.args.amount) replies c.args.sets.now c.add.new.sets
    (view c.args.pass.now) (view c.add.new.pass) c.add.ensures.turns)
    c.add.ensures.refused
    (tree_alters_caused c.add.result (ops.Add c.args.key c.args.amount) c.args.sets.now c.add.new.sets c.args.key
    (view c.args.pass.now) (view c.add.new.pass) refl refl c.requires.live.decls c.requires.tree
    (on_tree (view c.args.pass.now).layout.decls (ops.Add c.args.key c.args.amount) c.requires.tree)
    c.add.ensures.cause)
    c.add.ensures.most
