use Rattle.std.proofs.Common.{Err, Ok}
use Rattle.serial_model.specs.declared.op.Op.TheVariants as ops
use Rattle.serial_model.specs.declared.reply.Reply.TheVariants.{Rows}
use Rattle.serial_model.specs.declared.reply.Verdict.TheVariants.{Done}
use Rattle.engine_pages.specs.Passes.{view}
use Rattle.tx_runner.proofs.Answered.{with_reply}
use Rattle.tx_runner.proofs.Causes.{scan_cause}
use Rattle.tx_runner.proofs.Ran.{on_tree, tree_ran}
use Rattle.tx_runner.proofs.on_trees.scan_in_tree.Goals as goal

pub returns-in-Ok-clause-runs : goal.returns-in-Ok-clause-runs
returns-in-Ok-clause-runs c =
    tree_ran (ops.Scan c.args.storage c.args.low c.args.high) (Ok Done) c.args.replies.now c.push_rows.new.self
    c.args.sets.now c.scan.new.sets (view c.args.pass.now) (view c.scan.new.pass) c.requires.tree
    (with_reply (ops.Scan c.args.storage c.args.low c.args.high) (Rows c.scan.new.rows) c.args.replies.now
    c.push_rows.new.self c.args.sets.now c.scan.new.sets (view c.args.pass.now) (view c.scan.new.pass)
    c.in-Ok.ensures.replies c.push_rows.ensures)
    tt tt c.scan.ensures.most

pub returns-in-Err-clause-runs : goal.returns-in-Err-clause-runs
returns-in-Err-clause-runs c =
    tree_ran (ops.Scan c.args.storage c.args.low c.args.high) (Err c.in-Err.why) c.args.replies.now
    c.args.replies.now c.args.sets.now c.scan.new.sets (view c.args.pass.now) (view c.scan.new.pass) c.requires.tree tt
    c.in-Err.ensures.refused
    (scan_cause c.args.storage c.args.low c.args.high c.args.sets.now c.scan.new.sets c.in-Err.why (view
    c.args.pass.now)
    (view c.scan.new.pass) c.requires.live.decls c.requires.tree
    (on_tree (view c.args.pass.now).layout.decls (ops.Scan c.args.storage c.args.low c.args.high) c.requires.tree)
    c.in-Err.ensures.cause)
    c.scan.ensures.most
