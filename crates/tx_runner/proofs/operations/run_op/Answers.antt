use Rattle.std.proofs.Common.{sym, subst}
use Rattle.std.specs.Prelude.{IsTrue}
use Rattle.serial_model.specs.declared.op.Op.{Op}
use Rattle.serial_model.specs.Keys.{fits}
use Rattle.engine_pages.specs.Passes.{view}
use Rattle.tx_runner.specs.Steps.{RunsOp}
use Rattle.tx_runner.proofs.StorageKinds.{listed_tree}
use Rattle.tx_runner.proofs.operations.run_op.Goals as goal

pub read_key-requires-clause-fitting : goal.read_key-requires-clause-fitting
read_key-requires-clause-fitting c =
    subst (λ (o : Op). IsTrue (fits (view c.args.pass.now).layout.decls o)) c.in-Read.is c.requires.fitting

pub write_key-requires-clause-fitting : goal.write_key-requires-clause-fitting
write_key-requires-clause-fitting c =
    subst (λ (o : Op). IsTrue (fits (view c.args.pass.now).layout.decls o)) c.in-Write.is c.requires.fitting

pub add_to_key-requires-clause-fitting : goal.add_to_key-requires-clause-fitting
add_to_key-requires-clause-fitting c =
    subst (λ (o : Op). IsTrue (fits (view c.args.pass.now).layout.decls o)) c.in-Add.is c.requires.fitting

pub take_from_key-requires-clause-fitting : goal.take_from_key-requires-clause-fitting
take_from_key-requires-clause-fitting c =
    subst (λ (o : Op). IsTrue (fits (view c.args.pass.now).layout.decls o)) c.in-Take.is c.requires.fitting

pub remove_in_tree-requires-clause-tree : goal.remove_in_tree-requires-clause-tree
remove_in_tree-requires-clause-tree c =
    listed_tree (view c.args.pass.now).layout.decls c.in-Remove.key.storage c.requires.live.decls
    (subst (λ (o : Op). IsTrue (fits (view c.args.pass.now).layout.decls o)) c.in-Remove.is c.requires.fitting)

pub scan_in_tree-requires-clause-tree : goal.scan_in_tree-requires-clause-tree
scan_in_tree-requires-clause-tree c =
    listed_tree (view c.args.pass.now).layout.decls c.in-Scan.storage c.requires.live.decls
    (subst (λ (o : Op). IsTrue (fits (view c.args.pass.now).layout.decls o)) c.in-Scan.is c.requires.fitting)

pub returns-in-Read-clause-runs : goal.returns-in-Read-clause-runs
returns-in-Read-clause-runs c =
    subst (λ (o : Op). RunsOp o c.read_key.result c.args.replies.now c.read_key.new.replies c.args.txn.now.sets
    c.read_key.new.txn.sets (view c.args.pass.now) (view c.read_key.new.pass)) (sym c.in-Read.is)
    c.read_key.ensures.runs

pub returns-in-Write-clause-runs : goal.returns-in-Write-clause-runs
returns-in-Write-clause-runs c =
    subst (λ (o : Op). RunsOp o c.write_key.result c.args.replies.now c.args.replies.now c.args.txn.now.sets
    c.write_key.new.txn.sets (view c.args.pass.now) (view c.write_key.new.pass)) (sym c.in-Write.is)
    (c.write_key.ensures.runs c.args.replies.now)

pub returns-in-Remove-clause-runs : goal.returns-in-Remove-clause-runs
returns-in-Remove-clause-runs c =
    subst (λ (o : Op). RunsOp o c.remove_in_tree.result c.args.replies.now c.args.replies.now c.args.txn.now.sets
    c.remove_in_tree.new.sets (view c.args.pass.now) (view c.remove_in_tree.new.pass)) (sym c.in-Remove.is)
    (c.remove_in_tree.ensures.runs c.args.replies.now)

pub returns-in-Add-clause-runs : goal.returns-in-Add-clause-runs
returns-in-Add-clause-runs c =
    subst (λ (o : Op). RunsOp o c.add_to_key.result c.args.replies.now c.args.replies.now c.args.txn.now.sets
    c.add_to_key.new.txn.sets (view c.args.pass.now) (view c.add_to_key.new.pass)) (sym c.in-Add.is)
    (c.add_to_key.ensures.runs c.args.replies.now)

pub returns-in-Take-clause-runs : goal.returns-in-Take-clause-runs
returns-in-Take-clause-runs c =
    subst (λ (o : Op). RunsOp o c.take_from_key.result c.args.replies.now c.args.replies.now c.args.txn.now.sets
    c.take_from_key.new.txn.sets (view c.args.pass.now) (view c.take_from_key.new.pass)) (sym c.in-Take.is)
    (c.take_from_key.ensures.runs c.args.replies.now)

pub returns-in-Scan-clause-runs : goal.returns-in-Scan-clause-runs
returns-in-Scan-clause-runs c =
    subst (λ (o : Op). RunsOp o c.scan_in_tree.result c.args.replies.now c.scan_in_tree.new.replies c.args.txn.now.sets
    c.scan_in_tree.new.sets (view c.args.pass.now) (view c.scan_in_tree.new.pass)) (sym c.in-Scan.is)
    c.scan_in_tree.ensures.runs
