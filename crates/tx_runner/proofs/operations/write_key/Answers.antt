use Rattle.tx_runner.proofs.StorageKinds.{array_key, key_of_tree}
use Rattle.tx_runner.proofs.operations.write_key.Goals as goal

pub write_in_array-requires-clause-array : goal.write_in_array-requires-clause-array
write_in_array-requires-clause-array c =
    array_key c.args.engine.now c.args.pass.now c.args.key c.is_array.result c.requires.of c.is_array.ensures
    c.if-is_array.true c.requires.fitting

pub write_in_tree-requires-clause-tree : goal.write_in_tree-requires-clause-tree
write_in_tree-requires-clause-tree c =
    key_of_tree c.args.engine.now c.args.pass.now c.args.key c.is_array.result c.requires.of c.is_array.ensures
    c.if-is_array.false c.requires.fitting
