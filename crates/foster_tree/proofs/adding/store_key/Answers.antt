use Rattle.std.proofs.Common.{◌+◌, ◌*◌, arith}
use Rattle.foster_tree.proofs.StoreLaws.{spare_behind}
use Rattle.foster_tree.proofs.adding.store_key.Goals as goal

pub store_word-requires-2-clause-can : goal.store_word-requires-2-clause-can
store_word-requires-2-clause-can c = (
  c.args.count,
  c.store_word.ensures.can c.args.count c.requires.can,
  spare_behind c.args.count ((16 + 3 * c.args.count) + 1) (omega arith),
)

pub store_word-requires-3-clause-can : goal.store_word-requires-3-clause-can
store_word-requires-3-clause-can c = (
  c.args.count,
  c.store_word-2.ensures.can c.args.count (c.store_word.ensures.can c.args.count c.requires.can),
  spare_behind c.args.count ((16 + 3 * c.args.count) + 2) (omega arith),
)
