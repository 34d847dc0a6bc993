use Rattle.std.proofs.Common.{List, sym, subst, arith}
use Rattle.snapshot_store.specs.TreePages.{Record}
use Rattle.tree_drops.specs.Leaves.{IsStored}
use Rattle.tree_drops.proofs.stored.find.Goals as goal

pub find_from-requires-clause-few : goal.find_from-requires-clause-few
find_from-requires-clause-few c =
    c.requires.count.few

pub returns-clause-finds : goal.returns-clause-finds
returns-clause-finds c =
    subst (λ (rs : List Record). IsStored rs c.args.key c.find_from.result) (sym c.requires.count.records)
    (c.find_from.ensures.finds c.args.count (omega arith))
