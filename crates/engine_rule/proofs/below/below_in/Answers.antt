-- The places below a page of a tree have no bound.
use Rattle.std.proofs.Common.{◌≡◌, sym, subst}
use Rattle.std.proofs.lemmas.Result.{IfOk-weaker}
use Rattle.std.specs.List.{AllByRecursion}
use Rattle.snapshot_store.specs.TreePages.{node_below, node_of}
use Rattle.engine_rule.specs.Reading.{IsBoundedIn}
use Rattle.engine_rule.proofs.ReadThere.{all_any}
use Rattle.engine_rule.proofs.below.below_in.Goals as goal

pub returns-in-Tree-clause-bounded : goal.returns-in-Tree-clause-bounded
returns-in-Tree-clause-bounded c =
    IfOk-weaker c.tree_below.result (λ places. places ≡ node_below c.args.place.low c.args.place.high (node_of c.args.words.now))
    (λ places. AllByRecursion (IsBoundedIn c.args.decl) places)
    (λ places is. subst (λ d. AllByRecursion (IsBoundedIn d) places) (sym c.in-Tree.is) (all_any places)) c.tree_below.ensures
