use Rattle.std.proofs.Common.{◌≡◌, List, subst, true, arith}
use Rattle.std.specs.List.{Contains}
use Rattle.homes.specs.Homes.{has_key}
use Rattle.dual_pointer.specs.Installs.{tree_records}
use Rattle.snapshot_store.specs.TreePages.{Record}
use Rattle.engine_pages.specs.Passes.{view}
use Rattle.tree_drops.specs.Leaves.{CoversAll, KnowsKeys}
use Rattle.tree_drops.proofs.Covers.{ok_map}
use Rattle.tree_drops.proofs.leaves.cover.Goals as goal

pub returns-clause-covers : goal.returns-clause-covers
returns-clause-covers c =
    let v = view c.args.pass.now in
    ok_map c.cover_from.result (CoversAll c.args.leaf.slot c.args.leaf.span c.args.leaf.page c.args.leaf.count c.args.leaf.records 0 v)
    ((x : KnowsKeys c.args.leaf.slot c.args.leaf.span c.args.leaf.count v) (r : Record) → Contains (tree_records v.pages c.args.leaf.page) r
    → has_key (x.leaf).keys (record { storage = c.args.leaf.span.storage; key = r.key }) ≡ true)
    (λ all x r has. all x c.args.leaf.records (omega arith) r (subst (λ (l : List Record). Contains l r) c.requires.count.records has))
    c.cover_from.ensures.covers
