use Rattle.std.proofs.Common.{arith}
use Rattle.engine_pages.specs.Passes.{view}
use Rattle.page_drops.proofs.Looks.{glanced_self, glanced_then}
use Rattle.tree_drops.proofs.Covers.{index_less, search_end, search_here, search_next}
use Rattle.tree_drops.proofs.Works.{keys_worked, only_glanced, tree_worked}
use Rattle.tree_drops.proofs.leaves.+search_from.Goals as goal

pub returns-then-index-leaf-clause-glances : goal.returns-then-index-leaf-clause-glances
returns-then-index-leaf-clause-glances t c =
    glanced_self (view c.args.pass.now)

pub returns-then-index-leaf-clause-finds : goal.returns-then-index-leaf-clause-finds
returns-then-index-leaf-clause-finds t c =
    λ x. search_end c.args.leaf.slot c.args.leaf.count c.args.index c.args.leaf.span _ (view c.args.pass.now) x c.if-index-leaf.true

pub returns-then-here-key-clause-finds : goal.returns-then-here-key-clause-finds
returns-then-here-key-clause-finds t c =
    λ x.
    search_here c.args.leaf.slot c.args.leaf.count c.args.index c.args.key c.args.leaf.span c.key_at-here.result (view c.args.pass.now) x (c.key_at-here.ensures.key x) c.key_at-here.ensures.storage
    c.if-here-key.true

pub search_from-requires : goal.search_from-requires
search_from-requires t c =
    let v = view c.args.pass.now in
    let a = view c.key_at-here.new.pass in
    let works = (only_glanced v a c.key_at-here.ensures.glances).looks.works in
    let less = index_less c.args.index c.args.leaf.count c.requires.within c.if-index-leaf.false in (
      omega (arith, less),
      (
        c.key_at-here.ensures.of,
        (
          tree_worked c.args.leaf.slot c.args.leaf.page c.args.leaf.span v a works c.requires.at,
          (keys_worked c.args.leaf.slot c.args.leaf.count c.args.leaf.span v a works c.requires.known, omega (arith, less)),
        ),
      ),
    )

pub returns-clause-glances : goal.returns-clause-glances
returns-clause-glances t c =
    glanced_then (view c.args.pass.now) (view c.key_at-here.new.pass) (view c.search_from.new.pass) c.key_at-here.ensures.glances
    c.search_from.ensures.glances

pub returns-clause-finds : goal.returns-clause-finds
returns-clause-finds t c =
    λ x.
    search_next c.args.leaf.slot c.args.leaf.count c.args.index c.args.key c.args.leaf.span c.key_at-here.result c.search_from.result (view c.args.pass.now) (view c.key_at-here.new.pass)
    c.key_at-here.ensures.glances x (c.key_at-here.ensures.key x) c.if-here-key.false c.search_from.ensures.finds
