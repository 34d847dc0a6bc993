use Rattle.std.proofs.Common.{arith}
use Rattle.std.proofs.lemmas.Result.{err_from_is_err_and}
use Rattle.engine_pages.specs.Passes.{view}
use Rattle.tree_walks.specs.Ways.{IsLeafOn}
use Rattle.tree_making.specs.Making.{make_steps, way_steps, IsMade}
use Rattle.tree_making.proofs.LeafLaws.{leaf_done, refused_more}
use Rattle.tree_making.proofs.making.make_volatile.Goals as goal

pub returns-in_err-leaf-clause-makes : goal.returns-in_err-leaf-clause-makes
returns-in_err-leaf-clause-makes c =
    let p = err_from_is_err_and c.from_residual.result c.from_residual.ensures.1 in
    let v = view c.args.pass.now in
    rw (p.1, p.2)
    (refused_more (way_steps v.layout.slots) (make_steps v.layout.slots) c.args.key
    c.args.pointers.now c.args.headers.now c.make_way.new.holds (IsLeafOn c.args.key c.args.headers.now)
    (IsMade c.args.key c.args.headers.now) _ v (view c.make_way.new.pass) (omega arith) c.in_err-leaf.ensures.makes)

pub in_leaf-requires-clause-active : goal.in_leaf-requires-clause-active
in_leaf-requires-clause-active c = c.in_ok-leaf.ensures.makes.went.can.walks.active

pub in_leaf-requires-clause-leaf : goal.in_leaf-requires-clause-leaf
in_leaf-requires-clause-leaf c = (c.args.headers.now, c.in_ok-leaf.ensures.makes.came)

pub returns-clause-makes : goal.returns-clause-makes
returns-clause-makes c =
    let v = view c.args.pass.now in
    leaf_done (way_steps v.layout.slots) c.args.key c.args.pointers.now
    c.args.headers.now c.make_way.new.holds c.in_ok-leaf.leaf c.in_leaf.result v (view c.make_way.new.pass)
    (view c.in_leaf.new.pass) c.in_ok-leaf.ensures.makes c.in_leaf.ensures.glances c.in_leaf.ensures.most
    (c.in_leaf.ensures.made c.args.headers.now c.in_ok-leaf.ensures.makes.came)
