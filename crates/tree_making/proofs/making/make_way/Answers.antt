use Rattle.std.proofs.Common.{arith}
use Rattle.std.specs.Prelude.{Ok, Err}
use Rattle.std.proofs.lemmas.Result.{err_from_is_err_and}
use Rattle.engine_pages.specs.Passes.{view}
use Rattle.tree_walks.specs.Walks.{walk_steps}
use Rattle.tree_walks.specs.Ways.{HasCome, IsLeafOn}
use Rattle.tree_making.specs.Making.{way_steps}
use Rattle.tree_making.proofs.LeafLaws.{refused_more}
use Rattle.tree_making.proofs.MakeLaws.{walk_makes}
use Rattle.tree_making.proofs.RoundLaws.{came_bare, came_leaf, fewer_left, made_first, round_made, round_refused}
use Rattle.tree_making.proofs.making.make_way.Goals as goal

pub go_down-requires-clause-can : goal.go_down-requires-clause-can
go_down-requires-clause-can c = c.requires.can.walks

pub returns-in_err-end-clause-makes : goal.returns-in_err-end-clause-makes
returns-in_err-end-clause-makes c =
    let p = err_from_is_err_and c.from_residual.result c.from_residual.ensures.1 in
    let v = view c.args.pass.now in
    rw (p.1, p.2)
    (refused_more walk_steps (way_steps v.layout.slots) c.args.key c.args.pointers.now c.args.headers.now
    c.go_down.new.holds (HasCome c.args.key c.args.pointers.now c.args.headers.now)
    (IsLeafOn c.args.key c.args.headers.now) _ v (view c.go_down.new.pass) (omega arith)
    (walk_makes walk_steps c.args.key c.args.pointers.now c.args.headers.now c.args.holds.now c.go_down.new.holds
    (HasCome c.args.key c.args.pointers.now c.args.headers.now) (Err _) v (view c.go_down.new.pass) c.requires.can
    c.in_err-end.ensures.goes))

pub loop-end-init : goal.loop-end-init
loop-end-init c = record {
  of = c.go_down.ensures.of;
  made = made_first c.args.key c.args.pointers.now c.args.headers.now c.go_down.new.holds c.in_ok-end.end
      (view c.args.pass.now) (view c.go_down.new.pass)
      (walk_makes walk_steps c.args.key c.args.pointers.now c.args.headers.now c.args.holds.now c.go_down.new.holds
      (HasCome c.args.key c.args.pointers.now c.args.headers.now) (Ok c.in_ok-end.end) (view c.args.pass.now)
      (view c.go_down.new.pass) c.requires.can c.in_ok-end.ensures.goes);
}

pub returns-in-Leaf-clause-makes : goal.returns-in-Leaf-clause-makes
returns-in-Leaf-clause-makes c =
    came_leaf c.args.key c.args.pointers.now c.args.headers.now c.loop-end.holds c.loop-end.end (view c.args.pass.now)
    (view c.loop-end.pass) c.loop-end.invariant.made c.in-Leaf.leaf c.in-Leaf.is

pub go_below-requires-clause-of : goal.go_below-requires-clause-of
go_below-requires-clause-of c = c.loop-end.invariant.of

pub go_below-requires-clause-can : goal.go_below-requires-clause-can
go_below-requires-clause-can c = c.loop-end.invariant.made.makes.went.can

pub go_below-requires-clause-bare : goal.go_below-requires-clause-bare
go_below-requires-clause-bare c =
    came_bare c.args.key c.args.pointers.now c.args.headers.now c.loop-end.holds c.loop-end.end (view c.args.pass.now)
    (view c.loop-end.pass) c.loop-end.invariant.made c.in-Below.bare c.in-Below.is

pub returns-in_err-end-in-Below-clause-makes : goal.returns-in_err-end-in-Below-clause-makes
returns-in_err-end-in-Below-clause-makes c =
    let p = err_from_is_err_and c.from_residual-in_err-end-in-Below.result
    c.from_residual-in_err-end-in-Below.ensures.1 in
    rw (p.1, p.2)
    (round_refused c.args.key c.args.pointers.now c.args.headers.now c.loop-end.holds c.loop-end.end
    (view c.args.pass.now) (view c.loop-end.pass) c.loop-end.invariant.made c.go_below.new.holds _
    (view c.go_below.new.pass) c.in_err-end-in-Below.ensures.makes)

pub loop-end-preserved : goal.loop-end-preserved
loop-end-preserved c = record {
  of = c.go_below.ensures.of;
  made = round_made c.args.key c.args.pointers.now c.args.headers.now c.loop-end.holds c.loop-end.end
      (view c.args.pass.now) (view c.loop-end.pass) c.loop-end.invariant.made c.go_below.new.holds
      c.in_ok-end-in-Below.end (view c.go_below.new.pass) c.in_ok-end-in-Below.ensures.makes c.in_ok-end-in-Below.ensures.more;
}

pub loop-end-smaller : goal.loop-end-smaller
loop-end-smaller c =
    let v = view c.args.pass.now in
    let u = view c.loop-end.pass in
    let w = view c.go_below.new.pass in
    let less = fewer_left v u w c.loop-end.invariant.made.makes.went.walked c.go_below.ensures.makes.went.walked
    c.in_ok-end-in-Below.ensures.more in omega (arith, less)
