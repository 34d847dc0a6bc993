use Rattle.std.proofs.Common.{subst, arith}
use Rattle.std.proofs.lemmas.Result.{err_from_is_err_and}
use Rattle.engine_pages.specs.Passes.{view}
use Rattle.tree_walks.specs.declared.ways.End.{End}
use Rattle.tree_walks.specs.Ways.{HasCome}
use Rattle.tree_walks.proofs.FindLaws.{finds_refused, finds_then}
use Rattle.tree_walks.proofs.finding.find.Goals as goal

pub find_in_leaf-requires-clause-can : goal.find_in_leaf-requires-clause-can
find_in_leaf-requires-clause-can c = c.in_ok-end.ensures.goes.went.can

pub find_in_leaf-requires-clause-leaf : goal.find_in_leaf-requires-clause-leaf
find_in_leaf-requires-clause-leaf c =
    subst (λ (e : End). HasCome c.args.key c.args.pointers.now c.args.headers.now e (view c.walk_down.new.pass)) c.in-Leaf.is
    c.in_ok-end.ensures.goes.came

pub find_below-requires-clause-can : goal.find_below-requires-clause-can
find_below-requires-clause-can c = c.in_ok-end.ensures.goes.went.can

pub find_below-requires-clause-bare : goal.find_below-requires-clause-bare
find_below-requires-clause-bare c =
    subst (λ (e : End). HasCome c.args.key c.args.pointers.now c.args.headers.now e (view c.walk_down.new.pass)) c.in-Below.is
    c.in_ok-end.ensures.goes.came

pub returns-in-Leaf-clause-finds : goal.returns-in-Leaf-clause-finds
returns-in-Leaf-clause-finds c =
    finds_then 20 c.args.key c.args.pointers.now c.args.headers.now c.walk_down.new.holds c.in_ok-end.end
    c.find_in_leaf.result (view c.args.pass.now) (view c.walk_down.new.pass) (view c.find_in_leaf.new.pass)
    (omega arith) c.in_ok-end.ensures.goes c.find_in_leaf.ensures.keeps

pub returns-in-Below-clause-finds : goal.returns-in-Below-clause-finds
returns-in-Below-clause-finds c =
    finds_then 1200 c.args.key c.args.pointers.now c.args.headers.now c.walk_down.new.holds c.in_ok-end.end
    c.find_below.result (view c.args.pass.now) (view c.walk_down.new.pass) (view c.find_below.new.pass)
    (omega arith) c.in_ok-end.ensures.goes c.find_below.ensures.keeps

pub returns-in_err-end-clause-finds : goal.returns-in_err-end-clause-finds
returns-in_err-end-clause-finds c =
    let p = err_from_is_err_and c.from_residual.result c.from_residual.ensures.1 in
    rw (p.1, p.2)
    (finds_refused c.args.key c.args.pointers.now c.args.headers.now c.walk_down.new.holds c.in_err-end.field-0.0
    (view c.args.pass.now) (view c.walk_down.new.pass) c.in_err-end.ensures.goes)
