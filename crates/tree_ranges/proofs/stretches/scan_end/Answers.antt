use Rattle.std.proofs.Common.{◌≡◌, ℕ, ◌+◌, ◌*◌, ◌≤◌, sym, subst, arith}
use Rattle.engine_pages.specs.Passes.{view}
use Rattle.tree_walks.specs.declared.ways.End.{End}
use Rattle.tree_walks.specs.Ways.{HasCome}
use Rattle.tree_ranges.proofs.StretchLaws.{comes_slower}
use Rattle.tree_ranges.proofs.stretches.scan_end.Goals as goal

pub scan_leaf-requires-clause-leaf : goal.scan_leaf-requires-clause-leaf
scan_leaf-requires-clause-leaf c =
    subst (λ (e : End). HasCome c.args.key c.args.sets.now.pointers c.args.sets.now.headers e (view c.args.pass.now))
    c.in-Leaf.is c.requires.came

pub scan_below-requires-clause-bare : goal.scan_below-requires-clause-bare
scan_below-requires-clause-bare c =
    subst (λ (e : End). HasCome c.args.key c.args.sets.now.pointers c.args.sets.now.headers e (view c.args.pass.now))
    c.in-Below.is c.requires.came

pub returns-in-Leaf-clause-comes : goal.returns-in-Leaf-clause-comes
returns-in-Leaf-clause-comes c =
    comes_slower 17 1181 19 19 c.args.key.storage c.args.key.key c.args.last c.scan_leaf.result c.args.sets.now
    c.scan_leaf.new.sets c.args.rows.now c.scan_leaf.new.rows (view c.args.pass.now) (view c.scan_leaf.new.pass)
    c.requires.last (λ d some. omega arith) c.scan_leaf.ensures.comes

pub returns-in-Below-clause-comes : goal.returns-in-Below-clause-comes
returns-in-Below-clause-comes c =
    comes_slower 1200 1181 0 19 c.args.key.storage c.args.key.key c.args.last c.scan_below.result c.args.sets.now
    c.scan_below.new.sets c.args.rows.now c.scan_below.new.rows (view c.args.pass.now) (view c.scan_below.new.pass)
    c.requires.last (λ d some. omega (arith, some)) c.scan_below.ensures.comes
