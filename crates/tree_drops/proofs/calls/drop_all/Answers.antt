use Rattle.engine_pages.specs.Passes.{view}
use Rattle.tree_drops.proofs.Storages.{arrays_gone, begun_all, begun_is, can_behind, clean_behind, ends, few_roots, keeper_behind, past_behind}
use Rattle.tree_drops.proofs.calls.drop_all.Goals as goal

pub go_over_arrays-arrays-requires-clause-can : goal.go_over_arrays-arrays-requires-clause-can
go_over_arrays-arrays-requires-clause-can c =
    begun_all c.args.roots.now c.begin.result (view c.args.pass.now) (view c.begin.new.pass) c.begin.ensures.begins c.requires.can

pub go_over_arrays-arrays-requires-clause-begun : goal.go_over_arrays-arrays-requires-clause-begun
go_over_arrays-arrays-requires-clause-begun c =
    begun_is c.begin.result (view c.args.pass.now) (view c.begin.new.pass) c.begin.ensures.begins

pub go_over_trees-sum-requires-clause-can : goal.go_over_trees-sum-requires-clause-can
go_over_trees-sum-requires-clause-can c =
    can_behind c.args.roots.now c.begin.result c.go_over_arrays-arrays.result (view c.args.pass.now) (view c.begin.new.pass)
    (view c.go_over_arrays-arrays.new.pass) c.begin.ensures.begins c.requires.can c.go_over_arrays-arrays.ensures.goes

pub go_over_trees-sum-requires-clause-past : goal.go_over_trees-sum-requires-clause-past
go_over_trees-sum-requires-clause-past c =
    past_behind c.args.roots.now c.args.epoch c.begin.result c.go_over_arrays-arrays.result (view c.args.pass.now)
    (view c.begin.new.pass) (view c.go_over_arrays-arrays.new.pass) c.begin.ensures.begins c.requires.past
    c.go_over_arrays-arrays.ensures.goes

pub go_over_trees-sum-requires-clause-unsealed : goal.go_over_trees-sum-requires-clause-unsealed
go_over_trees-sum-requires-clause-unsealed c =
    clean_behind c.args.roots.now c.begin.result c.go_over_arrays-arrays.result (view c.args.pass.now) (view c.begin.new.pass)
    (view c.go_over_arrays-arrays.new.pass) c.begin.ensures.begins c.go_over_arrays-arrays.ensures.goes

pub go_over_trees-sum-requires-clause-gone : goal.go_over_trees-sum-requires-clause-gone
go_over_trees-sum-requires-clause-gone c =
    arrays_gone c.args.roots.now c.args.epoch c.go_over_arrays-arrays.result (view c.begin.new.pass)
    (view c.go_over_arrays-arrays.new.pass) (few_roots c.args.roots.now (view c.args.pass.now) c.requires.can)
    c.go_over_arrays-arrays.ensures.goes

pub count-requires-clause-keeper : goal.count-requires-clause-keeper
count-requires-clause-keeper c =
    keeper_behind c.args.roots.now c.args.epoch c.begin.result c.go_over_arrays-arrays.result c.go_over_trees-sum.result
    (view c.args.pass.now) (view c.begin.new.pass) (view c.go_over_arrays-arrays.new.pass) (view c.go_over_trees-sum.new.pass)
    c.begin.ensures.begins c.requires.can c.go_over_arrays-arrays.ensures.goes c.go_over_trees-sum.ensures.goes

pub returns-clause-drops : goal.returns-clause-drops
returns-clause-drops c =
    ends c.args.roots.now c.args.epoch c.begin.result c.count.result c.go_over_trees-sum.result c.go_over_arrays-arrays.result
    (view c.args.pass.now) (view c.begin.new.pass) (view c.go_over_arrays-arrays.new.pass) (view c.go_over_trees-sum.new.pass)
    (view c.count.new.pass) c.begin.ensures.begins c.go_over_arrays-arrays.ensures.goes c.go_over_trees-sum.ensures.goes
    c.count.ensures.counts
