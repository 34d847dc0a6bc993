use Rattle.std.proofs.Common.{ℕ, Option, Some, None, subst, arith}
use Rattle.engine_pages.specs.Passes.{view}
use Rattle.tree_walks.specs.Leaves.{IsSearched}
use Rattle.tree_walks.specs.Ways.{IsLeafAt}
use Rattle.tree_walks.proofs.FindLaws.{finds_behind}
use Rattle.tree_walks.proofs.KeepLaws.{keeps_glanced}
use Rattle.tree_walks.proofs.PathLaws.{paths_glanced}
use Rattle.tree_walks.proofs.LoadLaws.{glanced_grip, glanced_walked, glanced_went}
use Rattle.tree_walks.proofs.WayLaws.{leaf_on_glanced, leaf_stays}
use Rattle.tree_walks.proofs.finding.find_in_leaf.Goals as goal

pub search-requires-clause-active : goal.search-requires-clause-active
search-requires-clause-active c = c.requires.can.active

pub search-requires-clause-leaf : goal.search-requires-clause-leaf
search-requires-clause-leaf c = c.requires.leaf.leaf

pub read_record-requires-clause-can : goal.read_record-requires-clause-can
read_record-requires-clause-can c =
    (glanced_went 16 c.args.holds.now (view c.args.pass.now) (view c.search.new.pass) c.requires.can c.search.ensures.glances
    c.search.ensures.most).can

pub read_record-requires-clause-leaf : goal.read_record-requires-clause-leaf
read_record-requires-clause-leaf c =
    let v = view c.args.pass.now in
    let u = view c.search.new.pass in
    let l : IsLeafAt c.args.key c.args.leaf v = c.requires.leaf.leaf in (
      leaf_stays c.args.key c.args.leaf v u (glanced_walked v u c.search.ensures.glances) l,
      subst (λ (o : Option ℕ). IsSearched l.keys c.args.key o) c.in-Some.is (c.search.ensures.searched l),
    )

pub read_record-requires-clause-met : goal.read_record-requires-clause-met
read_record-requires-clause-met c =
    let v = view c.args.pass.now in
    let u = view c.search.new.pass in
    (leaf_on_glanced c.args.key c.args.headers.now c.args.leaf v u (glanced_walked v u c.search.ensures.glances)
    c.search.ensures.glances c.requires.leaf).met

pub returns-in-Some-clause-keeps : goal.returns-in-Some-clause-keeps
returns-in-Some-clause-keeps c =
    let v = view c.args.pass.now in
    let u = view c.search.new.pass in
    finds_behind 16 3 20 c.args.key c.args.pointers.now c.args.headers.now c.args.holds.now c.read_record.result v u
    (view c.read_record.new.pass) (omega arith)
    (glanced_went 16 c.args.holds.now v u c.requires.can c.search.ensures.glances c.search.ensures.most)
    (keeps_glanced c.args.pointers.now c.args.headers.now v u c.search.ensures.glances)
    (paths_glanced c.args.key v u c.search.ensures.glances)
    (glanced_grip v u c.search.ensures.glances) c.read_record.ensures.keeps

pub keep_absence-requires-clause-can : goal.keep_absence-requires-clause-can
keep_absence-requires-clause-can c =
    (glanced_went 16 c.args.holds.now (view c.args.pass.now) (view c.search.new.pass) c.requires.can c.search.ensures.glances
    c.search.ensures.most).can

pub keep_absence-requires-clause-leaf : goal.keep_absence-requires-clause-leaf
keep_absence-requires-clause-leaf c =
    let v = view c.args.pass.now in
    let u = view c.search.new.pass in
    leaf_on_glanced c.args.key c.args.headers.now c.args.leaf v u (glanced_walked v u c.search.ensures.glances)
    c.search.ensures.glances c.requires.leaf

pub keep_absence-requires-clause-none : goal.keep_absence-requires-clause-none
keep_absence-requires-clause-none c =
    let v = view c.args.pass.now in
    let u = view c.search.new.pass in
    let l : IsLeafAt c.args.key c.args.leaf v = c.requires.leaf.leaf in (
      leaf_stays c.args.key c.args.leaf v u (glanced_walked v u c.search.ensures.glances) l,
      subst (λ (o : Option ℕ). IsSearched l.keys c.args.key o) c.in-None.is (c.search.ensures.searched l),
    )

pub returns-in-None-clause-keeps : goal.returns-in-None-clause-keeps
returns-in-None-clause-keeps c =
    let v = view c.args.pass.now in
    let u = view c.search.new.pass in
    finds_behind 16 1 20 c.args.key c.args.pointers.now c.args.headers.now c.args.holds.now c.keep_absence.result v u
    (view c.keep_absence.new.pass) (omega arith)
    (glanced_went 16 c.args.holds.now v u c.requires.can c.search.ensures.glances c.search.ensures.most)
    (keeps_glanced c.args.pointers.now c.args.headers.now v u c.search.ensures.glances)
    (paths_glanced c.args.key v u c.search.ensures.glances)
    (glanced_grip v u c.search.ensures.glances) c.keep_absence.ensures.keeps
