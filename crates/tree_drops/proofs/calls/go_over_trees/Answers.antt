use Rattle.std.proofs.Common.{◌≡◌, ◌<◌, ◌≤◌, List, ap, sym, ◌∙◌, subst, arith, length}
use Rattle.serial_model.specs.declared.decl.Decl.{Decl}
use Rattle.engine_pages.specs.declared.view.View.{View}
use Rattle.engine_pages.specs.Passes.{view}
use Rattle.page_drops.proofs.Alls.{root_all, root_less}
use Rattle.tree_drops.specs.Calls.{HasGoneTrees}
use Rattle.tree_drops.proofs.Storages.{can_go_tree, few_so_far, storage_next}
use Rattle.tree_drops.proofs.calls.go_over_trees.Goals as goal

pub loop-root-init : goal.loop-root-init
loop-root-init c = record { of = c.requires.of; goes = c.requires.gone }

pub visit_tree-sum-requires-clause-over : goal.visit_tree-sum-requires-clause-over
visit_tree-sum-requires-clause-over c =
    let less = subst (λ (ds : List Decl). c.loop-root.root < length ds) c.decls-root-end.ensures c.loop-root-test.true in
    can_go_tree c.args.roots.now c.args.epoch c.loop-root.root c.loop-root.root c.loop-root.sum (view c.args.pass.now)
    (view c.loop-root.pass) c.requires.can c.loop-root.invariant.goes
    (root_less c.args.roots.now c.args.engine.now.table.shared.key c.loop-root.root (view c.args.pass.now) c.requires.can
    c.requires.of.layout less)

pub visit_tree-sum-requires-clause-past : goal.visit_tree-sum-requires-clause-past
visit_tree-sum-requires-clause-past c =
    subst (λ n. c.args.epoch ≤ n) (sym (ap (λ (z : View). z.past) c.loop-root.invariant.goes.goes.went)) c.requires.past

pub visit_tree-sum-requires-clause-unsealed : goal.visit_tree-sum-requires-clause-unsealed
visit_tree-sum-requires-clause-unsealed c =
    ap (λ (z : View). z.sealed) c.loop-root.invariant.goes.goes.went ∙ c.requires.unsealed

pub visit_tree-sum-requires-clause-few : goal.visit_tree-sum-requires-clause-few
visit_tree-sum-requires-clause-few c =
    few_so_far c.args.roots.now c.args.epoch (length c.args.roots.now) c.loop-root.root c.loop-root.sum (view c.loop-root.pass)
    c.loop-root.invariant.goes.over

pub loop-root-preserved : goal.loop-root-preserved
loop-root-preserved c =
    let less = subst (λ (ds : List Decl). c.loop-root.root < length ds) c.decls-root-end.ensures c.loop-root-test.true in
    record {
      of = c.visit_tree-sum.ensures.of;
      goes = storage_next c.args.roots.now c.args.epoch c.loop-root.root c.loop-root.sum c.visit_tree-sum.result
          (view c.args.pass.now) (view c.loop-root.pass) (view c.visit_tree-sum.new.pass) c.requires.can
          (root_less c.args.roots.now c.args.engine.now.table.shared.key c.loop-root.root (view c.args.pass.now) c.requires.can
          c.requires.of.layout less) c.loop-root.invariant.goes c.visit_tree-sum.ensures.visits;
    }

pub returns-clause-goes : goal.returns-clause-goes
returns-clause-goes c =
    let count = ap length c.decls-root-end.ensures ∙ root_all c.args.roots.now c.args.engine.now.table.shared.key
    (view c.args.pass.now) c.requires.can c.requires.of.layout in
    let end = c.loop-root-test.false in
    let most = c.loop-root.auto.root-end in
    let all : c.loop-root.root ≡ length c.args.roots.now = omega (arith, end, most, count) in
    subst (λ n. HasGoneTrees c.args.roots.now c.args.epoch n (view c.args.pass.now) c.loop-root.sum (view c.loop-root.pass)) all
    c.loop-root.invariant.goes
