use Rattle.std.proofs.Common.{◌≡◌, ◌<◌, List, ap, ◌∙◌, subst, arith, length}
use Rattle.serial_model.specs.declared.decl.Decl.{Decl}
use Rattle.engine_pages.specs.Passes.{view}
use Rattle.page_drops.specs.Calls.{HasGoneOver}
use Rattle.page_drops.proofs.Alls.{can_go, goes_on, has_room, root_all, root_few_all, root_less, starts}
use Rattle.tree_drops.proofs.calls.go_over_arrays.Goals as goal

pub loop-root-init : goal.loop-root-init
loop-root-init c = record {
  of = c.requires.of;
  goes = starts c.args.roots.now (view c.args.pass.now) c.requires.begun.kept c.requires.begun.gone c.requires.begun.swung;
}

pub visit_root-sum-requires-clause-over : goal.visit_root-sum-requires-clause-over
visit_root-sum-requires-clause-over c =
    let less = subst (λ (ds : List Decl). c.loop-root.root < length ds) c.decls-root-end.ensures c.loop-root-test.true in
    can_go c.args.roots.now c.loop-root.root (view c.args.pass.now) (view c.loop-root.pass) c.requires.can
    c.loop-root.invariant.goes.goes
    (root_less c.args.roots.now c.args.engine.now.table.shared.key c.loop-root.root (view c.args.pass.now) c.requires.can
    c.requires.of.layout less)

pub visit_root-sum-requires-clause-room : goal.visit_root-sum-requires-clause-room
visit_root-sum-requires-clause-room c =
    let less = subst (λ (ds : List Decl). c.loop-root.root < length ds) c.decls-root-end.ensures c.loop-root-test.true in
    has_room c.args.roots.now c.loop-root.root c.loop-root.sum (view c.loop-root.pass)
    (root_few_all c.args.roots.now c.args.engine.now.table.shared.key c.loop-root.root (view c.args.pass.now) c.requires.can
    c.requires.of.layout less) c.loop-root.invariant.goes.over

pub loop-root-preserved : goal.loop-root-preserved
loop-root-preserved c =
    let v = view c.args.pass.now in
    let less = subst (λ (ds : List Decl). c.loop-root.root < length ds) c.decls-root-end.ensures c.loop-root-test.true in
    record {
      of = c.visit_root-sum.ensures.of;
      goes = goes_on c.args.roots.now c.loop-root.root c.loop-root.sum c.visit_root-sum.result v (view c.loop-root.pass)
          (view c.visit_root-sum.new.pass)
          (root_few_all c.args.roots.now c.args.engine.now.table.shared.key c.loop-root.root v c.requires.can
          c.requires.of.layout less) c.loop-root.invariant.goes c.visit_root-sum.ensures.visits;
    }

pub returns-clause-goes : goal.returns-clause-goes
returns-clause-goes c =
    let count = ap length c.decls-root-end.ensures ∙ root_all c.args.roots.now c.args.engine.now.table.shared.key
    (view c.args.pass.now) c.requires.can c.requires.of.layout in
    let end = c.loop-root-test.false in
    let most = c.loop-root.auto.root-end in
    let all : c.loop-root.root ≡ length c.args.roots.now = omega (arith, end, most, count) in
    record {
      over = subst (λ n. HasGoneOver c.args.roots.now n c.loop-root.sum (view c.loop-root.pass)) all
          c.loop-root.invariant.goes.over;
      goes = c.loop-root.invariant.goes.goes;
    }
