use Rattle.std.proofs.Common.{◌≡◌, ◌<◌, List, ap, refl, ◌∙◌, subst, arith, length}
use Rattle.serial_model.specs.declared.decl.Decl.{Decl}
use Rattle.engine_pages.specs.Passes.{view}
use Rattle.page_drops.specs.Calls.{begun}
use Rattle.page_drops.proofs.Alls.{begun_start, ends, goes_on, has_room, root_all, root_few_all}
use Rattle.page_drops.proofs.calls.drop_all.Goals as goal

pub loop-root-init : goal.loop-root-init
loop-root-init c = record {
  of = c.begin.ensures.of;
  number = c.begin.result;
  goes = begun_start c.args.roots.now c.begin.result (view c.args.pass.now) (view c.begin.new.pass) c.begin.ensures.begins;
}

pub visit_root-sum-requires-clause-room : goal.visit_root-sum-requires-clause-room
visit_root-sum-requires-clause-room c =
    let less = subst (λ (ds : List Decl). c.loop-root.root < length ds) c.decls-root-end.ensures c.loop-root-test.true in
    has_room c.args.roots.now c.loop-root.root c.loop-root.sum (view c.loop-root.pass)
    (root_few_all c.args.roots.now c.args.engine.now.table.shared.key c.loop-root.root (view c.args.pass.now) c.requires.can
    c.requires.of.layout less) c.loop-root.invariant.goes.over

pub loop-root-preserved : goal.loop-root-preserved
loop-root-preserved c =
    let v = view c.args.pass.now in
    let less = subst (λ (ds : List Decl). c.loop-root.root < length ds) c.decls-root-end.ensures c.loop-root-test.true in
    record {
      of = c.visit_root-sum.ensures.of;
      number = c.loop-root.invariant.number;
      goes = goes_on c.args.roots.now c.loop-root.root c.loop-root.sum c.visit_root-sum.result
          (begun c.loop-root.invariant.number v) (view c.loop-root.pass) (view c.visit_root-sum.new.pass)
          (root_few_all c.args.roots.now c.args.engine.now.table.shared.key c.loop-root.root v c.requires.can
          c.requires.of.layout less) c.loop-root.invariant.goes c.visit_root-sum.ensures.visits;
    }

pub returns-clause-drops : goal.returns-clause-drops
returns-clause-drops c =
    let v = view c.args.pass.now in
    let count = ap length c.decls-root-end.ensures ∙ root_all c.args.roots.now c.args.engine.now.table.shared.key v
    c.requires.can c.requires.of.layout in
    let end = c.loop-root-test.false in
    let most = c.loop-root.auto.root-end in
    let all : c.loop-root.root ≡ length c.args.roots.now = omega (arith, end, most, count) in
    ends c.args.roots.now c.loop-root.invariant.number c.count.result c.loop-root.root c.loop-root.sum v
    (begun c.loop-root.invariant.number v) (view c.loop-root.pass) (view c.count.new.pass) refl
    c.loop-root.invariant.goes all c.count.ensures.counts
