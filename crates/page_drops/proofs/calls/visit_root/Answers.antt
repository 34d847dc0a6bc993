use Rattle.std.proofs.Common.{refl, arith}
use Rattle.engine_pages.specs.Passes.{view}
use Rattle.page_drops.proofs.Roots.{array_kind, can_visit, index_within, kind_none, kind_some, left_alone, one_height, root_large}
use Rattle.page_drops.proofs.Roots.{root_middle, root_small, three_heights, two_heights}
use Rattle.page_drops.proofs.calls.visit_root.Goals as goal

pub returns-in_default-clause-visits : goal.returns-in_default-clause-visits
returns-in_default-clause-visits c =
    let v = view c.args.pass.now in
    let tree = kind_none c.args.engine.now.table.shared.key v c.args.root c.array_at.result c.requires.of.layout
    c.in_default.not-Some c.array_at.ensures.kind in
    left_alone c.args.root c.args.page tree.0 c.args.before v c.requires.over.declared tree.1

pub visit_leaf-requires-clause-visit : goal.visit_leaf-requires-clause-visit
visit_leaf-requires-clause-visit c =
    let v = view c.args.pass.now in
    let l = c.args.engine.now.table.shared.key in
    let id = c.in-Some.id in
    let at = kind_some l v c.args.root c.array_at.result id c.in-Some.size c.requires.of.layout c.in-Some.is
    c.array_at.ensures.kind in
    can_visit 0 c.args.root c.args.page id 32 c.whole.result v c.requires.over
    (index_within l v c.args.root c.requires.of.layout c.requires.root) c.whole.ensures
    (root_small v.layout.decls c.args.root id c.in-Some.size at c.if-size-le-LEAF.true)
    (array_kind v.layout.decls c.args.root id c.in-Some.size c.requires.over.declared at) refl (omega arith)

pub returns-then-size-le-LEAF-clause-visits : goal.returns-then-size-le-LEAF-clause-visits
returns-then-size-le-LEAF-clause-visits c =
    let v = view c.args.pass.now in
    let id = c.in-Some.id in
    let at = kind_some c.args.engine.now.table.shared.key v c.args.root c.array_at.result id c.in-Some.size
    c.requires.of.layout c.in-Some.is c.array_at.ensures.kind in
    one_height c.args.root c.args.page id c.whole.result c.args.before c.visit_leaf.result v (view c.visit_leaf.new.pass)
    c.whole.ensures (root_small v.layout.decls c.args.root id c.in-Some.size at c.if-size-le-LEAF.true)
    c.visit_leaf.ensures.visits

pub visit_middle-requires-clause-visit : goal.visit_middle-requires-clause-visit
visit_middle-requires-clause-visit c =
    let v = view c.args.pass.now in
    let l = c.args.engine.now.table.shared.key in
    let id = c.in-Some.id in
    let at = kind_some l v c.args.root c.array_at.result id c.in-Some.size c.requires.of.layout c.in-Some.is
    c.array_at.ensures.kind in
    can_visit 1 c.args.root c.args.page id 2048 c.whole-then-size-le-MIDDLE.result v c.requires.over
    (index_within l v c.args.root c.requires.of.layout c.requires.root) c.whole-then-size-le-MIDDLE.ensures
    (root_middle v.layout.decls c.args.root id c.in-Some.size at c.if-size-le-LEAF.false c.if-size-le-MIDDLE.true)
    (array_kind v.layout.decls c.args.root id c.in-Some.size c.requires.over.declared at) refl (omega arith)

pub returns-then-size-le-MIDDLE-clause-visits : goal.returns-then-size-le-MIDDLE-clause-visits
returns-then-size-le-MIDDLE-clause-visits c =
    let v = view c.args.pass.now in
    let id = c.in-Some.id in
    let at = kind_some c.args.engine.now.table.shared.key v c.args.root c.array_at.result id c.in-Some.size
    c.requires.of.layout c.in-Some.is c.array_at.ensures.kind in
    two_heights c.args.root c.args.page id c.whole-then-size-le-MIDDLE.result c.args.before c.visit_middle.result v
    (view c.visit_middle.new.pass) c.whole-then-size-le-MIDDLE.ensures
    (root_middle v.layout.decls c.args.root id c.in-Some.size at c.if-size-le-LEAF.false c.if-size-le-MIDDLE.true)
    c.visit_middle.ensures.visits

pub visit_top-requires-clause-visit : goal.visit_top-requires-clause-visit
visit_top-requires-clause-visit c =
    let v = view c.args.pass.now in
    let l = c.args.engine.now.table.shared.key in
    let id = c.in-Some.id in
    let at = kind_some l v c.args.root c.array_at.result id c.in-Some.size c.requires.of.layout c.in-Some.is
    c.array_at.ensures.kind in
    can_visit 2 c.args.root c.args.page id 131072 c.whole-2.result v c.requires.over
    (index_within l v c.args.root c.requires.of.layout c.requires.root) c.whole-2.ensures
    (root_large v.layout.decls c.args.root id c.in-Some.size at c.if-size-le-MIDDLE.false)
    (array_kind v.layout.decls c.args.root id c.in-Some.size c.requires.over.declared at) refl (omega arith)

pub returns-clause-visits : goal.returns-clause-visits
returns-clause-visits c =
    let v = view c.args.pass.now in
    let id = c.in-Some.id in
    let at = kind_some c.args.engine.now.table.shared.key v c.args.root c.array_at.result id c.in-Some.size
    c.requires.of.layout c.in-Some.is c.array_at.ensures.kind in
    three_heights c.args.root c.args.page id c.whole-2.result c.args.before c.visit_top.result v
    (view c.visit_top.new.pass) c.whole-2.ensures
    (root_large v.layout.decls c.args.root id c.in-Some.size at c.if-size-le-MIDDLE.false) c.visit_top.ensures.visits
