use Rattle.std.proofs.Common.{◌≡◌, ℕ, ◌+◌, ◌-◌, ◌<◌, ◌∙◌, length, drop, refl, subst, arith}
use Rattle.engine_pages.specs.Indexes.{AreIndexesFrom}
use Rattle.engine_pages.proofs.IndexLaws.{all_noted, none_behind, noted_before}
use Rattle.engine_pages.proofs.storages.indexes_of.Goals as goal

pub loop-left-init : goal.loop-left-init
loop-left-init c = record {
  within = omega arith;
  noted = none_behind c.args.decls.now (length c.args.decls.now) c.no_indexes-indexes.result refl
      c.no_indexes-indexes.ensures;
}

pub loop-left-preserved : goal.loop-left-preserved
loop-left-preserved c =
    let so = c.loop-left.invariant in
    let some = c.loop-left-test.true in
    let within = so.within in
    let less : c.loop-left.left - 1 < length c.args.decls.now = omega (arith, some, within) in
    let next : c.loop-left.left ≡ (c.loop-left.left - 1) + 1 = omega (arith, some) in
    record {
      within = omega (arith, within);
      noted = noted_before c.args.decls.now (c.loop-left.left - 1) c.from.result _ c.loop-left.indexes less
          (c.from.ensures ∙ c.id_of-id.ensures)
          (let is = c.from.ensures in let small = c.id_of-id.type_inv in omega (arith, is, small))
          (subst (λ (n : ℕ). AreIndexesFrom n (drop n c.args.decls.now) c.loop-left.indexes) next so.noted);
    }

pub returns : goal.returns
returns c =
    let none = c.loop-left-test.false in
    let first : c.loop-left.left ≡ 0 = omega (arith, none) in
    all_noted c.args.decls.now c.loop-left.indexes
    (subst (λ (n : ℕ). AreIndexesFrom n (drop n c.args.decls.now) c.loop-left.indexes) first c.loop-left.invariant.noted)
