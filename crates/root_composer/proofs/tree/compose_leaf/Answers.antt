use Rattle.std.proofs.Common.{◌≡◌, ◌+◌, List, length, sym, ap, subst, ◌∙◌, arith}
use Rattle.root_composer.specs.declared.row.Row.{Row}
use Rattle.root_composer.specs.Rows.{Ascends, rows_of, entries_in, merged}
use Rattle.root_composer.specs.Build.{build}
use Rattle.root_composer.specs.TreeCode.{WouldBeDeep}
use Rattle.root_composer.proofs.RowLemmas.{ascends_merged, range_in_order}
use Rattle.root_composer.proofs.tree.compose_leaf.Goals as goal

pub build-requires-clause-ascends : goal.build-requires-clause-ascends
build-requires-clause-ascends c =
    let part = entries_in c.args.p.low c.args.p.high c.args.run.now in
    let same : c.deref-2.result.now ≡ merged part (rows_of c.args.words.now) =
    c.deref-2.ensures.value ∙ c.in_ok-all.ensures ∙ ap (λ l. merged l c.deref.result.now) c.within-part.ensures ∙ ap (merged part) (c.deref.ensures.value ∙ c.in_ok-rows.ensures) in
    subst (Ascends c.args.p.low c.args.p.high) (sym same)
    (ascends_merged c.args.p.low c.args.p.high part (rows_of c.args.words.now) (range_in_order c.args.p.low c.args.p.high c.args.run.now c.requires.rising) c.requires.ascends)

pub returns-clause-deep : goal.returns-clause-deep
returns-clause-deep c fault e =
    let part = entries_in c.args.p.low c.args.p.high c.args.run.now in
    let same : c.deref-2.result.now ≡ merged part (rows_of c.args.words.now) =
    c.deref-2.ensures.value ∙ c.in_ok-all.ensures ∙ ap (λ l. merged l c.deref.result.now) c.within-part.ensures ∙ ap (merged part) (c.deref.ensures.value ∙ c.in_ok-rows.ensures) in
    subst (λ (rs : List Row). WouldBeDeep c.args.depth fault (build (length rs) c.args.p.low c.args.p.high rs (c.args.have + length c.args.made.now.items))) same
    (c.build.ensures.deep fault e (length c.deref-2.result.now) (omega arith))
