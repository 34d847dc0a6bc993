-- The places are those below the page, and are small.
use Rattle.std.proofs.Common.{◌≡◌, ◌/◌, ap, sym, ◌∙◌, subst, arith}
use Rattle.std.proofs.lemmas.Result.{IfOk-weaker}
use Rattle.std.specs.List.{AllByRecursion}
use Rattle.snapshot_store.specs.ArrayPages.{row}
use Rattle.engine_rule.specs.Reading.{IsBounded}
use Rattle.engine_rule.proofs.ReadRows.{below_narrow, below_wide, row_bounded}
use Rattle.engine_rule.proofs.below.array_below.Goals as goal

pub returns-then-span-le32-clause-is : goal.returns-then-span-le32-clause-is
returns-then-span-le32-clause-is c =
    c.new.ensures ∙ sym (below_narrow c.args.words.now c.args.place.low c.args.place.high (omega (arith, c.saturating_sub-span.ensures, c.if-span-le32.true)))

pub returns-clause-is : goal.returns-clause-is
returns-clause-is c =
    let wide = below_wide c.args.words.now c.args.place.low c.args.place.high (c.saturating_sub-span.result / 64)
    (omega (arith, c.saturating_sub-span.ensures, c.if-span-le32.false)) (ap (λ n. n / 64) (sym c.saturating_sub-span.ensures)) in
    IfOk-weaker c.row.result (λ places. places ≡ row c.args.words.now (c.saturating_sub-span.result / 64) c.args.place.low 64) _ (λ places is. is ∙ sym wide) c.row.ensures

pub returns-clause-bounded : goal.returns-clause-bounded
returns-clause-bounded c =
    let fits = row_bounded c.args.words.now (c.saturating_sub-span.result / 64) c.args.place.low 64 c.requires.0
    (omega (arith, c.saturating_sub-span.ensures, c.if-span-le32.false, c.requires.1)) in
    IfOk-weaker c.row.result (λ places. places ≡ row c.args.words.now (c.saturating_sub-span.result / 64) c.args.place.low 64) (λ places. AllByRecursion IsBounded places)
    (λ places is. subst (λ qs. AllByRecursion IsBounded qs) (sym is) fits) c.row.ensures
