-- The page of the number behind an index.
use Rattle.std.proofs.Common.{◌≡◌, ◌∙◌, ◌+◌, ◌-◌, ap, arith}
use Rattle.std.specs.Prelude.{slice_get}
use Rattle.round_engine.proofs.opening.page_at.Goals as goal

pub returns : goal.returns
returns c =
    let i = c.args.i in
    let same : i ≡ (i + 1) - 1 = omega arith in
    ap (λ k. slice_get c.args.store.now.pages k) same ∙ c.page.ensures.page
