use Rattle.std.proofs.Common.{ℕ, ap, ◌∙◌}
use Rattle.homes.specs.declared.places.Span.{Span}
use Rattle.engine_pages.specs.Pages.{part_low}
use Rattle.engine_pages.specs.Passes.{view}
use Rattle.page_drops.proofs.Looks.{glanced_then}
use Rattle.tree_drops.proofs.Parts.{branch_on, goes_glanced}
use Rattle.tree_drops.proofs.branches.part_of.Goals as goal

pub high_of-high-requires-clause-at : goal.high_of-high-requires-clause-at
high_of-high-requires-clause-at c =
    branch_on c.args.branch.slot c.args.branch.page c.args.branch.count c.args.branch.span (view c.args.pass.now) (view c.low_of-low.new.pass)
    (goes_glanced (view c.args.pass.now) (view c.low_of-low.new.pass) c.low_of-low.ensures.glances).on c.requires.at

pub returns-clause-glances : goal.returns-clause-glances
returns-clause-glances c =
    glanced_then (view c.args.pass.now) (view c.low_of-low.new.pass) (view c.high_of-high.new.pass) c.low_of-low.ensures.glances
    c.high_of-high.ensures.glances

pub returns-clause-part : goal.returns-clause-part
returns-clause-part c =
    λ x.
    let y = branch_on c.args.branch.slot c.args.branch.page c.args.branch.count c.args.branch.span (view c.args.pass.now) (view c.low_of-low.new.pass)
    (goes_glanced (view c.args.pass.now) (view c.low_of-low.new.pass) c.low_of-low.ensures.glances).on x in
    ap (λ (n : ℕ). let z : Span = record { storage = c.args.branch.span.storage; low = n; high = c.high_of-high.result } in z) (c.low_of-low.ensures.low x)
    ∙ ap (λ (n : ℕ). let z : Span = record { storage = c.args.branch.span.storage; low = part_low c.args.branch.span (x.inner).separators c.args.index; high = n } in z)
    (c.high_of-high.ensures.high y)
