use Rattle.std.proofs.Common.{◌<◌, ◌≤◌, ◌∙◌, arith}
use Rattle.lists.specs.Each.{all_weaker}
use Rattle.wire_form.specs.Pages.{IsSeparator}
use Rattle.wire_form.specs.RangeLaws.{none_below, none_above, one_between, from_low, length-child_ranges}
use Rattle.wire_form.proofs.laws.ranges_split.Goals as goal

pub returns-clause-each : goal.returns-clause-each
returns-clause-each c low high number children is = length-child_ranges low high children.separators ∙ is.between

pub returns-clause-one : goal.returns-clause-one
returns-clause-one c low high number key children is p q =
    one_between low high key children.separators p q (from_low low high children.separators is.within is.rising)

pub returns-clause-below : goal.returns-clause-below
returns-clause-below c low high number key children is lt =
    none_below low high key children.separators lt (all_weaker (IsSeparator low high) (λ s. key < s) (λ s w. omega (arith, w.0)) children.separators is.within)

pub returns-clause-above : goal.returns-clause-above
returns-clause-above c low high number key children is lt =
    none_above low high key children.separators lt (all_weaker (IsSeparator low high) (λ s. s ≤ high) (λ s w. w.1) children.separators is.within)
