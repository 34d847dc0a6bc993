-- What a page ties, where other spans are read.
use Rattle.std.proofs.Common.{◌≡◌, ℕ, sym, ap, ◌∙◌}
use Rattle.serial_model.specs.declared.key.Key.{Key}
use Rattle.homes.specs.declared.places.At.{At}
use Rattle.homes.specs.declared.places.Span.{Span}
use Rattle.homes.specs.declared.places.Home.{Home}
use Rattle.homes.specs.Homes.{in_span}
use Rattle.drop_core.specs.declared.table.Page.{Page}
use Rattle.drop_core.specs.declared.table.Page.TheVariants.{Blank, Leaf, Inner, Split}
use Rattle.drop_core.specs.Table.{at_index}
use Rattle.drop_core.specs.Sound.{Parts, PageTies}

parts-same : (spans spans' : At → Span) (span : Span) (t : ℕ) (page : Page) → ((j : ℕ) → spans' (at_index t j) ≡ spans (at_index t j))
    → Parts spans span t page → Parts spans' span t page
parts-same spans spans' span t page same parts = (
  λ k inside. let r = parts.0 k inside in (r.0, r.1, ap (λ (w : Span). in_span w k) (same r.0) ∙ r.2),
  λ j k there inside. parts.1 j k there (sym (ap (λ (w : Span). in_span w k) (same j)) ∙ inside),
)

pub page_ties-same : (homes : Key → Home) (spans spans' : At → Span) (span : Span) (t : ℕ) (page : Page) → ((j : ℕ) → spans' (at_index t j) ≡ spans (at_index t j))
    → PageTies homes spans span t page → PageTies homes spans' span t page
page_ties-same homes spans spans' span t Blank same ties = ties
page_ties-same homes spans spans' span t (Leaf keys) same ties = ties
page_ties-same homes spans spans' span t (Inner n) same ties = parts-same spans spans' span t (Inner n) same ties
page_ties-same homes spans spans' span t Split same ties = parts-same spans spans' span t Split same ties
