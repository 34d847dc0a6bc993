-- What publishing the pages of a store leaves of the keeper's view.
use Rattle.std.specs.Prelude.{◌≡◌, ℕ, List}
use Rattle.engine_pages.specs.declared.view.View.{View}

-- these are the published pages that the pass knows; beside them what it has of such pages changed alone, and what it
-- loaded last
abbrev pub HasPages : List (List ℕ) → View → View → Type 0
HasPages pages v w = w ≡ record v {
  steps = w.steps;
  last = w.last;
  pages = pages;
  leads = w.leads;
  fills = w.fills;
}
