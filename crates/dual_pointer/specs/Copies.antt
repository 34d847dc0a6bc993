-- What the publish of a copied interior page asks.
use Rattle.std.specs.Prelude.{◌≡◌, ℕ, ◌+◌, ◌<◌, ◌≤◌, true, false, List, length, get_or, Contains}
use Rattle.homes.specs.declared.places.Span.{Span}
use Rattle.snapshot_store.specs.ArrayPages.{last_at}
use Rattle.snapshot_store.specs.Places.{page}
use Rattle.engine_pages.specs.declared.view.Draft.{Draft}
use Rattle.engine_pages.specs.declared.view.Lead.{Lead}
use Rattle.engine_pages.specs.declared.view.View.{View}
use Rattle.engine_pages.specs.Pages.{is_array, is_leaf_span}

-- the view knows that the page with this number stands for these keys
abbrev pub IsLeadOf : View → Span → ℕ → Type 0
IsLeadOf v sp n = (x : Lead) × Contains v.leads x × (x.span ≡ sp) × (x.page ≡ n)

-- These are the words of an interior page of an array over these keys, and those of the published page with this
-- number, which stands for them, or all 0 where there is none.
pub record IsPointersDraft (v : View) (words : List ℕ) (sp : Span) (n : ℕ) : Type 0 where
  pub inner : is_leaf_span sp ≡ false
  pub array : is_array v.layout.decls sp.storage ≡ true
  pub height : ℕ
  pub exact : sp.high ≡ sp.low + last_at height
  pub there : n ≤ length v.pages
  pub lead : 0 < n → IsLeadOf v sp n
  pub same : (i : ℕ) → i < 64 → get_or words i 0 ≡ get_or (page v.pages n) i 0

-- an owned slot of the pass, filled as a copy of that snapshot page
abbrev pub HasPointersDraft : View → ℕ → Span → ℕ → Type 0
HasPointersDraft v t sp n = (x : Draft) × Contains v.drafts x × (x.slot ≡ t) × IsPointersDraft v x.words sp n
