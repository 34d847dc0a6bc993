-- What a snapshot has for a key below a page that stands for the keys of a whole chain, and whether a chain has each of its
-- keys.
use Rattle.std.specs.Prelude.{◌≡◌, ℕ, ◌%◌, ◌^◌, ◌<◌, ◌≤◌, true, List, length, get_or, Option, Some, None, Contains}
use Rattle.homes.specs.declared.places.Span.{Span}
use Rattle.snapshot_store.specs.Places.{Found, page as page_words}
use Rattle.snapshot_store.specs.TreePages.{record_for}
use Rattle.engine_pages.specs.declared.view.Lead.{Lead}
use Rattle.engine_pages.specs.declared.view.Role.TheVariants.{Keeper}
use Rattle.engine_pages.specs.declared.view.View.{View}
use Rattle.engine_pages.specs.Pages.{is_tree}
use Rattle.dual_pointer.specs.Copies.{IsLeadOf}
use Rattle.dual_pointer.specs.Installs.{tree_records}
use Rattle.pointer_swings.specs.Children.{begin_in, end_in}
use Rattle.chain_steps.specs.Below.{IsStoredIn}
use Rattle.tree_drops.specs.declared.belows.StoredLeaf.{StoredLeaf}
use Rattle.tree_drops.specs.Leaves.{HasCount}
use Rattle.tree_drops.specs.Visits.{IsMisshapen}

-- The maintenance thread's pass knows that the snapshot page with this number, if it isn't 0, stands for these keys of a
-- tree.
pub record CanGoBelow (sp : Span) (page : ℕ) (v : View) : Type 0 where
  pub keeper : v.role ≡ Keeper
  pub tree : is_tree v.layout.decls sp.storage ≡ true
  pub there : page ≤ length v.pages
  pub room : page ≤ v.layout.resident
  pub lead : 0 < page → IsLeadOf v sp page

-- It looked at pages of the snapshot, and knows of more of them for which keys they stand.
pub record HasGoneBelow (v w : View) : Type 0 where
  pub is : w ≡ record v { steps = w.steps; last = w.last; leads = w.leads }
  pub later : v.steps ≤ w.steps
  pub leads : (z : Lead) → Contains v.leads z → Contains w.leads z

-- The key is among those of the child with this index of an interior page with these words, over these keys.
pub record IsChildFor (words : List ℕ) (sp : Span) (key j : ℕ) : Type 0 where
  pub within : j < get_or words 0 0 % 2 ^ 8
  pub from : begin_in words sp j ≤ key
  pub to : key ≤ end_in words sp j

-- a published page is misshapen
pub record HasMisshapen (pages : List (List ℕ)) : Type 0 where
  pub number : ℕ
  pub some : 0 < number
  pub there : number ≤ length pages
  pub shape : IsMisshapen (page_words pages number)

-- The leaf below the page is this one, or none where its number is 0: what it has for the key is what the snapshot has.
pub record IsLeafFor (pages : List (List ℕ)) (sp : Span) (page key : ℕ) (found : StoredLeaf) : Type 0 where
  pub count : HasCount pages sp found.page found.records
  pub below : found.page ≤ page
  pub stored : (o : Option Found) → record_for (tree_records pages found.page) key ≡ o → IsStoredIn pages sp page key o

-- so it is, or a page on the way to it is misshapen
abbrev pub IsLeafOr : List (List ℕ) → Span → ℕ → ℕ → Option StoredLeaf → Type 0
IsLeafOr pages sp page key None = HasMisshapen pages
IsLeafOr pages sp page key (Some found) = IsLeafFor pages sp page key found
