-- Whether a leaf of a chain has a key, and what is told of the pages of a snapshot that stand for parts of its keys.
use Rattle.std.specs.Prelude.{◌≡◌, ◌≢◌, ◌⊎◌, ℕ, ◌+◌, ◌/◌, ◌%◌, ◌^◌, ◌<◌, ◌≤◌, true, false, Bool, List, length, get_or}
use Rattle.std.specs.Prelude.{slice_get, Some, Contains, Result, Ok, Err}
use Rattle.serial_model.specs.declared.key.Key.{Key}
use Rattle.homes.specs.declared.places.Span.{Span}
use Rattle.homes.specs.Homes.{has_key}
use Rattle.snapshot_store.specs.declared.place.PagePlace.{PagePlace}
use Rattle.snapshot_store.specs.Places.{Found, page as page_words}
use Rattle.snapshot_store.specs.TreePages.{record_for}
use Rattle.engine_pages.specs.declared.view.Head.{Head}
use Rattle.engine_pages.specs.declared.view.View.{View}
use Rattle.engine_pages.specs.Resident.{tree_below}
use Rattle.pointer_swings.specs.Children.{keys_of}
use Rattle.tree_heads.specs.Headers.{count_of, moved_bit}
use Rattle.chain_steps.specs.declared.halves.Half.{Half}
use Rattle.chain_steps.specs.Swings.{HasKeyIn}
use Rattle.page_drops.specs.declared.noting.Kept.{Kept}
use Rattle.tree_drops.specs.declared.covering.StoredPage.{StoredPage}
use Rattle.tree_drops.specs.declared.taking.ChainPage.{ChainPage}
use Rattle.tree_drops.specs.declared.taking.Root.{Root}
use Rattle.tree_drops.specs.Chains.{OnlyChains}
use Rattle.tree_drops.specs.Leaves.{rest_of, AtTree, KnowsKeys}
use Rattle.tree_drops.specs.Taking.{all_slots, keys_in, CanCover, Covers, IsPageAt, KeepsUncovered}

-- ---- a key of a chain

-- the key with this number, of the storage of the span
abbrev pub key_in : Span → ℕ → Key
key_in sp key = record { storage = sp.storage; key = key }

-- the page is a leaf that wasn't split, and the key is among those of its part
pub record IsRound (page : ChainPage) (key : ℕ) : Type 0 where
  pub leaf : page.header < moved_bit
  pub from : (page.span).low ≤ key
  pub to : key ≤ (page.span).high

-- the pass holds the page, and knows its keys
pub record CanSearch (root : Root) (page : ChainPage) (v : View) : Type 0 where
  pub at : AtTree page.slot page.span (root.target).page v
  pub known : KnowsKeys page.slot page.span (count_of page.header) v

-- whether the page is round the key and has it
abbrev pub HasSearched : ChainPage → ℕ → Bool → View → Type 0
HasSearched page key true v = IsRound page key
    × ((x : KnowsKeys page.slot page.span (count_of page.header) v) → has_key (x.leaf).keys (key_in page.span key) ≡ true)
HasSearched page key false v = IsRound page key
    → (x : KnowsKeys page.slot page.span (count_of page.header) v) → has_key (x.leaf).keys (key_in page.span key) ≡ false

-- each page of the chain from this one on that is round the key hasn't it
abbrev pub LacksFrom : Root → List Half → List ℕ → ℕ → ℕ → View → Type 0
LacksFrom root halves headers from key v = (i : ℕ) (h : Half) (n : ℕ) → from ≤ i → IsPageAt root halves headers i h n
    → n < moved_bit → h.low ≤ key → key ≤ h.high
    → (x : Head) × Contains v.heads x × (x.slot ≡ h.slot) × (has_key x.keys (key_in (keys_in root) key) ≡ false)

-- whether a leaf of the chain has the key, where none before this page has
abbrev pub HasFoundKey : Root → List Half → List ℕ → ℕ → ℕ → Bool → View → Type 0
HasFoundKey root halves headers from key true v = HasKeyIn v (all_slots root halves) (key_in (keys_in root) key)
HasFoundKey root halves headers from key false v = LacksFrom root halves headers from key v

-- the same of any key, where only one of the span's is to be found
abbrev pub IsCoveredOr : Root → List Half → List ℕ → Span → ℕ → Bool → View → Type 0
IsCoveredOr root halves headers sp key true v = sp.low ≤ key → key ≤ sp.high
    → HasKeyIn v (all_slots root halves) (key_in (keys_in root) key)
IsCoveredOr root halves headers sp key false v = (sp.low ≤ key) × (key ≤ sp.high) × LacksFrom root halves headers 0 key v

-- ---- the records of a leaf

-- each record of a leaf of the snapshot from this one on, of a key of its span, is of a key of a leaf of the chain
abbrev pub CoversRest : Root → List Half → StoredPage → ℕ → View → Type 0
CoversRest root halves leaf index v = (n key : ℕ) (f : Found) → index + n ≡ leaf.count
    → record_for (rest_of (page_words v.pages leaf.page) index n) key ≡ Some f → (leaf.span).low ≤ key → key ≤ (leaf.span).high
    → HasKeyIn v (all_slots root halves) (key_in leaf.span key)

-- so it is, or the chain is kept
abbrev pub HasCoveredRest : Root → List Half → List ℕ → StoredPage → ℕ → Result (Unit {0}) Kept → View → View → Type 0
HasCoveredRest root halves headers leaf index (Ok u) v w =
    OnlyChains v w × CoversRest root halves leaf index v × (w.reads ≡ v.reads)
HasCoveredRest root halves headers leaf index (Err k) v w = KeepsUncovered root leaf.span leaf.page k v w

-- ---- the pages below an interior one

-- a page of the snapshot isn't a leaf, and counts so many children, 30 at most
pub record IsInnerPage (pages : List (List ℕ)) (page count : ℕ) : Type 0 where
  pub some : 0 < page
  pub other : (get_or (page_words pages page) 0 0 / 2 ^ 8) % 2 ^ 8 ≢ 1
  pub counts : count ≡ get_or (page_words pages page) 0 0 % 2 ^ 8
  pub more : 0 < count
  pub few : count ≤ 30

-- it is that, or none of its records is uncovered and it isn't gone into
abbrev pub IsInnerOr : Root → List Half → Span → ℕ → ℕ → View → Type 0
IsInnerOr root halves sp page count v = IsInnerPage v.pages page count ⊎ ((count ≡ 0) × Covers root halves sp page v)

-- so it is found to be, or the chain is kept
abbrev pub HasCoveredPage : Root → List Half → List ℕ → Span → ℕ → Result ℕ Kept → View → View → Type 0
HasCoveredPage root halves headers sp page (Ok count) v w =
    OnlyChains v w × IsInnerOr root halves sp page count v × (w.reads ≡ v.reads)
HasCoveredPage root halves headers sp page (Err k) v w = KeepsUncovered root sp page k v w

-- The page below with this index was found to be so.
pub record HasOpenedChild (root : Root) (halves : List Half) (headers : List ℕ) (page : StoredPage) (index : ℕ) (v : View)
    (child : StoredPage) (w : View) : Type 0 where
  pub only : OnlyChains v w
  pub reads : w.reads ≡ v.reads
  pub can : CanCover root halves headers child.span child.page w
  pub inner : IsInnerOr root halves child.span child.page child.count v
  pub below : child.page < page.page
  pub many : child.count ≤ 30
  pub place : PagePlace
  pub at : slice_get (tree_below v.pages page.span page.page) index ≡ Some place
  pub span : child.span ≡ keys_of page.span place
  pub number : child.page ≡ place.number
  pub low : (page.span).low ≤ place.low
  pub high : place.high ≤ (page.span).high
  pub long : length (tree_below v.pages page.span page.page) ≡ page.count

-- so it was, or the chain is kept
abbrev pub HasOpenedBelow : Root → List Half → List ℕ → StoredPage → ℕ → Result StoredPage Kept → View → View → Type 0
HasOpenedBelow root halves headers page index (Ok child) v w = HasOpenedChild root halves headers page index v child w
HasOpenedBelow root halves headers page index (Err k) v w = KeepsUncovered root page.span page.page k v w

-- what is below the children of a page from this one on is covered
pub record CoversChildren (root : Root) (halves : List Half) (page : StoredPage) (index : ℕ) (v : View) : Type 0 where
  pub each : (j : ℕ) (q : PagePlace) → index ≤ j → j < page.count
      → slice_get (tree_below v.pages page.span page.page) j ≡ Some q → Covers root halves (keys_of page.span q) q.number v
  pub long : index < page.count → length (tree_below v.pages page.span page.page) ≡ page.count

-- so it is, or the chain is kept
abbrev pub HasCoveredFrom : Root → List Half → List ℕ → StoredPage → ℕ → Result (Unit {0}) Kept → View → View → Type 0
HasCoveredFrom root halves headers page index (Ok u) v w =
    OnlyChains v w × CoversChildren root halves page index v × (w.reads ≡ v.reads)
HasCoveredFrom root halves headers page index (Err k) v w = KeepsUncovered root page.span page.page k v w
