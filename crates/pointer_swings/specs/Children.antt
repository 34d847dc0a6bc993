-- What a load of a snapshot page's word tells that names the page below, and what letting go of what was seen tells.
use Rattle.std.specs.Prelude.{◌≡◌, ◌≢◌, ◌⊎◌, ℕ, zero, suc, ◌+◌, ◌-◌, ◌/◌, ◌%◌, ◌^◌, ◌<◌, ◌≤◌, List, [], ◌∷◌}
use Rattle.std.specs.Prelude.{length, get_or, slice_get, false, true, Some, None, if◌then◌else◌, nat_lt}
use Rattle.atomic_table.specs.Table.{Step}
use Rattle.homes.specs.declared.places.Span.{Span}
use Rattle.snapshot_store.specs.declared.place.PagePlace.{PagePlace}
use Rattle.snapshot_store.specs.Places.{page as page_words}
use Rattle.engine_pages.specs.declared.view.View.{View}
use Rattle.engine_pages.specs.Layout.{clock_at, snap_at}
use Rattle.engine_pages.specs.Pages.{is_array, is_tree, is_leaf_span, child_span}
use Rattle.engine_pages.specs.Resident.{tree_below}
use Rattle.engine_pages.specs.Steps.{glanced}
use Rattle.engine_pages.specs.Words.{separators_at}
use Rattle.dual_pointer.specs.Copies.{IsLeadOf}

-- ---- a child's name

-- the page with this number, which stands for these keys, is an interior one of an array
pub record CanDescend (v : View) (sp : Span) (number j : ℕ) : Type 0 where
  pub array : is_array v.layout.decls sp.storage ≡ true
  pub inner : is_leaf_span sp ≡ false
  pub some : 0 < number
  pub known : number ≤ length v.pages
  pub room : number ≤ v.layout.resident
  pub lead : IsLeadOf v sp number
  pub index : j < 64

-- the page below with this index is known to stand for its part of the keys
abbrev pub descended : Span → ℕ → ℕ → ℕ → ℕ → View → View
descended sp number j name n v = record (glanced (snap_at v.layout.slots number j) n v) {
  leads = record { span = child_span sp j; page = n; name = name } ∷ v.leads;
}

-- its number is what the page says, lower than the page's own, and one of a page that is there
pub record HasDescended (sp : Span) (number j : ℕ) (v : View) (n : ℕ) (w : View) : Type 0 where
  pub name : ℕ
  pub is : w ≡ descended sp number j name n v
  pub says : n ≡ get_or (page_words v.pages number) j 0
  pub few : n ≤ v.layout.resident
  pub small : n ≤ 65536
  pub below : n < number

-- the same of the step
abbrev pub Descends : Span → ℕ → ℕ → Step (Unit {0}) → View → ℕ → View → Type 0
Descends sp number j s v n w = HasDescended sp number j v n w

-- ---- a child's name in a tree

-- The page with this number, which stands for these keys of a tree, isn't a leaf, and counts more children than this.
pub record CanDescendTree (v : View) (sp : Span) (number j : ℕ) : Type 0 where
  pub tree : is_tree v.layout.decls sp.storage ≡ true
  pub some : 0 < number
  pub known : number ≤ length v.pages
  pub room : number ≤ v.layout.resident
  pub lead : IsLeadOf v sp number
  pub inner : (get_or (page_words v.pages number) 0 0 / 2 ^ 8) % 2 ^ 8 ≢ 1
  pub index : j < get_or (page_words v.pages number) 0 0 % 2 ^ 8

-- where a child begins of an interior page of a tree with these words, which is over these keys
abbrev pub begin_in : List ℕ → Span → ℕ → ℕ
begin_in words sp zero = sp.low
begin_in words sp (suc j) = get_or words (separators_at + j) 0

-- where it ends
abbrev pub end_in : List ℕ → Span → ℕ → ℕ
end_in words sp j =
    if nat_lt (j + 1) (get_or words 0 0 % 2 ^ 8) then get_or words (separators_at + j) 0 - 1 else sp.high

-- the keys of a place are a part of a span's, and not all of them
pub record IsPartOf (sp : Span) (q : PagePlace) : Type 0 where
  pub from : sp.low ≤ q.low
  pub to : q.high ≤ sp.high
  pub less : (sp.low < q.low) ⊎ (q.high < sp.high)

-- the keys of a place of the span's storage
abbrev pub keys_of : Span → PagePlace → Span
keys_of sp q = record { storage = sp.storage; low = q.low; high = q.high }

-- the child is known to stand for its part of the keys
abbrev pub descended_tree : Span → ℕ → ℕ → PagePlace → ℕ → ℕ → View → View
descended_tree sp number j q name n v = record (glanced (snap_at v.layout.slots number (4 + j)) n v) {
  leads = record { span = keys_of sp q; page = n; name = name } ∷ v.leads;
}

-- The page counts its children, and this one is where its separators say. Its number is what the page says, lower than
-- the page's own, and one of a page that is there.
pub record HasDescendedTree (sp : Span) (number j : ℕ) (v : View) (n : ℕ) (w : View) : Type 0 where
  pub child : PagePlace
  pub at : slice_get (tree_below v.pages sp number) j ≡ Some child
  pub count : length (tree_below v.pages sp number) ≡ get_or (page_words v.pages number) 0 0 % 2 ^ 8
  pub begin : child.low ≡ begin_in (page_words v.pages number) sp j
  pub end : child.high ≡ end_in (page_words v.pages number) sp j
  pub part : IsPartOf sp child
  pub name : ℕ
  pub is : w ≡ descended_tree sp number j child name n v
  pub says : n ≡ child.number
  pub few : n ≤ v.layout.resident
  pub small : n ≤ 65536
  pub some : 0 < n
  pub below : n < number

-- the same of the step
abbrev pub DescendsTree : Span → ℕ → ℕ → Step (Unit {0}) → View → ℕ → View → Type 0
DescendsTree sp number j s v n w = HasDescendedTree sp number j v n w

-- ---- what was seen is let go

-- nothing is kept of what was seen
abbrev pub let_go : ℕ → View → View
let_go n v = record (glanced clock_at n v) { seat = record v.seat { kept = [] }; loaded = None }

-- the same of the step
abbrev pub LetsGo : Step (Unit {0}) → View → ℕ → View → Type 0
LetsGo s v n w = (s.word ≡ clock_at) × (w ≡ let_go n v)
