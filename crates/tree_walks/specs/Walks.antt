-- What a walk down the pages of a tree leaves: words are loaded, and slots entered. What is asked of a pass, and which
-- slots it was led to, is said as of arrays.
use Rattle.std.specs.Prelude.{◌≡◌, ◌≢◌, ◌⊎◌, ℕ, suc, ◌+◌, ◌<◌, ◌≤◌, true, List, length, Some, Contains, ⊤}
use Rattle.lists.specs.Fronts.{IsFront}
use Rattle.serial_model.specs.declared.key.Key.{Key}
use Rattle.homes.specs.declared.places.At.{At}
use Rattle.homes.specs.declared.places.At.TheVariants.{Root, In}
use Rattle.homes.specs.declared.places.Span.{Span}
use Rattle.homes.specs.declared.places.Spot.{Spot}
use Rattle.homes.specs.Homes.{in_span}
use Rattle.commit_core.specs.declared.part.Part.{Part}
use Rattle.drop_core.specs.Table.{has_slot}
use Rattle.tx_sets.specs.declared.seen.Seen.{Seen}
use Rattle.tx_sets.specs.Entries.{word_at}
use Rattle.engine_pages.specs.declared.view.Inner.{Inner}
use Rattle.engine_pages.specs.declared.view.Known.{Known}
use Rattle.engine_pages.specs.declared.view.Lead.{Lead}
use Rattle.engine_pages.specs.declared.view.Moved.{Moved}
use Rattle.engine_pages.specs.declared.view.View.{View}
use Rattle.engine_pages.specs.declared.view.Way.{Way}
use Rattle.engine_pages.specs.Layout.{page_at, root_at}
use Rattle.engine_pages.specs.Pages.{is_tree, root_span}
use Rattle.engine_pages.specs.Pointers.{IsPointerAt}
use Rattle.engine_pages.specs.Records.{IsTreeRecordAt}
use Rattle.engine_pages.specs.Steps.{seen_at}
use Rattle.page_records.specs.Ends.{IsTreeWordAt}
use Rattle.array_pages.specs.Walks.{IsLastBetween}
pub use Rattle.array_pages.specs.Walks.{AreLedTo, CanWalk, KeepsWords}

-- ---- what has changed

-- the view v with what a walk changes as w has it
abbrev pub as_walked : View → View → View
as_walked v w = record v {
  steps = w.steps;
  history = w.history;
  decided = w.decided;
  seat = record v.seat { kept = w.seat.kept };
  reads = w.reads;
  last = w.last;
  loaded = w.loaded;
  grip = record v.grip { holds = w.grip.holds };
  ways = w.ways;
  known = w.known;
  moved = w.moved;
  inners = w.inners;
  pages = w.pages;
  leads = w.leads;
  looked = w.looked;
}

-- Words were loaded and slots entered: what the pass has seen, holds and knows of pages has grown, each part that it
-- keeps now and didn't before had the last decided writes, and nothing else of it has changed.
pub record HasWalked (v w : View) : Type 0 where
  pub since : v.steps ≤ w.steps
  pub drawn : IsFront v.history w.history
  pub seen : IsFront v.decided w.decided
  pub parts : (part : Part) → Contains w.seat.kept part → Contains v.seat.kept part ⊎ IsLastBetween v w part
  pub held : (t : ℕ) → has_slot v.grip.holds t ≡ true → has_slot w.grip.holds t ≡ true
  pub ways : (x : Way) → Contains v.ways x → Contains w.ways x
  pub known : (x : Known) → Contains v.known x → Contains w.known x
  pub moved : (x : Moved) → Contains v.moved x → Contains w.moved x
  pub inners : (x : Inner) → Contains v.inners x → Contains w.inners x
  pub pages : IsFront v.pages w.pages
  pub leads : (x : Lead) → Contains v.leads x → Contains w.leads x
  pub is : w ≡ as_walked v w

-- ---- the pages that it came to

-- The page is a half of one on the way to the key, which was split.
pub record IsTwinOn (k : Key) (w : View) (x : Way) : Type 0 where
  pub moved : Moved
  pub knows : Contains w.moved moved
  pub way : Way
  pub has : Contains w.ways way
  pub same : way.slot ≡ moved.slot
  pub over : in_span way.span k ≡ true
  pub is : (x.slot ≡ moved.minor) ⊎ (x.slot ≡ moved.major)

-- each way that is new is over the key, or into a half of a page on the way to it
abbrev pub OnlyWaysOn : Key → View → View → Type 0
OnlyWaysOn k v w = (x : Way) → Contains w.ways x → Contains v.ways x ⊎ ((in_span x.span k ≡ true) ⊎ IsTwinOn k w x)

-- ---- the words that were met

-- the word is that of the root's pointer of a tree
pub record IsRootWord (v : View) (at : ℕ) : Type 0 where
  pub root : ℕ
  pub there : root < length v.layout.decls
  pub tree : is_tree v.layout.decls (root_span v.layout.decls root).storage ≡ true
  pub word : at ≡ root_at root

-- The word is one of the page of a tree that the pass has a way into: that of its header, or any one of an interior
-- page.
pub record IsPageWord (v : View) (at : ℕ) : Type 0 where
  pub slot : ℕ
  pub index : ℕ
  pub is : IsTreeWordAt v slot index at
  pub first : (index ≡ 0) ⊎ ((x : Inner) × Contains v.inners x × (x.slot ≡ slot))

-- the word is one on the way down a tree: the root's, a header's, or one of an interior page
abbrev pub IsTreesWord : View → ℕ → Type 0
IsTreesWord v at = IsRootWord v at ⊎ IsPageWord v at

-- the word is that of the key's record in a leaf of a tree, or that of its value
pub record IsRecordsWord (k : Key) (v : View) (at : ℕ) : Type 0 where
  pub spot : Spot
  pub base : ℕ
  pub place : IsTreeRecordAt v k spot base
  pub is : (at ≡ base) ⊎ (at ≡ base + 1)

-- no words but those on the way down trees were met
abbrev pub OnlyTrees : View → View → Type 0
OnlyTrees v w = (a : ℕ) → (seen_at w.reads a ≡ seen_at v.reads a) ⊎ IsTreesWord w a

-- no words but those, and those of the key's record, were met
abbrev pub OnlyTreesFor : Key → View → View → Type 0
OnlyTreesFor k v w = (a : ℕ) → (seen_at w.reads a ≡ seen_at v.reads a) ⊎ (IsTreesWord w a ⊎ IsRecordsWord k w a)

-- no words but those on the way down trees, and the record's and its value's here, were met
abbrev pub OnlyTreesBut : ℕ → View → View → Type 0
OnlyTreesBut at v w = (a : ℕ) → a ≢ at → a ≢ at + 1 → (seen_at w.reads a ≡ seen_at v.reads a) ⊎ IsTreesWord w a

-- ---- what the sets have is met as they have it

-- the pointer's word lies in the page of its slot, if it is in one
abbrev pub LiesInPage : ℕ → At → ℕ → Type 0
LiesInPage slots (Root r) at = ⊤
LiesInPage slots (In y) at = at < page_at slots (suc y.slot) 0

-- the word is that of a pointer which the pass knows
pub record IsPointersWord (v : View) (at : ℕ) : Type 0 where
  pub place : At
  pub span : Span
  pub is : IsPointerAt v place span at
  pub inside : LiesInPage v.layout.slots place at

-- the word is no page's header
abbrev pub IsNoHeader : ℕ → ℕ → Type 0
IsNoHeader slots at = (t : ℕ) → at ≢ page_at slots t 0

-- Each pointer of the first set, and the header of each page of a tree in the second one, that was last seen as its
-- set has it was last seen so still.
pub record KeepsMet (pointers headers : List Seen) (v w : View) : Type 0 where
  pub points : (a word : ℕ) → word_at a pointers ≡ Some word → IsPointersWord v a → seen_at v.reads a ≡ Some word
      → seen_at w.reads a ≡ Some word
  pub heads : (a word slot : ℕ) → word_at a headers ≡ Some word → IsTreeWordAt v slot 0 a
      → seen_at v.reads a ≡ Some word → seen_at w.reads a ≡ Some word

-- ---- how long a walk is

-- A walk down to the end of the way to a key takes at most so many steps: 35 for each page, and three for the root's
-- pointer.
abbrev pub walk_steps : ℕ
walk_steps = 4483
