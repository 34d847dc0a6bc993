-- Where the words of records and pointers stand, as a transaction finds them.
use Rattle.std.specs.Prelude.{◌≡◌, ◌⊎◌, ℕ, ◌+◌, ◌-◌, ◌/◌, ◌%◌, ◌<◌, ◌≤◌, ◌&&◌, ◌==◌, true, false, List, Contains}
use Rattle.std.specs.Prelude.{length, cond, nat_lt, Some, slice_get, Bool}
use Rattle.std.specs.List.{list_any}
use Rattle.serial_model.specs.declared.key.Key.{Key}
use Rattle.homes.specs.declared.places.At.{At}
use Rattle.homes.specs.declared.places.At.TheVariants.{Root, In}
use Rattle.homes.specs.declared.places.Span.{Span}
use Rattle.homes.specs.declared.places.Spot.{Spot}
use Rattle.homes.specs.Homes.{in_span}
use Rattle.wire_form.specs.Leaves.{tree_leaf, word_in}
use Rattle.engine_pages.specs.declared.layout.Layout.{Layout}
use Rattle.engine_pages.specs.declared.view.Inner.{Inner}
use Rattle.engine_pages.specs.declared.view.Known.{Known}
use Rattle.engine_pages.specs.declared.view.View.{View}
use Rattle.engine_pages.specs.declared.view.Way.{Way}
use Rattle.engine_pages.specs.Layout.{page_at, root_at, slots_at}
use Rattle.engine_pages.specs.Records.{IsRecordIn}
use Rattle.engine_pages.specs.Pages.{child_span, is_array, is_leaf_span, is_tree, part_between, root_span}

-- What a pass knows of where words stand in the pages that it holds: it stays until the pass leaves a slot.
pub record Ground : Type 0 where
  pub layout : Layout
  pub ways : List Way
  pub known : List Known
  pub inners : List Inner

-- that of a view
abbrev pub ground : View → Ground
ground v = record { layout = v.layout; ways = v.ways; known = v.known; inners = v.inners }

-- the slot in whose page the word with this place stands, where there are so many slots
abbrev pub slot_of : ℕ → ℕ → ℕ
slot_of slots at = (at - (32 + slots)) / 64

-- and which word of the page it is
abbrev pub word_of : ℕ → ℕ → ℕ
word_of slots at = (at - (32 + slots)) % 64

-- the place of the record of an array whose word stands here
abbrev pub spot_at : ℕ → ℕ → Spot
spot_at slots at = record { slot = slot_of slots at; index = word_of slots at / 2 }

-- and that of a tree
abbrev pub tree_spot : ℕ → ℕ → Spot
tree_spot slots at = record { slot = slot_of slots at; index = (word_of slots at - 17) / 3 }

-- the place of the key's record whose word stands here, by the kind of its storage
abbrev pub spot_for : Layout → Key → ℕ → Spot
spot_for l k at = cond (is_array l.decls k.storage) (spot_at l.slots at) (tree_spot l.slots at)

-- a way is known to this slot, whose page is of an array
abbrev pub is_array_page : Ground → ℕ → Bool
is_array_page g slot = list_any (λ way. (way.slot == slot) && is_array g.layout.decls way.span.storage) g.ways

-- Which pointer of a page has its word here: of an array's page the one with the word's index, of a tree's interior
-- page that behind the first four words.
abbrev pub pointer_index : Ground → ℕ → ℕ
pointer_index g at =
    cond (is_array_page g (slot_of g.layout.slots at)) (word_of g.layout.slots at) (word_of g.layout.slots at - 4)

-- the place of the pointer whose word stands here
abbrev pub pointer_for : Ground → ℕ → At
pointer_for g at =
    cond (nat_lt at slots_at) (Root (at - 10))
    (In (record { slot = slot_of g.layout.slots at; index = pointer_index g at }))

-- the record's word of the key stands here, in the leaf of an array to which a way is known
abbrev pub IsKeyIn : Ground → Key → ℕ → Type 0
IsKeyIn g k at = IsRecordIn g.layout.decls g.layout.slots g.ways k (spot_at g.layout.slots at) at

-- the record's word of the key stands here, in a page that the pass holds
abbrev pub IsKeyAt : View → Key → ℕ → Type 0
IsKeyAt v k at = IsKeyIn (ground v) k at

-- The record's word of the key stands here, in the leaf of a tree to which a way is known, over keys that the key is one
-- of, and of which the key is known.
pub record IsTreeKeyIn (g : Ground) (k : Key) (at : ℕ) : Type 0 where
  pub way : Way
  pub has : Contains g.ways way
  pub slot : way.slot ≡ slot_of g.layout.slots at
  pub leaf : Known
  pub knows : Contains g.known leaf
  pub same : leaf.slot ≡ slot_of g.layout.slots at
  pub there : slot_of g.layout.slots at < g.layout.slots
  pub index : (tree_spot g.layout.slots at).index < tree_leaf.room
  pub kind : is_tree g.layout.decls k.storage ≡ true
  pub key : slice_get leaf.keys (tree_spot g.layout.slots at).index ≡ Some k
  pub word : at ≡ page_at g.layout.slots (slot_of g.layout.slots at)
      (word_in tree_leaf (tree_spot g.layout.slots at).index)
  pub over : in_span way.span k ≡ true

-- the record's word of the key stands here, in the leaf of an array or of a tree
abbrev pub IsAnyKeyIn : Ground → Key → ℕ → Type 0
IsAnyKeyIn g k at = IsKeyIn g k at ⊎ IsTreeKeyIn g k at

-- so it is in a page that the pass holds
abbrev pub IsAnyKeyAt : View → Key → ℕ → Type 0
IsAnyKeyAt v k at = IsAnyKeyIn (ground v) k at

-- The word is that of a storage's root.
pub record IsRootIn (g : Ground) (sp : Span) (at : ℕ) : Type 0 where
  pub root : ℕ
  pub few : root < 16
  pub there : root < length g.layout.decls
  pub span : sp ≡ root_span g.layout.decls root
  pub word : at ≡ root_at root

-- The word is that of a pointer of an array's interior page that the pass holds.
pub record IsChildIn (g : Ground) (sp : Span) (at : ℕ) : Type 0 where
  pub way : Way
  pub has : Contains g.ways way
  pub slot : way.slot ≡ slot_of g.layout.slots at
  pub kind : is_array g.layout.decls way.span.storage ≡ true
  pub inner : is_leaf_span way.span ≡ false
  pub span : sp ≡ child_span way.span (word_of g.layout.slots at)
  pub word : at ≡ page_at g.layout.slots (slot_of g.layout.slots at) (word_of g.layout.slots at)

-- The word is that of a pointer of an interior page of a tree that the pass holds, whose separators it knows.
pub record IsBranchIn (g : Ground) (sp : Span) (at : ℕ) : Type 0 where
  pub way : Way
  pub has : Contains g.ways way
  pub slot : way.slot ≡ slot_of g.layout.slots at
  pub kind : is_tree g.layout.decls way.span.storage ≡ true
  pub inner : Inner
  pub knows : Contains g.inners inner
  pub same : inner.slot ≡ slot_of g.layout.slots at
  pub behind : 4 ≤ word_of g.layout.slots at
  pub index : word_of g.layout.slots at - 4 ≤ length inner.separators
  pub span : sp ≡ part_between way.span inner.separators (word_of g.layout.slots at - 4)
  pub word : at ≡ page_at g.layout.slots (slot_of g.layout.slots at) (word_of g.layout.slots at)

-- the pointer's word over these keys stands here, in a page that the pass holds, or as a root
abbrev pub IsPointerIn : Ground → Span → ℕ → Type 0
IsPointerIn g sp at = IsRootIn g sp at ⊎ (IsChildIn g sp at ⊎ IsBranchIn g sp at)
