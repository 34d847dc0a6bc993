-- Where a pass finds the record of a key: in the page of a slot that it holds.
use Rattle.std.specs.Prelude.{◌≡◌, ◌⊎◌, ℕ, ◌+◌, ◌<◌, true, List, Some, Contains, slice_get}
use Rattle.serial_model.specs.declared.decl.Decl.{Decl}
use Rattle.serial_model.specs.declared.key.Key.{Key}
use Rattle.homes.specs.declared.places.Spot.{Spot}
use Rattle.wire_form.specs.Leaves.{array_leaf, tree_leaf, word_in}
use Rattle.engine_pages.specs.declared.view.Known.{Known}
use Rattle.engine_pages.specs.declared.view.View.{View}
use Rattle.engine_pages.specs.declared.view.Way.{Way}
use Rattle.engine_pages.specs.Layout.{page_at}
use Rattle.engine_pages.specs.Pages.{is_array, is_leaf_span, is_tree}

-- One of these ways is into the leaf of an array, and the record of the key is the one with this index in it; its word
-- stands here, and its value in the next word.
pub record IsRecordIn (decls : List Decl) (slots : ℕ) (ways : List Way) (k : Key) (x : Spot) (at : ℕ) : Type 0 where
  pub way : Way
  pub has : Contains ways way
  pub slot : way.slot ≡ x.slot
  pub there : x.slot < slots
  pub kind : is_array decls way.span.storage ≡ true
  pub leaf : is_leaf_span way.span ≡ true
  pub index : x.index < array_leaf.room
  pub key : k ≡ record { storage = way.span.storage; key = way.span.low + x.index }
  pub word : at ≡ page_at slots x.slot (word_in array_leaf x.index)

-- so it is of the ways of the pass
abbrev pub IsRecordAt : View → Key → Spot → ℕ → Type 0
IsRecordAt v k x at = IsRecordIn v.layout.decls v.layout.slots v.ways k x at

-- One of these leaves of trees has the record of the key with this index, and one of these ways is into its slot. The
-- record's word stands here, behind its key, and its value in the next word.
pub record IsTreeRecordIn
    (decls : List Decl) (slots : ℕ) (ways : List Way) (known : List Known) (k : Key) (x : Spot) (at : ℕ)
    : Type 0 where
  pub way : Way
  pub has : Contains ways way
  pub slot : way.slot ≡ x.slot
  pub leaf : Known
  pub knows : Contains known leaf
  pub same : leaf.slot ≡ x.slot
  pub there : x.slot < slots
  pub index : x.index < tree_leaf.room
  pub kind : is_tree decls k.storage ≡ true
  pub key : slice_get leaf.keys x.index ≡ Some k
  pub word : at ≡ page_at slots x.slot (word_in tree_leaf x.index)

-- the same of the ways of the pass, and of the leaves that it knows
abbrev pub IsTreeRecordAt : View → Key → Spot → ℕ → Type 0
IsTreeRecordAt v k x at = IsTreeRecordIn v.layout.decls v.layout.slots v.ways v.known k x at

-- the record of a key of an array or of a tree
abbrev pub IsAnyRecordAt : View → Key → Spot → ℕ → Type 0
IsAnyRecordAt v k x at = IsRecordAt v k x at ⊎ IsTreeRecordAt v k x at
