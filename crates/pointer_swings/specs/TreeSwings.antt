-- What a swing of a tree's page asks beside what one of an array's page does: the keys of a leaf are all locked, by its
-- header and by their records, and the pointers of an interior page are all shut.
use Rattle.std.specs.Prelude.{◌≡◌, ◌⊎◌, ℕ, suc, ◌+◌, ◌^◌, ◌<◌, ◌≤◌, true, List, [], length, slice_get, Some, None}
use Rattle.std.specs.Prelude.{Contains}
use Rattle.serial_model.specs.declared.key.Key.{Key}
use Rattle.homes.specs.declared.places.Content.{Content}
use Rattle.homes.specs.declared.places.Span.{Span}
use Rattle.homes.specs.Homes.{has_key}
use Rattle.wire_form.specs.Leaves.{tree_leaf}
use Rattle.wire_form.specs.Words.{absent_field, number_word}
use Rattle.snapshot_store.specs.declared.place.PagePlace.{PagePlace}
use Rattle.snapshot_store.specs.TreePages.{Record, record_for}
use Rattle.commit_core.specs.Parts.{IsSameOrAbsent}
use Rattle.drop_core.specs.Table.{at_index}
use Rattle.engine_pages.specs.declared.view.Head.{Head}
use Rattle.engine_pages.specs.declared.view.Inner.{Inner}
use Rattle.engine_pages.specs.declared.view.View.{View}
use Rattle.engine_pages.specs.Pages.{is_tree, part_between}
use Rattle.engine_pages.specs.Resident.{found_content, tree_below}
use Rattle.engine_pages.specs.Words.{IsSmall, spot}
use Rattle.page_records.specs.Locks.{took_at}
use Rattle.dual_pointer.specs.Installs.{tree_records}
use Rattle.pointer_swings.specs.Shuts.{shut_of}

-- what the leaf with this number, or none for 0, has for a key
abbrev pub leaf_content : List (List ℕ) → ℕ → Key → Content
leaf_content pages number k = found_content (record_for (tree_records pages number) k.key)

-- The pass has locked the record of the key with this index, which says what the page with this number has: an absence
-- is that of an epoch that is over.
pub record IsTreeLockedAs (v : View) (t i number : ℕ) (k : Key) : Type 0 where
  pub word : ℕ
  pub took : Contains v.took (took_at k (spot t i) word)
  pub content : Content
  pub small : IsSmall content.number
  pub is : word ≡ number_word content.number + absent_field tree_leaf content.value
  pub value : (content.value ≡ None) ⊎ Contains v.versions (record { key = k; content = content })
  pub says : IsSameOrAbsent content (leaf_content v.pages number k)
  pub old : content.value ≡ None → content.number.epoch ≤ v.past

-- The pass has locked the header of a leaf of a tree and each of its records, and nothing else; they are what the leaf
-- with this number says, or there are none for 0, and it has no other keys.
pub record IsTreeLeafAs (v : View) (t : ℕ) (sp : Span) (number : ℕ) : Type 0 where
  pub tree : is_tree v.layout.decls sp.storage ≡ true
  pub head : Head
  pub has : Contains v.heads head
  pub slot : head.slot ≡ t
  pub leaf : tree_below v.pages sp number ≡ []
  pub records : (i : ℕ) (k : Key) → slice_get head.keys i ≡ Some k → IsTreeLockedAs v t i number k
  pub there : (r : Record) → Contains (tree_records v.pages number) r
      → has_key head.keys (record { storage = sp.storage; key = r.key }) ≡ true
  pub own : (k : Key) → has_key v.seat.locks k ≡ true → has_key head.keys k ≡ true

-- The pass has shut each pointer of an interior page of a tree, which leads to no slot and to the page below the one
-- with this number over the same keys, and has locked nothing.
pub record IsTreeInnerAs (v : View) (t : ℕ) (sp : Span) (number : ℕ) : Type 0 where
  pub tree : is_tree v.layout.decls sp.storage ≡ true
  pub inner : Inner
  pub has : Contains v.inners inner
  pub slot : inner.slot ≡ t
  pub some : 0 < number
  pub count : length (tree_below v.pages sp number) ≡ suc (length inner.separators)
  pub pointers : (j : ℕ) (q : PagePlace) → slice_get (tree_below v.pages sp number) j ≡ Some q
      → (q.number < 2 ^ 32) × Contains v.shuts (shut_of (at_index t j) q.number)
      × (record { storage = sp.storage; low = q.low; high = q.high } ≡ part_between sp inner.separators j)
  pub unlocked : v.seat.locks ≡ []
