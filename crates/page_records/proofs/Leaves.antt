-- What a pass knows of a record in a leaf that it holds.
use Rattle.std.proofs.Common.{◌≡◌, ℕ, ◌+◌, ◌*◌, ◌<◌, true, List, sym, ap, ◌∙◌, arith, None}
use Rattle.serial_model.specs.declared.key.Key.{Key}
use Rattle.homes.specs.declared.places.Holder.TheVariants.{Dead}
use Rattle.homes.specs.declared.places.Home.TheVariants.{InSlot}
use Rattle.homes.specs.declared.places.Spot.{Spot}
use Rattle.commit_core.specs.Places.{place_of, home_of}
use Rattle.drop_core.specs.declared.table.Page.TheVariants.{Leaf}
use Rattle.drop_core.specs.Table.{page_of, header_of, has_slot}
use Rattle.engine_pages.specs.declared.layout.Layout.{Layout}
use Rattle.engine_pages.specs.declared.view.View.{View}
use Rattle.engine_pages.specs.Layout.{page_at, words_of}
use Rattle.engine_pages.specs.Pages.{is_array}
use Rattle.engine_pages.specs.Records.{IsRecordAt, IsRecordIn}
use Rattle.engine_pages.specs.Rule.{Shared, RecordStands}
use Rattle.engine_pages.specs.Stays.{IsKnown}
use Rattle.engine_pages.specs.Words.{ShowsRecord}
use Rattle.engine_pages.proofs.Dealing.{record_here, stands_at}
use Rattle.engine_pages.proofs.Leaves as leaves
use Rattle.engine_pages.proofs.Leaves.{IsWordOf}
use Rattle.engine_pages.proofs.Turns.{Begins}

-- both words are words of the table
pub word_below : (v : View) (k : Key) (x : Spot) (at : ℕ) → IsRecordAt v k x at → at + 1 < words_of v.layout
word_below v k x at is =
    let slot = is.there in
    let index : x.index < 32 = is.index in
    let word : at ≡ page_at v.layout.slots x.slot (2 * x.index) = is.word in omega arith

module _ (l : Layout) (words : List ℕ) (views : List View) (s : Shared) (id : ℕ) (v : View)
    (b : Begins l words views s id v) (k : Key) (x : Spot) (at : ℕ) (is : IsRecordAt v k x at) where
  pub here : IsRecordIn l.decls l.slots v.ways k x at
  here = record_here l words views s id v b k x at is

  pub stands : RecordStands l s k x at
  stands = stands_at l words views s id v b k x at here

  abbrev pub leaf_keys : List Key
  leaf_keys = leaves.leaf_keys l words views s b.sound k x at stands

  pub held : has_slot v.grip.holds x.slot ≡ true
  held = ap (has_slot v.grip.holds) (sym is.slot) ∙ (b.pages.ways is.way is.has).held

  pub known : IsKnown s.table x.slot
  known = stands.known

  pub header_is : header_of s.table x.slot ≡ Dead
  header_is = leaves.header_is l words views s b.sound k x at stands

  pub page_is : page_of s.table x.slot ≡ Leaf leaf_keys
  page_is = leaves.page_is l words views s b.sound k x at stands

  pub tree_is : s.trees x.slot ≡ None
  tree_is = leaves.tree_is l words views s b.sound k x at stands

  pub array_is : is_array l.decls k.storage ≡ true
  array_is = leaves.array_is l words views s b.sound k x at stands

  pub word_is : IsWordOf l.slots x at
  word_is = leaves.word_is l words views s b.sound k x at stands

  pub shown : ShowsRecord words at (place_of s.story.places x)
  shown = leaves.shown l words views s b.sound k x at stands

  pub home : ((place_of s.story.places x).holder ≡ Dead → ⊥) → home_of s.story.homes k ≡ InSlot x
  home = leaves.home l words views s b.sound k x at stands
