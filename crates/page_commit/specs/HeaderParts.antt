-- Headers of leaves of trees that a transaction keeps: each vouches that its leaf has no other keys.
use Rattle.std.specs.Prelude.{◌≡◌, ℕ, ◌+◌, ◌<◌, ◌≤◌, true, List, ◌++◌, map, take, length, Option, Some, Contains}
use Rattle.serial_model.specs.declared.key.Key.{Key}
use Rattle.homes.specs.declared.places.Span.{Span}
use Rattle.wire_form.specs.Leaves.{tree_leaf}
use Rattle.lists.specs.Each.{AreDistinct}
use Rattle.commit_core.specs.declared.part.Part.{Part}
use Rattle.commit_core.specs.declared.part.Word.{Word}
use Rattle.commit_core.specs.declared.part.Word.TheVariants.{Header}
use Rattle.tx_sets.specs.declared.seen.Seen.{Seen}
use Rattle.tx_sets.specs.Entries.{places_of}
use Rattle.engine_pages.specs.declared.view.Glance.{Glance}
use Rattle.engine_pages.specs.declared.view.Loaded.{Loaded}
use Rattle.engine_pages.specs.declared.view.Read.{Read}
use Rattle.engine_pages.specs.declared.view.View.{View}
use Rattle.engine_pages.specs.Layout.{page_at}
use Rattle.engine_pages.specs.Pages.{is_tree}
use Rattle.engine_pages.specs.Steps.{kept_at, seen_at}
use Rattle.tree_heads.specs.Headers.{open_word}
use Rattle.tree_heads.specs.Keeps.{head_part}
use Rattle.page_commit.specs.Places.{slot_of, Ground}

-- The part is that of the header of a leaf of a tree that the pass holds, whose keys it knows. It vouches for each key
-- of the leaf's span that isn't among these, of which the word counts as many.
pub record IsMetHeader (g : Ground) (h : Seen) (part : Part) : Type 0 where
  pub span : Span
  pub keys : List Key
  pub has : Contains g.ways (record { slot = slot_of g.layout.slots h.at; span = span })
  pub tree : is_tree g.layout.decls span.storage ≡ true
  pub there : slot_of g.layout.slots h.at < g.layout.slots
  pub place : h.at ≡ page_at g.layout.slots (slot_of g.layout.slots h.at) 0
  pub knows : Contains g.known (record { slot = slot_of g.layout.slots h.at; keys = keys })
  pub few : length keys ≤ tree_leaf.room
  pub word : h.word ≡ open_word (length keys)
  pub is : part ≡ head_part (slot_of g.layout.slots h.at) span keys

-- the words of these headers
abbrev pub header_words : ℕ → List Seen → List Word
header_words slots headers = map (λ h. Header (slot_of slots h.at)) headers

-- each header of the set was last seen as the set has it
abbrev pub AreHeadersMet : List Seen → View → Type 0
AreHeadersMet headers v = (h : Seen) → Contains headers h → seen_at v.reads h.at ≡ Some h.word

-- The headers of the set stand in it once each, were last seen as the set has them, and are kept as parts with these
-- words.
pub record AreHeaders (headers : List Seen) (v : View) : Type 0 where
  pub once : AreDistinct (places_of headers)
  pub met : AreHeadersMet headers v
  pub kept : (h : Seen) → Contains headers h → kept_at v.reads h.at ≡ Some h.word

-- So many of the first headers are checked; nothing else of the pass has changed but by loads, and all that is kept of
-- words as parts is as it was.
pub record HasCheckedHeads (headers : List Seen) (n : ℕ) (v w : View) : Type 0 where
  pub steps : ℕ
  pub since : v.steps ≤ steps
  pub last : Option Glance
  pub loaded : Option Loaded
  pub reads : List Read
  pub kept : (at : ℕ) → kept_at reads at ≡ kept_at v.reads at
  pub is : w ≡ record v {
    checked = v.checked ++ header_words v.layout.slots (take n headers);
    steps = steps;
    last = last;
    loaded = loaded;
    reads = reads;
  }
