-- What the publish of a tree's page asks and tells: of a leaf, and of a copy of an interior page.
use Rattle.std.specs.Prelude.{◌≡◌, ℕ, ◌^◌, ◌+◌, ◌/◌, ◌<◌, ◌≤◌, true, List, ◌∷◌, length, get_or, slice_get, Some, Contains}
use Rattle.atomic_table.specs.Table.{Step}
use Rattle.serial_model.specs.declared.key.Key.{Key}
use Rattle.homes.specs.declared.places.Content.{Content}
use Rattle.homes.specs.declared.places.Holder.TheVariants.{Free}
use Rattle.homes.specs.declared.places.Span.{Span}
use Rattle.homes.specs.Homes.{has_key, in_span}
use Rattle.wire_form.specs.Leaves.{tree_leaf, record_start}
use Rattle.snapshot_store.specs.Places.{page}
use Rattle.drop_core.specs.Event.{each_once}
use Rattle.engine_pages.specs.declared.view.Draft.{Draft}
use Rattle.engine_pages.specs.declared.view.Lead.{Lead}
use Rattle.engine_pages.specs.declared.view.View.{View}
use Rattle.engine_pages.specs.Pages.{is_tree}
use Rattle.engine_pages.specs.Slots.{other_drafts}
use Rattle.engine_pages.specs.Words.{ShowsKeyed}
use Rattle.tree_heads.specs.Headers.{open_word}

-- ---- a leaf

-- These are the words of a leaf of a tree that is made for these keys, with an open header: its records are of these,
-- each once, and have these contents.
pub record IsLeafDraft (v : View) (words : List ℕ) (sp : Span) (keys : List Key) (contents : List Content)
    : Type 0 where
  pub tree : is_tree v.layout.decls sp.storage ≡ true
  pub header : get_or words 0 0 ≡ open_word (length keys)
  pub low : get_or words 1 0 ≡ sp.low
  pub high : get_or words 2 0 ≡ sp.high
  pub few : length keys ≤ tree_leaf.room
  pub once : each_once keys ≡ true
  pub inside : (k : Key) → has_key keys k ≡ true → in_span sp k ≡ true
  pub each : length contents ≡ length keys
  pub records : (i : ℕ) (k : Key) (c : Content) → slice_get keys i ≡ Some k → slice_get contents i ≡ Some c
      → ShowsKeyed words (record_start tree_leaf i) (λ q n. ⊥) k (record { content = c; holder = Free })

-- an owned slot of the pass, filled so
abbrev pub HasLeafDraft : View → ℕ → Span → List Key → List Content → Type 0
HasLeafDraft v t sp keys contents =
    (x : Draft) × Contains v.drafts x × (x.slot ≡ t) × IsLeafDraft v x.words sp keys contents

-- the page may be looked at by others, and is that leaf
abbrev pub published_leaf : ℕ → Span → List Key → List Content → View → View
published_leaf t sp keys contents v = record v {
  steps = v.steps + 1;
  drafts = other_drafts t v.drafts;
  new_leaves = record { slot = t; span = sp; keys = keys; contents = contents } ∷ v.new_leaves;
}

-- the same of the step
abbrev pub PublishesLeaf : ℕ → Span → List Key → List Content → Step (Unit {0}) → View → ℕ → View → Type 0
PublishesLeaf t sp keys contents s v n w = (s.first ≡ 2 ^ 16) × (w ≡ published_leaf t sp keys contents v)

-- ---- an interior page

-- These are the words of the published page with this number, which stands for these keys of a tree and is an interior
-- one.
pub record IsInnerDraft (v : View) (words : List ℕ) (sp : Span) (n : ℕ) : Type 0 where
  pub tree : is_tree v.layout.decls sp.storage ≡ true
  pub some : 0 < n
  pub there : n ≤ length v.pages
  pub lead : Lead
  pub has : Contains v.leads lead
  pub over : lead.span ≡ sp
  pub number : lead.page ≡ n
  pub inner : get_or words 0 0 / 256 ≡ 2
  pub same : (i : ℕ) → i < 64 → get_or words i 0 ≡ get_or (page v.pages n) i 0

-- an owned slot of the pass, filled so
abbrev pub HasInnerDraft : View → ℕ → Span → ℕ → Type 0
HasInnerDraft v t sp n = (x : Draft) × Contains v.drafts x × (x.slot ≡ t) × IsInnerDraft v x.words sp n

-- the page may be looked at by others, and is that copy
abbrev pub published_inner : ℕ → Span → ℕ → View → View
published_inner t sp n v = record v {
  steps = v.steps + 1;
  drafts = other_drafts t v.drafts;
  new_inners = record { slot = t; span = sp; page = n } ∷ v.new_inners;
}

-- the same of the step
abbrev pub PublishesInner : ℕ → Span → ℕ → Step (Unit {0}) → View → ℕ → View → Type 0
PublishesInner t sp n s v k w = (s.first ≡ 2 ^ 16) × (w ≡ published_inner t sp n v)
