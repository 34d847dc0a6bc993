-- What a swing away from a chain asks and tells: a leaf of a tree that was split, with all that came of it, is taken out of
-- memory whole, by one swing, once the headers of its split leaves and all of its other leaves are locked.
use Rattle.std.specs.Prelude.{◌≡◌, ◌⊎◌, ℕ, ◌+◌, ◌<◌, ◌≤◌, ◌==◌, true, List, [], ◌++◌, length, map, slice_get, Option, Some, None}
use Rattle.std.specs.Prelude.{Contains, MatchBool}
use Rattle.atomic_table.specs.Table.{Step}
use Rattle.serial_model.specs.declared.key.Key.{Key}
use Rattle.homes.specs.declared.places.At.{At}
use Rattle.homes.specs.declared.places.Content.{Content}
use Rattle.homes.specs.declared.places.Span.{Span}
use Rattle.homes.specs.Homes.{has_key, in_span}
use Rattle.wire_form.specs.Leaves.{tree_leaf}
use Rattle.wire_form.specs.Words.{absent_field, number_word}
use Rattle.snapshot_store.specs.Places.{Found}
use Rattle.commit_core.specs.Parts.{IsSameOrAbsent}
use Rattle.drop_core.specs.Table.{has_slot}
use Rattle.engine_pages.specs.declared.view.Head.{Head}
use Rattle.engine_pages.specs.declared.view.Moved.{Moved}
use Rattle.engine_pages.specs.declared.view.Role.TheVariants.{Keeper}
use Rattle.engine_pages.specs.declared.view.Swung.{Swung}
use Rattle.engine_pages.specs.declared.view.View.{View}
use Rattle.engine_pages.specs.Pages.{is_tree}
use Rattle.engine_pages.specs.Pointers.{IsPointerAt, half_of}
use Rattle.engine_pages.specs.Resident.{found_content}
use Rattle.engine_pages.specs.Steps.{glanced, read_at, with_read}
use Rattle.engine_pages.specs.Words.{IsSmall, spot}
use Rattle.page_records.specs.Locks.{took_at}
use Rattle.dual_pointer.specs.Copies.{IsLeadOf}
use Rattle.tree_heads.specs.Headers.{IsTreeAt}
use Rattle.chain_steps.specs.declared.halves.Half.{Half}
use Rattle.chain_steps.specs.Below.{IsStoredIn}

-- the slots of these halves
abbrev pub slots_of : List Half → List ℕ
slots_of halves = map (λ (h : Half). h.slot) halves

-- ---- a page of a chain

-- The pass has locked the record of the key with this index, which says what the snapshot has below the page with this
-- number, which stands for the keys of the whole chain; an absence is that of an epoch that is over.
pub record IsLockedBelow (v : View) (t i : ℕ) (whole : Span) (number : ℕ) (k : Key) : Type 0 where
  pub word : ℕ
  pub took : Contains v.took (took_at k (spot t i) word)
  pub content : Content
  pub small : IsSmall content.number
  pub is : word ≡ number_word content.number + absent_field tree_leaf content.value
  pub value : (content.value ≡ None) ⊎ Contains v.versions (record { key = k; content = content })
  pub stored : Option Found
  pub below : IsStoredIn v.pages whole number k.key stored
  pub says : IsSameOrAbsent content (found_content stored)
  pub old : content.value ≡ None → content.number.epoch ≤ v.past

-- The pass has locked the header of the leaf in the slot, and each of its records, as the snapshot has them.
pub record IsLockedLeaf (v : View) (t : ℕ) (whole : Span) (number : ℕ) : Type 0 where
  pub span : Span
  pub page : IsTreeAt v t span
  pub storage : span.storage ≡ whole.storage
  pub head : Head
  pub has : Contains v.heads head
  pub slot : head.slot ≡ t
  pub records : (i : ℕ) (k : Key) → slice_get head.keys i ≡ Some k → IsLockedBelow v t i whole number k

-- The pass has locked the header of the split leaf in the slot, which leads to two of these slots.
pub record IsSealedLeaf (v : View) (slots : List ℕ) (t : ℕ) : Type 0 where
  pub span : Span
  pub page : IsTreeAt v t span
  pub sealed : has_slot v.sealed t ≡ true
  pub moved : Moved
  pub has : Contains v.moved moved
  pub slot : moved.slot ≡ t
  pub minor : has_slot slots moved.minor ≡ true
  pub major : has_slot slots moved.major ≡ true

-- a split leaf in one of these slots leads to the slot
pub record IsHalfOf (v : View) (slots : List ℕ) (t : ℕ) : Type 0 where
  pub moved : Moved
  pub has : Contains v.moved moved
  pub within : has_slot slots moved.slot ≡ true
  pub leads : (t ≡ moved.minor) ⊎ (t ≡ moved.major)

-- a key is one of a leaf in these slots whose header is locked
pub record HasKeyIn (v : View) (slots : List ℕ) (k : Key) : Type 0 where
  pub head : Head
  pub has : Contains v.heads head
  pub within : has_slot slots head.slot ≡ true
  pub key : has_key head.keys k ≡ true

-- ---- it is swung from

-- The maintenance thread's pass may swing the pointer away from the chain of the pages in these slots, where it finds this
-- word, which is that of an open one that leads to the chain's first page. All of the chain is locked, as the snapshot has
-- it below the page with this number, or nothing where that is 0, and nothing else is; and the snapshot has no record of a
-- key of the span that no leaf of the chain has.
pub record CanSwingChain (v : View) (x : At) (sp : Span) (at : ℕ) (slots : List ℕ) (number expected : ℕ) : Type 0 where
  pub keeper : v.role ≡ Keeper
  pub place : IsPointerAt v x sp at
  pub top : ℕ
  pub leads : half_of expected ≡ Some top
  pub first : has_slot slots top ≡ true
  pub tree : is_tree v.layout.decls sp.storage ≡ true
  pub there : number ≤ length v.pages
  pub lead : 0 < number → IsLeadOf v sp number
  pub few : length slots ≤ 63
  pub led : (t : ℕ) → has_slot slots t ≡ true → (t ≡ top) ⊎ IsHalfOf v slots t
  pub each : (t : ℕ) → has_slot slots t ≡ true → IsLockedLeaf v t sp number ⊎ IsSealedLeaf v slots t
  pub own : (k : Key) → has_key v.seat.locks k ≡ true → HasKeyIn v slots k
  pub all : (k : Key) (f : Found) → in_span sp k ≡ true → IsStoredIn v.pages sp number k.key (Some f) → HasKeyIn v slots k
  pub heads : (z : Head) → Contains v.heads z → has_slot slots z.slot ≡ true
  pub sealed : (t : ℕ) → has_slot v.sealed t ≡ true → has_slot slots t ≡ true
  pub shuts : v.shuts ≡ []

-- the pointer led to the pages in these slots
abbrev pub swung_all : ℕ → List ℕ → List Swung
swung_all at slots = map (λ t. record { word = at; slot = t }) slots

-- Nothing leads to the chain any more, whose locks and headers are nobody's; which pointer did is known.
abbrev pub swung_chain : ℕ → List ℕ → ℕ → ℕ → View → View
swung_chain number slots at n v = record (glanced at n v) {
  reads = with_read v.reads at number;
  seat = record v.seat { locks = [] };
  took = [];
  loaded = None;
  grip = record v.grip { taken = slots ++ v.grip.taken };
  heads = [];
  sealed = [];
  swung = v.swung ++ swung_all at slots;
}

-- the pointer is swung exactly where its word was the one that was expected
abbrev pub HasSwungChain : List ℕ → ℕ → ℕ → ℕ → View → ℕ → View → Type 0
HasSwungChain slots at number expected v n w =
    MatchBool (n == expected) (w ≡ swung_chain number slots at n v) (w ≡ read_at at n v)

-- the same of the step
abbrev pub SwingsChain : List ℕ → ℕ → Step (Unit {0}) → View → ℕ → View → Type 0
SwingsChain slots number s v n w = (s.second ≡ number) × HasSwungChain slots s.word number s.first v n w
