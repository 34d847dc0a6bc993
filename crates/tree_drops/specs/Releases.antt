-- All pages of a chain are left, and their slots given up where it was dropped; what work on a chain comes to.
use Rattle.std.specs.Prelude.{◌≡◌, ◌⊎◌, ℕ, ◌+◌, ◌^◌, ◌<◌, ◌≤◌, true, false, List, [], ◌∷◌, ◌++◌, length, reverse, slice_get, Some}
use Rattle.std.specs.Prelude.{Contains, Result, Ok, Err, ⊤}
use Rattle.homes.specs.declared.places.Span.{Span}
use Rattle.drop_core.specs.Table.{has_slot}
use Rattle.engine_rule.specs.JointState.{keeps_word}
use Rattle.engine_pages.specs.declared.view.KeptWhy.{KeptWhy}
use Rattle.engine_pages.specs.declared.view.KeptWhy.TheVariants.{Long}
use Rattle.engine_pages.specs.declared.view.View.{View}
use Rattle.engine_pages.specs.declared.view.Way.{Way}
use Rattle.engine_pages.specs.Layout.{page_at}
use Rattle.engine_pages.specs.Slots.{left, retired, MayRetire}
use Rattle.engine_pages.specs.Steps.{glance, seen_at}
use Rattle.tree_heads.specs.Headers.{count_of, kind_of, moved_bit, moved_locked}
use Rattle.engine_pages.specs.declared.view.Moved.{Moved}
use Rattle.chain_steps.specs.declared.halves.Half.{Half}
use Rattle.chain_steps.specs.Swings.{slots_of}
use Rattle.page_drops.specs.declared.noting.Kept.{Kept}
use Rattle.page_drops.specs.Works.{KeepsReads}
use Rattle.tree_drops.specs.declared.taking.Root.{Root}
use Rattle.tree_drops.specs.Chains.{AreFresh, CameOf, ChainLooks, IsEarlier, IsHoldCause, NotedFor}
use Rattle.tree_drops.specs.Leaves.{KnowsKeys}
use Rattle.tree_drops.specs.Taking.{keys_in, HasTakenChain, IsLeafOf, IsTakeCause, KeepsBeside}
use Rattle.tree_drops.specs.Turns.{CanWork}
use Rattle.tree_drops.specs.Works.{TellsPointer}

-- ---- pages are left

-- each of these slots is held no more
abbrev pub left_all : List ℕ → View → View
left_all [] v = v
left_all (t ∷ slots) v = left_all slots (left t v)

-- each of them is held until it is left, and no part of what was seen is of its words
abbrev pub CanLeaveAll : List ℕ → View → Type 0
CanLeaveAll [] v = ⊤
CanLeaveAll (t ∷ slots) v = (has_slot v.grip.holds t ≡ true) × (t < v.layout.slots) × (keeps_word v.seat.kept t ≡ false)
    × CanLeaveAll slots (left t v)

-- each of them is given up
abbrev pub retired_all : List ℕ → View → View
retired_all [] v = v
retired_all (t ∷ slots) v = retired_all slots (retired t v)

-- each of them may be
abbrev pub CanRetireAll : List ℕ → View → Type 0
CanRetireAll [] v = ⊤
CanRetireAll (t ∷ slots) v = MayRetire v t × (t < v.layout.slots) × CanRetireAll slots (retired t v)

-- ---- work on a chain

-- the first page of a chain is held, and was just found to be a split leaf by this header
pub record CanWorkChain (root : Root) (header : ℕ) (v : View) : Type 0 where
  pub work : CanWork (root.target).place (keys_in root) (root.target).at root.slot (root.target).page root.word
      (root.target).epoch v
  pub moved : Moved
  pub has : Contains v.moved moved
  pub same : moved.slot ≡ root.slot
  pub minor : header < moved_locked → moved.minor < v.layout.slots
  pub major : header < moved_locked → moved.major < v.layout.slots
  pub split : moved_bit ≤ header
  pub kind : kind_of header ≡ 1
  pub keys : KnowsKeys root.slot (keys_in root) (count_of header) v
  pub seen : seen_at v.reads (page_at v.layout.slots root.slot 0) ≡ Some header
  pub last : (step : ℕ) × (v.last ≡ Some (glance step (page_at v.layout.slots root.slot 0) header))

-- Since the view before, the pass entered these halves, each of which came of the leaf in the slot beside it, and holds
-- them still.
pub record HoldsHalves (t : ℕ) (sp : Span) (halves : List Half) (splits : List ℕ) (a v : View) : Type 0 where
  pub holds : v.grip.holds ≡ reverse (slots_of halves) ++ a.grip.holds
  pub fresh : AreFresh a.grip.holds (slots_of halves)
  pub added : List Way
  pub ways : v.ways ≡ added ++ a.ways
  pub ours : (x : Way) → Contains added x → has_slot (slots_of halves) x.slot ≡ true
  pub inside : (h : Half) → Contains halves h → (sp.low ≤ h.low) × (h.high ≤ sp.high) × (h.slot < v.layout.slots)
  pub paired : length splits ≡ length halves
  pub came : (j : ℕ) (h : Half) (u : ℕ) → slice_get halves j ≡ Some h → slice_get splits j ≡ Some u
      → IsEarlier t halves j u × CameOf t halves h u v

-- no half came of this page
abbrev pub IsHalfless : List ℕ → ℕ → Type 0
IsHalfless splits u = (j s : ℕ) → slice_get splits j ≡ Some s → s ≡ u → ⊥

-- why it is kept where it is too long: the header of its first page, of a split leaf, was seen last
abbrev pub IsLongSo : ℕ → Root → KeptWhy → ℕ → ℕ → Type 0
IsLongSo slots root why word seen = (why ≡ Long) × (word ≡ page_at slots root.slot 0) × (2 ^ 62 ≤ seen)

-- The pass loaded that header again, which led to the halves of the split leaf, and noted that it keeps the chain.
pub record HasKeptLong (root : Root) (x : Moved) (k : Kept) (v w : View) : Type 0 where
  pub looks : ChainLooks v w
  pub grip : w.grip ≡ v.grip
  pub added : List Way
  pub ways : w.ways ≡ added ++ v.ways
  pub ours : (y : Way) → Contains added y → (y.slot ≡ x.minor) ⊎ (y.slot ≡ x.major)
  pub kept : NotedFor (IsLongSo v.layout.slots root) k v w
  pub reads : KeepsReads root.slot v w

-- Why a chain is kept: a word that was seen as its pages were held, or its length, or what was seen as they were locked,
-- where no half came of a leaf.
abbrev pub IsWholeCause : ℕ → Root → List Half → List ℕ → View → KeptWhy → ℕ → ℕ → Type 0
IsWholeCause slots root halves splits v why word seen = IsHoldCause slots root.slot (keys_in root) halves why word seen
    ⊎ (((why ≡ Long) × (word ≡ page_at slots root.slot 0) × (2 ^ 62 ≤ seen) × (63 ≤ length halves))
    ⊎ ((headers : List ℕ) × ((h : Half) → IsLeafOf root halves headers h → IsHalfless splits h.slot)
    × IsTakeCause slots root halves headers v.pages why word seen))

-- It is dropped, and its pages are held, or it is kept, and has no lock of it.
abbrev pub HasWorkedChain : Root → List Half → Result (Unit {0}) Kept → View → View → Type 0
HasWorkedChain root halves (Ok u) v w = (splits : List ℕ) × (a : View) × HoldsHalves root.slot (keys_in root) halves splits v a
    × (ChainLooks v a × (a.kept ≡ v.kept) × (2 ≤ length halves) × (length halves < 63) × HasTakenChain root halves a w
    × KeepsBeside root halves v w)
HasWorkedChain root halves (Err k) v w = (splits : List ℕ) × HoldsHalves root.slot (keys_in root) halves splits v w
    × (ChainLooks v w × NotedFor (IsWholeCause v.layout.slots root halves splits v) k v w
    × TellsPointer (root.target).at root.word k v w × KeepsBeside root halves v w)
