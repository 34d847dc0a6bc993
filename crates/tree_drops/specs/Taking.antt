-- What is asked and told of a chain all pages of which are held: they are locked, one after another, as the snapshot has
-- them, and the pointer is swung away from the first.
use Rattle.std.specs.Prelude.{◌≡◌, ◌≢◌, ◌⊎◌, ℕ, suc, ◌+◌, ◌*◌, ◌^◌, ◌<◌, ◌≤◌, true, List, [], ◌∷◌, ◌++◌, length}
use Rattle.std.specs.Prelude.{slice_get, Some, Contains, Result, Ok, Err, ⊤}
use Rattle.serial_model.specs.declared.key.Key.{Key}
use Rattle.homes.specs.declared.places.Span.{Span}
use Rattle.homes.specs.Homes.{has_key, in_span}
use Rattle.snapshot_store.specs.Places.{Found}
use Rattle.drop_core.specs.Table.{has_slot}
use Rattle.engine_pages.specs.declared.view.Head.{Head}
use Rattle.engine_pages.specs.declared.view.KeptWhy.{KeptWhy}
use Rattle.engine_pages.specs.declared.view.KeptWhy.TheVariants.{Unlike, UnlikeAt, Changed}
use Rattle.engine_pages.specs.declared.view.Moved.{Moved}
use Rattle.engine_pages.specs.declared.view.Role.TheVariants.{Keeper}
use Rattle.engine_pages.specs.declared.view.Took.{Took}
use Rattle.engine_pages.specs.declared.view.View.{View}
use Rattle.engine_pages.specs.declared.view.Way.{Way}
use Rattle.engine_pages.specs.Layout.{page_at, words_of}
use Rattle.engine_pages.specs.Pointers.{IsPointerAt, half_of}
use Rattle.engine_pages.specs.Steps.{seen_at}
use Rattle.engine_pages.specs.Words.{spot}
use Rattle.dual_pointer.specs.Copies.{IsLeadOf}
use Rattle.tree_heads.specs.Headers.{count_of, kind_of, moved_bit, open_word, IsTreeAt}
use Rattle.tree_heads.specs.Heads.{head_opened, CanOpenHeader}
use Rattle.chain_steps.specs.Seals.{unsealed_at, CanUnseal}
use Rattle.chain_steps.specs.declared.halves.Half.{Half}
use Rattle.chain_steps.specs.Below.{IsStoredBelow, IsStoredIn}
use Rattle.chain_steps.specs.Swings.{slots_of, swung_chain, HasKeyIn, IsLockedBelow}
use Rattle.page_drops.specs.declared.noting.Kept.{Kept}
use Rattle.page_drops.specs.Calls.{IsElsewhere}
use Rattle.page_drops.specs.Works.{read_of, HasHeadAt, IsOutside, KeepsReads}
use Rattle.page_records.specs.Locks.{opened, took_at, CanOpenAgain}
use Rattle.tree_drops.specs.declared.taking.ChainPage.{ChainPage}
use Rattle.tree_drops.specs.declared.taking.Done.{Done}
use Rattle.tree_drops.specs.declared.taking.Done.TheVariants.{Nothing, Sealed, Headed, Recorded}
use Rattle.tree_drops.specs.declared.taking.Root.{Root}
use Rattle.tree_drops.specs.Belows.{CanGoBelow, HasMisshapen}
use Rattle.tree_drops.specs.Chains.{pages_of, span_in, split_header, way_in, ChainsOn, HoldsSame}
use Rattle.tree_drops.specs.Chains.{KeepsChain, OnlyChains}
use Rattle.tree_drops.specs.Leaves.{AreKeys, AtTree, IsKeyOf, IsNew, IsUntaken, KnowsKeys}
use Rattle.tree_drops.specs.Visits.{IsHeaderCause, IsNarrower, IsRecordKept}
use Rattle.tree_drops.specs.Works.{TellsPointer}

-- ---- the pages

-- the keys of a whole chain, the slot of its first page, and the snapshot's page for it
abbrev pub keys_in : Root → Span
keys_in root = (root.target).span

-- all pages of a chain, the first one last
abbrev pub all_pages : Root → List Half → List Half
all_pages root halves = pages_of root.slot (keys_in root) halves

-- their headers
abbrev pub all_headers : List ℕ → List ℕ
all_headers headers = headers ++ split_header ∷ []

-- their slots
abbrev pub all_slots : Root → List Half → List ℕ
all_slots root halves = slots_of halves ++ root.slot ∷ []

-- the page with this index, with its header
pub record IsPageAt (root : Root) (halves : List Half) (headers : List ℕ) (i : ℕ) (h : Half) (n : ℕ) : Type 0 where
  pub page : slice_get (all_pages root halves) i ≡ Some h
  pub header : slice_get (all_headers headers) i ≡ Some n

-- it is the one with this index
pub record IsThatPage (root : Root) (halves : List Half) (headers : List ℕ) (i : ℕ) (p : ChainPage) : Type 0 where
  pub half : Half
  pub at : IsPageAt root halves headers i half p.header
  pub slot : p.slot ≡ half.slot
  pub span : p.span ≡ span_in (keys_in root) half

-- What the pass knows of a page that it holds: its keys, and of a split leaf that it leads to pages of the chain.
pub record IsKnownPage (root : Root) (halves : List Half) (h : Half) (n : ℕ) (v : View) : Type 0 where
  pub way : Contains v.ways (way_in (keys_in root) h)
  pub slot : h.slot < v.layout.slots
  pub from : (keys_in root).low ≤ h.low
  pub to : h.high ≤ (keys_in root).high
  pub kind : kind_of n ≡ 1
  pub keys : KnowsKeys h.slot (span_in (keys_in root) h) (count_of n) v
  pub leaf : n < moved_bit → n < 2 ^ 60
  pub split : moved_bit ≤ n → (n ≡ split_header) × ((x : Moved) × Contains v.moved x × (x.slot ≡ h.slot)
      × (has_slot (all_slots root halves) x.minor ≡ true) × (has_slot (all_slots root halves) x.major ≡ true))

-- no key is one of both spans
abbrev pub AreApart : Span → Span → Type 0
AreApart one two = (k : Key) → in_span one k ≡ true → in_span two k ≡ true → ⊥

-- All pages of a chain are held, 63 at most, and pages round it; the pointer to the first of them was last seen or left
-- as this word, and stands in none of them.
pub record IsWholeChain (root : Root) (halves : List Half) (headers : List ℕ) (v : View) : Type 0 where
  pub tree : AtTree root.slot (keys_in root) (root.target).page v
  pub place : IsPointerAt v (root.target).place (keys_in root) (root.target).at
  pub inside : (root.target).at < words_of v.layout
  pub leads : half_of root.word ≡ Some root.slot
  pub lead : 0 < (root.target).page → IsLeadOf v (keys_in root) (root.target).page
  pub past : (root.target).epoch ≤ v.past
  pub shuts : v.shuts ≡ []
  pub apart : (u : ℕ) → has_slot (all_slots root halves) u ≡ true → IsOutside v.layout.slots u (root.target).at
  pub few : length halves < 63
  pub same : length headers ≡ length halves
  pub came : (h : Half) → Contains halves h → (x : Moved) × Contains v.moved x
      × (has_slot (all_slots root halves) x.slot ≡ true) × ((h.slot ≡ x.minor) ⊎ (h.slot ≡ x.major))
  pub each : (i : ℕ) (h : Half) (n : ℕ) → IsPageAt root halves headers i h n → IsKnownPage root halves h n v
  pub once : (i j : ℕ) (h g : Half) (n m : ℕ) → IsPageAt root halves headers i h n → IsPageAt root halves headers j g m
      → h.slot ≡ g.slot → i ≡ j
  pub parts : (i j : ℕ) (h g : Half) (n m : ℕ) → IsPageAt root halves headers i h n → IsPageAt root halves headers j g m
      → n < moved_bit → m < moved_bit → (i ≡ j → ⊥) → AreApart (span_in (keys_in root) h) (span_in (keys_in root) g)
  pub ways : (x : Way) → Contains v.ways x
      → (has_slot (all_slots root halves) x.slot ≡ true) ⊎ IsNarrower x.span (keys_in root)

-- ---- what is locked

-- the key is that of a record that was locked, before this unit of work
pub record IsTakenKey (root : Root) (halves : List Half) (headers : List ℕ) (p : ℕ) (v : View) (k : Key) : Type 0 where
  pub index : ℕ
  pub half : Half
  pub header : ℕ
  pub page : IsPageAt root halves headers index half header
  pub leaf : header < moved_bit
  pub head : Head
  pub has : Contains v.heads head
  pub slot : head.slot ≡ half.slot
  pub record_at : ℕ
  pub before : 17 * index + suc record_at < p
  pub key : slice_get head.keys record_at ≡ Some k

-- the header was locked, of a leaf with as many keys
pub record IsTakenHead (root : Root) (halves : List Half) (headers : List ℕ) (p : ℕ) (v : View) (x : Head) : Type 0 where
  pub index : ℕ
  pub half : Half
  pub header : ℕ
  pub page : IsPageAt root halves headers index half header
  pub leaf : header < moved_bit
  pub slot : x.slot ≡ half.slot
  pub before : 17 * index < p
  pub knows : Contains v.known (record { slot = half.slot; keys = x.keys })
  pub are : AreKeys (span_in (keys_in root) half) (count_of header) x.keys

-- Each page has 17 units of work: its header, and its records. The first units, so many, are done, and nothing else is
-- locked.
pub record AreTaken (root : Root) (halves : List Half) (headers : List ℕ) (p : ℕ) (v : View) : Type 0 where
  pub seals : (i : ℕ) (h : Half) (n : ℕ) → IsPageAt root halves headers i h n → 17 * i < p → moved_bit ≤ n
      → has_slot v.sealed h.slot ≡ true
  pub heads : (i : ℕ) (h : Half) (n : ℕ) → IsPageAt root halves headers i h n → 17 * i < p → n < moved_bit
      → (x : Head) × Contains v.heads x × (x.slot ≡ h.slot)
  pub records : (i : ℕ) (h : Half) (n r : ℕ) (x : Head) (k : Key) → IsPageAt root halves headers i h n → n < moved_bit
      → 17 * i + suc r < p → Contains v.heads x → x.slot ≡ h.slot → slice_get x.keys r ≡ Some k
      → IsLockedBelow v h.slot r (keys_in root) (root.target).page k
  pub own : (k : Key) → has_key v.seat.locks k ≡ true → IsTakenKey root halves headers p v k
  pub mine : (y : Took) → Contains v.took y
      → (x : IsTakenKey root halves headers p v y.key) × (y.spot ≡ spot (x.half).slot x.record_at)
  pub head : (x : Head) → Contains v.heads x → IsTakenHead root halves headers p v x
  pub one : (x y : Head) → Contains v.heads x → Contains v.heads y → x.slot ≡ y.slot → x ≡ y
  pub sealed : (u : ℕ) → has_slot v.sealed u ≡ true → (i : ℕ) × (h : Half) × (n : ℕ) × IsPageAt root halves headers i h n
      × (moved_bit ≤ n) × (17 * i < p) × (h.slot ≡ u)
  pub seen : (i : ℕ) (h : Half) (n : ℕ) → IsPageAt root halves headers i h n → p ≤ 17 * i
      → seen_at v.reads (page_at v.layout.slots h.slot 0) ≡ Some n

-- The chain is held, and so much of it is locked; the pointer was last seen as it leads there.
pub record CanTake (root : Root) (halves : List Half) (headers : List ℕ) (p : ℕ) (v : View) : Type 0 where
  pub chain : IsWholeChain root halves headers v
  pub most : p ≤ 17 * suc (length halves)
  pub taken : AreTaken root halves headers p v
  pub met : seen_at v.reads (root.target).at ≡ Some root.word

-- ---- why it is kept

-- this half is a leaf of the chain that wasn't split
pub record IsLeafOf (root : Root) (halves : List Half) (headers : List ℕ) (h : Half) : Type 0 where
  pub index : ℕ
  pub header : ℕ
  pub page : IsPageAt root halves headers index h header
  pub leaf : header < moved_bit

-- The snapshot has a record of the key below the page with this number, which stands for these keys.
pub record IsStoredThere (pages : List (List ℕ)) (sp : Span) (page : ℕ) (key : Key) : Type 0 where
  pub storage : key.storage ≡ sp.storage
  pub from : sp.low ≤ key.key
  pub to : key.key ≤ sp.high
  pub found : Found
  pub stored : IsStoredIn pages sp page key.key (Some found)

-- The header of the chain's first page was seen: a page of the snapshot is misshapen, or it has a record below the page
-- with this number, of a key that no leaf of the chain has, which is shown by who notes it.
pub record IsCoverCause (slots : ℕ) (root : Root) (pages : List (List ℕ)) (sp : Span) (page : ℕ) (why : KeptWhy) (word : ℕ)
    : Type 0 where
  pub place : word ≡ page_at slots root.slot 0
  pub cause : ((why ≡ Unlike) × HasMisshapen pages)
      ⊎ ((key : Key) × (why ≡ UnlikeAt key) × IsStoredThere pages sp page key)

-- why a chain all of which is held was kept
abbrev pub IsTakeCause : ℕ → Root → List Half → List ℕ → List (List ℕ) → KeptWhy → ℕ → ℕ → Type 0
IsTakeCause slots root halves headers pages why word seen =
    ((h : Half) × Contains (all_pages root halves) h × IsHeaderCause slots h.slot why word seen)
    ⊎ (((h : Half) × IsLeafOf root halves headers h × IsRecordKept slots h.slot (span_in (keys_in root) h) (keys_in root) pages
    (root.target).page (root.target).epoch why word seen)
    ⊎ (IsCoverCause slots root pages (keys_in root) (root.target).page why word
    ⊎ ((word ≡ (root.target).at) × (why ≡ Changed root.word) × (seen ≢ root.word))))

-- what was read of words that stand in no page of the chain is as it was, but for the pointer's
abbrev pub KeepsBeside : Root → List Half → View → View → Type 0
KeepsBeside root halves v w = (word : ℕ) → (word ≡ (root.target).at → ⊥)
    → IsElsewhere v.layout.slots (root.slot ∷ slots_of halves) word → read_of w.reads word ≡ read_of v.reads word

-- the same, and for the pointer's too
abbrev pub KeepsAround : Root → List Half → View → View → Type 0
KeepsAround root halves v w = (word : ℕ) → IsElsewhere v.layout.slots (root.slot ∷ slots_of halves) word
    → read_of w.reads word ≡ read_of v.reads word

-- The pointer was swung away from the chain, all of which was locked.
pub record HasTakenChain (root : Root) (halves : List Half) (v w : View) : Type 0 where
  pub before : View
  pub found : ℕ
  pub on : ChainsOn v before
  pub holds : HoldsSame v before
  pub kept : before.kept ≡ v.kept
  pub met : seen_at before.reads (root.target).at ≡ Some root.word
  pub is : w ≡ swung_chain (root.target).page (all_slots root halves) (root.target).at found before

-- ---- one unit of work

-- The header of the split leaf was locked.
pub record HasSealedPage (page : ChainPage) (v w : View) : Type 0 where
  pub on : ChainsOn v w
  pub holds : HoldsSame v w
  pub kept : w.kept ≡ v.kept
  pub locks : w.seat.locks ≡ v.seat.locks
  pub took : w.took ≡ v.took
  pub heads : w.heads ≡ v.heads
  pub sealed : w.sealed ≡ page.slot ∷ v.sealed
  pub reads : KeepsReads page.slot v w

-- The header of the leaf was locked, which has as many keys as that counts.
pub record HasHeadedPage (page : ChainPage) (v w : View) : Type 0 where
  pub on : ChainsOn v w
  pub holds : HoldsSame v w
  pub kept : w.kept ≡ v.kept
  pub locks : w.seat.locks ≡ v.seat.locks
  pub took : w.took ≡ v.took
  pub sealed : w.sealed ≡ v.sealed
  pub head : Head
  pub heads : w.heads ≡ head ∷ v.heads
  pub slot : head.slot ≡ page.slot
  pub knows : Contains w.known (record { slot = page.slot; keys = head.keys })
  pub are : AreKeys page.span (count_of page.header) head.keys
  pub word : page.header ≡ open_word (length head.keys)
  pub reads : KeepsReads page.slot v w

-- The record with this index of the leaf was locked, as the snapshot has it.
pub record HasRecorded (root : Root) (page : ChainPage) (r : ℕ) (key : Key) (word : ℕ) (v w : View) : Type 0 where
  pub on : ChainsOn v w
  pub holds : HoldsSame v w
  pub kept : w.kept ≡ v.kept
  pub locks : w.seat.locks ≡ v.seat.locks ++ key ∷ []
  pub took : w.took ≡ v.took ++ took_at key (spot page.slot r) word ∷ []
  pub heads : w.heads ≡ v.heads
  pub sealed : w.sealed ≡ v.sealed
  pub new : IsNew key v
  pub storage : key.storage ≡ (page.span).storage
  pub at : (x : KnowsKeys page.slot page.span (count_of page.header) v) → slice_get (x.leaf).keys r ≡ Some key
  pub locked : IsLockedBelow w page.slot r (keys_in root) (root.target).page key
  pub reads : KeepsReads page.slot v w

-- One unit more is done: nothing, or the header of a split leaf is locked, or that of a leaf, or a record.
abbrev pub HasDone : Root → ChainPage → ℕ → Done → View → View → Type 0
HasDone root page j Nothing v w =
    (w ≡ v) × (0 < j) × ((moved_bit ≤ page.header) ⊎ (count_of page.header < j))
HasDone root page j Sealed v w = HasSealedPage page v w × (moved_bit ≤ page.header) × (j ≡ 0)
HasDone root page j Headed v w = HasHeadedPage page v w × (page.header < moved_bit) × (j ≡ 0)
HasDone root page j (Recorded key word) v w =
    (r : ℕ) × (j ≡ suc r) × (page.header < moved_bit) × (j ≤ count_of page.header) × HasRecorded root page r key word v w

-- why a page is kept, at the work on it
abbrev pub IsPageCause : ℕ → Root → ChainPage → List (List ℕ) → KeptWhy → ℕ → ℕ → Type 0
IsPageCause slots root page pages why word seen =
    IsHeaderCause slots page.slot why word seen
    ⊎ (((page.header < moved_bit) × IsRecordKept slots page.slot page.span (keys_in root) pages (root.target).page
    (root.target).epoch why word seen)
    ⊎ ((why ≡ Unlike) × (word ≡ page_at slots root.slot 0) × HasMisshapen pages))

-- it was done, or the chain is kept
abbrev pub HasWorked : Root → ChainPage → ℕ → Result Done Kept → View → View → Type 0
HasWorked root page j (Ok done) v w = HasDone root page j done v w
HasWorked root page j (Err k) v w = KeepsChain (IsPageCause v.layout.slots root page v.pages) k v w
    × KeepsReads page.slot v w

-- The pass holds a leaf of a chain, whose header it has locked, and is to lock the record with this index, whose key isn't
-- locked yet.
pub record CanTakeKey (root : Root) (page : ChainPage) (r : ℕ) (v : View) : Type 0 where
  pub tree : AtTree root.slot (keys_in root) (root.target).page v
  pub below : CanGoBelow (keys_in root) (root.target).page v
  pub past : (root.target).epoch ≤ v.past
  pub at : AtTree page.slot page.span (root.target).page v
  pub storage : (page.span).storage ≡ (keys_in root).storage
  pub from : (keys_in root).low ≤ (page.span).low
  pub to : (page.span).high ≤ (keys_in root).high
  pub leaf : page.header < moved_bit
  pub keys : KnowsKeys page.slot page.span (count_of page.header) v
  pub index : r < count_of page.header
  pub new : (k : Key) → slice_get (keys.leaf).keys r ≡ Some k → IsNew k v
  pub own : IsUntaken page.slot r v
  pub head : HasHeadAt v page.slot

-- A unit of work is to be done on a page of a chain that the pass holds.
pub record CanWorkOn (root : Root) (page : ChainPage) (j : ℕ) (v : View) : Type 0 where
  pub keeper : v.role ≡ Keeper
  pub slot : page.slot < v.layout.slots
  pub tree : IsTreeAt v page.slot page.span
  pub unit : j < 17
  pub kind : kind_of page.header ≡ 1
  pub leaf : page.header < moved_bit → page.header < 2 ^ 60
  pub split : moved_bit ≤ page.header → (page.header ≡ split_header) × ((x : Moved) × Contains v.moved x × (x.slot ≡ page.slot))
  pub seen : j ≡ 0 → seen_at v.reads (page_at v.layout.slots page.slot 0) ≡ Some page.header
  pub take : (r : ℕ) → j ≡ suc r → page.header < moved_bit → j ≤ count_of page.header → CanTakeKey root page r v

-- what was done may be undone
abbrev pub CanUndo : Root → ChainPage → ℕ → Done → View → Type 0
CanUndo root page j Nothing v = ⊤
CanUndo root page j Sealed v = CanUnseal v page.slot page.span split_header
CanUndo root page j Headed v = CanOpenHeader v page.slot page.span page.header
CanUndo root page j (Recorded key word) v = (r : ℕ) × (j ≡ suc r) × (r < 16)
    × AtTree page.slot page.span (root.target).page v × IsKeyOf page.slot page.span r key v
    × CanOpenAgain v key (spot page.slot r) word

-- it was undone
abbrev pub HasUndone : ChainPage → ℕ → Done → View → View → Type 0
HasUndone page j Nothing v w = w ≡ v
HasUndone page j Sealed v w = w ≡ unsealed_at page.slot (page_at v.layout.slots page.slot 0) split_header v
HasUndone page j Headed v w = w ≡ head_opened page.slot (page_at v.layout.slots page.slot 0) page.header v
HasUndone page j (Recorded key word) v w = (r : ℕ) → j ≡ suc r
    → w ≡ opened key (page_at v.layout.slots page.slot (17 + 3 * r)) word v

-- ---- each record of the snapshot is met

-- all of the chain is locked, and the snapshot page with this number stands for these keys, below the chain's
pub record CanCover (root : Root) (halves : List Half) (headers : List ℕ) (sp : Span) (page : ℕ) (v : View) : Type 0 where
  pub take : CanTake root halves headers (17 * suc (length halves)) v
  pub below : CanGoBelow sp page v
  pub storage : sp.storage ≡ (keys_in root).storage
  pub from : (keys_in root).low ≤ sp.low
  pub to : sp.high ≤ (keys_in root).high

-- each record that the snapshot has below it, of a key of the span, is of a key of a leaf of the chain
abbrev pub Covers : Root → List Half → Span → ℕ → View → Type 0
Covers root halves sp page v = (d key : ℕ) (f : Found) → IsStoredBelow d v.pages sp page key (Some f)
    → sp.low ≤ key → key ≤ sp.high → HasKeyIn v (all_slots root halves) (record { storage = sp.storage; key = key })

-- the chain is kept for what is below that page
abbrev pub KeepsUncovered : Root → Span → ℕ → Kept → View → View → Type 0
KeepsUncovered root sp page k v w =
    KeepsChain (λ why word seen. IsCoverCause v.layout.slots root v.pages sp page why word) k v w × (w.reads ≡ v.reads)

-- so it is, or the chain is kept
abbrev pub HasCovered : Root → List Half → List ℕ → Span → ℕ → Result (Unit {0}) Kept → View → View → Type 0
HasCovered root halves headers sp page (Ok u) v w = OnlyChains v w × Covers root halves sp page v × (w.reads ≡ v.reads)
HasCovered root halves headers sp page (Err k) v w = KeepsUncovered root sp page k v w

-- ---- all of it

-- the chain was taken out of memory, or is kept
abbrev pub HasTaken : Root → List Half → List ℕ → Result (Unit {0}) Kept → View → View → Type 0
HasTaken root halves headers (Ok u) v w = HasTakenChain root halves v w × KeepsBeside root halves v w
HasTaken root halves headers (Err k) v w =
    KeepsChain (IsTakeCause v.layout.slots root halves headers v.pages) k v w
    × (TellsPointer (root.target).at root.word k v w × KeepsBeside root halves v w)
