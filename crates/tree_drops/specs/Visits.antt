-- What a call tells that goes over the pages of a tree: each pointer that it met, once, with what was met below it.
use Rattle.std.specs.Prelude.{◌≡◌, ◌≢◌, ◌⊎◌, ℕ, zero, suc, ◌+◌, ◌/◌, ◌%◌, ◌^◌, ◌<◌, ◌≤◌, List, [], ◌++◌, length, reverse, get_or}
use Rattle.std.specs.Prelude.{false, true, slice_get, Option, Some, None, Contains, ⊤}
use Rattle.lists.specs.Fronts.{IsFront}
use Rattle.serial_model.specs.declared.key.Key.{Key}
use Rattle.homes.specs.declared.places.At.{At}
use Rattle.homes.specs.declared.places.Span.{Span}
use Rattle.snapshot_store.specs.declared.place.PagePlace.{PagePlace}
use Rattle.homes.specs.Homes.{in_span}
use Rattle.snapshot_store.specs.Places.{Found, page as page_words}
use Rattle.drop_core.specs.Table.{has_slot}
use Rattle.engine_pages.specs.declared.view.Inner.{Inner}
use Rattle.engine_pages.specs.declared.view.KeptPage.{KeptPage}
use Rattle.engine_pages.specs.declared.view.KeptWhy.{KeptWhy}
use Rattle.engine_pages.specs.declared.view.KeptWhy.TheVariants.{Locked, Unlike, UnlikeAt, Under, Changed, Long}
use Rattle.engine_pages.specs.declared.view.Lead.{Lead}
use Rattle.engine_pages.specs.declared.view.Read.{Read}
use Rattle.engine_pages.specs.declared.view.Swung.{Swung}
use Rattle.engine_pages.specs.declared.view.View.{View}
use Rattle.engine_pages.specs.declared.view.Way.{Way}
use Rattle.engine_pages.specs.Layout.{page_at, words_of}
use Rattle.engine_pages.specs.Pages.{is_tree}
use Rattle.engine_pages.specs.Pointers.{IsPointerAt, half_of}
use Rattle.engine_pages.specs.Resident.{tree_below}
use Rattle.dual_pointer.specs.Copies.{IsLeadOf}
use Rattle.pointer_swings.specs.Children.{keys_of}
use Rattle.chain_steps.specs.Below.{IsStoredIn}
use Rattle.page_drops.specs.declared.calls.Dropped.{Dropped}
use Rattle.page_drops.specs.Calls.{IsBare, IsFirst, KeepsOtherReads}
use Rattle.page_drops.specs.Visits.{LeadsSo, dropped_here, note_here, slot_here, swing_here, times}
use Rattle.page_drops.specs.Works.{read_of, IsOutside, SawMore}
use Rattle.tree_drops.specs.Branches.{IsBranchCause, IsParted}
use Rattle.tree_drops.specs.Leaves.{IsLeafCause, IsRecordCause}

-- ---- what was met

-- A pointer that was met: where its word stands, its keys, the newest snapshot's page for them or 0, the slot that it
-- led to if it did, and the note of why the page was kept, if it was. So is a half of a leaf that was split, in this slot
-- then, by the pointer that leads to the first page of its chain, and with the snapshot's page for the keys of that.
pub record MetPage : Type 0 where
  pub at : ℕ
  pub span : Span
  pub page : ℕ
  pub slot : Option ℕ
  pub half : Option ℕ
  pub kept : Option KeptPage

-- What was met at pointers in a row: at the first one, with what was met below the page that it led to, and at those
-- after it. Below the first page of a chain are all its halves, in the order in which they were entered.
pub data MetPages : Type 0 where
  NoPages : MetPages
  PageThen : MetPage → MetPages → MetPages → MetPages

-- how many there are in the row
abbrev pub row_length : MetPages → ℕ
row_length NoPages = 0
row_length (PageThen m below more) = suc (row_length more)

-- the one with this index, with what was met below it
abbrev pub met_at : ℕ → MetPages → Option (MetPage × MetPages)
met_at j NoPages = None
met_at zero (PageThen m below more) = Some (m, below)
met_at (suc j) (PageThen m below more) = met_at j more

-- how many pages were dropped
abbrev pub dropped_in : MetPages → ℕ
dropped_in NoPages = 0
dropped_in (PageThen m below more) = (dropped_in below + dropped_here m.slot m.kept) + dropped_in more

-- the notes of those that were kept, in the order in which they were left: those below a page before it
abbrev pub notes_in : MetPages → List KeptPage
notes_in NoPages = []
notes_in (PageThen m below more) = (notes_in below ++ note_here m.kept) ++ notes_in more

-- the slots that were left
abbrev pub slots_in : MetPages → List ℕ
slots_in NoPages = []
slots_in (PageThen m below more) = (slots_in below ++ slot_here m.slot) ++ slots_in more

-- the pointers that were swung away from the slots of pages that were dropped
abbrev pub swings_in : MetPages → List Swung
swings_in NoPages = []
swings_in (PageThen m below more) = (swings_in below ++ swing_here m.at m.slot m.kept) ++ swings_in more

-- ---- how a pointer was seen

-- The pointer of a page that was kept leads to the slot, with the newest snapshot's page, if there is one; only where the
-- page was kept since the pointer had changed, it is what it was found to be, and it led to the slot before.
abbrev pub IsKeptSight : KeptPage → ℕ → ℕ → ℕ → Read → Type 0
IsKeptSight k at t page r = LeadsSo t page r.seen ⊎ ((k.word ≡ at) × ((expected : ℕ) × (k.why ≡ Changed expected)
    × (half_of expected ≡ Some t) × (r.seen ≢ expected) × (r.was ≡ Some expected)))

-- The same of any pointer: open, without a slot, where it led to none; shut, where it was kept for that; the newest
-- snapshot's page alone where the page was dropped, and it led to the slot before.
abbrev pub IsSight : Option ℕ → Option KeptPage → ℕ → ℕ → Read → Type 0
IsSight None None at page r = r.seen < 2 ^ 32
IsSight None (Some k) at page r = (k.why ≡ Locked) × (k.word ≡ at) × (k.seen ≡ r.seen) × (2 ^ 60 ≤ r.seen)
IsSight (Some t) None at page r = (r.seen ≡ page) × ((n : ℕ) × (r.was ≡ Some n) × (half_of n ≡ Some t))
IsSight (Some t) (Some k) at page r = IsKeptSight k at t page r

-- the view has the word so, since the call began
pub record IsNoted (w : View) (m : MetPage) : Type 0 where
  pub read : Read
  pub is : read_of w.reads m.at ≡ Some read
  pub sight : IsSight m.slot m.kept m.at m.page read

-- ---- how pointers below a page were seen

-- How a pointer's word was seen before it was shut, or found to be another.
abbrev pub WasSight : Option ℕ → Option KeptPage → ℕ → ℕ → ℕ → Type 0
WasSight None None at page n = n < 2 ^ 32
WasSight None (Some k) at page n = (k.why ≡ Locked) × (k.word ≡ at) × (k.seen ≡ n) × (2 ^ 60 ≤ n)
WasSight (Some t) None at page n = n ≡ page
WasSight (Some t) (Some k) at page n = LeadsSo t page n ⊎ ((k.word ≡ at) × ((expected : ℕ) × (k.why ≡ Changed expected)
    × (half_of expected ≡ Some t) × (n ≢ expected)))

-- it was seen so before
abbrev pub WasSeenSo : MetPage → Read → Type 0
WasSeenSo m r = (n : ℕ) × (r.was ≡ Some n) × WasSight m.slot m.kept m.at m.page n

-- What the view has of the word of a pointer in a page that was kept for this word. Where that word is the pointer's, it
-- tells how it was found, and how it was seen before; of another pointer it tells how it was seen, or that it was shut
-- with the newest snapshot's page, and opened again.
abbrev pub IsSightUnder : KeptPage → MetPage → Read → Type 0
IsSightUnder k m r = (IsSight m.slot m.kept m.at m.page r × (k.word ≢ m.at))
    ⊎ (((k.word ≡ m.at) × (k.seen ≡ r.seen) × WasSeenSo m r)
    ⊎ ((r.seen ≡ m.page) × (r.was ≡ Some (m.page + 2 ^ 60)) × (k.word ≢ m.at)))

-- And of one in a page that was dropped: it was seen so, and found to lead where the newest snapshot's page leads, and
-- was shut.
abbrev pub IsNotedUnder : Option KeptPage → View → MetPage → Type 0
IsNotedUnder None w m = (r : Read) × (read_of w.reads m.at ≡ Some r) × (r.seen ≡ m.page + 2 ^ 60) × WasSeenSo m r
IsNotedUnder (Some k) w m = (r : Read) × (read_of w.reads m.at ≡ Some r) × IsSightUnder k m r

-- Each pointer that was met below the page of this slot is one of its words, and if the slot was left once in the call,
-- the view has it so. The halves of a leaf that was split are below it by no pointer of its page.
abbrev pub AreNotedIn : View → ℕ → Option KeptPage → MetPages → Type 0
AreNotedIn w t kept below = (j : ℕ) (c : MetPage) (under : MetPages) → met_at j below ≡ Some (c, under) → c.half ≡ None
    → ((i : ℕ) × (i < 64) × (c.at ≡ page_at w.layout.slots t i)) × (times t w.gone ≡ 1 → IsNotedUnder kept w c)

-- so they are below each page
abbrev pub AreNoted : View → MetPages → Type 0
AreNoted w NoPages = ⊤
AreNoted w (PageThen m below more) = ((t : ℕ) → m.slot ≡ Some t → AreNotedIn w t m.kept below)
    × (AreNoted w below × AreNoted w more)

-- ---- what pages were

-- the pointer had changed between two sights of it, and its page wasn't gone into
pub record HasTurned (t at : ℕ) (k : KeptPage) : Type 0 where
  pub expected : ℕ
  pub why : k.why ≡ Changed expected
  pub word : k.word ≡ at
  pub led : half_of expected ≡ Some t
  pub other : k.seen ≢ expected

-- Nothing is known of a page that wasn't gone into, since its pointer had changed.
pub record WasTurned (t : ℕ) (m : MetPage) (below : MetPages) : Type 0 where
  pub end : below ≡ NoPages
  pub kept : KeptPage
  pub is : m.kept ≡ Some kept
  pub cause : HasTurned t m.at kept

-- a leaf was kept so, or since the pointer to it, whose word is here, had changed
abbrev pub IsLeafKept : ℕ → ℕ → Span → List (List ℕ) → ℕ → ℕ → ℕ → KeptPage → Type 0
IsLeafKept slots t sp pages page epoch at k =
    IsLeafCause slots t sp pages page epoch k.why k.word k.seen ⊎ HasTurned t at k

-- A leaf: nothing is below it, and if it was kept, for cause.
pub record WasLeaf (slots t epoch : ℕ) (pages : List (List ℕ)) (m : MetPage) (below : MetPages) : Type 0 where
  pub end : below ≡ NoPages
  pub cause : (k : KeptPage) → m.kept ≡ Some k → IsLeafKept slots t m.span pages m.page epoch m.at k

-- an interior page was kept so, or since the pointer to it, whose word is here, had changed
abbrev pub IsBranchKept : ℕ → ℕ → Span → List (List ℕ) → ℕ → ℕ → KeptPage → Type 0
IsBranchKept slots t sp pages page at k =
    IsBranchCause slots t sp pages page k.why k.word k.seen ⊎ HasTurned t at k

-- An interior page whose keys are parted as the newest snapshot's page parts them. Each of its pointers was met, once.
pub record WasBranch (slots t : ℕ) (pages : List (List ℕ)) (m : MetPage) (below : MetPages) : Type 0 where
  pub some : 0 < m.page
  pub all : row_length below ≡ length (tree_below pages m.span m.page)
  pub each : (j : ℕ) (c : MetPage) (under : MetPages) → met_at j below ≡ Some (c, under)
      → (q : PagePlace) × (slice_get (tree_below pages m.span m.page) j ≡ Some q)
      × (c.at ≡ page_at slots t (4 + j)) × (c.span ≡ keys_of m.span q) × (c.page ≡ q.number) × (c.half ≡ None)
  pub cause : (k : KeptPage) → m.kept ≡ Some k → IsBranchKept slots t m.span pages m.page m.at k

-- An interior page where the newest snapshot has none for its keys, or a leaf, or one that parts them otherwise: it was
-- kept for its header or a separator, and not gone into.
pub record WasParted (slots t : ℕ) (pages : List (List ℕ)) (m : MetPage) (below : MetPages) : Type 0 where
  pub end : below ≡ NoPages
  pub kept : KeptPage
  pub is : m.kept ≡ Some kept
  pub cause : IsParted slots t (page_words pages m.page) kept.why kept.word kept.seen

-- ---- chains

-- one of those that were met in these rows
abbrev pub IsAmong : MetPage → MetPages → Type 0
IsAmong c NoPages = ⊥
IsAmong c (PageThen m below more) = (c ≡ m) ⊎ (IsAmong c below ⊎ IsAmong c more)

-- The page of a chain in this slot is over these keys: one of those that were met in these rows.
pub record IsChainPage (met : MetPages) (u : ℕ) (sp : Span) : Type 0 where
  pub page : MetPage
  pub among : IsAmong page met
  pub slot : page.slot ≡ Some u
  pub span : page.span ≡ sp

-- it is none that was split: no half of it was met
pub record IsChainLeaf (met : MetPages) (u : ℕ) (sp : Span) : Type 0 where
  pub page : IsChainPage met u sp
  pub whole : (d : MetPage) → IsAmong d met → d.half ≡ Some u → ⊥

-- The word of the header of a page of a chain was locked, or that of no leaf, or of a split leaf that isn't full or is
-- locked, or had changed since it was seen.
abbrev pub IsHeaderCause : ℕ → ℕ → KeptWhy → ℕ → ℕ → Type 0
IsHeaderCause slots u Locked word seen = (word ≡ page_at slots u 0) × ((seen / 2 ^ 60) % 2 ≡ 1)
IsHeaderCause slots u Unlike word seen = (word ≡ page_at slots u 0)
    × (((seen / 2 ^ 8) % 2 ^ 8 ≢ 1) ⊎ ((2 ^ 62 ≤ seen) × (seen ≢ 2 ^ 62 + 2 ^ 8 + 16)))
IsHeaderCause slots u (UnlikeAt key) word seen = ⊥
IsHeaderCause slots u Under word seen = ⊥
IsHeaderCause slots u (Changed expected) word seen = (word ≡ page_at slots u 0) × (seen ≢ expected)
IsHeaderCause slots u Long word seen = ⊥

-- The word of a split leaf that parts its keys, of which this is the span, was none of them but the first.
abbrev pub IsPartedOut : ℕ → ℕ → Span → KeptWhy → ℕ → ℕ → Type 0
IsPartedOut slots u sp why word seen =
    (why ≡ Unlike) × (word ≡ page_at slots u 5) × ((seen ≤ sp.low) ⊎ (sp.high < seen))

-- The record with this index of a leaf of a chain, whose key this is, is unlike what the snapshot has for that below the
-- page with this number, which stands for the keys of the whole chain.
pub record IsRecordKept (slots u : ℕ) (sp whole : Span) (pages : List (List ℕ)) (page epoch : ℕ) (why : KeptWhy) (word seen : ℕ)
    : Type 0 where
  pub index : ℕ
  pub few : index < 16
  pub key : Key
  pub inside : in_span sp key ≡ true
  pub stored : Option Found
  pub below : IsStoredIn pages whole page key.key stored
  pub cause : IsRecordCause slots u index key stored epoch why word seen

-- The snapshot has a record below that page, of a key that no leaf of the chain has, which is shown by who notes it. The
-- header of the chain's first page was seen.
pub record IsMissing (slots t : ℕ) (whole : Span) (pages : List (List ℕ)) (page : ℕ) (why : KeptWhy) (word : ℕ) : Type 0 where
  pub place : word ≡ page_at slots t 0
  pub key : Key
  pub unlike : why ≡ UnlikeAt key
  pub inside : in_span whole key ≡ true
  pub stored : Found
  pub below : IsStoredIn pages whole page key.key (Some stored)

-- A published page with these words is a leaf with more records than there is room for, or an interior one without a child,
-- or with more than there is room for.
abbrev pub IsMisshapen : List ℕ → Type 0
IsMisshapen words = (((get_or words 0 0 / 2 ^ 8) % 2 ^ 8 ≡ 1) × (16 < get_or words 0 0 % 2 ^ 8))
    ⊎ (((get_or words 0 0 / 2 ^ 8) % 2 ^ 8 ≢ 1) × ((get_or words 0 0 % 2 ^ 8 ≡ 0) ⊎ (30 < get_or words 0 0 % 2 ^ 8)))

-- a page of the snapshot below the chain's is so, and the header of the chain's first page was seen
pub record IsBelowMisshapen (slots t : ℕ) (pages : List (List ℕ)) (why : KeptWhy) (word : ℕ) : Type 0 where
  pub unlike : why ≡ Unlike
  pub place : word ≡ page_at slots t 0
  pub number : ℕ
  pub some : 0 < number
  pub there : number ≤ length pages
  pub shape : IsMisshapen (page_words pages number)

-- The chain has more pages than are taken out of memory at once; the header of its first page was seen.
pub record IsLong (slots t : ℕ) (met : MetPages) (why : KeptWhy) (word seen : ℕ) : Type 0 where
  pub long : why ≡ Long
  pub place : word ≡ page_at slots t 0
  pub moved : 2 ^ 62 ≤ seen
  pub many : 63 < length (slots_in met)

-- Why a chain was kept whose first page is in this slot: it has too many pages, or for one of its pages' headers or a word
-- that parts its keys, or for a record of one of its leaves, or since the snapshot has a record that it hasn't.
abbrev pub IsChainCause : ℕ → ℕ → Span → List (List ℕ) → ℕ → ℕ → MetPages → KeptWhy → ℕ → ℕ → Type 0
IsChainCause slots t whole pages page epoch met why word seen =
    IsLong slots t met why word seen ⊎ (IsMissing slots t whole pages page why word
    ⊎ (IsBelowMisshapen slots t pages why word
    ⊎ (((u : ℕ) × (sp : Span) × IsChainPage met u sp
    × (IsHeaderCause slots u why word seen ⊎ IsPartedOut slots u sp why word seen))
    ⊎ ((u : ℕ) × (sp : Span) × IsChainLeaf met u sp
    × IsRecordKept slots u sp whole pages page epoch why word seen))))

-- a page of a chain that is in this slot is the first one, or was met before the one with this index
abbrev pub IsBefore : ℕ → MetPages → ℕ → ℕ → Type 0
IsBefore t below j u = (u ≡ t) ⊎ ((i : ℕ) × (d : MetPage) × (under : MetPages) × (i < j) × (met_at i below ≡ Some (d, under))
    × (d.slot ≡ Some u))

-- A half of a leaf of the chain that was split; it has a part of the keys of the chain. It was dropped or kept with all of
-- the chain, by the one pointer that leads to that, and for one cause.
pub record IsHalfMet (t : ℕ) (m : MetPage) (below : MetPages) (j : ℕ) (c : MetPage) (under : MetPages) : Type 0 where
  pub end : under ≡ NoPages
  pub at : c.at ≡ m.at
  pub page : c.page ≡ m.page
  pub kept : c.kept ≡ m.kept
  pub slot : ℕ
  pub is : c.slot ≡ Some slot
  pub split : ℕ
  pub half : c.half ≡ Some split
  pub of : IsBefore t below j split
  pub storage : c.span.storage ≡ m.span.storage
  pub from : m.span.low ≤ c.span.low
  pub to : c.span.high ≤ m.span.high

-- A leaf that was split, with all halves below it, one after another: a chain, in as many slots as it has pages. It is
-- dropped whole, by one swing of the pointer, or kept whole.
pub record WasSplit (slots t epoch : ℕ) (pages : List (List ℕ)) (m : MetPage) (below : MetPages) : Type 0 where
  pub once : (u : ℕ) → times u (slots_in (PageThen m below NoPages)) ≤ 1
  pub each : (j : ℕ) (c : MetPage) (under : MetPages) → met_at j below ≡ Some (c, under) → IsHalfMet t m below j c under
  pub halved : m.kept ≡ None → (2 ≤ row_length below) × (row_length below < 63)
  pub cause : (k : KeptPage) → m.kept ≡ Some k
      → IsChainCause slots t m.span pages m.page epoch (PageThen m below NoPages) k.why k.word k.seen ⊎ HasTurned t m.at k

-- A half of a leaf that was split: what became of it is told with the first page of its chain.
pub record WasHalf (m : MetPage) (below : MetPages) : Type 0 where
  pub end : below ≡ NoPages
  pub split : ℕ
  pub of : m.half ≡ Some split

-- ---- all that was met

-- what the page of a slot was that a pointer led to, or a word of a leaf that was split
abbrev pub WasPage : ℕ → ℕ → ℕ → List (List ℕ) → MetPage → MetPages → Type 0
WasPage slots t epoch pages m below = WasTurned t m below ⊎ (WasLeaf slots t epoch pages m below
    ⊎ (WasBranch slots t pages m below ⊎ (WasParted slots t pages m below
    ⊎ (WasSplit slots t epoch pages m below ⊎ WasHalf m below))))

-- What a pointer led to that was met: to no slot, or to that of a page of one of these kinds; it was compared with the
-- newest snapshot's page as that stands among those that are published.
abbrev pub IsMet : ℕ → ℕ → List (List ℕ) → MetPage → MetPages → Type 0
IsMet slots epoch all m below = ((m.slot ≡ None) × (below ≡ NoPages)
    × ((k : KeptPage) → m.kept ≡ Some k → (k.why ≡ Locked) × (k.word ≡ m.at) × (2 ^ 60 ≤ k.seen)))
    ⊎ ((t : ℕ) × (m.slot ≡ Some t) × ((pages : List (List ℕ)) × IsFront pages all × (m.page ≤ length pages)
    × WasPage slots t epoch pages m below))

-- so it is of each, with all below it
abbrev pub AreMet : ℕ → ℕ → List (List ℕ) → MetPages → Type 0
AreMet slots epoch all NoPages = ⊤
AreMet slots epoch all (PageThen m below more) = IsMet slots epoch all m below
    × (AreMet slots epoch all below × AreMet slots epoch all more)

-- ---- a visit of a pointer

-- a span is a part of another one's keys, and not all of them
pub record IsNarrower (wide sp : Span) : Type 0 where
  pub from : wide.low ≤ sp.low
  pub to : sp.high ≤ wide.high
  pub less : (wide.low < sp.low) ⊎ (sp.high < wide.high)

-- The pointer at this place, whose word is here, is over keys of a tree, a part of those of each page on the way; it
-- stands in the page of a slot that the pass holds, or in none. The newest snapshot's page for the keys has this number,
-- or there is none. The epoch is that snapshot's, and over.
pub record CanVisit (x : At) (sp : Span) (at page epoch : ℕ) (v : View) : Type 0 where
  pub bare : IsBare v
  pub unsealed : v.sealed ≡ []
  pub narrow : (way : Way) → Contains v.ways way → IsNarrower way.span sp
  pub place : IsPointerAt v x sp at
  pub inside : at < words_of v.layout
  pub apart : (t : ℕ) → has_slot v.grip.holds t ≡ false → IsOutside v.layout.slots t at
  pub tree : is_tree v.layout.decls sp.storage ≡ true
  pub there : page ≤ length v.pages
  pub room : page ≤ v.layout.resident
  pub lead : 0 < page → IsLeadOf v sp page
  pub past : epoch ≤ v.past

-- the pass went over pages: it has what it had, but for what it saw, and what it noted and left
abbrev pub WentOver : View → View → Type 0
WentOver v w = w ≡ record v {
  steps = w.steps;
  last = w.last;
  reads = w.reads;
  history = w.history;
  decided = w.decided;
  touched = w.touched;
  loaded = w.loaded;
  known = w.known;
  moved = w.moved;
  inners = w.inners;
  versions = w.versions;
  swung = w.swung;
  copies = w.copies;
  blanks = w.blanks;
  new_leaves = w.new_leaves;
  new_inners = w.new_inners;
  pages = w.pages;
  leads = w.leads;
  gone = w.gone;
  kept = w.kept;
}

-- so it did, and what it knew of the snapshot it knows still; what it locked more is the maintenance thread's
pub record GoesOver (v w : View) : Type 0 where
  pub went : WentOver v w
  pub later : v.steps ≤ w.steps
  pub front : IsFront v.pages w.pages
  pub leads : (z : Lead) → Contains v.leads z → Contains w.leads z
  pub more : SawMore v w

-- how many pages of either kind are counted at most: no bound tells how many a tree has
abbrev pub most_counted : ℕ
most_counted = 2 ^ 31

-- a count is this number, or stopped at the most below it
abbrev pub IsCapped : ℕ → ℕ → Type 0
IsCapped exact n = ((exact ≤ most_counted) × (n ≡ exact)) ⊎ ((most_counted ≤ exact) × (n ≡ most_counted))

-- no count is above its most
pub record IsFew (tally : Dropped) : Type 0 where
  pub dropped : tally.dropped ≤ most_counted
  pub kept : tally.kept ≤ most_counted

-- So many pages more were dropped, and these were kept; each count stops at its most.
pub record HasTallied (old : Dropped) (count : ℕ) (notes : List KeptPage) (new : Dropped) : Type 0 where
  pub dropped : IsCapped (old.dropped + count) new.dropped
  pub kept : IsCapped (old.kept + length notes) new.kept
  pub first : IsFirst old.first notes new.first

-- what the pass knew of the interior pages that it held it knows still
abbrev pub KeepsInners : View → View → Type 0
KeepsInners v w = (x : Inner) → Contains v.inners x → has_slot v.grip.holds x.slot ≡ true → Contains w.inners x

-- A visit tells what it met, and the view has each pointer that was swung, with its slot. What was read of words
-- elsewhere is as it was. What the pass knew of the pages on its way it knows still.
pub record HasVisited (sp : Span) (at page epoch : ℕ) (old : Dropped) (v : View) (new : Dropped) (w : View) : Type 0 where
  pub here : MetPage
  pub below : MetPages
  pub place : here.at ≡ at
  pub span : here.span ≡ sp
  pub number : here.page ≡ page
  pub whole : here.half ≡ None
  pub noted : IsNoted w here
  pub met : IsMet w.layout.slots epoch w.pages here below
  pub under : AreMet w.layout.slots epoch w.pages below
  pub notes : AreNoted w (PageThen here below NoPages)
  pub over : GoesOver v w
  pub kept : w.kept ≡ v.kept ++ notes_in (PageThen here below NoPages)
  pub gone : w.gone ≡ reverse (slots_in (PageThen here below NoPages)) ++ v.gone
  pub swung : w.swung ≡ v.swung ++ swings_in (PageThen here below NoPages)
  pub fresh : (t : ℕ) → Contains (slots_in (PageThen here below NoPages)) t → has_slot v.grip.holds t ≡ false
  pub counts : HasTallied old (dropped_in (PageThen here below NoPages)) (notes_in (PageThen here below NoPages)) new
  pub others : KeepsOtherReads (slots_in (PageThen here below NoPages)) at v w
  pub known : KeepsInners v w
