-- What is asked and told of the pages of a chain that are held: a leaf of a tree that was split, and its halves.
use Rattle.std.specs.Prelude.{◌≡◌, ◌≢◌, ◌⊎◌, ℕ, ◌+◌, ◌^◌, ◌<◌, ◌≤◌, true, false, List, [], ◌∷◌, ◌++◌, length}
use Rattle.std.specs.Prelude.{◌-◌, ◌==◌, reverse, slice_get, if◌then◌else◌, Some, Contains, Result, Ok, Err, ⊤}
use Rattle.lists.specs.Fronts.{IsFront}
use Rattle.homes.specs.declared.places.Span.{Span}
use Rattle.commit_core.specs.declared.seat.Stage.TheVariants.{Idle}
use Rattle.drop_core.specs.Table.{has_slot}
use Rattle.engine_pages.specs.declared.view.Inner.{Inner}
use Rattle.engine_pages.specs.declared.view.KeptPage.{KeptPage}
use Rattle.engine_pages.specs.declared.view.KeptWhy.{KeptWhy}
use Rattle.engine_pages.specs.declared.view.KeptWhy.TheVariants.{Changed}
use Rattle.engine_pages.specs.declared.view.Known.{Known}
use Rattle.engine_pages.specs.declared.view.Lead.{Lead}
use Rattle.engine_pages.specs.declared.view.Moved.{Moved}
use Rattle.engine_pages.specs.declared.view.Role.TheVariants.{Keeper}
use Rattle.engine_pages.specs.declared.view.Touch.{Touch}
use Rattle.engine_pages.specs.declared.view.Version.{Version}
use Rattle.engine_pages.specs.declared.view.View.{View}
use Rattle.engine_pages.specs.declared.view.Way.{Way}
use Rattle.engine_pages.specs.Layout.{page_at}
use Rattle.engine_pages.specs.Pages.{is_tree}
use Rattle.engine_pages.specs.Steps.{glance, seen_at}
use Rattle.tree_heads.specs.Headers.{count_of, kind_of, moved_bit, moved_locked, HasTwinWays, IsTreeAt, MetAgain}
use Rattle.chain_steps.specs.declared.halves.Half.{Half}
use Rattle.chain_steps.specs.Swings.{slots_of}
use Rattle.page_drops.specs.declared.noting.Kept.{Kept}
use Rattle.page_drops.specs.Calls.{slots_on, IsElsewhere, IsNoteOf}
use Rattle.page_drops.specs.Works.{read_of, HasGlanced, IsNoted}
use Rattle.tree_drops.specs.declared.chains.Split.{Split}
use Rattle.tree_drops.specs.Leaves.{KnowsKeys}
use Rattle.tree_drops.specs.Visits.{IsHeaderCause, IsNarrower, IsPartedOut}

-- ---- what changes

-- The pass went on with a chain: it has what it had, but for what it saw, holds, knows and locked, and pages noted as kept.
abbrev pub Chaining : View → View → Type 0
Chaining v w = w ≡ record v {
  steps = w.steps;
  last = w.last;
  reads = w.reads;
  grip = record v.grip { holds = w.grip.holds };
  ways = w.ways;
  seat = record v.seat { locks = w.seat.locks };
  took = w.took;
  touched = w.touched;
  loaded = w.loaded;
  known = w.known;
  moved = w.moved;
  inners = w.inners;
  heads = w.heads;
  sealed = w.sealed;
  versions = w.versions;
  leads = w.leads;
  kept = w.kept;
}

-- What it knew and held it knows and holds still, and what it locked more is the maintenance thread's.
pub record ChainsOn (v w : View) : Type 0 where
  pub chains : Chaining v w
  pub later : v.steps ≤ w.steps
  pub ways : (x : Way) → Contains v.ways x → Contains w.ways x
  pub known : (x : Known) → Contains v.known x → Contains w.known x
  pub moved : (x : Moved) → Contains v.moved x → Contains w.moved x
  pub inners : (x : Inner) → Contains v.inners x → Contains w.inners x
  pub versions : (x : Version) → Contains v.versions x → Contains w.versions x
  pub leads : (x : Lead) → Contains v.leads x → Contains w.leads x
  pub touched : (z : Touch) → Contains w.touched z → Contains v.touched z ⊎ (z.seat ≡ 0)

-- so it did, and has the locks that it had
pub record ChainLooks (v w : View) : Type 0 where
  pub on : ChainsOn v w
  pub locks : w.seat.locks ≡ v.seat.locks
  pub took : w.took ≡ v.took
  pub heads : w.heads ≡ v.heads
  pub sealed : w.sealed ≡ v.sealed

-- it holds the same pages
pub record HoldsSame (v w : View) : Type 0 where
  pub grip : w.grip ≡ v.grip
  pub ways : w.ways ≡ v.ways

-- The pass looked at pages that it holds, and noted nothing.
pub record OnlyChains (v w : View) : Type 0 where
  pub looks : ChainLooks v w
  pub holds : HoldsSame v w
  pub kept : w.kept ≡ v.kept

-- The pass noted that it keeps pages, and why.
pub record NotedFor (cause : KeptWhy → ℕ → ℕ → Type 0) (k : Kept) (v w : View) : Type 0 where
  pub page : KeptPage
  pub is : w.kept ≡ v.kept ++ page ∷ []
  pub told : IsNoteOf k page
  pub so : cause k.why k.word k.seen

-- so it did, and has the locks that it had, and holds what it held
pub record KeepsChain (cause : KeptWhy → ℕ → ℕ → Type 0) (k : Kept) (v w : View) : Type 0 where
  pub looks : ChainLooks v w
  pub holds : HoldsSame v w
  pub kept : NotedFor cause k v w

-- ---- the pages that are held

-- the keys of a half of a chain over these keys
abbrev pub span_in : Span → Half → Span
span_in whole h = record { storage = whole.storage; low = h.low; high = h.high }

-- the way into it
abbrev pub way_in : Span → Half → Way
way_in whole h = record { slot = h.slot; span = span_in whole h }

-- the first page of a chain, as a page like the others
abbrev pub first_page : ℕ → Span → Half
first_page t sp = record { slot = t; low = sp.low; high = sp.high }

-- the pages of a chain: its halves, and the first page last
abbrev pub pages_of : ℕ → Span → List Half → List Half
pages_of t sp halves = halves ++ first_page t sp ∷ []

-- each slot is in none of these, nor in one before it
abbrev pub AreFresh : List ℕ → List ℕ → Type 0
AreFresh holds [] = ⊤
AreFresh holds (u ∷ slots) = (has_slot holds u ≡ false) × AreFresh (u ∷ holds) slots

-- each held slot has a way
abbrev pub HeldHaveWays : View → Type 0
HeldHaveWays v = (u : ℕ) → has_slot v.grip.holds u ≡ true → has_slot (slots_on v.ways) u ≡ true

-- a span is round another one, or has no key of it
abbrev pub IsBeside : Span → Span → Type 0
IsBeside wide sp = IsNarrower wide sp ⊎ ((wide.high < sp.low) ⊎ (sp.high < wide.low))

-- The half came of a leaf that the pass knows to have been split: the first page, or one of the halves.
pub record CameOf (t : ℕ) (halves : List Half) (h : Half) (split : ℕ) (v : View) : Type 0 where
  pub moved : Moved
  pub has : Contains v.moved moved
  pub slot : moved.slot ≡ split
  pub leads : (h.slot ≡ moved.minor) ⊎ (h.slot ≡ moved.major)

-- the first page, or a half before the one with this index
abbrev pub IsEarlier : ℕ → List Half → ℕ → ℕ → Type 0
IsEarlier t halves j split = (split ≡ t) ⊎ ((i : ℕ) × (g : Half) × (i < j) × (slice_get halves i ≡ Some g) × (g.slot ≡ split))

-- Since the view before, in which the pass held the first page of a chain in this slot, over these keys, it entered these
-- halves, each of which came of the leaf in the slot beside it.
pub record AreHeld (t : ℕ) (sp : Span) (halves : List Half) (splits : List ℕ) (a v : View) : Type 0 where
  pub looks : ChainLooks a v
  pub holds : v.grip.holds ≡ reverse (slots_of halves) ++ a.grip.holds
  pub fresh : AreFresh a.grip.holds (slots_of halves)
  pub added : List Way
  pub ways : v.ways ≡ added ++ a.ways
  pub ours : (x : Way) → Contains added x → has_slot (slots_of halves) x.slot ≡ true
  pub inside : (h : Half) → Contains halves h → (sp.low ≤ h.low) × (h.high ≤ sp.high) × (h.slot < v.layout.slots)
      × (h.low ≤ h.high)
  pub paired : length splits ≡ length halves
  pub came : (j : ℕ) (h : Half) (u : ℕ) → slice_get halves j ≡ Some h → slice_get splits j ≡ Some u
      → IsEarlier t halves j u × CameOf t halves h u v
  pub reads : (word : ℕ) → IsElsewhere v.layout.slots (t ∷ slots_of halves) word
      → read_of v.reads word ≡ read_of a.reads word

-- the page with this index was looked at, and is no split leaf, or wasn't looked at yet
abbrev pub IsUnsplit : List ℕ → ℕ → Type 0
IsUnsplit headers i = (n : ℕ) → slice_get headers i ≡ Some n → n < moved_bit

-- the header of a full leaf that was split, which nobody has locked
abbrev pub split_header : ℕ
split_header = 2 ^ 62 + 2 ^ 8 + 16

-- What the pass found in a page: an open leaf, with its keys; or a split leaf, both halves of which it holds.
pub record IsFoundSo (t : ℕ) (sp : Span) (halves : List Half) (h : Half) (n : ℕ) (v : View) : Type 0 where
  pub kind : kind_of n ≡ 1
  pub keys : KnowsKeys h.slot (span_in sp h) (count_of n) v
  pub seen : seen_at v.reads (page_at v.layout.slots h.slot 0) ≡ Some n
  pub leaf : n < moved_bit → n < 2 ^ 60
  pub split : moved_bit ≤ n → (n ≡ split_header) × ((x : Moved) × Contains v.moved x × (x.slot ≡ h.slot)
      × (has_slot (slots_of halves) x.minor ≡ true) × (has_slot (slots_of halves) x.major ≡ true))

-- The first pages of the chain, so many, were looked at, with these headers.
pub record AreFound (t : ℕ) (sp : Span) (halves : List Half) (splits headers : List ℕ) (v : View) : Type 0 where
  pub most : length headers ≤ length halves
  pub way : (h : Half) → Contains halves h → Contains v.ways (way_in sp h)
  pub held : HeldHaveWays v
  pub first : IsFoundSo t sp halves (first_page t sp) split_header v
  pub each : (i : ℕ) (h : Half) (n : ℕ) → slice_get halves i ≡ Some h → slice_get headers i ≡ Some n
      → IsFoundSo t sp halves h n v
  pub parts : (i : ℕ) (h : Half) → slice_get halves i ≡ Some h → IsUnsplit headers i → (x : Way) → Contains v.ways x
      → (x ≡ way_in sp h) ⊎ IsBeside x.span (span_in sp h)
  pub whole : (i : ℕ) (h : Half) → slice_get halves i ≡ Some h → IsUnsplit headers i → (j u : ℕ) → slice_get splits j ≡ Some u
      → u ≡ h.slot → ⊥
  pub halved : (i : ℕ) (h : Half) (n : ℕ) → slice_get halves i ≡ Some h → slice_get headers i ≡ Some n → moved_bit ≤ n
      → (j : ℕ) × (slice_get splits j ≡ Some h.slot)
  pub top : (j : ℕ) × (slice_get splits j ≡ Some t)

-- ---- parts of it

-- the separator of a split leaf over these keys is one of them, but the first
pub record IsSplitAt (t : ℕ) (sp : Span) (header : ℕ) (split : Split) (v : View) : Type 0 where
  pub slot : split.slot ≡ t
  pub span : split.span ≡ sp
  pub full : header ≡ split_header
  pub separator : (x : Moved) → Contains v.moved x → x.slot ≡ t → split.separator ≡ x.separator
  pub low : sp.low < split.separator
  pub high : split.separator ≤ sp.high

-- The pass holds a leaf that it knows to have been split by its header, which it saw last, and has locked nothing.
pub record CanPart (t : ℕ) (sp : Span) (header : ℕ) (v : View) : Type 0 where
  pub keeper : v.role ≡ Keeper
  pub slot : t < v.layout.slots
  pub moved : Moved
  pub has : Contains v.moved moved
  pub same : moved.slot ≡ t
  pub split : moved_bit ≤ header
  pub last : (step : ℕ) × (v.last ≡ Some (glance step (page_at v.layout.slots t 0) header))

-- it knows how the leaf is parted, or noted that it is kept for the header or for the word that parts it
abbrev pub HasParted : ℕ → Span → ℕ → Result Split Kept → View → View → Type 0
HasParted t sp header (Ok split) v w = HasGlanced v w × IsSplitAt t sp header split v
HasParted t sp header (Err k) v w = (w.reads ≡ v.reads)
    × KeepsChain (λ why word seen. IsHeaderCause v.layout.slots t why word seen
    ⊎ IsPartedOut v.layout.slots t sp why word seen) k v w

-- Its header was loaded again, and is another one: it is noted that the chain is kept for that.
pub record HasMetOther (split : Split) (k : Kept) (v w : View) : Type 0 where
  pub found : ℕ
  pub over : View
  pub other : found ≢ split_header
  pub again : MetAgain split.slot split.span (page_at v.layout.slots split.slot 0) v found over
  pub is : k ≡ record { word = page_at v.layout.slots split.slot 0; seen = found; why = Changed split_header }
  pub notes : IsNoted k over w

-- It is as it was, and leads to the halves; or it is another one.
abbrev pub HasMet : Split → Result (Unit {0}) Kept → View → View → Type 0
HasMet split (Ok u) v w = HasTwinWays split.slot split.span (page_at v.layout.slots split.slot 0) v split_header w
HasMet split (Err k) v w = HasMetOther split k v w

-- The pass holds a leaf over these keys that it knows to have been split there, and each slot that it holds has a way,
-- which isn't over a part of the leaf's keys.
pub record CanEnter (split : Split) (v : View) : Type 0 where
  pub keeper : v.role ≡ Keeper
  pub slot : split.slot < v.layout.slots
  pub page : IsTreeAt v split.slot split.span
  pub moved : Moved
  pub has : Contains v.moved moved
  pub same : moved.slot ≡ split.slot
  pub minor : moved.minor < v.layout.slots
  pub major : moved.major < v.layout.slots
  pub separator : moved.separator ≡ split.separator
  pub low : (split.span).low < split.separator
  pub high : split.separator ≤ (split.span).high
  pub seen : seen_at v.reads (page_at v.layout.slots split.slot 0) ≡ Some split_header
  pub held : HeldHaveWays v
  pub parts : (x : Way) → Contains v.ways x
      → (x ≡ record { slot = split.slot; span = split.span }) ⊎ IsBeside x.span split.span

-- the upper half: from the separator on
abbrev pub upper_of : Moved → Split → Half
upper_of x split = record { slot = x.major; low = split.separator; high = (split.span).high }

-- the lower half: what lies below the separator
abbrev pub lower_of : Moved → Split → Half
lower_of x split = record { slot = x.minor; low = (split.span).low; high = split.separator - 1 }

-- the half of that leaf whose slot stands in this word: 4 for the upper one, or else the lower one
abbrev pub half_at : Moved → Split → ℕ → Half
half_at x split word = if word == 4 then upper_of x split else lower_of x split

-- the pass learned which half that is
abbrev pub HasWordOf : Split → ℕ → View → Half → View → Type 0
HasWordOf split word v half w = HasGlanced v w
    × ((x : Moved) → Contains v.moved x → x.slot ≡ split.slot → half ≡ half_at x split word)

-- The pass entered some of the halves of a leaf that was split, and put them behind those that it held of the chain.
pub record HasEntered (split : Split) (old new more : List Half) (v w : View) : Type 0 where
  pub is : new ≡ old ++ more
  pub few : length more ≤ 2
  pub looks : ChainLooks v w
  pub holds : w.grip.holds ≡ reverse (slots_of more) ++ v.grip.holds
  pub fresh : AreFresh v.grip.holds (slots_of more)
  pub added : List Way
  pub ways : w.ways ≡ added ++ v.ways
  pub ours : (x : Way) → Contains added x → has_slot (slots_of more) x.slot ≡ true
  pub came : (h : Half) → Contains more h → ((x : Moved) × Contains w.moved x × (x.slot ≡ split.slot)
      × ((h.slot ≡ x.minor) ⊎ (h.slot ≡ x.major)))
  pub inside : (h : Half) → Contains more h → ((split.span).low ≤ h.low) × (h.high ≤ (split.span).high)
      × (h.slot < v.layout.slots) × (h.low ≤ h.high)
  pub reads : (word : ℕ) → IsElsewhere v.layout.slots (split.slot ∷ []) word → read_of w.reads word ≡ read_of v.reads word

-- It entered both, and knows the ways into them.
pub record HasBoth (split : Split) (old new : List Half) (v w : View) : Type 0 where
  pub moved : Moved
  pub has : Contains v.moved moved
  pub same : moved.slot ≡ split.slot
  pub entered : HasEntered split old new (upper_of moved split ∷ lower_of moved split ∷ []) v w
  pub minor : Contains w.ways (way_in split.span (lower_of moved split))
  pub major : Contains w.ways (way_in split.span (upper_of moved split))
  pub only : (x : Way) → Contains w.ways x → Contains v.ways x
      ⊎ ((x ≡ way_in split.span (lower_of moved split)) ⊎ (x ≡ way_in split.span (upper_of moved split)))
  pub held : HeldHaveWays w
  pub kept : w.kept ≡ v.kept
  pub seen : seen_at w.reads (page_at v.layout.slots split.slot 0) ≡ Some split_header

-- so it did, or found the header changed, or locked, meanwhile
abbrev pub HasEnteredSo : Split → List Half → List Half → Result (Unit {0}) Kept → View → View → Type 0
HasEnteredSo split old new (Ok u) v w = HasBoth split old new v w
HasEnteredSo split old new (Err k) v w = ((more : List Half) × HasEntered split old new more v w)
    × NotedFor (IsHeaderCause v.layout.slots split.slot) k v w

-- ---- one page more

-- why the pages of a chain aren't all held: a page's header, or a word that parts keys
abbrev pub IsHoldCause : ℕ → ℕ → Span → List Half → KeptWhy → ℕ → ℕ → Type 0
IsHoldCause slots t sp halves why word seen = (h : Half) × Contains (pages_of t sp halves) h
    × (IsHeaderCause slots h.slot why word seen ⊎ IsPartedOut slots h.slot (span_in sp h) why word seen)

-- what the chain is behind a look at the page with the next index: its halves are held, too, if it was split
abbrev pub HasLooked : ℕ → Span → List ℕ → List Half → List Half → Result ℕ Kept → View → View → View → Type 0
HasLooked t sp headers old new (Ok n) a v w = (splits : List ℕ) × AreHeld t sp new splits a w
    × (AreFound t sp new splits (headers ++ n ∷ []) w × IsFront old new × (w.kept ≡ v.kept))
HasLooked t sp headers old new (Err k) a v w = (splits : List ℕ) × AreHeld t sp new splits a w
    × NotedFor (IsHoldCause v.layout.slots t sp new) k v w

-- the pass has locked no record and no header, and shut no pointer
pub record HasNoLocks (v : View) : Type 0 where
  pub took : v.took ≡ []
  pub heads : v.heads ≡ []
  pub sealed : v.sealed ≡ []
  pub shuts : v.shuts ≡ []

-- The pass holds pages of a chain, the first of which were looked at, and this is the next one.
pub record CanLook (t : ℕ) (sp : Span) (halves : List Half) (splits headers : List ℕ) (h : Half) (a v : View) : Type 0 where
  pub keeper : v.role ≡ Keeper
  pub first : t < v.layout.slots
  pub way : Contains v.ways (record { slot = t; span = sp })
  pub tree : is_tree v.layout.decls sp.storage ≡ true
  pub held : AreHeld t sp halves splits a v
  pub found : AreFound t sp halves splits headers v
  pub next : slice_get halves (length headers) ≡ Some h
  pub own : has_slot a.grip.holds t ≡ true
  pub bare : HasNoLocks v

-- ---- all of it

-- The pass may enter the halves of a leaf in the slot over these keys, which it holds, has nothing else, and knows to have
-- been split by the word of its header, which it saw last.
pub record CanGather (t : ℕ) (sp : Span) (header : ℕ) (v : View) : Type 0 where
  pub keeper : v.role ≡ Keeper
  pub idle : v.seat.stage ≡ Idle
  pub slot : t < v.layout.slots
  pub own : has_slot v.grip.holds t ≡ true
  pub page : IsTreeAt v t sp
  pub moved : Moved
  pub has : Contains v.moved moved
  pub same : moved.slot ≡ t
  pub minor : header < moved_locked → moved.minor < v.layout.slots
  pub major : header < moved_locked → moved.major < v.layout.slots
  pub split : moved_bit ≤ header
  pub kind : kind_of header ≡ 1
  pub keys : KnowsKeys t sp (count_of header) v
  pub seen : seen_at v.reads (page_at v.layout.slots t 0) ≡ Some header
  pub held : HeldHaveWays v
  pub parts : (x : Way) → Contains v.ways x → (x ≡ record { slot = t; span = sp }) ⊎ IsBeside x.span sp
  pub last : (step : ℕ) × (v.last ≡ Some (glance step (page_at v.layout.slots t 0) header))
  pub bare : HasNoLocks v

-- All pages of the chain are held, or so many that it is too long; or it is noted that the chain is kept.
abbrev pub HasGathered : ℕ → Span → List Half → List ℕ → Result (Unit {0}) Kept → View → View → Type 0
HasGathered t sp halves headers (Ok u) v w = (splits : List ℕ) × AreHeld t sp halves splits v w
    × (AreFound t sp halves splits headers w × ((length headers ≡ length halves) ⊎ (63 ≤ length halves))
    × (2 ≤ length halves) × (w.kept ≡ v.kept))
HasGathered t sp halves headers (Err k) v w = (splits : List ℕ) × AreHeld t sp halves splits v w
    × NotedFor (IsHoldCause v.layout.slots t sp halves) k v w

-- The pages of the chain that are held so far, the first of which were looked at; no page was noted as kept.
pub record GatheringSo (t : ℕ) (sp : Span) (halves : List Half) (headers : List ℕ) (v w : View) : Type 0 where
  pub splits : List ℕ
  pub held : AreHeld t sp halves splits v w
  pub found : AreFound t sp halves splits headers w
  pub two : 2 ≤ length halves
  pub kept : w.kept ≡ v.kept

-- one page more was looked at, or it is noted that the chain is kept for it
abbrev pub HasGatheredNext : ℕ → Span → List Half → List ℕ → Result (Unit {0}) Kept → View → View → Type 0
HasGatheredNext t sp halves headers (Ok u) v w = GatheringSo t sp halves headers v w
HasGatheredNext t sp halves headers (Err k) v w = HasGathered t sp halves headers (Err k) v w
