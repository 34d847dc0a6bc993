-- What the parts of a visit of a tree's pointer leave and tell.
use Rattle.std.specs.Prelude.{◌≡◌, ◌≢◌, ◌⊎◌, ℕ, suc, ◌+◌, ◌<◌, ◌≤◌, List, [], ◌∷◌, ◌++◌, length, reverse, false, true, slice_get}
use Rattle.std.specs.Prelude.{Option, Some, None, Contains, Result, Ok, Err, IfErr, OnOk, ⊤, option_map}
use Rattle.lists.specs.Fronts.{IsFront}
use Rattle.homes.specs.declared.places.At.{At}
use Rattle.homes.specs.declared.places.Span.{Span}
use Rattle.wire_form.specs.Leaves.{tree_fan}
use Rattle.snapshot_store.specs.declared.place.PagePlace.{PagePlace}
use Rattle.snapshot_store.specs.Places.{page as page_words}
use Rattle.drop_core.specs.Table.{has_slot}
use Rattle.engine_pages.specs.declared.view.Inner.{Inner}
use Rattle.engine_pages.specs.declared.view.KeptPage.{KeptPage}
use Rattle.engine_pages.specs.declared.view.KeptWhy.{KeptWhy}
use Rattle.engine_pages.specs.declared.view.Read.{Read}
use Rattle.engine_pages.specs.declared.view.View.{View}
use Rattle.engine_pages.specs.declared.view.Way.{Way}
use Rattle.engine_pages.specs.Layout.{page_at}
use Rattle.engine_pages.specs.Pointers.{page_half}
use Rattle.engine_pages.specs.Resident.{tree_below}
use Rattle.engine_pages.specs.Slots.{left}
use Rattle.dual_pointer.specs.Copies.{IsLeadOf}
use Rattle.pointer_swings.specs.Children.{keys_of}
use Rattle.tree_heads.specs.Headers.{count_of, kind_of}
use Rattle.page_drops.specs.declared.calls.Dropped.{Dropped}
use Rattle.page_drops.specs.declared.noting.Kept.{Kept}
use Rattle.page_drops.specs.declared.visits.Held.{Held}
use Rattle.page_drops.specs.Calls.{HasIn, IsBare, IsElsewhere, IsNoteOf}
use Rattle.page_drops.specs.Visits.{dropped_here, note_here, swing_here}
use Rattle.page_drops.specs.Works.{read_of, HasGlanced, IsOutside, KeepsReads, KeepsReadsBut}
use Rattle.tree_drops.specs.declared.visits.Opened.{Opened}
use Rattle.tree_drops.specs.declared.visits.Target.{Target}
use Rattle.tree_drops.specs.Branches.{AreAlike, AreLeft, AtBranch, IsInnerOf}
use Rattle.tree_drops.specs.Leaves.{AtTree, CanDrop}
use Rattle.tree_drops.specs.Visits.{CanVisit, MetPage, MetPages, AreMet, AreNoted, NoPages, PageThen, GoesOver, HasTallied, IsBranchKept, IsLeafKept}
use Rattle.tree_drops.specs.Visits.{IsNarrower, IsNoted, IsSight, KeepsInners, WasPage, dropped_in, met_at, notes_in, row_length}
use Rattle.tree_drops.specs.Visits.{slots_in, swings_in}

-- a page that was met at a pointer, in the slot to which that led
abbrev pub page_met : ℕ → Span → ℕ → ℕ → Option KeptPage → MetPage
page_met at sp page t note = record { at = at; span = sp; page = page; slot = Some t; half = None; kept = note }

-- ---- what was done between

-- The pass looked at the page of the slot, which it holds.
pub record LooksIn (t : ℕ) (v w : View) : Type 0 where
  pub over : GoesOver v w
  pub kept : w.kept ≡ v.kept
  pub gone : w.gone ≡ v.gone
  pub swung : w.swung ≡ v.swung
  pub reads : KeepsReads t v w
  pub known : KeepsInners v w

-- It went over these pointers of that page, and all below them.
pub record IsRow (t : ℕ) (met : MetPages) (v w : View) : Type 0 where
  pub over : GoesOver v w
  pub kept : w.kept ≡ v.kept ++ notes_in met
  pub gone : w.gone ≡ reverse (slots_in met) ++ v.gone
  pub swung : w.swung ≡ v.swung ++ swings_in met
  pub fresh : (u : ℕ) → Contains (slots_in met) u → has_slot v.grip.holds u ≡ false
  pub others : (word : ℕ) → IsElsewhere v.layout.slots (t ∷ slots_in met) word
      → read_of w.reads word ≡ read_of v.reads word
  pub known : KeepsInners v w

-- It worked on the page, to which the pointer led whose word is here, and dropped it, or kept it and noted that, for such
-- a cause; the pointer was seen so.
pub record HasFinished (cause : KeptPage → Type 0) (t at page : ℕ) (note : Option KeptPage) (v w : View) : Type 0 where
  pub over : GoesOver v w
  pub kept : w.kept ≡ v.kept ++ note_here note
  pub gone : w.gone ≡ v.gone
  pub swung : w.swung ≡ v.swung ++ swing_here at (Some t) note
  pub sight : (r : Read) × (read_of w.reads at ≡ Some r) × IsSight (Some t) note at page r
  pub others : KeepsReadsBut t at v w
  pub known : KeepsInners v w
  pub so : (k : KeptPage) → note ≡ Some k → cause k

-- It noted that it keeps the page, for such a cause.
pub record HasNotedPage (cause : KeptWhy → ℕ → ℕ → Type 0) (t : ℕ) (k : Kept) (v w : View) : Type 0 where
  pub note : KeptPage
  pub told : IsNoteOf k note
  pub over : GoesOver v w
  pub kept : w.kept ≡ v.kept ++ note ∷ []
  pub gone : w.gone ≡ v.gone
  pub swung : w.swung ≡ v.swung
  pub reads : KeepsReads t v w
  pub inners : w.inners ≡ v.inners
  pub so : cause note.why note.word note.seen

-- What a pass works on that holds the slot to which the pointer at this place led, by this word, and has nothing else.
pub record CanWork (x : At) (sp : Span) (at t page word epoch : ℕ) (v : View) : Type 0 where
  pub bare : IsBare v
  pub drop : CanDrop x sp at t page word epoch v
  pub held : has_slot v.grip.holds t ≡ true
  pub names : 0 < page → page_half word ≡ page
  pub read : (r : Read) × (read_of v.reads at ≡ Some r) × (r.seen ≡ word)
  pub narrow : (way : Way) → Contains v.ways way → (way ≡ record { slot = t; span = sp }) ⊎ IsNarrower way.span sp
  pub away : (u : ℕ) → has_slot v.grip.holds u ≡ false → IsOutside v.layout.slots u at
  pub unsealed : v.sealed ≡ []

-- The page of that slot was gone over, with all below it, and the slot is left: it was of one of the kinds.
pub record HasEnded (sp : Span) (at page epoch t : ℕ) (old : Dropped) (v : View) (new : Dropped) (w : View) : Type 0 where
  pub below : MetPages
  pub note : Option KeptPage
  pub over : View
  pub mid : View
  pub row : IsRow t below v over
  pub done : HasFinished (λ k. ⊤) t at page note over mid
  pub leaves : w ≡ left t mid
  pub pages : List (List ℕ)
  pub front : IsFront pages w.pages
  pub there : page ≤ length pages
  pub was : WasPage v.layout.slots t epoch pages (page_met at sp page t note) below
  pub under : AreMet v.layout.slots epoch w.pages below
  pub notes : AreNoted w (PageThen (page_met at sp page t note) below NoPages)
  pub counts : HasTallied old (dropped_in below + dropped_here (Some t) note) (notes_in below ++ note_here note) new

-- A chain was worked on, to whose first page the pointer led, and all its slots are left: it was dropped, or kept, whole.
pub record HasEndedChain (sp : Span) (at page epoch t : ℕ) (old : Dropped) (v : View) (new : Dropped) (w : View) : Type 0 where
  pub below : MetPages
  pub note : Option KeptPage
  pub mid : View
  pub over : GoesOver v mid
  pub kept : mid.kept ≡ v.kept ++ (notes_in below ++ note_here note)
  pub gone : mid.gone ≡ reverse (slots_in below) ++ v.gone
  pub swung : mid.swung ≡ v.swung ++ (swings_in below ++ swing_here at (Some t) note)
  pub sight : (r : Read) × (read_of mid.reads at ≡ Some r) × IsSight (Some t) note at page r
  pub fresh : (u : ℕ) → Contains (slots_in below) u → has_slot v.grip.holds u ≡ false
  pub others : (word : ℕ) → (word ≡ at → ⊥) → IsElsewhere v.layout.slots (t ∷ slots_in below) word
      → read_of mid.reads word ≡ read_of v.reads word
  pub known : KeepsInners v mid
  pub leaves : w ≡ left t mid
  pub pages : List (List ℕ)
  pub front : IsFront pages w.pages
  pub there : page ≤ length pages
  pub was : WasPage v.layout.slots t epoch pages (page_met at sp page t note) below
  pub under : AreMet v.layout.slots epoch w.pages below
  pub notes : AreNoted w (PageThen (page_met at sp page t note) below NoPages)
  pub counts : HasTallied old (dropped_in below + dropped_here (Some t) note) (notes_in below ++ note_here note) new

-- a leaf was worked on: it was dropped, or else kept for this
abbrev pub HasTakenLeaf : Span → ℕ → ℕ → ℕ → ℕ → Result (Unit {0}) Kept → View → View → Type 0
HasTakenLeaf sp at page epoch t (Ok u) v w =
    HasFinished (IsLeafKept v.layout.slots t sp v.pages page epoch at) t at page None v w
HasTakenLeaf sp at page epoch t (Err k) v w = (note : KeptPage) × IsNoteOf k note
    × HasFinished (IsLeafKept v.layout.slots t sp v.pages page epoch at) t at page (Some note) v w

-- A leaf that wasn't split was worked on, and its slot is left.
pub record HasLeftLeaf (sp : Span) (at page epoch t : ℕ) (old : Dropped) (v : View) (new : Dropped) (w : View) : Type 0 where
  pub result : Result (Unit {0}) Kept
  pub mid : View
  pub taken : HasTakenLeaf sp at page epoch t result v mid
  pub leaves : w ≡ left t mid
  pub dropped : OnOk result (HasTallied old 1 [] new)
  pub kept : IfErr result (λ k. (note : KeptPage) → IsNoteOf k note → HasTallied old 0 (note ∷ []) new)

-- so a leaf was worked on, or a chain
abbrev pub HasEndedLeaf : Span → ℕ → ℕ → ℕ → ℕ → Dropped → View → Dropped → View → Type 0
HasEndedLeaf sp at page epoch t old v new w =
    HasLeftLeaf sp at page epoch t old v new w ⊎ HasEndedChain sp at page epoch t old v new w

-- the page of a slot was gone over, or a chain
abbrev pub HasEndedPage : Span → ℕ → ℕ → ℕ → ℕ → Dropped → View → Dropped → View → Type 0
HasEndedPage sp at page epoch t old v new w =
    HasEnded sp at page epoch t old v new w ⊎ HasEndedChain sp at page epoch t old v new w

-- ---- an interior page

-- An interior page of a tree in a slot is gone into: its separators are those of the newest snapshot's page, which has as
-- many children.
pub record IsOpened (t : ℕ) (sp : Span) (page count : ℕ) (w : View) : Type 0 where
  pub at : AtBranch t sp page count w
  pub inner : IsInnerOf page (page_words w.pages page) count
  pub alike : AreAlike (page_words w.pages page) (at.inner).separators 0

-- The pass knows the parts of the interior page in the slot, whose header is this one, and whose keys the snapshot's page,
-- if there is one, stands for.
pub record KnowsParts (sp : Span) (page t header : ℕ) (v : View) : Type 0 where
  pub tree : AtTree t sp page v
  pub inner : Inner
  pub has : Contains v.inners inner
  pub slot : inner.slot ≡ t
  pub long : suc (length inner.separators) ≡ count_of header
  pub few : suc (length inner.separators) ≤ tree_fan
  pub lead : 0 < page → IsLeadOf v sp page
  pub kind : kind_of header ≢ 1

-- it looked, and found as many children in the snapshot's page, and the same separators
pub record HasAlike (sp : Span) (page t count : ℕ) (v w : View) : Type 0 where
  pub glances : HasGlanced v w
  pub some : 0 < page
  pub opened : IsOpened t sp page count w

-- The pass has looked at the page of the slot, which is such a one, to which a pointer led by this word.
pub record HasOpened (sp : Span) (page t word : ℕ) (found : Opened) (v w : View) : Type 0 where
  pub slot : found.slot ≡ t
  pub led : found.word ≡ word
  pub some : 0 < page
  pub looks : LooksIn t v w
  pub opened : IsOpened t sp page found.count w

-- The same since the pointer was looked at: the slot is held since then.
pub record IsInside (sp : Span) (at page : ℕ) (found : Opened) (v w : View) : Type 0 where
  pub held : Held
  pub entered : View
  pub inside : HasIn sp at page held v entered
  pub inners : KeepsInners v entered
  pub opened : HasOpened sp page held.slot held.word found entered w

-- the word for which a page was kept, as it was seen
abbrev pub word_of_note : Option KeptPage → Option (ℕ × ℕ)
word_of_note note = option_map (λ (k : KeptPage). (k.word, k.seen)) note

-- It was dropped, or kept for cause, each of its pointers was left so, and the slot is left.
pub record HasClosed (sp : Span) (at page t count : ℕ) (old : Dropped) (v : View) (new : Dropped) (w : View) : Type 0 where
  pub note : Option KeptPage
  pub mid : View
  pub done : HasFinished (IsBranchKept v.layout.slots t sp v.pages page at) t at page note v mid
  pub lefts : AreLeft (word_of_note note) t sp page count 0 v mid
  pub leaves : w ≡ left t mid
  pub counts : HasTallied old (dropped_here (Some t) note) (note_here note) new

-- The pass holds the slot of such a page, and has nothing else; the page is a part of each on the way to it, and all
-- pages with lower numbers are below it. The epoch is the snapshot's, and over.
pub record CanGoFrom (t : ℕ) (sp : Span) (page count epoch : ℕ) (v : View) : Type 0 where
  pub bare : IsBare v
  pub unsealed : v.sealed ≡ []
  pub opened : IsOpened t sp page count v
  pub narrow : (way : Way) → Contains v.ways way → (way.span ≡ sp) ⊎ IsNarrower way.span sp
  pub held : has_slot v.grip.holds t ≡ true
  pub past : epoch ≤ v.past

-- The pass learned of the pointer with this index over which keys it is, and to which page the newest snapshot's leads
-- there, a lower one than its own.
pub record IsChildTarget (t : ℕ) (sp : Span) (page count j epoch : ℕ) (v : View) (found : Target) (w : View) : Type 0 where
  pub looks : LooksIn t v w
  pub before : (i : ℕ) → i < 64 → read_of w.reads (page_at v.layout.slots t i) ≡ read_of v.reads (page_at v.layout.slots t i)
  pub at : found.at ≡ page_at v.layout.slots t (4 + j)
  pub epoch_is : found.epoch ≡ epoch
  pub child : PagePlace
  pub is : slice_get (tree_below v.pages sp page) j ≡ Some child
  pub many : length (tree_below v.pages sp page) ≡ count
  pub span : found.span ≡ keys_of sp child
  pub number : found.page ≡ child.number
  pub below : found.page < page
  pub can : CanVisit found.place found.span found.at found.page found.epoch w
  pub goes : CanGoFrom t sp page count epoch w

-- The pointers of the page in the slot from this one on were gone over, each once: its keys, and the page to which the
-- newest snapshot's leads there; and it was seen so.
pub record HasGoneFrom (t : ℕ) (sp : Span) (page count epoch n : ℕ) (old : Dropped) (v : View) (new : Dropped) (w : View)
    : Type 0 where
  pub met : MetPages
  pub long : n + row_length met ≡ count
  pub many : n < count → length (tree_below v.pages sp page) ≡ count
  pub each : (j : ℕ) (c : MetPage) (under : MetPages) → met_at j met ≡ Some (c, under)
      → (q : PagePlace) × (slice_get (tree_below v.pages sp page) (n + j) ≡ Some q)
      × (c.at ≡ page_at v.layout.slots t (4 + (n + j))) × (c.span ≡ keys_of sp q) × (c.page ≡ q.number) × (c.half ≡ None)
  pub before : (j : ℕ) → j < n → read_of w.reads (page_at v.layout.slots t (4 + j)) ≡ read_of v.reads (page_at v.layout.slots t (4 + j))
  pub noted : (j : ℕ) (c : MetPage) (under : MetPages) → met_at j met ≡ Some (c, under) → IsNoted w c
  pub are : AreMet v.layout.slots epoch w.pages met
  pub notes : AreNoted w met
  pub row : IsRow t met v w
  pub counts : HasTallied old (dropped_in met) (notes_in met) new
