-- What a pass has between two pages, and what a visit of a pointer and a call ask and tell.
use Rattle.std.specs.Prelude.{◌≡◌, ◌≢◌, ℕ, suc, ◌+◌, ◌^◌, ◌<◌, ◌≤◌, true, false, List, [], ◌∷◌, ◌++◌, length, get_or}
use Rattle.std.specs.Prelude.{slice_get}
use Rattle.std.specs.Prelude.{Option, Some, None, Contains, reverse, ⊤}
use Rattle.std.specs.List.{flat_map}
use Rattle.atomic_table.specs.Table.{Step}
use Rattle.lists.specs.Fronts.{IsFront}
use Rattle.serial_model.specs.declared.decl.Decl.{Decl}
use Rattle.serial_model.specs.declared.decl.Decl.TheVariants.{Array, Tree}
use Rattle.serial_model.specs.Decls.{AreDecls}
use Rattle.homes.specs.declared.places.At.{At}
use Rattle.homes.specs.declared.places.Span.{Span}
use Rattle.snapshot_store.specs.ArrayPages.{last_at}
use Rattle.snapshot_store.specs.Places.{page as page_words}
use Rattle.commit_core.specs.declared.seat.Stage.TheVariants.{Idle}
use Rattle.engine_pages.specs.declared.view.Dropped.{Dropped as Counts}
use Rattle.engine_pages.specs.declared.view.KeptPage.{KeptPage}
use Rattle.engine_pages.specs.declared.view.KeptWhy.{KeptWhy}
use Rattle.engine_pages.specs.declared.view.KeptWhy.TheVariants.{Locked, Unlike, UnlikeAt, Under, Changed, Long}
use Rattle.engine_pages.specs.declared.view.Lead.{Lead}
use Rattle.engine_pages.specs.declared.view.Read.{Read}
use Rattle.engine_pages.specs.declared.view.Role.TheVariants.{Keeper}
use Rattle.engine_pages.specs.declared.view.Swung.{Swung}
use Rattle.engine_pages.specs.declared.view.View.{View}
use Rattle.engine_pages.specs.declared.view.Way.{Way}
use Rattle.engine_pages.specs.Layout.{clock_at, page_at, words_of}
use Rattle.engine_pages.specs.Pages.{child_span, is_array, root_span}
use Rattle.engine_pages.specs.Pointers.{IsArrayPointerAt, half_of, page_half}
use Rattle.engine_pages.specs.Steps.{glanced}
use Rattle.drop_core.specs.Table.{has_slot}
use Rattle.dual_pointer.specs.Copies.{IsLeadOf}
use Rattle.page_drops.specs.declared.calls.Dropped.{Dropped}
use Rattle.page_drops.specs.declared.noting.Kept.{Kept}
use Rattle.page_drops.specs.declared.visits.Held.{Held}
use Rattle.page_drops.specs.Inner.{AtInner}
use Rattle.page_drops.specs.Visits.{Met, MetLeaf, MetMiddle, MetTop, MetRoot, LeftAlone, IsLeafTree, IsMiddleTree}
use Rattle.page_drops.specs.Visits.{IsTopTree, IsRootTree}
use Rattle.page_drops.specs.Visits.{IsNotedSo, IsSightBefore}
use Rattle.page_drops.specs.Visits.{dropped_root, notes_root, slots_root, sum_met, swings_root}
use Rattle.page_drops.specs.Works.{read_of, HasKept, IsOutside, SawMore}

-- ---- between two pages

-- the slots of the pages on a way
abbrev pub slots_on : List Way → List ℕ
slots_on [] = []
slots_on (way ∷ path) = way.slot ∷ slots_on path

-- The pass holds the slots on its way down, knows what their pages are over, and has nothing else: no slot that it was
-- given or led something away from, no lock of a record or a header, no shut pointer, and no part of what it saw.
pub record IsBare (v : View) : Type 0 where
  pub keeper : v.role ≡ Keeper
  pub idle : v.seat.stage ≡ Idle
  pub holds : v.grip.holds ≡ slots_on v.ways
  pub made : v.grip.made ≡ []
  pub taken : v.grip.taken ≡ []
  pub locks : v.seat.locks ≡ []
  pub took : v.took ≡ []
  pub parts : v.seat.kept ≡ []
  pub heads : v.heads ≡ []
  pub shuts : v.shuts ≡ []

-- the way is into a page of an array, so many heights above the leaves
pub record IsWayAt (decls : List Decl) (height : ℕ) (way : Way) : Type 0 where
  pub array : is_array decls way.span.storage ≡ true
  pub exact : way.span.high ≡ way.span.low + last_at height

-- the pages on the way down to one so many heights above the leaves, from the last to the root's
abbrev pub IsWayDown : List Decl → ℕ → List Way → Type 0
IsWayDown decls height [] = ⊤
IsWayDown decls height (way ∷ path) = IsWayAt decls (suc height) way × IsWayDown decls (suc height) path

-- ---- a visit of a pointer

-- The pointer at this place, whose word is here, is over the keys of a page of an array so many heights above the
-- leaves; it stands in the page of a slot that the pass holds, or in none. The newest snapshot's page for the keys has
-- this number, or there is none.
pub record CanVisit (height : ℕ) (x : At) (sp : Span) (at page : ℕ) (v : View) : Type 0 where
  pub bare : IsBare v
  pub down : IsWayDown v.layout.decls height v.ways
  pub place : IsArrayPointerAt v x sp at
  pub inside : at < words_of v.layout
  pub apart : (t : ℕ) → has_slot v.grip.holds t ≡ false → IsOutside v.layout.slots t at
  pub array : is_array v.layout.decls sp.storage ≡ true
  pub exact : sp.high ≡ sp.low + last_at height
  pub high : sp.high < 2 ^ 32
  pub there : page ≤ length v.pages
  pub room : page ≤ v.layout.resident
  pub lead : 0 < page → IsLeadOf v sp page

-- the pass went over pages: it has what it had, but for what it saw, and what it noted and left
abbrev pub WentOver : View → View → Type 0
WentOver v w = w ≡ record v {
  steps = w.steps;
  last = w.last;
  reads = w.reads;
  history = w.history;
  decided = w.decided;
  touched = w.touched;
  loaded = w.loaded;
  known = w.known;
  moved = w.moved;
  inners = w.inners;
  swung = w.swung;
  copies = w.copies;
  blanks = w.blanks;
  new_leaves = w.new_leaves;
  new_inners = w.new_inners;
  pages = w.pages;
  leads = w.leads;
  gone = w.gone;
  kept = w.kept;
}

-- so it did, and what it knew and saw it knows still
pub record GoesOver (v w : View) : Type 0 where
  pub went : WentOver v w
  pub later : v.steps ≤ w.steps
  pub front : IsFront v.pages w.pages
  pub leads : (z : Lead) → Contains v.leads z → Contains w.leads z
  pub more : SawMore v w

-- the same, but for the slots that it holds, and its ways
pub record GoesIn (v w : View) : Type 0 where
  pub went : WentOver v (record w { grip = v.grip; ways = v.ways })
  pub later : v.steps ≤ w.steps
  pub front : IsFront v.pages w.pages
  pub leads : (z : Lead) → Contains v.leads z → Contains w.leads z
  pub more : SawMore v w

-- the word stands in none of these slots
abbrev pub IsElsewhere : ℕ → List ℕ → ℕ → Type 0
IsElsewhere slots ts word = (t : ℕ) → Contains ts t → IsOutside slots t word

-- what was read of other words than this is as it was
abbrev pub KeepsAllBut : ℕ → View → View → Type 0
KeepsAllBut at v w = (word : ℕ) → (word ≡ at → ⊥) → read_of w.reads word ≡ read_of v.reads word

-- the same of those that don't stand in pages of these slots
abbrev pub KeepsOtherReads : List ℕ → ℕ → View → View → Type 0
KeepsOtherReads ts at v w = (word : ℕ) → (word ≡ at → ⊥) → IsElsewhere v.layout.slots ts word
    → read_of w.reads word ≡ read_of v.reads word

-- the first of all that were kept: the earlier one, or that of the first note
abbrev pub IsFirst : Option Kept → List KeptPage → Option Kept → Type 0
IsFirst (Some k) notes found = found ≡ Some k
IsFirst None [] found = found ≡ None
IsFirst None (k ∷ more) found = found ≡ Some (record { word = k.word; seen = k.seen; why = k.why })

-- so many pages more were dropped, and these were kept
pub record HasCounted (old : Dropped) (count : ℕ) (notes : List KeptPage) (new : Dropped) : Type 0 where
  pub dropped : new.dropped ≡ old.dropped + count
  pub kept : new.kept ≡ old.kept + length notes
  pub first : IsFirst old.first notes new.first

-- so many pages more are counted, of either kind, and no count comes to its end
abbrev pub HasRoom : ℕ → Dropped → Type 0
HasRoom count tally = (tally.dropped + tally.kept) + count ≤ 2 ^ 31

-- A visit tells what it met, and the view has each pointer that was swung, with its slot. What was read of words
-- elsewhere is as it was.
pub record HasVisited (Node : Type 0) (dropped : Node → ℕ) (notes : Node → List KeptPage) (slots : Node → List ℕ)
    (swings : Node → List Swung) (is : View → Node → Type 0) (at : ℕ) (old : Dropped) (v : View) (new : Dropped)
    (w : View) : Type 0 where
  pub met : Node
  pub tree : is w met
  pub over : GoesOver v w
  pub kept : w.kept ≡ v.kept ++ notes met
  pub gone : w.gone ≡ reverse (slots met) ++ v.gone
  pub swung : w.swung ≡ v.swung ++ swings met
  pub fresh : (t : ℕ) → Contains (slots met) t → has_slot v.grip.holds t ≡ false
  pub counts : HasCounted old (dropped met) (notes met) new
  pub others : KeepsOtherReads (slots met) at v w

-- ---- what the parts of a visit ask and tell

-- so it holds it
pub record HasIn (sp : Span) (at page : ℕ) (held : Held) (v w : View) : Type 0 where
  pub grip : w.grip ≡ record v.grip { holds = held.slot ∷ v.grip.holds }
  pub ways : w.ways ≡ record { slot = held.slot; span = sp } ∷ v.ways
  pub slot : held.slot < v.layout.slots
  pub fresh : has_slot v.grip.holds held.slot ≡ false
  pub led : half_of held.word ≡ Some held.slot
  pub names : 0 < page → page_half held.word ≡ page
  pub read : (r : Read) × (read_of w.reads at ≡ Some r) × (r.seen ≡ held.word)
  pub over : GoesIn v w
  pub kept : w.kept ≡ v.kept
  pub gone : w.gone ≡ v.gone
  pub swung : w.swung ≡ v.swung
  pub others : KeepsAllBut at v w

-- it found the pointer to lead to no slot
pub record HasNone (at : ℕ) (v w : View) : Type 0 where
  pub read : (r : Read) × (read_of w.reads at ≡ Some r) × (r.seen < 2 ^ 32)
  pub over : GoesOver v w
  pub kept : w.kept ≡ v.kept
  pub gone : w.gone ≡ v.gone
  pub swung : w.swung ≡ v.swung
  pub others : KeepsAllBut at v w

-- The pass found the pointer to lead to no slot; or it holds the slot where it leads, by a word which names the newest
-- snapshot's page, and knows what that slot's page is over.
abbrev pub HasHeld : Span → ℕ → ℕ → Option Held → View → View → Type 0
HasHeld sp at page None v w = HasNone at v w
HasHeld sp at page (Some held) v w = HasIn sp at page held v w

-- The pointer was shut, or had changed between two sights of it: it is noted so, and its page not gone into.
abbrev pub IsCauseAbove : ℕ → KeptWhy → ℕ → ℕ → Type 0
IsCauseAbove at Locked word seen = (word ≡ at) × (2 ^ 60 ≤ seen)
IsCauseAbove at Unlike word seen = ⊥
IsCauseAbove at (UnlikeAt key) word seen = ⊥
IsCauseAbove at Under word seen = ⊥
IsCauseAbove at (Changed expected) word seen = (word ≡ at) × (seen ≢ expected)
IsCauseAbove at Long word seen = ⊥

-- and the slot to which it had led was held and left
abbrev pub IsGoneFor : KeptWhy → List ℕ → List ℕ → List ℕ → Type 0
IsGoneFor Locked holds old new = new ≡ old
IsGoneFor Unlike holds old new = new ≡ old
IsGoneFor (UnlikeAt key) holds old new = new ≡ old
IsGoneFor Under holds old new = new ≡ old
IsGoneFor (Changed expected) holds old new =
    (t : ℕ) × (half_of expected ≡ Some t) × (has_slot holds t ≡ false) × (new ≡ t ∷ old)
IsGoneFor Long holds old new = new ≡ old

-- the same, with what the view says of it then: the page's slot was held and left where the pointer had changed
pub record KeepsAbove (at : ℕ) (k : Kept) (v w : View) : Type 0 where
  pub kept : HasKept (IsCauseAbove at) k v w
  pub read : (r : Read) × (read_of w.reads at ≡ Some r) × (r.seen ≡ k.seen) × IsSightBefore k.why r
  pub over : GoesOver v w
  pub gone : IsGoneFor k.why v.grip.holds v.gone w.gone
  pub swung : w.swung ≡ v.swung
  pub others : KeepsAllBut at v w

-- the node of a pointer that is over these keys, with the newest snapshot's page for them, and whose word is here
pub record IsNode (B : Type 0) (stands : View → Met B → Type 0) (sp : Span) (number word : ℕ) (w : View) (m : Met B)
    : Type 0 where
  pub at : m.at ≡ word
  pub span : m.span ≡ sp
  pub page : m.page ≡ number
  pub noted : IsNotedSo w m
  pub tree : stands w m

-- by heights
abbrev pub IsLeafNode : Span → ℕ → ℕ → View → MetLeaf → Type 0
IsLeafNode sp page at w m = IsNode ⊤ IsLeafTree sp page at w m

-- and of a pointer to a page over leaves
abbrev pub IsMiddleNode : Span → ℕ → ℕ → View → MetMiddle → Type 0
IsMiddleNode sp page at w m = IsNode MetLeaf IsMiddleTree sp page at w m

-- and of one to a page over such pages
abbrev pub IsTopNode : Span → ℕ → ℕ → View → MetTop → Type 0
IsTopNode sp page at w m = IsNode MetMiddle IsTopTree sp page at w m

-- The pass holds the slot, whose page is an interior one over these keys, and is to go over its pointers, which are
-- over the keys of pages so many heights above the leaves.
pub record CanVisitBelow (height t : ℕ) (sp : Span) (page : ℕ) (v : View) : Type 0 where
  pub inner : AtInner t sp page v
  pub bare : IsBare v
  pub down : IsWayDown v.layout.decls height v.ways
  pub held : has_slot v.grip.holds t ≡ true
  pub exact : sp.high ≡ sp.low + last_at (suc height)

-- The first pointers of that page, so many, were gone over, each with the page to which the newest snapshot's page
-- leads.
pub record HasVisitedBelow (Node : Type 0) (dropped : Node → ℕ) (notes : Node → List KeptPage)
    (slots : Node → List ℕ) (swings : Node → List Swung) (is : Span → ℕ → ℕ → View → Node → Type 0) (t : ℕ) (sp : Span)
    (page n : ℕ) (old : Dropped) (v : View) (new : Dropped) (w : View) : Type 0 where
  pub met : List Node
  pub long : length met ≡ n
  pub each : (j : ℕ) (m : Node) → slice_get met j ≡ Some m
      → is (child_span sp j) (get_or (page_words w.pages page) j 0) (page_at w.layout.slots t j) w m
  pub over : GoesOver v w
  pub kept : w.kept ≡ v.kept ++ flat_map notes met
  pub gone : w.gone ≡ reverse (flat_map slots met) ++ v.gone
  pub swung : w.swung ≡ v.swung ++ flat_map swings met
  pub fresh : (u : ℕ) → Contains (flat_map slots met) u → has_slot v.grip.holds u ≡ false
  pub counts : HasCounted old (sum_met dropped met) (flat_map notes met) new
  pub others : (word : ℕ) → IsElsewhere v.layout.slots (t ∷ flat_map slots met) word
      → read_of w.reads word ≡ read_of v.reads word

-- the note of a page that was kept so
abbrev pub IsNoteOf : Kept → KeptPage → Type 0
IsNoteOf k note = note ≡ record { step = note.step; word = k.word; seen = k.seen; why = k.why }

-- ---- a call

-- The pass holds nothing; for each storage this is the number of the newest snapshot's page for its root, or 0, and the
-- pass knows that the page stands for it.
pub record CanDropAll (roots : List ℕ) (v : View) : Type 0 where
  pub bare : IsBare v
  pub ways : v.ways ≡ []
  pub declared : AreDecls v.layout.decls
  pub long : length roots ≡ length v.layout.decls
  pub there : (r : ℕ) → r < length roots → get_or roots r 0 ≤ length v.pages
  pub room : (r : ℕ) → r < length roots → get_or roots r 0 ≤ v.layout.resident
  pub leads : (r : ℕ) → r < length roots → 0 < get_or roots r 0
      → IsLeadOf v (root_span v.layout.decls r) (get_or roots r 0)

-- a call begins: what was read, left, kept and swung before, and which headers of split leaves were locked, is let go of
abbrev pub begun : ℕ → View → View
begun n v = record (glanced clock_at n v) { reads = []; gone = []; kept = []; swung = []; sealed = [] }

-- the same of the step
abbrev pub Begins : Step (Unit {0}) → View → ℕ → View → Type 0
Begins s v n w = (s.word ≡ clock_at) × (w ≡ begun n v)

-- its counts are noted
abbrev pub counted : Counts → ℕ → View → View
counted counts n v = record (glanced clock_at n v) { drops = v.drops ++ counts ∷ [] }

-- the same of the step
abbrev pub TellsCounts : Counts → Step (Unit {0}) → View → ℕ → View → Type 0
TellsCounts counts s v n w = (s.word ≡ clock_at) × (w ≡ counted counts n v)

-- of all roots
abbrev pub dropped_all : List MetRoot → ℕ
dropped_all [] = 0
dropped_all (m ∷ more) = dropped_root m + dropped_all more

-- the notes of what was kept, root by root
abbrev pub notes_all : List MetRoot → List KeptPage
notes_all [] = []
notes_all (m ∷ more) = notes_root m ++ notes_all more

-- the slots that were left, root by root
abbrev pub slots_all : List MetRoot → List ℕ
slots_all [] = []
slots_all (m ∷ more) = slots_root m ++ slots_all more

-- the pointers that were swung, root by root
abbrev pub swings_all : List MetRoot → List Swung
swings_all [] = []
swings_all (m ∷ more) = swings_root m ++ swings_all more

-- what was met at the roots of the first storages, so many
pub record HasGoneOver (roots : List ℕ) (n : ℕ) (tally : Dropped) (w : View) : Type 0 where
  pub met : List MetRoot
  pub long : length met ≡ n
  pub trees : (r : ℕ) → r < n → IsRootTree w roots r (get_or met r LeftAlone)
  pub kept : w.kept ≡ notes_all met
  pub gone : w.gone ≡ reverse (slots_all met)
  pub swung : w.swung ≡ swings_all met
  pub counts : HasCounted (record { dropped = 0; kept = 0; first = None }) (dropped_all met) (notes_all met) tally

-- The pass is to go over the storage with this index, of whose root's keys the newest snapshot's page has this number.
pub record CanGoOver (r page : ℕ) (v : View) : Type 0 where
  pub bare : IsBare v
  pub ways : v.ways ≡ []
  pub declared : AreDecls v.layout.decls
  pub there : page ≤ length v.pages
  pub room : page ≤ v.layout.resident
  pub lead : 0 < page → IsLeadOf v (root_span v.layout.decls r) page

-- the storage with this index is an array with this id and of this size, or else a tree
abbrev pub IsRootKind : List Decl → ℕ → Option (ℕ × ℕ) → Type 0
IsRootKind decls r None = (id : ℕ) × (slice_get decls r ≡ Some (Tree id))
IsRootKind decls r (Some x) = slice_get decls r ≡ Some (Array x.0 x.1)

-- the same tree as of roots, where this is the page
abbrev pub IsRootTreeOf : ℕ → ℕ → View → MetRoot → Type 0
IsRootTreeOf page r w m = (roots : List ℕ) → get_or roots r 0 ≡ page → IsRootTree w roots r m

-- Each storage's root was gone over, and the counts are noted; the pass holds nothing, and no key's content changed,
-- which the rule says of each step.
pub record HasDroppedAll (roots : List ℕ) (v : View) (tally : Dropped) (w : View) : Type 0 where
  pub over : HasGoneOver roots (length roots) tally w
  pub is : w ≡ record v {
    steps = w.steps;
    last = w.last;
    reads = w.reads;
    history = w.history;
    decided = w.decided;
    touched = w.touched;
    loaded = w.loaded;
    known = w.known;
    moved = w.moved;
    inners = w.inners;
    swung = w.swung;
    copies = w.copies;
    blanks = w.blanks;
    new_leaves = w.new_leaves;
    new_inners = w.new_inners;
    pages = w.pages;
    leads = w.leads;
    gone = w.gone;
    kept = w.kept;
    sealed = [];
    drops = v.drops ++ record { dropped = tally.dropped; kept = tally.kept } ∷ [];
  }
  pub later : v.steps ≤ w.steps
  pub front : IsFront v.pages w.pages
  pub leads : (z : Lead) → Contains v.leads z → Contains w.leads z
  pub more : SawMore v w
