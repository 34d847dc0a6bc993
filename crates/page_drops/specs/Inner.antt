-- What is shut of an interior page.
use Rattle.std.specs.Prelude.{◌++◌, ◌≡◌, ◌≢◌, ◌⊎◌, ℕ, zero, suc, ◌+◌, ◌^◌, ◌<◌, ◌≤◌, false, true, List, [], ◌∷◌, length}
use Rattle.std.specs.Prelude.{get_or, Option, Some, Contains}
use Rattle.homes.specs.declared.places.At.{At}
use Rattle.homes.specs.declared.places.Span.{Span}
use Rattle.wire_form.specs.Leaves.{array_fan}
use Rattle.snapshot_store.specs.ArrayPages.{last_at}
use Rattle.snapshot_store.specs.Places.{page as page_words}
use Rattle.commit_core.specs.declared.seat.Stage.TheVariants.{Idle}
use Rattle.drop_core.specs.Event.{without}
use Rattle.drop_core.specs.Table.{at_index}
use Rattle.engine_pages.specs.declared.view.KeptWhy.{KeptWhy}
use Rattle.engine_pages.specs.declared.view.KeptWhy.TheVariants.{Locked, Unlike, UnlikeAt, Under, Changed, Long}
use Rattle.engine_pages.specs.declared.view.Lead.{Lead}
use Rattle.engine_pages.specs.declared.view.Read.{Read}
use Rattle.engine_pages.specs.declared.view.Role.TheVariants.{Keeper}
use Rattle.engine_pages.specs.declared.view.Shut.{Shut}
use Rattle.engine_pages.specs.declared.view.View.{View}
use Rattle.engine_pages.specs.Layout.{page_at, words_of}
use Rattle.engine_pages.specs.Pages.{child_span, is_array, is_leaf_span}
use Rattle.engine_pages.specs.Pointers.{IsArrayPointerAt, half_of}
use Rattle.engine_pages.specs.Slots.{other_copies, other_heads, other_inners, other_leaves}
use Rattle.engine_pages.specs.Steps.{seen_at, with_read}
use Rattle.dual_pointer.specs.Copies.{IsLeadOf}
use Rattle.pointer_swings.specs.Shuts.{shut_of}
use Rattle.page_drops.specs.declared.noting.Kept.{Kept}
use Rattle.page_drops.specs.Works.{read_of, HasKept, IsOutside}

-- ---- what is asked

-- The maintenance thread's pass, which has no attempt, holds the slot, whose page is an interior one of an array over
-- these keys; the snapshot page with this number, or none, is one that it knows to stand for them. It has locked no
-- record and no header.
pub record AtInner (t : ℕ) (sp : Span) (page : ℕ) (v : View) : Type 0 where
  pub keeper : v.role ≡ Keeper
  pub idle : v.seat.stage ≡ Idle
  pub way : Contains v.ways (record { slot = t; span = sp })
  pub slot : t < v.layout.slots
  pub array : is_array v.layout.decls sp.storage ≡ true
  pub inner : is_leaf_span sp ≡ false
  pub height : ℕ
  pub exact : sp.high ≡ sp.low + last_at height
  pub high : sp.high < 2 ^ 32
  pub there : page ≤ length v.pages
  pub room : page ≤ v.layout.resident
  pub lead : 0 < page → IsLeadOf v sp page
  pub took : v.took ≡ []
  pub heads : v.heads ≡ []

-- ---- what changes

-- the pass went on: it has what it had, but for pointers that it shut, leads that it found, and pages noted as kept
abbrev pub ShutOn : View → View → Type 0
ShutOn v w = w ≡ record v {
  steps = w.steps;
  last = w.last;
  reads = w.reads;
  leads = w.leads;
  shuts = w.shuts;
  kept = w.kept;
}

-- and no lead was lost
pub record WentOn (v w : View) : Type 0 where
  pub shut : ShutOn v w
  pub later : v.steps ≤ w.steps
  pub leads : (z : Lead) → Contains v.leads z → Contains w.leads z

-- it learned a child's page, and shut nothing
pub record HasChild (sp : Span) (page j : ℕ) (v : View) (n : ℕ) (w : View) : Type 0 where
  pub went : WentOn v w
  pub reads : w.reads ≡ v.reads
  pub shuts : w.shuts ≡ v.shuts
  pub kept : w.kept ≡ v.kept
  pub is : n ≡ get_or (page_words v.pages page) j 0
  pub small : n ≤ 65536
  pub there : n ≤ v.layout.resident
  pub known : n ≤ length v.pages
  pub lead : 0 < n → IsLeadOf w (child_span sp j) n

-- the first pointers of a page, so many, with the words that a snapshot page has there, the last one first
abbrev pub shut_row : ℕ → List ℕ → ℕ → List Shut
shut_row t words zero = []
shut_row t words (suc n) = shut_of (at_index t n) (get_or words n 0) ∷ shut_row t words n

-- the first words of a snapshot page, so many, are numbers of pages
abbrev pub AreFew : List ℕ → ℕ → Type 0
AreFew words n = (j : ℕ) → j < n → get_or words j 0 < 2 ^ 32

-- Why an interior page in a slot was kept that is compared with a snapshot page of these words: a pointer was shut, or
-- led to a slot, or led to no slot and not where the snapshot's leads.
abbrev pub IsInnerCause : ℕ → ℕ → List ℕ → KeptWhy → ℕ → ℕ → Type 0
IsInnerCause slots t words Locked word seen =
    (j : ℕ) × (j < array_fan) × (word ≡ page_at slots t j) × (2 ^ 60 ≤ seen)
IsInnerCause slots t words Unlike word seen =
    (j : ℕ) × (j < array_fan) × (word ≡ page_at slots t j) × (seen < 2 ^ 32) × (seen ≢ get_or words j 0)
IsInnerCause slots t words (UnlikeAt key) word seen = ⊥
IsInnerCause slots t words Under word seen =
    (j : ℕ) × (j < array_fan) × (word ≡ page_at slots t j) × ((u : ℕ) × (half_of seen ≡ Some u))
IsInnerCause slots t words (Changed expected) word seen = ⊥
IsInnerCause slots t words Long word seen = ⊥

-- it noted that it keeps the page, and shut nothing more
pub record KeepsInner (t page : ℕ) (k : Kept) (v w : View) : Type 0 where
  pub went : WentOn v w
  pub shuts : w.shuts ≡ v.shuts
  pub kept : HasKept (IsInnerCause v.layout.slots t (page_words v.pages page)) k v w

-- The same, or the pointer above, whose word is here and was this one as the work began, was found to be another.
abbrev pub IsInnerCauseBelow : ℕ → ℕ → List ℕ → ℕ → ℕ → KeptWhy → ℕ → ℕ → Type 0
IsInnerCauseBelow slots t words at before why word seen =
    IsInnerCause slots t words why word seen ⊎ ((word ≡ at) × (why ≡ Changed before) × (seen ≢ before))

-- it noted that it keeps the page for one of these, and shut nothing more
pub record KeepsInnerBelow (t page at before : ℕ) (k : Kept) (v w : View) : Type 0 where
  pub went : WentOn v w
  pub shuts : w.shuts ≡ v.shuts
  pub kept : HasKept (IsInnerCauseBelow v.layout.slots t (page_words v.pages page) at before) k v w

-- it shut pointers or opened some, and noted nothing
pub record HasTurned (v w : View) : Type 0 where
  pub went : WentOn v w
  pub kept : w.kept ≡ v.kept

-- ---- what was read of its pointers

-- the entry of a word that was shut with a child's page, and what was seen before
abbrev pub IsShutNote : Option ℕ → ℕ → Option Read → Type 0
IsShutNote was child now = (r : Read) × (now ≡ Some r) × (r.seen ≡ child + 2 ^ 60) × (r.was ≡ was)

-- The entry of the word here, of a page that was kept for a word that was seen so. Where that word is this one, its
-- entry has it so still, and tells what was seen before; of another it is as it was, or it was shut with the child's
-- page, and opened again.
abbrev pub IsLaterNote : ℕ → ℕ → ℕ → ℕ → Option ℕ → Option Read → Option Read → Type 0
IsLaterNote word seen at child was before now = ((now ≡ before) × (word ≢ at))
    ⊎ (((r : Read) × (now ≡ Some r) × (word ≡ at) × (r.seen ≡ seen) × (r.was ≡ was))
    ⊎ ((r : Read) × (now ≡ Some r) × (r.seen ≡ child) × (r.was ≡ Some (child + 2 ^ 60)) × (word ≢ at)))

-- so are those of the first pointers of the page in a slot, with the children that a snapshot page has
abbrev pub AreShutNotes : ℕ → ℕ → ℕ → View → View → Type 0
AreShutNotes t page n v w = (j : ℕ) → j < n
    → IsShutNote (seen_at v.reads (page_at v.layout.slots t j)) (get_or (page_words v.pages page) j 0)
    (read_of w.reads (page_at v.layout.slots t j))

-- so are those of all pointers of the page in a slot that is kept
abbrev pub AreLaterNotes : ℕ → ℕ → Kept → View → View → Type 0
AreLaterNotes t page k v w = (j : ℕ) → j < 64
    → IsLaterNote k.word k.seen (page_at v.layout.slots t j) (get_or (page_words v.pages page) j 0)
    (seen_at v.reads (page_at v.layout.slots t j)) (read_of v.reads (page_at v.layout.slots t j))
    (read_of w.reads (page_at v.layout.slots t j))

-- ---- what was read of one of them

-- the pointer's word was left shut, with the child's page
abbrev pub LeftShut : ℕ → ℕ → ℕ → View → View → Type 0
LeftShut t page j v w =
    w.reads ≡ with_read v.reads (page_at v.layout.slots t j) (get_or (page_words v.pages page) j 0 + 2 ^ 60)

-- the page is kept for the pointer's word, which was found to be another
pub record FoundOther (t j : ℕ) (k : Kept) (v w : View) : Type 0 where
  pub word : k.word ≡ page_at v.layout.slots t j
  pub reads : w.reads ≡ with_read v.reads (page_at v.layout.slots t j) k.seen

-- the pointer was opened with the child's page
abbrev pub LeftOpen : ℕ → ℕ → ℕ → View → View → Type 0
LeftOpen t page j v w = w.reads ≡ with_read v.reads (page_at v.layout.slots t j) (get_or (page_words v.pages page) j 0)

-- The pointers from one index up to another were opened, with the children that a snapshot page has; what was read of
-- other words is as it was.
pub record HasReopened (t page m n : ℕ) (v w : View) : Type 0 where
  pub each : (j : ℕ) → m ≤ j → j < n → (r : Read) × (read_of w.reads (page_at v.layout.slots t j) ≡ Some r)
      × (r.seen ≡ get_or (page_words v.pages page) j 0) × (r.was ≡ seen_at v.reads (page_at v.layout.slots t j))
  pub others : (word : ℕ) → ((j : ℕ) → m ≤ j → j < n → word ≡ page_at v.layout.slots t j → ⊥)
      → read_of w.reads word ≡ read_of v.reads word

-- ---- an interior page is taken out of memory

-- The pointer at this place over these keys was last seen or left with this word, which leads to the slot, in whose
-- page it doesn't stand; the pass has locked and shut nothing.
pub record CanDropInner (x : At) (sp : Span) (at t page word : ℕ) (v : View) : Type 0 where
  pub inner : AtInner t sp page v
  pub place : IsArrayPointerAt v x sp at
  pub inside : at < words_of v.layout
  pub leads : half_of word ≡ Some t
  pub met : seen_at v.reads at ≡ Some word
  pub apart : IsOutside v.layout.slots t at
  pub locks : v.seat.locks ≡ []
  pub shuts : v.shuts ≡ []

-- The pointer was left with the number of the snapshot page alone, and the view says what was seen of it before; the
-- slot is given up, and nothing is shut.
pub record HasDroppedInner (t at page : ℕ) (v w : View) : Type 0 where
  pub is : w ≡ record v {
    steps = w.steps;
    last = w.last;
    reads = w.reads;
    leads = w.leads;
    seat = record v.seat { locks = [] };
    took = [];
    loaded = w.loaded;
    grip = record v.grip { made = without v.grip.made t; taken = without (t ∷ v.grip.taken) t };
    copies = other_copies t v.copies;
    blanks = without v.blanks t;
    new_leaves = other_leaves t v.new_leaves;
    new_inners = other_inners t v.new_inners;
    heads = other_heads t v.heads;
    shuts = [];
    swung = v.swung ++ record { word = at; slot = t } ∷ [];
  }
  pub later : v.steps ≤ w.steps
  pub leads : (z : Lead) → Contains v.leads z → Contains w.leads z
  pub led : (r : Read) × (read_of w.reads at ≡ Some r) × (r.seen ≡ page) × (r.was ≡ seen_at v.reads at)
