-- What is compared and shut of an interior page of a tree.
use Rattle.std.specs.Prelude.{◌≡◌, ◌≢◌, ◌⊎◌, ℕ, suc, ◌+◌, ◌/◌, ◌%◌, ◌^◌, ◌<◌, ◌≤◌, List, [], ◌∷◌, ◌++◌, length}
use Rattle.std.specs.Prelude.{get_or, slice_get, Option, Some, None, Contains}
use Rattle.homes.specs.declared.places.At.{At}
use Rattle.homes.specs.declared.places.Span.{Span}
use Rattle.wire_form.specs.Leaves.{tree_fan}
use Rattle.snapshot_store.specs.declared.place.PagePlace.{PagePlace}
use Rattle.snapshot_store.specs.Places.{page as page_words}
use Rattle.drop_core.specs.Event.{without}
use Rattle.drop_core.specs.Table.{at_index}
use Rattle.engine_pages.specs.declared.view.Inner.{Inner}
use Rattle.engine_pages.specs.declared.view.KeptWhy.{KeptWhy}
use Rattle.engine_pages.specs.declared.view.KeptWhy.TheVariants.{Locked, Unlike, UnlikeAt, Under, Changed, Long}
use Rattle.engine_pages.specs.declared.view.Lead.{Lead}
use Rattle.engine_pages.specs.declared.view.Read.{Read}
use Rattle.engine_pages.specs.declared.view.Shut.{Shut}
use Rattle.engine_pages.specs.declared.view.View.{View}
use Rattle.engine_pages.specs.Layout.{page_at, words_of}
use Rattle.engine_pages.specs.Pages.{part_between}
use Rattle.engine_pages.specs.Pointers.{IsPointerAt, half_of}
use Rattle.engine_pages.specs.Resident.{tree_below}
use Rattle.engine_pages.specs.Slots.{other_copies, other_heads, other_inners, other_leaves}
use Rattle.engine_pages.specs.Steps.{seen_at, with_read}
use Rattle.engine_pages.specs.Words.{separators_at}
use Rattle.dual_pointer.specs.Copies.{IsLeadOf}
use Rattle.pointer_swings.specs.Children.{IsPartOf, keys_of}
use Rattle.pointer_swings.specs.Shuts.{shut_of}
use Rattle.page_drops.specs.declared.noting.Kept.{Kept}
use Rattle.page_drops.specs.Inner.{IsLaterNote, IsShutNote}
use Rattle.page_drops.specs.Works.{read_of, HasKept, IsOutside}
use Rattle.tree_drops.specs.Leaves.{AtTree}

-- ---- what is asked

-- The pass knows the separators of the interior page in the slot, so many, and that the snapshot page stands for its keys.
pub record AtBranch (t : ℕ) (sp : Span) (page count : ℕ) (v : View) : Type 0 where
  pub tree : AtTree t sp page v
  pub inner : Inner
  pub has : Contains v.inners inner
  pub slot : inner.slot ≡ t
  pub long : suc (length inner.separators) ≡ count
  pub few : count ≤ tree_fan
  pub lead : 0 < page → IsLeadOf v sp page

-- ---- what changes

-- The pass went on: it has what it had, but for what it saw, pointers that it shut, leads that it found, and pages noted
-- as kept.
abbrev pub Shutting : View → View → Type 0
Shutting v w = w ≡ record v {
  steps = w.steps;
  last = w.last;
  reads = w.reads;
  leads = w.leads;
  shuts = w.shuts;
  kept = w.kept;
}

-- and no lead was lost
pub record ShutsOn (v w : View) : Type 0 where
  pub shut : Shutting v w
  pub later : v.steps ≤ w.steps
  pub leads : (z : Lead) → Contains v.leads z → Contains w.leads z

-- it shut nothing, and noted nothing
pub record OnlyGoes (v w : View) : Type 0 where
  pub on : ShutsOn v w
  pub shuts : w.shuts ≡ v.shuts
  pub kept : w.kept ≡ v.kept

-- it noted that it keeps a page, and why, and has shut what it had
pub record KeepsBranch (cause : KeptWhy → ℕ → ℕ → Type 0) (k : Kept) (v w : View) : Type 0 where
  pub on : ShutsOn v w
  pub shuts : w.shuts ≡ v.shuts
  pub kept : HasKept cause k v w

-- ---- why an interior page is kept

-- the header or a separator of the page is unlike that of the snapshot page with these words
abbrev pub IsPartUnlike : ℕ → ℕ → List ℕ → ℕ → ℕ → Type 0
IsPartUnlike slots t words word seen = ((word ≡ page_at slots t 0) × (seen ≢ get_or words 0 0))
    ⊎ ((i : ℕ) × (word ≡ page_at slots t (separators_at + i)) × (seen ≢ get_or words (separators_at + i) 0))

-- so the page was kept
abbrev pub IsParted : ℕ → ℕ → List ℕ → KeptWhy → ℕ → ℕ → Type 0
IsParted slots t words why word seen = (why ≡ Unlike) × IsPartUnlike slots t words word seen

-- A pointer led to no slot, and not to the page to which the snapshot page with this number leads.
pub record IsPointerUnlike (slots t : ℕ) (sp : Span) (pages : List (List ℕ)) (page word seen : ℕ) : Type 0 where
  pub index : ℕ
  pub child : PagePlace
  pub at : slice_get (tree_below pages sp page) index ≡ Some child
  pub place : word ≡ page_at slots t (4 + index)
  pub bare : seen < 2 ^ 32
  pub unlike : seen ≢ child.number

-- Why an interior page in a slot was kept that is compared with the snapshot page with this number: a pointer was shut,
-- or led to a slot, or led to no slot and not where the snapshot's leads, or its keys aren't parted as the snapshot's.
abbrev pub IsBranchCause : ℕ → ℕ → Span → List (List ℕ) → ℕ → KeptWhy → ℕ → ℕ → Type 0
IsBranchCause slots t sp pages page Locked word seen =
    (j : ℕ) × (j < tree_fan) × (word ≡ page_at slots t (4 + j)) × (2 ^ 60 ≤ seen)
IsBranchCause slots t sp pages page Unlike word seen =
    IsPointerUnlike slots t sp pages page word seen ⊎ IsPartUnlike slots t (page_words pages page) word seen
IsBranchCause slots t sp pages page (UnlikeAt key) word seen = ⊥
IsBranchCause slots t sp pages page Under word seen =
    (j : ℕ) × (j < tree_fan) × (word ≡ page_at slots t (4 + j)) × ((u : ℕ) × (half_of seen ≡ Some u))
IsBranchCause slots t sp pages page (Changed expected) word seen = ⊥
IsBranchCause slots t sp pages page Long word seen = ⊥

-- the same, or the pointer above, whose word is here and was this one as the work began, was found to be another
abbrev pub IsBranchCauseBelow : ℕ → ℕ → Span → List (List ℕ) → ℕ → ℕ → ℕ → KeptWhy → ℕ → ℕ → Type 0
IsBranchCauseBelow slots t sp pages page at before why word seen =
    IsBranchCause slots t sp pages page why word seen ⊎ ((word ≡ at) × (why ≡ Changed before) × (seen ≢ before))

-- ---- it was compared

-- The snapshot page with this number, which has these words, is an interior one, with so many children.
pub record IsInnerOf (page : ℕ) (words : List ℕ) (count : ℕ) : Type 0 where
  pub some : 0 < page
  pub inner : (get_or words 0 0 / 2 ^ 8) % 2 ^ 8 ≢ 1
  pub many : get_or words 0 0 % 2 ^ 8 ≡ count

-- the separators from this one on, of the page with these words, are these
abbrev pub AreAlike : List ℕ → List ℕ → ℕ → Type 0
AreAlike words separators n = (i : ℕ) → n ≤ i → i < length separators
    → get_or words (separators_at + i) 0 ≡ get_or separators i 0

-- ---- a child

-- The snapshot page leads to this page there, over the keys of the child with this index.
pub record IsChildOf (pages : List (List ℕ)) (sp : Span) (page : ℕ) (separators : List ℕ) (j : ℕ) (child : PagePlace)
    : Type 0 where
  pub at : slice_get (tree_below pages sp page) j ≡ Some child
  pub keys : keys_of sp child ≡ part_between sp separators j
  pub count : length (tree_below pages sp page) ≡ suc (length separators)
  pub part : IsPartOf sp child

-- The pass learned which page that is, and shut nothing.
pub record HasChild (sp : Span) (page j : ℕ) (separators : List ℕ) (v : View) (n : ℕ) (w : View) : Type 0 where
  pub goes : OnlyGoes v w
  pub reads : w.reads ≡ v.reads
  pub child : PagePlace
  pub is : IsChildOf v.pages sp page separators j child
  pub says : n ≡ child.number
  pub lead : IsLeadOf w (keys_of sp child) n
  pub some : 0 < n
  pub below : n < page
  pub room : n ≤ v.layout.resident

-- ---- it is shut and taken out of memory

-- The pointer with this index is shut, with the page that the snapshot has there.
pub record IsShutSo (t : ℕ) (sp : Span) (page : ℕ) (separators : List ℕ) (j : ℕ) (v : View) : Type 0 where
  pub child : PagePlace
  pub is : IsChildOf v.pages sp page separators j child
  pub low : child.number < 2 ^ 32
  pub shut : Contains v.shuts (shut_of (at_index t j) child.number)

-- The first pointers, so many, are shut so, and no others.
pub record AreShut (t : ℕ) (sp : Span) (page : ℕ) (separators : List ℕ) (n : ℕ) (v : View) : Type 0 where
  pub each : (j : ℕ) → j < n → IsShutSo t sp page separators j v
  pub mine : (z : Shut) → Contains v.shuts z → (j : ℕ) × (j < n) × (z.at ≡ at_index t j)

-- One pointer more is shut, with this page, which is a number of one, and nothing is noted.
pub record HasShut (t j child : ℕ) (v w : View) : Type 0 where
  pub on : ShutsOn v w
  pub kept : w.kept ≡ v.kept
  pub low : child < 2 ^ 32
  pub shuts : w.shuts ≡ shut_of (at_index t j) child ∷ v.shuts

-- The pointer at this place over these keys was last seen or left with this word, which leads to the slot, in whose page
-- it doesn't stand; the snapshot page has the same separators; the first pointers, so many, are shut, and nothing is
-- locked.
pub record CanDropBranchFrom (x : At) (sp : Span) (at t page word count n : ℕ) (v : View) : Type 0 where
  pub branch : AtBranch t sp page count v
  pub inner : IsInnerOf page (page_words v.pages page) count
  pub alike : AreAlike (page_words v.pages page) (branch.inner).separators 0
  pub index : n ≤ count
  pub place : IsPointerAt v x sp at
  pub inside : at < words_of v.layout
  pub leads : half_of word ≡ Some t
  pub met : seen_at v.reads at ≡ Some word
  pub apart : IsOutside v.layout.slots t at
  pub locks : v.seat.locks ≡ []
  pub took : v.took ≡ []
  pub shut : AreShut t sp page (branch.inner).separators n v

-- The pointer, whose word is here, was left with the number of the snapshot page alone, and the view says what was seen
-- of it before; the slot is given up, and nothing of its page is the pass's; no page more is noted as kept.
pub record HasDroppedBranch (t at page : ℕ) (v w : View) : Type 0 where
  pub is : w ≡ record v {
    steps = w.steps;
    last = w.last;
    reads = w.reads;
    leads = w.leads;
    seat = record v.seat { locks = [] };
    took = [];
    loaded = w.loaded;
    grip = record v.grip { made = without v.grip.made t; taken = without (t ∷ v.grip.taken) t };
    copies = other_copies t v.copies;
    blanks = without v.blanks t;
    new_leaves = other_leaves t v.new_leaves;
    new_inners = other_inners t v.new_inners;
    heads = other_heads t v.heads;
    shuts = w.shuts;
    swung = v.swung ++ record { word = at; slot = t } ∷ [];
  }
  pub later : v.steps ≤ w.steps
  pub leads : (z : Lead) → Contains v.leads z → Contains w.leads z
  pub shuts : w.shuts ≡ []
  pub led : (r : Read) × (read_of w.reads at ≡ Some r) × (r.seen ≡ page) × (r.was ≡ seen_at v.reads at)

-- ---- what was read of its pointers

-- the pointer's word was left shut, with this page
abbrev pub LeftShut : ℕ → ℕ → ℕ → View → View → Type 0
LeftShut t j child v w = w.reads ≡ with_read v.reads (page_at v.layout.slots t (4 + j)) (child + 2 ^ 60)

-- the page is kept for the pointer's word, which was found to be another
pub record FoundOther (t j : ℕ) (k : Kept) (v w : View) : Type 0 where
  pub word : k.word ≡ page_at v.layout.slots t (4 + j)
  pub reads : w.reads ≡ with_read v.reads (page_at v.layout.slots t (4 + j)) k.seen

-- The entry of the word here, of a pointer that leads to this page of the snapshot: it was shut with that; or the page was
-- kept for this word, as it was seen.
abbrev pub IsLeft : Option (ℕ × ℕ) → ℕ → ℕ → View → View → Type 0
IsLeft None at child v w = IsShutNote (seen_at v.reads at) child (read_of w.reads at)
IsLeft (Some x) at child v w = IsLaterNote x.0 x.1 at child (seen_at v.reads at) (read_of v.reads at) (read_of w.reads at)

-- so the pointers from this one on were left, with the pages to which the snapshot's page leads
abbrev pub AreLeft : Option (ℕ × ℕ) → ℕ → Span → ℕ → ℕ → ℕ → View → View → Type 0
AreLeft kept t sp page count n v w = (j : ℕ) (q : PagePlace) → n ≤ j → j < count
    → slice_get (tree_below v.pages sp page) j ≡ Some q → IsLeft kept (page_at v.layout.slots t (4 + j)) q.number v w

-- those before this one are as they were
abbrev pub KeepsFirst : ℕ → ℕ → View → View → Type 0
KeepsFirst t n v w = (j : ℕ) → j < n
    → read_of w.reads (page_at v.layout.slots t (4 + j)) ≡ read_of v.reads (page_at v.layout.slots t (4 + j))

-- the page was kept for none of these
abbrev pub IsBehind : ℕ → ℕ → Kept → View → Type 0
IsBehind t n k v = (j : ℕ) → j < n → k.word ≢ page_at v.layout.slots t (4 + j)

-- the page was kept, for none of the pointers before this one, and those from this one on were left so
abbrev pub AreLeftFor : ℕ → Span → ℕ → ℕ → ℕ → Kept → View → View → Type 0
AreLeftFor t sp page count n k v w = AreLeft (Some (k.word, k.seen)) t sp page count n v w × IsBehind t n k v
