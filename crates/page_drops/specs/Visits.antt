-- What a call tells that goes over the arrays of an engine: each pointer that it met, once, as a tree.
use Rattle.std.specs.Prelude.{◌≡◌, ◌≢◌, ◌⊎◌, ℕ, ◌+◌, ◌^◌, ◌<◌, ◌≤◌, ◌==◌, List, [], ◌∷◌, ◌++◌, cond, false}
use Rattle.std.specs.Prelude.{length, get_or, slice_get, Option, Some, None, ⊤}
use Rattle.std.specs.List.{flat_map}
use Rattle.homes.specs.declared.places.Span.{Span}
use Rattle.snapshot_store.specs.ArrayPages.{last_at}
use Rattle.snapshot_store.specs.Places.{page as page_words}
use Rattle.engine_pages.specs.declared.view.KeptPage.{KeptPage}
use Rattle.engine_pages.specs.declared.view.KeptWhy.{KeptWhy}
use Rattle.engine_pages.specs.declared.view.KeptWhy.TheVariants.{Locked, Unlike, UnlikeAt, Under, Changed, Long}
use Rattle.engine_pages.specs.declared.view.Read.{Read}
use Rattle.engine_pages.specs.declared.view.Swung.{Swung}
use Rattle.engine_pages.specs.declared.view.View.{View}
use Rattle.engine_pages.specs.Layout.{page_at, root_at}
use Rattle.engine_pages.specs.Pages.{child_span, is_array, root_span}
use Rattle.engine_pages.specs.Pointers.{half_of, page_half}
use Rattle.engine_pages.specs.Steps.{seen_at}
use Rattle.page_drops.specs.Inner.{IsInnerCause}
use Rattle.page_drops.specs.Works.{read_of, IsLeafCause}

-- ---- what was met

-- A pointer that was met: where its word stands, its keys, the newest snapshot's page for them or 0, the slot that it
-- led to if it did, what was met at the pointers of that slot's page (nothing in a leaf), and the note of why the page
-- was kept, if it was.
pub record Met (Below : Type 0) : Type 0 where
  pub at : ℕ
  pub span : Span
  pub page : ℕ
  pub slot : Option ℕ
  pub below : List Below
  pub kept : Option KeptPage

-- at a leaf, at a page over leaves, and at a page over such pages
abbrev pub MetLeaf : Type 0
MetLeaf = Met ⊤

-- what was met at a pointer to a page over leaves
abbrev pub MetMiddle : Type 0
MetMiddle = Met MetLeaf

-- what was met at a pointer to a page over such pages
abbrev pub MetTop : Type 0
MetTop = Met MetMiddle

-- ---- counts

-- 1 where a slot's page was met and not kept
abbrev pub dropped_here : Option ℕ → Option KeptPage → ℕ
dropped_here None kept = 0
dropped_here (Some t) None = 1
dropped_here (Some t) (Some k) = 0

-- the note of a page that was kept
abbrev pub note_here : Option KeptPage → List KeptPage
note_here None = []
note_here (Some k) = k ∷ []

-- the slot that was left last
abbrev pub slot_here : Option ℕ → List ℕ
slot_here None = []
slot_here (Some t) = t ∷ []

-- the pointer that was swung away from a slot, whose page was met and not kept
abbrev pub swing_here : ℕ → Option ℕ → Option KeptPage → List Swung
swing_here at None kept = []
swing_here at (Some t) None = record { word = at; slot = t } ∷ []
swing_here at (Some t) (Some k) = []

-- what is summed over what was met below
abbrev pub sum_met : {A : Type 0} → (A → ℕ) → List A → ℕ
sum_met f [] = 0
sum_met f (x ∷ xs) = f x + sum_met f xs

-- how many pages were dropped, and the notes of those that were kept, in the order in which they were left: those below
-- a page before it
abbrev pub dropped_of : {B : Type 0} → (B → ℕ) → Met B → ℕ
dropped_of f m = sum_met f m.below + dropped_here m.slot m.kept

-- the notes of the pages that were kept, those below before their own
abbrev pub notes_of : {B : Type 0} → (B → List KeptPage) → Met B → List KeptPage
notes_of f m = flat_map f m.below ++ note_here m.kept

-- the slots that were left, those below before its own
abbrev pub slots_of : {B : Type 0} → (B → List ℕ) → Met B → List ℕ
slots_of f m = flat_map f m.below ++ slot_here m.slot

-- the pointers that were swung away from the slots of pages that were dropped, those below before its own
abbrev pub swings_of : {B : Type 0} → (B → List Swung) → Met B → List Swung
swings_of f m = flat_map f m.below ++ swing_here m.at m.slot m.kept

-- how often a slot is in a list
abbrev pub times : ℕ → List ℕ → ℕ
times t [] = 0
times t (x ∷ xs) = cond (t == x) 1 0 + times t xs

-- ---- where they stand

-- the pointer leads to the slot, with the newest snapshot's page, if there is one
abbrev pub LeadsSo : ℕ → ℕ → ℕ → Type 0
LeadsSo t page seen = (half_of seen ≡ Some t) × (0 < page → page_half seen ≡ page)

-- How the pass saw or left the word of the pointer of a page that it kept: so; only where it had changed since the
-- sight before, it is what it was found to be.
abbrev pub IsKeptSight : KeptWhy → ℕ → ℕ → ℕ → ℕ → ℕ → Type 0
IsKeptSight Locked word at t page seen = LeadsSo t page seen
IsKeptSight Unlike word at t page seen = LeadsSo t page seen
IsKeptSight (UnlikeAt key) word at t page seen = LeadsSo t page seen
IsKeptSight Under word at t page seen = LeadsSo t page seen
IsKeptSight (Changed expected) word at t page seen = (word ≡ at) × (half_of expected ≡ Some t) × (seen ≢ expected)
IsKeptSight Long word at t page seen = LeadsSo t page seen

-- The same of any pointer: open, without a slot, where it led to none; shut, where it was kept for that; the newest
-- snapshot's page alone where the page was dropped.
abbrev pub IsSight : Option ℕ → Option KeptPage → ℕ → ℕ → ℕ → Type 0
IsSight None None at page seen = seen < 2 ^ 32
IsSight None (Some k) at page seen = (k.why ≡ Locked) × (k.word ≡ at) × (k.seen ≡ seen) × (2 ^ 60 ≤ seen)
IsSight (Some t) None at page seen = seen ≡ page
IsSight (Some t) (Some k) at page seen = IsKeptSight k.why k.word at t page seen

-- of a changed pointer the view says what was seen before
abbrev pub IsSightBefore : KeptWhy → Read → Type 0
IsSightBefore Locked r = ⊤
IsSightBefore Unlike r = ⊤
IsSightBefore (UnlikeAt key) r = ⊤
IsSightBefore Under r = ⊤
IsSightBefore (Changed expected) r = r.was ≡ Some expected
IsSightBefore Long r = ⊤

-- where the page was kept for that; and of the pointer of a page that was dropped, that it led to the slot
abbrev pub IsMetBefore : Option ℕ → Option KeptPage → Read → Type 0
IsMetBefore None None r = ⊤
IsMetBefore None (Some k) r = IsSightBefore k.why r
IsMetBefore (Some t) None r = (n : ℕ) × (r.was ≡ Some n) × (half_of n ≡ Some t)
IsMetBefore (Some t) (Some k) r = IsSightBefore k.why r

-- the keys are those of a page so many heights above the leaves
abbrev pub IsHigh : Span → ℕ → Type 0
IsHigh sp height = sp.high ≡ sp.low + last_at height

-- the view has the word so, since the call began
pub record IsNotedSo {B : Type 0} (w : View) (m : Met B) : Type 0 where
  pub read : Read
  pub is : read_of w.reads m.at ≡ Some read
  pub sight : IsSight m.slot m.kept m.at m.page read.seen
  pub before : IsMetBefore m.slot m.kept read

-- it was seen so before
abbrev pub WasSeenSo : {B : Type 0} → Met B → Read → Type 0
WasSeenSo m r = (n : ℕ) × (r.was ≡ Some n) × IsSight m.slot m.kept m.at m.page n

-- What the view has of the word of a pointer in a page that was kept for this word. Where that word is the pointer's,
-- the view has it so still, so it wasn't shut by the call, which opens again what it shuts; and it was seen as the
-- pointer's before. Of another pointer it is the same; or it was found to lead to no slot and where the newest
-- snapshot's page leads, was shut, and opened again.
abbrev pub IsSightUnder : {B : Type 0} → KeptPage → Met B → Read → Type 0
IsSightUnder k m r = (IsSight m.slot m.kept m.at m.page r.seen × IsMetBefore m.slot m.kept r
    × (k.word ≢ m.at))
    ⊎ (((k.word ≡ m.at) × (k.seen ≡ r.seen) × WasSeenSo m r)
    ⊎ ((r.seen ≡ m.page) × (r.was ≡ Some (m.page + 2 ^ 60)) × (k.word ≢ m.at)))

-- And of one in a page that was dropped: it was seen so, and found to lead to no slot and where the newest snapshot's
-- page leads, and was shut.
abbrev pub IsNotedUnder : {B : Type 0} → Option KeptPage → View → Met B → Type 0
IsNotedUnder None w m = (r : Read) × (read_of w.reads m.at ≡ Some r) × (r.seen ≡ m.page + 2 ^ 60) × WasSeenSo m r
IsNotedUnder (Some k) w m = (r : Read) × (read_of w.reads m.at ≡ Some r) × IsSightUnder k m r

-- the page of the slot was kept since its pointer, whose word is here, had changed between two sights of it
pub record HasTurnedAway (t : ℕ) (k : KeptPage) (at : ℕ) : Type 0 where
  pub expected : ℕ
  pub why : k.why ≡ Changed expected
  pub word : k.word ≡ at
  pub led : half_of expected ≡ Some t
  pub other : k.seen ≢ expected

-- Why it was kept: the pointer was shut; or, where it led to a slot, for a word in that, or so.
abbrev pub IsCauseOf : (ℕ → ℕ → List ℕ → KeptWhy → ℕ → ℕ → Type 0) → ℕ → List ℕ → Option ℕ → KeptPage → ℕ → Type 0
IsCauseOf inside slots words None k at = (k.why ≡ Locked) × (k.word ≡ at) × (2 ^ 60 ≤ k.seen)
IsCauseOf inside slots words (Some t) k at = inside slots t words k.why k.word k.seen ⊎ HasTurnedAway t k at

-- the same of what was met, if it was kept
abbrev pub HasCause : {B : Type 0} → (ℕ → ℕ → List ℕ → KeptWhy → ℕ → ℕ → Type 0) → View → Met B → Type 0
HasCause inside w m = (k : KeptPage) → m.kept ≡ Some k
    → IsCauseOf inside w.layout.slots (page_words w.pages m.page) m.slot k m.at

-- Where a page was met, each of its pointers was, once: its keys are their part of the page's, and its page is where
-- the newest snapshot's page leads. Nothing is below a pointer that led to no slot.
pub record AreChildren (C : Type 0) (w : View) (m : Met (Met C)) : Type 0 where
  pub all : (t : ℕ) → m.slot ≡ Some t
      → (length m.below ≡ 64) ⊎ ((m.below ≡ []) × ((k : KeptPage) × (m.kept ≡ Some k) × HasTurnedAway t k m.at))
  pub each : (t j : ℕ) (c : Met C) → m.slot ≡ Some t → slice_get m.below j ≡ Some c
      → (c.at ≡ page_at w.layout.slots t j) × (c.span ≡ child_span m.span j)
      × (c.page ≡ get_or (page_words w.pages m.page) j 0)
  pub end : m.slot ≡ None → m.below ≡ []

-- ---- three heights

-- of a leaf: nothing is below
abbrev pub dropped_leaf : MetLeaf → ℕ
dropped_leaf m = dropped_of (λ x. 0) m

-- its note, if it was kept
abbrev pub notes_leaf : MetLeaf → List KeptPage
notes_leaf m = notes_of (λ x. []) m

-- the slot that it led to, if it did
abbrev pub slots_leaf : MetLeaf → List ℕ
slots_leaf m = slots_of (λ x. []) m

-- the pointer, if it was swung
abbrev pub swings_leaf : MetLeaf → List Swung
swings_leaf m = swings_of (λ x. []) m

-- The snapshot's page is there, and if the page was kept, for cause. Where its slot was left once in the call, the word
-- in it for which it was kept was last seen or left as it was then: so it wasn't locked by the call, which opens again
-- what it locks of a page that it keeps.
pub record IsLeafTree (w : View) (m : MetLeaf) : Type 0 where
  pub there : m.page ≤ length w.pages
  pub cause : HasCause IsLeafCause w m
  pub below : m.below ≡ []
  pub still : (t j : ℕ) (k : KeptPage) → m.slot ≡ Some t → m.kept ≡ Some k → times t w.gone ≡ 1 → j < 64
      → k.word ≡ page_at w.layout.slots t j → seen_at w.reads k.word ≡ Some k.seen

-- The same of an interior page, and of what is below it. Where its slot was left once in the call, each pointer is
-- noted.
pub record IsInnerTree (C : Type 0) (tree : View → Met C → Type 0) (w : View) (m : Met (Met C)) : Type 0 where
  pub there : m.page ≤ length w.pages
  pub cause : HasCause IsInnerCause w m
  pub children : AreChildren C w m
  pub each : (j : ℕ) (c : Met C) → slice_get m.below j ≡ Some c → tree w c
  pub noted : (t j : ℕ) (c : Met C) → m.slot ≡ Some t → times t w.gone ≡ 1 → slice_get m.below j ≡ Some c
      → IsNotedUnder m.kept w c

-- of a page over leaves
abbrev pub dropped_middle : MetMiddle → ℕ
dropped_middle m = dropped_of dropped_leaf m

-- the notes of it and of its leaves
abbrev pub notes_middle : MetMiddle → List KeptPage
notes_middle m = notes_of notes_leaf m

-- the slots of it and of its leaves
abbrev pub slots_middle : MetMiddle → List ℕ
slots_middle m = slots_of slots_leaf m

-- the pointers to it and to its leaves that were swung
abbrev pub swings_middle : MetMiddle → List Swung
swings_middle m = swings_of swings_leaf m

-- a page over leaves with what was met below it
abbrev pub IsMiddleTree : View → MetMiddle → Type 0
IsMiddleTree w m = IsInnerTree ⊤ IsLeafTree w m

-- of a page over such pages
abbrev pub dropped_top : MetTop → ℕ
dropped_top m = dropped_of dropped_middle m

-- the notes of it and of all below it
abbrev pub notes_top : MetTop → List KeptPage
notes_top m = notes_of notes_middle m

-- the slots of it and of all below it
abbrev pub slots_top : MetTop → List ℕ
slots_top m = slots_of slots_middle m

-- the pointers to it and to all below it that were swung
abbrev pub swings_top : MetTop → List Swung
swings_top m = swings_of swings_middle m

-- a page over such pages with what was met below it
abbrev pub IsTopTree : View → MetTop → Type 0
IsTopTree w m = IsInnerTree MetLeaf IsMiddleTree w m

-- ---- what was met at one storage's root: an array of one, two or three heights, or a tree, which is left alone
pub data MetRoot : Type 0 where
  OneHeight : MetLeaf → MetRoot
  TwoHeights : MetMiddle → MetRoot
  ThreeHeights : MetTop → MetRoot
  LeftAlone : MetRoot

-- how many pages of a storage were dropped
abbrev pub dropped_root : MetRoot → ℕ
dropped_root (OneHeight m) = dropped_leaf m
dropped_root (TwoHeights m) = dropped_middle m
dropped_root (ThreeHeights m) = dropped_top m
dropped_root LeftAlone = 0

-- the notes of its pages that were kept
abbrev pub notes_root : MetRoot → List KeptPage
notes_root (OneHeight m) = notes_leaf m
notes_root (TwoHeights m) = notes_middle m
notes_root (ThreeHeights m) = notes_top m
notes_root LeftAlone = []

-- the slots that were left of it
abbrev pub slots_root : MetRoot → List ℕ
slots_root (OneHeight m) = slots_leaf m
slots_root (TwoHeights m) = slots_middle m
slots_root (ThreeHeights m) = slots_top m
slots_root LeftAlone = []

-- the pointers of it that were swung
abbrev pub swings_root : MetRoot → List Swung
swings_root (OneHeight m) = swings_leaf m
swings_root (TwoHeights m) = swings_middle m
swings_root (ThreeHeights m) = swings_top m
swings_root LeftAlone = []

-- the pointer of the storage with this index stands at its root, over all its keys, and its page is the catalogue's
pub record IsRootNode {B : Type 0} (w : View) (roots : List ℕ) (r : ℕ) (m : Met B) : Type 0 where
  pub at : m.at ≡ root_at r
  pub span : m.span ≡ root_span w.layout.decls r
  pub page : m.page ≡ get_or roots r 0

-- what was met at the root with this index, by the height of its storage; a tree is left alone
abbrev pub IsRootTree : View → List ℕ → ℕ → MetRoot → Type 0
IsRootTree w roots r (OneHeight m) = IsRootNode w roots r m × IsHigh m.span 0 × IsNotedSo w m × IsLeafTree w m
IsRootTree w roots r (TwoHeights m) = IsRootNode w roots r m × IsHigh m.span 1 × IsNotedSo w m × IsMiddleTree w m
IsRootTree w roots r (ThreeHeights m) = IsRootNode w roots r m × IsHigh m.span 2 × IsNotedSo w m × IsTopTree w m
IsRootTree w roots r LeftAlone = is_array w.layout.decls (root_span w.layout.decls r).storage ≡ false
