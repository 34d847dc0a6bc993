-- What steps on slot words and on the pages of owned slots tell.
use Rattle.std.specs.Prelude.{◌≡◌, ◌⊎◌, ℕ, suc, ◌+◌, ◌-◌, ◌*◌, ◌/◌, ◌%◌, ◌^◌, ◌<◌, ◌≤◌, ◌==◌, ◌&&◌, ◌||◌, Bool, true, false}
use Rattle.std.specs.Prelude.{not, cond, List, [], ◌∷◌, ◌++◌, filter, length, nat_lt, MatchBool, get_or, slice_set, Contains}
use Rattle.std.specs.Prelude.{Option, Some, None, if◌then◌else◌}
use Rattle.std.specs.Option.{option_or}
use Rattle.atomic_table.specs.Table.{Step}
use Rattle.homes.specs.declared.places.Span.{Span}
use Rattle.snapshot_store.specs.ArrayPages.{last_at}
use Rattle.snapshot_store.specs.Places.{page}
use Rattle.engine_rule.specs.JointState.{is_slot, slot_at as slot_with}
use Rattle.drop_core.specs.Event.{without}
use Rattle.drop_core.specs.Table.{has_slot}
use Rattle.engine_pages.specs.declared.view.Copied.{Copied}
use Rattle.engine_pages.specs.declared.view.Draft.{Draft}
use Rattle.engine_pages.specs.declared.view.Glance.{Glance}
use Rattle.engine_pages.specs.declared.view.Head.{Head}
use Rattle.engine_pages.specs.declared.view.NewInner.{NewInner}
use Rattle.engine_pages.specs.declared.view.NewLeaf.{NewLeaf}
use Rattle.engine_pages.specs.declared.view.Shut.{Shut}
use Rattle.engine_pages.specs.declared.view.View.{View}
use Rattle.engine_pages.specs.declared.view.Way.{Way}
use Rattle.engine_pages.specs.Layout.{slot_at}
use Rattle.engine_pages.specs.Pages.{is_leaf_span}
use Rattle.engine_pages.specs.Resident.{AreRecords}
use Rattle.engine_pages.specs.Steps.{IsLoad, glance, glanced}

-- ---- what is known of other slots

-- the ways into other slots than this
abbrev pub other_ways : ℕ → List Way → List Way
other_ways t ways = filter (λ x. not (x.slot == t)) ways

-- the own pages in other slots
abbrev pub other_drafts : ℕ → List Draft → List Draft
other_drafts t drafts = filter (λ x. not (x.slot == t)) drafts

-- the copies in other slots
abbrev pub other_copies : ℕ → List Copied → List Copied
other_copies t copies = filter (λ x. not (x.slot == t)) copies

-- the leaves of trees that were published in other slots
abbrev pub other_leaves : ℕ → List NewLeaf → List NewLeaf
other_leaves t leaves = filter (λ x. not (x.slot == t)) leaves

-- the interior pages of trees that were published in other slots
abbrev pub other_inners : ℕ → List NewInner → List NewInner
other_inners t inners = filter (λ x. not (x.slot == t)) inners

-- the headers that are locked in other slots
abbrev pub other_heads : ℕ → List Head → List Head
other_heads t heads = filter (λ x. not (x.slot == t)) heads

-- the pointers that were shut in other pages
abbrev pub other_shuts : ℕ → List Shut → List Shut
other_shuts t shuts = filter (λ x. not (is_slot t (slot_with x.at))) shuts

-- ---- a slot is held

-- one slot more is held
abbrev pub entered : ℕ → View → View
entered t v = record v { steps = v.steps + 1; grip = record v.grip { holds = t ∷ v.grip.holds } }

-- one slot less is held
abbrev pub left : ℕ → View → View
left t v = record v {
  steps = v.steps + 1;
  grip = record v.grip { holds = without v.grip.holds t };
  ways = other_ways t v.ways;
  known = filter (λ x. not (x.slot == t)) v.known;
  moved = filter (λ x. not (x.slot == t)) v.moved;
  inners = filter (λ x. not (x.slot == t)) v.inners;
  shuts = other_shuts t v.shuts;
  gone = t ∷ v.gone;
}

-- ---- a slot is given

-- a slot word was looked at; with that of the first slot the list begins anew
abbrev pub looked_at : ℕ → ℕ → View → View
looked_at t n v =
    record (glanced (slot_at t) n v) { looked = cond (t == 0) [] v.looked ++ glance v.steps (slot_at t) n ∷ [] }

-- the word of a slot that may be given: free or retired, with no pass, and given less than 2 ^ 46 - 1 times
abbrev pub is_usable_word : ℕ → Bool
is_usable_word n = ((n % 2 ^ 18 == 0) || (n % 2 ^ 18 == 3 * 2 ^ 16)) && nat_lt (n / 2 ^ 18) (2 ^ 46 - 1)

-- ---- slots that are looked at in a row

-- the slot is retired
abbrev pub is_retired_word : ℕ → Bool
is_retired_word n = n / 65536 % 4 == 3

-- the slot isn't usable
abbrev pub is_taken_word : ℕ → Bool
is_taken_word n = not (is_usable_word n)

-- the slot with its word, where that is a retired one's
abbrev pub retired_one : ℕ → ℕ → Option (ℕ × ℕ)
retired_one t n = if is_retired_word n then Some (t, n) else None

-- the first of these words that is a retired slot's, with the slot, where the first one has this number
abbrev pub first_retired : ℕ → List ℕ → Option (ℕ × ℕ)
first_retired t [] = None
first_retired t (n ∷ more) = option_or (retired_one t n) (first_retired (suc t) more)

-- the loads of slots in a row that found these words, from this step and this slot on
abbrev pub looks : ℕ → ℕ → List ℕ → List Glance
looks step t [] = []
looks step t (n ∷ more) = glance step (slot_at t) n ∷ looks (suc step) (suc t) more

-- ---- a slot is taken

-- the word that giving leaves: owned, given once more
abbrev pub given_word : ℕ → ℕ
given_word n = 2 ^ 16 + (n / 2 ^ 18 + 1) * 2 ^ 18

-- the slot is the pass's, with these words in its page
abbrev pub given : ℕ → List ℕ → ℕ → View → View
given t words n v = record (glanced (slot_at t) n v) {
  grip = record v.grip { made = t ∷ v.grip.made };
  drafts = record { slot = t; words = words } ∷ v.drafts;
}

-- 64 words stand in the page of the slot, which the pass doesn't hold, and which is none that it made before
pub record HasGiven (t : ℕ) (v : View) (n : ℕ) (w : View) : Type 0 where
  pub words : List ℕ
  pub long : length words ≡ 64
  pub unheld : has_slot v.grip.holds t ≡ false
  pub unmade : has_slot v.grip.made t ≡ false
  pub is : w ≡ given t words n v

-- the slot is given exactly where its word was the one that was expected
abbrev pub Given : ℕ → ℕ → View → ℕ → View → Type 0
Given t expected v n w = MatchBool (n == expected) (HasGiven t v n w) (w ≡ glanced (slot_at t) n v)

-- ---- the page of an owned slot is filled

-- an owned slot of the pass
abbrev pub HasDraft : View → ℕ → Type 0
HasDraft v t = (x : Draft) × Contains v.drafts x × (x.slot ≡ t)

-- an owned slot of the pass, of which 64 words are known
abbrev pub HasPageDraft : View → ℕ → Type 0
HasPageDraft v t = (x : Draft) × Contains v.drafts x × (x.slot ≡ t) × (length x.words ≡ 64)

-- a word of an owned page is stored
abbrev pub filled : Draft → ℕ → ℕ → View → View
filled x i n v = record v {
  steps = v.steps + 1;
  drafts = record x { words = slice_set x.words i n } ∷ other_drafts x.slot v.drafts;
}

-- a word of an owned page was stored
abbrev pub HasFilled : ℕ → ℕ → ℕ → View → View → Type 0
HasFilled t i n v w = (x : Draft) × Contains v.drafts x × (x.slot ≡ t) × (w ≡ filled x i n v)

-- ---- a slot is published

-- the page may be looked at by others, and is no page
abbrev pub published_blank : ℕ → View → View
published_blank t v = record v { steps = v.steps + 1; drafts = other_drafts t v.drafts; blanks = t ∷ v.blanks }

-- These are the words of a leaf of an array over these keys, and those of the published page with this number, or all 0
-- where there is none.
pub record IsCopyDraft (v : View) (words : List ℕ) (sp : Span) (n : ℕ) : Type 0 where
  pub leaf : is_leaf_span sp ≡ true
  pub exact : sp.high ≡ sp.low + last_at 0
  pub there : n ≤ length v.pages
  pub same : (i : ℕ) → i < 64 → get_or words i 0 ≡ get_or (page v.pages n) i 0
  pub records : AreRecords words

-- an owned slot of the pass, filled as a copy of that snapshot page
abbrev pub HasCopyDraft : View → ℕ → Span → ℕ → Type 0
HasCopyDraft v t sp n = (x : Draft) × Contains v.drafts x × (x.slot ≡ t) × IsCopyDraft v x.words sp n

-- the page may be looked at by others, and is that copy
abbrev pub published_copy : ℕ → Span → ℕ → View → View
published_copy t sp n v = record v {
  steps = v.steps + 1;
  drafts = other_drafts t v.drafts;
  copies = record { slot = t; span = sp; page = n } ∷ v.copies;
}

-- ---- a slot is given up

-- the pass published the slot as a page of a tree
abbrev pub HasNewPage : View → ℕ → Type 0
HasNewPage v t = ((c : NewLeaf) × Contains v.new_leaves c × (c.slot ≡ t))
    ⊎ ((c : NewInner) × Contains v.new_inners c × (c.slot ≡ t))

-- The pass published the slot and led nothing to it, or it took away what led to the slot.
abbrev pub MayRetire : View → ℕ → Type 0
MayRetire v t = ((c : Copied) × Contains v.copies c × (c.slot ≡ t))
    ⊎ ((has_slot v.blanks t ≡ true) ⊎ ((has_slot v.grip.taken t ≡ true) ⊎ HasNewPage v t))

-- the slot is given up
abbrev pub retired : ℕ → View → View
retired t v = record v {
  steps = v.steps + 1;
  grip = record v.grip { made = without v.grip.made t; taken = without v.grip.taken t };
  copies = other_copies t v.copies;
  blanks = without v.blanks t;
  new_leaves = other_leaves t v.new_leaves;
  new_inners = other_inners t v.new_inners;
}

-- ---- the same of the steps

-- a slot is held: one holder more
abbrev pub Enters : ℕ → Step (Unit {0}) → View → ℕ → View → Type 0
Enters t s v n w = (s.first ≡ 1) × (w ≡ entered t v)

-- a slot is held no more: one holder less
abbrev pub Leaves : ℕ → Step (Unit {0}) → View → ℕ → View → Type 0
Leaves t s v n w = (s.first ≡ 1) × (w ≡ left t v)

-- a slot's word is looked at, and no other
abbrev pub Looks : ℕ → Step (Unit {0}) → View → ℕ → View → Type 0
Looks t s v n w = (s.word ≡ slot_at t) × (IsLoad s × (w ≡ looked_at t n v))

-- a slot is given, by a word that counts one time more, or was found changed
abbrev pub Gives : ℕ → Step (Unit {0}) → View → ℕ → View → Type 0
Gives t s v n w = (s.word ≡ slot_at t) × ((s.second ≡ given_word s.first) × Given t s.first v n w)

-- a word of an owned page is stored
abbrev pub Fills : ℕ → ℕ → ℕ → Step (Unit {0}) → View → ℕ → View → Type 0
Fills t i value s v n w = HasFilled t i value v w

-- an owned slot is published as no page: its word has the next state
abbrev pub PublishesBlank : ℕ → Step (Unit {0}) → View → ℕ → View → Type 0
PublishesBlank t s v n w = (s.first ≡ 2 ^ 16) × (w ≡ published_blank t v)

-- an owned slot is published as a copy
abbrev pub PublishesCopy : ℕ → Span → ℕ → Step (Unit {0}) → View → ℕ → View → Type 0
PublishesCopy t sp n s v k w = (s.first ≡ 2 ^ 16) × (w ≡ published_copy t sp n v)

-- a published slot is given up: its word has the next state
abbrev pub Retires : ℕ → Step (Unit {0}) → View → ℕ → View → Type 0
Retires t s v n w = (s.first ≡ 2 ^ 16) × (w ≡ retired t v)
