-- What it comes to that a full leaf of a tree is split, with one key more.
use Rattle.std.specs.Prelude.{◌≡◌, ◌≢◌, ◌⊎◌, ℕ, ◌+◌, ◌*◌, ◌<◌, ◌≤◌, true, false, List, [], ◌∷◌, ◌++◌, length, get_or, slice_get, take, drop}
use Rattle.std.specs.Prelude.{nat_lt, slice_set, if◌then◌else◌, Some, None, Contains}
use Rattle.serial_model.specs.declared.key.Key.{Key}
use Rattle.homes.specs.declared.places.Span.{Span}
use Rattle.homes.specs.Homes.{has_key, in_span}
use Rattle.wire_form.specs.Leaves.{tree_leaf}
use Rattle.commit_core.specs.declared.seat.Stage.TheVariants.{Idle}
use Rattle.drop_core.specs.Event.{each_once, is_separator, lower_span, upper_span}
use Rattle.drop_core.specs.Table.{has_slot}
use Rattle.engine_pages.specs.declared.view.Known.{Known}
use Rattle.engine_pages.specs.declared.view.NewLeaf.{NewLeaf}
use Rattle.engine_pages.specs.declared.view.RefusalCause.{RefusalCause}
use Rattle.engine_pages.specs.declared.view.RefusalCause.TheVariants as causes
use Rattle.engine_pages.specs.declared.view.Role.TheVariants.{Keeper}
use Rattle.engine_pages.specs.declared.view.SetName.TheVariants.{Holds}
use Rattle.engine_pages.specs.declared.view.View.{View}
use Rattle.engine_pages.specs.Agreement.{TreesAgree}
use Rattle.engine_pages.specs.Layout.{page_at}
use Rattle.engine_pages.specs.Pointers.{WaysAgree}
use Rattle.engine_pages.specs.Records.{IsTreeRecordAt}
use Rattle.engine_pages.specs.Steps.{seen_at}
use Rattle.engine_pages.specs.Words.{spot}
use Rattle.engine_pages.specs.Views.{IsActive}
use Rattle.tree_heads.specs.Headers.{open_word, AreLeafKeys, IsTreeAt}
use Rattle.array_pages.specs.Steps.{RefusesGive}
use Rattle.array_pages.specs.Walks.{HoldsAre}
use Rattle.foster_tree.specs.declared.entries.Entry.{Entry}
use Rattle.foster_tree.specs.Adding.{new_entry, CanGrow, IsOneHead}
use Rattle.foster_tree.specs.Entries.{AreInOrder}
use Rattle.foster_tree.specs.Causes.{IsLeafWordChanged}
use Rattle.foster_tree.specs.Filling.{leaf_of, no_entry, AreLeafEntries}
use Rattle.foster_tree.specs.Locking.{tooks, HasTakenFirst, IsRead, KnowsFull, RefusesRecord, WorkedIn}

-- a split takes at most so many steps, where there are so many slots: at each of two searches for a slot one for each
-- slot, and at most 256 for the locks, the records and the halves
abbrev pub split_steps : ℕ → ℕ
split_steps slots = 2 * slots + 256

-- ---- what it asks

-- each slot that the pass was given it has led something to, or has given up
pub record HasMadeNothing (v : View) : Type 0 where
  pub made : v.grip.made ≡ []
  pub taken : v.grip.taken ≡ []
  pub drafts : v.drafts ≡ []
  pub copies : v.copies ≡ []
  pub blanks : v.blanks ≡ []
  pub leaves : v.new_leaves ≡ []
  pub inners : v.new_inners ≡ []

-- The leaf is full, the pass has no locks of records and no slot that nothing leads to, and the slots of the set are
-- those that it holds.
pub record CanSplitLeaf (slots : List ℕ) (v : View) (t : ℕ) (sp : Span) (k : Key) (word : ℕ) : Type 0 where
  pub grows : CanGrow v t sp k word
  pub full : length grows.leaf.keys ≡ tree_leaf.room
  pub holds : HoldsAre slots v
  pub took : v.took ≡ []
  pub nothing_made : HasMadeNothing v

-- ---- what it comes to

-- At one moment of the call no slot was given, and no word was loaded since.
pub record GaveNone (why : RefusalCause) (v w : View) : Type 0 where
  pub before : View
  pub behind : View
  pub since : v.steps ≤ before.steps
  pub layout : before.layout ≡ v.layout
  pub missed : RefusesGive why before behind
  pub last : w.last ≡ behind.last
  pub looked : w.looked ≡ behind.looked

-- the view v with what a try leaves as w has it
abbrev pub as_tried : View → View → View
as_tried v w = record v {
  steps = w.steps;
  last = w.last;
  reads = w.reads;
  loaded = w.loaded;
  touched = w.touched;
  versions = w.versions;
  known = w.known;
  looked = w.looked;
}

-- so it was for a half of the leaf, all of whose records were locked by then
abbrev pub RefusesHalf : ℕ → RefusalCause → View → View → Type 0
RefusesHalf t why v w = GaveNone why v w × HasTakenFirst t tree_leaf.room v w

-- So it was for a record of the leaf, and the header was opened again as it had been seen.
pub record RefusesOpened (t word : ℕ) (why : RefusalCause) (v w : View) : Type 0 where
  pub header : seen_at w.reads (page_at v.layout.slots t 0) ≡ Some word
  pub missed : RefusesRecord t why v w

-- The leaf wasn't split: the header, which was last seen as this word, or a record had changed, no slot was given, or the
-- holds are full, of which the call looked before any step. No lock of a record is taken but of those before the one that
-- had changed, in their order, and of all for a slot that was not given.
abbrev pub RefusesSplit : List ℕ → ℕ → ℕ → RefusalCause → View → View → Type 0
RefusesSplit slots t word (causes.Conflict at expected seen) v w =
    ((expected ≡ word) × IsLeafWordChanged t 0 at expected seen v w × (w.touched ≡ v.touched))
    ⊎ (RefusesOpened t word (causes.Conflict at expected seen) v w
    ⊎ RefusesHalf t (causes.Conflict at expected seen) v w)
RefusesSplit slots t word (causes.Full held) v w = RefusesHalf t (causes.Full held) v w
RefusesSplit slots t word (causes.Wide set) v w = (set ≡ Holds) × (length slots ≡ 128) × (w ≡ v)
RefusesSplit slots t word (causes.NumberLimit clock) v w = ⊥

-- and nothing is locked or made then
pub record HasNotSplit (slots : List ℕ) (t word : ℕ) (why : RefusalCause) (v w : View) : Type 0 where
  pub worked : WorkedIn t v w
  pub most : w.steps ≤ v.steps + split_steps v.layout.slots
  pub known : (x : Known) → Contains v.known x → Contains w.known x
  pub trees : TreesAgree v → TreesAgree w
  pub is : w ≡ as_tried v w
  pub cause : RefusesSplit slots t word why v w

-- the view v with what a split changes as w has it: the leaf in slot t with these keys leads to its halves, of which
-- one is held
abbrev pub as_split : ℕ → List Key → NewLeaf → NewLeaf → NewLeaf → ℕ → View → View → View
as_split t keys lower upper half separator v w = record v {
  steps = w.steps;
  last = w.last;
  reads = w.reads;
  loaded = w.loaded;
  touched = w.touched;
  versions = w.versions;
  looked = w.looked;
  grip = record v.grip { holds = half.slot ∷ v.grip.holds };
  ways = record { slot = half.slot; span = half.span } ∷ v.ways;
  known = record { slot = half.slot; keys = half.keys } ∷ record { slot = t; keys = keys } ∷ v.known;
  moved = record { slot = t; minor = lower.slot; major = upper.slot; separator = separator } ∷ v.moved;
}

-- The leaf leads to two halves. The one that is made for the key is held and has it, and the key's record, which is
-- absent, has its word here. Each record of the leaf was locked once, in their order.
pub record HasSplitLeaf (t : ℕ) (sp : Span) (k : Key) (at : ℕ) (v w : View) : Type 0 where
  pub keys : List Key
  pub are : AreLeafKeys v t sp keys
  pub full : length keys ≡ tree_leaf.room
  pub lower : NewLeaf
  pub upper : NewLeaf
  pub separator : ℕ
  pub half : NewLeaf
  pub is_half : ((half ≡ lower) × (k.key < separator)) ⊎ ((half ≡ upper) × (separator ≤ k.key))
  pub inside : in_span half.span k ≡ true
  pub index : ℕ
  pub record_at : IsTreeRecordAt w k (spot half.slot index) at
  pub worked : WorkedIn t v w
  pub taken : HasTakenFirst t tree_leaf.room v w
  pub most : w.steps ≤ v.steps + split_steps v.layout.slots
  pub agree : WaysAgree w.ways
  pub trees : TreesAgree w
  pub is : w ≡ as_split t keys lower upper half separator v w

-- ---- the halves

-- the first key of the second half
abbrev pub separator_of : List Entry → ℕ
separator_of sorted = (get_or sorted 8 no_entry).key

-- the first half
abbrev pub lower_of : ℕ → Span → List Entry → NewLeaf
lower_of t sp sorted = leaf_of t (lower_span sp (separator_of sorted)) (take 8 sorted)

-- and the second
abbrev pub upper_of : ℕ → Span → List Entry → NewLeaf
upper_of t sp sorted = leaf_of t (upper_span sp (separator_of sorted)) (drop 8 sorted)

-- the records in order make two leaves
pub record AreHalves (sp : Span) (sorted : List Entry) : Type 0 where
  pub many : length sorted ≡ 17
  pub parts : is_separator sp (separator_of sorted) ≡ true
  pub lower : AreLeafEntries (lower_span sp (separator_of sorted)) (take 8 sorted)
  pub upper : AreLeafEntries (upper_span sp (separator_of sorted)) (drop 8 sorted)

-- the view v with what two slots change that were published as the halves, as w has it
abbrev pub as_halved : ℕ → ℕ → Span → List Entry → View → View → View
as_halved minor major sp sorted v w = record v {
  steps = w.steps;
  last = w.last;
  looked = w.looked;
  grip = record v.grip { made = major ∷ minor ∷ [] };
  new_leaves = upper_of major sp sorted ∷ lower_of minor sp sorted ∷ [];
}

-- Two slots, neither of which the pass holds, were given and are published as the halves.
pub record HasMadeHalves (minor major : ℕ) (sp : Span) (sorted : List Entry) (v w : View) : Type 0 where
  pub minor_there : minor < v.layout.slots
  pub major_there : major < v.layout.slots
  pub minor_unheld : has_slot v.grip.holds minor ≡ false
  pub major_unheld : has_slot v.grip.holds major ≡ false
  pub apart : minor ≢ major
  pub since : v.steps ≤ w.steps
  pub most : w.steps ≤ v.steps + (2 * v.layout.slots + 106)
  pub is : w ≡ as_halved minor major sp sorted v w

-- no slot was given for one of them, and the other one was given up
pub record HasMadeNoHalves (why : RefusalCause) (v w : View) : Type 0 where
  pub gave : GaveNone why v w
  pub since : v.steps ≤ w.steps
  pub most : w.steps ≤ v.steps + (2 * v.layout.slots + 106)
  pub is : w ≡ record v { steps = w.steps; last = w.last; looked = w.looked }

-- ---- the turn

-- The entries are what was read of the records of a full leaf over the span with these keys, and the record of one key
-- more.
pub record AreMoved (v : View) (t : ℕ) (sp : Span) (keys : List Key) (k : Key) (entries : List Entry) : Type 0 where
  pub many : length entries ≡ 17
  pub full : length keys ≡ 16
  pub once : each_once keys ≡ true
  pub inside : (q : Key) → has_key keys q ≡ true → in_span sp q ≡ true
  pub new : has_key keys k ≡ false
  pub own : in_span sp k ≡ true
  pub read : (i : ℕ) (q : Key) → i < 16 → slice_get keys i ≡ Some q → IsRead v q (get_or entries i no_entry)
  pub last : get_or entries 16 no_entry ≡ new_entry k
  pub locks : v.seat.locks ≡ keys
  pub took : v.took ≡ tooks t keys entries 16

-- The pass has locked the header and all records of a full leaf with these keys, and published the halves of what was
-- read, and of one key more.
pub record CanTurn
    (v : View) (t : ℕ) (sp : Span) (keys : List Key) (k : Key) (entries sorted : List Entry) (minor major : ℕ)
    : Type 0 where
  pub moved : AreMoved v t sp keys k entries
  pub order : AreInOrder entries sorted
  pub active : IsActive v.role
  pub worker : v.role ≡ Keeper → ⊥
  pub idle : v.seat.stage ≡ Idle
  pub page : IsTreeAt v t sp
  pub there : t < v.layout.slots
  pub words : List ℕ
  pub one : IsOneHead v t keys words
  pub made : v.grip.made ≡ major ∷ minor ∷ []
  pub leaves : v.new_leaves ≡ upper_of major sp sorted ∷ lower_of minor sp sorted ∷ []
  pub copies : v.copies ≡ []
  pub blanks : v.blanks ≡ []
  pub inners : v.new_inners ≡ []
  pub minor_there : minor < v.layout.slots
  pub major_there : major < v.layout.slots
  pub minor_unheld : has_slot v.grip.holds minor ≡ false
  pub major_unheld : has_slot v.grip.holds major ≡ false
  pub apart : minor ≢ major

-- the half that is made for the key
abbrev pub half_of : Key → List Entry → NewLeaf → NewLeaf → NewLeaf
half_of k sorted lower upper = if nat_lt k.key (separator_of sorted) then lower else upper

-- the view v with what the turn changes as w has it
abbrev pub as_turned : ℕ → NewLeaf → NewLeaf → NewLeaf → ℕ → View → View → View
as_turned t lower upper half separator v w = record v {
  steps = w.steps;
  reads = w.reads;
  loaded = None;
  seat = record v.seat { locks = [] };
  took = [];
  grip = record v.grip { holds = half.slot ∷ v.grip.holds; made = [] };
  ways = record { slot = half.slot; span = half.span } ∷ v.ways;
  known = record { slot = half.slot; keys = half.keys } ∷ v.known;
  new_leaves = [];
  heads = [];
  moved = record { slot = t; minor = lower.slot; major = upper.slot; separator = separator } ∷ v.moved;
}

-- the words of the leaf with the slots of its halves and the separator
abbrev pub twin_words : ℕ → ℕ → ℕ → List ℕ → List ℕ
twin_words minor major separator words =
    slice_set (slice_set (slice_set words 3 (minor + 1)) 4 (major + 1)) 5 separator

-- The leaf leads to its halves. The one that is made for the key is held and has it, and the key's record, which is
-- absent, has its word here.
pub record HasTurned
    (t : ℕ) (sp : Span) (k : Key) (sorted : List Entry) (minor major at : ℕ) (slots held : List ℕ) (v w : View)
    : Type 0 where
  pub half : NewLeaf
  pub is_half : half ≡ half_of k sorted (lower_of minor sp sorted) (upper_of major sp sorted)
  pub inside : in_span half.span k ≡ true
  pub index : ℕ
  pub record_at : IsTreeRecordAt w k (spot half.slot index) at
  pub worked : WorkedIn t v w
  pub steps : w.steps ≡ v.steps + 5
  pub holds : held ≡ slots ++ half.slot ∷ []
  pub agree : WaysAgree w.ways
  pub trees : TreesAgree w
  pub is : w ≡ as_turned t (lower_of minor sp sorted) (upper_of major sp sorted) half (separator_of sorted) v w

-- ---- under the header's lock

-- The pass, which is a worker's and has no attempt and no lock but that of the header, knows the keys of the full leaf,
-- which has the key not; the slots of the set are those that it holds, and there is room for one more.
pub record CanSplitLocked (slots : List ℕ) (v : View) (t : ℕ) (sp : Span) (k : Key) (at word : ℕ) : Type 0 where
  pub keys : List Key
  pub words : List ℕ
  pub leaf : KnowsFull v t sp keys
  pub worker : v.role ≡ Keeper → ⊥
  pub unlocked : v.seat.locks ≡ []
  pub took : v.took ≡ []
  pub one : IsOneHead v t keys words
  pub inside : in_span sp k ≡ true
  pub new : has_key keys k ≡ false
  pub header : at ≡ page_at v.layout.slots t 0
  pub whole : word ≡ open_word tree_leaf.room
  pub holds : HoldsAre slots v
  pub room : length slots < 128
  pub nothing_made : HasMadeNothing v

-- the view v with what the split changes behind the lock, as w has it
abbrev pub as_split_locked : ℕ → NewLeaf → NewLeaf → NewLeaf → ℕ → View → View → View
as_split_locked t lower upper half separator v w = record v {
  steps = w.steps;
  last = w.last;
  reads = w.reads;
  loaded = w.loaded;
  touched = w.touched;
  versions = w.versions;
  looked = w.looked;
  grip = record v.grip { holds = half.slot ∷ v.grip.holds };
  ways = record { slot = half.slot; span = half.span } ∷ v.ways;
  known = record { slot = half.slot; keys = half.keys } ∷ v.known;
  heads = [];
  moved = record { slot = t; minor = lower.slot; major = upper.slot; separator = separator } ∷ v.moved;
}

-- the leaf leads to its halves, of which the one that is made for the key is held
pub record HasSplitLocked
    (t : ℕ) (sp : Span) (k : Key) (at : ℕ) (slots held : List ℕ) (v w : View)
    : Type 0 where
  pub sorted : List Entry
  pub minor : ℕ
  pub major : ℕ
  pub half : NewLeaf
  pub is_half : half ≡ half_of k sorted (lower_of minor sp sorted) (upper_of major sp sorted)
  pub inside : in_span half.span k ≡ true
  pub index : ℕ
  pub record_at : IsTreeRecordAt w k (spot half.slot index) at
  pub worked : WorkedIn t v w
  pub taken : HasTakenFirst t tree_leaf.room v w
  pub most : w.steps ≤ v.steps + (2 * v.layout.slots + 200)
  pub holds : held ≡ slots ++ half.slot ∷ []
  pub agree : WaysAgree w.ways
  pub trees : TreesAgree w
  pub is : w ≡ as_split_locked t (lower_of minor sp sorted) (upper_of major sp sorted) half (separator_of sorted) v w

-- the view v with what a try leaves behind the lock, as w has it
abbrev pub as_tried_locked : View → View → View
as_tried_locked v w = record v {
  steps = w.steps;
  last = w.last;
  reads = w.reads;
  loaded = w.loaded;
  touched = w.touched;
  versions = w.versions;
  looked = w.looked;
}

-- a record had changed, or no slot was given; the header alone is locked then, and nothing made
pub record HasNotSplitLocked (t : ℕ) (why : RefusalCause) (v w : View) : Type 0 where
  pub worked : WorkedIn t v w
  pub most : w.steps ≤ v.steps + (2 * v.layout.slots + 250)
  pub is : w ≡ as_tried_locked v w
  pub cause : RefusesRecord t why v w ⊎ RefusesHalf t why v w
