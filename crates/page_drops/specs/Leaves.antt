-- What is compared and locked of a leaf.
use Rattle.std.specs.Prelude.{◌≡◌, ℕ, zero, suc, ◌+◌, ◌*◌, ◌^◌, ◌<◌, ◌≤◌, true, List, [], ◌∷◌, ◌++◌, length, Some}
use Rattle.std.specs.Prelude.{Contains}
use Rattle.std.specs.Prelude.{unwrap_or}
use Rattle.serial_model.specs.declared.key.Key.{Key}
use Rattle.homes.specs.declared.places.At.{At}
use Rattle.homes.specs.declared.places.Content.{Content}
use Rattle.homes.specs.declared.places.Span.{Span}
use Rattle.homes.specs.declared.places.Spot.{Spot}
use Rattle.wire_form.specs.Leaves.{array_leaf}
use Rattle.wire_form.specs.Words.{number_word}
use Rattle.snapshot_store.specs.ArrayPages.{last_at}
use Rattle.commit_core.specs.declared.part.Part.{Part}
use Rattle.commit_core.specs.declared.part.Word.TheVariants.{Record}
use Rattle.commit_core.specs.declared.seat.Stage.TheVariants.{Idle}
use Rattle.commit_core.specs.Parts.{record_part}
use Rattle.engine_pages.specs.declared.view.KeptWhy.TheVariants.{Locked}
use Rattle.engine_pages.specs.declared.view.Read.{Read}
use Rattle.engine_pages.specs.declared.view.Role.TheVariants.{Keeper}
use Rattle.engine_pages.specs.declared.view.Took.{Took}
use Rattle.engine_pages.specs.declared.view.View.{View}
use Rattle.drop_core.specs.Event.{without}
use Rattle.engine_pages.specs.Layout.{page_at, words_of}
use Rattle.engine_pages.specs.Pages.{is_array, is_leaf_span}
use Rattle.engine_pages.specs.Pointers.{IsArrayPointerAt, half_of}
use Rattle.engine_pages.specs.Resident.{array_word, array_value}
use Rattle.engine_pages.specs.Slots.{other_copies, other_heads, other_inners, other_leaves, other_shuts}
use Rattle.engine_pages.specs.Steps.{seen_at}
use Rattle.engine_pages.specs.Touches.{takes, touch}
use Rattle.engine_pages.specs.Words.{spot}
use Rattle.dual_pointer.specs.Copies.{IsLeadOf}
use Rattle.page_records.specs.Locks.{took_at}
use Rattle.pointer_swings.specs.Swings.{key_in}
use Rattle.page_drops.specs.declared.noting.Kept.{Kept}
use Rattle.page_drops.specs.Works.{read_of, IsOutside, OnlyLooked, WorkedOn}

-- ---- what is asked

-- The maintenance thread's pass, which has no attempt, holds the slot, whose page is the leaf of an array over these
-- keys; the snapshot page with this number, or none, is one that it knows. It has locked no header, and shut no pointer.
pub record AtLeaf (t : ℕ) (sp : Span) (page : ℕ) (v : View) : Type 0 where
  pub keeper : v.role ≡ Keeper
  pub idle : v.seat.stage ≡ Idle
  pub way : Contains v.ways (record { slot = t; span = sp })
  pub slot : t < v.layout.slots
  pub array : is_array v.layout.decls sp.storage ≡ true
  pub leaf : is_leaf_span sp ≡ true
  pub low : sp.low < 2 ^ 32
  pub there : page ≤ length v.pages
  pub room : page ≤ v.layout.resident
  pub heads : v.heads ≡ []
  pub shuts : v.shuts ≡ []

-- ---- what was seen

-- What the pass keeps of the record with this index is what these words of a snapshot page say.
pub record IsSeenAs (kept : List Part) (t : ℕ) (sp : Span) (words : List ℕ) (i : ℕ) : Type 0 where
  pub content : Content
  pub has : Contains kept (record_part (key_in sp i) (spot t i) content)
  pub number : number_word content.number ≡ array_word words i
  pub value : unwrap_or content.value 0 ≡ array_value words i
  pub low : array_word words i < 2 ^ 60

-- Nothing that was kept of other records was let go.
abbrev pub KeepsOthers : Spot → List Part → List Part → Type 0
KeepsOthers x old new = (part : Part) → Contains old part → (part.word ≡ Record x → ⊥) → Contains new part

-- the record with this index was compared, and is what the words say
pub record HasCompared (t : ℕ) (sp : Span) (words : List ℕ) (i : ℕ) (v w : View) : Type 0 where
  pub looked : OnlyLooked v w
  pub seen : IsSeenAs w.seat.kept t sp words i
  pub others : KeepsOthers (spot t i) v.seat.kept w.seat.kept

-- so were all records
pub record HasComparedAll (t : ℕ) (sp : Span) (words : List ℕ) (v w : View) : Type 0 where
  pub looked : OnlyLooked v w
  pub seen : (i : ℕ) → i < array_leaf.room → IsSeenAs w.seat.kept t sp words i

-- ---- what is locked

-- so many keys of a span, from this index on
abbrev pub key_row : Span → ℕ → ℕ → List Key
key_row sp j zero = []
key_row sp j (suc n) = key_in sp j ∷ key_row sp (suc j) n

-- the locks of so many records, from this index on, with the words of a snapshot page
abbrev pub took_row : ℕ → Span → List ℕ → ℕ → ℕ → List Took
took_row t sp words j zero = []
took_row t sp words j (suc n) = took_at (key_in sp j) (spot t j) (array_word words j) ∷ took_row t sp words (suc j) n

-- the pass has locked so many records, from this index on, and nothing else
pub record HasRow (t : ℕ) (sp : Span) (words : List ℕ) (j n : ℕ) (v : View) : Type 0 where
  pub locks : v.seat.locks ≡ key_row sp j n
  pub took : v.took ≡ took_row t sp words j n

-- records were locked or opened, and nothing else was done: what was kept is kept
pub record HasMoved (v w : View) : Type 0 where
  pub worked : WorkedOn v w
  pub later : v.steps ≤ w.steps
  pub parts : w.seat.kept ≡ v.seat.kept
  pub kept : w.kept ≡ v.kept

-- the record words of a leaf with these words have no lock
abbrev pub AreLow : List ℕ → Type 0
AreLow words = (i : ℕ) → i < array_leaf.room → array_word words i < 2 ^ 60

-- the first lock that the pass has is of the record with this index
abbrev pub HasFirst : ℕ → Span → List ℕ → ℕ → View → Type 0
HasFirst t sp words j v = (n : ℕ) × HasRow t sp words j (suc n) v

-- that one is opened, and the others are locked still
pub record HasOpened (t : ℕ) (sp : Span) (words : List ℕ) (j : ℕ) (v w : View) : Type 0 where
  pub moved : HasMoved v w
  pub row : (n : ℕ) → HasRow t sp words j (suc n) v → HasRow t sp words (suc j) n w

-- what was last seen of other words than that of the record with this index is as it was
abbrev pub KeepsSeenBut : ℕ → ℕ → View → View → Type 0
KeepsSeenBut t j v w =
    (word : ℕ) → (word ≡ page_at v.layout.slots t (2 * j) → ⊥) → seen_at w.reads word ≡ seen_at v.reads word

-- the same of other words than those of the first records, so many
abbrev pub KeepsSeen : ℕ → ℕ → View → View → Type 0
KeepsSeen t n v w = (word : ℕ) → ((i : ℕ) → i < n → word ≡ page_at v.layout.slots t (2 * i) → ⊥)
    → seen_at w.reads word ≡ seen_at v.reads word

-- of the leaf's records, from this index on, it locked none meanwhile
abbrev pub LocksNone : Span → ℕ → View → View → Type 0
LocksNone sp j v w = (i : ℕ) → j ≤ i → takes 0 (key_in sp i) w ≡ takes 0 (key_in sp i) v

-- one record more was locked, of this key
abbrev pub LocksOne : Key → View → View → Type 0
LocksOne k v w = w.touched ≡ v.touched ++ touch 0 k ∷ []

-- The record with this index was locked behind those before it, with its word of the snapshot page: one record more, by
-- the pass itself. What was kept is kept.
pub record LocksNext (t : ℕ) (sp : Span) (words : List ℕ) (i : ℕ) (v w : View) : Type 0 where
  pub moves : HasMoved v w
  pub row : HasRow t sp words 0 (i + 1) w
  pub own : LocksOne (key_in sp i) v w

-- the leaf was kept for the word of the record with this index, and none was locked meanwhile
abbrev pub MetOne : ℕ → ℕ → Kept → View → View → Type 0
MetOne t j k v w = (k.word ≡ page_at v.layout.slots t (2 * j)) × (w.touched ≡ v.touched)

-- A leaf that was kept for a record that was locked wasn't for a lock that the pass itself took meanwhile.
abbrev pub MetOthers : Span → ℕ → Kept → View → View → Type 0
MetOthers sp t k v w = k.why ≡ Locked → (i : ℕ) → k.word ≡ page_at v.layout.slots t (2 * i)
    → takes 0 (key_in sp i) w ≡ takes 0 (key_in sp i) v

-- ---- a leaf is taken out of memory

-- The pointer at this place over these keys was last seen or left with this word, which leads to the slot, in whose
-- page it doesn't stand; the snapshot page with this number stands for the same keys, those of a leaf; and the pass has
-- locked nothing.
pub record CanDrop (x : At) (sp : Span) (at t page word : ℕ) (v : View) : Type 0 where
  pub leaf : AtLeaf t sp page v
  pub place : IsArrayPointerAt v x sp at
  pub inside : at < words_of v.layout
  pub leads : half_of word ≡ Some t
  pub met : seen_at v.reads at ≡ Some word
  pub apart : IsOutside v.layout.slots t at
  pub exact : sp.high ≡ sp.low + last_at 0
  pub lead : 0 < page → IsLeadOf v sp page
  pub locks : v.seat.locks ≡ []
  pub took : v.took ≡ []

-- The pointer, whose word is here, was left with the number of the snapshot page alone, and the view says what was seen
-- of it before; the slot is given up, and nothing is locked; no page more is noted as kept.
pub record HasDropped (t at page : ℕ) (v w : View) : Type 0 where
  pub is : w ≡ record v {
    steps = w.steps;
    last = w.last;
    reads = w.reads;
    history = w.history;
    decided = w.decided;
    seat = record v.seat { kept = w.seat.kept; locks = [] };
    took = [];
    touched = w.touched;
    loaded = w.loaded;
    grip = record v.grip { made = without v.grip.made t; taken = without (t ∷ v.grip.taken) t };
    copies = other_copies t v.copies;
    blanks = without v.blanks t;
    new_leaves = other_leaves t v.new_leaves;
    new_inners = other_inners t v.new_inners;
    heads = other_heads t v.heads;
    shuts = other_shuts t v.shuts;
    swung = v.swung ++ record { word = at; slot = t } ∷ [];
  }
  pub later : v.steps ≤ w.steps
  pub led : (r : Read) × (read_of w.reads at ≡ Some r) × (r.seen ≡ page) × (r.was ≡ seen_at v.reads at)
