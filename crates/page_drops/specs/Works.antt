-- What work on the page of a slot leaves of a pass, and what it tells of a page that it keeps.
use Rattle.std.specs.Prelude.{◌≡◌, ◌≢◌, ◌⊎◌, ℕ, ◌+◌, ◌*◌, ◌^◌, ◌<◌, ◌≤◌, ◌==◌, List, [], ◌∷◌, ◌++◌, get_or, Option}
use Rattle.std.specs.Prelude.{◌%◌, length, slice_get, Some, None, Contains, cond, false, true, ⊤}
use Rattle.std.specs.List.{find}
use Rattle.atomic_table.specs.Table.{Step}
use Rattle.lists.specs.Fronts.{IsFront}
use Rattle.serial_model.specs.declared.key.Key.{Key}
use Rattle.homes.specs.declared.places.At.{At}
use Rattle.homes.specs.declared.places.Span.{Span}
use Rattle.homes.specs.Homes.{has_key, in_span}
use Rattle.wire_form.specs.Leaves.{array_leaf}
use Rattle.snapshot_store.specs.Places.{page as page_words}
use Rattle.drop_core.specs.Table.{has_slot}
use Rattle.engine_pages.specs.declared.view.Glance.{Glance}
use Rattle.engine_pages.specs.declared.view.Head.{Head}
use Rattle.engine_pages.specs.declared.view.KeptPage.{KeptPage}
use Rattle.engine_pages.specs.declared.view.KeptWhy.{KeptWhy}
use Rattle.engine_pages.specs.declared.view.KeptWhy.TheVariants.{Locked, Unlike, UnlikeAt, Under, Changed, Long}
use Rattle.engine_pages.specs.declared.view.Known.{Known}
use Rattle.engine_pages.specs.declared.view.Moved.{Moved}
use Rattle.engine_pages.specs.declared.view.Read.{Read}
use Rattle.engine_pages.specs.declared.view.Shut.{Shut}
use Rattle.engine_pages.specs.declared.view.Took.{Took}
use Rattle.engine_pages.specs.declared.view.Touch.{Touch}
use Rattle.engine_pages.specs.declared.view.View.{View}
use Rattle.engine_pages.specs.declared.view.Way.{Way}
use Rattle.engine_pages.specs.Layout.{clock_at, page_at}
use Rattle.engine_pages.specs.Pages.{is_array}
use Rattle.engine_pages.specs.Pointers.{IsPointerAt}
use Rattle.engine_pages.specs.Steps.{glance, glanced, seen_at}
use Rattle.engine_pages.specs.Words.{spot}
use Rattle.page_drops.specs.declared.noting.Kept.{Kept}

-- The pass went on: it has what it had, but for what it saw, its locks of records, and the pages that it noted as kept.
abbrev pub WorkedOn : View → View → Type 0
WorkedOn v w = w ≡ record v {
  steps = w.steps;
  last = w.last;
  reads = w.reads;
  history = w.history;
  decided = w.decided;
  seat = record v.seat { kept = w.seat.kept; locks = w.seat.locks };
  took = w.took;
  touched = w.touched;
  loaded = w.loaded;
  kept = w.kept;
}

-- the same, with the locks that it had, and no page more that is kept
pub record OnlyLooked (v w : View) : Type 0 where
  pub worked : WorkedOn v w
  pub later : v.steps ≤ w.steps
  pub locks : w.seat.locks ≡ v.seat.locks
  pub took : w.took ≡ v.took
  pub kept : w.kept ≡ v.kept

-- What was seen of draws and decisions has grown at its end, and what was locked more is the maintenance thread's.
pub record SawMore (v w : View) : Type 0 where
  pub drawn : IsFront v.history w.history
  pub decided : IsFront v.decided w.decided
  pub touched : (z : Touch) → Contains w.touched z → Contains v.touched z ⊎ (z.seat ≡ 0)

-- so it did, and locked no record
pub record SawAlone (v w : View) : Type 0 where
  pub more : SawMore v w
  pub none : w.touched ≡ v.touched

-- ---- a page that is kept

-- the step of the last load or compare_exchange
abbrev pub last_step : Option Glance → ℕ
last_step None = 0
last_step (Some g) = g.step

-- the note of a page that is kept, by the word that was seen last
abbrev pub note_of : View → Kept → KeptPage
note_of v k = record { step = last_step v.last; word = k.word; seen = k.seen; why = k.why }

-- one page more is noted as kept
abbrev pub noted : KeptPage → ℕ → View → View
noted page n v = record (glanced clock_at n v) { kept = v.kept ++ page ∷ [] }

-- the same of the step
abbrev pub Notes : KeptPage → Step (Unit {0}) → View → ℕ → View → Type 0
Notes page s v n w = (s.word ≡ clock_at) × (w ≡ noted page n v)

-- the word was seen last
abbrev pub HasSeenLast : View → Kept → Type 0
HasSeenLast v k = (step : ℕ) × (v.last ≡ Some (glance step k.word k.seen))

-- Why a leaf in a slot was kept that is compared with a snapshot page of these words: a record's word was locked, or
-- was unlocked and is not the snapshot's, or its value isn't.
abbrev pub IsLeafCause : ℕ → ℕ → List ℕ → KeptWhy → ℕ → ℕ → Type 0
IsLeafCause slots t words Locked word seen =
    (i : ℕ) × (i < array_leaf.room) × (word ≡ page_at slots t (2 * i)) × (2 ^ 60 ≤ seen)
IsLeafCause slots t words Unlike word seen =
    (i : ℕ) × (i < array_leaf.room)
    × (((word ≡ page_at slots t (2 * i)) × (seen < 2 ^ 60) × (seen ≢ get_or words (2 * i) 0))
    ⊎ ((word ≡ page_at slots t (2 * i + 1)) × (seen ≢ get_or words (2 * i + 1) 0)))
IsLeafCause slots t words (UnlikeAt key) word seen = ⊥
IsLeafCause slots t words Under word seen = ⊥
IsLeafCause slots t words (Changed expected) word seen = ⊥
IsLeafCause slots t words Long word seen = ⊥

-- The same, or the pointer above, whose word is here and was this one as the work began, was found to be another.
abbrev pub IsCauseBelow : ℕ → ℕ → List ℕ → ℕ → ℕ → KeptWhy → ℕ → ℕ → Type 0
IsCauseBelow slots t words at before why word seen =
    IsLeafCause slots t words why word seen ⊎ ((word ≡ at) × (why ≡ Changed before) × (seen ≢ before))

-- The pass noted, of this call, that it keeps a page, and why.
pub record HasKept (cause : KeptWhy → ℕ → ℕ → Type 0) (k : Kept) (v w : View) : Type 0 where
  pub page : KeptPage
  pub is : w.kept ≡ v.kept ++ page ∷ []
  pub told : page ≡ record { step = page.step; word = k.word; seen = k.seen; why = k.why }
  pub since : v.steps ≤ page.step
  pub before : page.step < w.steps
  pub cause-is : cause k.why k.word k.seen

-- so it did, and has the locks that it had
pub record KeepsIt (cause : KeptWhy → ℕ → ℕ → Type 0) (k : Kept) (v w : View) : Type 0 where
  pub worked : WorkedOn v w
  pub locks : w.seat.locks ≡ v.seat.locks
  pub took : w.took ≡ v.took
  pub kept : HasKept cause k v w

-- of a leaf that is compared with the snapshot page with this number
abbrev pub KeepsLeaf : ℕ → ℕ → Kept → View → View → Type 0
KeepsLeaf t page k v w = KeepsIt (IsLeafCause v.layout.slots t (page_words v.pages page)) k v w

-- and of one to which a pointer leads by this word
abbrev pub KeepsBelow : ℕ → ℕ → ℕ → ℕ → Kept → View → View → Type 0
KeepsBelow t page at before k v w =
    KeepsIt (IsCauseBelow v.layout.slots t (page_words v.pages page) at before) k v w

-- the word for which the page was kept was last seen or left as it was then
abbrev pub IsSeenStill : Kept → View → Type 0
IsSeenStill k w = seen_at w.reads k.word ≡ Some k.seen

-- ---- looks

-- the pass loaded words, and knows nothing more by it
pub record HasGlanced (v w : View) : Type 0 where
  pub is : w ≡ record v { steps = w.steps; last = w.last }
  pub later : v.steps ≤ w.steps

-- it noted a page, which it saw last
abbrev pub IsNoted : Kept → View → View → Type 0
IsNoted k v w = (n : ℕ) × (w ≡ noted (note_of v k) n v)

-- ---- what was read

-- the entry of a word, where it was met
abbrev pub read_of : List Read → ℕ → Option Read
read_of reads word = find (λ r. r.word == word) reads

-- the word stands in no page of the slot
abbrev pub IsOutside : ℕ → ℕ → ℕ → Type 0
IsOutside slots t word = (i : ℕ) → i < 64 → word ≡ page_at slots t i → ⊥

-- what was read of words outside of the slot's page is as it was
abbrev pub KeepsReads : ℕ → View → View → Type 0
KeepsReads t v w = (word : ℕ) → IsOutside v.layout.slots t word → read_of w.reads word ≡ read_of v.reads word

-- the same of all but one of them
abbrev pub KeepsReadsBut : ℕ → ℕ → View → View → Type 0
KeepsReadsBut t at v w =
    (word : ℕ) → (word ≡ at → ⊥) → IsOutside v.layout.slots t word → read_of w.reads word ≡ read_of v.reads word

-- Where a page was kept since the pointer above had changed, whose word is here, the entry of that word says what was
-- seen before; else it is as it was.
abbrev pub TellsAbove : KeptWhy → ℕ → ℕ → View → View → Type 0
TellsAbove Locked at seen v w = read_of w.reads at ≡ read_of v.reads at
TellsAbove Unlike at seen v w = read_of w.reads at ≡ read_of v.reads at
TellsAbove (UnlikeAt key) at seen v w = read_of w.reads at ≡ read_of v.reads at
TellsAbove Under at seen v w = read_of w.reads at ≡ read_of v.reads at
TellsAbove (Changed expected) at seen v w =
    (r : Read) × (read_of w.reads at ≡ Some r) × (r.seen ≡ seen) × (r.was ≡ Some expected)
TellsAbove Long at seen v w = read_of w.reads at ≡ read_of v.reads at

-- ---- what a note of a page that is kept needs

-- where the word of a locked record stands
abbrev pub locked_at : View → Took → ℕ
locked_at v x = page_at v.layout.slots (x.spot).slot
    (cond (is_array v.layout.decls (x.key).storage) (2 * (x.spot).index) (17 + 3 * (x.spot).index))

-- the slot is that of an array's page, which has no header
abbrev pub IsOfArray : View → ℕ → Type 0
IsOfArray v t = (x : Way) × Contains v.ways x × (x.slot ≡ t) × (is_array v.layout.decls (x.span).storage ≡ true)

-- the word is that of a pointer at another place
abbrev pub IsPointerBeside : View → At → ℕ → Type 0
IsPointerBeside v x word = (y : At) × (sp : Span) × IsPointerAt v y sp word × (y ≢ x)

-- it is that of a pointer
abbrev pub IsPointerWord : View → ℕ → Type 0
IsPointerWord v word = (y : At) × (sp : Span) × IsPointerAt v y sp word

-- the pass has locked the header of the leaf in the slot
abbrev pub HasHeadAt : View → ℕ → Type 0
HasHeadAt v t = (x : Head) × Contains v.heads x × (x.slot ≡ t)

-- The word, which was seen so, is of no record, header or pointer that the pass itself has locked or shut. The header of
-- a leaf that was split says that it was. Nor is it of a record of a leaf that the pass knows to have been split: those
-- are locked for good, by nobody. What stands where such a record would is an array's, a pointer, or a record of a leaf
-- whose header the pass has locked, which wasn't split.
pub record IsForeign (v : View) (word seen : ℕ) : Type 0 where
  pub records : (x : Took) → Contains v.took x → word ≢ locked_at v x
  pub heads : (x : Head) → Contains v.heads x → word ≢ page_at v.layout.slots x.slot 0
  pub sealed : (t : ℕ) → has_slot v.sealed t ≡ true → word ≡ page_at v.layout.slots t 0
      → (seen < 2 ^ 62) ⊎ IsOfArray v t
  pub shuts : (x : Shut) → Contains v.shuts x → IsPointerBeside v x.at word
  pub alive : (x : Moved) (i : ℕ) → Contains v.moved x → i < 16 → word ≡ page_at v.layout.slots x.slot (17 + 3 * i)
      → IsOfArray v x.slot ⊎ (IsPointerWord v word ⊎ HasHeadAt v x.slot)

-- the view's entry of the word says that it was this one at the load or compare_exchange right before, and is so now
pub record HasTurnedFrom (v : View) (word seen expected : ℕ) : Type 0 where
  pub other : seen ≢ expected
  pub read : Read
  pub has : read_of v.reads word ≡ Some read
  pub now : read.seen ≡ seen
  pub was : read.was ≡ Some expected

-- the pass has locked the record with this index in the slot
abbrev pub HasTookAt : View → ℕ → ℕ → Type 0
HasTookAt v t i = (x : Took) × Contains v.took x × (x.spot ≡ spot t i)

-- The word is that of the key's record, or of its value, in the leaf of a tree of which the pass knows the keys. That
-- wasn't split: the pass knows of no split, or has locked the header or the record, as nobody can of a split leaf.
pub record IsWordOfKey (v : View) (key : Key) (word : ℕ) : Type 0 where
  pub leaf : Known
  pub has : Contains v.known leaf
  pub index : ℕ
  pub few : index < 16
  pub at : slice_get leaf.keys index ≡ Some key
  pub place : (word ≡ page_at v.layout.slots leaf.slot (17 + 3 * index))
      ⊎ (word ≡ page_at v.layout.slots leaf.slot (18 + 3 * index))
  pub alive : (x : Moved) → Contains v.moved x → x.slot ≡ leaf.slot
      → HasHeadAt v leaf.slot ⊎ HasTookAt v leaf.slot index

-- the pass has locked the header of the leaf in the slot, which hasn't the key
abbrev pub IsHeadWithout : View → Key → ℕ → Type 0
IsHeadWithout v key t = (x : Head) × Contains v.heads x × (x.slot ≡ t) × (has_key x.keys key ≡ false)

-- The pass knows as many keys of the leaf in the slot as its header counts, which was last seen or left as that of one
-- that wasn't split, and this key is none of them.
pub record IsLeafWithout (v : View) (key : Key) (t : ℕ) : Type 0 where
  pub leaf : Known
  pub has : Contains v.known leaf
  pub slot : leaf.slot ≡ t
  pub header : ℕ
  pub met : seen_at v.reads (page_at v.layout.slots t 0) ≡ Some header
  pub whole : header < 2 ^ 62
  pub all : length leaf.keys ≡ header % 2 ^ 8
  pub none : has_key leaf.keys key ≡ false

-- either of them
abbrev pub LacksKey : View → Key → ℕ → Type 0
LacksKey v key t = IsHeadWithout v key t ⊎ IsLeafWithout v key t

-- a span's keys are among those of another one
abbrev pub LiesWithin : Span → Span → Type 0
LiesWithin whole sp = (whole.low ≤ sp.low) × (sp.high ≤ whole.high)

-- the pass holds the slot, whose page is over keys among these
abbrev pub HasWayWithin : View → Span → ℕ → Type 0
HasWayWithin v whole t = (x : Way) × Contains v.ways x × (x.slot ≡ t) × LiesWithin whole x.span

-- The leaf in the slot was split, and the pass holds both of its halves, over keys among these.
pub record HasHalvesOf (v : View) (whole : Span) (t : ℕ) : Type 0 where
  pub moved : Moved
  pub has : Contains v.moved moved
  pub slot : moved.slot ≡ t
  pub minor : HasWayWithin v whole moved.minor
  pub major : HasWayWithin v whole moved.major

-- No leaf that came of the one in the slot has the key, which is one of that leaf's span: each page that the pass holds
-- over keys of the span is a leaf without it, or one that was split, and then the pass holds both halves.
pub record LacksKeyBelow (v : View) (key : Key) (t : ℕ) : Type 0 where
  pub whole : Span
  pub way : Contains v.ways (record { slot = t; span = whole })
  pub over : in_span whole key ≡ true
  pub each : (x : Way) → Contains v.ways x → LiesWithin whole x.span
      → LacksKey v key x.slot ⊎ HasHalvesOf v whole x.slot

-- What stands at a key of a tree is seen by the word of its record or its value; and that nothing does, by the header of
-- the leaf that would have it, or of the first one of those that came of a split one.
abbrev pub IsKeyDue : View → Key → ℕ → Type 0
IsKeyDue v key word = IsWordOfKey v key word
    ⊎ ((t : ℕ) × (word ≡ page_at v.layout.slots t 0) × (LacksKey v key t ⊎ LacksKeyBelow v key t))

-- Where a page may be noted as kept for a lock, somebody else has it; where for what stands at a key of a tree, the
-- pass knows the key there, or that it isn't there; where for a change, the pass saw it.
abbrev pub IsKeepDue : KeptWhy → ℕ → ℕ → View → Type 0
IsKeepDue Locked word seen v = IsForeign v word seen
IsKeepDue Unlike word seen v = ⊤
IsKeepDue (UnlikeAt key) word seen v = IsKeyDue v key word
IsKeepDue Under word seen v = ⊤
IsKeepDue (Changed expected) word seen v = HasTurnedFrom v word seen expected
IsKeepDue Long word seen v = ⊤
