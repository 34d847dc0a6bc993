-- The rule: the words and all views show one sound state of the machines of commits and pages.
use Rattle.std.specs.Prelude.{◌≡◌, ◌⊎◌, ℕ, suc, ◌+◌, ◌<◌, ◌≤◌, ◌^◌, ◌&&◌, ◌||◌, nat_le, Bool, true, false}
use Rattle.std.specs.Prelude.{List, [], ◌∷◌, length, get_or, slice_get, Option, Some, None, IfSome, Contains, is_some}
use Rattle.std.specs.Prelude.{if◌then◌else◌, unwrap_or, ⊤}
use Rattle.std.specs.List.{AllByRecursion, list_any}
use Rattle.lists.specs.Fronts.{IsFront}
use Rattle.serial_model.specs.declared.decl.Decl.{Decl}
use Rattle.serial_model.specs.declared.key.Key.{Key}
use Rattle.serial_model.specs.declared.number.Change.{Change}
use Rattle.serial_model.specs.declared.number.Number.{Number}
use Rattle.serial_model.specs.Decls.{AreDecls}
use Rattle.serial_model.specs.Numbers.{IsBelow}
use Rattle.homes.specs.declared.places.At.{At}
use Rattle.homes.specs.declared.places.At.TheVariants.{Root, In}
use Rattle.homes.specs.declared.places.Content.{Content}
use Rattle.homes.specs.declared.places.Holder.TheVariants.{Free, Held, Dead}
use Rattle.homes.specs.declared.places.Home.TheVariants.{InSlot}
use Rattle.homes.specs.declared.places.Span.{Span}
use Rattle.homes.specs.declared.places.Spot.{Spot}
use Rattle.homes.specs.Homes.{has_key}
use Rattle.wire_form.specs.Leaves.{array_leaf, array_fan, tree_leaf, tree_fan, record_start, word_in}
use Rattle.wire_form.specs.Words.{absent_field, at_bit, number_word, slot_field}
use Rattle.snapshot_store.specs.ArrayPages.{last_at}
use Rattle.snapshot_store.specs.declared.place.PagePlace.{PagePlace}
use Rattle.snapshot_store.specs.Places.{page as page_words}
use Rattle.commit_core.specs.declared.place.Place.{Place}
use Rattle.commit_core.specs.declared.part.Word.{Word}
use Rattle.commit_core.specs.declared.part.Word.TheVariants.{Pointer as PointerOf, Header as HeaderOf}
use Rattle.commit_core.specs.declared.part.Version.TheVariants.{Leads, Counted}
use Rattle.commit_core.specs.declared.part.Part.{Part}
use Rattle.commit_core.specs.declared.attempt.Attempt.{Attempt}
use Rattle.commit_core.specs.declared.attempt.Check.{Check}
use Rattle.commit_core.specs.declared.seat.Mark.{Mark}
use Rattle.commit_core.specs.declared.seat.Seat.{Seat}
use Rattle.commit_core.specs.declared.seat.Stage.{Stage}
use Rattle.commit_core.specs.declared.seat.Stage.TheVariants.{Idle, Trying, Ended, Decided}
use Rattle.commit_core.specs.declared.story.Story.{Story}
use Rattle.commit_core.specs.CoreState.{clock_of, is_checked, is_decided, is_in_progress, last_marked}
use Rattle.commit_core.specs.Keys.{nothing, content_at, opening_number, IsUpTo}
use Rattle.commit_core.specs.Lemmas.Values.{Overwrites}
use Rattle.commit_core.specs.Parts.{same_word, record_part}
use Rattle.commit_core.specs.Places.{place_of, home_of, holder_is}
use Rattle.commit_core.specs.Sound.Reads.{IsVersion}
use Rattle.drop_core.specs.declared.grip.Grip.{Grip}
use Rattle.drop_core.specs.declared.table.Page.TheVariants.{Leaf, Inner as InnerPage, Split}
use Rattle.drop_core.specs.declared.table.Pointer.{Pointer}
use Rattle.drop_core.specs.declared.table.Table.{Table}
use Rattle.drop_core.specs.Event.{is_owned, is_published}
use Rattle.drop_core.specs.Sound.{span_at}
use Rattle.drop_core.specs.Table.{slot_of, page_of, pointer_of, header_of, has_slot, has_pointer, at_index, is_never}
use Rattle.engine_rule.specs.JointState.{JointState}
use Rattle.engine_rule.specs.Sound.{IsSound}
use Rattle.views.specs.ByNumber.{each_below}
use Rattle.views.specs.Sums.{total, times}
use Rattle.engine_pages.specs.declared.layout.Layout.{Layout}
use Rattle.engine_pages.specs.declared.view.Copied.{Copied}
use Rattle.engine_pages.specs.declared.view.Draft.{Draft}
use Rattle.engine_pages.specs.declared.view.Filled.{Filled}
use Rattle.engine_pages.specs.declared.view.Head.{Head}
use Rattle.engine_pages.specs.declared.view.Heard.{Heard}
use Rattle.engine_pages.specs.declared.view.Inner.{Inner}
use Rattle.engine_pages.specs.declared.view.Known.{Known}
use Rattle.engine_pages.specs.declared.view.Lead.{Lead}
use Rattle.engine_pages.specs.declared.view.Loaded.{Loaded}
use Rattle.engine_pages.specs.declared.view.Met.{Met}
use Rattle.engine_pages.specs.declared.view.Moved.{Moved}
use Rattle.engine_pages.specs.declared.view.NewInner.{NewInner}
use Rattle.engine_pages.specs.declared.view.NewLeaf.{NewLeaf}
use Rattle.engine_pages.specs.declared.view.Role.{Role}
use Rattle.engine_pages.specs.declared.view.Role.TheVariants.{Keeper, Worker}
use Rattle.engine_pages.specs.declared.view.Shut.{Shut}
use Rattle.engine_pages.specs.declared.view.Took.{Took}
use Rattle.engine_pages.specs.declared.view.Version.{Version}
use Rattle.engine_pages.specs.declared.view.View.{View}
use Rattle.engine_pages.specs.declared.view.Way.{Way}
use Rattle.engine_pages.specs.Layout.{page_at, snap_at}
use Rattle.engine_pages.specs.Pages.{is_leaf_span, child_span, root_span, Fenced, IsOver, IsLaidOutFor, AreLaidOut}
use Rattle.engine_pages.specs.Pages.{is_array, is_tree, part_between}
use Rattle.engine_pages.specs.Resident.{Published, IsNamed, ArePages, array_record, tree_below}
use Rattle.engine_pages.specs.Touches.{AreBlamed, IsFacing, Touched}
use Rattle.engine_pages.specs.Views.{IsActive, IsAt, HasPart, HasNoPages, HasNoTrees, IsResting, bare_seat, bare_grip}
use Rattle.engine_pages.specs.Views.{drawn_by, sits, makes, waits, tries, owns}
use Rattle.engine_pages.specs.Words.{IsOldBit, IsOverwritten, IsSmall, ShowsWords, ShowsMark, word_of_mark, spot}

-- ---- what all passes share: both machines' state, with each seat by its number, also of those that no pass has now

-- what all passes share
pub record Shared : Type 0 where
  pub story : Story
  pub seats : ℕ → Seat
  pub table : Table
  pub grips : ℕ → Grip
  -- what stands of trees in the pages of slots
  pub trees : ℕ → Option Fenced
  -- the snapshot pages that are published
  pub resident : Published

-- the keeper's and those of eight workers
abbrev pub all_seats : {A : Type 0} → (ℕ → A) → List A
all_seats f = each_below 9 f

-- the state of both machines
abbrev pub joint_of : Layout → Shared → JointState
joint_of l s = record {
  commits = record { opening = l.opening; story = s.story; seats = all_seats s.seats };
  pages = record { table = s.table; grips = all_seats s.grips };
}

-- ---- numbers

-- at first just those keys of arrays have no value whose number is that of a record which was never written
pub record StartsBlank (decls : List Decl) (opening : List (Key × Content)) : Type 0 where
  pub never : (k : Key) → is_array decls k.storage ≡ true → (content_at opening k).value ≡ None
      → (content_at opening k).number ≡ opening_number
  pub blank : (k : Key) → (content_at opening k).number ≡ opening_number → (content_at opening k).value ≡ None

-- attempts write values to arrays: nothing of an array is removed
abbrev pub WriteValues : List Decl → List Attempt → Type 0
WriteValues decls history = (a : Attempt) → Contains history a → (w : Change) → Contains a.writes w
    → is_array decls w.key.storage ≡ true → is_some w.value ≡ true

-- all numbers that there are fit their bits
pub record AllSmall (opening : List (Key × Content)) (m : Story) : Type 0 where
  pub first : (k : Key) → IsSmall (content_at opening k).number
  pub drawn : (a : Attempt) → Contains m.history a → IsSmall a.number
  pub clock : IsSmall (clock_of m.first_draw m.epoch m.history)

-- the last epoch that each seat has marked is below this one
abbrev pub MarkedBelow : ℕ → (ℕ → Seat) → Type 0
MarkedBelow epoch seats = (p : ℕ) → last_marked (seats p).marks < epoch

-- ---- views

-- numbers don't fall from this one on
abbrev pub IsInOrder : Number → List Attempt → Type 0
IsInOrder low [] = ⊤
IsInOrder low (a ∷ more) = IsUpTo low a.number × IsInOrder a.number more

-- The value that was loaded is that of the part which is kept of its record, or that part is overwritten by now, or the
-- record is dead: so a second load of the record's word tells whether they belong together.
abbrev pub StillLoaded : List Attempt → List Number → List (Spot × Place) → List Part → Loaded → Type 0
StillLoaded history decided places kept l = (c : Content) → Contains kept (record_part l.key l.spot c)
    → (l.value ≡ unwrap_or c.value 0)
    ⊎ (((b : Attempt) × Overwrites history decided l.key c.number b) ⊎ ((place_of places l.spot).holder ≡ Dead))

-- numbers at places never fall, so what was kept has at most the number that stands there now
abbrev pub KeptIsLow : List (Spot × Place) → List Part → Type 0
KeptIsLow places kept = (k : Key) (x : Spot) (c : Content) → Contains kept (record_part k x c)
    → IsUpTo c.number (place_of places x).content.number

-- What is kept of records has what stood at their keys at first or was written there; of a tree's record it may also be
-- an absence that lost its number.
abbrev pub KeptAreRecords : List Decl → List (Key × Content) → List Attempt → List Part → Type 0
KeptAreRecords decls opening history kept = (part : Part) → Contains kept part
    → ((k : Key) × (x : Spot) × (c : Content) × (part ≡ record_part k x c)
    × (((c ≡ nothing) × (is_array decls k.storage ≡ false)) ⊎ IsVersion opening history k c))
    ⊎ (((x : At) × (n : ℕ) × (part.word ≡ PointerOf x) × (part.version ≡ Leads n))
    ⊎ ((t : ℕ) × (n : ℕ) × (part.word ≡ HeaderOf t) × (part.version ≡ Counted n)))

-- What was seen to have stood at a key stood there at first or was written there; in a tree it may also be an absence
-- that lost its number.
abbrev pub IsOneOf : List Decl → List (Key × Content) → List Attempt → Version → Type 0
IsOneOf decls opening history x =
    ((x.content ≡ nothing) × (is_array decls x.key.storage ≡ false)) ⊎ IsVersion opening history x.key x.content

-- the word is among these
abbrev pub has_word : List Word → Word → Bool
has_word words w = list_any (λ x. same_word x w) words

-- The own attempt in progress was seen, the view has exactly its checked words, and its number is above those of the
-- own commits.
pub record IsTrying
    (p : ℕ) (history : List Attempt) (checks : List Check) (checked : List Word) (mine : List Attempt) (i : ℕ)
    (a : Attempt)
    : Type 0 where
  pub at : slice_get history i ≡ Some a
  pub own : a.seat ≡ p
  pub exact : (w : Word) → is_checked checks a.number w ≡ has_word checked w
  pub above : (b : Attempt) → Contains mine b → IsBelow b.number a.number

-- so it is where an attempt is in progress; one that is decided with locks left to open was seen
abbrev pub Tried : ℕ → List Attempt → List Check → List Word → List Attempt → Stage → Type 0
Tried p history checks checked mine Idle = ⊤
Tried p history checks checked mine (Trying i) = (a : Attempt) × IsTrying p history checks checked mine i a
Tried p history checks checked mine Ended = ⊤
Tried p history checks checked mine (Decided i) = (a : Attempt) × (slice_get history i ≡ Some a)

-- each attempt in progress is that of its seat, which is the keeper's or one of the eight workers'
abbrev pub EachIsTried : Story → (ℕ → Seat) → Type 0
EachIsTried m seats = (i : ℕ) (a : Attempt) → slice_get m.history i ≡ Some a
    → is_in_progress m.decided m.given_up a.number ≡ true → (a.seat < 9) × ((seats a.seat).stage ≡ Trying i)

-- the bit of the word of a tree's record that has no value; an array's record has no such bit
abbrev pub absence : List Decl → Key → Option ℕ → ℕ
absence decls k value = if is_array decls k.storage then 0 else absent_field tree_leaf value

-- the bit of absence of a key's record as its holder found it
abbrev pub IsBitAt : List Decl → Story → Key → Place → ℕ → Type 0
IsBitAt decls m k q bit = (bit ≡ absence decls k q.content.value)
    ⊎ ((is_array decls k.storage ≡ false) × IsOldBit (IsOverwritten m k) q bit)

-- The record is the seat's own, and has the number that it had when it was locked.
pub record IsHeld (decls : List Decl) (m : Story) (p : ℕ) (t : Took) (x : Spot) : Type 0 where
  pub spot : t.spot ≡ x
  pub home : home_of m.homes t.key ≡ InSlot x
  pub own : holder_is p (place_of m.places x).holder ≡ true
  pub absent : ℕ
  pub number : number_word (place_of m.places x).content.number + absent ≡ t.word
  pub bit : IsBitAt decls m t.key (place_of m.places x) absent

-- one of these locks is of the key
abbrev pub HasLockOf : List Took → Key → Type 0
HasLockOf took k = (t : Took) × Contains took t × (t.key ≡ k)

-- what is true of the view of the pass with this seat
pub record Own (l : Layout) (m : Story) (seats : ℕ → Seat) (v : View) (p : ℕ) : Type 0 where
  pub layout : v.layout ≡ l
  pub seat : v.seat ≡ seats p
  pub tried : Tried p v.history m.checks v.checked v.mine v.seat.stage
  pub took : (t : Took) → Contains v.took t → (x : Spot) × IsHeld l.decls m p t x
  -- and each lock that the seat has stands in the view
  pub locked : (k : Key) → has_key v.seat.locks k ≡ true → HasLockOf v.took k

-- what the view has of its own was seen, counts, and is of this seat where that is a worker's
pub record IsOwn (role : Role) (history : List Attempt) (decided : List Number) (a : Attempt) : Type 0 where
  pub drawn : Contains history a
  pub counts : is_decided decided a.number ≡ true
  pub by : (worker : ℕ) → role ≡ Worker worker → a.seat ≡ suc worker

-- the seats of the workers that are not seated stand in the keeper's view
pub record IsParked (parked : List Seat) (seats : ℕ → Seat) (worker : ℕ) : Type 0 where
  pub is : seats (suc worker) ≡ get_or parked worker bare_seat
  pub resting : IsResting (seats (suc worker))

-- the epoch is over: the clock's and that of each attempt in progress are above it
pub record IsPast (m : Story) (epoch : ℕ) : Type 0 where
  pub clock : epoch < m.epoch
  pub tried : (a : Attempt) → Contains m.history a → is_in_progress m.decided m.given_up a.number ≡ true
      → epoch < a.number.epoch

-- what is true of the keeper's view alone
pub record IsKeepers (m : Story) (seats : ℕ → Seat) (v : View) : Type 0 where
  pub epoch : m.epoch ≤ v.epoch
  pub past : IsPast m v.past
  pub parked_are : length v.parked ≡ 8
  -- what it knows of a worker's marks is no more than what is there
  pub begun : (worker : ℕ) → worker < 8
      → length (get_or v.parked worker bare_seat).marks ≤ length (seats (suc worker)).marks
  pub parked : (worker : ℕ) → worker < 8 → times worker v.made ≡ 0 → IsParked v.parked seats worker

-- the mark that was loaded stands at its place among those that the worker set
abbrev pub WasMarked : (ℕ → Seat) → Met → Type 0
WasMarked seats met =
    (mark : Mark) × (slice_get (seats (suc met.worker)).marks met.place ≡ Some mark) × (met.word ≡ word_of_mark mark)

-- it drew no number, met and took no lock, shut no pointer, and kept and dropped no page
pub record HasDoneNothing (v : View) : Type 0 where
  pub draws : v.draws ≡ 0
  pub touched : v.touched ≡ []
  pub blamed : v.blamed ≡ []
  pub shuts : v.shuts ≡ []
  pub kept : v.kept ≡ []
  pub drops : v.drops ≡ []

-- the view has seen beginnings of the story, and is that of its seat as it is now
pub record Fits (l : Layout) (m : Story) (seats : ℕ → Seat) (v : View) : Type 0 where
  pub history : IsFront v.history m.history
  pub decided : IsFront v.decided m.decided
  pub heard : (x : Heard) → Contains v.heard x
      → IsFront x.history m.history × IsFront x.decided m.decided × (x.epoch ≤ m.epoch)
  pub mine : IsInOrder opening_number v.mine
  pub mine_own : (a : Attempt) → Contains v.mine a → IsOwn v.role v.history v.decided a
  pub records : KeptAreRecords l.decls l.opening m.history v.seat.kept
  pub kept : KeptIsLow m.places v.seat.kept
  pub versions : (x : Version) → Contains v.versions x → IsOneOf l.decls l.opening m.history x
  pub loaded : IfSome v.loaded (StillLoaded m.history m.decided m.places v.seat.kept)
  pub own : (p : ℕ) → IsAt p v.role → Own l m seats v p
  pub low : v.epoch ≤ m.epoch
  pub part : HasPart v.role v.made v.due v.seat.stage v.mine
  -- a note or a spent pass drew none, took, met, shut and dropped nothing, and has a seat with nothing
  pub seatless : (IsActive v.role → ⊥) → HasDoneNothing v
  pub unkept : (IsActive v.role → ⊥) → (v.seat ≡ bare_seat) × (v.took ≡ [])
  pub keepers : v.role ≡ Keeper → IsKeepers m seats v
  pub met : (met : Met) → Contains v.met met → WasMarked seats met

-- ---- what a view knows of pages

-- the seat holds the slot, something has led to it, and its page is laid out for these keys
pub record IsWay (l : Layout) (d : Table) (trees : ℕ → Option Fenced) (holds : List ℕ) (x : Way) : Type 0 where
  pub within : x.slot < l.slots
  pub held : has_slot holds x.slot ≡ true
  pub known : is_never (slot_of d x.slot).led ≡ false
  pub over : IsLaidOutFor l.decls trees d x.slot x.span

-- the seat owns the slot, whose page has no header, and these words stand in its page
pub record IsDraft (words : List ℕ) (slots : ℕ) (d : Table) (mine : List ℕ) (x : Draft) : Type 0 where
  pub slot : x.slot < slots
  pub made : has_slot mine x.slot ≡ true
  pub owned : is_owned (slot_of d x.slot).state ≡ true
  pub header : header_of d x.slot ≡ Dead
  pub is : (i : ℕ) → i < 64 → get_or words (page_at slots x.slot i) 0 ≡ get_or x.words i 0

-- a pointer over the keys of a child, which names the child's page by this number and leads to no slot
pub record IsCopiedPointer
    (places : List (Decl × PagePlace)) (sp : Span) (j number : ℕ) (q : Pointer)
    : Type 0 where
  pub span : q.span ≡ child_span sp j
  pub slot : q.slot ≡ None
  pub free : q.holder ≡ Free
  pub named : IsNamed places (child_span sp j) number q.page

-- The seat published the slot, and nothing has led to it: its page is that of an array over these keys, and says what
-- the words of the snapshot page with this number say.
pub record IsCopy (l : Layout) (m : Story) (d : Table) (r : Published) (mine : List ℕ) (x : Copied) : Type 0 where
  pub slot : x.slot < l.slots
  pub made : has_slot mine x.slot ≡ true
  pub state : is_published (slot_of d x.slot).state ≡ true
  pub over : IsOver d x.slot x.span
  pub page : x.page ≤ length r.pages
  pub exact : is_leaf_span x.span ≡ true → x.span.high ≡ x.span.low + last_at 0
  pub records : is_leaf_span x.span ≡ true → (i : ℕ) → i < array_leaf.room
      → place_of m.places (spot x.slot i)
      ≡ record { content = array_record (page_words r.pages x.page) i; holder = Free }
  pub pointers : is_leaf_span x.span ≡ false → (j : ℕ) → j < array_fan
      → IsCopiedPointer r.places x.span j (get_or (page_words r.pages x.page) j 0) (pointer_of d (at_index x.slot j))

-- the seat published the slot as no page
pub record IsBlank (slots : ℕ) (d : Table) (mine : List ℕ) (t : ℕ) : Type 0 where
  pub slot : t < slots
  pub made : has_slot mine t ≡ true
  pub state : is_published (slot_of d t).state ≡ true

-- the page with this number is published, or none, and has this name where it stands for these keys
pub record IsLead (r : Published) (x : Lead) : Type 0 where
  pub page : x.page ≤ length r.pages
  pub named : IsNamed r.places x.span x.page x.name

-- the page is above those that are published, and these words stand in it
pub record IsFilled (l : Layout) (words : List ℕ) (r : Published) (x : Filled) : Type 0 where
  pub above : length r.pages < x.page
  pub within : x.page ≤ l.resident
  pub is : (i : ℕ) → i < 64 → get_or words (snap_at l.slots x.page i) 0 ≡ get_or x.words i 0

-- a root's pointer, or one of a page to which something has led, in a slot that is held
abbrev pub IsWithin : Table → List ℕ → At → Type 0
IsWithin d holds (Root r) = ⊤
IsWithin d holds (In x) = (has_slot holds x.slot ≡ true) × (is_never (slot_of d x.slot).led ≡ false)
    × (has_pointer (page_of d x.slot) x.index ≡ true)

-- The seat shut the pointer, and this is its word without the bit.
pub record IsShut (d : Table) (r : Published) (p : ℕ) (holds : List ℕ) (x : Shut) : Type 0 where
  pub within : IsWithin d holds x.at
  pub shut : (pointer_of d x.at).holder ≡ Held p
  pub number : ℕ
  pub word : x.word ≡ at_bit 0 number + at_bit 32 (slot_field (pointer_of d x.at).slot)
  pub named : IsNamed r.places (pointer_of d x.at).span number (pointer_of d x.at).page

-- ---- what a view knows of trees

-- the seat holds the slot, something has led to it, and the first keys of its page are these
pub record IsKnownLeaf (l : Layout) (d : Table) (trees : ℕ → Option Fenced) (holds : List ℕ) (x : Known) : Type 0 where
  pub within : x.slot < l.slots
  pub held : has_slot holds x.slot ≡ true
  pub known : is_never (slot_of d x.slot).led ≡ false
  pub fence : Fenced
  pub there : trees x.slot ≡ Some fence
  pub front : IsFront x.keys fence.keys

-- a word of a leaf's page that no record has, and that is neither the header nor a fence
abbrev pub is_spare : ℕ → ℕ → Bool
is_spare count i = (nat_le 3 i && nat_le i 5) || nat_le (record_start tree_leaf count) i

-- The seat has locked the header of a leaf with these keys, and these 64 words stand there, but for those of the records.
-- What it has locked stays so whether it holds the slot or not.
pub record IsHead
    (l : Layout) (words : List ℕ) (d : Table) (trees : ℕ → Option Fenced) (p : ℕ) (x : Head)
    : Type 0 where
  pub within : x.slot < l.slots
  pub locked : header_of d x.slot ≡ Held p
  pub leaf : page_of d x.slot ≡ Leaf x.keys
  pub fence : Fenced
  pub there : trees x.slot ≡ Some fence
  pub keys : fence.keys ≡ x.keys
  pub long : length x.words ≡ 64
  pub is : (i : ℕ) → i < 64 → is_spare (length x.keys) i ≡ true
      → get_or words (page_at l.slots x.slot i) 0 ≡ get_or x.words i 0

-- the seat holds the slot of a leaf that was split, and these are the words of its halves
pub record IsMoved
    (l : Layout) (words : List ℕ) (d : Table) (trees : ℕ → Option Fenced) (holds : List ℕ) (x : Moved)
    : Type 0 where
  pub within : x.slot < l.slots
  pub held : has_slot holds x.slot ≡ true
  pub known : is_never (slot_of d x.slot).led ≡ false
  pub split : page_of d x.slot ≡ Split
  pub fence : Fenced
  pub there : trees x.slot ≡ Some fence
  pub minor : get_or words (page_at l.slots x.slot 3) 0 ≡ x.minor + 1
  pub major : get_or words (page_at l.slots x.slot 4) 0 ≡ x.major + 1
  pub separator : get_or words (page_at l.slots x.slot 5) 0 ≡ x.separator

-- the seat has locked the header of a leaf that was split
pub record IsSealed (l : Layout) (d : Table) (p t : ℕ) : Type 0 where
  pub within : t < l.slots
  pub locked : header_of d t ≡ Held p
  pub split : page_of d t ≡ Split

-- The seat holds the slot of an interior page of a tree, something has led to it, and its pointers are over the parts
-- of its keys between these.
pub record IsInner (l : Layout) (d : Table) (trees : ℕ → Option Fenced) (holds : List ℕ) (x : Inner) : Type 0 where
  pub within : x.slot < l.slots
  pub held : has_slot holds x.slot ≡ true
  pub known : is_never (slot_of d x.slot).led ≡ false
  pub page : page_of d x.slot ≡ InnerPage (suc (length x.separators))
  pub few : length x.separators < tree_fan
  pub fence : Fenced
  pub there : trees x.slot ≡ Some fence
  pub parts : (j : ℕ) → j ≤ length x.separators
      → span_at d (at_index x.slot j) ≡ part_between fence.span x.separators j

-- The seat published the slot, and nothing has led to it: its page is a leaf of a tree that is made for these keys,
-- with an open header; its records are of these keys, and of these contents, and open.
pub record IsNewLeaf
    (l : Layout) (m : Story) (d : Table) (trees : ℕ → Option Fenced) (mine : List ℕ) (x : NewLeaf)
    : Type 0 where
  pub slot : x.slot < l.slots
  pub made : has_slot mine x.slot ≡ true
  pub state : is_published (slot_of d x.slot).state ≡ true
  pub kind : is_tree l.decls x.span.storage ≡ true
  pub header : header_of d x.slot ≡ Free
  pub page : page_of d x.slot ≡ Leaf x.keys
  pub there : trees x.slot ≡ Some (record { span = x.span; keys = x.keys })
  pub each : length x.contents ≡ length x.keys
  pub records : (i : ℕ) (c : Content) → slice_get x.contents i ≡ Some c
      → place_of m.places (spot x.slot i) ≡ record { content = c; holder = Free }

-- a pointer over the keys of this place, which names its page and leads to no slot
pub record IsCopiedChild
    (places : List (Decl × PagePlace)) (storage : ℕ) (below : PagePlace) (q : Pointer)
    : Type 0 where
  pub span : q.span ≡ record { storage = storage; low = below.low; high = below.high }
  pub slot : q.slot ≡ None
  pub free : q.holder ≡ Free
  pub named : IsNamed places q.span below.number q.page

-- The seat published the slot, and nothing has led to it: its page is an interior one of a tree that is made for these
-- keys, and its pointers name the pages that those of the snapshot page with this number do, over the same keys.
pub record IsNewInner
    (l : Layout) (d : Table) (trees : ℕ → Option Fenced) (r : Published) (mine : List ℕ) (x : NewInner)
    : Type 0 where
  pub slot : x.slot < l.slots
  pub made : has_slot mine x.slot ≡ true
  pub state : is_published (slot_of d x.slot).state ≡ true
  pub kind : is_tree l.decls x.span.storage ≡ true
  pub some : 0 < x.page
  pub page : x.page ≤ length r.pages
  pub count : page_of d x.slot ≡ InnerPage (length (tree_below r.pages x.span x.page))
  pub there : trees x.slot ≡ Some (record { span = x.span; keys = [] })
  pub pointers : (j : ℕ) (below : PagePlace) → slice_get (tree_below r.pages x.span x.page) j ≡ Some below
      → IsCopiedChild r.places x.span.storage below (pointer_of d (at_index x.slot j))

-- what is true of a view's part of the trees
pub record FitsTrees
    (l : Layout) (words : List ℕ) (m : Story) (d : Table) (trees : ℕ → Option Fenced) (r : Published) (v : View)
    : Type 0 where
  pub known : (x : Known) → Contains v.known x → IsKnownLeaf l d trees v.grip.holds x
  pub heads : (p : ℕ) → IsAt p v.role → (x : Head) → Contains v.heads x → IsHead l words d trees p x
  pub moved : (x : Moved) → Contains v.moved x → IsMoved l words d trees v.grip.holds x
  pub sealed : (p : ℕ) → IsAt p v.role → (t : ℕ) → has_slot v.sealed t ≡ true → IsSealed l d p t
  pub inners : (x : Inner) → Contains v.inners x → IsInner l d trees v.grip.holds x
  pub new_leaves : (x : NewLeaf) → Contains v.new_leaves x → IsNewLeaf l m d trees v.grip.made x
  pub new_inners : (x : NewInner) → Contains v.new_inners x → IsNewInner l d trees r v.grip.made x
  pub none : HasNoTrees v.role v

-- what is true of a view's part of the pages
pub record FitsPages (l : Layout) (words : List ℕ) (s : Shared) (v : View) : Type 0 where
  pub grip : (p : ℕ) → IsAt p v.role → v.grip ≡ s.grips p
  pub within : (t : ℕ) → has_slot v.grip.holds t ≡ true → t < l.slots
  pub ways : (x : Way) → Contains v.ways x → IsWay l s.table s.trees v.grip.holds x
  pub drafts : (x : Draft) → Contains v.drafts x → IsDraft words l.slots s.table v.grip.made x
  pub copies : (x : Copied) → Contains v.copies x
      → (s.trees x.slot ≡ None) × IsCopy l s.story s.table s.resident v.grip.made x
  pub blanks : (t : ℕ) → has_slot v.blanks t ≡ true → IsBlank l.slots s.table v.grip.made t
  pub resident : IsFront v.pages s.resident.pages
  pub leads : (x : Lead) → Contains v.leads x → IsLead s.resident x
  pub fills : (x : Filled) → Contains v.fills x → (v.role ≡ Keeper) × IsFilled l words s.resident x
  pub shuts : (p : ℕ) → IsAt p v.role → (x : Shut) → Contains v.shuts x → IsShut s.table s.resident p v.grip.holds x
  pub none : HasNoPages v.role v.grip v.ways v.drafts v.copies v.blanks
  -- a worker that is not seated has nothing of the pages
  pub keepers : v.role ≡ Keeper → (worker : ℕ) → worker < 8 → times worker v.made ≡ 0
      → s.grips (suc worker) ≡ bare_grip
  pub treed : FitsTrees l words s.story s.table s.trees s.resident v

-- ---- sums over the views

-- One pass is the keeper's, each seated worker has one pass, the commits that passes own are together those that were
-- decided, the numbers that passes drew are together all that were drawn, and there is room for the numbers of those
-- that have yet to draw.
pub record Sums (views : List View) (m : Story) : Type 0 where
  pub one_keeper : total (sits 0) views ≡ 1
  pub made_are : (worker : ℕ) → total (sits (suc worker)) views ≡ total (makes worker) views
  pub once : (p : ℕ) → total (sits p) views ≤ 1
  pub mine_are : (h : Number → ℕ) → total (owns h) views ≡ total h m.decided
  pub draws_are : total drawn_by views ≡ length m.history
  pub few_open : total tries views + length m.decided ≤ length m.history
  pub room : (m.first_draw + length m.history) + total waits views < 2 ^ 40

-- ---- who is in the way

-- The record of the key stands at this place, in the leaf of an array in a slot to which something has led, and its word
-- here.
pub record RecordStands (l : Layout) (s : Shared) (k : Key) (x : Spot) (at : ℕ) : Type 0 where
  pub within : x.slot < l.slots
  pub known : is_never (slot_of s.table x.slot).led ≡ false
  pub span : Span
  pub kind : is_array l.decls span.storage ≡ true
  pub leaf : is_leaf_span span ≡ true
  pub over : IsLaidOutFor l.decls s.trees s.table x.slot span
  pub index : x.index < array_leaf.room
  pub key : k ≡ record { storage = span.storage; key = span.low + x.index }
  pub word : at ≡ page_at l.slots x.slot (word_in array_leaf x.index)

-- what a worker's pass has met shows who is in its way
abbrev pub Faces : Layout → List ℕ → List View → View → Type 0
Faces l words views v = (worker : ℕ) → v.role ≡ Worker worker
    → IsFacing l words (Touched views) (suc worker) v.ways v.took v.reads v.gone

-- Each lock that a seat has was taken since somebody was first seated; what each worker's pass met shows who is in its
-- way, and whoever was refused met another seat.
pub record Touching (l : Layout) (words : List ℕ) (views : List View) (s : Shared) : Type 0 where
  pub taken : (q : ℕ) (k : Key) → q < 9 → has_key (s.seats q).locks k ≡ true → Touched views q k
  pub facing : AllByRecursion (Faces l words views) views
  pub blamed : AllByRecursion (λ v. AreBlamed (Touched views) v.blamed) views

-- ---- the rule

-- words and views show this state, which is sound
pub record Sound (l : Layout) (words : List ℕ) (views : List View) (s : Shared) : Type 0 where
  pub joint : IsSound (joint_of l s)
  pub declared : AreDecls l.decls
  pub first : s.story.first_draw ≡ l.first.draw
  pub blank : StartsBlank l.decls l.opening
  pub valued : WriteValues l.decls s.story.history
  pub shown : ShowsWords l words s.story s.table s.trees s.resident
  pub tried : EachIsTried s.story s.seats
  pub others : (p : ℕ) → 9 ≤ p → (s.seats p).stage ≡ Idle
  pub marks : (worker : ℕ) → worker < 8 → ShowsMark words worker (s.seats (suc worker)).marks
  pub marked : MarkedBelow s.story.epoch s.seats
  pub small : AllSmall l.opening s.story
  pub fits : AllByRecursion (Fits l s.story s.seats) views
  pub sums : Sums views s.story
  pub touching : Touching l words views s
  -- pages
  pub room : s.table.room ≡ l.slots
  pub few : (l.slots ≤ 4096) × (length l.decls ≤ 16) × (l.resident ≤ 65536)
  pub within : length s.resident.pages ≤ l.resident
  pub named : ArePages l.decls s.resident s.table
  pub laid_out : AreLaidOut l.decls s.trees s.table
  pub roots : (r : ℕ) → span_at s.table (Root r) ≡ root_span l.decls r
  pub pages : AllByRecursion (FitsPages l words s) views

-- words and views show a sound state
abbrev pub Shows : Layout → List ℕ → List View → Type 0
Shows l words views = (s : Shared) × Sound l words views s
