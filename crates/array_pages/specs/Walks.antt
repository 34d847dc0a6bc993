-- What it leaves to go down the pages of an array: words are loaded, and slots entered.
use Rattle.std.specs.Prelude.{◌≡◌, ◌≢◌, ◌⊎◌, ℕ, ◌-◌, ◌/◌, ◌%◌, ◌^◌, ◌<◌, ◌≤◌, Bool, true, false, List}
use Rattle.std.specs.Prelude.{Contains, Option, Some, None, length}
use Rattle.lists.specs.Fronts.{IsFront}
use Rattle.serial_model.specs.Decls.{AreDecls}
use Rattle.homes.specs.declared.places.At.{At}
use Rattle.homes.specs.declared.places.Span.{Span}
use Rattle.homes.specs.Homes.{in_span}
use Rattle.snapshot_store.specs.ArrayPages.{indexes_at}
use Rattle.commit_core.specs.declared.attempt.Attempt.{Attempt}
use Rattle.commit_core.specs.declared.part.Part.{Part}
use Rattle.serial_model.specs.declared.key.Key.{Key}
use Rattle.serial_model.specs.declared.number.Number.{Number}
use Rattle.commit_core.specs.CoreState.{is_trying}
use Rattle.commit_core.specs.Parts.{Vouches}
use Rattle.commit_core.specs.Serial.{last_write}
use Rattle.drop_core.specs.Table.{has_slot}
use Rattle.tx_sets.specs.declared.seen.Seen.{Seen}
use Rattle.tx_sets.specs.Entries.{word_at}
use Rattle.engine_pages.specs.declared.layout.Layout.{Layout}
use Rattle.engine_pages.specs.declared.view.Lead.{Lead}
use Rattle.engine_pages.specs.declared.view.RefusalCause.{RefusalCause}
use Rattle.engine_pages.specs.declared.view.RefusalCause.TheVariants as causes
use Rattle.engine_pages.specs.declared.view.SetName.{SetName}
use Rattle.engine_pages.specs.declared.view.SetName.TheVariants as sets
use Rattle.engine_pages.specs.declared.view.View.{View}
use Rattle.engine_pages.specs.declared.view.Way.{Way}
use Rattle.engine_pages.specs.Agreement.{TreesAgree}
use Rattle.engine_pages.specs.Layout.{page_at, root_at}
use Rattle.engine_pages.specs.Pages.{root_span}
use Rattle.engine_pages.specs.Pointers.{IsArrayPointerAt, WaysAgree}
use Rattle.engine_pages.specs.Steps.{glance, kept_at, seen_at}
use Rattle.engine_pages.specs.Views.{IsActive}

-- ---- a pass with its holds

-- the slots of the set are those that the view holds
abbrev pub HoldsAre : List ℕ → View → Type 0
HoldsAre slots v = (t : ℕ) → has_slot slots t ≡ has_slot v.grip.holds t

-- A pass that has a seat and no attempt in progress, with the set of its holds. Two ways into one slot are over the
-- same keys, what it knows of pages of trees agrees, and the storages are declared as those of a database.
pub record CanWalk (slots : List ℕ) (v : View) : Type 0 where
  pub active : IsActive v.role
  pub rest : is_trying v.seat.stage ≡ false
  pub holds : HoldsAre slots v
  pub within : (t : ℕ) → has_slot slots t ≡ true → t < v.layout.slots
  pub agree : WaysAgree v.ways
  pub trees : TreesAgree v
  pub declared : AreDecls v.layout.decls

-- ---- what has changed

-- At one step of a call the part had the last decided writes of its keys, of all that was drawn and decided by then.
pub record IsLastBetween (v w : View) (part : Part) : Type 0 where
  pub history : List Attempt
  pub decided : List Number
  pub drawn_since : IsFront v.history history
  pub seen_since : IsFront v.decided decided
  pub drawn_by : IsFront history w.history
  pub seen_by : IsFront decided w.decided
  pub last : Vouches (last_write v.layout.opening history decided) part

-- the view v with what a walk changes as w has it
abbrev pub as_walked : View → View → View
as_walked v w = record v {
  steps = w.steps;
  history = w.history;
  decided = w.decided;
  seat = record v.seat { kept = w.seat.kept };
  reads = w.reads;
  last = w.last;
  loaded = w.loaded;
  grip = record v.grip { holds = w.grip.holds };
  ways = w.ways;
  pages = w.pages;
  leads = w.leads;
  looked = w.looked;
}

-- Words were loaded and slots entered: what the pass has seen, holds and knows of pages has grown, each part that it
-- keeps now and didn't before had the last decided writes, and nothing else of it has changed.
pub record HasWalked (v w : View) : Type 0 where
  pub since : v.steps ≤ w.steps
  pub drawn : IsFront v.history w.history
  pub seen : IsFront v.decided w.decided
  pub parts : (part : Part) → Contains w.seat.kept part → Contains v.seat.kept part ⊎ IsLastBetween v w part
  pub held : (t : ℕ) → has_slot v.grip.holds t ≡ true → has_slot w.grip.holds t ≡ true
  pub ways : (x : Way) → Contains v.ways x → Contains w.ways x
  pub pages : IsFront v.pages w.pages
  pub leads : (x : Lead) → Contains v.leads x → Contains w.leads x
  pub is : w ≡ as_walked v w

-- ---- the pages that it came to

-- each way that is new is over these keys
abbrev pub OnlyWays : Span → View → View → Type 0
OnlyWays span v w = (x : Way) → Contains w.ways x → Contains v.ways x ⊎ (x.span ≡ span)

-- each way that is new is one to the key: over keys that it is one of
abbrev pub OnlyWaysTo : Key → View → View → Type 0
OnlyWaysTo k v w = (x : Way) → Contains w.ways x → Contains v.ways x ⊎ (in_span x.span k ≡ true)

-- each slot that is held now and wasn't before has a page over these keys
abbrev pub AreLedBy : Span → View → View → Type 0
AreLedBy span v w = (t : ℕ) → has_slot w.grip.holds t ≡ true → has_slot v.grip.holds t ≡ false
    → Contains w.ways (record { slot = t; span = span })

-- each slot that is held now and wasn't before has a page on the way to the key: over keys that it is one of
abbrev pub AreLedTo : Key → View → View → Type 0
AreLedTo k v w = (t : ℕ) → has_slot w.grip.holds t ≡ true → has_slot v.grip.holds t ≡ false
    → (x : Way) × Contains w.ways x × (x.slot ≡ t) × (in_span x.span k ≡ true)

-- ---- the words that were met

-- the word is that of a pointer which the pass knows
pub record IsPointersWord (v : View) (at : ℕ) : Type 0 where
  pub place : At
  pub span : Span
  pub is : IsArrayPointerAt v place span at

-- The word is that of a pointer on the way to the key, by its place alone: the root's of its storage, or, in the page of
-- a slot, the one over the key, of a page over leaves or of one over such pages.
pub record IsWayPlace (l : Layout) (k : Key) (at : ℕ) : Type 0 where
  pub stands : ((r : ℕ) × (r < length l.decls) × (in_span (root_span l.decls r) k ≡ true) × (at ≡ root_at r))
      ⊎ ((t : ℕ) × (i : ℕ) × (t < l.slots) × ((i ≡ k.key % indexes_at 1 / indexes_at 0) ⊎ (i ≡ k.key / indexes_at 1))
      × (at ≡ page_at l.slots t i))

-- the key is one of the pointer's, whose word is on the way to it
pub record IsOnto (l : Layout) (span : Span) (at : ℕ) (k : Key) : Type 0 where
  pub over : in_span span k ≡ true
  pub on : IsWayPlace l k at

-- the word is that of a pointer on the way to the key: over keys that it is one of
pub record IsWayWord (k : Key) (v : View) (at : ℕ) : Type 0 where
  pub place : At
  pub span : Span
  pub is : IsArrayPointerAt v place span at
  pub over : in_span span k ≡ true
  pub on : IsWayPlace v.layout k at

-- no words but those of pointers were met
abbrev pub OnlyMet : View → View → Type 0
OnlyMet v w = (a : ℕ) → (seen_at w.reads a ≡ seen_at v.reads a) ⊎ IsPointersWord w a

-- each pointer of the set that was last seen as the set has it was last seen so still, but for the one at this word
-- where that was moved
abbrev pub KeepsBut : List Seen → Bool → ℕ → View → View → Type 0
KeepsBut pointers moved at v w = (a word : ℕ) → word_at a pointers ≡ Some word → IsPointersWord v a
    → (moved ≡ true → a ≢ at) → seen_at v.reads a ≡ Some word → seen_at w.reads a ≡ Some word

-- each pointer of the set that was last seen as the set has it was last seen so still
abbrev pub KeepsMet : List Seen → View → View → Type 0
KeepsMet pointers v w = (a word : ℕ) → word_at a pointers ≡ Some word → IsPointersWord v a
    → seen_at v.reads a ≡ Some word → seen_at w.reads a ≡ Some word

-- the pointer is in the set with this word, or there is room for it
abbrev pub MeetsSo : List Seen → ℕ → ℕ → Type 0
MeetsSo pointers at word =
    (word_at at pointers ≡ Some word) ⊎ ((word_at at pointers ≡ None) × (length pointers < 128))

-- each word is known as a part that is kept, or not, as it was
abbrev pub KeepsWords : View → View → Type 0
KeepsWords v w = (a : ℕ) → kept_at w.reads a ≡ kept_at v.reads a

-- ---- refusals

-- The last load or compare_exchange is one of this call and saw this at the word, of which the transaction had seen or
-- left that before, if it had met it, and which it keeps as a part with this word, if it does.
pub record SawLast (at seen : ℕ) (was : Option ℕ) (v w : View) : Type 0 where
  pub step : ℕ
  pub since : v.steps ≤ step
  pub last : w.last ≡ Some (glance step at seen)
  pub kept : Option ℕ
  pub kept_is : kept ≡ kept_at w.reads at
  pub stands : Contains w.reads (record { word = at; seen = seen; was = was; kept = kept })

-- The word is that of a pointer on the way to the key. It is shut, or not the expected one: the set's, where the set
-- has the pointer, else what the transaction had seen there before. Where a pointer of the set was last seen as the set
-- has it as the call began, it was seen so right before, or is known as a part as it was.
pub record IsPointerChanged (k : Key) (pointers : List Seen) (at expected seen : ℕ) (v w : View) : Type 0 where
  pub place : IsWayWord k w at
  pub was : Option ℕ
  pub saw : SawLast at seen was v w
  pub known : (word_at at pointers ≡ Some expected) ⊎ ((word_at at pointers ≡ None) × (was ≡ Some expected))
  pub before : IsPointersWord v at → word_at at pointers ≡ Some expected → seen_at v.reads at ≡ Some expected
      → (was ≡ Some expected) ⊎ (saw.kept ≡ kept_at v.reads at)
  pub cause : (2 ^ 60 ≤ seen) ⊎ (seen ≢ expected)

-- A pointer on the way to the key was last seen to lead to no slot, and isn't in the set: the set needs one entry more.
pub record NeedsPointer (k : Key) (pointers : List Seen) (w : View) : Type 0 where
  pub at : ℕ
  pub word : ℕ
  pub on : IsWayWord k w at
  pub saw : seen_at w.reads at ≡ Some word
  pub bare : word < 2 ^ 32
  pub absent : word_at at pointers ≡ None

-- A pointer on the way to the key was last seen to lead to a slot that isn't held: it is one more to hold.
pub record NeedsHold (k : Key) (slots : List ℕ) (w : View) : Type 0 where
  pub at : ℕ
  pub word : ℕ
  pub on : IsWayWord k w at
  pub saw : seen_at w.reads at ≡ Some word
  pub led : 2 ^ 32 ≤ word
  pub unshut : word < 2 ^ 60
  pub unheld : has_slot slots (word / 2 ^ 32 - 1) ≡ false

-- so it is with the holds, and with no other set
abbrev pub IsHeldWide : Key → List ℕ → SetName → View → View → Type 0
IsHeldWide k slots sets.Reads v w = ⊥
IsHeldWide k slots sets.Writes v w = ⊥
IsHeldWide k slots sets.Pointers v w = ⊥
IsHeldWide k slots sets.Holds v w = (length slots ≡ 128) × NeedsHold k slots w × AreLedTo k v w

-- The set has as many entries as there is room for, and the way to the key needs one more. What the call holds newly is
-- on that way.
abbrev pub IsWide : Key → List Seen → List ℕ → SetName → View → View → Type 0
IsWide k pointers slots sets.Reads v w = ⊥
IsWide k pointers slots sets.Writes v w = ⊥
IsWide k pointers slots sets.Pointers v w = (length pointers ≡ 128) × NeedsPointer k pointers w × AreLedTo k v w
IsWide k pointers slots sets.Holds v w = (length slots ≡ 128) × NeedsHold k slots w × AreLedTo k v w

-- a pointer was refused, or the slot that it leads to
abbrev pub RefusesPointer : Key → List Seen → List ℕ → RefusalCause → View → View → Type 0
RefusesPointer k pointers slots (causes.Conflict at expected seen) v w =
    IsPointerChanged k pointers at expected seen v w
RefusesPointer k pointers slots (causes.Full held) v w = ⊥
RefusesPointer k pointers slots (causes.Wide set) v w = IsHeldWide k slots set v w
RefusesPointer k pointers slots (causes.NumberLimit clock) v w = ⊥

-- a walk was refused at a pointer, or for a set that was full
abbrev pub RefusesWalk : Key → List Seen → List ℕ → RefusalCause → View → View → Type 0
RefusesWalk k pointers slots (causes.Conflict at expected seen) v w = IsPointerChanged k pointers at expected seen v w
RefusesWalk k pointers slots (causes.Full held) v w = ⊥
RefusesWalk k pointers slots (causes.Wide set) v w = IsWide k pointers slots set v w
RefusesWalk k pointers slots (causes.NumberLimit clock) v w = ⊥
