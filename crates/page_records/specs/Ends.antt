-- How a transaction begins, and how it ends before its draw: what it was refused for has to be due.
use Rattle.std.specs.Prelude.{◌≡◌, ◌≢◌, ◌⊎◌, ℕ, suc, ◌+◌, ◌/◌, ◌%◌, ◌^◌, ◌<◌, ◌≤◌, Bool, true, false, List, [], ◌∷◌, ◌++◌}
use Rattle.std.specs.Prelude.{nat_lt, length, Option, Some, None, Contains, MatchBool, unwrap_or, ⊤}
use Rattle.std.specs.List.{last_or, list_all}
use Rattle.atomic_table.specs.Table.{Step}
use Rattle.serial_model.specs.declared.key.Key.{Key}
use Rattle.serial_model.specs.Numbers.{draw_limit}
use Rattle.homes.specs.declared.places.At.{At}
use Rattle.homes.specs.declared.places.At.TheVariants.{Root, In}
use Rattle.homes.specs.declared.places.Span.{Span}
use Rattle.homes.specs.declared.places.Spot.{Spot}
use Rattle.wire_form.specs.Leaves.{tree_leaf, word_in}
use Rattle.drop_core.specs.Table.{has_slot}
use Rattle.engine_pages.specs.declared.view.Glance.{Glance}
use Rattle.engine_pages.specs.declared.view.Head.{Head}
use Rattle.engine_pages.specs.declared.view.Known.{Known}
use Rattle.engine_pages.specs.declared.view.RefusalCause.{RefusalCause}
use Rattle.engine_pages.specs.declared.view.RefusalCause.TheVariants.{Conflict, Full, Wide, NumberLimit}
use Rattle.engine_pages.specs.declared.view.Role.{Role}
use Rattle.engine_pages.specs.declared.view.Role.TheVariants.{Keeper, Worker, Note, Spent}
use Rattle.engine_pages.specs.declared.view.Took.{Took}
use Rattle.engine_pages.specs.declared.view.Touch.{Touch}
use Rattle.engine_pages.specs.declared.view.View.{View}
use Rattle.engine_pages.specs.declared.view.Way.{Way}
use Rattle.engine_pages.specs.Layout.{page_at, slot_at, clock_at}
use Rattle.engine_pages.specs.Pages.{is_tree}
use Rattle.engine_pages.specs.Pointers.{IsPointerAt}
use Rattle.engine_pages.specs.Records.{IsRecordAt}
use Rattle.engine_pages.specs.Slots.{first_retired, is_taken_word, is_usable_word, looks}
use Rattle.engine_pages.specs.Steps.{glance}
use Rattle.engine_pages.specs.Times.{HasTimed}
use Rattle.engine_pages.specs.Touches.{has_took, touch}
use Rattle.engine_pages.specs.Views.{seat_number}

-- the worker of a pass
abbrev pub worker_of : Role → ℕ
worker_of Keeper = 0
worker_of (Worker w) = w
worker_of Note = 0
worker_of Spent = 0

-- ---- the begin

-- a draw is due, no word was met, and no slot left
abbrev pub readied : View → View
readied v = record v { due = true; reads = []; gone = [] }

-- one refusal more
abbrev pub refused_for : RefusalCause → View → View
refused_for r v = record v { refused = v.refused ++ r ∷ [] }

-- the clock was seen, and so it is then, unless the clock is at the last draws
abbrev pub Begun : View → ℕ → View → Type 0
Begun v n w = (u : View) × HasTimed v n u
    × MatchBool (nat_lt (n % 2 ^ 40) draw_limit) (w ≡ readied u) (w ≡ refused_for (NumberLimit n) u)

-- the same of the step
abbrev pub BeginsTransaction : Step (Unit {0}) → View → ℕ → View → Type 0
BeginsTransaction s v n w = Begun v n w

-- ---- what a refusal needs

-- Somebody is in the way at the record of this key, which stands at this place, in a page of a slot that the pass has
-- not left, and which the pass has not locked there: its last load or compare_exchange saw this word there, and the pass
-- has left no other one since. The word is locked, or it is not the one that this transaction saw or left there before,
-- which is the expected one; where it had met none, that is the word seen.
pub record IsInTheWay (k : Key) (x : Spot) (at expected seen : ℕ) (v : View) : Type 0 where
  pub place : IsRecordAt v k x at
  pub free : has_took v.took k x ≡ false
  pub here : has_slot v.gone x.slot ≡ false
  pub step : ℕ
  pub last : v.last ≡ Some (glance step at seen)
  pub was : Option ℕ
  pub kept : Option ℕ
  pub stands : Contains v.reads (record { word = at; seen = seen; was = was; kept = kept })
  pub known : expected ≡ unwrap_or was seen
  pub cause : (2 ^ 60 ≤ seen) ⊎ ((expected < 2 ^ 60) × (seen ≢ expected))

-- the place is in the page of one of these slots
abbrev pub is_left : List ℕ → At → Bool
is_left gone (Root r) = false
is_left gone (In y) = has_slot gone y.slot

-- So it is at a pointer, of a root or in a page of a slot that the pass has not left: it is shut, or is not what this
-- transaction saw or left there before, or what it keeps of it as a part.
pub record IsPointerInTheWay (x : At) (sp : Span) (at expected seen : ℕ) (v : View) : Type 0 where
  pub place : IsPointerAt v x sp at
  pub here : is_left v.gone x ≡ false
  pub step : ℕ
  pub last : v.last ≡ Some (glance step at seen)
  pub was : Option ℕ
  pub kept : Option ℕ
  pub stands : Contains v.reads (record { word = at; seen = seen; was = was; kept = kept })
  pub known : (expected ≡ unwrap_or was seen) ⊎ (kept ≡ Some expected)
  pub cause : (2 ^ 60 ≤ seen) ⊎ (seen ≢ expected)

-- a word of the page of a tree's slot that the pass has a way into
pub record IsTreeWordAt (v : View) (t i at : ℕ) : Type 0 where
  pub way : Way
  pub has : Contains v.ways way
  pub slot : way.slot ≡ t
  pub kind : is_tree v.layout.decls way.span.storage ≡ true
  pub there : t < v.layout.slots
  pub index : i < 64
  pub word : at ≡ page_at v.layout.slots t i

-- the word of the header of a leaf that the pass knows, or of a record in it
pub record IsLeafWordAt (v : View) (t i at : ℕ) : Type 0 where
  pub word : IsTreeWordAt v t i at
  pub leaf : Known
  pub knows : Contains v.known leaf
  pub same : leaf.slot ≡ t
  pub is : (i ≡ 0) ⊎ ((j : ℕ) × (j < length leaf.keys) × (i ≡ word_in tree_leaf j))

-- So it is at a word of a known leaf, its header's or a record's, that the pass has not locked, in a slot that it has not
-- left: the word is locked, or is not what it keeps of it as a part, or, where it keeps none, what this transaction saw or
-- left there before.
pub record IsTreeWordInTheWay (t i at expected seen : ℕ) (v : View) : Type 0 where
  pub place : IsLeafWordAt v t i at
  pub free : (y : Took) → Contains v.took y → (y.spot).slot ≡ t → i ≡ word_in tree_leaf (y.spot).index → ⊥
  pub unheld : (y : Head) → Contains v.heads y → y.slot ≡ t → i ≡ 0 → ⊥
  pub here : has_slot v.gone t ≡ false
  pub step : ℕ
  pub last : v.last ≡ Some (glance step at seen)
  pub was : Option ℕ
  pub kept : Option ℕ
  pub stands : Contains v.reads (record { word = at; seen = seen; was = was; kept = kept })
  pub known : (kept ≡ Some expected) ⊎ ((kept ≡ None) × (expected ≡ unwrap_or was seen))
  pub cause : ((seen / 2 ^ 60) % 2 ≡ 1) ⊎ (seen ≢ expected)

-- The last search for a usable slot found each slot before this one taken, and this one usable, with the expected word;
-- and the step right behind it found another word there.
pub record IsSlotChanged (t at expected seen : ℕ) (v : View) : Type 0 where
  pub place : at ≡ slot_at t
  pub within : t < v.layout.slots
  pub before : List ℕ
  pub first : ℕ
  pub count : length before ≡ t
  pub taken : list_all is_taken_word before ≡ true
  pub usable : is_usable_word expected ≡ true
  pub looked : v.looked ≡ looks first 0 (before ++ expected ∷ [])
  pub last : v.last ≡ Some (glance (first + suc (length before)) at seen)
  pub other : seen ≢ expected

-- The last search for a usable slot looked at the word of each slot, and none was usable; the lowest retired one is told.
-- The last load or compare_exchange is the last one of that search: nothing was loaded since.
pub record AreTaken (told : Option (ℕ × ℕ)) (v : View) : Type 0 where
  pub words : List ℕ
  pub step : ℕ
  pub count : length words ≡ v.layout.slots
  pub taken : list_all is_taken_word words ≡ true
  pub held : told ≡ first_retired 0 words
  pub looked : v.looked ≡ looks step 0 words
  pub earlier : Option Glance
  pub last : v.last ≡ last_or earlier (looks step 0 words)

-- A transaction that ends is refused for what its pass met: at a record, at a pointer, at a slot, at a tree's page, or at
-- all slots. That a set was full is told by who has it. A begin alone is refused a number.
abbrev pub IsDue : Option RefusalCause → View → Type 0
IsDue None v = ⊤
IsDue (Some (Conflict at expected seen)) v =
    ((k : Key) × (x : Spot) × IsInTheWay k x at expected seen v)
    ⊎ (((x : At) × (sp : Span) × IsPointerInTheWay x sp at expected seen v)
    ⊎ (((t : ℕ) × IsSlotChanged t at expected seen v)
    ⊎ ((t : ℕ) × (i : ℕ) × IsTreeWordInTheWay t i at expected seen v)))
IsDue (Some (Full held)) v = AreTaken held v
IsDue (Some (Wide set)) v = ⊤
IsDue (Some (NumberLimit clock)) v = ⊥

-- ---- the end before the draw

-- what was kept is dropped, and no draw is due
abbrev pub forgot : View → View
forgot v = record v { due = false; seat = record v.seat { kept = [] }; steps = v.steps + 1; loaded = None }

-- what was refused, and this, where there is one more
abbrev pub with_why : List RefusalCause → Option RefusalCause → List RefusalCause
with_why refused None = refused
with_why refused (Some r) = refused ++ r ∷ []

-- the same, and why, where it was refused, and at which keys it met somebody
abbrev pub forgot_for : Option RefusalCause → List Touch → View → View
forgot_for why met v = record (forgot v) { refused = with_why v.refused why; blamed = v.blamed ++ met }

-- A conflict at the word of an array's record is one at its key; at a pointer's word, at a slot's, and at one of a tree's
-- page, it is at none.
pub record IsMetAt (at : ℕ) (met : List Touch) (v : View) : Type 0 where
  pub keyed : (k : Key) (x : Spot) → IsRecordAt v k x at → met ≡ touch (seat_number v.role) k ∷ []
  pub pointer : (x : At) (sp : Span) → IsPointerAt v x sp at → met ≡ []
  pub slot : (t : ℕ) → t < v.layout.slots → at ≡ slot_at t → met ≡ []
  pub tree : (t i : ℕ) → IsTreeWordAt v t i at → met ≡ []

-- at which keys a refusal met somebody
abbrev pub IsMetFor : Option RefusalCause → List Touch → View → Type 0
IsMetFor None met v = met ≡ []
IsMetFor (Some (Conflict at expected seen)) met v = IsMetAt at met v
IsMetFor (Some (Full held)) met v = met ≡ []
IsMetFor (Some (Wide set)) met v = met ≡ []
IsMetFor (Some (NumberLimit clock)) met v = met ≡ []

-- the transaction has ended, for this cause or for none
pub record HasForgotten (why : Option RefusalCause) (v w : View) : Type 0 where
  pub met : List Touch
  pub of : IsMetFor why met v
  pub is : w ≡ forgot_for why met v

-- the same of the step
abbrev pub Forgets : Option RefusalCause → Step (Unit {0}) → View → ℕ → View → Type 0
Forgets why s v n w = (s.word ≡ clock_at) × HasForgotten why v w
