-- What the parts of a walk come to, one pointer or one record at a time.
use Rattle.std.specs.Prelude.{◌≡◌, ◌≢◌, ◌⊎◌, ℕ, ◌+◌, ◌-◌, ◌/◌, ◌^◌, ◌<◌, ◌≤◌, Bool, true, false, List, Contains}
use Rattle.std.specs.Prelude.{Some, None, Result, IfOk, IfErr, OnOk, if◌then◌else◌, length}
use Rattle.serial_model.specs.declared.key.Key.{Key}
use Rattle.homes.specs.declared.places.At.{At}
use Rattle.homes.specs.declared.places.Span.{Span}
use Rattle.snapshot_store.specs.ArrayPages.{last_at}
use Rattle.drop_core.specs.Table.{has_slot}
use Rattle.tx_sets.specs.declared.seen.Seen.{Seen}
use Rattle.tx_sets.specs.Entries.{word_at}
use Rattle.engine_pages.specs.declared.view.RefusalCause.{RefusalCause}
use Rattle.engine_pages.specs.declared.view.RefusalCause.TheVariants as causes
use Rattle.engine_pages.specs.declared.view.SetName.TheVariants.{Holds}
use Rattle.engine_pages.specs.declared.view.View.{View}
use Rattle.engine_pages.specs.Pointers.{IsArrayPointerAt, StandsFor}
use Rattle.engine_pages.specs.Steps.{seen_at}
use Rattle.page_pool.specs.Pool.{IsChanged, IsFull}
use Rattle.dual_pointer.specs.Copies.{IsLeadOf}
use Rattle.array_pages.specs.declared.finding.Found.{Found}
use Rattle.array_pages.specs.declared.finding.Found.TheVariants as places
use Rattle.array_pages.specs.declared.making.Settled.{Settled}
use Rattle.array_pages.specs.declared.walk.Reached.{Reached}
use Rattle.array_pages.specs.Finding.{HasReached, IsFound, IsFoundIn, IsRecordChanged, RefusesFind}
use Rattle.array_pages.specs.Making.{as_published, CanMake, HasMade, HasSettled, RefusesMake}
use Rattle.array_pages.specs.Snapshots.{CanLook}
use Rattle.array_pages.specs.Walks.{AreLedBy, AreLedTo, CanWalk, HasWalked, IsOnto, KeepsMet, KeepsWords, OnlyMet}
use Rattle.array_pages.specs.Walks.{OnlyWays, OnlyWaysTo, RefusesWalk, SawLast}

-- ---- a pointer and the set

-- the set has the pointer with this word exactly where it is met, and else has none
abbrev pub IsMetAs : List Seen → ℕ → ℕ → Bool → Type 0
IsMetAs pointers at word met = word_at at pointers ≡ (if met then Some word else None)

-- it has the pointer with another word
abbrev pub IsMetElse : List Seen → ℕ → ℕ → RefusalCause → Type 0
IsMetElse pointers at word (causes.Conflict other expected seen) =
    (other ≡ at) × (seen ≡ word) × (word_at at pointers ≡ Some expected) × (word ≢ expected)
IsMetElse pointers at word (causes.Full held) = ⊥
IsMetElse pointers at word (causes.Wide set) = ⊥
IsMetElse pointers at word (causes.NumberLimit clock) = ⊥

-- ---- a slot that a pointer leads to

-- The pointer over these keys was just seen with this word, which is open and leads to a slot; where the pass holds
-- that, it knows that its page is over these keys.
pub record IsLedTo (word : ℕ) (span : Span) (at : ℕ) (v : View) : Type 0 where
  pub there : word / 2 ^ 32 - 1 < v.layout.slots
  pub known : has_slot v.grip.holds (word / 2 ^ 32 - 1) ≡ true
      → Contains v.ways (record { slot = word / 2 ^ 32 - 1; span = span })
  pub met : seen_at v.reads at ≡ Some word

-- The pointer over these keys was seen once more, and is shut or another word than this one, which it was before.
pub record IsChangedSince (span : Span) (at word seen : ℕ) (v w : View) : Type 0 where
  pub place : At
  pub is : IsArrayPointerAt w place span at
  pub saw : SawLast at seen (Some word) v w
  pub cause : (2 ^ 60 ≤ seen) ⊎ (seen ≢ word)

-- The holds are full, and the pointer over these keys was last seen with this word; the slot that it leads to, if it
-- does to one, isn't held.
pub record HasNoRoom (slots : List ℕ) (span : Span) (at word : ℕ) (w : View) : Type 0 where
  pub full : length slots ≡ 128
  pub place : At
  pub is : IsArrayPointerAt w place span at
  pub saw : seen_at w.reads at ≡ Some word
  pub unheld : 2 ^ 32 ≤ word → has_slot slots (word / 2 ^ 32 - 1) ≡ false

-- a slot isn't held: the pointer has changed, or the holds are full
abbrev pub RefusesHold : List ℕ → Span → ℕ → ℕ → RefusalCause → View → View → Type 0
RefusesHold slots span at word (causes.Conflict other expected seen) v w =
    (other ≡ at) × (expected ≡ word) × IsChangedSince span at word seen v w
RefusesHold slots span at word (causes.Full held) v w = ⊥
RefusesHold slots span at word (causes.Wide set) v w =
    (set ≡ Holds) × (2 ^ 32 ≤ word) × (word < 2 ^ 60) × HasNoRoom slots span at word w × AreLedBy span v w
RefusesHold slots span at word (causes.NumberLimit clock) v w = ⊥

-- The slot that the pointer leads to is held, and its page is over these keys; the pointer is as it was. The holds are
-- at most so many then.
pub record HoldsSo (few : ℕ) (slots : List ℕ) (at word : ℕ) (span : Span) (r : Result ℕ RefusalCause) (v w : View)
    : Type 0 where
  pub can : CanWalk slots w
  pub walked : HasWalked v w
  pub most : w.steps ≤ v.steps + 2
  pub grows : length slots ≤ few
  pub kept : w.seat.kept ≡ v.seat.kept
  pub words : KeepsWords v w
  pub others : (a : ℕ) → a ≢ at → seen_at w.reads a ≡ seen_at v.reads a
  pub only : OnlyWays span v w
  pub led : OnOk r (AreLedBy span v w)
  pub still : OnOk r (seen_at w.reads at ≡ Some word)
  pub held : IfOk r (λ t. Contains w.ways (record { slot = t; span = span }) × (t < w.layout.slots))
  pub cause : IfErr r (λ why. RefusesHold slots span at word why v w)

-- ---- one pointer down

-- The pointer was followed to its end, or why not; the holds are at most so many then.
pub record ReachesSo
    (few : ℕ) (pointers : List Seen) (slots : List ℕ) (place : At) (span : Span) (at : ℕ)
    (r : Result Reached RefusalCause) (v w : View) : Type 0 where
  pub can : CanWalk slots w
  pub walked : HasWalked v w
  pub most : w.steps ≤ v.steps + 3
  pub grows : length slots ≤ few
  pub only : OnlyWays span v w
  pub led : OnOk r (AreLedBy span v w)
  pub others : OnlyMet v w
  pub keeps : OnOk r (KeepsMet pointers v w)
  pub reached : IfOk r (λ end. HasReached pointers end place span at v w)
  pub cause : IfErr r (λ why. (k : Key) → IsOnto v.layout span at k → RefusesWalk k pointers slots why v w)

-- ---- a record

-- the record was read in its page
abbrev pub IsRead : Key → Found → View → View → Type 0
IsRead k (places.Volatile at word value) v w = IsFoundIn k at word value v w
IsRead k (places.Snapshot value number p) v w = ⊥
IsRead k (places.Zero p) v w = ⊥

-- no words were met but that of the record and its value
abbrev pub MeetsRecord : Found → View → View → Type 0
MeetsRecord (places.Volatile at word value) v w = (a : ℕ) → a ≢ at → a ≢ at + 1 → seen_at w.reads a ≡ seen_at v.reads a
MeetsRecord (places.Snapshot value number p) v w = ⊥
MeetsRecord (places.Zero p) v w = ⊥

-- it wasn't, since its word was locked or has changed
abbrev pub RefusesRead : Key → RefusalCause → View → View → Type 0
RefusesRead k (causes.Conflict at expected seen) v w = IsRecordChanged k at expected seen v w
RefusesRead k (causes.Full held) v w = ⊥
RefusesRead k (causes.Wide set) v w = ⊥
RefusesRead k (causes.NumberLimit clock) v w = ⊥

-- the record of the key was read in a page that the pass holds, or why not
pub record ReadsSo (k : Key) (r : Result Found RefusalCause) (v w : View) : Type 0 where
  pub walked : HasWalked v w
  pub most : w.steps ≤ v.steps + 3
  pub grip : w.grip ≡ v.grip
  pub ways : w.ways ≡ v.ways
  pub read : IfOk r (λ f. IsRead k f v w)
  pub met : IfOk r (λ f. MeetsRecord f v w)
  pub cause : IfErr r (λ why. RefusesRead k why v w)

-- The record of the key was found by at most so many steps, and with at most so many holds, or why not. Each way that
-- is new is one to the key. Where it was found, each slot that is held newly is led to by one, and the set's pointers
-- are met as it has them.
pub record FindsSo
    (bound few : ℕ) (k : Key) (pointers : List Seen) (slots : List ℕ) (r : Result Found RefusalCause) (v w : View)
    : Type 0 where
  pub can : CanWalk slots w
  pub walked : HasWalked v w
  pub most : w.steps ≤ v.steps + bound
  pub grows : length slots ≤ few
  pub only : OnlyWaysTo k v w
  pub led : OnOk r (AreLedTo k v w)
  pub keeps : OnOk r (KeepsMet pointers v w)
  pub found : IfOk r (λ f. IsFound k pointers f v w)
  pub cause : IfErr r (λ why. RefusesFind k pointers slots why v w)

-- ---- a page that is made

-- the keys are those of a leaf, or of an interior page of either height
abbrev pub CanCopy : Bool → Span → Type 0
CanCopy true span = span.high ≡ span.low + last_at 0
CanCopy false span = (span.high ≡ span.low + last_at 1) ⊎ (span.high ≡ span.low + last_at 2)

-- The pointer over these keys was just seen with this word, which is open and leads to no slot; the published page that
-- it names stands for the keys.
pub record IsBareAt (word : ℕ) (span : Span) (at : ℕ) (v : View) : Type 0 where
  pub bare : word < 2 ^ 32
  pub there : word ≤ length v.pages
  pub look : CanLook v
  pub stands : 0 < word → StandsFor v.layout.decls v.pages span word
  pub lead : IsLeadOf v span word
  pub met : seen_at v.reads at ≡ Some word

-- no slot was given
abbrev pub RefusesGive : RefusalCause → View → View → Type 0
RefusesGive (causes.Conflict at expected seen) v w = IsChanged at expected seen v w
RefusesGive (causes.Full held) v w = IsFull held v w
RefusesGive (causes.Wide set) v w = ⊥
RefusesGive (causes.NumberLimit clock) v w = ⊥

-- The pass was given the slot, which it didn't hold, and has published its page as a copy of the snapshot page with
-- this number: a search and a compare_exchange, at most two steps for each word of the page, and the publish.
pub record HasPublished (t : ℕ) (span : Span) (n : ℕ) (v w : View) : Type 0 where
  pub there : t < v.layout.slots
  pub unheld : has_slot v.grip.holds t ≡ false
  pub since : v.steps ≤ w.steps
  pub most : w.steps ≤ v.steps + (v.layout.slots + 130)
  pub is : w ≡ as_published t span n v w

-- a copy wasn't put in: the pointer or the slot that was to be given has changed, no slot was usable and none was
-- entered, or the holds are full
abbrev pub RefusesInstall : List ℕ → Span → ℕ → ℕ → RefusalCause → View → View → Type 0
RefusesInstall slots span at word (causes.Conflict other expected seen) v w =
    ((other ≡ at) × (expected ≡ word) × IsChangedSince span at word seen v w) ⊎ IsChanged other expected seen v w
RefusesInstall slots span at word (causes.Full held) v w = IsFull held v w × AreLedBy span v w
RefusesInstall slots span at word (causes.Wide set) v w =
    (set ≡ Holds) × (word < 2 ^ 32) × HasNoRoom slots span at word w × AreLedBy span v w
RefusesInstall slots span at word (causes.NumberLimit clock) v w = ⊥

-- The pointer leads to a slot that the pass holds, or why not; the holds are at most so many then.
pub record InstallsSo
    (few : ℕ) (slots : List ℕ) (at word : ℕ) (span : Span) (r : Result ℕ RefusalCause) (v w : View) : Type 0 where
  pub can : CanMake slots w
  pub walked : HasWalked v w
  pub most : w.steps ≤ v.steps + (v.layout.slots + 133)
  pub grows : length slots ≤ few
  pub kept : w.seat.kept ≡ v.seat.kept
  pub words : KeepsWords v w
  pub only : OnlyWays span v w
  pub led : OnOk r (AreLedBy span v w)
  pub others : (a : ℕ) → a ≢ at → seen_at w.reads a ≡ seen_at v.reads a
  pub held : IfOk r (λ t. Contains w.ways (record { slot = t; span = span }) × (t < w.layout.slots))
  pub cause : IfErr r (λ why. RefusesInstall slots span at word why v w)

-- ---- pages that are made

-- The page below a pointer is in a slot that the pass holds, or why not; the holds are at most so many then.
pub record SettlesSo
    (few : ℕ) (pointers : List Seen) (slots : List ℕ) (span : Span) (at : ℕ) (r : Result Settled RefusalCause)
    (v w : View) : Type 0 where
  pub can : CanMake slots w
  pub walked : HasWalked v w
  pub most : w.steps ≤ v.steps + (v.layout.slots + 134)
  pub grows : length slots ≤ few
  pub kept : w.seat.kept ≡ v.seat.kept
  pub words : KeepsWords v w
  pub only : OnlyWays span v w
  pub led : OnOk r (AreLedBy span v w)
  pub settled : IfOk r (λ s. HasSettled pointers s span at v w)
  pub cause : IfErr r (λ why. (k : Key) → IsOnto v.layout span at k → RefusesMake k pointers slots why v w)

-- A pointer that was moved was seen once more, and is as the set has it, or why not.
pub record ChecksSo
    (pointers : List Seen) (span : Span) (at : ℕ) (moved : Bool) (r : Result (Unit {0}) RefusalCause) (v w : View)
    : Type 0 where
  pub can : (slots : List ℕ) → CanMake slots v → CanMake slots w
  pub walked : HasWalked v w
  pub most : w.steps ≤ v.steps + 1
  pub kept : w.seat.kept ≡ v.seat.kept
  pub words : KeepsWords v w
  pub only : OnlyWays span v w
  pub grip : w.grip ≡ v.grip
  pub others : (a : ℕ) → (a ≢ at) ⊎ (moved ≡ false) → seen_at w.reads a ≡ seen_at v.reads a
  pub same : OnOk r (moved ≡ true → (word : ℕ) → word_at at pointers ≡ Some word → seen_at w.reads at ≡ Some word)
  pub cause : IfErr r (λ why. (k : Key) → IsOnto v.layout span at k → (slots : List ℕ)
      → RefusesMake k pointers slots why v w)

-- By at most so many steps, and with at most so many holds, the pages on the way to the record of the key are in slots
-- that the pass holds, or why not. Nothing is kept. Each way that is new is one to the key; where the pages are there,
-- each slot that is held newly is led to by one.
pub record MakesSo
    (bound few : ℕ) (k : Key) (pointers : List Seen) (slots : List ℕ) (r : Result ℕ RefusalCause) (v w : View)
    : Type 0 where
  pub can : CanMake slots w
  pub walked : HasWalked v w
  pub most : w.steps ≤ v.steps + bound
  pub grows : length slots ≤ few
  pub kept : w.seat.kept ≡ v.seat.kept
  pub words : KeepsWords v w
  pub only : OnlyWaysTo k v w
  pub led : OnOk r (AreLedTo k v w)
  pub made : IfOk r (λ at. HasMade k pointers at v w)
  pub cause : IfErr r (λ why. RefusesMake k pointers slots why v w)
