-- What it comes to that the page of a key's record is brought into memory.
use Rattle.std.specs.Prelude.{◌≡◌, ◌⊎◌, ℕ, ◌-◌, ◌/◌, ◌%◌, ◌^◌, ◌<◌, ◌≤◌, false, List, [], ◌∷◌, length, get_or, Contains}
use Rattle.std.specs.Prelude.{Option, Some}
use Rattle.serial_model.specs.declared.key.Key.{Key}
use Rattle.homes.specs.declared.places.Span.{Span}
use Rattle.homes.specs.declared.places.Spot.{Spot}
use Rattle.wire_form.specs.Leaves.{array_leaf}
use Rattle.snapshot_store.specs.Places.{page}
use Rattle.drop_core.specs.Table.{has_slot}
use Rattle.commit_core.specs.declared.seat.Stage.TheVariants.{Idle}
use Rattle.tx_sets.specs.declared.seen.Seen.{Seen}
use Rattle.engine_pages.specs.declared.view.Copied.{Copied}
use Rattle.engine_pages.specs.declared.view.Draft.{Draft}
use Rattle.engine_pages.specs.declared.view.RefusalCause.{RefusalCause}
use Rattle.engine_pages.specs.declared.view.RefusalCause.TheVariants as causes
use Rattle.engine_pages.specs.declared.view.Role.TheVariants.{Keeper}
use Rattle.engine_pages.specs.declared.view.SetName.{SetName}
use Rattle.engine_pages.specs.declared.view.SetName.TheVariants as sets
use Rattle.engine_pages.specs.declared.view.View.{View}
use Rattle.engine_pages.specs.Records.{IsRecordAt}
use Rattle.engine_pages.specs.Steps.{seen_at}
use Rattle.page_pool.specs.Pool.{IsChanged, IsFull}
use Rattle.array_pages.specs.declared.making.Settled.{Settled}
use Rattle.array_pages.specs.Walks.{AreLedTo, CanWalk, HasWalked, IsPointerChanged, IsWayWord, KeepsBut, KeepsMet}
use Rattle.array_pages.specs.Walks.{OnlyMet}

-- ---- a pass that makes pages

-- A worker's pass between two transactions or within one that has yet to draw. Each slot that it was given it has led
-- something to, or has given up; it has locked no header.
pub record CanMake (slots : List ℕ) (v : View) : Type 0 where
  pub walks : CanWalk slots v
  pub worker : v.role ≡ Keeper → ⊥
  pub idle : v.seat.stage ≡ Idle
  pub unlocked : v.seat.locks ≡ []
  pub made : v.grip.made ≡ []
  pub taken : v.grip.taken ≡ []
  pub drafts : v.drafts ≡ []
  pub copies : v.copies ≡ []
  pub blanks : v.blanks ≡ []
  pub leaves : v.new_leaves ≡ []
  pub inners : v.new_inners ≡ []
  pub heads : v.heads ≡ []

-- ---- what it comes to

-- The word of the key's record stands here, in a page that the pass holds: so many records behind the first one of its
-- leaf.
pub record HasRecordAt (k : Key) (at : ℕ) (w : View) : Type 0 where
  pub spot : Spot
  pub place : IsRecordAt w k spot at
  pub index : spot.index ≡ k.key % array_leaf.room

-- The word of the key's record stands there, in a page that the pass holds; no words were met but those of pointers,
-- and those of the set that were last seen as the set has them were last seen so still.
pub record HasMade (k : Key) (pointers : List Seen) (at : ℕ) (v w : View) : Type 0 where
  pub record_at : HasRecordAt k at w
  pub others : OnlyMet v w
  pub keeps : KeepsMet pointers v w

-- The page below a pointer over these keys is in this slot, which the pass holds. The pointer may be one of the set,
-- and was moved then.
pub record HasSettled (pointers : List Seen) (s : Settled) (span : Span) (at : ℕ) (v w : View) : Type 0 where
  pub way : Contains w.ways (record { slot = s.slot; span = span })
  pub there : s.slot < w.layout.slots
  pub others : OnlyMet v w
  pub keeps : KeepsBut pointers s.moved at v w

-- Behind a walk the call looked at the word of each slot, and none was usable. Each slot that it holds and didn't before
-- has a page on the way to the key: what it was given until then it put in.
pub record NoneUsable (told : Option (ℕ × ℕ)) (k : Key) (v w : View) : Type 0 where
  pub before : View
  pub walked : HasWalked v before
  pub full : IsFull told before w
  pub led : AreLedTo k v w

-- A pointer on the way to the key was last seen to lead to a slot that isn't held, or to none, so that a page is to be
-- put in there: it is one more to hold.
pub record NeedsPage (k : Key) (slots : List ℕ) (w : View) : Type 0 where
  pub at : ℕ
  pub word : ℕ
  pub on : IsWayWord k w at
  pub saw : seen_at w.reads at ≡ Some word
  pub unshut : word < 2 ^ 60
  pub unheld : 2 ^ 32 ≤ word → has_slot slots (word / 2 ^ 32 - 1) ≡ false

-- The holds are as many as there is room for, and the way to the key needs one more; no other set is asked for room.
-- What the call holds newly is on that way.
abbrev pub IsMadeWide : Key → List ℕ → SetName → View → View → Type 0
IsMadeWide k slots sets.Reads v w = ⊥
IsMadeWide k slots sets.Writes v w = ⊥
IsMadeWide k slots sets.Pointers v w = ⊥
IsMadeWide k slots sets.Holds v w = (length slots ≡ 128) × NeedsPage k slots w × AreLedTo k v w

-- A page was not made: a pointer or the slot that was to be given was in conflict, no slot was usable, or the holds
-- were full.
abbrev pub RefusesMake : Key → List Seen → List ℕ → RefusalCause → View → View → Type 0
RefusesMake k pointers slots (causes.Conflict at expected seen) v w =
    IsPointerChanged k pointers at expected seen v w ⊎ ((u : View) × HasWalked v u × IsChanged at expected seen u w)
RefusesMake k pointers slots (causes.Full held) v w = NoneUsable held k v w
RefusesMake k pointers slots (causes.Wide set) v w = IsMadeWide k slots set v w
RefusesMake k pointers slots (causes.NumberLimit clock) v w = ⊥

-- ---- a page under construction

-- the words are those of the published page with this number, or all 0 where there is none
abbrev pub AreCopied : List ℕ → List (List ℕ) → ℕ → Type 0
AreCopied words pages n = (i : ℕ) → i < 64 → get_or words i 0 ≡ get_or (page pages n) i 0

-- the words of an owned page
abbrev pub draft_of : ℕ → List ℕ → Draft
draft_of t words = record { slot = t; words = words }

-- a slot that was published as a copy
abbrev pub copy_of : ℕ → Span → ℕ → Copied
copy_of t span n = record { slot = t; span = span; page = n }

-- the page of the slot, which the pass owns alone, has these words now
pub record HasCopied (t : ℕ) (words : List ℕ) (v w : View) : Type 0 where
  pub since : v.steps ≤ w.steps
  pub long : length words ≡ 64
  pub is : w ≡ record v { steps = w.steps; last = w.last; drafts = draft_of t words ∷ [] }

-- the view v with what a published copy in slot t changes as w has it
abbrev pub as_published : ℕ → Span → ℕ → View → View → View
as_published t span n v w = record v {
  steps = w.steps;
  last = w.last;
  looked = w.looked;
  grip = record v.grip { made = t ∷ [] };
  copies = copy_of t span n ∷ [];
}
