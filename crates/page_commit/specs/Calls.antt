-- Why an operation of a transaction is refused.
use Rattle.std.specs.Prelude.{◌≡◌, ◌≢◌, ◌⊎◌, ℕ, suc, ◌+◌, ◌%◌, ◌^◌, ◌≤◌, ◌<◌, true, false, List, [], ◌∷◌, ◌++◌, Option, Some}
use Rattle.std.specs.Prelude.{length, Bool, Contains, None, ◌-◌, ◌/◌}
use Rattle.std.specs.List.{list_all}
use Rattle.serial_model.specs.declared.key.Key.{Key}
use Rattle.homes.specs.declared.places.Spot.{Spot}
use Rattle.wire_form.specs.Leaves.{array_leaf, word_in}
use Rattle.drop_core.specs.Table.{has_slot}
use Rattle.tx_sets.specs.declared.seen.Seen.{Seen}
use Rattle.tx_sets.specs.declared.sets.Sets.{Sets}
use Rattle.tx_sets.specs.Entries.{has_read, has_write, word_at}
use Rattle.tx_sets.specs.Gathered.{has_read_room}
use Rattle.engine_pages.specs.declared.view.Read.{Read}
use Rattle.engine_pages.specs.declared.view.RefusalCause.{RefusalCause}
use Rattle.engine_pages.specs.declared.view.SetName.TheVariants.{Reads, Writes, Pointers, Holds}
use Rattle.engine_pages.specs.declared.view.View.{View}
use Rattle.engine_pages.specs.Layout.{page_at, slot_at}
use Rattle.engine_pages.specs.Slots.{first_retired, is_taken_word, is_usable_word, looks}
use Rattle.engine_pages.specs.Steps.{glance}
use Rattle.array_pages.specs.Spans.{find_steps, make_steps}
use Rattle.array_pages.specs.Walks.{IsWayPlace}
use Rattle.page_commit.specs.Refusing.{IsConflictAt, IsPointerConflict}
use Rattle.engine_pages.specs.declared.view.RefusalCause.TheVariants as refusals

-- The call's last search for a usable slot found each slot before this one taken, and this one usable, with the
-- expected word; and the step right behind it found another word there.
pub record IsSlotConflict (at expected seen : ℕ) (v w : View) : Type 0 where
  pub slot : ℕ
  pub within : slot < v.layout.slots
  pub place : at ≡ slot_at slot
  pub before : List ℕ
  pub first : ℕ
  pub since : v.steps ≤ first
  pub count : length before ≡ slot
  pub taken : list_all is_taken_word before ≡ true
  pub usable : is_usable_word expected ≡ true
  pub looked : w.looked ≡ looks first 0 (before ++ expected ∷ [])
  pub last : w.last ≡ Some (glance (first + suc (length before)) at seen)
  pub other : seen ≢ expected

-- The call looked at the word of each slot, and none was usable; the lowest retired one is told.
pub record IsFullOf (told : Option (ℕ × ℕ)) (v w : View) : Type 0 where
  pub words : List ℕ
  pub count : length words ≡ v.layout.slots
  pub taken : list_all is_taken_word words ≡ true
  pub held : told ≡ first_retired 0 words
  pub step : ℕ
  pub since : v.steps ≤ step
  pub looked : w.looked ≡ looks step 0 words

-- The word stands where the key's record has its word in a leaf: so many records behind the first one, in a slot's
-- page.
pub record IsWordIn (slots : ℕ) (k : Key) (at : ℕ) : Type 0 where
  pub spot : Spot
  pub within : spot.slot < slots
  pub index : spot.index ≡ k.key % array_leaf.room
  pub word : at ≡ page_at slots spot.slot (word_in array_leaf spot.index)

-- The call found the key's record in a page in memory, and its word unlocked.
pub record IsInMemory (k : Key) (w : View) : Type 0 where
  pub read : Read
  pub met : Contains w.reads read
  pub place : IsWordIn w.layout.slots k read.word
  pub small : read.seen < 2 ^ 60

-- The call saw a pointer on the way to the key that leads to no slot, where the set of pointers has none.
pub record NeedsPointer (k : Key) (pointers : List Seen) (w : View) : Type 0 where
  pub read : Read
  pub met : Contains w.reads read
  pub on : IsWayPlace w.layout k read.word
  pub bare : read.seen < 2 ^ 32
  pub absent : word_at read.word pointers ≡ None

-- The call saw a pointer on the way to the key that leads to a slot which isn't held, or, where pages are made, to
-- none.
pub record NeedsHold (k : Key) (slots : List ℕ) (makes : Bool) (w : View) : Type 0 where
  pub read : Read
  pub met : Contains w.reads read
  pub on : IsWayPlace w.layout k read.word
  pub unshut : read.seen < 2 ^ 60
  pub leads : makes ≡ false → 2 ^ 32 ≤ read.seen
  pub unheld : 2 ^ 32 ≤ read.seen → has_slot slots (read.seen / 2 ^ 32 - 1) ≡ false

-- ---- steps

-- So many steps at most are made by the end of a refused operation: one, and one for each slot that is held.
abbrev pub end_most : ℕ
end_most = 129

-- by a read: those that find the record, and its end, if it was refused
abbrev pub read_most : ℕ
read_most = find_steps + end_most

-- by a write, where there are so many slots: up to three pages are made, and its end
abbrev pub write_most : ℕ → ℕ
write_most slots = make_steps slots + end_most

-- by an addition or subtraction: those of a write and of a read
abbrev pub alter_most : ℕ → ℕ
alter_most slots = write_most slots + read_most

-- ---- slots

-- how many slots an addition or subtraction holds that were not held before, at most: those of its two walks
abbrev pub op_holds : ℕ
op_holds = 6

-- ---- calls

-- A read of the key was refused, before any draw and any lock: its record was in conflict, or a pointer on the way to
-- it, or it needed one more entry of a full set. It needs one of the read set where the record is in memory.
abbrev pub RefusesRead : Sets → Sets → Key → RefusalCause → View → View → Type 0
RefusesRead sets new k (refusals.Conflict at expected seen) v w =
    (has_read k sets.reads ≡ false) × (has_write k sets.writes ≡ false) × (w.draws ≡ v.draws)
    × ((IsConflictAt sets.reads k at expected seen v w × IsWordIn v.layout.slots k at)
    ⊎ (IsPointerConflict sets.pointers at expected seen v w × (w.blamed ≡ v.blamed) × IsWayPlace v.layout k at))
    × (w.touched ≡ v.touched)
RefusesRead sets new k (refusals.Full held) v w = ⊥
RefusesRead sets new k (refusals.Wide set) v w =
    (has_read k sets.reads ≡ false) × (has_write k sets.writes ≡ false) × (w.draws ≡ v.draws)
    × (((set ≡ Reads) × (has_read_room sets ≡ false) × IsInMemory k w)
    ⊎ (((set ≡ Holds) × (length new.holds ≡ 128) × NeedsHold k new.holds false w)
    ⊎ ((set ≡ Pointers) × (length sets.pointers ≡ 128) × NeedsPointer k sets.pointers w)))
    × (w.touched ≡ v.touched)
RefusesRead sets new k (refusals.NumberLimit clock) v w = ⊥

-- A write of the key was refused, before any draw and any lock: it needed one more entry of a full set, first of all of
-- the write set, or there was no slot for a page on the way, or a pointer on the way or a slot's word was in conflict.
abbrev pub RefusesWrite : Sets → Sets → Key → RefusalCause → View → View → Type 0
RefusesWrite sets new k (refusals.Conflict at expected seen) v w =
    (length sets.writes < 16) × (has_write k sets.writes ≡ false) × (w.draws ≡ v.draws)
    × ((IsPointerConflict sets.pointers at expected seen v w × IsWayPlace v.layout k at)
    ⊎ IsSlotConflict at expected seen v w)
    × (w.blamed ≡ v.blamed) × (w.touched ≡ v.touched)
RefusesWrite sets new k (refusals.Full held) v w =
    (length sets.writes < 16) × (has_write k sets.writes ≡ false) × (w.draws ≡ v.draws) × IsFullOf held v w
    × (w.touched ≡ v.touched)
RefusesWrite sets new k (refusals.Wide set) v w =
    (has_write k sets.writes ≡ false) × (w.draws ≡ v.draws) × (((set ≡ Writes) × (length sets.writes ≡ 16))
    ⊎ ((length sets.writes < 16) × (set ≡ Holds) × (length new.holds ≡ 128) × NeedsHold k new.holds true w))
    × (w.touched ≡ v.touched)
RefusesWrite sets new k (refusals.NumberLimit clock) v w = ⊥

-- An addition or subtraction was refused: as a write, or as a read where the write set has room.
abbrev pub RefusesAlter : Sets → Sets → Key → RefusalCause → View → View → Type 0
RefusesAlter sets new k why v w =
    RefusesWrite sets new k why v w ⊎ ((length sets.writes < 16) × RefusesRead sets new k why v w)
