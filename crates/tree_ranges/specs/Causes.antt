-- Why a scan is refused, and how many steps it takes at most.
use Rattle.std.specs.Prelude.{◌≡◌, ◌⊎◌, ℕ, ◌+◌, ◌-◌, ◌*◌, ◌≤◌, true, List, ◌++◌, length, Contains}
use Rattle.lists.specs.Fronts.{IsFront}
use Rattle.serial_model.specs.declared.key.Key.{Key}
use Rattle.serial_model.specs.State.{is_within}
use Rattle.tx_sets.specs.declared.reads.ReadEntry.{ReadEntry}
use Rattle.tx_sets.specs.declared.sets.Sets.{Sets}
use Rattle.engine_pages.specs.declared.view.RefusalCause.{RefusalCause}
use Rattle.engine_pages.specs.declared.view.RefusalCause.TheVariants as refusals
use Rattle.engine_pages.specs.declared.view.SetName.TheVariants.{Reads, Pointers, Holds}
use Rattle.engine_pages.specs.declared.view.View.{View}
use Rattle.tree_walks.specs.Finds.{find_steps}
use Rattle.page_commit.specs.Calls.{end_most}
use Rattle.tree_scans.specs.Rows.{key_in}
use Rattle.tree_calls.specs.Causes.{IsWordConflict, NeedsEntry, NeedsPointer, NeedsSlot, WasLong}

-- some more stand behind those of before, and each of them is such a one
pub record HasJoined (A : Type 0) (P : A → Type 0) (old new : List A) : Type 0 where
  pub more : List A
  pub is : new ≡ old ++ more
  pub each : (x : A) → Contains more x → P x

-- the record is that of a key of the range
abbrev pub IsInRange : ℕ → ℕ → ℕ → ReadEntry → Type 0
IsInRange storage low high e = is_within storage low high e.key ≡ true

-- The sets have grown: what they had of records, pointers and headers stands first in them, each record that is new is
-- of a key of the range, and the writes are as they were.
pub record HasGrown (storage low high : ℕ) (sets new : Sets) : Type 0 where
  pub reads : HasJoined ReadEntry (IsInRange storage low high) sets.reads new.reads
  pub pointers : IsFront sets.pointers new.pointers
  pub headers : IsFront sets.headers new.headers
  pub writes : new.writes ≡ sets.writes

-- What refused it: a word on the way to this key that was in conflict, and then no key is told; or a full set, of
-- which one more entry was needed. The sets are those of the moment when it was refused.
abbrev pub IsScanCause : Sets → Key → RefusalCause → View → View → Type 0
IsScanCause new k (refusals.Conflict at expected seen) v w =
    IsWordConflict new k at expected seen v w × (w.blamed ≡ v.blamed)
IsScanCause new k (refusals.Full held) v w = ⊥
IsScanCause new k (refusals.Wide set) v w =
    ((set ≡ Reads) × (256 ≤ length new.reads + length new.headers) × NeedsEntry k new v w)
    ⊎ (((set ≡ Holds) × (((length new.holds ≡ 128) × NeedsSlot k new.holds v w) ⊎ WasLong k v))
    ⊎ ((set ≡ Pointers) × (length new.pointers ≡ 128) × NeedsPointer k new v w))
IsScanCause new k (refusals.NumberLimit clock) v w = ⊥

-- A scan was refused, before any draw and any lock, on the way to a key of the range or at its record: a pointer, a
-- header or the record was in conflict; or the sets, which had grown by what was read of the range so far, had no room.
pub record RefusesScan (sets new : Sets) (storage low high : ℕ) (why : RefusalCause) (v w : View) : Type 0 where
  pub grown : HasGrown storage low high sets new
  pub draws : w.draws ≡ v.draws
  pub touched : w.touched ≡ v.touched
  pub key : ℕ
  pub from : low ≤ key
  pub to : key ≤ high
  pub cause : IsScanCause new (key_in storage key) why v w

-- how many steps a scan takes at most: those of finding a record for each key of the range, and its end
abbrev pub scan_most : ℕ → ℕ → ℕ
scan_most low high = find_steps * ((high + 1) - low) + end_most
