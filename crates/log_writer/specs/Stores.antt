-- What loading a save device gives, and what a store makes of it.
use Rattle.std.specs.Prelude.{◌≡◌, ◌≢◌, ◌↔◌, ◌⊎◌, ℕ, ◌-◌, ◌^◌, ◌≤◌, List, Option, Some, None, IfSome, is_some, Result, Err, OnOk, OnErr}
use Rattle.std.specs.Option.{option_map}
use Rattle.outside.specs.Disk.{IfTold, Only, Runs}
use Rattle.outside.specs.Faults.{Rose}
use Rattle.log_writer.specs.declared.save.SaveOpen.{SaveOpen}
use Rattle.log_writer.specs.declared.save.SaveOpen.TheVariants.{Device as Unreadable}
use Rattle.log_writer.specs.declared.save.SaveFault.{SaveFault}
use Rattle.log_writer.specs.declared.save.SaveFault.TheVariants.{Device, Down, Limit}
use Rattle.log_writer.specs.declared.saved.Saved.{Saved}
use Rattle.log_writer.specs.Points.{SaveState, IsSaved, saved_of, sequence_of, next_point}
use Rattle.log_writer.specs.Save.{Names, IsStored, NamesOldOrNew}

-- A call that reads a save device answers `Device` only where the device's count of faults rose; where it answers
-- something else the count stands still, so that no fault passes for a savepoint or for damage.
pub record Blames {D T : Type 0} (faults : D → ℕ) (before now : D) (result : Result T SaveOpen) : Type 0 where
  pub later : faults before ≤ faults now
  pub quiet : result ≢ Err Unreadable → faults now ≡ faults before
  pub device : result ≡ Err Unreadable → Rose (faults before) (faults now)

-- What a save device was found to have: the savepoint that it names for the newest, or none, and what that says. A
-- device with one image is as `store` asks.
pub record Finds {D : Type 0} (tells : D → Option (List ℕ)) (clock : D → ℕ) (image_at : D → ℕ → List ℕ → Type 0) (before now : D) (state : SaveState) (saved : Option Saved) : Type 0 where
  pub names : IfTold (tells before) (λ file. Names file state.newest)
  pub says : saved ≡ option_map saved_of state.newest
  pub ranges : IfSome saved IsSaved
  pub up : state.down ≡ None
  pub stored : IfTold (tells before) (Only clock image_at before) → IsStored tells clock image_at now state.newest

-- the count rose twice, or stands at the last value that it has
abbrev pub RoseTwice : ℕ → ℕ → Type 0
RoseTwice before now = (between : ℕ) × Rose before between × Rose between now

-- One store. Each image since it began names the old savepoint or the new one, and after `Ok` the new one alone.
-- `Device` comes only where the count of faults rose, and then the store is down; `Down` exactly where it was down;
-- `Limit` exactly at the last sequence of one that was not. Both leave all as it was. Behind `Device` reads give the old
-- savepoint again, or the call that was to take the new one back had failed, too: what a failed sync was to bring may be
-- shown and forgotten.
pub record Stores {D T : Type 0} (tells : D → Option (List ℕ)) (clock : D → ℕ) (image_at : D → ℕ → List ℕ → Type 0) (faults : D → ℕ) (saved : Saved) (old new : SaveState) (before now : D) (result : Result T SaveFault) : Type 0 where
  pub newest : OnOk result (new.newest ≡ Some (next_point old saved))
  pub stored : OnOk result (IsStored tells clock image_at now new.newest)
  pub any_moment : IfTold (tells before) (λ _. Runs clock image_at before now (NamesOldOrNew old.newest (next_point old saved)))
  pub told : is_some (tells now) ≡ is_some (tells before)
  pub up : OnOk result ((old.down ≡ None) × (new.down ≡ None))
  pub kept : OnErr result (new.newest ≡ old.newest)
  pub later : faults before ≤ faults now
  pub quiet : OnOk result (faults now ≡ faults before)
  pub device : result ≡ Err Device → Rose (faults before) (faults now)
  pub goes_down : result ≡ Err Device → new.down ≡ Some (faults now)
  pub taken_back : result ≡ Err Device → IfTold (tells before) (λ _. IfTold (tells now)
      (λ left. Names left old.newest ⊎ RoseTwice (faults before) (faults now)))
  pub down : (count : ℕ) → (result ≡ Err (Down count)) ↔ (old.down ≡ Some count)
  pub limit : (sequence : ℕ) → (result ≡ Err (Limit sequence)) ↔ ((old.down ≡ None) × (sequence ≡ sequence_of old.newest) × (sequence ≡ 2 ^ 63 - 1))
  pub untouched : result ≢ Err Device → OnErr result ((new ≡ old) × (now ≡ before))
