-- What a call of a journal makes of it and of its log file.
use Rattle.std.specs.Prelude.{◌≡◌, ◌≢◌, ◌↔◌, ℕ, ◌-◌, ◌≤◌, List, Option, Some, is_some, length, Result, Err, OnOk, OnErr}
use Rattle.outside.specs.Disk.{Torn, Goes, LeavesEach}
use Rattle.outside.specs.Faults.{Rose}
use Rattle.log_writer.specs.declared.journal.LogFault.{LogFault}
use Rattle.log_writer.specs.declared.journal.LogFault.TheVariants.{Device, Down}
use Rattle.log_writer.specs.Journal.{JournalState, Reaches, IsKept, DurableGrows, DurableStays}

-- A write of so many bytes at an offset with the sync that makes it durable, as one call: a stop during it leaves what
-- a stop within the write may leave, and so does a stop after it where it failed.
pub record WritesThrough {D T E : Type 0} (tells : D → Option (List ℕ)) (clock : D → ℕ) (image_at : D → ℕ → List ℕ → Type 0) (at count : ℕ) (old new : D) (result : Result T E) : Type 0 where
  pub told : is_some (tells new) ≡ is_some (tells old)
  pub moments : Goes clock image_at (Torn at count) old new
  pub each : LeavesEach clock image_at (Torn at count) old new (clock new - 1)
  pub unsettled : OnErr result (LeavesEach clock image_at (Torn at count) old new (clock new))

-- When a call of a journal is refused. `Device` only where the log file's count of faults rose, and then the journal is
-- down; `Down` exactly where it was down. Another refusal leaves all as it was, and `Ok` leaves the count.
pub record Refuses {D T : Type 0} (faults : D → ℕ) (old new : JournalState) (before now : D) (result : Result T LogFault) : Type 0 where
  pub later : faults before ≤ faults now
  pub quiet : OnOk result (faults now ≡ faults before)
  pub device : result ≡ Err Device → Rose (faults before) (faults now)
  pub goes_down : result ≡ Err Device → new.down ≡ Some (faults now)
  pub down : (count : ℕ) → (result ≡ Err (Down count)) ↔ (old.down ≡ Some count)
  pub untouched : result ≢ Err Device → OnErr result ((new ≡ old) × (now ≡ before))

-- A call of a journal that writes the lines that wait, or nothing.
pub record Flushes {D T : Type 0} (tells : D → Option (List ℕ)) (clock : D → ℕ) (image_at : D → ℕ → List ℕ → Type 0) (faults : D → ℕ) (old new : JournalState) (before now : D) (result : Result T LogFault) : Type 0 where
  pub reaches : Reaches tells now new
  pub through : WritesThrough tells clock image_at old.durable (length old.lines) before now result
  pub durable : OnOk result (DurableGrows tells clock image_at old new before now)
  pub stays : DurableStays clock image_at old before now
  pub kept : OnErr result (IsKept old new)
  pub refused : Refuses faults old new before now result
