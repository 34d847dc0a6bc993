-- What a save by the workers' marks stores, and what it counts.
use Rattle.std.specs.Prelude.{◌≡◌, ◌≢◌, ◌⊎◌, ◌<◌, ◌≤◌, ◌+◌, ◌-◌, ◌*◌, ◌^◌, ◌++◌, ℕ, List, [], ◌∷◌, length, map}
use Rattle.std.specs.Prelude.{flat_map, fold, min, Option, Some, None, option_to_list, Result, Ok, Err, IfOk, OnOk, OnErr}
use Rattle.std.specs.Prelude.{slice_get}
use Rattle.std.specs.List.{AllByRecursion}
use Rattle.outside.specs.declared.device.Device.TheVariants.{Bank}
use Rattle.log_writer.specs.Counted.{KeepsCounted}
use Rattle.log_writer.specs.Vault.{disk_in}
use Rattle.log_writer.specs.declared.records.Tie.{Tie}
use Rattle.log_writer.specs.declared.vault.Vault.{Vault}
use Rattle.serial_model.specs.declared.number.Commit.{Commit}
use Rattle.wire_form.specs.declared.clock.Mark.{Mark}
use Rattle.wire_form.specs.declared.savepoint.Savepoint.{Savepoint}
use Rattle.log_writer.specs.Points.{SaveState, sequence_of}
use Rattle.log_writer.specs.Stores.{Stores}
use Rattle.log_writer.specs.declared.save.SaveFault.{SaveFault}
use Rattle.log_writer.specs.declared.save.SaveFault.TheVariants.{Device, Down, Limit}
use Rattle.log_writer.specs.declared.saved.Saved.{Saved}
use Rattle.joint_crashes.specs.Images.{epoch_of, counted_of}
use Rattle.joint_crashes.specs.Marks.{Marks}
use Rattle.worker_logs.specs.Logs.{LogState}
use Rattle.worker_logs.specs.declared.savepoints.Beside.{Beside}
use Rattle.worker_logs.specs.declared.savepoints.Side.{Side}
use Rattle.worker_logs.specs.declared.savepoints.Side.TheVariants.{Even, Odd}

-- the marks of the logs
abbrev pub logs_marks : List LogState → List Mark
logs_marks logs = map (λ log. log.mark) logs

-- The saved epoch: the least of the clock's epoch less 1 and of the epochs of the marks that aren't idle.
abbrev pub saved_epoch : ℕ → List (Option ℕ) → ℕ
saved_epoch epoch marks = fold min (epoch - 1) (flat_map option_to_list marks)

-- numbers of log files of even and of odd number, in turn
abbrev pub in_turn : List ℕ → List ℕ → List ℕ
in_turn (n ∷ even) (m ∷ odd) = n ∷ m ∷ in_turn even odd
in_turn _ _ = []

-- and of growing and of closed ones
abbrev pub lengths_by : Side → List ℕ → List ℕ → List ℕ
lengths_by Even growing closed = in_turn growing closed
lengths_by Odd growing closed = in_turn closed growing

-- the number of a worker's growing log file
abbrev pub growing_number : Side → ℕ → ℕ
growing_number Even worker = 2 * worker
growing_number Odd worker = 2 * worker + 1

-- and of its closed one
abbrev pub closed_number : Side → ℕ → ℕ
closed_number Even worker = 2 * worker + 1
closed_number Odd worker = 2 * worker

-- a savepoint has room for what counts beside the growing log files
pub record IsBeside (beside : Beside) : Type 0 where
  pub workers : length beside.closed ≡ 8
  pub counted : AllByRecursion (λ n. n < 2 ^ 40) beside.closed
  pub some_page : 1 ≤ beside.count
  pub most_pages : beside.count ≤ 65536

-- What is saved at an epoch of the clock by the marks of workers 0 to 7: the saved epoch, all pages, the last of which
-- is the newest catalogue, and of each growing log file the length that its worker's mark counts. Of a closed one
-- counts what counts beside.
pub record SavesBy (clock : ℕ) (seen : List Mark) (beside : Beside) (saved : Saved) : Type 0 where
  pub epoch : saved.epoch ≡ saved_epoch clock (map (λ m. m.epoch) seen)
  pub lengths : saved.lengths ≡ lengths_by beside.growing (map (λ m. m.length) seen) beside.closed
  pub catalogue : saved.catalogue ≡ beside.count
  pub count : saved.count ≡ beside.count

-- What is saved by these marks is durable: of each growing log file what its worker's mark counts, and of each closed
-- one what counts beside.
pub record AreDurable {D : Type 0} (clock : D → ℕ) (image_at : D → ℕ → List ℕ → Type 0) (seen : List Mark)
    (beside : Beside) (vault : Vault D) : Type 0 where
  pub growing : (worker : ℕ) (m : Mark) (bank : D) → slice_get seen worker ≡ Some m
      → disk_in vault (Bank (growing_number beside.growing worker)) ≡ Some bank
      → KeepsCounted clock image_at m.length bank
  pub closed : (worker n : ℕ) (bank : D) → slice_get beside.closed worker ≡ Some n
      → disk_in vault (Bank (closed_number beside.growing worker)) ≡ Some bank → KeepsCounted clock image_at n bank

-- the tie of a store behind this savepoint
abbrev pub tie_after : Option Savepoint → ℕ → Option ℕ → Tie
tie_after newest snaps ended = record { sequence = sequence_of newest + 1; snaps = snaps; ended = ended }

-- A save at an epoch of the clock by these marks: what they allow is stored, with its tie, and nothing else of the
-- vault is touched. It answers the saved epoch.
pub record SavesMarks {D : Type 0} (tells : D → Option (List ℕ)) (clock : D → ℕ) (image_at : D → ℕ → List ℕ → Type 0)
    (faults : D → ℕ) (epoch : ℕ) (seen : List Mark) (beside : Beside) (old new : SaveState) (before now : Vault D)
    (result : Result ℕ SaveFault) : Type 0 where
  pub saved : Saved
  pub by_marks : SavesBy epoch seen beside saved
  pub stores : Stores tells clock image_at faults saved old new before.save now.save result
  pub told : IfOk result (λ answer. answer ≡ saved.epoch)
  pub counted : sequence_of old.newest < 2 ^ 63
  pub tied : OnOk result (now.ties.items
      ≡ before.ties.items ++ tie_after old.newest (clock before.snaps) (Some (clock now.save)) ∷ [])
  pub begun : result ≡ Err Device → now.ties.items
      ≡ before.ties.items ++ tie_after old.newest (clock before.snaps) None ∷ []
  pub untied : result ≢ Err Device → OnErr result (now ≡ before)
  pub room : before.ties.room ≤ now.ties.room + 1
  pub snaps : now.snaps ≡ before.snaps
  pub even : now.even ≡ before.even
  pub odd : now.odd ≡ before.odd
  pub cuts : now.cuts ≡ before.cuts

-- the last sequence of which a store was begun
abbrev pub sequence_begun : Option Savepoint → Result ℕ SaveFault → ℕ
sequence_begun newest (Ok epoch) = sequence_of newest + 1
sequence_begun newest (Err Device) = sequence_of newest + 1
sequence_begun newest (Err (Down faults)) = sequence_of newest
sequence_begun newest (Err (Limit sequence)) = sequence_of newest

-- A savepoint counts so many bytes of a log file of these commits: bytes that are durable and whole lines, behind which
-- no commit has an epoch up to its own.
abbrev pub IsCounted : List Commit → List ℕ → ℕ → ℕ → Type 0
IsCounted commits durable epoch size = Marks commits epoch size × (size ≤ length durable)

-- The newest savepoint counts of each growing log file what covers its worker's commits since the swap, and of each
-- closed one what covers those before it, or nothing.
pub record CountsOf (side : Side) (commits gone : ℕ → List Commit) (durable closed : ℕ → List ℕ)
    (newest : Option Savepoint) : Type 0 where
  pub growing : (worker : ℕ) → worker < 8
      → IsCounted (commits worker) (durable worker) (epoch_of newest) (counted_of newest (growing_number side worker))
  pub before : (worker : ℕ) → worker < 8 → (counted_of newest (closed_number side worker) ≡ 0)
      ⊎ IsCounted (gone worker) (closed worker) (epoch_of newest) (counted_of newest (closed_number side worker))
