-- Where a runtime stands between two calls.
use Rattle.std.specs.Prelude.{◌≡◌, ◌<◌, ◌≤◌, ◌^◌, ℕ, Bool, false, true, List, Option, Some, None, length}
use Rattle.std.specs.Prelude.{[], slice_get, ⊤}
use Rattle.std.specs.List.{AllByRecursion}
use Rattle.log_writer.specs.Vault.{disk_in, IsWhole}
use Rattle.outside.specs.declared.device.Device.TheVariants.{Bank}
use Rattle.log_writer.specs.declared.vault.Vault.{Vault}
use Rattle.wire_form.specs.Pages.{Contents, decls_of}
use Rattle.log_writer.specs.Counted.{AlwaysTells, KeepsCounted}
use Rattle.log_writer.specs.Journal.{Reaches}
use Rattle.log_writer.specs.Points.{SaveState}
use Rattle.log_writer.specs.Save.{IsStored}
use Rattle.snapshot_store.specs.Content.{SnapshotStands, words_of}
use Rattle.snapshot_store.specs.Store.{HoldsPages, StoreState}
use Rattle.joint_crashes.specs.Images.{epoch_of}
use Rattle.worker_logs.specs.Logs.{IsJoined, IsPassed, IsSomeLog, LogState, log_limit}
use Rattle.worker_logs.specs.Saves.{closed_number, growing_number}
use Rattle.worker_logs.specs.declared.savepoints.Beside.{Beside}
use Rattle.worker_logs.specs.declared.savepoints.Side.{Side}
use Rattle.script_grammar.specs.Script.{Round, lines_of_worker}
use Rattle.tx_script.specs.Causes.{some_counted}
use Rattle.tx_script.specs.Run.{LogFiles}
use Rattle.round_engine.specs.Sides.{is_odd}
pub use Rattle.shared_rounds.specs.Standing.{Standing}

-- what a runtime has between two rounds
pub record RuntimeState : Type 0 where
  -- where the engine stands
  pub stands : Standing
  -- the stores of savepoints and of snapshot pages, and how many pages are let in
  pub save : SaveState
  pub store : StoreState
  pub room : ℕ
  -- which log files grow; of each worker's closed one how many bytes count; and the epoch at which they were closed
  pub side : Side
  pub counted : List ℕ
  pub closed_at : ℕ
  -- the logs of workers 0 to 7
  pub logs : List LogState
  -- whether a device failed, or memory was wanted in a round
  pub down : Bool

-- what a savepoint counts beside the growing log files
abbrev pub beside_of : RuntimeState → Beside
beside_of r = record { growing = r.side; closed = r.counted; count = length r.store.pages }

-- the log files as a round finds them
abbrev pub files_of : RuntimeState → LogFiles
files_of r = record { odd = is_odd r.side; counted = r.counted; closed_at = r.closed_at }

-- the stores are up, and so are the journals
pub record AreUp (r : RuntimeState) : Type 0 where
  pub save : r.save.down ≡ None
  pub store : r.store.sound ≡ true
  pub logs : AllByRecursion (λ log. log.journal.down ≡ None) r.logs

-- While the run goes on nothing is down, and each log was joined: no line waits, and its mark counts all that is
-- durable, up to the epoch before the clock's.
pub record IsReady (r : RuntimeState) : Type 0 where
  pub up : r.down ≡ false
  pub logs : AllByRecursion (IsJoined r.stands.clock.epoch) r.logs

-- a mark is of an earlier epoch than this one, or of an idle worker
abbrev pub IsMarkBefore : ℕ → Option ℕ → Type 0
IsMarkBefore clock None = ⊤
IsMarkBefore clock (Some epoch) = epoch < clock

-- each growing log file reaches to what its journal made durable
abbrev pub LogsReach : {D : Type 0} → (D → Option (List ℕ)) → RuntimeState → Vault D → Type 0
LogsReach {D} tells r vault = (worker : ℕ) (log : LogState) (bank : D) → slice_get r.logs worker ≡ Some log
    → disk_in vault (Bank (growing_number r.side worker)) ≡ Some bank → Reaches tells bank log.journal

-- Each log is that of some commits, as its growing log file has them, and what counts of each closed one is durable.
pub record LogsStand {D : Type 0} (tells : D → Option (List ℕ)) (clock : D → ℕ) (image_at : D → ℕ → List ℕ → Type 0)
    (side : Side) (logs : List LogState) (counted : List ℕ) (vault : Vault D) : Type 0 where
  pub growing : (worker : ℕ) (log : LogState) (bank : D) → slice_get logs worker ≡ Some log
      → disk_in vault (Bank (growing_number side worker)) ≡ Some bank → IsSomeLog tells clock image_at log bank
  pub closed : (worker count : ℕ) (bank : D) → slice_get counted worker ≡ Some count
      → disk_in vault (Bank (closed_number side worker)) ≡ Some bank → KeepsCounted clock image_at count bank

-- A commit of the clock's epoch may follow the mark of each worker that has a line.
abbrev pub ArePassed : Round → RuntimeState → Type 0
ArePassed round r = (worker : ℕ) (log : LogState) → slice_get r.logs worker ≡ Some log
    → (lines_of_worker round worker ≡ [] → ⊥) → IsPassed r.stands.clock.epoch log.mark

-- Of each worker's closed log file a length counts that a savepoint has room for. They were closed at an epoch before
-- the clock's.
pub record AreClosed (r : RuntimeState) : Type 0 where
  pub workers : length r.counted ≡ 8
  pub counted : AllByRecursion (λ n. n < 2 ^ 40) r.counted
  pub before : r.closed_at < r.stands.clock.epoch

-- All pages of the store are published to the engine, and it has room for as many as are let in.
abbrev pub IsPublished : RuntimeState → Type 0
IsPublished r = (r.stands.pages ≡ words_of r.store.pages) × (r.stands.resident ≡ r.room)

-- The last page is the catalogue of a snapshot that stands, which has the storages. It is no later than the epoch at
-- which the closed log files were closed, and where bytes of these count it is earlier. The device begins with the
-- pages, as far as it tells, they are within what is let in, and a running engine has them.
pub record HasSnapshot {D : Type 0} (tells : D → Option (List ℕ)) (r : RuntimeState) (snaps : D) : Type 0 where
  pub holds : HoldsPages tells snaps r.store.pages
  pub contents : Contents
  pub stands : SnapshotStands (words_of r.store.pages) (length r.store.pages) contents
  pub decls : r.stands.decls ≡ decls_of contents
  pub up_to : contents.epoch ≤ r.closed_at
  pub earlier : some_counted r.counted ≡ true → contents.epoch < r.closed_at
  pub let_in : length r.store.pages ≤ r.room
  pub published : IsPublished r

-- A runtime has eight logs of their limit, and its clock is above the saved epoch and the marks. The devices are as
-- its calls left them, as far as they tell their bytes: the save device has the newest savepoint, unless a store
-- failed, the snapshots have all pages, unless they failed, and each growing log file reaches to what its journal made
-- durable. Where the disks tell their bytes, what counts of the log files is durable.
pub record StandsOn {D : Type 0} (tells : D → Option (List ℕ)) (clock : D → ℕ) (image_at : D → ℕ → List ℕ → Type 0)
    (r : RuntimeState) (vault : Vault D) : Type 0 where
  pub whole : IsWhole vault
  pub workers : length r.logs ≡ 8
  pub limits : AllByRecursion (λ log. log.journal.limit ≡ log_limit) r.logs
  pub above : epoch_of r.save.newest < r.stands.clock.epoch
  pub marked : AllByRecursion (λ log. IsMarkBefore r.stands.clock.epoch log.mark.epoch) r.logs
  pub closed : AreClosed r
  pub most_pages : r.room ≤ 65536
  pub up : r.down ≡ false → AreUp r
  pub goes_on : r.stands.ended ≡ false → IsReady r
  pub stored : r.save.down ≡ None → IsStored tells clock image_at vault.save r.save.newest
  pub snapshot : r.store.sound ≡ true → HasSnapshot tells r vault.snaps
  pub reaches : LogsReach tells r vault
  pub durable : AlwaysTells tells → LogsStand tells clock image_at r.side r.logs r.counted vault
