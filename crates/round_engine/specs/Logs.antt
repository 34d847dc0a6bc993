-- What a round leaves of each worker's log and its log files.
use Rattle.std.specs.Prelude.{◌≡◌, ◌⊎◌, ◌++◌, ℕ, List, flat_map, length, option_to_list}
use Rattle.std.specs.List.{AllByRecursion}
use Rattle.std.specs.Prelude.{Option, Some, slice_get}
use Rattle.lists.specs.Fronts.{IsFront}
use Rattle.outside.specs.Fronts.{AllBegin}
use Rattle.log_writer.specs.Vault.{disk_in}
use Rattle.outside.specs.declared.device.Device.TheVariants.{Bank}
use Rattle.log_writer.specs.declared.vault.Vault.{Vault}
use Rattle.serial_model.specs.declared.number.Commit.{Commit}
use Rattle.wire_form.specs.LogFile.{lines_bytes}
use Rattle.wire_form.specs.declared.clock.Mark.{Mark}
use Rattle.worker_logs.specs.Logs.{IsLog, LogRan, LogState}
use Rattle.worker_logs.specs.Saves.{closed_number, growing_number}
use Rattle.worker_logs.specs.Rows.{NeverFall}
use Rattle.worker_logs.specs.Shown.{IsShownSince, Stood}
use Rattle.shared_rounds.specs.Shares.{shown_epochs}
use Rattle.round_engine.specs.Standing.{RuntimeState}
pub use Rattle.shared_rounds.specs.Workers.{IsFirstAt, IsLongerBy, IsRefusedBy}

module _ {D : Type 0} (tells : D → Option (List ℕ)) (clock : D → ℕ) (image_at : D → ℕ → List ℕ → Type 0) where
  -- A worker's part of a round: it logged so many commits more, its log file grew, and the marks that it had say what
  -- they count, and their epochs never fall. Those of them, of these epochs, were shown to others while its lines ran,
  -- the first one from the begin on, and each other since its own moment.
  pub record LeavesLog (commits more : List Commit) (was durable : List ℕ) (marks : List Mark) (shown : List Stood)
      (epochs : List (Option ℕ)) (before now : D) (log : LogState) : Type 0 where
    pub ran : LogRan tells clock image_at (commits ++ more) was durable marks before now log
    pub while_run : shown_epochs shown ≡ epochs
    pub first : IsFirstAt (clock before) shown
    pub since : AllByRecursion (IsShownSince clock image_at durable (clock before) now marks) shown
    pub rise : NeverFall 0 (flat_map (λ (m : Mark). option_to_list m.epoch) marks)

  -- the workers' logs are those of these commits, of which these bytes are durable
  abbrev pub AreLogs : (ℕ → List Commit) → (ℕ → List ℕ) → RuntimeState → Vault D → Type 0
  AreLogs commits durable r vault = (worker : ℕ) (log : LogState) (bank : D) → slice_get r.logs worker ≡ Some log
      → disk_in vault (Bank (growing_number r.side worker)) ≡ Some bank
      → IsLog tells clock image_at (commits worker) (durable worker) log bank

  -- A closed log file has the lines of these commits: each image begins with them, and so do the bytes that it tells.
  -- All of them count, or nothing does.
  pub record IsClosedFile (commits : List Commit) (bytes : List ℕ) (counted : ℕ) (bank : D) : Type 0 where
    pub lines : lines_bytes commits ≡ bytes
    pub begins : AllBegin (image_at bank (clock bank)) bytes
    pub told : (file : List ℕ) × (tells bank ≡ Some file) × IsFront bytes file
    pub counts : (counted ≡ 0) ⊎ (counted ≡ length bytes)

  -- so it is with each worker's
  abbrev pub AreClosedFiles : (ℕ → List Commit) → (ℕ → List ℕ) → RuntimeState → Vault D → Type 0
  AreClosedFiles commits bytes r vault = (worker counted : ℕ) (bank : D) → slice_get r.counted worker ≡ Some counted
      → disk_in vault (Bank (closed_number r.side worker)) ≡ Some bank
      → IsClosedFile (commits worker) (bytes worker) counted bank
