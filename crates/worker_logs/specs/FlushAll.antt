-- What a flush of all workers' logs does to each of them.
use Rattle.std.specs.Prelude.{◌≡◌, ◌≢◌, ◌<◌, ◌≤◌, ◌-◌, ℕ, List, [], length, Option, Some, None, slice_get, ⊤}
use Rattle.std.specs.Prelude.{Result, Ok, Err}
use Rattle.log_writer.specs.Journal.{Reaches}
use Rattle.log_writer.specs.declared.journal.LogFault.{LogFault}
use Rattle.log_writer.specs.declared.journal.LogFault.TheVariants.{Limit}
use Rattle.worker_logs.specs.Logs.{LogState, IsJoined}
use Rattle.worker_logs.specs.Moves.{MovesLog}

-- each log file has the bytes that its journal made durable
abbrev pub AllReach : {D : Type 0} → (D → Option (List ℕ)) → List LogState → List D → Type 0
AllReach {D} tells logs banks = (worker : ℕ) (log : LogState) (bank : D) → slice_get logs worker ≡ Some log
    → slice_get banks worker ≡ Some bank → Reaches tells bank log.journal

-- the log with this number and its log file went so
abbrev pub WentSo : {D : Type 0} → (LogState → LogState → D → D → Type 0) → ℕ → List LogState → List LogState
    → List D → List D → Type 0
WentSo {D} R worker old new before now = (was log : LogState) (bank_was bank : D) → slice_get old worker ≡ Some was
    → slice_get new worker ≡ Some log → slice_get before worker ≡ Some bank_was → slice_get now worker ≡ Some bank
    → R was log bank_was bank

-- a log was left alone, and so was its log file
abbrev pub IsLeft : {D : Type 0} → LogState → LogState → D → D → Type 0
IsLeft was log bank_was bank = (log ≡ was) × (bank ≡ bank_was)

-- the log with this number is in front of the one that refused, if one did
abbrev pub IsInFront : {T : Type 0} → Result T ℕ → ℕ → Type 0
IsInFront (Ok done) worker = ⊤
IsInFront (Err failed) worker = worker < failed

module _ {D : Type 0} (tells : D → Option (List ℕ)) (clock : D → ℕ) (image_at : D → ℕ → List ℕ → Type 0)
    (faults : D → ℕ) where
  -- A log was flushed and then marked.
  pub record MarksLog (epoch : ℕ) (was log : LogState) (bank_was bank : D) : Type 0 where
    pub moves : MovesLog tells clock image_at faults (epoch - 1) was log bank_was bank None
    pub joined : IsJoined epoch log

  -- A log refused to be flushed, since its log file failed, now or before: it keeps its mark. One that had no line
  -- waiting stays as it was.
  pub record RefusesFlush (epoch : ℕ) (was log : LogState) (bank_was bank : D) : Type 0 where
    pub fault : LogFault
    pub moves : MovesLog tells clock image_at faults (epoch - 1) was log bank_was bank (Some fault)
    pub not_full : (length : ℕ) → fault ≢ Limit length
    pub mark : log.mark ≡ was.mark
    pub nothing : was.journal.lines ≡ [] → log.journal ≡ was.journal

  -- which of both comes of one log
  abbrev pub FlushedAs : {T : Type 0} → ℕ → Result T LogFault → LogState → LogState → D → D → Type 0
  FlushedAs epoch (Ok done) = MarksLog epoch
  FlushedAs epoch (Err fault) = RefusesFlush epoch

  -- so many logs were flushed and marked, and the others left alone
  pub record FlushedTo (epoch count : ℕ) (old new : List LogState) (before now : List D) : Type 0 where
    pub as_many_logs : length new ≡ length old
    pub as_many_banks : length now ≡ length before
    pub done : (worker : ℕ) → worker < count → WentSo (MarksLog epoch) worker old new before now
    pub left : (worker : ℕ) → count ≤ worker → WentSo IsLeft worker old new before now

  -- The logs were flushed and marked one after another, up to the first that refused; those behind it were left alone.
  pub record FlushesAll {T : Type 0} (epoch : ℕ) (old new : List LogState) (before now : List D)
      (result : Result T ℕ) : Type 0 where
    pub as_many_logs : length new ≡ length old
    pub as_many_banks : length now ≡ length before
    pub within : (failed : ℕ) → result ≡ Err failed → failed < length old
    pub done : (worker : ℕ) → IsInFront result worker → WentSo (MarksLog epoch) worker old new before now
    pub failed : (worker : ℕ) → result ≡ Err worker → WentSo (RefusesFlush epoch) worker old new before now
    pub left : (failed worker : ℕ) → result ≡ Err failed → failed < worker → WentSo IsLeft worker old new before now
