-- What calls of a log in a row leave of it, with the commits that are put between them.
use Rattle.std.specs.Prelude.{◌≡◌, ◌≤◌, ◌<◌, ◌⊎◌, ◌+◌, ◌-◌, ◌++◌, ℕ, List, [], ◌∷◌, Option, Some, None, option_to_list}
use Rattle.std.specs.Prelude.{flat_map, slice_get, ⊤}
use Rattle.std.specs.List.{AllByRecursion}
use Rattle.outside.specs.Faults.{Rose}
use Rattle.serial_model.specs.declared.number.Commit.{Commit}
use Rattle.wire_form.specs.LogLine.{line_bytes}
use Rattle.wire_form.specs.declared.clock.Mark.{Mark}
use Rattle.log_writer.specs.Journal.{JournalState, Reaches, end_of}
use Rattle.log_writer.specs.declared.journal.LogFault.{LogFault}
use Rattle.log_writer.specs.declared.journal.LogFault.TheVariants.{Device, Down, Limit}
use Rattle.worker_logs.specs.Logs.{IsPassed, LogRan, LogState, log_limit}

-- ---- a commit

-- a commit's line was put behind those that wait
pub record Puts (c : Commit) (old new : LogState) : Type 0 where
  pub lines : new.journal.lines ≡ old.journal.lines ++ line_bytes c
  pub durable : new.journal.durable ≡ old.journal.durable
  pub limit : new.journal.limit ≡ old.journal.limit
  pub down : new.journal.down ≡ old.journal.down
  pub mark : new.mark ≡ old.mark

-- the log took the commit, if there was one
abbrev pub TakesCommit : Option Commit → LogState → LogState → Type 0
TakesCommit None old new = new ≡ old
TakesCommit (Some c) old new = Puts c old new

-- ---- epochs that never fall

-- from this number on they never fall
abbrev pub NeverFall : ℕ → List ℕ → Type 0
NeverFall low [] = ⊤
NeverFall low (n ∷ more) = (low ≤ n) × NeverFall n more

-- ---- calls in a row

-- the epoch before one of these, from the first to the last; none of an idle worker
abbrev pub IsBeforeOne : ℕ → ℕ → Option ℕ → Type 0
IsBeforeOne low high None = ⊥
IsBeforeOne low high (Some epoch) = (low - 1 ≤ epoch) × (epoch ≤ high - 1)

module _ {D : Type 0} (tells : D → Option (List ℕ)) (clock : D → ℕ) (image_at : D → ℕ → List ℕ → Type 0) where
  -- How a log went on, with so many commits more, and with some marks, each of the epoch before one of these, from the
  -- first to the last. Their epochs never fall.
  pub record LogTook (low high : ℕ) (commits : List Commit) (was : List ℕ) (marks : List Mark) (first now : D)
      (log : LogState) : Type 0 where
    pub durable : List ℕ
    pub set : List Mark
    pub of_epochs : AllByRecursion (λ m. IsBeforeOne low high m.epoch) set
    pub rise : NeverFall (low - 1) (flat_map (λ (m : Mark). option_to_list m.epoch) set)
    pub ran : LogRan tells clock image_at commits was durable (marks ++ set) first now log

  -- Calls of a log at epochs of the clock from the first of these to the last, with these commits among them: whatever
  -- it did since a moment goes on, where each mark that it had is of an epoch before the first, if there is a commit.
  abbrev pub LogTakes : ℕ → ℕ → List Commit → LogState → LogState → D → D → Type 0
  LogTakes low high logged old new before now = (commits : List Commit) (was durable : List ℕ) (marks : List Mark)
      (first : D) → LogRan tells clock image_at commits was durable marks first before old
      → ((logged ≡ [] → ⊥) → AllByRecursion (IsPassed low) marks)
      → LogTook low high (commits ++ logged) was marks first now new

-- one call: the mark stays, or is of the epoch before this one
abbrev pub KeepsMark : ℕ → LogState → LogState → Type 0
KeepsMark epoch old new = (new.mark ≡ old.mark) ⊎ (new.mark.epoch ≡ Some (epoch - 1))

-- calls in a row: it stays, or is of the epoch before one of these
abbrev pub KeepsMarkIn : ℕ → ℕ → LogState → LogState → Type 0
KeepsMarkIn low high old new = (new.mark ≡ old.mark) ⊎ IsBeforeOne low high new.mark.epoch

-- A journal that was up: the log file's count of faults rose if it is down, and stands still else.
pub record Blames {D : Type 0} (faults : D → ℕ) (before now : D) (journal : JournalState) : Type 0 where
  pub later : faults before ≤ faults now
  pub quiet : journal.down ≡ None → faults now ≡ faults before
  pub rose : (count : ℕ) → journal.down ≡ Some count → Rose (faults before) (faults now)

-- the log takes no line any more: it is down, or with one line more its file might get longer than it may
pub record IsFull (size : ℕ) (journal : JournalState) : Type 0 where
  pub end : size ≡ end_of journal
  pub above : journal.limit < size + 400

-- A log whose journal is up, of its limit, and within its file.
pub record IsLogUp {D : Type 0} (tells : D → Option (List ℕ)) (log : LogState) (bank : D) : Type 0 where
  pub up : log.journal.down ≡ None
  pub limit : log.journal.limit ≡ log_limit
  pub reaches : Reaches tells bank log.journal

-- and so are all these
abbrev pub AreLogsUp : {D : Type 0} → (D → Option (List ℕ)) → List LogState → List D → Type 0
AreLogsUp {D} tells logs banks = (worker : ℕ) (log : LogState) (bank : D) → slice_get logs worker ≡ Some log
    → slice_get banks worker ≡ Some bank → IsLogUp tells log bank

-- why a log takes no line any more: the length at which it is full, or else what was so before
abbrev pub full_after : LogFault → Option ℕ → Option ℕ
full_after (Limit size) before = Some size
full_after Device before = before
full_after (Down count) before = before
