-- A worker's log: its journal with its mark, and what of its commits is durable and counted.
use Rattle.std.specs.Prelude.{◌≡◌, ◌≤◌, ◌<◌, ◌+◌, ◌-◌, ◌^◌, ◌++◌, ℕ, List, [], ◌∷◌, length, Option, Some, None, ⊤}
use Rattle.std.specs.List.{AllByRecursion}
use Rattle.outside.specs.Growth.{Grows}
use Rattle.serial_model.specs.declared.number.Commit.{Commit}
use Rattle.wire_form.specs.LogFile.{lines_bytes}
use Rattle.wire_form.specs.declared.clock.Mark.{Mark}
use Rattle.log_writer.specs.Growing.{IsJournalOf}
use Rattle.log_writer.specs.Journal.{JournalState}
use Rattle.joint_crashes.specs.Marks.{Marks}

-- ---- what a log is

-- so long may a log file get, in bytes: a mark counts no more
abbrev pub log_limit : ℕ
log_limit = 2 ^ 40 - 1

-- a worker's log as its users see it
pub record LogState : Type 0 where
  -- the lines that wait for the growing log file, and how much of that is durable
  pub journal : JournalState
  -- the epoch up to which all commits lie in so many durable bytes; no epoch for an idle worker
  pub mark : Mark

-- the journal has the limit of a log, and the mark counts no more bytes than a savepoint has room for
pub record IsLogState (limit : ℕ) (mark : Mark) : Type 0 where
  pub limit_is : limit ≡ log_limit
  pub counted : mark.length < 2 ^ 40

-- an empty log, marked at an epoch
abbrev pub fresh_log : ℕ → LogState
fresh_log epoch = record {
  journal = record { limit = log_limit; durable = 0; lines = []; down = None };
  mark = record { length = 0; epoch = Some epoch };
}

-- the same log, of a worker that holds no epoch back
abbrev pub idle_log : LogState → LogState
idle_log log = record log { mark = record log.mark { epoch = None } }

-- the log of a worker's other log file, which is empty
abbrev pub reset_log : LogState → LogState
reset_log log = record {
  journal = record log.journal { durable = 0; lines = [] };
  mark = record log.mark { length = 0 };
}

-- A log that was flushed and then marked, at this epoch of the clock: no line waits, and its mark counts all that is
-- durable, up to the epoch before.
pub record IsJoined (clock : ℕ) (log : LogState) : Type 0 where
  pub flushed : log.journal.lines ≡ []
  pub marked : log.mark ≡ record { length = log.journal.durable; epoch = Some (clock - 1) }

-- a mark of this epoch, or an idle one, holds no epoch back that the clock has left: it is the clock's less 1 at least
abbrev pub IsEpochUpTo : ℕ → Option ℕ → Type 0
IsEpochUpTo clock None = ⊤
IsEpochUpTo clock (Some epoch) = clock ≤ epoch + 1

-- the mark holds none back
abbrev pub IsUpTo : ℕ → Mark → Type 0
IsUpTo clock mark = IsEpochUpTo clock mark.epoch

-- ---- what a mark says

-- What a mark says of the commits that a worker logged since the last swap: all of them up to its epoch lie in the
-- bytes that it counts, and in those of an idle one all there are.
abbrev pub MarkSays : List Commit → ℕ → Option ℕ → Type 0
MarkSays commits size (Some epoch) = Marks commits epoch size
MarkSays commits size None = (epoch : ℕ) → Marks commits epoch size

-- and these bytes are durable
pub record IsMarkOf (commits : List Commit) (durable : List ℕ) (mark : Mark) : Type 0 where
  pub says : MarkSays commits mark.length mark.epoch
  pub within : mark.length ≤ length durable

-- the epoch and the length of a mark that isn't idle
abbrev pub epoch_with : Option ℕ → ℕ → List (ℕ × ℕ)
epoch_with (Some epoch) size = (epoch, size) ∷ []
epoch_with None size = []

-- what a mark tells of epochs: nothing where it is idle
abbrev pub set_mark : Mark → List (ℕ × ℕ)
set_mark mark = epoch_with mark.epoch mark.length

-- a commit of this epoch is above a mark of the other one; above an idle mark is none
abbrev pub IsEpochPassed : ℕ → Option ℕ → Type 0
IsEpochPassed epoch None = ⊥
IsEpochPassed epoch (Some marked) = marked < epoch

-- a commit of this epoch may follow the mark: the mark tells nothing of it
abbrev pub IsPassed : ℕ → Mark → Type 0
IsPassed epoch mark = IsEpochPassed epoch mark.epoch

-- ---- one log and its log file

module _ {D : Type 0} (tells : D → Option (List ℕ)) (clock : D → ℕ) (image_at : D → ℕ → List ℕ → Type 0) where
  -- The log of a worker that logged these commits since the last swap: these bytes of its log file are durable, and
  -- with the lines that wait they are the commits' lines; its mark says what it counts.
  pub record IsLog (commits : List Commit) (durable : List ℕ) (log : LogState) (bank : D) : Type 0 where
    pub journal_of : IsJournalOf tells clock image_at durable log.journal bank
    pub lines : lines_bytes commits ≡ durable ++ log.journal.lines
    pub mark : IsMarkOf commits durable log.mark

  -- It is the log of some commits, of whose lines some bytes are durable.
  pub record IsSomeLog (log : LogState) (bank : D) : Type 0 where
    pub commits : List Commit
    pub durable : List ℕ
    pub is : IsLog commits durable log bank

  -- What a worker's log did since a moment: its log file grew, and each mark that it had since then, the last of which
  -- is the one that it has, says what it counts.
  pub record LogRan (commits : List Commit) (was durable : List ℕ) (marks : List Mark) (first bank : D)
      (log : LogState) : Type 0 where
    pub grows : Grows clock image_at first bank was durable
    pub journal_of : IsJournalOf tells clock image_at durable log.journal bank
    pub lines : lines_bytes commits ≡ durable ++ log.journal.lines
    pub had : AllByRecursion (IsMarkOf commits durable) marks
    pub last : (earlier : List Mark) × (marks ≡ earlier ++ log.mark ∷ [])

  -- how it goes on, with no commit more, and with some marks of this epoch
  pub record LogWent (epoch : ℕ) (commits : List Commit) (was : List ℕ) (marks : List Mark) (first bank : D)
      (log : LogState) : Type 0 where
    pub durable : List ℕ
    pub set : List Mark
    pub of_epoch : AllByRecursion (λ m. m.epoch ≡ Some epoch) set
    pub ran : LogRan commits was durable (marks ++ set) first bank log

  -- A call of a log that adds no commit: whatever it did since a moment goes on.
  abbrev pub LogGoesOn : ℕ → LogState → LogState → D → D → Type 0
  LogGoesOn epoch old new before now = (commits : List Commit) (was durable : List ℕ) (marks : List Mark) (first : D)
      → LogRan commits was durable marks first before old → LogWent epoch commits was marks first now new
