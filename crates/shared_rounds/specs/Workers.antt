-- What the workers' lines of a round leave of their logs and log files.
use Rattle.std.specs.Prelude.{◌≡◌, ◌<◌, ◌≤◌, ◌+◌, ◌-◌, ℕ, Bool, true, false, List, [], ◌∷◌, ◌++◌, length, map, ⊤}
use Rattle.std.specs.Prelude.{Option, Some, None, is_some, slice_get}
use Rattle.std.specs.List.{AllByRecursion, Contains}
use Rattle.std.specs.Option.{option_map}
use Rattle.serial_model.specs.declared.number.Commit.{Commit}
use Rattle.serial_model.specs.declared.op.Op.{Op}
use Rattle.script_grammar.specs.Script.{Round, worker_lines}
use Rattle.log_writer.specs.Journal.{JournalState, Reaches, end_of}
use Rattle.tx_script.specs.Causes.{longest_line}
use Rattle.tx_script.specs.Run.{LogRefusal, LogFailed, LogFull}
use Rattle.tx_script.specs.declared.outcome.Outcome.{Outcome}
use Rattle.tx_script.specs.declared.outcome.Outcome.TheVariants.{Unrun}
use Rattle.worker_logs.specs.Logs.{LogState, idle_log}
use Rattle.worker_logs.specs.Rows.{Blames, KeepsMarkIn, LogTakes}
use Rattle.worker_logs.specs.Shown.{LogShows, Stood}
use Rattle.tx_script.specs.Readied.{Readied}
pub use Rattle.worker_cells.specs.Cells.{IsLongerBy}
use Rattle.worker_cells.specs.Cells.{RefusesLine}
use Rattle.worker_cells.specs.declared.cell.LogEnd.{LogEnd}
use Rattle.shared_rounds.specs.Shares.{BeginsAt, RunsShares, Share}
use Rattle.shared_rounds.specs.Standing.{Standing}

-- ---- workers without a line

-- a worker with these lines has one
abbrev pub is_busy : List (List Op) → Bool
is_busy [] = false
is_busy (ops ∷ lines) = true

-- the log of a worker that is busy, or not
abbrev pub idle_if_not : Bool → LogState → LogState
idle_if_not true log = log
idle_if_not false log = idle_log log

-- the log of a worker with these lines as a round begins: without one it holds no epoch back
abbrev pub idled : List (List Op) → LogState → LogState
idled lines log = idle_if_not (is_busy lines) log

-- ---- refusals

-- what refused a log, by whether its file failed and the length at which it was full
abbrev pub refused_as : Bool → Option ℕ → Option LogRefusal
refused_as true full = Some LogFailed
refused_as false full = option_map LogFull full

-- what refused a log, as its end tells
abbrev pub refusal_of : LogEnd → Option LogRefusal
refusal_of end = refused_as end.failed end.full

-- What refused a log tells of its journal: it is down, or with one line more its file might get longer than it may;
-- else it is up.
abbrev pub IsRefusedBy : Option LogRefusal → JournalState → Type 0
IsRefusedBy None journal = journal.down ≡ None
IsRefusedBy (Some LogFailed) journal = is_some journal.down ≡ true
IsRefusedBy (Some (LogFull size)) journal = (size ≡ end_of journal) × (journal.limit < size + longest_line)

-- a mark is idle, or of an epoch before this one
abbrev pub IsEpochBefore : ℕ → Option ℕ → Type 0
IsEpochBefore high None = ⊤
IsEpochBefore high (Some epoch) = epoch ≤ high - 1

-- the first of the marks, if there are any, was shown at this moment
abbrev pub IsFirstAt : ℕ → List Stood → Type 0
IsFirstAt since [] = ⊤
IsFirstAt since (m ∷ more) = m.since ≡ since

module _ {D : Type 0} (tells : D → Option (List ℕ)) (clock : D → ℕ) (image_at : D → ℕ → List ℕ → Type 0)
    (faults : D → ℕ) where
  -- What a worker's share leaves of its log, at epochs of the clock from the first of these to the last: it took what
  -- was logged, and no line behind what refused it; others were shown these marks of it, the first one from the begin
  -- on.
  pub record LeftBy (low high : ℕ) (logged : List Commit) (marks : List Stood) (refusal : Option LogRefusal)
      (old new : LogState) (before now : D) : Type 0 where
    pub shows : LogShows tells clock image_at low high logged marks old new before now
    pub first : IsFirstAt (clock before) marks
    pub below : AllByRecursion (λ (m : Stood). IsEpochBefore high m.mark.epoch) marks
    pub takes : LogTakes tells clock image_at low high logged old new before now
    pub longer : IsLongerBy logged old new
    pub mark : KeepsMarkIn low high old new
    pub blames : Blames faults before now new.journal
    pub reaches : Reaches tells now new.journal
    pub limit : new.journal.limit ≡ old.journal.limit
    pub refused : IsRefusedBy refusal new.journal
    pub failed : is_some new.journal.down ≡ true → refusal ≡ Some LogFailed

  -- What was left out of a worker's lines: its log refused the first of them, behind what the others logged, at epochs
  -- of the clock from this one on. It is told full only where there are some.
  pub record LeavesOut (low : ℕ) (SomeLeft : Type 0) (logged : List Commit) (refusal : Option LogRefusal)
      (old : LogState) (before : D) : Type 0 where
    pub refuses : SomeLeft → RefusesLine tells clock image_at faults low logged old before
    pub filled : (size : ℕ) → refusal ≡ Some (LogFull size) → SomeLeft

  -- The shares of eight workers ran over their logs and log files, from s to t: each log took what its own worker's
  -- commits changed, and nothing else.
  pub record RunsOver (tries : ℕ) (s t : Standing) (shares : List Share) (logs_was logs : List LogState)
      (banks_was banks : List D) : Type 0 where
    pub runs : RunsShares tries s t shares
    pub logs_length : length logs ≡ length logs_was
    pub banks_length : length banks ≡ length banks_was
    pub each : (i : ℕ) (share : Share) (old new : LogState) (before now : D) → slice_get shares i ≡ Some share
        → slice_get logs_was i ≡ Some old → slice_get logs i ≡ Some new
        → slice_get banks_was i ≡ Some before → slice_get banks i ≡ Some now
        → LeftBy s.clock.epoch t.clock.epoch share.logged share.marks share.refusal old new before now

  -- All lines of a round were run, or left out: what is told of them, and what was found of each log. The log of a
  -- worker without a line is as it was; where a log is up none of its lines waits. The last mark that was shown of a
  -- log is its own. A line that is told unrun was left out behind one that its log refused. Of each worker these marks
  -- were shown, the first one idle or of the epoch before the round's, and this is what it had as each line began that
  -- was run.
  pub record RunsWorkers (tries : ℕ) (round : Round) (s t : Standing) (outcomes : List (List Outcome))
      (ends : List LogEnd) (marks : List (List Stood)) (readied : List (List Readied)) (logs_was logs : List LogState)
      (banks_was banks : List D) : Type 0 where
    pub shares : List Share
    pub marks_are : map (λ (share : Share). share.marks) shares ≡ marks
    pub readied_are : map (λ (share : Share). share.readied) shares ≡ readied
    pub begins : (i : ℕ) (share : Share) → slice_get shares i ≡ Some share
        → BeginsAt s.clock.epoch share.lines share.marks
    pub last : (i : ℕ) (share : Share) (log : LogState) → slice_get shares i ≡ Some share
        → slice_get logs i ≡ Some log
        → (earlier : List Stood) × (end : Stood) × (share.marks ≡ earlier ++ end ∷ []) × (end.mark ≡ log.mark)
    pub over : RunsOver tries s t shares logs_was logs banks_was banks
    pub lines : map (λ (share : Share). share.lines) shares ≡ worker_lines round
    pub told : outcomes ≡ map (λ (share : Share). share.outcomes) shares
    pub idle : (i : ℕ) (share : Share) (old new : LogState) → slice_get shares i ≡ Some share → share.lines ≡ []
        → slice_get logs_was i ≡ Some old → slice_get logs i ≡ Some new → new ≡ old
    pub ends_failed : (i : ℕ) (end : LogEnd) (log : LogState) → slice_get ends i ≡ Some end
        → slice_get logs i ≡ Some log → end.failed ≡ is_some log.journal.down
    pub flushed : (i : ℕ) (log : LogState) → i < 8 → slice_get logs i ≡ Some log → log.journal.down ≡ None
        → log.journal.lines ≡ []
    pub ends_are : map refusal_of ends ≡ map (λ (share : Share). share.refusal) shares
    pub left_out : (i : ℕ) (share : Share) (old : LogState) (before : D) → slice_get shares i ≡ Some share
        → slice_get logs_was i ≡ Some old → slice_get banks_was i ≡ Some before
        → LeavesOut s.clock.epoch (Contains share.outcomes Unrun) share.logged share.refusal old before
