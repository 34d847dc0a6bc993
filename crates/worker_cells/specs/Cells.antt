-- What a worker's lines of a round leave of its cell: of its pass, of its log and of its log file.
use Rattle.std.specs.Prelude.{◌≡◌, ◌≢◌, ◌⊎◌, ◌+◌, ◌-◌, ◌/◌, ◌^◌, ◌≤◌, ◌<◌, ◌++◌, ℕ, List, [], ◌∷◌, Option, Some, None}
use Rattle.std.specs.Prelude.{Bool, Contains, false, is_some, length, map, option_to_list, true, ⊤}
use Rattle.std.specs.List.{AllByRecursion}
use Rattle.serial_model.specs.declared.number.Commit.{Commit}
use Rattle.serial_model.specs.declared.op.Op.{Op}
use Rattle.wire_form.specs.LogFile.{IsLineOf, lines_bytes}
use Rattle.wire_form.specs.Words.{IsMark}
use Rattle.wire_form.specs.declared.clock.Mark.{Mark}
use Rattle.commit_core.specs.CoreState.{last_marked}
use Rattle.commit_core.specs.declared.attempt.Attempt.{Attempt}
use Rattle.commit_core.specs.declared.seat.Mark as core
use Rattle.log_writer.specs.Journal.{Reaches, end_of}
use Rattle.log_writer.specs.declared.journal.LogFault.{LogFault}
use Rattle.log_writer.specs.declared.journal.LogFault.TheVariants.{Device, Down, Limit as AtLimit}
use Rattle.engine_pages.specs.Layout.{clock_at}
use Rattle.engine_pages.specs.Steps.{glance}
use Rattle.engine_pages.specs.declared.view.View.{View}
use Rattle.tx_runner.specs.Below.{IsOver}
use Rattle.tx_runner.specs.Tries.{Lost}
use Rattle.tx_script.specs.Readied.{ReadiedUpTo}
use Rattle.tx_script.specs.Seen.{AreMarksInOrder}
use Rattle.tx_script.specs.declared.outcome.Outcome.{Outcome}
use Rattle.tx_script.specs.declared.outcome.Outcome.TheVariants.{Unrun}
use Rattle.worker_logs.specs.Logs.{IsJoined, LogState}
use Rattle.worker_logs.specs.Moves.{MovesLog}
use Rattle.worker_logs.specs.Rows.{Blames, IsFull, IsLogUp, KeepsMarkIn, LogTakes, TakesCommit, full_after}
use Rattle.worker_logs.specs.Shown.{LogShows, Stood}
use Rattle.worker_cells.specs.Rows.{AreInARow, ComesOf, Goes, IsSince, LineRan, lines_of, logged_of, outcomes_of}
use Rattle.worker_cells.specs.Rows.{readied_of, unrun}
use Rattle.worker_cells.specs.declared.cell.LogEnd.{LogEnd}

-- ---- the mark on the words, and that of the log

-- the log's mark, as the words have it
abbrev pub core_mark : Mark → core.Mark
core_mark mark = record { epoch = mark.epoch; length = mark.length }

-- the last mark of a seat is that of its log, which names an epoch
pub record IsTied (mark : Mark) (marks : List core.Mark) : Type 0 where
  pub earlier : List core.Mark
  pub last : marks ≡ earlier ++ core_mark mark ∷ []
  pub epoch : ℕ
  pub named : mark.epoch ≡ Some epoch

-- The mark that stood on the words stands there still, as the log has no other one; or the log's new one was set there,
-- of the epoch before the one that the pass saw.
abbrev pub ShowsMark : Mark → Mark → View → View → Type 0
ShowsMark shown now v w = ((now ≡ shown) × (w.seat.marks ≡ v.seat.marks))
    ⊎ (IsMark now × (now.epoch ≡ Some (w.epoch - 1)) × (w.seat.marks ≡ v.seat.marks ++ core_mark now ∷ [])
    × (now ≢ shown))

-- a mark that was shown, as the words have it
abbrev pub core_of : Stood → core.Mark
core_of m = core_mark m.mark

-- the epochs of marks that were shown
abbrev pub epochs_of : List Stood → List (Option ℕ)
epochs_of marks = map (λ (m : Stood). m.mark.epoch) marks

-- What the lines of a cell whose log's mark stood on the words as they began make of these marks, the first of which
-- was that one: they were shown one after another, each of an epoch, and none of an earlier one than the one before.
-- The last is the log's, and stands on the words. As each line began that was run, the last one then was at least the
-- clock's epoch that had been loaded for the line, less 1.
pub record RanShown (high : ℕ) (ran : List LineRan) (marks : List Stood) (v w : View) (new : LogState) : Type 0 where
  pub last : IsTied new.mark w.seat.marks
  pub earlier : List Stood
  pub end : Stood
  pub ends : marks ≡ earlier ++ end ∷ []
  pub is : end.mark ≡ new.mark
  pub small : AllByRecursion (λ (m : Stood). IsMark m.mark) marks
  pub rise : AreMarksInOrder (epochs_of marks)
  pub readied : ReadiedUpTo v.epoch 0 (epochs_of marks) (readied_of v ran) (outcomes_of ran) high (length earlier)

-- The log's mark is of the epoch before the one that the pass saw, on the words too: no commit that is still to come is
-- of the mark's epoch or an earlier one.
pub record IsMarkedBelow (mark : Mark) (v : View) : Type 0 where
  pub some : 1 ≤ v.epoch
  pub epoch : mark.epoch ≡ Some (v.epoch - 1)
  pub tied : IsTied mark v.seat.marks

-- The word that the pass loaded last, no earlier than at this step of its, was the clock, in the epoch that it knows.
pub record HasLookedSince (steps : ℕ) (v : View) : Type 0 where
  pub step : ℕ
  pub word : ℕ
  pub since : steps ≤ step
  pub last : v.last ≡ Some (glance step clock_at word)
  pub epoch : word / 2 ^ 40 ≡ v.epoch

-- the steps of the pass behind these lines
abbrev pub steps_behind : ℕ → List LineRan → ℕ
steps_behind steps [] = steps
steps_behind steps (line ∷ more) = steps_behind line.after.steps more

-- before each of these lines the clock was loaded anew
abbrev pub AreLooked : ℕ → List LineRan → Type 0
AreLooked steps [] = ⊤
AreLooked steps (line ∷ more) = HasLookedSince steps line.before × AreLooked line.after.steps more

-- An epoch that the pass has reached: none above the one that it saw last, or above the one behind its last mark, or
-- above that of a number that it knows to be drawn. No later load of the clock finds an earlier one.
abbrev pub IsReached : ℕ → View → Type 0
IsReached epoch v = (epoch ≤ v.epoch) ⊎ (epoch ≤ last_marked v.seat.marks + 1)
    ⊎ ((a : Attempt) × Contains v.history a × (epoch ≤ a.number.epoch))

-- As the line began, the marks of its seat were those of this view, and behind them the first of these, so many as have
-- been shown by then.
pub record HasMarks (v : View) (more : List Stood) (line : LineRan) : Type 0 where
  pub shown : List Stood
  pub still : List Stood
  pub whole : more ≡ shown ++ still
  pub marks : line.before.seat.marks ≡ v.seat.marks ++ map core_of shown

-- What a cell has as its lines of a round begin: no transaction is under way, and its log is up and nothing waits in
-- it. The first draw is none of a record that was never written.
pub record IsCell {D : Type 0} (tells : D → Option (List ℕ)) (v : View) (log : LogState) (bank : D) : Type 0 where
  pub over : IsOver v
  pub draws : 1 ≤ v.layout.first.draw
  pub up : IsLogUp tells log bank
  pub flushed : log.journal.lines ≡ []

-- What is durable and what waits are as many bytes more as the lines of these commits have. It is so of each log file,
-- also of one that tells nothing.
abbrev pub IsLongerBy : List Commit → LogState → LogState → Type 0
IsLongerBy logged old new = end_of new.journal ≡ end_of old.journal + length (lines_bytes logged)

-- ---- one line

-- what refused the log was its log file
abbrev pub fails : LogFault → Bool
fails Device = true
fails (Down count) = true
fails (AtLimit size) = false

-- A line was run, and its log got what it changed.
pub record LogsLine (tries : ℕ) (ops : List Op) (v w : View) (old new : LogState) : Type 0 where
  pub outcome : Outcome
  pub refused : List Lost
  pub logged : Option Commit
  pub comes : ComesOf tries ops outcome refused logged v w
  pub line : AllByRecursion (IsLineOf v.layout.decls) (option_to_list logged)
  pub takes : TakesCommit logged old new

-- and its outcome was kept
pub record RunsOne (tries : ℕ) (ops : List Op) (was told : List Outcome) (v w : View) (old new : LogState)
    : Type 0 where
  pub logs : LogsLine tries ops v w old new
  pub told_is : told ≡ was ++ logs.outcome ∷ []

module _ {D : Type 0} (tells : D → Option (List ℕ)) (clock : D → ℕ) (image_at : D → ℕ → List ℕ → Type 0)
    (faults : D → ℕ) where
  -- ---- between lines

  -- As a round begins: all that is durable was marked, of the epoch before the one that the pass saw, as no line waits,
  -- and the mark was set on the words. Nothing else of the log has changed, and nothing of its log file.
  pub record ShowsFirst (v w : View) (old new : LogState) (before now : D) : Type 0 where
    pub goes : Goes v w
    pub over : IsOver w
    pub rises : v.epoch ≤ w.epoch
    pub some : 1 ≤ w.epoch
    pub moves : MovesLog tells clock image_at faults (w.epoch - 1) old new before now None
    pub small : IsMark new.mark
    pub epoch : new.mark.epoch ≡ Some (w.epoch - 1)
    pub joined : IsJoined w.epoch new
    pub marks : w.seat.marks ≡ v.seat.marks ++ core_mark new.mark ∷ []
    pub journal : new.journal ≡ old.journal
    pub bank : now ≡ before

  -- The clock was loaded, and calls of the log were made at that epoch, which is none below the one that the pass saw,
  -- nor below that of a number that it knew to be drawn, and above each mark that its seat had.
  pub record Readies (fault : Option LogFault) (v w : View) (old new : LogState) (before now : D) : Type 0 where
    pub goes : Goes v w
    pub over : IsOver w
    pub rises : v.epoch ≤ w.epoch
    pub above : last_marked v.seat.marks < w.epoch
    pub drawn : (a : Attempt) → Contains v.history a → a.number.epoch ≤ w.epoch
    pub moves : MovesLog tells clock image_at faults (w.epoch - 1) old new before now fault
    pub shown : ShowsMark old.mark new.mark v w
    pub steps : v.steps ≤ w.steps
    pub looked : HasLookedSince v.steps w

  -- the same, whatever the log answered
  pub record ReadiesSome (v w : View) (old new : LogState) (before now : D) : Type 0 where
    pub fault : Option LogFault
    pub readies : Readies fault v w old new before now

  -- ---- what the lines that were run did

  -- These lines were run from the one view to the other, at epochs from the one that the pass had seen as the round
  -- began up to this one, and the log took what they changed. Before each line the clock was loaded anew. The words
  -- showed these marks of the log more than the one that it had, the first ones of them as each line began.
  pub record RanOver (tries high : ℕ) (ran : List LineRan) (more : List Stood) (v w : View) (old new : LogState)
      (before now : D) : Type 0 where
    pub row : AreInARow tries v ran w
    pub over : IsOver w
    pub later : v.epoch ≤ high
    pub reached : IsReached high w
    pub since : AllByRecursion (λ (line : LineRan). IsSince v.epoch line.outcome) ran
    pub lines_are : AllByRecursion (IsLineOf v.layout.decls) (logged_of ran)
    pub steps : steps_behind v.steps ran ≤ w.steps
    pub looked : AreLooked v.steps ran
    pub marked : AllByRecursion (HasMarks v more) ran
    pub shows : LogShows tells clock image_at v.epoch high (logged_of ran)
        (record { mark = old.mark; since = clock before } ∷ more) old new before now
    pub longer : IsLongerBy (logged_of ran) old new
    pub words : w.seat.marks ≡ v.seat.marks ++ map core_of more
    pub shown : IsTied old.mark v.seat.marks
        → IsMark old.mark → RanShown high ran (record { mark = old.mark; since = clock before } ∷ more) v w new
    pub mark : KeepsMarkIn v.epoch high old new
    pub blames : Blames faults before now new.journal
    pub reaches : Reaches tells now new.journal
    pub limit : new.journal.limit ≡ old.journal.limit

  -- ---- what refused a line

  -- A worker's log refused a line. It had what the lines before it changed, of the limit that it had, and was up; then
  -- a call made its log file fail, or found that with one line more the file might get longer than it may.
  pub record RefusesLine (low : ℕ) (logged : List Commit) (old : LogState) (before : D) : Type 0 where
    pub high : ℕ
    pub later : low ≤ high
    pub found : LogState
    pub at : D
    pub takes : LogTakes tells clock image_at low high logged old found before at
    pub longer : IsLongerBy logged old found
    pub limit : found.journal.limit ≡ old.journal.limit
    pub up : found.journal.down ≡ None
    pub fault : LogFault
    pub epoch : ℕ
    pub left : LogState
    pub behind : D
    pub call : MovesLog tells clock image_at faults epoch found left at behind (Some fault)
    pub full : (size : ℕ) → fault ≡ AtLimit size → IsFull size found.journal

  -- ---- a line of a cell

  -- the log was made ready for it at the epoch that the pass saw, and it was run
  pub record RanNow (tries : ℕ) (ops : List Op) (was told : List Outcome) (v w : View) (old new : LogState)
      (before now : D) : Type 0 where
    pub mid : View
    pub ready : LogState
    pub readies : Readies None v mid old ready before now
    pub marked : IsMarkedBelow ready.mark mid
    pub one : RunsOne tries ops was told mid w ready new

  -- the log refused it
  pub record LeftNow (was told : List Outcome) (end : LogEnd) (v w : View) (old new : LogState) (before now : D)
      : Type 0 where
    pub fault : LogFault
    pub readies : Readies (Some fault) v w old new before now
    pub limit : (size : ℕ) → fault ≡ AtLimit size → IsFull size old.journal
    pub told_is : told ≡ was ++ Unrun ∷ []
    pub full : end.full ≡ full_after fault None
    pub failed : end.failed ≡ is_some new.journal.down

  -- it had been refused before
  pub record PassedNow (was told : List Outcome) (first end : LogEnd) (v w : View) (old new : LogState) (before now : D)
      : Type 0 where
    pub refused : (first.failed ≡ true) ⊎ (is_some first.full ≡ true)
    pub told_is : told ≡ was ++ Unrun ∷ []
    pub end_is : end ≡ first
    pub view : w ≡ v
    pub log : new ≡ old
    pub bank : now ≡ before

  -- What a line leaves of a cell whose log was refused so before, or not at all: it is run, the log refuses it, or had
  -- refused one before.
  abbrev pub StepsOne : ℕ → List Op → List Outcome → List Outcome → LogEnd → LogEnd → View → View → LogState → LogState
      → D → D → Type 0
  StepsOne tries ops was told first end v w old new before now =
      ((end ≡ first) × (first.failed ≡ false) × (first.full ≡ None) × RanNow tries ops was told v w old new before now)
      ⊎ ((first.full ≡ None) × (first.failed ≡ false) × LeftNow was told end v w old new before now)
      ⊎ PassedNow was told first end v w old new before now

  -- ---- all lines of a worker

  -- Lines of a worker were run, one after another. Those behind them were left out: their log refused the first of
  -- them, and it is told full only where it did.
  pub record RunsLines (tries high : ℕ) (lines : List (List Op)) (outcomes : List Outcome) (full : Option ℕ)
      (v w : View) (old new : LogState) (before now : D) : Type 0 where
    pub ran : List LineRan
    pub more : List Stood
    pub left : List (List Op)
    pub whole : lines ≡ lines_of ran ++ left
    pub told : outcomes ≡ outcomes_of ran ++ unrun left
    pub did : RanOver tries high ran more v w old new before now
    pub full_is : (size : ℕ) → full ≡ Some size → IsFull size new.journal
    pub all : full ≡ None → new.journal.down ≡ None → left ≡ []
    pub refuses : (left ≡ [] → ⊥) → RefusesLine v.epoch (logged_of ran) old before
    pub unfilled : left ≡ [] → full ≡ None
    pub none : lines ≡ [] → (new ≡ old) × (now ≡ before) × (w ≡ v)

  -- All lines of the worker were run, or left out. What waits was flushed then, and marked by the epoch that the pass
  -- saw last, if it had lines.
  pub record RunsCell (tries : ℕ) (lines : List (List Op)) (outcomes : List Outcome) (end : LogEnd) (v w : View)
      (old new : LogState) (before now : D) : Type 0 where
    pub lines_run : RunsLines tries w.epoch lines outcomes end.full v w old new before now
    pub failed : end.failed ≡ is_some new.journal.down
    pub flushed : new.journal.down ≡ None → new.journal.lines ≡ []
