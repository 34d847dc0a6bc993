-- As a round begins: each worker's mark is set on the words, before any is seated for its lines.
use Rattle.std.specs.Prelude.{◌≡◌, ◌⊎◌, ◌≤◌, ◌+◌, ◌<◌, ◌++◌, ◌-◌, ◌∷◌, ℕ, zero, suc, List, [], None, Option, Some}
use Rattle.std.specs.Prelude.{get_or, length}
use Rattle.std.specs.Prelude.{slice_get}
use Rattle.engine_pages.specs.Views.{IsResting, bare_seat}
use Rattle.engine_pages.specs.declared.view.Role.TheVariants.{Keeper}
use Rattle.engine_pages.specs.declared.view.View.{View}
use Rattle.engine_seats.specs.Cuts.{HasSeen}
use Rattle.script_grammar.specs.Script.{Round, lines_of_worker}
use Rattle.wire_form.specs.Words.{IsMark}
use Rattle.worker_cells.specs.Below.{IsOver}
use Rattle.worker_cells.specs.Cells.{core_mark}
use Rattle.worker_cells.specs.Rows.{Goes}
use Rattle.worker_logs.specs.Logs.{LogState}
use Rattle.worker_logs.specs.Moves.{MovesLog}
use Rattle.shared_rounds.specs.SharedState.{HoldsNothing}

-- The keeper's view with seats that were taken in again as they were, but for their marks: it has no number and no
-- commit more of its own. What it knows of published pages may be more.
pub record SetsMarks (v w : View) : Type 0 where
  pub role : w.role ≡ Keeper
  pub made : w.made ≡ []
  pub layout : w.layout ≡ v.layout
  pub epoch : w.epoch ≡ v.epoch
  pub seen : HasSeen v w
  pub seat : w.seat ≡ v.seat
  pub mine : w.mine ≡ v.mine
  pub draws : w.draws ≡ v.draws
  pub refused : w.refused ≡ v.refused
  pub pages : (w.pages ≡ v.pages) ⊎ (length v.pages < length w.pages)
  pub fills : w.fills ≡ v.fills
  pub met : w.met ≡ v.met
  pub drops : w.drops ≡ v.drops
  pub parked_are : length w.parked ≡ 8
  pub parked : (worker : ℕ) → worker < 8 → IsResting (get_or w.parked worker bare_seat)
  pub free : HoldsNothing v → HoldsNothing w

module _ {D : Type 0} (tells : D → Option (List ℕ)) (clock : D → ℕ) (image_at : D → ℕ → List ℕ → Type 0)
    (faults : D → ℕ) where
  -- All that is durable of a log in which nothing waits was marked, of the epoch before this one.
  pub record MarksAnew (epoch : ℕ) (old new : LogState) (bank : D) : Type 0 where
    pub moves : MovesLog tells clock image_at faults (epoch - 1) old new bank bank None
    pub named : new.mark.epoch ≡ Some (epoch - 1)
    pub journal : new.journal ≡ old.journal

  -- what becomes of the log of a worker with so many lines, in this epoch: without one it is as it was, and idle
  abbrev pub MarkedFor : ℕ → ℕ → LogState → LogState → D → Type 0
  MarkedFor zero epoch old new bank = (new ≡ old) × (new.mark.epoch ≡ None)
  MarkedFor (suc lines) epoch old new bank = MarksAnew epoch old new bank

  -- A worker's mark was set on the words, which is now that of its log; nothing else was done on its pass.
  pub record SetsSeat (lines : ℕ) (v w : View) (old new : LogState) (before now : D) : Type 0 where
    pub goes : Goes v w
    pub over : IsOver w
    pub rises : v.epoch ≤ w.epoch
    pub small : IsMark new.mark
    pub marks : w.seat.marks ≡ v.seat.marks ++ core_mark new.mark ∷ []
    pub log : MarkedFor lines w.epoch old new before
    pub bank : now ≡ before

  -- the same, as the keeper knows it that seated the worker for it
  pub record ShowsOne (lines : ℕ) (v w : View) (worker : ℕ) (old new : LogState) (bank : D) : Type 0 where
    pub small : IsMark new.mark
    pub marks : (get_or w.parked worker bare_seat).marks
        ≡ (get_or v.parked worker bare_seat).marks ++ core_mark new.mark ∷ []
    pub log : MarkedFor lines v.epoch old new bank

  -- and then took it in again, with nobody else seated
  pub record SetsOne (lines worker : ℕ) (v w : View) (old new : LogState) (before now : D) : Type 0 where
    pub sets : SetsMarks v w
    pub past : w.past ≡ v.epoch - 1
    pub shows : ShowsOne lines v w worker old new before
    pub bank : now ≡ before
    pub others : (other : ℕ) → (other ≡ worker → ⊥)
        → get_or w.parked other bare_seat ≡ get_or v.parked other bare_seat

  -- of one of these logs, over these log files, the others of which are as they were
  pub record SetsAt (lines worker : ℕ) (v w : View) (logs_was logs : List LogState) (banks_was banks : List D)
      : Type 0 where
    pub old : LogState
    pub new : LogState
    pub before : D
    pub now : D
    pub log_was : slice_get logs_was worker ≡ Some old
    pub log : slice_get logs worker ≡ Some new
    pub bank_was : slice_get banks_was worker ≡ Some before
    pub bank : slice_get banks worker ≡ Some now
    pub sets : SetsOne lines worker v w old new before now
    pub logs_many : length logs ≡ length logs_was
    pub banks_many : length banks ≡ length banks_was
    pub other_logs : (other : ℕ) → (other ≡ worker → ⊥) → slice_get logs other ≡ slice_get logs_was other
    pub other_banks : (other : ℕ) → (other ≡ worker → ⊥) → slice_get banks other ≡ slice_get banks_was other

  -- Those of the first workers were, so many of eight, with so many lines each. The log files are as they were.
  pub record ShowsMarks (counts : List ℕ) (count : ℕ) (v w : View) (logs_was logs : List LogState)
      (banks_was banks : List D) : Type 0 where
    pub sets : SetsMarks v w
    pub past : (count ≡ 0 → ⊥) → w.past ≡ v.epoch - 1
    pub logs_many : length logs ≡ length logs_was
    pub banks_are : banks ≡ banks_was
    pub each : (worker : ℕ) (old new : LogState) (bank : D) → worker < count → slice_get logs_was worker ≡ Some old
        → slice_get logs worker ≡ Some new → slice_get banks worker ≡ Some bank
        → ShowsOne (get_or counts worker 0) v w worker old new bank
    pub rest : (worker : ℕ) → count < worker + 1 → (slice_get logs worker ≡ slice_get logs_was worker)
        × (get_or w.parked worker bare_seat ≡ get_or v.parked worker bare_seat)

-- the logs of workers without a line are idle
abbrev pub AreIdle : Round → List LogState → Type 0
AreIdle round logs = (worker : ℕ) (log : LogState) → slice_get logs worker ≡ Some log
    → lines_of_worker round worker ≡ [] → log.mark.epoch ≡ None
