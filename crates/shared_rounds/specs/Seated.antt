-- The cells of a round's workers, as their lines begin and behind them.
use Rattle.std.specs.Prelude.{◌≡◌, ◌<◌, ◌+◌, ◌-◌, ◌++◌, get_or, ℕ, List, [], ◌∷◌, Option, None, Some, ⊤}
use Rattle.std.specs.Prelude.{◌≤◌, length}
use Rattle.script_grammar.specs.Script.{Round, lines_of_worker}
use Rattle.engine_seats.specs.Cuts.{worker_view}
use Rattle.engine_pages.specs.Passes.{IsPassOf, view}
use Rattle.engine_pages.specs.declared.engine.Engine.{Engine}
use Rattle.engine_pages.specs.declared.view.Role.TheVariants.{Worker}
use Rattle.engine_pages.specs.declared.view.View.{View}
use Rattle.wire_form.specs.Words.{IsMark}
use Rattle.worker_cells.specs.Below.{IsOver}
use Rattle.tx_script.specs.Room.{all_words}
use Rattle.tx_script.specs.Run.{CanRun}
use Rattle.worker_cells.specs.Cells.{IsCell, IsTied, RunsCell, core_mark}
use Rattle.worker_cells.specs.Gates.{calls_for, calls_in, is_run}
use Rattle.worker_cells.specs.declared.cell.Cell.{Cell}
use Rattle.worker_logs.specs.Logs.{LogState}
use Rattle.shared_rounds.specs.Parts.{IsSeatedFrom, marks_parked}

-- the same in the other order
abbrev pub backward : {X : Type 0} → List X → List X
backward [] = []
backward (x ∷ xs) = backward xs ++ x ∷ []

-- A worker's pass as its lines begin, and its log then, by the view that the keeper had as the round began: the log's
-- mark is the one that its seat has set since. It names the epoch before where the worker has lines, and is idle where
-- it has none.
pub record IsBegun (round : Round) (was : View) (worker : ℕ) (from : View) (log : LogState) : Type 0 where
  pub seated : IsSeatedFrom was worker from
  pub marks : from.seat.marks ≡ marks_parked was worker ++ core_mark log.mark ∷ []
  pub named : (lines_of_worker round worker ≡ [] → ⊥) → log.mark.epoch ≡ Some (was.epoch - 1)
  pub idle : lines_of_worker round worker ≡ [] → log.mark.epoch ≡ None
  pub small : IsMark log.mark

module _ {D : Type 0} (tells : D → Option (List ℕ)) where
  -- The worker's cell, with this log and log file.
  pub record IsSeated (words : Engine) (was : View) (counts spaces : List ℕ) (worker : ℕ) (cell : Cell D) (log : LogState)
      (bank : D) : Type 0 where
    pub of : IsPassOf words cell.pass
    pub number : cell.worker ≡ worker
    pub small : worker < 8
    pub lines : cell.lines ≡ get_or counts worker 0
    pub seat : view cell.pass ≡ worker_view worker was
    pub log_is : cell.log ≡ log
    pub bank_is : cell.bank ≡ bank
    pub ready : IsCell tells (view cell.pass) cell.log cell.bank
    pub none : cell.outcomes.told ≡ []
    pub room : cell.outcomes.left ≡ get_or counts worker 0
    pub space : cell.outcomes.space ≡ get_or spaces worker 0

  -- the cells of the workers from this one on
  abbrev pub AreSeated : Engine → View → List ℕ → List ℕ → ℕ → List (Cell D) → List LogState → List D → Type 0
  AreSeated words was counts spaces worker [] [] [] = ⊤
  AreSeated words was counts spaces worker (cell ∷ cells) (log ∷ logs) (bank ∷ banks) =
      IsSeated words was counts spaces worker cell log bank × AreSeated words was counts spaces (worker + 1) cells logs banks
  AreSeated words was counts spaces worker _ _ _ = ⊥

  -- The workers from this one on are seated, the last one first: what logs and log files are left, and theirs.
  pub record SeatedSoFar (words : Engine) (was : View) (counts spaces : List ℕ) (worker : ℕ) (cells : List (Cell D))
      (logs_was logs : List LogState)
      (banks_was banks : List D) : Type 0 where
    pub their_logs : List LogState
    pub their_banks : List D
    pub logs_are : logs_was ≡ logs ++ their_logs
    pub banks_are : banks_was ≡ banks ++ their_banks
    pub seated : AreSeated words was counts spaces worker (backward cells) their_logs their_banks

  -- what a cell has as its thread begins
  pub record IsReady (words : Engine) (round : Round) (cell : Cell D) : Type 0 where
    pub of : IsPassOf words cell.pass
    pub ready : IsCell tells (view cell.pass) cell.log cell.bank
    pub role : (view cell.pass).role ≡ Worker cell.worker
    pub small : cell.worker < 8
    pub lines : CanRun (view cell.pass).layout.decls round
    pub none : cell.outcomes.told ≡ []
    pub count : cell.lines ≡ length (lines_of_worker round cell.worker)
    pub room : length (lines_of_worker round cell.worker) ≤ cell.outcomes.left
    pub space : all_words (lines_of_worker round cell.worker) ≤ cell.outcomes.space
    pub tied : (lines_of_worker round cell.worker ≡ [] → ⊥)
        → IsTied cell.log.mark (view cell.pass).seat.marks × IsMark cell.log.mark

-- a cell whose seat may end
pub record MayEnd {D : Type 0} (words : Engine) (cell : Cell D) : Type 0 where
  pub of : IsPassOf words cell.pass
  pub over : IsOver (view cell.pass)

module _ {D : Type 0} (tells : D → Option (List ℕ)) (clock : D → ℕ) (image_at : D → ℕ → List ℕ → Type 0)
    (faults : D → ℕ) where
  -- what a thread made of its cell
  pub record HasRun (tries : ℕ) (round : Round) (words : Engine) (old new : Cell D) : Type 0 where
    pub of : IsPassOf words new.pass
    pub number : new.worker ≡ old.worker
    pub runs : RunsCell tells clock image_at faults tries (lines_of_worker round old.worker) new.outcomes.told new.end
        (view old.pass) (view new.pass) old.log new.log old.bank new.bank
    pub calls : calls_in new.end.calls ≡ calls_for is_run old.worker 0 new.outcomes.told

  -- The worker's cell behind its lines, which began with this log and log file.
  pub record IsRan (tries : ℕ) (round : Round) (words : Engine) (was : View) (worker : ℕ) (cell : Cell D)
      (log : LogState) (bank : D) : Type 0 where
    pub of : IsPassOf words cell.pass
    pub number : cell.worker ≡ worker
    pub small : worker < 8
    pub from : View
    pub begun : IsBegun round was worker from log
    pub runs : RunsCell tells clock image_at faults tries (lines_of_worker round worker) cell.outcomes.told cell.end
        from (view cell.pass) log cell.log bank cell.bank
    pub calls : calls_in cell.end.calls ≡ calls_for is_run worker 0 cell.outcomes.told

  -- the cells of the workers from this one on
  abbrev pub AreRan : ℕ → Round → Engine → View → ℕ → List (Cell D) → List LogState → List D → Type 0
  AreRan tries round words was worker [] [] [] = ⊤
  AreRan tries round words was worker (cell ∷ cells) (log ∷ logs) (bank ∷ banks) =
      IsRan tries round words was worker cell log bank × AreRan tries round words was (worker + 1) cells logs banks
  AreRan tries round words was worker _ _ _ = ⊥
