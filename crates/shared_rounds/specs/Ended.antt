-- Workers' seats that were taken in again, one worker after another.
use Rattle.std.specs.Prelude.{◌≡◌, ◌⊎◌, ◌<◌, ◌≤◌, ◌+◌, ◌-◌, ◌++◌, ℕ, List, [], ◌∷◌, Option, Some}
use Rattle.std.specs.Prelude.{map, length, get_or, slice_get, Contains, ⊤}
use Rattle.lists.specs.Fronts.{IsFront}
use Rattle.script_grammar.specs.Script.{Round, lines_of_worker}
use Rattle.engine_seats.specs.Cuts.{HasSeen}
use Rattle.engine_seats.specs.Gathered.{gathered_all}
use Rattle.engine_pages.specs.Views.{IsResting, bare_seat}
use Rattle.engine_pages.specs.declared.view.Filled.{Filled}
use Rattle.engine_pages.specs.declared.view.Role.TheVariants.{Keeper}
use Rattle.engine_pages.specs.declared.view.View.{View}
use Rattle.tx_script.specs.declared.outcome.Outcome.{Outcome}
use Rattle.worker_cells.specs.Gates.{AreAllTold}
use Rattle.engine_pages.specs.declared.engine.Engine.{Engine}
use Rattle.worker_cells.specs.declared.cell.Cell.{Cell}
use Rattle.worker_cells.specs.declared.cell.LogEnd.{LogEnd}
use Rattle.worker_logs.specs.Logs.{LogState}
use Rattle.shared_rounds.specs.Left.{LeavesLog, TellsPart}
use Rattle.shared_rounds.specs.Parts.{AreParts, HasBlames, Part, TouchesAre, drawn_in_all, share_of}
use Rattle.shared_rounds.specs.Seated.{AreRan, backward}
use Rattle.shared_rounds.specs.Seating.{seats_from}
use Rattle.shared_rounds.specs.Refusals.{causes_of}
use Rattle.shared_rounds.specs.SharedState.{HoldsNothing}
use Rattle.shared_rounds.specs.Shares.{Share}

-- what is told of all lines of the workers from this one on
abbrev pub AreTold : Round → ℕ → List Part → List (List Outcome) → List LogEnd → List LogState → List LogState → Type 0
AreTold round worker [] [] [] [] [] = ⊤
AreTold round worker (p ∷ parts) (o ∷ outcomes) (e ∷ ends) (old ∷ logs_was) (new ∷ logs) =
    TellsPart (lines_of_worker round worker) o e p old new × AreTold round
    (worker + 1) parts outcomes ends logs_was logs
AreTold round worker _ _ _ _ _ = ⊥

-- The pass knows no more pages than there is room for, and none that is its own to fill.
pub record OwnsBehind (v : View) : Type 0 where
  pub most : length v.pages ≤ v.layout.resident
  pub above : (x : Filled) → Contains v.fills x → length v.pages < x.page

module _ {D : Type 0} (tells : D → Option (List ℕ)) (clock : D → ℕ) (image_at : D → ℕ → List ℕ → Type 0)
    (faults : D → ℕ) where
  -- what the workers from this one on, whose lines were run at epochs from the first of these to the last, left of
  -- their logs and log files
  abbrev pub AreLeft : ℕ → ℕ → List Part → List LogState → List LogState → List D → List D → Type 0
  AreLeft low high [] [] [] [] [] = ⊤
  AreLeft low high (p ∷ parts) (old ∷ logs_was) (new ∷ logs) (before ∷ banks_was) (now ∷ banks) =
      LeavesLog tells clock image_at faults low high p old new before now
      × AreLeft low high parts logs_was logs banks_was banks
  AreLeft low high _ _ _ _ _ = ⊥

  -- The first workers' seats were taken in again, so many of eight, by the keeper who had the first of these views as
  -- the round began, and the second one behind the lines.
  pub record EndedSoFar (tries : ℕ) (round : Round) (was behind now : View) (count : ℕ) (logs_was logs : List LogState)
      (banks_was banks : List D) (outcomes : List (List Outcome)) (ends : List LogEnd) : Type 0 where
    pub parts : List Part
    pub many : length parts ≡ count
    pub are : AreParts tries was now 0 parts
    pub seen : HasSeen was now
    pub role : now.role ≡ Keeper
    pub seat : now.seat ≡ was.seat
    pub layout : now.layout ≡ was.layout
    pub pages : (now.pages ≡ behind.pages) ⊎ (length behind.pages < length now.pages)
    pub fills : now.fills ≡ behind.fills
    pub low : was.epoch ≤ behind.epoch
    pub epoch : now.epoch ≡ behind.epoch
    pub met : now.met ≡ behind.met
    pub made : now.made ≡ seats_from (8 - count) count
    pub gathers : now.mine ≡ gathered_all was.mine (map (λ (p : Part). p.to.mine) parts)
    pub refused : now.refused
        ≡ was.refused ++ causes_of (map (λ (share : Share). share.tries_refused) (map share_of parts))
    pub draws : now.draws ≡ was.draws + drawn_in_all parts
    pub drops : now.drops ≡ behind.drops
    pub dropped : IsFront was.drops behind.drops
    pub touched : now.drops ≡ was.drops → TouchesAre parts now
    pub free : HoldsNothing behind → HoldsNothing now
    pub blamed : HasBlames parts now
    pub parked_are : length now.parked ≡ 8
    pub parked : (worker : ℕ) → worker < 8 → IsResting (get_or now.parked worker bare_seat)
    pub taken : (worker : ℕ) (p : Part) → slice_get parts worker ≡ Some p
        → get_or now.parked worker bare_seat ≡ p.to.seat
    pub left : AreLeft was.epoch behind.epoch parts logs_was logs banks_was banks
    pub told : AreTold round 0 parts outcomes ends logs_was logs
    pub many_outcomes : length outcomes ≡ count
    pub calls : AreAllTold 0 outcomes ends

  -- Some first workers' seats were taken in again, and the cells of the others, the last one first, are as they were.
  pub record EndsOn (tries : ℕ) (round : Round) (words : Engine) (was behind now : View) (count : ℕ)
      (cells : List (Cell D)) (logs_was logs : List LogState) (banks_was banks : List D)
      (outcomes : List (List Outcome))
      (ends : List LogEnd) : Type 0 where
    pub logs_done : List LogState
    pub logs_left : List LogState
    pub banks_done : List D
    pub banks_left : List D
    pub logs_are : logs_was ≡ logs_done ++ logs_left
    pub banks_are : banks_was ≡ banks_done ++ banks_left
    pub so_far : EndedSoFar tries round was behind now count logs_done logs banks_done banks outcomes ends
    pub ran : AreRan tells clock image_at faults tries round words was count (backward cells) logs_left banks_left
