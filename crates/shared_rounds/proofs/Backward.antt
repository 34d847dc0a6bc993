-- Cells in the other order: from what is lent to threads to the workers one by one.
use Rattle.std.proofs.Common.{◌≡◌, ◌∙◌, sym, ap, subst, refl, ℕ, suc, ◌+◌, ◌-◌, ◌<◌, List, [], ◌∷◌, ◌++◌, length}
use Rattle.std.proofs.Common.{arith}
use Rattle.std.proofs.Common.{Option}
use Rattle.std.specs.Prelude.{◌≤◌, ⊤, slice_index_or}
use Rattle.std.specs.List.{AllByRecursion}
use Rattle.script_grammar.specs.Script.{Round, lines_of_worker}
use Rattle.engine_seats.specs.Cuts.{worker_view}
use Rattle.engine_pages.specs.Passes.{view}
use Rattle.engine_pages.specs.declared.engine.Engine.{Engine}
use Rattle.engine_pages.specs.declared.view.Role.TheVariants.{Worker}
use Rattle.engine_pages.specs.declared.view.View.{View}
use Rattle.wire_form.specs.Words.{IsMark}
use Rattle.tx_script.specs.Room.{all_words}
use Rattle.tx_script.specs.Run.{CanRun}
use Rattle.worker_cells.specs.Cells.{IsTied, RunsCell}
use Rattle.worker_cells.specs.Gates.{calls_for, calls_in, is_run}
use Rattle.worker_cells.specs.declared.cell.Cell.{Cell}
use Rattle.worker_logs.specs.Logs.{LogState}
use Rattle.shared_rounds.specs.Parts.{marks_parked}
use Rattle.shared_rounds.specs.Rooms.{AreCounts, AreSpaces}
use Rattle.shared_rounds.specs.Seated.{AreRan, AreSeated, HasRun, IsBegun, IsRan, IsReady, IsSeated, MayEnd, backward}

pub backward_push : {X : Type 0} (xs : List X) (x : X) → backward (xs ++ x ∷ []) ≡ x ∷ backward xs
backward_push [] x = refl
backward_push (y ∷ xs) x = ap (λ l. l ++ y ∷ []) (backward_push xs x)

pub all_push : {X : Type 0} (P : X → Type 0) (xs : List X) (x : X) → AllByRecursion P (xs ++ x ∷ [])
    → AllByRecursion P xs × P x
all_push P [] x all = (tt, all.0)
all_push P (y ∷ xs) x all = let rest = all_push P xs x all.1 in ((all.0, rest.0), rest.1)

pub all_backward : {X : Type 0} (P : X → Type 0) (xs : List X) → AllByRecursion P (backward xs) → AllByRecursion P xs
all_backward P [] all = tt
all_backward P (x ∷ xs) all = let rest = all_push P (backward xs) x all in (rest.1, all_backward P xs rest.0)

-- ---- how workers begin

-- the workers from this one on begin so, on passes that were seated by the keeper of the second view
abbrev pub AreBegun : Round → View → View → ℕ → List LogState → Type 0
AreBegun round was mid worker [] = ⊤
AreBegun round was mid worker (log ∷ logs) =
    IsBegun round was worker (worker_view worker mid) log × AreBegun round was mid (worker + 1) logs

-- ---- what was and what is, one for one

abbrev BothBy : {X : Type 0} → (X → X → Type 0) → List X → List X → Type 0
BothBy R [] [] = ⊤
BothBy R (x ∷ xs) (y ∷ ys) = R x y × BothBy R xs ys
BothBy R _ _ = ⊥

both_from : {X : Type 0} (R : X → X → Type 0) (xs ys : List X) → length ys ≡ length xs
    → ((k : ℕ) (d : X) → k < length xs → R (slice_index_or xs k d) (slice_index_or ys k d)) → BothBy R xs ys
both_from R [] [] same each = tt
both_from R [] (y ∷ ys) same each = absurd (omega (arith, same))
both_from R (x ∷ xs) [] same each = absurd (omega (arith, same))
both_from R (x ∷ xs) (y ∷ ys) same each = (
  each 0 x (omega arith),
  both_from R xs ys (omega (arith, same)) (λ k d less. each (suc k) d (omega (arith, less))),
)

both_push : {X : Type 0} (R : X → X → Type 0) (xs ys : List X) (x y : X) → BothBy R xs ys → R x y
    → BothBy R (xs ++ x ∷ []) (ys ++ y ∷ [])
both_push R [] [] x y both one = (one, tt)
both_push R [] (b ∷ ys) x y both one = absurd both
both_push R (a ∷ xs) [] x y both one = absurd both
both_push R (a ∷ xs) (b ∷ ys) x y both one = (both.0, both_push R xs ys x y both.1 one)

both_backward : {X : Type 0} (R : X → X → Type 0) (xs ys : List X) → BothBy R xs ys
    → BothBy R (backward xs) (backward ys)
both_backward R [] [] both = tt
both_backward R [] (y ∷ ys) both = absurd both
both_backward R (x ∷ xs) [] both = absurd both
both_backward R (x ∷ xs) (y ∷ ys) both = both_push R (backward xs) (backward ys) x y
    (both_backward R xs ys both.1) both.0

module _ {D : Type 0} (tells : D → Option (List ℕ)) (clock : D → ℕ) (image_at : D → ℕ → List ℕ → Type 0)
    (faults : D → ℕ) where
  -- ---- before the lines

  ready_one : (words : Engine) (was mid : View) (counts spaces : List ℕ) (worker : ℕ) (round : Round) (cell : Cell D)
      (log : LogState) (bank : D) → CanRun mid.layout.decls round
      → AreCounts round counts → AreSpaces round spaces → IsBegun round was worker (worker_view worker mid) log
      → IsSeated tells words mid counts spaces worker cell log bank → IsReady tells words round cell
  ready_one words was mid counts spaces worker round cell log bank lines counted spaced begun s = record {
    of = s.of;
    ready = s.ready;
    role = ap (λ (v : View). v.role) s.seat ∙ ap Worker (sym s.number);
    small = subst (λ n. n < 8) (sym s.number) s.small;
    lines = subst (λ (v : View). CanRun v.layout.decls round) (sym s.seat) lines;
    none = s.none;
    count = s.lines ∙ counted.each worker s.small
        ∙ ap (λ n. length (lines_of_worker round n)) (sym s.number);
    room = let many = counted.each worker s.small in
        subst (λ n. length (lines_of_worker round n) ≤ cell.outcomes.left) (sym s.number)
        (omega (arith, many, s.room));
    space = let many = spaced.each worker s.small in
        subst (λ n. all_words (lines_of_worker round n) ≤ cell.outcomes.space) (sym s.number)
        (omega (arith, many, s.space));
    tied = λ some.
        let named = begun.named (λ none. some (ap (lines_of_worker round) s.number ∙ none)) in
        subst (λ (l : LogState). IsTied l.mark (view cell.pass).seat.marks × IsMark l.mark) (sym s.log_is)
        (subst (λ (v : View). IsTied log.mark v.seat.marks × IsMark log.mark) (sym s.seat) (
          record { earlier = marks_parked was worker; last = begun.marks; epoch = was.epoch - 1; named = named },
          begun.small,
        ));
  }

  ready_all : (words : Engine) (was mid : View) (counts spaces : List ℕ) (worker : ℕ) (round : Round) (cells : List (Cell D))
      (logs : List LogState) (banks : List D) → CanRun mid.layout.decls round
      → AreCounts round counts → AreSpaces round spaces → AreBegun round was mid worker logs
      → AreSeated tells words mid counts spaces worker cells logs banks
      → AllByRecursion (IsReady tells words round) cells
  ready_all words was mid counts spaces worker round [] logs banks lines counted spaced begun are = tt
  ready_all words was mid counts spaces worker round (cell ∷ cells) [] banks lines counted spaced begun are = absurd are
  ready_all words was mid counts spaces worker round (cell ∷ cells) (log ∷ logs) [] lines counted spaced begun are = absurd are
  ready_all words was mid counts spaces worker round (cell ∷ cells) (log ∷ logs) (bank ∷ banks) lines counted spaced begun
      are = (
        ready_one words was mid counts spaces worker round cell log bank lines counted spaced begun.0 are.0,
        ready_all words was mid counts spaces (worker + 1) round cells logs banks lines counted spaced begun.1 are.1,
      )

  -- seated cells may run
  pub cells_ready : (words : Engine) (was mid : View) (counts spaces : List ℕ) (round : Round) (cells : List (Cell D))
      (logs : List LogState) (banks : List D) → CanRun mid.layout.decls round
      → AreCounts round counts → AreSpaces round spaces → AreBegun round was mid 0 logs
      → AreSeated tells words mid counts spaces 0 (backward cells) logs banks
      → AllByRecursion (IsReady tells words round) cells
  cells_ready words was mid counts spaces round cells logs banks lines counted spaced begun are =
      all_backward (IsReady tells words round) cells
      (ready_all words was mid counts spaces 0 round (backward cells) logs banks lines counted spaced begun are)

  -- ---- behind them

  ran_one : (tries : ℕ) (round : Round) (words : Engine) (was mid : View) (counts spaces : List ℕ) (worker : ℕ)
      (old new : Cell D) (log : LogState) (bank : D) → IsBegun round was worker (worker_view worker mid) log
      → IsSeated tells words mid counts spaces worker old log bank
      → HasRun tells clock image_at faults tries round words old new
      → IsRan tells clock image_at faults tries round words was worker new log bank
  ran_one tries round words was mid counts spaces worker old new log bank begun s ran = record {
    of = ran.of;
    number = ran.number ∙ s.number;
    small = s.small;
    from = view old.pass;
    begun = subst (λ (v : View). IsBegun round was worker v log) (sym s.seat) begun;
    runs = subst (λ (b : D). RunsCell tells clock image_at faults tries (lines_of_worker round worker)
        new.outcomes.told new.end (view old.pass) (view new.pass) log new.log b new.bank) s.bank_is
        (subst (λ (l : LogState). RunsCell tells clock image_at faults tries (lines_of_worker round worker)
        new.outcomes.told new.end (view old.pass) (view new.pass) l new.log old.bank new.bank) s.log_is
        (subst (λ (n : ℕ). RunsCell tells clock image_at faults tries (lines_of_worker round n)
        new.outcomes.told new.end (view old.pass) (view new.pass) old.log new.log old.bank new.bank) s.number
        ran.runs));
    calls = subst (λ n. calls_in new.end.calls ≡ calls_for is_run n 0 new.outcomes.told) s.number ran.calls;
  }

  ran_all : (tries : ℕ) (round : Round) (words : Engine) (was mid : View) (counts spaces : List ℕ) (worker : ℕ)
      (olds news : List (Cell D)) (logs : List LogState) (banks : List D) → AreBegun round was mid worker logs
      → AreSeated tells words mid counts spaces worker olds logs banks
      → BothBy (HasRun tells clock image_at faults tries round words) olds news
      → AreRan tells clock image_at faults tries round words was worker news logs banks
  ran_all tries round words was mid counts spaces worker [] [] [] [] begun are both = tt
  ran_all tries round words was mid counts spaces worker [] [] [] (b ∷ banks) begun are both = absurd are
  ran_all tries round words was mid counts spaces worker [] [] (l ∷ logs) banks begun are both = absurd are
  ran_all tries round words was mid counts spaces worker [] (n ∷ news) logs banks begun are both = absurd both
  ran_all tries round words was mid counts spaces worker (o ∷ olds) [] logs banks begun are both = absurd both
  ran_all tries round words was mid counts spaces worker (o ∷ olds) (n ∷ news) [] banks begun are both = absurd are
  ran_all tries round words was mid counts spaces worker (o ∷ olds) (n ∷ news) (l ∷ logs) [] begun are both = absurd are
  ran_all tries round words was mid counts spaces worker (o ∷ olds) (n ∷ news) (l ∷ logs) (b ∷ banks) begun are both = (
    ran_one tries round words was mid counts spaces worker o n l b begun.0 are.0 both.0,
    ran_all tries round words was mid counts spaces (worker + 1) olds news logs banks begun.1 are.1 both.1,
  )

  -- what threads made of seated cells
  pub cells_ran : (tries : ℕ) (round : Round) (words : Engine) (was mid : View) (counts spaces : List ℕ)
      (olds news : List (Cell D)) (logs : List LogState) (banks : List D) → AreBegun round was mid 0 logs
      → length news ≡ length olds → AreSeated tells words mid counts spaces 0 (backward olds) logs banks
      → ((k : ℕ) (d : Cell D) → k < length olds → HasRun tells clock image_at faults tries round words
      (slice_index_or olds k d) (slice_index_or news k d))
      → AreRan tells clock image_at faults tries round words was 0 (backward news) logs banks
  cells_ran tries round words was mid counts spaces olds news logs banks begun same are each =
      ran_all tries round words was mid counts spaces 0 (backward olds) (backward news) logs banks begun are
      (both_backward (HasRun tells clock image_at faults tries round words) olds news
      (both_from (HasRun tells clock image_at faults tries round words) olds news same each))

  end_one : (tries : ℕ) (round : Round) (words : Engine) (was : View) (worker : ℕ) (cell : Cell D) (log : LogState)
      (bank : D) → IsRan tells clock image_at faults tries round words was worker cell log bank → MayEnd words cell
  end_one tries round words was worker cell log bank ran = record {
    of = ran.of;
    over = ran.runs.lines_run.did.over;
  }

  end_each : (tries : ℕ) (round : Round) (words : Engine) (was : View) (worker : ℕ) (cells : List (Cell D))
      (logs : List LogState) (banks : List D)
      → AreRan tells clock image_at faults tries round words was worker cells logs banks
      → AllByRecursion (MayEnd words) cells
  end_each tries round words was worker [] logs banks are = tt
  end_each tries round words was worker (cell ∷ cells) [] banks are = absurd are
  end_each tries round words was worker (cell ∷ cells) (log ∷ logs) [] are = absurd are
  end_each tries round words was worker (cell ∷ cells) (log ∷ logs) (bank ∷ banks) are = (
    end_one tries round words was worker cell log bank are.0,
    end_each tries round words was (worker + 1) cells logs banks are.1,
  )

  -- their seats may end
  pub cells_end : (tries : ℕ) (round : Round) (words : Engine) (was : View) (cells : List (Cell D))
      (logs : List LogState)
      (banks : List D) → AreRan tells clock image_at faults tries round words was 0 (backward cells) logs banks
      → AllByRecursion (MayEnd words) cells
  cells_end tries round words was cells logs banks are =
      all_backward (MayEnd words) cells (end_each tries round words was 0 (backward cells) logs banks are)
