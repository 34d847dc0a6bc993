-- One worker more is seated.
use Rattle.std.proofs.Common.{◌≡◌, ◌∙◌, sym, ap, subst, refl, ℕ, suc, zero, ◌+◌, ◌-◌, ◌<◌, ◌≤◌, List, [], ◌∷◌, ◌++◌}
use Rattle.std.proofs.Common.{length, arith}
use Rattle.std.proofs.Common.{append-nil, append_assoc, get_or, Option, Some}
use Rattle.std.specs.Prelude.{slice_get}
use Rattle.std.specs.List.{AllByRecursion}
use Rattle.std.proofs.lemmas.Bool.Decides.{nat_tests}
use Rattle.worker_cells.specs.Below.{IsOver}
use Rattle.views.specs.Sums.{one_at, times, total-append}
use Rattle.engine_seats.specs.Cuts.{seated, worker_view}
use Rattle.engine_pages.specs.Passes.{IsPassOf, view}
use Rattle.engine_pages.specs.declared.engine.Engine.{Engine}
use Rattle.engine_pages.specs.declared.view.View.{View}
use Rattle.tx_script.specs.Room.{RoomState}
use Rattle.worker_cells.specs.declared.cell.Cell.{Cell}
use Rattle.worker_logs.specs.Logs.{LogState}
use Rattle.worker_logs.specs.Rows.{AreLogsUp}
use Rattle.shared_rounds.specs.Rooms.{AreRooms}
use Rattle.shared_rounds.specs.Seated.{AreSeated, SeatedSoFar}
use Rattle.shared_rounds.specs.Seating.{CanSeat, seats_from, with_made}
use Rattle.shared_rounds.proofs.Backward.{backward_push}

-- ---- who is seated

-- one worker more is seated
pub seated_made : (made : List ℕ) (worker : ℕ) (v : View)
    → seated worker (with_made made v) ≡ with_made (made ++ worker ∷ []) v
seated_made [] worker v = refl
seated_made (first ∷ more) worker v = refl

-- nobody below them
pub not_seated : (n low worker : ℕ) → worker < low → times worker (seats_from n low) ≡ 0
not_seated zero low worker less = refl
not_seated (suc n) low worker less =
    let rest = not_seated n (low + 1) worker (omega (arith, less)) in
    let one : one_at worker low ≡ 0 = grind (arith, nat_tests) in
    total-append (one_at worker) (seats_from n (low + 1)) (low ∷ []) ∙ omega (arith, rest, one)

-- one more of them
pub seats_more : (count : ℕ) → count < 8
    → seats_from count (8 - count) ++ (7 - count) ∷ [] ≡ seats_from (count + 1) (8 - (count + 1))
seats_more count less =
    let low : 8 - count ≡ (8 - (count + 1)) + 1 = omega (arith, less) in
    let next : 7 - count ≡ 8 - (count + 1) = omega arith in
    let one : count + 1 ≡ suc count = omega arith in
    ap (λ (n : ℕ). seats_from count n ++ (7 - count) ∷ []) low
    ∙ ap (λ (n : ℕ). seats_from count ((8 - (count + 1)) + 1) ++ n ∷ []) next
    ∙ ap (λ (n : ℕ). seats_from n (8 - (count + 1))) (sym one)

-- ---- places

at_place : {X : Type 0} (rest : List X) (x : X) (back : List X)
    → slice_get ((rest ++ x ∷ []) ++ back) (length rest) ≡ Some x
at_place [] x back = refl
at_place (y ∷ rest) x back = at_place rest x back

front_place : {X : Type 0} (rest : List X) (x : X) (i : ℕ) (y : X) → slice_get rest i ≡ Some y
    → slice_get (rest ++ x ∷ []) i ≡ Some y
front_place [] x i y is = absurd cc
front_place (z ∷ rest) x zero y is = is
front_place (z ∷ rest) x (suc i) y is = front_place rest x i y is

all_at_place : {X : Type 0} (P : X → Type 0) (rest : List X) (x : X) (back : List X)
    → AllByRecursion P ((rest ++ x ∷ []) ++ back) → P x
all_at_place P [] x back all = all.0
all_at_place P (y ∷ rest) x back all = all_at_place P rest x back all.1

-- the last of the rooms is that of the worker of this number, and the others are those of the workers before it
pub last_room : (counts spaces : List ℕ) (rest : List RoomState) (room : RoomState)
    → AreRooms counts spaces (rest ++ room ∷ [])
    → (room.told ≡ []) × (room.left ≡ get_or counts (length rest) 0) × (room.space ≡ get_or spaces (length rest) 0)
    × AreRooms counts spaces rest
last_room counts spaces rest room are = (
  (are (length rest) room at).0,
  (are (length rest) room at).1,
  (are (length rest) room at).2,
  (λ worker r is. are worker r (front_place rest room worker r is)),
)
  where
    at : slice_get (rest ++ room ∷ []) (length rest) ≡ Some room
    at = ap (λ l. slice_get l (length rest)) (sym (append-nil (rest ++ room ∷ []))) ∙ at_place rest room []

-- ---- a worker's pass

module _ {D : Type 0} (tells : D → Option (List ℕ)) where
  pub none_seated : (words : Engine) (was : View) (counts spaces : List ℕ) (worker : ℕ) (logs : List LogState)
      (banks : List D) → SeatedSoFar tells words was counts spaces worker [] logs logs banks banks
  none_seated words was counts spaces worker logs banks = record {
    their_logs = [];
    their_banks = [];
    logs_are = sym (append-nil logs);
    banks_are = sym (append-nil banks);
    seated = tt;
  }

  pub seats_one : (words : Engine) (was : View) (counts spaces : List ℕ) (worker : ℕ) (cells : List (Cell D))
      (logs_was logs rest : List LogState)
      (banks_was banks others : List D) (cell : Cell D) → CanSeat was → AreLogsUp tells logs_was banks_was
      → AllByRecursion (λ (log : LogState). log.journal.lines ≡ []) logs_was
      → worker < 8 → length rest ≡ worker → length others ≡ worker
      → logs ≡ rest ++ cell.log ∷ [] → banks ≡ others ++ cell.bank ∷ []
      → IsPassOf words cell.pass → cell.worker ≡ worker → cell.lines ≡ get_or counts worker 0
      → view cell.pass ≡ worker_view worker was → IsOver (view cell.pass) → cell.outcomes.told ≡ []
      → cell.outcomes.left ≡ get_or counts worker 0 → cell.outcomes.space ≡ get_or spaces worker 0
      → SeatedSoFar tells words was counts spaces (worker + 1) cells logs_was logs banks_was banks
      → SeatedSoFar tells words was counts spaces worker (cells ++ cell ∷ []) logs_was rest banks_was others
  seats_one words was counts spaces worker cells logs_was logs rest banks_was banks others cell can up flushed less place
      bank_place log_is bank_is of number lines seat over none room space so =
      let logs_here : logs_was ≡ (rest ++ cell.log ∷ []) ++ so.their_logs =
      so.logs_are ∙ ap (λ (l : List LogState). l ++ so.their_logs) log_is in
      let banks_here : banks_was ≡ (others ++ cell.bank ∷ []) ++ so.their_banks =
      so.banks_are ∙ ap (λ (l : List D). l ++ so.their_banks) bank_is in
      let at : slice_get logs_was worker ≡ Some cell.log =
      ap (slice_get logs_was) (sym place) ∙ ap (λ (l : List LogState). slice_get l (length rest)) logs_here
      ∙ at_place rest cell.log so.their_logs in
      let bank_at : slice_get banks_was worker ≡ Some cell.bank =
      ap (slice_get banks_was) (sym bank_place) ∙ ap (λ (l : List D). slice_get l (length others)) banks_here
      ∙ at_place others cell.bank so.their_banks in record {
        their_logs = cell.log ∷ so.their_logs;
        their_banks = cell.bank ∷ so.their_banks;
        logs_are = logs_here ∙ append_assoc rest (cell.log ∷ []) so.their_logs;
        banks_are = banks_here ∙ append_assoc others (cell.bank ∷ []) so.their_banks;
        seated = subst (λ l. AreSeated tells words was counts spaces worker l (cell.log ∷ so.their_logs)
            (cell.bank ∷ so.their_banks)) (sym (backward_push cells cell)) (
              record {
                of = of;
                number = number;
                small = less;
                lines = lines;
                seat = seat;
                log_is = refl;
                bank_is = refl;
                ready = record {
                  over = over;
                  draws = subst (λ (v : View). 1 ≤ v.layout.first.draw) (sym seat) can.draws;
                  up = up worker cell.log cell.bank at bank_at;
                  flushed = all_at_place (λ (log : LogState). log.journal.lines ≡ []) rest cell.log so.their_logs
                      (subst (AllByRecursion (λ (log : LogState). log.journal.lines ≡ [])) logs_here flushed);
                };
                none = none;
                room = room;
                space = space;
              },
              so.seated,
            );
      }
