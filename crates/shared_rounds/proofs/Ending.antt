-- One seat more is taken in again.
use Rattle.std.proofs.Common.{◌≡◌, ◌∙◌, sym, ap, subst, refl, ℕ, suc, zero, ◌+◌, ◌-◌, ◌<◌, List}
use Rattle.std.proofs.Common.{[], ◌∷◌, ◌++◌}
use Rattle.std.proofs.Common.{append-nil, append_assoc, length, length-append, map, arith}
use Rattle.std.proofs.Common.{Bool, true, false, cond, ltb, Option, Some, inl, inr, ◌⊎◌}
use Rattle.std.specs.Prelude.{get_or, ◌==◌, slice_get, slice_set}
use Rattle.std.proofs.lemmas.Bool.{cases_order, cond-false, cond-true}
use Rattle.std.proofs.lemmas.Bool.Decides.{nat_tests}
use Rattle.std.proofs.lemmas.List.Sums.{sum_by_push}
use Rattle.std.specs.List.{Contains}
use Rattle.std.proofs.lemmas.List.Elements.{Contains-append_left, Contains-append_right}
use Rattle.std.proofs.lemmas.Option.{same_Some}
use Rattle.lists.specs.Elements.{at_push_new, in_none}
use Rattle.script_grammar.specs.Script.{Round, lines_of_worker}
use Rattle.commit_core.specs.declared.attempt.Attempt.{Attempt}
use Rattle.commit_core.specs.declared.seat.Seat.{Seat}
use Rattle.views.specs.Longer.{longer}
use Rattle.views.specs.Sums.{without}
use Rattle.engine_seats.specs.Cuts.{HasSeen, ended, gathered, worker_of}
use Rattle.engine_seats.specs.Gathered.{gathered_all}
use Rattle.engine_pages.specs.Times.{HasTimed}
use Rattle.engine_pages.specs.Views.{IsResting, bare_seat, seat_number}
use Rattle.engine_pages.specs.declared.view.RefusalCause.{RefusalCause}
use Rattle.engine_pages.specs.declared.view.Touch.{Touch}
use Rattle.engine_pages.specs.declared.view.Role.TheVariants.{Worker}
use Rattle.engine_pages.specs.declared.view.View.{View}
use Rattle.tx_script.specs.declared.outcome.Outcome.{Outcome}
use Rattle.worker_cells.specs.Below.{blames_of}
use Rattle.worker_cells.specs.InARow.{IsTakenBy, row_blamed, row_draws, row_touched}
use Rattle.worker_cells.specs.Gates.{AreAllTold}
use Rattle.worker_cells.specs.Rows.{draws_of, refused_of}
use Rattle.worker_cells.specs.declared.cell.LogEnd.{LogEnd}
use Rattle.worker_logs.specs.Logs.{LogState}
use Rattle.shared_rounds.specs.Ended.{AreLeft, AreTold, EndedSoFar}
use Rattle.shared_rounds.specs.Left.{LeavesLog, LeavesPart, TellsPart}
use Rattle.shared_rounds.specs.Parts.{Part, drawn_in_all, share_of}
use Rattle.shared_rounds.specs.Refusals.{causes_of}
use Rattle.shared_rounds.specs.Shares.{Share}
use Rattle.shared_rounds.proofs.Conflicts.{more_told}
use Rattle.shared_rounds.specs.Seating.{seats_from}
use Rattle.shared_rounds.proofs.Claimed.{free_still}
use Rattle.shared_rounds.proofs.Made.{seen_then}
use Rattle.shared_rounds.proofs.Meets.{in_either}
use Rattle.shared_rounds.proofs.Shared.{parts_later, parts_push}

-- ---- who is seated

-- each of them is this worker or a later one
seats_above : (n low worker : ℕ) (ws : List ℕ) → worker < low → without worker (seats_from n low ++ ws)
    ≡ seats_from n low ++ without worker ws
seats_above zero low worker ws less = refl
seats_above (suc n) low worker ws less =
    ap (without worker) (append_assoc (seats_from n (low + 1)) (low ∷ []) ws)
    ∙ seats_above n (low + 1) worker (low ∷ ws) (omega (arith, less))
    ∙ ap (λ (l : List ℕ). seats_from n (low + 1) ++ l)
    (cond-false (low == worker) ws (low ∷ without worker ws) (grind (arith, nat_tests)))
    ∙ sym (append_assoc (seats_from n (low + 1)) (low ∷ []) (without worker ws))

-- the first one goes
pub seats_less : (n low : ℕ) → without low (seats_from (suc n) low) ≡ seats_from n (low + 1)
seats_less n low =
    seats_above n (low + 1) low (low ∷ []) (omega arith)
    ∙ ap (λ (l : List ℕ). seats_from n (low + 1) ++ l) (cond-true (low == low) [] (low ∷ []) (grind (arith, nat_tests)))
    ∙ append-nil (seats_from n (low + 1))

-- ---- own commits

gathered_push : (xs : List Attempt) (mines : List (List Attempt)) (ys : List Attempt)
    → gathered_all xs (mines ++ ys ∷ []) ≡ gathered (gathered_all xs mines) ys
gathered_push xs [] ys = refl
gathered_push xs (zs ∷ mines) ys = gathered_push (gathered xs zs) mines ys

mines_push : (parts : List Part) (p : Part)
    → map (λ (q : Part). q.to.mine) (parts ++ p ∷ []) ≡ map (λ (q : Part). q.to.mine) parts ++ p.to.mine ∷ []
mines_push [] p = refl
mines_push (q ∷ parts) p = ap (λ (l : List (List Attempt)). q.to.mine ∷ l) (mines_push parts p)

-- ---- pages

-- where more are known now, they are longer
pub longer_then : (was mid own now : List (List ℕ)) → (mid ≡ was) ⊎ (length was < length mid) → now ≡ longer mid own
    → (now ≡ was) ⊎ (length was < length now)
longer_then was mid own now so is = by_test (ltb (length mid) (length own)) refl so is
  where
    by_test : (b : Bool) → ltb (length mid) (length own) ≡ b → (mid ≡ was) ⊎ (length was < length mid)
        → now ≡ cond b own mid → (now ≡ was) ⊎ (length was < length now)
    by_test true less (inl same) is =
        let many : length now ≡ length own = ap (λ (l : List (List ℕ)). length l) is in
        let first : length mid ≡ length was = ap (λ (l : List (List ℕ)). length l) same in
        let above : length mid < length own = grind (arith, nat_tests) in inr (omega (arith, many, first, above))
    by_test true less (inr more) is =
        let many : length now ≡ length own = ap (λ (l : List (List ℕ)). length l) is in
        let above : length mid < length own = grind (arith, nat_tests) in inr (omega (arith, many, more, above))
    by_test false less (inl same) is = inl (is ∙ same)
    by_test false less (inr more) is =
        let many : length now ≡ length mid = ap (λ (l : List (List ℕ)). length l) is in inr (omega (arith, many, more))

-- ---- seats and parts by their places

pub set_here : (seats : List Seat) (i : ℕ) (seat : Seat) → i < length seats
    → get_or (slice_set seats i seat) i bare_seat ≡ seat
set_here [] i seat less = absurd (omega (arith, less))
set_here (x ∷ seats) zero seat less = refl
set_here (x ∷ seats) (suc i) seat less = set_here seats i seat (omega (arith, less))

set_other : (seats : List Seat) (i j : ℕ) (seat : Seat) → j < i
    → get_or (slice_set seats i seat) j bare_seat ≡ get_or seats j bare_seat
set_other [] zero j seat less = refl
set_other [] (suc i) j seat less = refl
set_other (x ∷ seats) zero j seat less = absurd (omega (arith, less))
set_other (x ∷ seats) (suc i) zero seat less = refl
set_other (x ∷ seats) (suc i) (suc j) seat less = set_other seats i j seat (omega (arith, less))

at_last : (parts : List Part) (p q : Part) → slice_get (parts ++ p ∷ []) (length parts) ≡ Some q → p ≡ q
at_last [] p q there = same_Some p q there
at_last (x ∷ parts) p q there = at_last parts p q there

at_front : (parts : List Part) (p q : Part) (i : ℕ) → i < length parts → slice_get (parts ++ p ∷ []) i ≡ Some q
    → slice_get parts i ≡ Some q
at_front [] p q i less there = absurd (omega (arith, less))
at_front (x ∷ parts) p q zero less there = there
at_front (x ∷ parts) p q (suc i) less there = at_front parts p q i (omega (arith, less)) there

at_none : (parts : List Part) (p q : Part) (i : ℕ) → length parts < i → slice_get (parts ++ p ∷ []) i ≡ Some q → ⊥
at_none [] p q zero more there = absurd (omega (arith, more))
at_none [] p q (suc i) more there = absurd cc
at_none (x ∷ parts) p q zero more there = absurd (omega (arith, more))
at_none (x ∷ parts) p q (suc i) more there = at_none parts p q i (omega (arith, more)) there

-- ---- one more

pub told_push : (round : Round) (worker next : ℕ) (parts : List Part) (outcomes : List (List Outcome))
    (ends : List LogEnd)
    (logs_was logs : List LogState) (p : Part) (o : List Outcome) (e : LogEnd) (old new : LogState)
    → next ≡ worker + length parts → AreTold round worker parts outcomes ends logs_was logs
    → TellsPart (lines_of_worker round next) o e p old new
    → AreTold round worker (parts ++ p ∷ []) (outcomes ++ o ∷ []) (ends ++ e ∷ []) (logs_was ++ old ∷ [])
    (logs ++ new ∷ [])
told_push round worker next [] [] [] [] [] p o e old new is are one =
    let same : next ≡ worker = omega (arith, is) in
    (subst (λ w. TellsPart (lines_of_worker round w) o e p old new) same one, tt)
told_push round worker next (q ∷ parts) (x ∷ outcomes) (y ∷ ends) (a ∷ logs_was) (b ∷ logs) p o e old new is are one = (
  are.0,
  told_push round (worker + 1) next parts outcomes ends logs_was logs p o e old new (omega
      (arith, is)) are.1 one,
)
told_push round worker next [] [] [] [] (b ∷ logs) p o e old new is are one = absurd are
told_push round worker next [] [] [] (a ∷ logs_was) logs p o e old new is are one = absurd are
told_push round worker next [] [] (y ∷ ends) logs_was logs p o e old new is are one = absurd are
told_push round worker next [] (x ∷ outcomes) ends logs_was logs p o e old new is are one = absurd are
told_push round worker next (q ∷ parts) [] ends logs_was logs p o e old new is are one = absurd are
told_push round worker next (q ∷ parts) (x ∷ outcomes) [] logs_was logs p o e old new is are one = absurd are
told_push round worker next (q ∷ parts) (x ∷ outcomes) (y ∷ ends) [] logs p o e old new is are one = absurd are
told_push round worker next (q ∷ parts) (x ∷ outcomes) (y ∷ ends)
    (a ∷ logs_was) [] p o e old new is are one = absurd are

module _ {D : Type 0} (tells : D → Option (List ℕ)) (clock : D → ℕ) (image_at : D → ℕ → List ℕ → Type 0)
    (faults : D → ℕ) where
  left_push : (low high : ℕ) (parts : List Part) (logs_was logs : List LogState) (banks_was banks : List D) (p : Part)
      (old new : LogState) (before now : D)
      → AreLeft tells clock image_at faults low high parts logs_was logs banks_was banks
      → LeavesLog tells clock image_at faults low high p old new before now
      → AreLeft tells clock image_at faults low high (parts ++ p ∷ []) (logs_was ++ old ∷ []) (logs ++ new ∷ [])
      (banks_was ++ before ∷ []) (banks ++ now ∷ [])
  left_push low high [] [] [] [] [] p old new before now are one = (one, tt)
  left_push low high (q ∷ parts) (a ∷ lw) (b ∷ ls) (c ∷ bw) (d ∷ bs) p old new before now are one =
      (are.0, left_push low high parts lw ls bw bs p old new before now are.1 one)
  left_push low high [] [] [] [] (d ∷ bs) p old new before now are one = absurd are
  left_push low high [] [] [] (c ∷ bw) bs p old new before now are one = absurd are
  left_push low high [] [] (b ∷ ls) bw bs p old new before now are one = absurd are
  left_push low high [] (a ∷ lw) ls bw bs p old new before now are one = absurd are
  left_push low high (q ∷ parts) [] ls bw bs p old new before now are one = absurd are
  left_push low high (q ∷ parts) (a ∷ lw) [] bw bs p old new before now are one = absurd are
  left_push low high (q ∷ parts) (a ∷ lw) (b ∷ ls) [] bs p old new before now are one = absurd are
  left_push low high (q ∷ parts) (a ∷ lw) (b ∷ ls) (c ∷ bw) [] p old new before now are one = absurd are

  -- One more seat was taken in, that of this part.
  pub ends_one : (tries : ℕ) (round : Round) (was behind mid now u : View) (n count : ℕ) (logs_was logs : List LogState)
      (banks_was banks : List D) (outcomes : List (List Outcome)) (ends : List LogEnd)
      → (so : EndedSoFar tells clock image_at faults tries round was behind mid count logs_was logs banks_was banks
      outcomes ends)
      → count < 8 → u.role ≡ Worker count → IsResting u.seat
      → HasTimed (ended mid u) n now → HasSeen mid now
      → (p : Part) (old new : LogState) (before bank : D) → p.to ≡ u
      → LeavesPart tells clock image_at faults tries was now count p old new before bank
      → (told : List (List Outcome)) (left : List LogEnd)
      → AreTold round 0 (so.parts ++ p ∷ []) told left (logs_was ++ old ∷ []) (logs ++ new ∷ [])
      → length told ≡ count + 1 → AreAllTold 0 told left
      → EndedSoFar tells clock image_at faults tries round was behind now (count + 1) (logs_was ++ old ∷ [])
      (logs ++ new ∷ [])
      (banks_was ++ before ∷ []) (banks ++ bank ∷ []) told left
  ends_one tries round was behind mid now u n count logs_was logs banks_was banks outcomes ends so less seat rests
      timed seen
      p old new before bank is leaves told left then many calls =
      let here : count ≡ 0 + length so.parts = omega (arith, so.many) in
      record {
        parts = so.parts ++ p ∷ [];
        many = length-append so.parts (p ∷ []) ∙ ap (λ k. k + 1) so.many;
        are = parts_push tries was now 0 count so.parts p here (parts_later tries was mid now 0 so.parts seen so.are)
            leaves.part;
        seen = seen_then was mid now so.seen seen;
        role = ap (λ (v : View). v.role) timed.is ∙ so.role;
        seat = ap (λ (v : View). v.seat) timed.is ∙ so.seat;
        layout = ap (λ (v : View). v.layout) timed.is ∙ so.layout;
        pages = longer_then behind.pages mid.pages u.pages now.pages so.pages (ap (λ (v : View). v.pages) timed.is);
        fills = ap (λ (v : View). v.fills) timed.is ∙ so.fills;
        low = so.low;
        epoch = here_epoch;
        met = ap (λ (v : View). v.met) timed.is ∙ so.met;
        made = ap (λ (v : View). v.made) timed.is ∙ ap (λ w. without w mid.made) who ∙ ap (without count) so.made
            ∙ less_made count less;
        gathers = ap (λ (v : View). v.mine) timed.is ∙ ap (λ (l : List Attempt). gathered l u.mine) so.gathers
            ∙ ap (λ (v : View). gathered (gathered_all was.mine (map (λ (q : Part). q.to.mine) so.parts)) v.mine)
            (sym is)
            ∙ sym (gathered_push was.mine (map (λ (q : Part). q.to.mine) so.parts) p.to.mine)
            ∙ ap (gathered_all was.mine) (sym (mines_push so.parts p));
        refused = ap (λ (v : View). v.refused) timed.is ∙ ap (λ (l : List RefusalCause). l ++ u.refused) so.refused
            ∙ ap (λ (v : View). (was.refused ++ causes_of (map (λ (share : Share). share.tries_refused)
            (map share_of so.parts))) ++ v.refused)
            (sym is) ∙ more_told tries was now count so.parts p was.refused leaves.part;
        draws =
            let drew : now.draws ≡ mid.draws + u.draws = ap (λ (v : View). v.draws) timed.is in
            let own : p.to.draws ≡ u.draws = ap (λ (v : View). v.draws) is in
            let begun : p.from.draws ≡ 0 = leaves.part.seated.draws in
            let row = row_draws tries p.from p.ran p.to leaves.part.row in
            let more : drawn_in_all (so.parts ++ p ∷ []) ≡ drawn_in_all so.parts + draws_of p.ran =
            sum_by_push (λ (q : Part). draws_of q.ran) so.parts p in
            omega (arith, drew, own, begun, row, more, so.draws);
        drops = same_drops;
        dropped = so.dropped;
        touched = λ same t has.
            let drew : now.touched ≡ mid.touched ++ u.touched = ap (λ (v : View). v.touched) timed.is in
            elim (in_either t mid.touched u.touched (subst (λ (l : List Touch). Contains l t) drew has)) [
              | inl before ↦
                  let x = so.touched (sym same_then ∙ same) t before in (x.0, x.1, at_older so.parts p x.1 x.0 x.2, x.3)
              | inr own ↦ (
                count,
                p,
                ap (λ n. slice_get (so.parts ++ p ∷ []) n) place ∙ at_push_new so.parts p,
                taken_here t (row_touched tries p.from p.ran p.to leaves.part.row t
                    (subst (λ (v : View). Contains v.touched t) (sym is) own)),
              )
            ];
        blamed = λ worker q there b has.
            subst (λ (l : List Touch). Contains l b) (sym (ap (λ (v : View). v.blamed) timed.is))
            (blamed_by worker q (cases_order worker count) there b has);
        parked_are = ap (λ (v : View). length v.parked) timed.is ∙ length_set mid.parked (worker_of u.role) u.seat
            ∙ so.parked_are;
        parked = λ worker small. subst (λ (l : List Seat). IsResting (get_or l worker bare_seat))
            (sym (ap (λ (v : View). v.parked) timed.is))
            (rests_set mid.parked (worker_of u.role) u.seat worker rests (so.parked worker small));
        taken = λ worker q there. ap (λ (v : View). get_or v.parked worker bare_seat) timed.is
            ∙ by_place worker q (cases_order worker count) there;
        left = left_push was.epoch behind.epoch so.parts logs_was logs banks_was banks p old new before bank so.left
            (subst (λ n. LeavesLog tells clock image_at faults was.epoch n p old new before bank) here_epoch
            leaves.log);
        free = λ nothing. free_still mid now (ap (λ (v : View). v.grip) timed.is) (ap (λ (v : View). v.ways) timed.is)
            (ap (λ (v : View). v.took) timed.is) (ap (λ (v : View). v.shuts) timed.is)
            (ap (λ (v : View). v.heads) timed.is) (so.free nothing);
        told = then;
        many_outcomes = many;
        calls = calls;
      }
    where
      here_epoch : now.epoch ≡ behind.epoch
      here_epoch = ap (λ (v : View). v.epoch) timed.is ∙ timed.keepers so.role ∙ so.epoch

      same_then : now.drops ≡ mid.drops
      same_then = ap (λ (v : View). v.drops) timed.is

      same_drops : now.drops ≡ behind.drops
      same_drops = same_then ∙ so.drops

      who : worker_of u.role ≡ count
      who = ap worker_of seat

      place : count ≡ length so.parts
      place = sym so.many

      seat_is : seat_number p.from.role ≡ suc count
      seat_is = ap seat_number leaves.part.seated.role

      taken_here : (t : Touch) → Contains p.from.touched t ⊎ IsTakenBy (seat_number p.from.role) p.ran t
          → IsTakenBy (suc count) p.ran t
      taken_here t (inl before) = absurd (in_none t
          (subst (λ (l : List Touch). Contains l t) leaves.part.seated.touched before))
      taken_here t (inr own) = subst (λ n. IsTakenBy n p.ran t) seat_is own

      blamed_by : (worker : ℕ) (q : Part) → (worker ≡ count) ⊎ ((worker < count) ⊎ (count < worker))
          → slice_get (so.parts ++ p ∷ []) worker ≡ Some q → (b : Touch)
          → Contains (blames_of (suc worker) (refused_of q.ran)) b → Contains (mid.blamed ++ u.blamed) b
      blamed_by worker q (inl same) there b has =
          let here : p ≡ q = at_last so.parts p q
          (ap (slice_get (so.parts ++ p ∷ [])) (sym (same ∙ place)) ∙ there) in
          let own : u.blamed ≡ blames_of (suc worker) (refused_of q.ran) =
          ap (λ (v : View). v.blamed) (sym is)
          ∙ row_blamed tries p.from p.ran p.to leaves.part.row
          ∙ ap (λ (l : List Touch). l ++ blames_of (seat_number p.from.role) (refused_of p.ran))
          leaves.part.seated.blamed
          ∙ ap (λ n. blames_of n (refused_of p.ran)) (seat_is ∙ ap suc (sym same))
          ∙ ap (λ (x : Part). blames_of (suc worker) (refused_of x.ran)) here in
          Contains-append_right mid.blamed u.blamed b (subst (λ (l : List Touch). Contains l b) (sym own) has)
      blamed_by worker q (inr (inl before)) there b has =
          Contains-append_left mid.blamed u.blamed b
          (so.blamed worker q (at_front so.parts p q worker (omega (arith, before, so.many)) there) b has)
      blamed_by worker q (inr (inr after)) there b has =
          absurd (at_none so.parts p q worker (omega (arith, after, so.many)) there)

      at_older : (parts : List Part) (x q : Part) (i : ℕ) → slice_get parts i ≡ Some q
          → slice_get (parts ++ x ∷ []) i ≡ Some q
      at_older [] x q i there = absurd cc
      at_older (y ∷ parts) x q zero there = there
      at_older (y ∷ parts) x q (suc i) there = at_older parts x q i there

      by_place : (worker : ℕ) (q : Part) → (worker ≡ count) ⊎ ((worker < count) ⊎ (count < worker))
          → slice_get (so.parts ++ p ∷ []) worker ≡ Some q
          → get_or (slice_set mid.parked (worker_of u.role) u.seat) worker bare_seat ≡ q.to.seat
      by_place worker q (inl same) there =
          ap (λ w. get_or (slice_set mid.parked w u.seat) worker bare_seat) (who ∙ sym same)
          ∙ set_here mid.parked worker u.seat (omega (arith, same, less, so.parked_are))
          ∙ ap (λ (v : View). v.seat) (sym is)
          ∙ ap (λ (x : Part). x.to.seat) (at_last so.parts p q (ap (slice_get (so.parts ++ p ∷ [])) (sym
          (same ∙ place)) ∙ there))
      by_place worker q (inr (inl before)) there =
          ap (λ w. get_or (slice_set mid.parked w u.seat) worker bare_seat) who
          ∙ set_other mid.parked count worker u.seat (omega (arith, before))
          ∙ so.taken worker q (at_front so.parts p q worker (omega (arith, before, so.many)) there)
      by_place worker q (inr (inr after)) there =
          absurd (at_none so.parts p q worker (omega (arith, after, so.many)) there)

      less_made : (count : ℕ) → count < 8 → without count (seats_from (8 - count) count) ≡ seats_from (8 -
          (count + 1)) (count + 1)
      less_made count less =
          let more : 8 - count ≡ suc (8 - (count + 1)) = omega (arith, less) in
          ap (λ k. without count (seats_from k count)) more ∙ seats_less (8 - (count + 1)) count

      length_set : (xs : List Seat) (i : ℕ) (x : Seat) → length (slice_set xs i x) ≡ length xs
      length_set [] zero x = refl
      length_set [] (suc i) x = refl
      length_set (y ∷ xs) zero x = refl
      length_set (y ∷ xs) (suc i) x = ap suc (length_set xs i x)

      rests_set : (xs : List Seat) (i : ℕ) (x : Seat) (worker : ℕ) → IsResting x
          → IsResting (get_or xs worker bare_seat)
          → IsResting (get_or (slice_set xs i x) worker bare_seat)
      rests_set [] zero x worker rest was = was
      rests_set [] (suc i) x worker rest was = was
      rests_set (y ∷ xs) zero x zero rest was = rest
      rests_set (y ∷ xs) zero x (suc worker) rest was = was
      rests_set (y ∷ xs) (suc i) x zero rest was = was
      rests_set (y ∷ xs) (suc i) x (suc worker) rest was = rests_set xs i x worker rest was
