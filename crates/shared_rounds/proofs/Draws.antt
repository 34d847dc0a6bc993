-- How many numbers a round draws, as the passes count them and as shares tell them.
use Rattle.std.proofs.Common.{◌≡◌, sym, refl, ◌+◌, Bool, true, false, cond, List, [], ◌∷◌, ◌++◌}
use Rattle.std.proofs.Common.{filter, length, map, arith}
use Rattle.std.proofs.lemmas.List.Sums.{sum_by-cons}
use Rattle.serial_model.specs.declared.op.Op.{Op}
use Rattle.worker_cells.specs.Below.{drawn_for, lost_to, Lost, ToClock, ToOther, ToSet, ToSlots}
use Rattle.tx_script.specs.Draws.{commit_count, drew_by, lost_of, lost_of_line, lost_of_lines}
use Rattle.tx_script.specs.Run.{is_commit}
use Rattle.tx_script.specs.declared.outcome.Outcome.{Outcome}
use Rattle.worker_cells.specs.Rows.{LineRan, drawn_in, draws_of, outcomes_of, unrun}
use Rattle.shared_rounds.specs.Parts.{Part, drawn_in_all, no_tries, share_of, tries_of}
use Rattle.shared_rounds.specs.Refusals.{try_refusal}
use Rattle.shared_rounds.specs.Shares.{Share}
use Rattle.shared_rounds.proofs.Joined.{shares_of}

-- ---- one line

drew_same : (lost : Lost) → drew_by (try_refusal lost) ≡ drawn_for lost
drew_same (ToOther clash) = refl
drew_same (ToSlots words) = refl
drew_same (ToSet set) = refl
drew_same (ToClock clock) = refl

line_lost : (losts : List Lost) → lost_of_line (map try_refusal losts) ≡ lost_to losts
line_lost [] = refl
line_lost (lost ∷ losts) =
    omega (
      arith,
      sum_by-cons drew_by (try_refusal lost) (map try_refusal losts),
      sum_by-cons drawn_for lost losts,
      drew_same lost,
      line_lost losts,
    )

first_commit : (outcome : Outcome) (outcomes : List Outcome)
    → length (filter is_commit (outcome ∷ outcomes)) ≡ cond (is_commit outcome) 1 0 + length (filter is_commit outcomes)
first_commit outcome outcomes = by_test (is_commit outcome)
  where
    by_test : (b : Bool)
        → length (cond b (outcome ∷ filter is_commit outcomes) (filter is_commit outcomes))
        ≡ cond b 1 0 + length (filter is_commit outcomes)
    by_test true = omega arith
    by_test false = omega arith

-- ---- a worker's lines

none_drawn : (left : List (List Op)) → length (filter is_commit (unrun left)) + lost_of_lines (no_tries left) ≡ 0
none_drawn [] = refl
none_drawn (ops ∷ left) =
    let none : lost_of_line [] ≡ 0 = refl in
    omega (arith, none_drawn left, sum_by-cons lost_of_line [] (no_tries left), none)

row_drawn : (ran : List LineRan) (left : List (List Op))
    → draws_of ran
    ≡ length (filter is_commit (outcomes_of ran ++ unrun left)) + lost_of_lines (tries_of ran ++ no_tries left)
row_drawn [] left = sym (none_drawn left)
row_drawn (line ∷ more) left =
    omega (
      arith,
      sum_by-cons drawn_in line more,
      first_commit line.outcome (outcomes_of more ++ unrun left),
      sum_by-cons lost_of_line (map try_refusal line.refused) (tries_of more ++ no_tries left),
      line_lost line.refused,
      row_drawn more left,
    )

-- ---- all of them

-- each number was drawn for a commit that is told, or for a try that was refused behind its draw
pub parts_drawn : (parts : List Part)
    → drawn_in_all parts
    ≡ commit_count (map (λ (share : Share). share.outcomes) (shares_of parts))
    + lost_of (map (λ (share : Share). share.tries_refused) (shares_of parts))
parts_drawn [] = refl
parts_drawn (p ∷ parts) =
    omega (
      arith,
      sum_by-cons (λ (q : Part). draws_of q.ran) p parts,
      row_drawn p.ran p.left,
      sum_by-cons (λ (outcomes : List Outcome). length (filter is_commit outcomes)) (share_of p).outcomes
          (map (λ (share : Share). share.outcomes) (shares_of parts)),
      sum_by-cons lost_of_lines (share_of p).tries_refused
          (map (λ (share : Share). share.tries_refused) (shares_of parts)),
      parts_drawn parts,
    )
