-- How many lines the workers of a round have together: no more than the round.
use Rattle.std.proofs.Common.{◌≡◌, refl, ℕ, ◌+◌, ◌≤◌, Bool, true, false, cond, eqb, ltb}
use Rattle.std.proofs.Common.{List, [], ◌∷◌, length, inl, inr, arith}
use Rattle.std.specs.List.{filter_map}
use Rattle.std.proofs.lemmas.Bool.{cases_Bool}
use Rattle.std.proofs.lemmas.Bool.Decides.{nat_tests}
use Rattle.serial_model.specs.declared.op.Op.{Op}
use Rattle.script_grammar.specs.Script.{Line, Worker, Keeper, Round, ops_of_worker, worker_lines}

-- how many items there are in lists of them
abbrev pub total : {X : Type 0} → List (List X) → ℕ
total [] = 0
total (items ∷ more) = length items + total more

-- the operations of the lines that are a worker's
abbrev ops_of : ℕ → List Line → List (List Op)
ops_of k lines = filter_map (ops_of_worker k) lines

-- the line is of a worker below k
abbrev is_below : ℕ → Line → Bool
is_below k (Worker w ops) = ltb w k
is_below k (Keeper line) = false

-- how many lines are of workers below k
abbrev count_below : ℕ → List Line → ℕ
count_below k [] = 0
count_below k (line ∷ lines) = cond (is_below k line) 1 0 + count_below k lines

mine_counted : (k w : ℕ) (ops : List Op) (lines : List Line)
    → length (ops_of k (Worker w ops ∷ lines)) ≡ cond (eqb w k) 1 0 + length (ops_of k lines)
mine_counted k w ops lines =
    elim (cases_Bool (eqb w k)) [ inl same ↦ rw same (omega arith) | inr other ↦ rw other (omega arith) ]

one_more_worker : (w k : ℕ) → ◌≡◌ {A = ℕ} (cond (ltb w (k + 1)) 1 0) (cond (eqb w k) 1 0 + cond (ltb w k) 1 0)
one_more_worker w k = grind (arith, nat_tests)

count_below-more : (k : ℕ) (lines : List Line)
    → count_below (k + 1) lines ≡ length (ops_of k lines) + count_below k lines
count_below-more k [] = refl
count_below-more k (Worker w ops ∷ lines) =
    omega (arith, mine_counted k w ops lines, one_more_worker w k, count_below-more k lines)
count_below-more k (Keeper line ∷ lines) = omega (arith, count_below-more k lines)

none_below : (w : ℕ) → ◌≡◌ {A = ℕ} (cond (ltb w 0) 1 0) 0
none_below w = grind (arith, nat_tests)

count_below-none : (lines : List Line) → count_below 0 lines ≡ 0
count_below-none [] = refl
count_below-none (Worker w ops ∷ lines) = omega (arith, none_below w, count_below-none lines)
count_below-none (Keeper line ∷ lines) = omega (arith, count_below-none lines)

at_most_one : (b : Bool) → cond b 1 0 ≤ 1
at_most_one true = omega arith
at_most_one false = omega arith

count_below-le : (k : ℕ) (lines : List Line) → count_below k lines ≤ length lines
count_below-le k [] = omega arith
count_below-le k (line ∷ lines) = omega (arith, at_most_one (is_below k line), count_below-le k lines)

-- the workers have no more lines than the round
pub total-worker_lines : (round : Round) → total (worker_lines round) ≤ length round.lines
total-worker_lines round =
    let ls : List Line = round.lines in
    omega (
      arith,
      count_below-none ls,
      count_below-more 0 ls,
      count_below-more 1 ls,
      count_below-more 2 ls,
      count_below-more 3 ls,
      count_below-more 4 ls,
      count_below-more 5 ls,
      count_below-more 6 ls,
      count_below-more 7 ls,
      count_below-le 8 ls,
    )
