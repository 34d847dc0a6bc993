-- Counts, step by step.
use Rattle.std.proofs.Common.{◌≡◌, ◌∙◌, sym, ap, ap₂, refl, ℕ, ◌+◌, ◌≤◌, ◌<◌, Bool, true, false, List, [], ◌∷◌, ◌++◌, length, drop, get_or, map, Option, None, arith, add-one, drop-cons}
use Rattle.std.specs.Prelude.{filter, fold, sum_by}
use Rattle.std.specs.Option.{option_or}
use Rattle.std.proofs.lemmas.List.{map-append}
use Rattle.std.proofs.lemmas.List.Sums.{fold-append, sum_by-append, sum_by-cons}
use Rattle.tx_script.specs.Draws.{commit_count}
use Rattle.tx_script.specs.Run.{Ran, is_commit}
use Rattle.tx_script.specs.declared.outcome.Outcome.{Outcome}
use Rattle.brief_output.specs.declared.tally.Tally.{Tally}
use Rattle.brief_output.specs.Brief.{commits_in, has_run, last_durable, tally_of}

-- ---- a worker

-- the commits so far, and those that are left
pub record WorkerSoFar (commits line : ℕ) (left all : List Outcome) : Type 0 where
  pub whole : commits + length (filter is_commit left) ≡ length (filter is_commit all)
  pub lines : line + length left ≡ length all
  pub few : commits ≤ line

-- the first one counts, and then the others
count_first : {X : Type 0} (p : X → Bool) (x : X) (xs : List X) → length (filter p (x ∷ xs)) ≡ length (filter p (x ∷ [])) + length (filter p xs)
count_first p x xs = go (p x) refl
  where
    go : (b : Bool) → p x ≡ b → length (filter p (x ∷ xs)) ≡ length (filter p (x ∷ [])) + length (filter p xs)
    go true e = rw e (omega arith)
    go false e = rw e (omega arith)

pub one_line : (commits line more : ℕ) (left rest all : List Outcome) (x : Outcome) → WorkerSoFar commits line left all → left ≡ x ∷ rest
    → more ≡ length (filter is_commit (x ∷ [])) → more ≤ 1 → WorkerSoFar (commits + more) (line + 1) rest all
one_line commits line more left rest all x so split count small =
    let counts : length (filter is_commit left) ≡ length (filter is_commit (x ∷ rest)) = ap (λ (xs : List Outcome). length (filter is_commit xs)) split in
    let lengths : length left ≡ length (x ∷ rest) = ap (λ (xs : List Outcome). length xs) split in
    record {
      whole = omega (arith, so.whole, counts, count_first is_commit x rest, count);
      lines = omega (arith, so.lines, lengths);
      few = omega (arith, so.few, small);
    }

-- ---- a round

-- what is left of a list begins with the item there
left_from : {X : Type 0} (xs : List X) (i : ℕ) (x : X) → i < length xs → x ≡ get_or xs i x → drop i xs ≡ x ∷ drop (i + 1) xs
left_from xs i x within is = rw add-one (drop-cons xs i x within) ∙ ap (λ y. y ∷ drop (i + 1) xs) (sym is)

-- the commits of the workers so far, and of those that are left
pub record RoundSoFar (commits index : ℕ) (outcomes : List (List Outcome)) : Type 0 where
  pub whole : commits + commit_count (drop index outcomes) ≡ commit_count outcomes
  pub few : commits + sum_by length (drop index outcomes) ≤ sum_by length outcomes

pub one_worker : (commits index more : ℕ) (outcomes : List (List Outcome)) (worker : List Outcome) → RoundSoFar commits index outcomes
    → index < length outcomes → worker ≡ get_or outcomes index worker → more ≡ length (filter is_commit worker) → more ≤ length worker
    → RoundSoFar (commits + more) (index + 1) outcomes
one_worker commits index more outcomes worker so within is count few =
    let left = left_from outcomes index worker within is in
    let sums : commit_count (drop index outcomes) ≡ commit_count (worker ∷ drop (index + 1) outcomes) = ap commit_count left in
    let first = sum_by-cons (λ (xs : List Outcome). length (filter is_commit xs)) worker (drop (index + 1) outcomes) in
    let lines : sum_by length (drop index outcomes) ≡ sum_by length (worker ∷ drop (index + 1) outcomes) = ap (λ (xs : List (List Outcome)). sum_by length xs) left in
    let line = sum_by-cons (λ (xs : List Outcome). length xs) worker (drop (index + 1) outcomes) in
    record {
      whole = omega (arith, so.whole, sums, first, count);
      few = omega (arith, so.few, lines, line, few);
    }

-- what was counted fits
pub fits_so_far : (commits index more : ℕ) (outcomes : List (List Outcome)) (worker : List Outcome) → RoundSoFar commits index outcomes
    → index < length outcomes → worker ≡ get_or outcomes index worker → more ≤ length worker → commits + more ≤ sum_by length outcomes
fits_so_far commits index more outcomes worker so within is few =
    let left = left_from outcomes index worker within is in
    let lines : sum_by length (drop index outcomes) ≡ sum_by length (worker ∷ drop (index + 1) outcomes) = ap (λ (xs : List (List Outcome)). sum_by length xs) left in
    let line = sum_by-cons (λ (xs : List Outcome). length xs) worker (drop (index + 1) outcomes) in
    omega (arith, so.few, lines, line, few)

-- ---- one more round

commits_in-more : (rans : List Ran) (ran : Ran) → commits_in (rans ++ ran ∷ []) ≡ commits_in rans + commit_count ran.printed.outcomes
commits_in-more rans ran =
    let f : Ran → ℕ = λ r. commit_count r.printed.outcomes in
    let e = sum_by-append f rans (ran ∷ []) in
    let one = sum_by-cons f ran [] in
    omega (arith, e, one)

last_durable-more : (rans : List Ran) (ran : Ran) → last_durable (rans ++ ran ∷ []) ≡ option_or ran.printed.durable (last_durable rans)
last_durable-more rans ran =
    let later : Option ℕ → Option ℕ → Option ℕ = λ before durable. option_or durable before in
    let of : Ran → Option ℕ = λ r. r.printed.durable in
    ap (fold later None) (map-append of rans (ran ∷ [])) ∙ fold-append later None (map of rans) (ran.printed.durable ∷ [])

has_run-more : (rans : List Ran) (ran : Ran) → has_run (rans ++ ran ∷ []) ≡ true
has_run-more [] ran = refl
has_run-more (first ∷ rans) ran = refl

tally_of-more : (rans : List Ran) (ran : Ran)
    → tally_of (rans ++ ran ∷ []) ≡ record { ran = true; commits = commits_in rans + commit_count ran.printed.outcomes; durable = option_or ran.printed.durable (last_durable rans) }
tally_of-more rans ran =
    ap (λ (b : Bool). record { ran = b; commits = commits_in (rans ++ ran ∷ []); durable = last_durable (rans ++ ran ∷ []) }) (has_run-more rans ran)
    ∙ ap₂ (λ (c : ℕ) (d : Option ℕ). record { ran = true; commits = c; durable = d }) (commits_in-more rans ran) (last_durable-more rans ran)

-- the tally of one round more
pub tally_added : (old new : Tally) (rans : List Ran) (ran : Ran) → old ≡ tally_of rans → new.ran ≡ true → new.commits ≡ old.commits + commit_count ran.printed.outcomes
    → new.durable ≡ option_or ran.printed.durable old.durable → new ≡ tally_of (rans ++ ran ∷ [])
tally_added old new rans ran is some commits durable =
    let tally : ℕ → Option ℕ → Tally = λ c d. record { ran = true; commits = c; durable = d } in
    let with_ran : Bool → Tally = λ b. record { ran = b; commits = new.commits; durable = new.durable } in
    let before : old.commits ≡ commits_in rans = ap (λ (t : Tally). t.commits) is in
    let last : old.durable ≡ last_durable rans = ap (λ (t : Tally). t.durable) is in
    ap with_ran some ∙ ap₂ tally (commits ∙ ap (λ n. n + commit_count ran.printed.outcomes) before) (durable ∙ ap (option_or ran.printed.durable) last) ∙ sym (tally_of-more rans ran)
