-- How many numbers a round draws: one for each commit, and one for each try that was refused behind its draw. And how
-- many lines a script's text has. The laws: a round draws no more numbers than its lines have tries; a line is refused
-- a number only where the draws are used up; and with few tries a line no script comes to that.
use Rattle.std.specs.Prelude.{◌≡◌, ◌⊎◌, ◌≤◌, ◌<◌, ◌+◌, ◌-◌, ◌*◌, ◌==◌, ◌||◌, ℕ, Bool, true, false, Option}
use Rattle.std.specs.Prelude.{List, [], ◌∷◌, ◌++◌, length, map, filter, sum_by, codes, cond, nat_lt}
use Rattle.std.specs.List.{AllByRecursion, list_any, slice_split}
use Rattle.std.proofs.Common.{refl, ap, ◌∙◌, inl, inr, arith, length-append}
use Rattle.std.proofs.lemmas.List.{length-map}
use Rattle.std.proofs.lemmas.List.Sums.{sum_by-cons, count_by-le-length, length-filter}
use Rattle.std.proofs.lemmas.List.Splits.{length-slice_split}
use Rattle.serial_model.specs.State.{State}
use Rattle.serial_model.specs.declared.number.Number.{Number}
use Rattle.serial_model.specs.declared.op.Op.{Op}
use Rattle.serial_model.specs.Numbers.{draw_limit}
use Rattle.script_grammar.specs.Script.{Bytes, IsTextOf, Line, Round, Script, worker_lines}
use Rattle.script_grammar.specs.Script.{decl_text, joined_lines, last_round, line_text, lines_of}
use Rattle.tx_script.specs.declared.outcome.Outcome.{Outcome}
use Rattle.tx_script.specs.declared.outcome.Outcome.TheVariants.{Committed, Conflict, Full, Wide, Limit, Unrun}
use Rattle.tx_script.specs.Causes.{AllCaused, WorkersCaused}
use Rattle.tx_script.specs.Counts.{total, total-worker_lines}
use Rattle.tx_script.specs.Run.{AreOfFirst, InConflict, IsOfRound, IsScriptRun, LogRefusal, NoNumber, NoRoom, NoSlot}
use Rattle.tx_script.specs.Run.{OneForEach, Ran}
use Rattle.tx_script.specs.Run.{RunsClocks, TryRefusal, clock_after, is_commit, is_limit, joined}
use Rattle.tx_script.specs.Tries.{AllCome, ComesTo, EndsWith}

-- how many of the outcomes are commits
abbrev pub commit_count : List (List Outcome) → ℕ
commit_count = sum_by (λ outcomes. length (filter is_commit outcomes))

-- 1 for a try that was refused behind its draw
abbrev pub drew_by : TryRefusal → ℕ
drew_by (InConflict met) = cond met.drew 1 0
drew_by (NoSlot words) = 0
drew_by (NoRoom set) = 0
drew_by (NoNumber clock) = 0

-- how many numbers were drawn for tries of a line that were refused
abbrev pub lost_of_line : List TryRefusal → ℕ
lost_of_line refusals = sum_by drew_by refusals

-- the same of a worker's lines
abbrev pub lost_of_lines : List (List TryRefusal) → ℕ
lost_of_lines refused = sum_by lost_of_line refused

-- the same of all lines
abbrev pub lost_of : List (List (List TryRefusal)) → ℕ
lost_of refused = sum_by lost_of_lines refused

-- Each number of the round was drawn for one of its commits, or for a try that was refused behind its draw.
abbrev pub DrawsAreCounted : Ran → Type 0
DrawsAreCounted ran =
    ran.printed.end.draw ≡ ran.printed.begin.draw + commit_count ran.printed.outcomes + lost_of ran.beside.refused

-- The round drew no more numbers than its lines have tries, each so many.
abbrev pub DrawsWithin : ℕ → Ran → Type 0
DrawsWithin tries ran = ran.printed.end.draw ≤ ran.printed.begin.draw + tries * sum_by length ran.printed.outcomes

-- ---- what a round draws

drew_at_most_one : (refusal : TryRefusal) → drew_by refusal ≤ 1
drew_at_most_one (InConflict met) = one met.drew
  where
    one : (b : Bool) → cond b 1 0 ≤ 1
    one true = omega arith
    one false = omega arith
drew_at_most_one (NoSlot words) = omega arith
drew_at_most_one (NoRoom set) = omega arith
drew_at_most_one (NoNumber clock) = omega arith

lost_few : (refusals : List TryRefusal) → lost_of_line refusals ≤ length refusals
lost_few [] = omega arith
lost_few (refusal ∷ more) =
    omega (arith, sum_by-cons drew_by refusal more, drew_at_most_one refusal, lost_few more)

-- nor do tries of which the last one was not refused in conflict
ended_few : (tries : ℕ) (last : TryRefusal) (refusals : List TryRefusal) → EndsWith tries last refusals
    → lost_of_line refusals ≤ tries
ended_few tries last refusals ends =
    let long : length refusals ≡ length ends.before + 1 =
    ap length ends.all ∙ length-append ends.before (last ∷ []) in
    let fewer = ends.fewer in
    omega (arith, long, fewer, lost_few refusals)

-- a line with its commit draws no more numbers than it has tries
line_within : (first last tries : ℕ) (log : Option LogRefusal) (outcome : Outcome) (refusals : List TryRefusal)
    → ComesTo first last tries log outcome refusals → cond (is_commit outcome) 1 0 + lost_of_line refusals ≤ tries
line_within first last tries log (Committed verdict number replies) refusals come =
    let fewer = come.3 in omega (arith, fewer, lost_few refusals)
line_within first last tries log Conflict refusals come = let all = come.2 in omega (arith, all, lost_few refusals)
line_within first last tries log Full refusals come =
    let few = ended_few tries (NoSlot come.1) refusals come.2 in omega (arith, few)
line_within first last tries log Wide refusals come =
    let few = ended_few tries (NoRoom come.1) refusals come.2 in omega (arith, few)
line_within first last tries log Limit refusals come =
    let few = ended_few tries (NoNumber come.0) refusals come.1 in omega (arith, few)
line_within first last tries log Unrun refusals come =
    let none : lost_of_line refusals ≡ 0 = ap lost_of_line come.0 in omega (arith, none)

commits_in_line : (outcome : Outcome) (outcomes : List Outcome)
    → length (filter is_commit (outcome ∷ outcomes)) ≡ cond (is_commit outcome) 1 0 + length (filter is_commit outcomes)
commits_in_line outcome outcomes = by_test (is_commit outcome)
  where
    by_test : (b : Bool)
        → length (cond b (outcome ∷ filter is_commit outcomes) (filter is_commit outcomes))
        ≡ cond b 1 0 + length (filter is_commit outcomes)
    by_test true = omega arith
    by_test false = omega arith

one_more_line : (tries n : ℕ) → tries * (n + 1) ≡ tries * n + tries
one_more_line tries n = omega arith

lines_within : (first last tries : ℕ) (log : Option LogRefusal) (outcomes : List Outcome)
    (refused : List (List TryRefusal)) → AllCome first last tries log outcomes refused
    → length (filter is_commit outcomes) + lost_of_lines refused ≤ tries * length outcomes
lines_within first last tries log [] [] come = omega arith
lines_within first last tries log [] (refusals ∷ more) come = absurd come
lines_within first last tries log (outcome ∷ outcomes) [] come = absurd come
lines_within first last tries log (outcome ∷ outcomes) (refusals ∷ more) come =
    let rest = lines_within first last tries log outcomes more come.1 in
    let here = line_within first last tries log outcome refusals come.0 in
    let times = one_more_line tries (length outcomes) in
    omega (arith, rest, here, times, sum_by-cons lost_of_line refusals more, commits_in_line outcome outcomes)

tries_add : (tries m n : ℕ) → tries * (m + n) ≡ tries * m + tries * n
tries_add tries m n = omega arith

workers_within : (ran : Ran) (logs : List (Option LogRefusal)) (outcomes : List (List Outcome))
    (refused : List (List (List TryRefusal))) → WorkersCaused ran logs outcomes refused
    → commit_count outcomes + lost_of refused ≤ ran.beside.tries * sum_by length outcomes
workers_within ran [] [] [] caused = omega arith
workers_within ran [] [] (tried ∷ others) caused = absurd caused
workers_within ran [] (mine ∷ more) refused caused = absurd caused
workers_within ran (log ∷ logs) [] refused caused = absurd caused
workers_within ran (log ∷ logs) (mine ∷ more) [] caused = absurd caused
workers_within ran (log ∷ logs) (mine ∷ more) (tried ∷ others) caused =
    let rest = workers_within ran logs more others caused.2 in
    let here = lines_within ran.printed.begin.draw ran.printed.end.draw ran.beside.tries log mine tried caused.0 in
    let times = tries_add ran.beside.tries (length mine) (sum_by length more) in
    let whole : ran.beside.tries * sum_by length (mine ∷ more) ≡ ran.beside.tries * (length mine + sum_by length more) =
    ap (λ (n : ℕ). ran.beside.tries * n) (sum_by-cons length mine more) in
    omega (
      arith,
      rest,
      here,
      times,
      whole,
      sum_by-cons lost_of_lines tried others,
      sum_by-cons (λ (os : List Outcome). length (filter is_commit os)) mine more,
    )

-- So a round whose lines have their causes drew no more numbers than these have tries.
pub counted_within : (ran : Ran) → AllCaused ran → DrawsAreCounted ran → DrawsWithin ran.beside.tries ran
counted_within ran caused counted =
    omega (arith, counted, workers_within ran ran.beside.logs ran.printed.outcomes ran.beside.refused caused.outcomes)

-- ---- a round

commits-le : (outcomes : List Outcome) → length (filter is_commit outcomes) ≤ length outcomes
commits-le outcomes = omega (arith, length-filter is_commit outcomes, count_by-le-length is_commit outcomes)

-- a line of a worker was refused a number only where the draws are used up
of_worker_limited : (first last tries : ℕ) (log : Option LogRefusal) (outcomes : List Outcome)
    (refused : List (List TryRefusal)) → AllCome first last tries log outcomes refused
    → list_any is_limit outcomes ≡ true → draw_limit ≤ last
of_worker_limited first last tries log [] refused come is = absurd cc
of_worker_limited first last tries log (outcome ∷ outcomes) [] come is = absurd come
of_worker_limited first last tries log (Limit ∷ outcomes) (refusals ∷ refused) come is =
    let high = come.0.2 in let below = come.0.3 in omega (arith, high, below)
of_worker_limited first last tries log (Committed verdict number replies ∷ outcomes) (refusals ∷ refused) come is =
    of_worker_limited first last tries log outcomes refused come.1 is
of_worker_limited first last tries log (Conflict ∷ outcomes) (refusals ∷ refused) come is =
    of_worker_limited first last tries log outcomes refused come.1 is
of_worker_limited first last tries log (Full ∷ outcomes) (refusals ∷ refused) come is =
    of_worker_limited first last tries log outcomes refused come.1 is
of_worker_limited first last tries log (Wide ∷ outcomes) (refusals ∷ refused) come is =
    of_worker_limited first last tries log outcomes refused come.1 is
of_worker_limited first last tries log (Unrun ∷ outcomes) (refusals ∷ refused) come is =
    of_worker_limited first last tries log outcomes refused come.1 is

commit_count-cons : (mine : List Outcome) (more : List (List Outcome))
    → commit_count (mine ∷ more) ≡ length (filter is_commit mine) + commit_count more
commit_count-cons mine more = sum_by-cons (λ outcomes. length (filter is_commit outcomes)) mine more

-- a round has no more commits than outcomes
pub commit_count-le : (outcomes : List (List Outcome)) → commit_count outcomes ≤ sum_by length outcomes
commit_count-le [] = omega arith
commit_count-le (mine ∷ more) =
    omega (arith, commit_count-cons mine more, sum_by-cons length mine more, commits-le mine, commit_count-le more)

of_workers_limited : (ran : Ran) (logs : List (Option LogRefusal)) (outcomes : List (List Outcome))
    (refused : List (List (List TryRefusal))) → WorkersCaused ran logs outcomes refused
    → list_any (list_any is_limit) outcomes ≡ true → draw_limit ≤ ran.printed.end.draw
of_workers_limited ran [] [] [] caused is = absurd cc
of_workers_limited ran [] [] (mine ∷ refused) caused is = absurd caused
of_workers_limited ran [] (mine ∷ more) refused caused is = absurd caused
of_workers_limited ran (log ∷ logs) [] refused caused is = absurd caused
of_workers_limited ran (log ∷ logs) (mine ∷ more) [] caused is = absurd caused
of_workers_limited ran (log ∷ logs) (mine ∷ more) (tried ∷ refused) caused is =
    elim (one_of (list_any is_limit mine) (list_any (list_any is_limit) more) is) [
      | inl here ↦
          of_worker_limited ran.printed.begin.draw ran.printed.end.draw ran.beside.tries log mine tried caused.0 here
      | inr there ↦ of_workers_limited ran logs more refused caused.2 there
    ]
  where
    one_of : (a b : Bool) → (a || b) ≡ true → (a ≡ true) ⊎ (b ≡ true)
    one_of true b is = inl refl
    one_of false b is = inr is

-- A line of a round is refused a number only where the clock came to the last one.
pub limited_at_draws : (ran : Ran) → AllCaused ran → list_any (list_any is_limit) ran.printed.outcomes ≡ true
    → draw_limit ≤ ran.printed.end.draw
limited_at_draws ran caused is =
    of_workers_limited ran ran.beside.logs ran.printed.outcomes ran.beside.refused caused.outcomes is

total-one_for_each : (lines : List (List (List Op))) (outcomes : List (List Outcome))
    → OneForEach lines outcomes → sum_by length outcomes ≡ total lines
total-one_for_each [] [] each = refl
total-one_for_each [] (os ∷ more) each = absurd each
total-one_for_each (ls ∷ lines) [] each = absurd each
total-one_for_each (ls ∷ lines) (os ∷ more) each =
    omega (arith, each.0, sum_by-cons length os more, total-one_for_each lines more each.1)

-- a round has no more outcomes than lines
pub few_outcomes : (ran : Ran) (round : Round) → IsOfRound ran round
    → sum_by length ran.printed.outcomes ≤ length round.lines
few_outcomes ran round of =
    omega (arith, total-one_for_each (worker_lines round) ran.printed.outcomes of.outcomes, total-worker_lines round)

-- ---- the rounds of a script

-- how many lines the rounds have
abbrev pub lines_in : List Round → ℕ
lines_in [] = 0
lines_in (round ∷ rounds) = length round.lines + lines_in rounds

more_tries : (tries m n : ℕ) → m ≤ n → tries * m ≤ tries * n
more_tries tries m n le =
    let is : n ≡ m + (n - m) = omega (arith, le) in
    omega (arith, ap (λ x. tries * x) is, tries_add tries m (n - m))

-- what a round draws at most
within_lines : (tries : ℕ) (ran : Ran) (round : Round) → IsOfRound ran round → DrawsWithin tries ran
    → ran.printed.end.draw ≤ ran.printed.begin.draw + tries * length round.lines
within_lines tries ran round of within =
    omega (
      arith,
      within,
      more_tries tries (sum_by length ran.printed.outcomes) (length round.lines) (few_outcomes ran round of),
    )

-- the round doesn't come to the last draws
abbrev pub IsBelowDraws : Ran → Type 0
IsBelowDraws ran = ran.printed.end.draw < draw_limit

-- while there are numbers left for all tries of their lines, rounds don't come to the last draws
rounds_below : (tries index : ℕ) (clock : Number) (rans : List Ran) (rounds : List Round) → AreOfFirst rans rounds
    → RunsClocks index clock rans rounds → AllByRecursion (DrawsWithin tries) rans
    → clock.draw + tries * lines_in rounds < draw_limit → AllByRecursion IsBelowDraws rans
rounds_below tries index clock [] rounds of clocks within room = tt
rounds_below tries index clock (ran ∷ rans) [] of clocks within room = absurd of
rounds_below tries index clock (ran ∷ rans) (round ∷ rounds) of clocks within room =
    let begin : ran.printed.begin.draw ≡ clock.draw = ap (λ (n : Number). n.draw) clocks.0 in
    let drawn = within_lines tries ran round of.0 within.0 in
    let split = tries_add tries (length round.lines) (lines_in rounds) in (
      omega (arith, begin, drawn, split, room),
      rounds_below tries (index + 1) (joined ran.printed.end) rans rounds of.1 clocks.2 within.1
          (omega (arith, begin, drawn, split, room)),
    )

-- ---- a text has no more lines than bytes, and one

lines_in-append : (rounds more : List Round) → lines_in (rounds ++ more) ≡ lines_in rounds + lines_in more
lines_in-append [] more = omega arith
lines_in-append (round ∷ rounds) more = omega (arith, lines_in-append rounds more)

lines_in-joined : (joined : List Round) → lines_in joined ≤ length (joined_lines joined)
lines_in-joined [] = omega arith
lines_in-joined (round ∷ rounds) =
    let joins : length (joined_lines (round ∷ rounds)) ≡ length (map line_text round.lines) + length (codes "join"
    ∷ joined_lines rounds) =
    length-append (map line_text round.lines) (codes "join" ∷ joined_lines rounds) in
    omega (arith, length-map round.lines line_text, lines_in-joined rounds)

lines_in-last : (joined : List Round) (rest : List Line) → lines_in (last_round joined rest) ≤ length rest
lines_in-last [] rest = omega arith
lines_in-last (round ∷ rounds) [] = omega arith
lines_in-last (round ∷ rounds) (line ∷ rest) = omega arith

-- a text has no more lines than bytes, and one
length-lines_of : (bytes : Bytes) → length (lines_of bytes) ≤ length bytes + 1
length-lines_of bytes =
    let newline : ℕ → Bool = λ b. b == 10 in
    let some : Bytes → Bool = λ line. nat_lt 0 (length line) in
    omega (
      arith,
      length-filter some (slice_split newline bytes),
      count_by-le-length some (slice_split newline bytes),
      length-slice_split newline bytes,
      count_by-le-length newline bytes,
    )

-- A script's text has no more lines than the longest one has bytes, and one.
pub few_lines : (bytes : Bytes) (script : Script) → IsTextOf bytes script → lines_in script.rounds ≤ 67108865
few_lines bytes script text =
    let whole = ap length text.lines in
    omega (
      arith,
      text.size,
      length-lines_of bytes,
      whole,
      length-append (map decl_text script.decls) (joined_lines text.joined ++ map line_text text.rest),
      length-append (joined_lines text.joined) (map line_text text.rest),
      length-map text.rest line_text,
      ap lines_in text.rounds,
      lines_in-append text.joined (last_round text.joined text.rest),
      lines_in-joined text.joined,
      lines_in-last text.joined text.rest,
    )

-- With up to 16,383 tries of each line no round of a script comes to the last draws.
pub below_draws : (bytes : Bytes) (script : Script) (state : State) (saved tries : ℕ) (rans : List Ran) (t : State)
    → IsTextOf bytes script → IsScriptRun script state saved rans t → tries ≤ 16383
    → AllByRecursion (DrawsWithin tries) rans → AllByRecursion IsBelowDraws rans
below_draws bytes script state saved tries rans t text run few within =
    let lines = few_lines bytes script text in
    rounds_below tries 0 (clock_after saved) rans script.rounds run.lines run.clocks within
    (omega (arith, more_tries tries (lines_in script.rounds) 67108865 lines, few))
