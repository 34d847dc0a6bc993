-- A law: a run has no more commits than its script has lines, so where these are few none is ever too many to count.
use Rattle.std.specs.Prelude.{ℕ, ◌+◌, ◌<◌, ◌≤◌, ◌^◌, List, [], ◌∷◌, ◌++◌, length, sum_by}
use Rattle.std.proofs.Common.{arith}
use Rattle.std.proofs.lemmas.List.Sums.{sum_by-cons}
use Rattle.script_grammar.specs.Script.{Round}
use Rattle.tx_script.specs.Draws.{commit_count, commit_count-le, few_outcomes, lines_in}
use Rattle.tx_script.specs.Run.{AreOfFirst, Ran}
use Rattle.brief_output.specs.Brief.{commits_in, tally_of}

-- the commits of some rounds and the outcomes of the next one
counted-le : (rans : List Ran) (ran : Ran) (rounds : List Round) → AreOfFirst (rans ++ ran ∷ []) rounds
    → commits_in rans + sum_by length ran.printed.outcomes ≤ lines_in rounds
counted-le [] ran [] of = absurd of
counted-le [] ran (round ∷ rounds) of = omega (arith, few_outcomes ran round of.0)
counted-le (first ∷ rans) ran [] of = absurd of
counted-le (first ∷ rans) ran (round ∷ rounds) of =
    omega (
      arith,
      sum_by-cons (λ (r : Ran). commit_count r.printed.outcomes) first rans,
      commit_count-le first.printed.outcomes,
      few_outcomes first round of.0,
      counted-le rans ran rounds of.1,
    )

-- the commits of the first rounds, and those of the next one too
pub tally_fits : (rounds : List Round) (rans : List Ran) (ran : Ran) → lines_in rounds < 2 ^ 64
    → AreOfFirst (rans ++ ran ∷ []) rounds → (tally_of rans).commits + sum_by length ran.printed.outcomes < 2 ^ 64
tally_fits rounds rans ran few of = omega (arith, few, counted-le rans ran rounds of)
