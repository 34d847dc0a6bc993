-- What a worker had loaded before each of its lines, and the mark that held its epochs back then.
use Rattle.std.specs.Prelude.{◌≡◌, ◌≤◌, ◌+◌, ◌∷◌, ℕ, List, [], Option, Some, slice_get, false, true, ⊤}
use Rattle.std.specs.List.{AllByRecursion}
use Rattle.tx_script.specs.Causes.{is_unrun}
pub use Rattle.tx_script.specs.Run.{Readied}
use Rattle.tx_script.specs.declared.outcome.Outcome.{Outcome}
use Rattle.tx_script.specs.declared.outcome.Outcome.TheVariants.{Committed}

-- a commit has the epoch that was loaded before its line, or a later one
abbrev pub DrewSince : ℕ → Outcome → Type 0
DrewSince epoch (Committed verdict number replies) = epoch ≤ number.epoch
DrewSince epoch _ = ⊤

-- The epoch that a line leaves, for which this one was loaded before it: that of its commit, and else the one that was
-- loaded. None that is loaded later is below it.
abbrev pub epoch_behind : ℕ → Outcome → ℕ
epoch_behind epoch (Committed verdict number replies) = number.epoch
epoch_behind epoch _ = epoch

-- a line that was run began so: its worker's mark was at least the clock's epoch that it had loaded, less 1
pub record BeganAt (marks : List (Option ℕ)) (r : Readied) (o : Outcome) : Type 0 where
  pub ran : is_unrun o ≡ false
  pub mark : ℕ
  pub stood : slice_get marks r.place ≡ Some (Some mark)
  pub late : r.epoch ≤ mark + 1
  pub drew : DrewSince r.epoch o

-- Each line that was run began so, at an epoch that is none below what the lines before it left, from this one on, and
-- at a place that is none before theirs. So a worker whose commits come to later epochs had later marks. Behind the last
-- line none was run.
abbrev pub AreReadied : ℕ → ℕ → List (Option ℕ) → List Readied → List Outcome → Type 0
AreReadied low place marks [] outcomes = AllByRecursion (λ o. is_unrun o ≡ true) outcomes
AreReadied low place marks (r ∷ more) [] = ⊥
AreReadied low place marks (r ∷ more) (o ∷ outcomes) =
    (low ≤ r.epoch) × (place ≤ r.place) × BeganAt marks r o
    × AreReadied (epoch_behind r.epoch o) r.place marks more outcomes

-- the same of lines that were all run, up to an epoch and a place
abbrev pub ReadiedUpTo : ℕ → ℕ → List (Option ℕ) → List Readied → List Outcome → ℕ → ℕ → Type 0
ReadiedUpTo low place marks [] [] high last = (low ≤ high) × (place ≤ last)
ReadiedUpTo low place marks (r ∷ more) (o ∷ outcomes) high last =
    (low ≤ r.epoch) × (place ≤ r.place) × BeganAt marks r o
    × ReadiedUpTo (epoch_behind r.epoch o) r.place marks more outcomes high last
ReadiedUpTo low place marks _ _ high last = ⊥

-- and of all workers, from this epoch on
abbrev pub AllReadied : ℕ → List (List (Option ℕ)) → List (List Readied) → List (List Outcome) → Type 0
AllReadied low [] [] [] = ⊤
AllReadied low (marks ∷ others) (readied ∷ more) (outcomes ∷ rest) =
    AreReadied low 0 marks readied outcomes × AllReadied low others more rest
AllReadied low _ _ _ = ⊥
