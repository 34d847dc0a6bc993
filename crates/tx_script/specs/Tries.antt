-- What comes of a line that may be tried several times, and what refused its tries.
use Rattle.std.specs.Prelude.{◌≡◌, ◌<◌, ◌≤◌, ◌%◌, ◌^◌, ◌++◌, ℕ, Bool, true, false, List, [], ◌∷◌, length, Option}
use Rattle.std.specs.Prelude.{is_some, ⊤}
use Rattle.std.specs.List.{AllByRecursion}
use Rattle.serial_model.specs.Numbers.{draw_limit}
use Rattle.tx_script.specs.declared.outcome.Outcome.{Outcome}
use Rattle.tx_script.specs.declared.outcome.Outcome.TheVariants.{Committed, Conflict, Full, Limit, Unrun, Wide}
use Rattle.tx_script.specs.Run.{FullSet, LogRefusal, TryRefusal, InConflict, NoNumber, NoRoom, NoSlot}

-- the refusal is a conflict
abbrev pub is_conflict : TryRefusal → Bool
is_conflict (InConflict met) = true
is_conflict (NoSlot words) = false
is_conflict (NoRoom set) = false
is_conflict (NoNumber clock) = false

-- each try was refused with a conflict
abbrev pub AreConflicts : List TryRefusal → Type 0
AreConflicts refusals = AllByRecursion (λ refusal. is_conflict refusal ≡ true) refusals

-- Of a line's tries each was refused with a conflict, but for the last one, which was refused so. A conflict alone is
-- tried again.
pub record EndsWith (tries : ℕ) (last : TryRefusal) (refusals : List TryRefusal) : Type 0 where
  pub before : List TryRefusal
  pub all : refusals ≡ before ++ last ∷ []
  pub conflicts : AreConflicts before
  pub fewer : length before < tries

-- What comes of a line that has so many tries, with these refusals of them. The clock stands at the first of these
-- draws in front of the round's lines, and at the last one behind them; and so its worker's log was refused, if it was.
-- A line that begins finds draws left. It commits before its tries are used up; one in conflict was refused at each of
-- them; one that is full, wide, or refused a number was refused so at its last try, and in conflict at those before;
-- where it was refused a number the clock's word had no draw left, and the clock never goes back; one that was left
-- out has no try.
abbrev pub ComesTo : ℕ → ℕ → ℕ → Option LogRefusal → Outcome → List TryRefusal → Type 0
ComesTo first last tries log (Committed verdict number replies) refusals =
    (first < draw_limit) × (number.draw < 2 ^ 40) × AreConflicts refusals × (length refusals < tries)
ComesTo first last tries log Conflict refusals =
    (first < draw_limit) × AreConflicts refusals × (length refusals ≡ tries)
ComesTo first last tries log Full refusals =
    (first < draw_limit) × (words : List ℕ) × EndsWith tries (NoSlot words) refusals
ComesTo first last tries log Wide refusals =
    (first < draw_limit) × (set : FullSet) × EndsWith tries (NoRoom set) refusals
ComesTo first last tries log Limit refusals =
    (clock : ℕ) × EndsWith tries (NoNumber clock) refusals × (draw_limit ≤ clock % 2 ^ 40) × (clock % 2 ^ 40 ≤ last)
ComesTo first last tries log Unrun refusals = (refusals ≡ []) × (is_some log ≡ true)

-- and of lines
abbrev pub AllCome : ℕ → ℕ → ℕ → Option LogRefusal → List Outcome → List (List TryRefusal) → Type 0
AllCome first last tries log [] [] = ⊤
AllCome first last tries log (outcome ∷ outcomes) (refusals ∷ more) =
    ComesTo first last tries log outcome refusals × AllCome first last tries log outcomes more
AllCome first last tries log [] (refusals ∷ more) = ⊥
AllCome first last tries log (outcome ∷ outcomes) [] = ⊥
