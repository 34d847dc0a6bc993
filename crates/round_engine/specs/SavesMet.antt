-- What a round's saves met of the workers' marks, as the engine has it.
use Rattle.std.proofs.Common.{◌∙◌, ap, arith, length-append, refl}
use Rattle.std.specs.Prelude.{◌≡◌, ◌≤◌, ◌+◌, ◌-◌, ◌*◌, ◌++◌, ℕ, zero, suc, List, [], ◌∷◌, length, map, ⊤}
use Rattle.std.proofs.lemmas.List.{length-map}
use Rattle.wire_form.specs.declared.clock.Mark.{Mark}
use Rattle.engine_pages.specs.declared.view.Met.{Met}
use Rattle.shared_rounds.specs.Below.{mets_of}

-- the marks of workers, list by list, as they are met, each at its place
abbrev pub all_met : List (List Mark) → List (List ℕ) → List Met
all_met [] places = []
all_met (marks ∷ seen) [] = []
all_met (marks ∷ seen) (these ∷ places) = mets_of 0 marks these ++ all_met seen places

-- places from the worker of this number on, of whom so many marks stood before, among those of the round
abbrev pub places_since : (ℕ → ℕ) → ℕ → List ℕ → List ℕ
places_since before worker [] = []
places_since before worker (place ∷ places) = (place - before worker) ∷ places_since before (worker + 1) places

-- each of them is one of the round
abbrev pub AreSince : (ℕ → ℕ) → ℕ → List ℕ → Type 0
AreSince before worker [] = ⊤
AreSince before worker (place ∷ places) = (before worker ≤ place) × AreSince before (worker + 1) places

-- list by list there are eight marks, each of them one of the round
abbrev pub AreEights : (ℕ → ℕ) → List (List Mark) → List (List ℕ) → Type 0
AreEights before [] [] = ⊤
AreEights before (marks ∷ seen) (these ∷ places) =
    (length marks ≡ 8) × (length these ≡ 8) × AreSince before 0 these × AreEights before seen places
AreEights before _ _ = ⊥

-- The round's saves met these marks, and nothing else was met: of each save that was run one mark of each of the eight
-- workers, in order, before those of the next one. Each stands at its place among all marks of its worker, so many of
-- which were before the round's; what is told is its place among those of the round.
pub record MetBySaves (old new : List Met) (told : List (List ℕ)) : Type 0 where
  pub before : ℕ → ℕ
  pub seen : List (List Mark)
  pub places : List (List ℕ)
  pub met : new ≡ old ++ all_met seen places
  pub eight : AreEights before seen places
  pub told_are : told ≡ map (places_since before 0) places

-- ---- none goes by the marks of another one

from_long : (worker n : ℕ) (marks : List Mark) (places : List ℕ) → length marks ≡ n → length places ≡ n
    → length (mets_of worker marks places) ≡ n
from_long worker n [] places long same = long
from_long worker n (mark ∷ marks) [] long same = absurd (omega (arith, long, same))
from_long worker zero (mark ∷ marks) (place ∷ places) long same = absurd (omega (arith, long))
from_long worker (suc n) (mark ∷ marks) (place ∷ places) long same =
    ap suc (from_long (worker + 1) n marks places (omega (arith, long)) (omega (arith, same)))

saves_long : (before : ℕ → ℕ) (seen : List (List Mark)) (places : List (List ℕ)) → AreEights before seen places
    → length (all_met seen places) ≡ 8 * length places
saves_long before [] [] eight = refl
saves_long before [] (these ∷ places) eight = absurd eight
saves_long before (marks ∷ seen) [] eight = absurd eight
saves_long before (marks ∷ seen) (these ∷ places) eight =
    let here = from_long 0 8 marks these eight.0 eight.1 in
    let rest = saves_long before seen places eight.3 in
    let long = length-append (mets_of 0 marks these) (all_met seen places) in
    omega (arith, here, rest, long)

-- Eight marks were loaded for each save that is told.
pub eight_each : (old new : List Met) (told : List (List ℕ)) → MetBySaves old new told
    → length new ≡ length old + 8 * length told
eight_each old new told m =
    let long = ap (λ (l : List Met). length l) m.met ∙ length-append old (all_met m.seen m.places) in
    let saves = saves_long m.before m.seen m.places m.eight in
    let many = ap (λ (l : List (List ℕ)). length l) m.told_are ∙ length-map m.places (places_since m.before 0) in
    omega (arith, long, saves, many)
