-- What saves beside running workers see of their marks: of each worker one of those that it had, none before one that
-- an earlier save saw.
use Rattle.std.specs.Prelude.{◌≡◌, ◌≤◌, ℕ, List, [], ◌∷◌, Option, Some, None, slice_get, replicate, ⊤}

-- of each worker the mark that stands at this place among those that it had
abbrev pub AreAt : List (List (Option ℕ)) → List ℕ → List (Option ℕ) → Type 0
AreAt [] [] [] = ⊤
AreAt (mine ∷ marks) (place ∷ places) (mark ∷ seen) = (slice_get mine place ≡ Some mark) × AreAt marks places seen
AreAt _ _ _ = ⊥

-- no place is before that of the same worker
abbrev pub NoneBefore : List ℕ → List ℕ → Type 0
NoneBefore [] [] = ⊤
NoneBefore (place ∷ places) (other ∷ others) = (place ≤ other) × NoneBefore places others
NoneBefore _ _ = ⊥

-- from save to save the places never fall
abbrev pub NeverBack : List ℕ → List (List ℕ) → Type 0
NeverBack low [] = ⊤
NeverBack low (places ∷ more) = NoneBefore low places × NeverBack places more

-- the first places of eight workers
abbrev pub first_places : List ℕ
first_places = replicate 8 0

-- these epochs, none of them idle, never fall, from this one on
abbrev pub AreEpochs : ℕ → List (Option ℕ) → Type 0
AreEpochs low [] = ⊤
AreEpochs low (Some epoch ∷ more) = (low ≤ epoch) × AreEpochs epoch more
AreEpochs low (None ∷ more) = ⊥

-- The marks of a worker in a round: the one idle mark of a worker without lines, or epochs that never fall.
abbrev pub AreMarksInOrder : List (Option ℕ) → Type 0
AreMarksInOrder [] = ⊤
AreMarksInOrder (None ∷ more) = more ≡ []
AreMarksInOrder (Some epoch ∷ more) = AreEpochs epoch more

-- The one mark holds no epoch back that the other had left: it is idle as that one, or of no earlier epoch.
abbrev pub IsNoLess : Option ℕ → Option ℕ → Type 0
IsNoLess None None = ⊤
IsNoLess (Some e) (Some f) = e ≤ f
IsNoLess _ _ = ⊥

-- so it is with the marks of all workers
abbrev pub AreNoLess : List (Option ℕ) → List (Option ℕ) → Type 0
AreNoLess [] [] = ⊤
AreNoLess (mark ∷ marks) (other ∷ more) = IsNoLess mark other × AreNoLess marks more
AreNoLess _ _ = ⊥

-- the marks of each worker are in order
abbrev pub AllInOrder : List (List (Option ℕ)) → Type 0
AllInOrder [] = ⊤
AllInOrder (mine ∷ marks) = AreMarksInOrder mine × AllInOrder marks
