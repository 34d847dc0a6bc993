-- What the layer above tells, and when that is true. This machine doesn't know what words other than a record's are
-- now.
use Rattle.std.specs.Prelude.{◌≡◌, ℕ, true, List, [], ◌∷◌, Some, slice_get, ⊤, Contains}
use Rattle.serial_model.specs.declared.key.Key.{Key}
use Rattle.homes.specs.declared.places.Holder.TheVariants.{Free}
use Rattle.commit_core.specs.declared.place.Place.{Place}
use Rattle.commit_core.specs.declared.part.Part.{Part}
use Rattle.commit_core.specs.declared.attempt.Attempt.{Attempt}
use Rattle.commit_core.specs.declared.event.Act.{Act}
use Rattle.commit_core.specs.declared.event.Act.TheVariants.{See, Keep, Lock, Draw, Check as Look, Confirm, Decide, Put}
use Rattle.commit_core.specs.declared.event.Act.TheVariants.{Open, Forget, Rehome, Advance, Mark}
use Rattle.commit_core.specs.declared.event.Event.{Event}
use Rattle.commit_core.specs.declared.seat.Seat.{Seat}
use Rattle.commit_core.specs.declared.story.Story.{Story}
use Rattle.commit_core.specs.CoreState.{CoreState, attempt_tried}
use Rattle.commit_core.specs.Places.{stands, is_open_to}
use Rattle.commit_core.specs.Parts.{same_word, covers, found}
use Rattle.commit_core.specs.Event.{next}

-- the part has what stands now at each key that it vouches for, where nobody holds it
abbrev pub IsFreeNow : (Key → Place) → Part → Type 0
IsFreeNow st part = (k : Key) → covers part k ≡ true → ((st k).holder ≡ Free) × ((st k).content ≡ found part k)

-- the same where nobody but the seat holds it
abbrev pub IsSoNow : ℕ → (Key → Place) → Part → Type 0
IsSoNow p st part =
    (k : Key) → covers part k ≡ true → (is_open_to p (st k).holder ≡ true) × ((st k).content ≡ found part k)

-- What is told is true: a part that is kept is so now, and where a word is told to be as it was, the parts of this word
-- are so now.
abbrev pub IsToldTruly : ℕ → Story → Seat → Act → Type 0
IsToldTruly p m s (See k) = ⊤
IsToldTruly p m s (Keep part) = IsFreeNow (stands m.places m.homes) part
IsToldTruly p m s (Lock k) = ⊤
IsToldTruly p m s (Draw writes) = ⊤
IsToldTruly p m s (Look x) = ⊤
IsToldTruly p m s (Confirm w told) =
    told ≡ true → (a : Attempt) → attempt_tried m.history s.stage ≡ Some a → (part : Part) → Contains a.parts part
    → same_word part.word w ≡ true → IsSoNow p (stands m.places m.homes) part
IsToldTruly p m s Decide = ⊤
IsToldTruly p m s (Put k) = ⊤
IsToldTruly p m s (Open k) = ⊤
IsToldTruly p m s Forget = ⊤
IsToldTruly p m s (Rehome moves) = ⊤
IsToldTruly p m s Advance = ⊤
IsToldTruly p m s (Mark mark) = ⊤

-- the event tells what is true
abbrev pub TellsTruly : CoreState → Event → Type 0
TellsTruly c e = (s : Seat) → slice_get c.seats e.seat ≡ Some s → IsToldTruly e.seat c.story s e.act

-- each of the events does, when it comes
abbrev pub AllTellTruly : CoreState → List Event → Type 0
AllTellTruly c [] = ⊤
AllTellTruly c (e ∷ more) = TellsTruly c e × AllTellTruly (next c e) more
