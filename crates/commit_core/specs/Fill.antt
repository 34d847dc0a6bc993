-- Filling a place of a page that nobody has got to yet. It is an act of no transaction.
use Rattle.std.specs.Prelude.{◌≡◌, ℕ, true, false, List, ◌∷◌, Some, slice_get, Contains, Result, Ok, Err}
use Rattle.serial_model.specs.declared.key.Key.{Key}
use Rattle.lists.specs.declared.memory.OrMemory.{OrMemory}
use Rattle.lists.specs.declared.memory.OrMemory.TheVariants.{Fault, Memory}
use Rattle.homes.specs.declared.places.Content.{Content}
use Rattle.homes.specs.declared.places.Holder.TheVariants.{Free}
use Rattle.homes.specs.declared.places.Spot.{Spot}
use Rattle.commit_core.specs.declared.event.NotAllowed.{NotAllowed}
use Rattle.commit_core.specs.declared.part.Word.TheVariants.{Record}
use Rattle.commit_core.specs.declared.part.Part.{Part}
use Rattle.commit_core.specs.declared.seat.Seat.{Seat}
use Rattle.commit_core.specs.declared.story.Story.{Story}
use Rattle.commit_core.specs.CoreState.{CoreState}
use Rattle.commit_core.specs.Places.{place}
use Rattle.commit_core.specs.Parts.{same_word}
use Rattle.commit_core.specs.Moves.{is_nobodys}
use Rattle.commit_core.specs.Sound.{IsSoundStory, IsSoundSeat}

-- the place has this content, unlocked
abbrev pub filled : Spot → Content → Story → Story
filled x c m = record m { places = (x, place c Free) ∷ m.places }

-- what is kept has no part of this place's record
abbrev pub NoneKept : Spot → List Part → Type 0
NoneKept x kept = (part : Part) → Contains kept part → same_word part.word (Record x) ≡ false

-- no seat keeps a part of this place's record
abbrev pub NobodyKeeps : CoreState → Spot → Type 0
NobodyKeeps c x = (p : ℕ) (s : Seat) → slice_get c.seats p ≡ Some s → NoneKept x s.kept

-- Where the place is nobody's home, the story stays sound, and so does each seat that keeps no part of its record.
pub record FillKeeps : Type 0 where
  pub story : (opening : List (Key × Content)) (m : Story) (x : Spot) (c : Content) → is_nobodys m.homes (Some x) ≡ true
      → IsSoundStory opening m → IsSoundStory opening (filled x c m)
  pub seat : (opening : List (Key × Content)) (m : Story) (x : Spot) (c : Content) (p : ℕ) (s : Seat)
      → is_nobodys m.homes (Some x) ≡ true → NoneKept x s.kept
      → IsSoundSeat opening m p s → IsSoundSeat opening (filled x c m) p s

-- what filling answers and leaves: it is refused exactly where the place is a key's home
abbrev pub AnswersFill : {X : Type 0} → CoreState → Spot → Content → Result X (OrMemory NotAllowed) → CoreState → Type 0
AnswersFill c x content (Ok y) d =
    (is_nobodys c.story.homes (Some x) ≡ true) × (d ≡ record c { story = filled x content c.story })
AnswersFill c x content (Err (Fault r)) d = (is_nobodys c.story.homes (Some x) ≡ false) × (d ≡ c)
AnswersFill c x content (Err Memory) d = (is_nobodys c.story.homes (Some x) ≡ true) × (d ≡ c)
