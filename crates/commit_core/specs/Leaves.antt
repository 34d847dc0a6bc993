-- What an act of one seat leaves alone.
use Rattle.std.specs.Prelude.{◌≡◌, ℕ, true, List, Some, slice_get}
use Rattle.serial_model.specs.declared.key.Key.{Key}
use Rattle.homes.specs.declared.places.Holder.TheVariants.{Dead}
use Rattle.homes.specs.declared.places.Spot.{Spot}
use Rattle.commit_core.specs.declared.place.Place.{Place}
use Rattle.commit_core.specs.declared.part.Word.{Word}
use Rattle.commit_core.specs.declared.attempt.Attempt.{Attempt}
use Rattle.commit_core.specs.declared.story.Story.{Story}
use Rattle.commit_core.specs.Keys.{IsUpTo}
use Rattle.commit_core.specs.Places.{place_of, home_of, stands, holder_is}
use Rattle.commit_core.specs.CoreState.{is_checked}
use Rattle.commit_core.specs.Opening.{Grows}

-- the number of no place has fallen
abbrev pub Rises : List (Spot × Place) → List (Spot × Place) → Type 0
Rises old new = (x : Spot) → IsUpTo (place_of old x).content.number (place_of new x).content.number

-- Seat 0 alone lets the epoch rise; places that are others' or dead, keys whose homes others hold, and the checks of
-- others' attempts stay.
pub record Only (p : ℕ) (m n : Story) : Type 0 where
  pub epoch : (p ≡ 0 → ⊥) → n.epoch ≡ m.epoch
  pub held : (x : Spot) (o : ℕ) → holder_is o (place_of m.places x).holder ≡ true → (o ≡ p → ⊥)
      → place_of n.places x ≡ place_of m.places x
  pub dead : (x : Spot) → (place_of m.places x).holder ≡ Dead → place_of n.places x ≡ place_of m.places x
  pub homes : (k : Key) (o : ℕ) → holder_is o (stands m.places m.homes k).holder ≡ true → (o ≡ p → ⊥)
      → home_of n.homes k ≡ home_of m.homes k
  pub checks : (i : ℕ) (a : Attempt) → slice_get m.history i ≡ Some a → (a.seat ≡ p → ⊥)
      → (w : Word) → is_checked n.checks a.number w ≡ is_checked m.checks a.number w

-- the story grows, numbers of places never fall, and what is others' stays
pub record Leaves (p : ℕ) (m n : Story) : Type 0 where
  pub grows : Grows m n
  pub rise : Rises m.places n.places
  pub only : Only p m n
