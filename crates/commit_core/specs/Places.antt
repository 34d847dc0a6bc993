-- What stands in places, and by the homes of keys at keys.
use Rattle.std.specs.Prelude.{ℕ, ◌==◌, Bool, true, false, List, map, Option, Some, None, if◌then◌else◌}
use Rattle.serial_model.specs.declared.key.Key.{Key}
use Rattle.homes.specs.declared.places.Content.{Content}
use Rattle.homes.specs.declared.places.Holder.{Holder}
use Rattle.homes.specs.declared.places.Holder.TheVariants.{Free, Held, Dead}
use Rattle.homes.specs.declared.places.Spot.{Spot}
use Rattle.homes.specs.declared.places.Home.{Home}
use Rattle.homes.specs.declared.places.Home.TheVariants.{InSlot, InPage, Nowhere}
use Rattle.commit_core.specs.declared.place.Place.{Place}
use Rattle.commit_core.specs.Keys.{same_key, nothing}
use Rattle.homes.specs.Homes.{look, same_spot}
pub use Rattle.homes.specs.Homes.{is_free, holder_is}

-- this content, held so
abbrev pub place : Content → Holder → Place
place c h = record { content = c; holder = h }

-- a place that was never filled: nobody can lock it or find it as it was read
abbrev pub vacant : Place
vacant = place nothing Dead

-- what stands in a place; of equal places the first entry counts
abbrev pub place_of : List (Spot × Place) → Spot → Place
place_of places x = look same_spot vacant places x

-- where the record of a key is; of equal keys the first entry counts
abbrev pub home_of : List (Key × Home) → Key → Home
home_of homes k = look same_key Nowhere homes k

-- what stands at a home: an entry of a snapshot page never changes, and nobody can lock it
abbrev pub stands_at : List (Spot × Place) → Home → Place
stands_at places (InSlot x) = place_of places x
stands_at places (InPage n c) = place c Free
stands_at places Nowhere = place nothing Free

-- what stands at a key
abbrev pub stands : List (Spot × Place) → List (Key × Home) → Key → Place
stands places homes k = stands_at places (home_of homes k)

-- the place that is the home, where one is
abbrev pub spot_of : Home → Option Spot
spot_of (InSlot x) = Some x
spot_of (InPage n c) = None
spot_of Nowhere = None

-- the place that is the key's home, where one is
abbrev pub spot_at : List (Key × Home) → Key → Option Spot
spot_at homes k = spot_of (home_of homes k)

-- the places, where this one has something new
abbrev pub placed : List (Spot × Place) → Spot → Place → List (Spot × Place)
placed places x new = map (λ e. if same_spot e.0 x then (e.0, new) else e) places

-- there is such a place, and nobody holds it
abbrev pub is_free_at : List (Spot × Place) → Option Spot → Bool
is_free_at places None = false
is_free_at places (Some x) = is_free (place_of places x).holder

-- there is such a place, and this seat holds it
abbrev pub is_held_at : ℕ → List (Spot × Place) → Option Spot → Bool
is_held_at p places None = false
is_held_at p places (Some x) = holder_is p (place_of places x).holder

-- nobody holds it, or this seat does
abbrev pub is_open_to : ℕ → Holder → Bool
is_open_to p Free = true
is_open_to p (Held q) = q == p
is_open_to p Dead = false
