-- A list of moves of keys from one home to another: its condition, and what it leaves. All moves are made at once.
use Rattle.std.specs.Prelude.{◌≡◌, ◌⊎◌, ℕ, ◌&&◌, ◌||◌, Bool, true, false, not, List, [], ◌∷◌, ◌++◌, map, Option, Some}
use Rattle.std.specs.Prelude.{None, if◌then◌else◌, is_none}
use Rattle.std.specs.List.{list_any, list_all}
use Rattle.serial_model.specs.declared.key.Key.{Key}
use Rattle.serial_model.specs.declared.number.Number.{Number}
use Rattle.serial_model.specs.Numbers.{is_below}
use Rattle.homes.specs.declared.places.Content.{Content}
use Rattle.homes.specs.declared.places.Holder.{Holder}
use Rattle.homes.specs.declared.places.Holder.TheVariants.{Free, Dead}
use Rattle.homes.specs.declared.places.Spot.{Spot}
use Rattle.homes.specs.declared.places.Home.{Home}
use Rattle.homes.specs.declared.places.Move.{Move}
use Rattle.homes.specs.Homes.{same_spot, same_content}
use Rattle.commit_core.specs.declared.place.Place.{Place}
use Rattle.commit_core.specs.declared.attempt.Attempt.{Attempt}
use Rattle.commit_core.specs.declared.story.Story.{Story}
use Rattle.commit_core.specs.Keys.{same_key, nothing, IsUpTo}
use Rattle.commit_core.specs.Places.{place, stands_at, stands, spot_of, spot_at, is_free, holder_is}
use Rattle.commit_core.specs.CoreState.{is_in_progress}

-- ---- what an absence may lose

-- an absence with a number that is at most the horizon
pub record IsLost (horizon : Number) (c : Content) : Type 0 where
  pub absent : c.value ≡ None
  pub past : IsUpTo c.number horizon

-- the content stands for that one: it is the same, or nothing where that is an absence whose number is lost
abbrev pub Shows : Number → Content → Content → Type 0
Shows horizon c d = (c ≡ d) ⊎ ((c ≡ nothing) × IsLost horizon d)

-- ---- conditions

-- one of the moves is of this key
abbrev pub moves_key : List Move → Key → Bool
moves_key moves k = list_any (λ v. same_key v.key k) moves

-- the place is the home
abbrev pub is_spot : Spot → Option Spot → Bool
is_spot x None = false
is_spot x (Some y) = same_spot x y

-- one of the moves is to this place
abbrev pub moves_to_spot : List Move → Option Spot → Bool
moves_to_spot moves None = false
moves_to_spot moves (Some x) = list_any (λ v. is_spot x (spot_of v.home)) moves

-- no key is moved twice, and no two keys are moved to one place
abbrev pub are_apart : List Move → Bool
are_apart [] = true
are_apart (v ∷ more) =
    not (moves_key more v.key) && (not (moves_to_spot more (spot_of v.home)) && are_apart more)

-- the place is no key's home
abbrev pub is_nobodys : List (Key × Home) → Option Spot → Bool
is_nobodys homes None = true
is_nobodys homes (Some x) = list_all (λ e. not (is_spot x (spot_at homes e.0))) homes

-- nobody holds it, or a seat that may begin does
abbrev pub is_movable : ℕ → Bool → Holder → Bool
is_movable p begins h = is_free h || (holder_is p h && begins)

-- each attempt in progress has a number above this one
abbrev pub is_below_all : List Attempt → List Number → List Number → Number → Bool
is_below_all history decided given_up n =
    list_all (λ a. not (is_in_progress decided given_up a.number) || is_below n a.number) history

-- this content may go for that one: it is the same, or nothing where that is an absence that is older than each attempt
-- in progress
abbrev pub may_go_for : Story → Content → Content → Bool
may_go_for m new old =
    same_content new old
    || (same_content new nothing && (is_none old.value && is_below_all m.history m.decided m.given_up old.number))

-- the key may go there
abbrev pub can_move : ℕ → Bool → Story → Move → Bool
can_move p begins m v =
    is_movable p begins (stands m.places m.homes v.key).holder
    && (is_free (stands_at m.places v.home).holder
    && (is_nobodys m.homes (spot_of v.home)
    && may_go_for m (stands_at m.places v.home).content (stands m.places m.homes v.key).content))

-- seat p may make the moves, where it may begin or not
abbrev pub can_rehome : ℕ → Bool → Story → List Move → Bool
can_rehome p begins m moves = are_apart moves && list_all (can_move p begins m) moves

-- ---- effects

-- one of the moves is away from this place
abbrev pub is_left : List Move → List (Key × Home) → Spot → Bool
is_left moves homes x = list_any (λ v. is_spot x (spot_at homes v.key)) moves

-- what stands in a place, or that it is dead where a key leaves it
abbrev pub buried_entry : List Move → List (Key × Home) → Spot × Place → Spot × Place
buried_entry moves homes e = if is_left moves homes e.0 then (e.0, place (e.1).content Dead) else e

-- the places, where those that keys leave are dead
abbrev pub buried : List Move → List (Key × Home) → List (Spot × Place) → List (Spot × Place)
buried moves homes places = map (λ e. buried_entry moves homes e) places

-- the homes, where keys that move have their new ones
abbrev pub rehomed : List Move → List (Key × Home) → List (Key × Home)
rehomed moves homes = map (λ v. (v.key, v.home)) moves ++ homes

-- the later one of two numbers
abbrev pub later : Number → Number → Number
later a b = if is_below a b then b else a

-- the horizon once this content has gone for that one
abbrev pub horizon_over : Number → Content → Content → Number
horizon_over horizon new old = if same_content new old then horizon else later horizon old.number

-- the horizon once the move is made
abbrev pub horizon_by : Number → List (Spot × Place) → List (Key × Home) → Move → Number
horizon_by horizon places homes v =
    horizon_over horizon (stands_at places v.home).content (stands places homes v.key).content

-- the horizon after the moves: at or above the number of each absence that was lost
abbrev pub horizon_after : Number → List (Spot × Place) → List (Key × Home) → List Move → Number
horizon_after horizon places homes [] = horizon
horizon_after horizon places homes (v ∷ more) =
    horizon_after (horizon_by horizon places homes v) places homes more

-- the story after the moves
abbrev pub with_moves : Story → List Move → Story
with_moves m moves = record m {
  places = buried moves m.homes m.places;
  homes = rehomed moves m.homes;
  horizon = horizon_after m.horizon m.places m.homes moves;
}

-- ---- what a list of moves is, to the parts that know of places and homes what stands at each key

-- a key that moves: its home was free, or held by the seat, which may begin; its new one is free, and shows the same
pub record MovedAt (p : ℕ) (begins : Bool) (horizon : Number) (st st' : Key → Place) (k : Key) : Type 0 where
  pub was : ((st k).holder ≡ Free) ⊎ ((holder_is p (st k).holder ≡ true) × (begins ≡ true))
  pub now : (st' k).holder ≡ Free
  pub same : Shows horizon (st' k).content (st k).content

-- the keys of the moves move, and at the others stands what stood there
pub record Moves (p : ℕ) (begins : Bool) (horizon : Number) (moves : List Move) (st st' : Key → Place) : Type 0 where
  pub moved : (k : Key) → moves_key moves k ≡ true → MovedAt p begins horizon st st' k
  pub others : (k : Key) → moves_key moves k ≡ false → st' k ≡ st k
