-- Where things stand, their tests, and moves of keys from one home to another.
use Rattle.std.specs.Prelude.{ℕ, ◌==◌, ◌&&◌, Bool, true, false, List, [], ◌∷◌, map, Option, None, Some, if◌then◌else◌, nat_le}
use Rattle.std.specs.List.{list_any}
use Rattle.serial_model.specs.declared.key.Key.{Key}
use Rattle.serial_model.specs.declared.number.Number.{Number}
use Rattle.homes.specs.declared.places.Content.{Content}
use Rattle.homes.specs.declared.places.Holder.{Holder}
use Rattle.homes.specs.declared.places.Holder.TheVariants.{Free, Held, Dead}
use Rattle.homes.specs.declared.places.Spot.{Spot}
use Rattle.homes.specs.declared.places.At.{At}
use Rattle.homes.specs.declared.places.At.TheVariants.{Root, In}
use Rattle.homes.specs.declared.places.Span.{Span}
use Rattle.homes.specs.declared.places.Home.{Home}
use Rattle.homes.specs.declared.places.Home.TheVariants.{InSlot, InPage, Nowhere}
use Rattle.homes.specs.declared.places.Move.{Move}

-- ---- tests

-- the two are one key
abbrev pub same_key : Key → Key → Bool
same_key a b = (a.storage == b.storage) && (a.key == b.key)

-- the two are one number
abbrev pub same_number : Number → Number → Bool
same_number a b = (a.epoch == b.epoch) && (a.draw == b.draw)

-- both are there and equal, or neither is there
abbrev pub same_value : Option ℕ → Option ℕ → Bool
same_value None None = true
same_value None (Some y) = false
same_value (Some x) None = false
same_value (Some x) (Some y) = x == y

-- the same number and the same value
abbrev pub same_content : Content → Content → Bool
same_content a b = (a.number.epoch == b.number.epoch) && ((a.number.draw == b.number.draw) && same_value a.value b.value)

-- the two are one place
abbrev pub same_spot : Spot → Spot → Bool
same_spot a b = (a.slot == b.slot) && (a.index == b.index)

-- the two pointers are one
abbrev pub same_at : At → At → Bool
same_at (Root a) (Root b) = a == b
same_at (Root a) (In y) = false
same_at (In x) (Root b) = false
same_at (In x) (In y) = same_spot x y

-- the two are one span
abbrev pub same_span : Span → Span → Bool
same_span a b = (a.storage == b.storage) && ((a.low == b.low) && (a.high == b.high))

-- the two are one home
abbrev pub same_home : Home → Home → Bool
same_home (InSlot x) (InSlot y) = same_spot x y
same_home (InSlot x) (InPage m e) = false
same_home (InSlot x) Nowhere = false
same_home (InPage n c) (InSlot y) = false
same_home (InPage n c) (InPage m e) = (n == m) && same_content c e
same_home (InPage n c) Nowhere = false
same_home Nowhere (InSlot y) = false
same_home Nowhere (InPage m e) = false
same_home Nowhere Nowhere = true

-- the key is in the list
abbrev pub has_key : List Key → Key → Bool
has_key keys k = list_any (λ q. same_key q k) keys

-- the key is in the span
abbrev pub in_span : Span → Key → Bool
in_span s k = (k.storage == s.storage) && (nat_le s.low k.key && nat_le k.key s.high)

-- nobody holds it
abbrev pub is_free : Holder → Bool
is_free Free = true
is_free (Held q) = false
is_free Dead = false

-- that seat holds it
abbrev pub holder_is : ℕ → Holder → Bool
holder_is p Free = false
holder_is p (Held q) = q == p
holder_is p Dead = false

-- ---- look-ups: the first entry of a key counts, so that a new value is one more entry in front

-- what the list has for a key, or else this
abbrev pub look : {K V : Type 0} → (K → K → Bool) → V → List (K × V) → K → V
look same d [] q = d
look same d (e ∷ more) q = if same e.0 q then e.1 else look same d more q

-- ---- moves

-- the homes after some moves
abbrev pub moved : List Move → (Key → Home) → Key → Home
moved [] homes k = homes k
moved (m ∷ more) homes k = if same_key m.key k then m.home else moved more homes k

-- each of the keys goes to the home that it is given
abbrev pub moves_to : (Key → Home) → List Key → List Move
moves_to to keys = map (λ k. record { key = k; home = to k }) keys
