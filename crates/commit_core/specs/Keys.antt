-- Tests on keys and numbers, what stands at keys from the start, and writes by their keys.
use Rattle.std.specs.Prelude.{◌≡◌, ◌⊎◌, ℕ, Bool, List, Option, None, is_some}
use Rattle.std.specs.List.{find}
use Rattle.std.specs.Option.{option_map}
use Rattle.serial_model.specs.declared.key.Key.{Key}
use Rattle.serial_model.specs.declared.number.Number.{Number}
use Rattle.serial_model.specs.declared.number.Change.{Change}
use Rattle.serial_model.specs.Numbers.{IsBelow}
use Rattle.homes.specs.declared.places.Content.{Content}
use Rattle.homes.specs.Homes.{look}
pub use Rattle.homes.specs.Homes.{same_key, same_number, has_key}

-- equal to a number, or below it
abbrev pub IsUpTo : Number → Number → Type 0
IsUpTo a b = (a ≡ b) ⊎ IsBelow a b

-- what a write of this value by the attempt with this number leaves
abbrev pub content_of : Number → Option ℕ → Content
content_of n value = record { number = n; value = value }

-- the number of what stands somewhere from the start
abbrev pub opening_number : Number
opening_number = record { epoch = 0; draw = 0 }

-- what stands at a key that nobody wrote
abbrev pub nothing : Content
nothing = content_of opening_number None

-- what stands at a key by a list of contents, of which the first of a key counts
abbrev pub content_at : List (Key × Content) → Key → Content
content_at contents k = look same_key nothing contents k

-- the value that the writes give a key, where they write it
abbrev pub written : Key → List Change → Option (Option ℕ)
written k writes = option_map (λ w. w.value) (find (λ w. same_key w.key k) writes)

-- the key is among those written
abbrev pub writes_key : List Change → Key → Bool
writes_key writes k = is_some (written k writes)
