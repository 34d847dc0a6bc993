-- The smallest key of a leaf from a key on.
use Rattle.std.specs.Prelude.{◌≡◌, ℕ, ◌<◌, ◌≤◌, nat_lt, if◌then◌else◌, List, Option, Some, None, slice_get}
use Rattle.serial_model.specs.declared.key.Key.{Key}
use Rattle.tree_scans.specs.declared.smallest.Place.{Place}

-- of the best one so far and this one, the one with the smaller key, where this one's isn't below the first key
abbrev pub smaller_of : Option Place → ℕ → Place → Option Place
smaller_of None from next = if nat_lt next.key from then None else Some next
smaller_of (Some best) from next =
    if nat_lt next.key from then Some best else (if nat_lt next.key best.key then Some next else Some best)

-- of these keys none is from the first one on, or this one is the smallest that is
abbrev pub IsSmallest : List Key → ℕ → Option Place → Type 0
IsSmallest keys from None = (i : ℕ) (q : Key) → slice_get keys i ≡ Some q → q.key < from
IsSmallest keys from (Some x) =
    ((q : Key) × (slice_get keys x.index ≡ Some q) × (q.key ≡ x.key)) × (from ≤ x.key)
    × ((i : ℕ) (q : Key) → slice_get keys i ≡ Some q → from ≤ q.key → x.key ≤ q.key)

-- so it is of the first of these keys, so many
abbrev pub IsLeast : List Key → ℕ → ℕ → Option Place → Type 0
IsLeast keys from many None = (i : ℕ) (q : Key) → i < many → slice_get keys i ≡ Some q → q.key < from
IsLeast keys from many (Some x) =
    ((q : Key) × (slice_get keys x.index ≡ Some q) × (q.key ≡ x.key)) × (from ≤ x.key)
    × ((i : ℕ) (q : Key) → i < many → slice_get keys i ≡ Some q → from ≤ q.key → x.key ≤ q.key)
