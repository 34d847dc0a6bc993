-- What the last entries of a storage make of the records that are there.
use Rattle.std.specs.Prelude.{ℕ, ◌==◌, ◌&&◌, Bool, List, [], ◌∷◌, Option, Some, None, if◌then◌else◌, nat_le}
use Rattle.std.specs.List.{list_any}
use Rattle.snapshot_store.specs.Places.{Found}
use Rattle.root_composer.specs.declared.last.Last.{Last}

-- the entry of a key, where the run has one
abbrev pub entry_for : List Last → ℕ → Option Last
entry_for [] key = None
entry_for (e ∷ es) key = if e.key == key then Some e else entry_for es key

-- whether a key lies in a range
abbrev pub is_between : ℕ → ℕ → ℕ → Bool
is_between low high key = nat_le low key && nat_le key high

-- whether the run has an entry in a range
abbrev pub touches : List Last → ℕ → ℕ → Bool
touches run low high = list_any (λ e. is_between low high e.key) run

-- what an entry makes of a key: a put makes a record, a removal none
abbrev pub put_or_removed : ℕ → Option ℕ → Option Found
put_or_removed number (Some v) = Some (record { number = number; value = v })
put_or_removed number None = None

-- a record under the entry of its key, where there is one
abbrev pub overlaid : Option Found → Option Last → Option Found
overlaid old None = old
overlaid old (Some e) = put_or_removed e.number e.value
