-- What the pages that a storage's root leads to put into a state.
use Rattle.std.specs.Prelude.{◌≡◌, ℕ, ◌+◌, ◌==◌, ◌&&◌, Bool, List, Option, Some, None, cond, nat_le, nat_lt}
use Rattle.std.specs.List.{AllByRecursion}
use Rattle.std.specs.FinMap.{get}
use Rattle.serial_model.specs.Keys.{id_of}
use Rattle.serial_model.specs.State.{State}
use Rattle.serial_model.specs.declared.key.Key.{Key}
use Rattle.wire_form.specs.declared.records.Stored.{Stored}
use Rattle.snapshot_store.specs.declared.place.PagePlace.{PagePlace}
use Rattle.snapshot_store.specs.Places.{Found, Format, at_key, find, Cover, StandsTo}
use Rattle.snapshot_store.specs.ArrayPages.{array_look}
use Rattle.snapshot_store.specs.TreePages.{Record, record_for}
use Rattle.snapshot_store.specs.Content.{record_in}
use Rattle.recovery_core.specs.SnapshotPages.{RootStandsUpTo}
use Rattle.recovery_core.specs.Damage.{FirstBad, BreaksTo}

-- a record by its parts
abbrev pub found_of : ℕ → ℕ → Found
found_of number value = record { number = number; value = value }

-- a record that was found replaces a value
abbrev pub put_over : Option Found → Option ℕ → Option ℕ
put_over None old = old
put_over (Some found) old = Some found.value

-- the state has at each key the record that was found, or what it had
pub record Puts (found : Key → Option Found) (old new : State) : Type 0 where
  pub values : (key : Key) → get new key ≡ put_over (found key) (get old key)

-- a record of one key alone
abbrev pub only_at : Key → Option Found → Key → Option Found
only_at at found key = cond ((key.storage == at.storage) && (key.key == at.key)) found None

-- the key is one of a storage, from one on and before another
abbrev pub is_from : ℕ → ℕ → ℕ → Key → Bool
is_from id low end key = (key.storage == id) && (nat_le low key.key && nat_lt key.key end)

-- the records of an array's leaf, from its first index on and before another
abbrev pub array_records : List ℕ → ℕ → ℕ → ℕ → Key → Option Found
array_records words id low end key = cond (is_from id low end key) (array_look words low key.key) None

-- the records of a tree's leaf
abbrev pub tree_records : List Record → ℕ → Key → Option Found
tree_records records id key = cond (key.storage == id) (record_for records key.key) None

-- what is found of a storage at a place, so many pages down
abbrev pub found_at : Format → List (List ℕ) → ℕ → ℕ → PagePlace → Key → Option Found
found_at F pages d id p key = cond (is_from id p.low (p.high + 1) key) (find F pages d key.key p) None

-- and at places in a row, from one key to another
abbrev pub found_among : Format → List (List ℕ) → ℕ → ℕ → ℕ → ℕ → List PagePlace → Key → Option Found
found_among F pages d id low high qs key = cond (is_from id low (high + 1) key)
    (at_key key.key (find F pages d key.key) qs) None

-- the records of a storage
abbrev pub root_records : List (List ℕ) → Stored → Key → Option Found
root_records pages s key = cond (key.storage == id_of s.decl) (record_in pages s key.key) None

-- a place stands, and its records were put
pub record Gathered (F : Format) (Is : PagePlace → List ℕ → Type 0) (pages : List (List ℕ)) (d id : ℕ) (p : PagePlace)
    (old new : State) : Type 0 where
  pub stands : StandsTo F Is pages d p
  pub puts : Puts (found_at F pages d id p) old new

-- A storage's root stands, and its records were put.
pub record RootGathered (pages : List (List ℕ)) (epoch : ℕ) (s : Stored) (old new : State) : Type 0 where
  pub stands : RootStandsUpTo epoch pages s
  pub puts : Puts (root_records pages s) old new

-- Of the places below a page those before some were gathered: all is right where the rest is, and so on.
pub record Gathers (F : Format) (Is : PagePlace → List ℕ → Type 0) (pages : List (List ℕ)) (d id low high : ℕ)
    (all : List PagePlace) (old : State) (at : ℕ) (rest : List PagePlace) (now : State) : Type 0 where
  pub tiles : Cover at high rest
  pub stands : AllByRecursion (StandsTo F Is pages d) rest → AllByRecursion (StandsTo F Is pages d) all
  pub breaks : (n : ℕ) → FirstBad (StandsTo F Is pages d) (BreaksTo F Is pages n d) rest
      → FirstBad (StandsTo F Is pages d) (BreaksTo F Is pages n d) all
  pub values : (key : Key)
      → put_over (found_among F pages d id at high rest key) (get now key)
      ≡ put_over (found_among F pages d id low high all key) (get old key)
