-- What is known of the last entries whatever the devices tell, and what they are in the order of their keys.
use Rattle.std.specs.Prelude.{◌≡◌, ℕ, ◌<◌, ◌≤◌, List, Some, IsTrue, map}
use Rattle.std.specs.FinMap.{get}
use Rattle.std.specs.List.{AllByRecursion, Contains}
use Rattle.serial_model.specs.Keys.{IsKeyBelow}
use Rattle.serial_model.specs.Numbers.{IsNumber}
use Rattle.serial_model.specs.declared.decl.Decl.{Decl}
use Rattle.serial_model.specs.declared.key.Key.{Key}
use Rattle.wire_form.specs.Items.{Rises}
use Rattle.wire_form.specs.LogFile.{has_place_for}
use Rattle.wire_form.specs.declared.bucket.Entry.{Entry}
use Rattle.recovery_core.specs.EntriesLast.{EntryMap, HasLast}

-- the entry is of one of the storages, and its number has an epoch above the one and at most the other
pub record MayCount (decls : List Decl) (from to : ℕ) (e : Entry) : Type 0 where
  pub place : IsTrue (has_place_for decls e.key e.value)
  pub number : IsNumber e.number
  pub above : from < e.number.epoch
  pub within : e.number.epoch ≤ to

-- what the map has at a key is an entry of that key
abbrev pub AreOfTheirKeys : EntryMap → Type 0
AreOfTheirKeys last = (key : Key) (e : Entry) → get last key ≡ Some e → e.key ≡ key

-- and one that may count
abbrev pub AllMayCount : List Decl → ℕ → ℕ → EntryMap → Type 0
AllMayCount decls from to last =
    (key : Key) (e : Entry) → get last key ≡ Some e → (e.key ≡ key) × MayCount decls from to e

-- the map has the last ones of some entries that may count
pub record AreLastOfSome (decls : List Decl) (from to : ℕ) (last : EntryMap) : Type 0 where
  pub all : List Entry
  pub lasts : HasLast last all
  pub each : AllByRecursion (MayCount decls from to) all

-- the key of an entry
abbrev pub key_of : Entry → Key
key_of e = e.key

-- the run has the entries of the map and no others, ascending by key
pub record IsRunOf (last : EntryMap) (run : List Entry) : Type 0 where
  pub rising : Rises IsKeyBelow (map key_of run)
  pub each : (e : Entry) → Contains run e → get last e.key ≡ Some e
  pub all : (key : Key) (e : Entry) → get last key ≡ Some e → Contains run e
