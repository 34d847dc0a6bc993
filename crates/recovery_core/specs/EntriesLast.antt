-- A finite map that has the last entry of each key, and what it makes of a state.
use Rattle.std.specs.Prelude.{◌≡◌, ℕ, Bool, true, List, ◌++◌, Option, Some, None, cond, refl}
use Rattle.std.specs.Coded.{Coded, code_by, coded×, coded_ℕ, coded_option}
use Rattle.std.specs.FinMap.{FinMap, get}
use Rattle.std.specs.List.{flat_map}
use Rattle.std.specs.Ordering.{eq_by_cmp}
use Rattle.serial_model.specs.Keys.{key_cmp, coded_key}
use Rattle.serial_model.specs.Numbers.{is_below}
use Rattle.serial_model.specs.State.{State}
use Rattle.serial_model.specs.declared.key.Key.{Key}
use Rattle.wire_form.specs.declared.bucket.Bucket.{Bucket}
use Rattle.wire_form.specs.declared.bucket.Entry.{Entry}
use Rattle.recovery_core.specs.LogEntries.{last_of}
use Rattle.recovery_core.specs.Recoverable.{value_over}

-- a finite map from keys to entries
abbrev pub EntryMap : Type 0
EntryMap = FinMap key_cmp Entry

-- an entry as its key, the two parts of its number, and its value
abbrev pub coded_entry : Coded Entry
coded_entry =
    code_by (Key × ((ℕ × ℕ) × Option ℕ)) (coded× coded_key (coded× (coded× coded_ℕ coded_ℕ) (coded_option coded_ℕ)))
    (λ e. (e.key, ((e.number.epoch, e.number.draw), e.value)))
    (λ p. record { key = p.0; number = record { epoch = p.1.0.0; draw = p.1.0.1 }; value = p.1.1 }) (λ _. refl)

-- at each key the map has the last one of the key's entries, where there is one
abbrev pub HasLast : EntryMap → List Entry → Type 0
HasLast last entries = (key : Key) → get last key ≡ last_of key entries

-- the map had the last entries of some, and now it has those of them with more behind them
abbrev pub TakesIn : EntryMap → EntryMap → List Entry → Type 0
TakesIn old new more = (so_far : List Entry) → HasLast old so_far → HasLast new (so_far ++ more)

-- an entry comes after an earlier one, if there is one
abbrev pub is_later : Option Entry → Entry → Bool
is_later None e = true
is_later (Some f) e = is_below f.number e.number

-- the entries of a bucket
abbrev pub entries_in : Bucket → List Entry
entries_in b = b.entries

-- the entries of buckets, one bucket after another
abbrev pub all_entries : List Bucket → List Entry
all_entries buckets = flat_map entries_in buckets

-- the key has this value or none, and each other key is as it was
abbrev pub PutsAt : Key → Option ℕ → State → State → Type 0
PutsAt key value old new = (other : Key) → get new other ≡ cond (eq_by_cmp key_cmp other key) value (get old other)

-- each key is as its entry says, and one without an entry is as it was
abbrev pub PutsLast : EntryMap → State → State → Type 0
PutsLast last old new = (key : Key) → get new key ≡ value_over (get last key) (get old key)
