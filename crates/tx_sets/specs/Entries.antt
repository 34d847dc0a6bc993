-- What the sets of a transaction have, and what a call leaves of them.
use Rattle.std.specs.Prelude.{◌≡◌, ◌↔◌, ℕ, ◌+◌, ◌<◌, ◌==◌, ◌%◌, ◌*◌, ◌/◌, ◌&&◌, Bool, true, false, List, []}
use Rattle.std.specs.Prelude.{◌∷◌, ◌++◌, map, length, Option, Result, IsOk, OnOk, OnErr, IfErr, get_or, nat_le, nat_lt}
use Rattle.std.specs.Prelude.{if◌then◌else◌}
use Rattle.std.specs.List.{AllByRecursion, find, list_any}
use Rattle.std.specs.Option.{option_map}
use Rattle.serial_model.specs.declared.key.Key.{Key}
use Rattle.serial_model.specs.Keys.{IsKeyBelow}
use Rattle.homes.specs.Homes.{same_key}
use Rattle.wire_form.specs.Items.{Rises}
use Rattle.tx_sets.specs.declared.reads.ReadEntry.{ReadEntry}
use Rattle.tx_sets.specs.declared.seen.Seen.{Seen}
use Rattle.tx_sets.specs.declared.writes.Write.{Write}

-- ---- lists

-- x is put in somewhere, and all else is as it was
pub record IsInserted {E : Type 0} (x : E) (old new : List E) : Type 0 where
  pub before : List E
  pub after : List E
  pub was : old ≡ before ++ after
  pub now : new ≡ before ++ x ∷ after

-- y stands in the place of x, and all else is as it was
pub record IsReplaced {E : Type 0} (x y : E) (old new : List E) : Type 0 where
  pub before : List E
  pub after : List E
  pub was : old ≡ before ++ x ∷ after
  pub now : new ≡ before ++ y ∷ after

-- a set of at most `most` entries took one more at its end, or is full and gave it back
pub record IsPushed {E : Type 0} (most : ℕ) (x : E) (old new : List E) (result : Result (Unit {0}) E) : Type 0 where
  pub exactly : IsOk result ↔ (length old < most)
  pub added : OnOk result (new ≡ old ++ x ∷ [])
  pub kept : OnErr result (new ≡ old)
  pub given_back : IfErr result (λ e. e ≡ x)

-- ---- notes of slots

-- of each slot below 4,096 it is noted whether it is among these
pub record AreNoted (noted : List Bool) (slots : List ℕ) : Type 0 where
  pub many : length noted ≡ 4096
  pub each : (t : ℕ) → t < 4096 → get_or noted t false ≡ list_any (λ s. s == t) slots

-- the slot's note, where it has one, says so, and all others are as they were
pub record IsNoted (slot : ℕ) (held : Bool) (old new : List Bool) : Type 0 where
  pub many : length new ≡ 4096
  pub here : slot < 4096 → get_or new slot false ≡ held
  pub others : (t : ℕ) → t < 4096 → (slot == t) ≡ false → get_or new t false ≡ get_or old t false

-- ---- words that were seen

-- at which places words were seen, in the order of the set
abbrev pub places_of : List Seen → List ℕ
places_of seen = map (λ s. s.at) seen

-- the word at this place was seen
abbrev pub has_word : ℕ → List Seen → Bool
has_word at seen = list_any (λ s. s.at == at) seen

-- what was seen at this place
abbrev pub word_at : ℕ → List Seen → Option ℕ
word_at at seen = option_map (λ s. s.word) (find (λ s. s.at == at) seen)

-- what was seen there is this now, where it is the word at this place
abbrev pub renewed_at : ℕ → ℕ → Seen → Seen
renewed_at at word s = if s.at == at then record s { word = word } else s

-- the same words, but for the one at this place
abbrev pub renewed : ℕ → ℕ → List Seen → List Seen
renewed at word seen = map (renewed_at at word) seen

-- ---- the words of one page

-- how many words a page has
abbrev pub page_words : ℕ
page_words = 64

-- the word at this place is one of the page that begins there
abbrev pub is_in_page : ℕ → ℕ → Bool
is_in_page first at = nat_le first at && nat_lt at (first + page_words)

-- ---- records that were read

-- the keys of the records that were read, in the order of the set
abbrev pub read_keys : List ReadEntry → List Key
read_keys reads = map (λ r. r.key) reads

-- the record of the key was read
abbrev pub has_read : Key → List ReadEntry → Bool
has_read key reads = list_any (λ r. same_key r.key key) reads

-- what was read of the key's record
abbrev pub read_of : Key → List ReadEntry → Option ReadEntry
read_of key reads = find (λ r. same_key r.key key) reads

-- the first record of those that were read whose word is one of the page
abbrev pub read_in : ℕ → List ReadEntry → Option ReadEntry
read_in first reads = find (λ r. is_in_page first r.at) reads

-- the hash of a key, which is one of 128
abbrev pub hash_of : Key → ℕ
hash_of key = key.key % 4294967296 * 2654435761 / 33554432 % 128

-- the hash of each key that was read is marked
pub record AreMarked (marked : List Bool) (reads : List ReadEntry) : Type 0 where
  pub many : length marked ≡ 128
  pub each : AllByRecursion (λ r. get_or marked (hash_of r.key) false ≡ true) reads

-- ---- writes

-- each key is above those before it, so each stands once
abbrev pub IsAscending : List Write → Type 0
IsAscending writes = Rises IsKeyBelow (map (λ w. w.key) writes)

-- where the records lie that are written, in the order of the set
abbrev pub record_places_of : List Write → List ℕ
record_places_of writes = map (λ w. w.at) writes

-- the key is written
abbrev pub has_write : Key → List Write → Bool
has_write key writes = list_any (λ w. same_key w.key key) writes

-- the record at this place is written
abbrev pub writes_at : ℕ → List Write → Bool
writes_at at writes = list_any (λ w. w.at == at) writes

-- what is written at a key, where it is written: a value, or its removal
abbrev pub value_of : Key → List Write → Option (Option ℕ)
value_of key writes = option_map (λ w. w.value) (find (λ w. same_key w.key key) writes)

-- the first write of a record whose word is one of the page
abbrev pub write_in : ℕ → List Write → Option Write
write_in first writes = find (λ w. is_in_page first w.at) writes

-- the set took one write more, in its place in the order, or is full and gave it back
pub record IsPut (x : Write) (old new : List Write) (result : Result (Unit {0}) Write) : Type 0 where
  pub exactly : IsOk result ↔ (length old < 16)
  pub added : OnOk result (IsInserted x old new)
  pub kept : OnErr result (new ≡ old)
  pub given_back : IfErr result (λ e. e ≡ x)

-- the first write of a key has another value now
pub record IsRewritten (key : Key) (value : Option ℕ) (old new : List Write) : Type 0 where
  pub write : Write
  pub of_key : write.key ≡ key
  pub rest : IsReplaced write (record write { value = value }) old new
  pub first : has_write key rest.before ≡ false

-- so many writes are of keys below this one, and the next one isn't
pub record IsPlaceOf (key : Key) (writes : List Write) (place : ℕ) : Type 0 where
  pub below : (i : ℕ) (d : Write) → i < place → IsKeyBelow (get_or writes i d).key key
  pub stops : (d : Write) → place < length writes → IsKeyBelow (get_or writes place d).key key → ⊥
