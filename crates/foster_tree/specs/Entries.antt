-- Records of a leaf on their way into another page.
use Rattle.std.specs.Prelude.{◌≡◌, ℕ, ◌+◌, ◌%◌, ◌^◌, ◌<◌, List, map, length, nat_lt, Some, None, unwrap_or, if◌then◌else◌}
use Rattle.std.specs.List.Sorted.{IsNonDecreasingBy, IsPermutation}
use Rattle.serial_model.specs.declared.key.Key.{Key}
use Rattle.homes.specs.declared.places.Content.{Content}
use Rattle.wire_form.specs.Leaves.{tree_leaf}
use Rattle.wire_form.specs.Words.{absent_field, number_in, number_word}
use Rattle.engine_pages.specs.Words.{IsSmall}
use Rattle.foster_tree.specs.declared.entries.Entry.{Entry}

-- the key of a record, in a storage
abbrev pub key_of : ℕ → Entry → Key
key_of storage e = record { storage = storage; key = e.key }

-- the number of an entry
abbrev pub number_of : Entry → ℕ
number_of e = e.key

-- what the record says: its word has the number of the last write, and a bit where there is no value
abbrev pub content_of : Entry → Content
content_of e = record {
  number = number_in (e.word % 2 ^ 60);
  value = if nat_lt e.word (2 ^ 60) then Some e.value else None;
}

-- These are the words of a record that nobody has locked: a number that fits, and a value; an absent one has the value
-- 0.
pub record IsEntry (e : Entry) : Type 0 where
  pub small : IsSmall (content_of e).number
  pub word : e.word ≡ number_word (content_of e).number + absent_field tree_leaf (content_of e).value
  pub value : e.value ≡ unwrap_or (content_of e).value 0

-- the keys of records, in a storage
abbrev pub keys_of : ℕ → List Entry → List Key
keys_of storage entries = map (key_of storage) entries

-- what records say
abbrev pub contents_of : List Entry → List Content
contents_of entries = map content_of entries

-- the same records, in the order of their keys
pub record AreInOrder (old new : List Entry) : Type 0 where
  pub same : IsPermutation old new
  pub rising : IsNonDecreasingBy number_of new
