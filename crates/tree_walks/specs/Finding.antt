-- What it comes to that a key's record is looked for.
use Rattle.std.specs.Prelude.{◌≡◌, ◌≢◌, ◌⊎◌, ℕ, ◌+◌, ◌/◌, ◌%◌, ◌^◌, ◌<◌, ◌≤◌, true, false, List, Some, None, Option, unwrap_or}
use Rattle.std.specs.Prelude.{length, Contains, ⊤}
use Rattle.serial_model.specs.declared.key.Key.{Key}
use Rattle.homes.specs.declared.places.At.{At}
use Rattle.homes.specs.declared.places.Content.{Content}
use Rattle.homes.specs.declared.places.Span.{Span}
use Rattle.homes.specs.declared.places.Spot.{Spot}
use Rattle.homes.specs.Homes.{has_key, in_span}
use Rattle.wire_form.specs.Leaves.{tree_leaf}
use Rattle.wire_form.specs.Words.{absent_field, number_in, number_word}
use Rattle.commit_core.specs.declared.part.Part.{Part}
use Rattle.commit_core.specs.Keys.{nothing}
use Rattle.commit_core.specs.Parts.{covers, found, record_part, with_part, Vouches}
use Rattle.commit_core.specs.Serial.{last_write}
use Rattle.tx_sets.specs.declared.seen.Seen.{Seen}
use Rattle.tx_sets.specs.Entries.{word_at}
use Rattle.engine_pages.specs.declared.view.RefusalCause.{RefusalCause}
use Rattle.engine_pages.specs.declared.view.RefusalCause.TheVariants as causes
use Rattle.engine_pages.specs.declared.view.SetName.{SetName}
use Rattle.engine_pages.specs.declared.view.SetName.TheVariants as sets
use Rattle.engine_pages.specs.declared.view.View.{View}
use Rattle.engine_pages.specs.Layout.{page_at}
use Rattle.engine_pages.specs.Records.{IsTreeRecordAt}
use Rattle.engine_pages.specs.Steps.{kept_at, seen_at}
use Rattle.engine_pages.specs.Words.{IsSmall}
use Rattle.dual_pointer.specs.Parts.{IsPointerPart, tree_content}
use Rattle.tree_records.specs.Reads.{IsThat}
use Rattle.tree_heads.specs.Headers.{open_word}
use Rattle.tree_heads.specs.Keeps.{head_part}
use Rattle.array_pages.specs.Walks.{SawLast}
use Rattle.tree_walks.specs.declared.finding.Found.{Found}
use Rattle.tree_walks.specs.declared.finding.Found.TheVariants as places
use Rattle.tree_walks.specs.declared.ways.Bare.{Bare}
use Rattle.tree_walks.specs.Walks.{AreLedTo, KeepsWords, OnlyTrees, OnlyTreesBut}
use Rattle.tree_walks.specs.Ways.{IsBareOn, IsMetSo, IsOnWay, IsUnsplit, IsWide, RefusesWalk}

-- ---- in a leaf

-- The record stands in a leaf on the way to the key, and its word is here. The word and the value of one content were
-- loaded, the value between two loads of the word, or the word alone where the content is an absence, which has no
-- value. The content was the last decided write of the key at the first load, or what stood there at first; of an
-- absence the number may be lost. It is kept as the part of this record.
pub record IsFoundIn (k : Key) (at word value : ℕ) (v w : View) : Type 0 where
  pub slot : ℕ
  pub span : Span
  pub on : IsOnWay k w slot span
  pub spot : Spot
  pub stands : spot.slot ≡ slot
  pub place : IsTreeRecordAt w k spot at
  pub content : Content
  pub small : IsSmall content.number
  pub shown : number_word content.number + absent_field tree_leaf content.value ≡ word
  pub has : value ≡ unwrap_or content.value 0
  pub last : IsThat content (last_write v.layout.opening w.history w.decided k)
  pub kept : w.seat.kept ≡ with_part v.seat.kept (record_part k spot content)
  pub met : seen_at w.reads at ≡ Some word
  pub words : KeepsWords v w

-- The leaf on the way to the key has no record of it: its header is kept as a part with this word, which stands here
-- and counts these keys. The part vouches for each other key of the leaf's span, this one too, that it has no value:
-- by the last decided writes at the load that kept it. Where the transaction had kept the header, it had it with this
-- word.
pub record IsAbsentIn (k : Key) (headers : List Seen) (at word : ℕ) (v w : View) : Type 0 where
  pub slot : ℕ
  pub span : Span
  pub on : IsOnWay k w slot span
  pub keys : List Key
  pub knows : Contains w.known (record { slot = slot; keys = keys })
  pub none : has_key keys k ≡ false
  pub few : length keys ≤ tree_leaf.room
  pub place : at ≡ page_at w.layout.slots slot 0
  pub is : word ≡ open_word (length keys)
  pub kept : w.seat.kept ≡ with_part v.seat.kept (head_part slot span keys)
  pub word_kept : kept_at w.reads at ≡ Some word
  pub words : (a : ℕ) → a ≢ at → kept_at w.reads a ≡ kept_at v.reads a
  pub met : seen_at w.reads at ≡ Some word
  pub covered : covers (head_part slot span keys) k ≡ true
  pub last : Vouches (last_write v.layout.opening w.history w.decided) (head_part slot span keys)
  pub absent : (last_write v.layout.opening w.history w.decided k).value ≡ None
  pub set : IsMetSo headers at word

-- ---- below a pointer

-- The pages in memory end at this pointer on the way to the key, which leads to no slot. It is kept as the one part of
-- its word, which vouches for just the keys of the pointer, with what is found below its page, and for this content of
-- the key, whose value is that of the last decided write, or what stood there at first. Where the transaction had kept
-- the pointer, it had it with this word; else the set has room for it.
pub record IsFoundBelow (k : Key) (c : Content) (pointers : List Seen) (p : Seen) (v w : View) : Type 0 where
  pub place : At
  pub span : Span
  pub on : IsBareOn k pointers (record { place = place; span = span; pointer = p }) w
  pub part : Part
  pub of : IsPointerPart w place span p.word part
  pub kept : w.seat.kept ≡ with_part v.seat.kept part
  pub word_kept : kept_at w.reads p.at ≡ Some p.word
  pub words : (a : ℕ) → a ≢ p.at → kept_at w.reads a ≡ kept_at v.reads a
  pub inside : (q : Key) → covers part q ≡ true → in_span span q ≡ true
  pub covers_all : (q : Key) → in_span span q ≡ true → covers part q ≡ true
  pub says : (q : Key) → in_span span q ≡ true → found part q ≡ tree_content w.pages span p.word q
  pub has : found part k ≡ c
  pub last : c.value ≡ (last_write v.layout.opening w.history w.decided k).value
  pub room : word_at p.at pointers ≡ None → length pointers < 128

-- ---- the answer

-- where the key's record is
abbrev pub IsFound : Key → List Seen → List Seen → Found → View → View → Type 0
IsFound k pointers headers (places.Volatile at word value) v w = IsFoundIn k at word value v w
IsFound k pointers headers (places.Absent header word) v w = IsAbsentIn k headers header word v w
IsFound k pointers headers (places.Snapshot value number p) v w =
    IsFoundBelow k (record { number = number_in number; value = Some value }) pointers p v w
IsFound k pointers headers (places.Zero p) v w = IsFoundBelow k nothing pointers p v w

-- what was met on the way to it: the words of trees, and the record's own and its value's
abbrev pub MeetsOnly : Found → View → View → Type 0
MeetsOnly (places.Volatile at word value) v w = OnlyTreesBut at v w
MeetsOnly (places.Absent header word) v w = OnlyTrees v w
MeetsOnly (places.Snapshot value number p) v w = OnlyTrees v w
MeetsOnly (places.Zero p) v w = OnlyTrees v w

-- the record is in memory
abbrev pub IsVolatile : Found → Type 0
IsVolatile (places.Volatile at word value) = ⊤
IsVolatile (places.Absent header word) = ⊥
IsVolatile (places.Snapshot value number p) = ⊥
IsVolatile (places.Zero p) = ⊥

-- ---- refusals

-- The word is that of the key's record, in a leaf on the way to the key, whose header was last seen as that of one that
-- wasn't split. It is locked, or not the one that was seen right before.
pub record IsRecordChanged (k : Key) (at expected seen : ℕ) (v w : View) : Type 0 where
  pub slot : ℕ
  pub span : Span
  pub on : IsOnWay k w slot span
  pub spot : Spot
  pub stands : spot.slot ≡ slot
  pub place : IsTreeRecordAt w k spot at
  pub whole : IsUnsplit w slot
  pub was : Option ℕ
  pub saw : SawLast at seen was v w
  pub kept : saw.kept ≡ kept_at v.reads at
  pub known : was ≡ Some expected
  pub cause : ((seen / 2 ^ 60) % 2 ≡ 1) ⊎ (seen ≢ expected)

-- A pointer on the way to the key was last seen to lead to no slot, and isn't in the set: the set needs one entry more.
pub record NeedsPointer (k : Key) (pointers : List Seen) (w : View) : Type 0 where
  pub bare : Bare
  pub on : IsBareOn k pointers bare w
  pub absent : word_at bare.pointer.at pointers ≡ None
  pub full : length pointers ≡ 128

-- a set is full, and the way to the key needs one entry more in it
abbrev pub IsFindWide : Key → List Seen → List ℕ → SetName → View → Type 0
IsFindWide k pointers slots sets.Reads w = ⊥
IsFindWide k pointers slots sets.Writes w = ⊥
IsFindWide k pointers slots sets.Pointers w = NeedsPointer k pointers w
IsFindWide k pointers slots sets.Holds w = IsWide k slots sets.Holds w

-- A key's record wasn't found: a pointer, a header or the record was in conflict; or a set was full, and then each
-- slot that is held newly has a page over the key.
abbrev pub RefusesFind : Key → List Seen → List Seen → List ℕ → RefusalCause → View → View → Type 0
RefusesFind k pointers headers slots (causes.Conflict at expected seen) v w =
    RefusesWalk k pointers headers slots (causes.Conflict at expected seen) v w ⊎ IsRecordChanged k at expected seen v w
RefusesFind k pointers headers slots (causes.Full held) v w = ⊥
RefusesFind k pointers headers slots (causes.Wide set) v w = IsFindWide k pointers slots set w × AreLedTo k v w
RefusesFind k pointers headers slots (causes.NumberLimit clock) v w = ⊥
