-- The way to a key: where it leads to in memory, and why a walk along it is refused.
use Rattle.std.specs.Prelude.{◌≡◌, ◌≢◌, ◌⊎◌, ℕ, ◌-◌, ◌/◌, ◌%◌, ◌^◌, ◌<◌, ◌≤◌, true, false, List, [], ◌∷◌, Option, Some, None}
use Rattle.std.specs.Prelude.{length, nat_lt, if◌then◌else◌, Contains, ⊤}
use Rattle.serial_model.specs.declared.key.Key.{Key}
use Rattle.homes.specs.declared.places.At.{At}
use Rattle.homes.specs.declared.places.Span.{Span}
use Rattle.homes.specs.Homes.{has_key, in_span}
use Rattle.wire_form.specs.Leaves.{tree_leaf}
use Rattle.drop_core.specs.Event.{each_once, lower_span, upper_span}
use Rattle.drop_core.specs.Table.{has_slot}
use Rattle.tx_sets.specs.declared.seen.Seen.{Seen}
use Rattle.tx_sets.specs.Entries.{word_at}
use Rattle.engine_pages.specs.declared.view.Inner.{Inner}
use Rattle.engine_pages.specs.declared.view.Known.{Known}
use Rattle.engine_pages.specs.declared.view.Moved.{Moved}
use Rattle.engine_pages.specs.declared.view.RefusalCause.{RefusalCause}
use Rattle.engine_pages.specs.declared.view.RefusalCause.TheVariants as causes
use Rattle.engine_pages.specs.declared.view.SetName.{SetName}
use Rattle.engine_pages.specs.declared.view.SetName.TheVariants as sets
use Rattle.engine_pages.specs.declared.view.View.{View}
use Rattle.engine_pages.specs.declared.view.Way.{Way}
use Rattle.engine_pages.specs.Layout.{page_at, words_of}
use Rattle.engine_pages.specs.Pages.{is_tree, part_between}
use Rattle.engine_pages.specs.Pointers.{IsPointerAt, StandsFor}
use Rattle.engine_pages.specs.Steps.{kept_at, seen_at}
use Rattle.dual_pointer.specs.Copies.{IsLeadOf}
use Rattle.tree_heads.specs.Headers.{count_of, kind_of, moved_bit, moved_locked}
use Rattle.array_pages.specs.Walks.{SawLast}
use Rattle.tree_walks.specs.Walks.{AreLedTo, IsNoHeader, IsTreesWord, LiesInPage}
use Rattle.tree_walks.specs.declared.ways.Bare.{Bare}
use Rattle.tree_walks.specs.declared.ways.End.{End}
use Rattle.tree_walks.specs.declared.ways.End.TheVariants as ends
use Rattle.tree_walks.specs.declared.ways.Leaf.{Leaf}

-- ---- what is on the way to a key

-- The slot has a page of a tree on the way to the key: the pass holds it, and its page is over these keys, which the
-- key is one of.
pub record IsOnWay (k : Key) (v : View) (t : ℕ) (sp : Span) : Type 0 where
  pub way : Contains v.ways (record { slot = t; span = sp })
  pub tree : is_tree v.layout.decls sp.storage ≡ true
  pub there : t < v.layout.slots
  pub over : in_span sp k ≡ true

-- the word is that of a tree's pointer on the way to the key: over keys that it is one of
pub record IsWayPointer (k : Key) (v : View) (at : ℕ) : Type 0 where
  pub place : At
  pub span : Span
  pub is : IsPointerAt v place span at
  pub inside : LiesInPage v.layout.slots place at
  pub within : at < words_of v.layout
  pub tree : is_tree v.layout.decls span.storage ≡ true
  pub over : in_span span k ≡ true

-- the set doesn't have the word, or has it so
abbrev pub IsMetSo : List Seen → ℕ → ℕ → Type 0
IsMetSo seen at word = (word_at at seen ≡ None) ⊎ (word_at at seen ≡ Some word)

-- ---- where it ends

-- The slot has a leaf on the way to the key, of which at least as many keys are known as the header's word counts,
-- which was that of a leaf that wasn't split.
pub record IsLeafAt (k : Key) (x : Leaf) (w : View) : Type 0 where
  pub on : IsOnWay k w x.slot x.span
  pub keys : List Key
  pub knows : Contains w.known (record { slot = x.slot; keys = keys })
  pub few : length keys ≤ tree_leaf.room
  pub once : each_once keys ≡ true
  pub inside : (q : Key) → has_key keys q ≡ true → in_span x.span q ≡ true
  pub count : length keys ≡ count_of x.header
  pub kind : kind_of x.header ≡ 1
  pub small : x.header < 2 ^ 61

-- The header of the page in this slot was last seen as that of a leaf that wasn't split.
pub record IsUnsplit (v : View) (t : ℕ) : Type 0 where
  pub word : ℕ
  pub saw : seen_at v.reads (page_at v.layout.slots t 0) ≡ Some word
  pub unsplit : word < 2 ^ 61

-- So the header was last seen; where the transaction has kept it, it has it with this word.
pub record IsLeafOn (k : Key) (headers : List Seen) (x : Leaf) (w : View) : Type 0 where
  pub leaf : IsLeafAt k x w
  pub met : seen_at w.reads (page_at w.layout.slots x.slot 0) ≡ Some x.header
  pub set : IsMetSo headers (page_at w.layout.slots x.slot 0) x.header

-- The pages in memory end at this pointer on the way to the key, which was last seen to lead to no slot: its word
-- names a published page, or none for 0. Where the transaction has kept the pointer, it has it with this word.
pub record IsBareOn (k : Key) (pointers : List Seen) (x : Bare) (w : View) : Type 0 where
  pub is : IsPointerAt w x.place x.span x.pointer.at
  pub known : IsTreesWord w x.pointer.at
  pub apart : IsNoHeader w.layout.slots x.pointer.at
  pub inside : LiesInPage w.layout.slots x.place x.pointer.at
  pub within : x.pointer.at < words_of w.layout
  pub tree : is_tree w.layout.decls x.span.storage ≡ true
  pub over : in_span x.span k ≡ true
  pub bare : x.pointer.word < 2 ^ 32
  pub there : x.pointer.word ≤ length w.pages
  pub few : length w.pages ≤ w.layout.resident
  pub most : length w.pages ≤ 65536
  pub stands : 0 < x.pointer.word → StandsFor w.layout.decls w.pages x.span x.pointer.word
  pub lead : IsLeadOf w x.span x.pointer.word
  pub met : seen_at w.reads x.pointer.at ≡ Some x.pointer.word
  pub set : IsMetSo pointers x.pointer.at x.pointer.word

-- the way ends at a leaf or at a pointer
abbrev pub HasCome : Key → List Seen → List Seen → End → View → Type 0
HasCome k pointers headers (ends.Leaf x) w = IsLeafOn k headers x w
HasCome k pointers headers (ends.Below x) w = IsBareOn k pointers x w

-- ---- one page below another

-- the second page is over the keys of a child of the first one
pub record IsChildOf (w : View) (a b : Way) : Type 0 where
  pub inner : Inner
  pub knows : Contains w.inners inner
  pub same : inner.slot ≡ a.slot
  pub index : ℕ
  pub within : index ≤ length inner.separators
  pub span : b.span ≡ part_between a.span inner.separators index

-- the half of a split leaf that has the key
abbrev pub half_for : Moved → Key → ℕ
half_for x k = if nat_lt k.key x.separator then x.minor else x.major

-- and its keys
abbrev pub half_span : Moved → Span → Key → Span
half_span x sp k = if nat_lt k.key x.separator then lower_span sp x.separator else upper_span sp x.separator

-- the second page is a half of the first one, which was split
pub record IsHalfOf (k : Key) (w : View) (a b : Way) : Type 0 where
  pub moved : Moved
  pub knows : Contains w.moved moved
  pub same : moved.slot ≡ a.slot
  pub slot : b.slot ≡ half_for moved k
  pub span : b.span ≡ half_span moved a.span k

-- the page is the first one, or one below the page before it
abbrev pub IsNext : Key → View → List Way → Way → Type 0
IsNext k w [] b = ⊤
IsNext k w (a ∷ more) b = IsChildOf w a b ⊎ IsHalfOf k w a b

-- the pages are on the way to the key, each below the next one
abbrev pub IsPath : Key → View → List Way → Type 0
IsPath k w [] = ⊤
IsPath k w (b ∷ more) = IsOnWay k w b.slot b.span × IsNext k w more b × IsPath k w more

-- ---- refusals

-- The word is that of a pointer on the way to the key. It is shut, or not the expected one: the set's, where the set
-- has the pointer, else what the transaction had seen there before.
pub record IsPointerChanged (k : Key) (pointers : List Seen) (at expected seen : ℕ) (v w : View) : Type 0 where
  pub on : IsWayPointer k w at
  pub was : Option ℕ
  pub saw : SawLast at seen was v w
  pub known : ((word_at at pointers ≡ Some expected) × (saw.kept ≡ kept_at v.reads at))
      ⊎ ((was ≡ Some expected) × IsMetSo pointers at expected)
  pub cause : (2 ^ 60 ≤ seen) ⊎ (seen ≢ expected)

-- The word is that of the header of a page on the way to the key: of a leaf, of which keys are known, or of one whose
-- header the set has. It is locked, or not the expected one: the set's, where the set has the header, else what the
-- transaction had seen there before.
pub record IsHeaderChanged (k : Key) (headers : List Seen) (at expected seen : ℕ) (v w : View) : Type 0 where
  pub slot : ℕ
  pub span : Span
  pub on : IsOnWay k w slot span
  pub leaf : ((x : Known) × Contains w.known x × (x.slot ≡ slot)) ⊎ (word_at at headers ≡ Some expected)
  pub word : at ≡ page_at w.layout.slots slot 0
  pub was : Option ℕ
  pub saw : SawLast at seen was v w
  pub kept : saw.kept ≡ kept_at v.reads at
  pub known : (word_at at headers ≡ Some expected) ⊎ ((word_at at headers ≡ None) × (was ≡ Some expected))
  pub cause : ((seen / 2 ^ 60) % 2 ≡ 1) ⊎ (seen ≢ expected)

-- A pointer on the way to the key was last seen to lead to a slot that isn't held: it is one more to hold.
pub record NeedsHold (k : Key) (slots : List ℕ) (w : View) : Type 0 where
  pub at : ℕ
  pub word : ℕ
  pub on : IsWayPointer k w at
  pub saw : seen_at w.reads at ≡ Some word
  pub led : 2 ^ 32 ≤ word
  pub unshut : word < 2 ^ 60
  pub unheld : has_slot slots (word / 2 ^ 32 - 1) ≡ false

-- A leaf on the way to the key was last seen to be split, and the half that has the key isn't held: it is one more to
-- hold.
pub record NeedsHalf (k : Key) (slots : List ℕ) (w : View) : Type 0 where
  pub slot : ℕ
  pub span : Span
  pub on : IsOnWay k w slot span
  pub moved : Moved
  pub knows : Contains w.moved moved
  pub same : moved.slot ≡ slot
  pub word : ℕ
  pub saw : seen_at w.reads (page_at w.layout.slots slot 0) ≡ Some word
  pub split : moved_bit ≤ word
  pub unlocked : word < moved_locked
  pub unheld : has_slot slots (half_for moved k) ≡ false

-- The way to the key has led through one page more, one below another, than there is room for holds.
pub record IsLong (k : Key) (w : View) : Type 0 where
  pub pages : List Way
  pub many : length pages ≡ 129
  pub path : IsPath k w pages

-- the holds are as many as there is room for, and the way to the key needs one more; or it is longer than that
abbrev pub IsHeldWide : Key → List ℕ → View → Type 0
IsHeldWide k slots w = ((length slots ≡ 128) × (NeedsHold k slots w ⊎ NeedsHalf k slots w)) ⊎ IsLong k w

-- so it is with the holds, and with no other set
abbrev pub IsWide : Key → List ℕ → SetName → View → Type 0
IsWide k slots sets.Reads w = ⊥
IsWide k slots sets.Writes w = ⊥
IsWide k slots sets.Pointers w = ⊥
IsWide k slots sets.Holds w = IsHeldWide k slots w

-- A walk was refused at a pointer or at a header; or since the holds were full, and then each slot that it holds newly
-- has a page over the key.
abbrev pub RefusesWalk : Key → List Seen → List Seen → List ℕ → RefusalCause → View → View → Type 0
RefusesWalk k pointers headers slots (causes.Conflict at expected seen) v w =
    IsPointerChanged k pointers at expected seen v w ⊎ IsHeaderChanged k headers at expected seen v w
RefusesWalk k pointers headers slots (causes.Full held) v w = ⊥
RefusesWalk k pointers headers slots (causes.Wide set) v w = IsWide k slots set w × AreLedTo k v w
RefusesWalk k pointers headers slots (causes.NumberLimit clock) v w = ⊥
