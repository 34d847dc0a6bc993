-- What locks of headers tell, and what is done under them: a key is added.
use Rattle.std.specs.Prelude.{◌≡◌, ℕ, ◌+◌, ◌<◌, ◌==◌, Bool, true, false, cond, List, [], ◌∷◌, ◌++◌, get_or}
use Rattle.std.specs.Prelude.{length, map, slice_set, Some, None, if◌then◌else◌, Contains, MatchBool}
use Rattle.atomic_table.specs.Table.{Step}
use Rattle.serial_model.specs.declared.key.Key.{Key}
use Rattle.homes.specs.declared.places.Span.{Span}
use Rattle.homes.specs.Homes.{has_key, in_span}
use Rattle.wire_form.specs.Leaves.{tree_leaf, record_start, value_in, word_in}
use Rattle.wire_form.specs.Words.{at_bit}
use Rattle.commit_core.specs.declared.part.Part.{Part}
use Rattle.commit_core.specs.declared.seat.Stage.TheVariants.{Idle}
use Rattle.commit_core.specs.Keys.{nothing}
use Rattle.commit_core.specs.Parts.{record_part, with_part}
use Rattle.engine_rule.specs.JointState.{keeps_header_at}
use Rattle.engine_pages.specs.declared.view.Head.{Head}
use Rattle.engine_pages.specs.declared.view.Read.{Read}
use Rattle.engine_pages.specs.declared.view.Role.TheVariants.{Keeper}
use Rattle.engine_pages.specs.declared.view.View.{View}
use Rattle.engine_pages.specs.Agreement.{TreesAgree}
use Rattle.engine_pages.specs.Layout.{page_at}
use Rattle.engine_pages.specs.Rule.{is_spare}
use Rattle.engine_pages.specs.Slots.{other_heads}
use Rattle.engine_pages.specs.Steps.{glanced, kept_at, noted, read_at, with_read}
use Rattle.engine_pages.specs.Words.{spot}
use Rattle.tree_heads.specs.Headers.{AreLeafKeys, IsTreeAt, IsUnmoved, knew, open_word}
use Rattle.tree_heads.specs.Keeps.{head_part}

-- the lock bit of a header's word
abbrev pub lock_bit : ℕ
lock_bit = at_bit 60 1

-- the word of a record that is absent and was never written
abbrev pub absent_word : ℕ
absent_word = at_bit 61 1

-- ---- a header is locked

-- one header more is locked, of a leaf with these keys, in whose page these words stand
abbrev pub head_locked : ℕ → List Key → List ℕ → ℕ → ℕ → View → View
head_locked t keys words at n v = record (knew t keys (glanced at n v)) {
  reads = with_read v.reads at (n + lock_bit);
  heads = record { slot = t; keys = keys; words = words } ∷ v.heads;
}

-- the header was that of an open leaf with these keys
pub record HasHead (t : ℕ) (sp : Span) (at : ℕ) (v : View) (n : ℕ) (w : View) : Type 0 where
  pub keys : List Key
  pub are : AreLeafKeys v t sp keys
  pub word : n ≡ open_word (length keys)
  pub words : List ℕ
  pub long : length words ≡ 64
  pub unmoved : IsUnmoved v t
  pub trees : TreesAgree w
  pub is : w ≡ head_locked t keys words at n v

-- the header is locked exactly where its word was the one that was expected
abbrev pub HeadLocked : ℕ → Span → ℕ → ℕ → View → ℕ → View → Type 0
HeadLocked t sp at expected v n w = MatchBool (n == expected) (HasHead t sp at v n w) (w ≡ read_at at n v)

-- the same of the step
abbrev pub LocksHeader : ℕ → Span → Step (Unit {0}) → View → ℕ → View → Type 0
LocksHeader t sp s v n w = HeadLocked t sp s.word s.first v n w

-- ---- a word that no record has is stored

-- the words of the page in this slot, with this one
abbrev pub stored_in : ℕ → ℕ → ℕ → Head → Head
stored_in t i n x = record x { words = cond (x.slot == t) (slice_set x.words i n) x.words }

-- a word of a leaf whose header the pass has locked is stored
abbrev pub head_stored : ℕ → ℕ → ℕ → View → View
head_stored t i n v = record v { steps = v.steps + 1; heads = map (stored_in t i n) v.heads }

-- the pass has locked the header of the leaf, and the word with this index is none of a record
pub record CanStore (v : View) (t i : ℕ) : Type 0 where
  pub head : Head
  pub has : Contains v.heads head
  pub slot : head.slot ≡ t
  pub index : i < 64
  pub spare : is_spare (length head.keys) i ≡ true

-- the same of the step
abbrev pub StoresSpare : ℕ → ℕ → Step (Unit {0}) → View → ℕ → View → Type 0
StoresSpare t i s v n w = w ≡ head_stored t i s.first v

-- ---- a header is opened as it was

-- one header less is locked, whose word is this now
abbrev pub head_opened : ℕ → ℕ → ℕ → View → View
head_opened t at n v =
    record v { steps = v.steps + 1; reads = with_read v.reads at n; heads = other_heads t v.heads }

-- the pass has locked the header of the leaf, and this was its word
pub record CanOpenHeader (v : View) (t : ℕ) (sp : Span) (n : ℕ) : Type 0 where
  pub page : IsTreeAt v t sp
  pub head : Head
  pub has : Contains v.heads head
  pub slot : head.slot ≡ t
  pub word : n ≡ open_word (length head.keys)

-- the same of the step
abbrev pub OpensHeader : ℕ → Step (Unit {0}) → View → ℕ → View → Type 0
OpensHeader t s v n w = (n ≡ s.first) × (w ≡ head_opened t s.word s.first v)

-- ---- a header is opened with one key more

-- What is kept, where the header was a part with this: its part goes on, and the new record, absent, is kept too.
abbrev pub kept_on : Bool → List Part → ℕ → Span → List Key → Key → List Part
kept_on true kept t sp keys k =
    with_part (with_part kept (head_part t sp (keys ++ k ∷ []))) (record_part k (spot t (length keys)) nothing)
kept_on false kept t sp keys k = kept

-- the header's word as it is left, which is kept where it was a part, and the word of the record that is added
abbrev pub added_reads : Bool → List Read → ℕ → ℕ → ℕ → List Read
added_reads keeps reads at n record_at =
    with_read (noted reads at n (if keeps then Some n else kept_at reads at)) record_at absent_word

-- the leaf has one key more, and its header is open
abbrev pub key_added : ℕ → Span → List Key → Key → ℕ → ℕ → View → View
key_added t sp keys k at n v = record (knew t (keys ++ k ∷ []) v) {
  steps = v.steps + 1;
  reads = added_reads (keeps_header_at v.seat.kept t (length keys)) v.reads at n
      (page_at v.layout.slots t (word_in tree_leaf (length keys)));
  seat = record v.seat {
    kept = kept_on (keeps_header_at v.seat.kept t (length keys)) v.seat.kept t sp keys k;
  };
  loaded = None;
  heads = other_heads t v.heads;
}

-- The pass has locked the header of the leaf, which has room for the key and has it not; the words behind its records
-- are those of the key's record, absent; and the pass, which is a worker's, has no attempt and no locks of records.
pub record CanAdd (v : View) (t : ℕ) (sp : Span) (k : Key) (n : ℕ) : Type 0 where
  pub page : IsTreeAt v t sp
  pub head : Head
  pub has : Contains v.heads head
  pub slot : head.slot ≡ t
  pub inside : in_span sp k ≡ true
  pub new : has_key head.keys k ≡ false
  pub few : length head.keys < tree_leaf.room
  pub key : get_or head.words (record_start tree_leaf (length head.keys)) 0 ≡ k.key
  pub absent : get_or head.words (word_in tree_leaf (length head.keys)) 0 ≡ absent_word
  pub value : get_or head.words (value_in tree_leaf (length head.keys) 0) 0 ≡ 0
  pub word : n ≡ open_word (length head.keys + 1)
  pub worker : v.role ≡ Keeper → ⊥
  pub idle : v.seat.stage ≡ Idle
  pub unlocked : v.seat.locks ≡ []

-- so it is, for the keys by which the pass has locked it
pub record HasAdded (t : ℕ) (sp : Span) (k : Key) (at n : ℕ) (v w : View) : Type 0 where
  pub is : (x : Head) → Contains v.heads x → x.slot ≡ t → w ≡ key_added t sp x.keys k at n v
  pub trees : TreesAgree w

-- the same of the step
abbrev pub AddsKey : ℕ → Span → Key → Step (Unit {0}) → View → ℕ → View → Type 0
AddsKey t sp k s v n w = (n ≡ s.first) × HasAdded t sp k s.word s.first v w
