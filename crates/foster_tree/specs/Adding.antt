-- What it comes to that a leaf of a tree gets one key more.
use Rattle.std.specs.Prelude.{◌≡◌, ℕ, ◌+◌, ◌^◌, ◌<◌, true, false, List, [], ◌∷◌, ◌++◌, length, Some, None, Contains}
use Rattle.serial_model.specs.declared.key.Key.{Key}
use Rattle.homes.specs.declared.places.Span.{Span}
use Rattle.homes.specs.Homes.{has_key, in_span}
use Rattle.wire_form.specs.Leaves.{tree_leaf, word_in}
use Rattle.commit_core.specs.declared.seat.Stage.TheVariants.{Idle}
use Rattle.engine_rule.specs.JointState.{keeps_header_at}
use Rattle.engine_pages.specs.declared.view.Known.{Known}
use Rattle.engine_pages.specs.declared.view.RefusalCause.{RefusalCause}
use Rattle.engine_pages.specs.declared.view.RefusalCause.TheVariants as causes
use Rattle.engine_pages.specs.declared.view.Role.TheVariants.{Keeper}
use Rattle.engine_pages.specs.declared.view.View.{View}
use Rattle.engine_pages.specs.Agreement.{TreesAgree}
use Rattle.engine_pages.specs.Layout.{page_at}
use Rattle.engine_pages.specs.Records.{IsTreeRecordAt}
use Rattle.engine_pages.specs.Rule.{is_spare}
use Rattle.engine_pages.specs.Steps.{glance, read_at, seen_at, with_read}
use Rattle.engine_pages.specs.Views.{IsActive}
use Rattle.engine_pages.specs.Words.{spot}
use Rattle.tree_heads.specs.Headers.{AreLeafKeys, IsTreeAt, count_of, kind_of, open_word}
use Rattle.tree_heads.specs.Heads.{absent_word, added_reads, kept_on, lock_bit}
use Rattle.foster_tree.specs.declared.entries.Entry.{Entry}
use Rattle.foster_tree.specs.Causes.{IsLeafWordChanged}

-- ---- what it asks

-- The pass, which is a worker's, has no attempt and no locks. It knows all keys of the leaf, as many as the word of its
-- header counts, which its last step there saw, neither locked nor moved; the key, one of those that the leaf is made
-- for, is none of them.
pub record CanGrow (v : View) (t : ℕ) (sp : Span) (k : Key) (word : ℕ) : Type 0 where
  pub active : IsActive v.role
  pub worker : v.role ≡ Keeper → ⊥
  pub idle : v.seat.stage ≡ Idle
  pub unlocked : v.seat.locks ≡ []
  pub opened : v.heads ≡ []
  pub page : IsTreeAt v t sp
  pub there : t < v.layout.slots
  pub inside : in_span sp k ≡ true
  pub leaf : Known
  pub knows : Contains v.known leaf
  pub same : leaf.slot ≡ t
  pub count : length leaf.keys ≡ count_of word
  pub kind : kind_of word ≡ 1
  pub small : word < 2 ^ 60
  pub new : has_key leaf.keys k ≡ false
  pub seen : seen_at v.reads (page_at v.layout.slots t 0) ≡ Some word

-- and the leaf has room for it
pub record CanAddKey (v : View) (t : ℕ) (sp : Span) (k : Key) (word : ℕ) : Type 0 where
  pub grows : CanGrow v t sp k word
  pub few : length grows.leaf.keys < tree_leaf.room

-- ---- what it comes to

-- The leaf with these keys in slot t, whose header had this word, has one key more, whose record is absent. Where the
-- header was kept as a part with these keys, its part goes on with one more, and the new record is kept, absent, too.
abbrev pub key_put : ℕ → Span → List Key → Key → ℕ → ℕ → View → View
key_put t sp keys k at word v = record v {
  steps = v.steps + 5;
  last = Some (glance v.steps at word);
  reads = added_reads (keeps_header_at v.seat.kept t (length keys)) (with_read v.reads at (word + lock_bit)) at (word + 1)
      (page_at v.layout.slots t (word_in tree_leaf (length keys)));
  seat = record v.seat {
    kept = kept_on (keeps_header_at v.seat.kept t (length keys)) v.seat.kept t sp keys k;
  };
  loaded = None;
  known = record { slot = t; keys = keys ++ k ∷ [] } ∷ record { slot = t; keys = keys } ∷ v.known;
}

-- The leaf has the key, and its record, which is absent, has its word here: behind those of the keys that it had.
pub record HasKeyPut (t : ℕ) (sp : Span) (k : Key) (word at : ℕ) (v w : View) : Type 0 where
  pub keys : List Key
  pub are : AreLeafKeys v t sp keys
  pub count : word ≡ open_word (length keys)
  pub record_at : IsTreeRecordAt w k (spot t (length keys)) at
  pub trees : TreesAgree w
  pub is : w ≡ key_put t sp keys k (page_at v.layout.slots t 0) word v

-- the header had changed, which was all that was seen
abbrev pub RefusesAdd : ℕ → ℕ → RefusalCause → View → View → Type 0
RefusesAdd t word (causes.Conflict at expected seen) v w =
    (expected ≡ word) × IsLeafWordChanged t 0 at expected seen v w × (w ≡ read_at at seen v)
RefusesAdd t word (causes.Full held) v w = ⊥
RefusesAdd t word (causes.Wide set) v w = ⊥
RefusesAdd t word (causes.NumberLimit clock) v w = ⊥

-- ---- under the header's lock

-- The one header that the pass has locked is that of the leaf in slot t with these keys, in whose page these words
-- stand.
pub record IsOneHead (v : View) (t : ℕ) (keys : List Key) (words : List ℕ) : Type 0 where
  pub only : v.heads ≡ record { slot = t; keys = keys; words = words } ∷ []
  pub long : length words ≡ 64

-- its words are these after so many stores
abbrev pub restored : ℕ → List Key → List ℕ → ℕ → View → View
restored t keys words n v =
    record v { steps = v.steps + n; heads = record { slot = t; keys = keys; words = words } ∷ [] }

-- words that no record has were stored in the leaf by so many stores
abbrev pub Stores : ℕ → (List ℕ → List ℕ) → ℕ → View → View → Type 0
Stores t f n v w = (keys : List Key) (words : List ℕ) → IsOneHead v t keys words → w ≡ restored t keys (f words) n v

-- The pass has a seat, and the one header that it has locked is that of the leaf in this slot, which has so many
-- records.
pub record CanStoreIn (v : View) (t n : ℕ) : Type 0 where
  pub active : IsActive v.role
  pub there : t < v.layout.slots
  pub keys : List Key
  pub words : List ℕ
  pub one : IsOneHead v t keys words
  pub count : length keys ≡ n

-- and no record has the word with this index
abbrev pub CanStoreWord : View → ℕ → ℕ → Type 0
CanStoreWord v t i = (n : ℕ) × CanStoreIn v t n × (is_spare n i ≡ true)

-- the record of a key that was never written
abbrev pub new_entry : Key → Entry
new_entry k = record { key = k.key; word = absent_word; value = 0 }
