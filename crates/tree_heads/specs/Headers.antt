-- What loads of the pages of trees tell that are no act: of headers, and of words that never change.
use Rattle.std.specs.Prelude.{◌≡◌, ℕ, suc, ◌+◌, ◌/◌, ◌%◌, ◌^◌, ◌<◌, ◌≤◌, ◌==◌, true, false, List, ◌∷◌, length}
use Rattle.std.specs.Prelude.{nat_lt, get_or, slice_get, Some, Contains, MatchBool}
use Rattle.atomic_table.specs.Table.{Step}
use Rattle.lists.specs.Fronts.{IsFront}
use Rattle.serial_model.specs.declared.key.Key.{Key}
use Rattle.homes.specs.declared.places.Span.{Span}
use Rattle.homes.specs.Homes.{has_key, in_span}
use Rattle.wire_form.specs.Leaves.{tree_leaf, tree_fan, record_start}
use Rattle.drop_core.specs.Event.{each_once, lower_span, upper_span}
use Rattle.drop_core.specs.Table.{has_slot}
use Rattle.engine_pages.specs.declared.view.Inner.{Inner}
use Rattle.engine_pages.specs.declared.view.Known.{Known}
use Rattle.engine_pages.specs.declared.view.Moved.{Moved}
use Rattle.engine_pages.specs.declared.view.View.{View}
use Rattle.engine_pages.specs.Agreement.{TreesAgree}
use Rattle.engine_pages.specs.Pages.{is_tree}
use Rattle.engine_pages.specs.Pointers.{WaysAgree, ways_if}
use Rattle.engine_pages.specs.Steps.{IsLoad, glanced, read_at}
use Rattle.engine_pages.specs.Words.{head_word, separators_at}

-- a page of a tree that the pass holds, made for these keys
pub record IsTreeAt (v : View) (t : ℕ) (sp : Span) : Type 0 where
  pub way : Contains v.ways (record { slot = t; span = sp })
  pub tree : is_tree v.layout.decls sp.storage ≡ true

-- ---- what a header's word says

-- how many records a leaf has or had, or how many children an interior page has
abbrev pub count_of : ℕ → ℕ
count_of n = n % 2 ^ 8

-- 1 for a leaf, also one that was split, and 2 for an interior page
abbrev pub kind_of : ℕ → ℕ
kind_of n = (n / 2 ^ 8) % 2 ^ 8

-- the header of a leaf with so many records that is neither locked nor moved
abbrev pub open_word : ℕ → ℕ
open_word count = head_word count 1 0 false

-- headers of leaves that were split have this bit
abbrev pub moved_bit : ℕ
moved_bit = 2 ^ 62

-- a moved header that is locked, or dead, is this or more
abbrev pub moved_locked : ℕ
moved_locked = 2 ^ 62 + 2 ^ 60

-- ---- a header is loaded

-- The first keys of a leaf over these keys: each once, and all in its span; what was known of them is a front of them.
pub record AreLeafKeys (v : View) (t : ℕ) (sp : Span) (keys : List Key) : Type 0 where
  pub few : length keys ≤ tree_leaf.room
  pub once : each_once keys ≡ true
  pub inside : (k : Key) → has_key keys k ≡ true → in_span sp k ≡ true
  pub known : (x : Known) → Contains v.known x → x.slot ≡ t → IsFront x.keys keys

-- the keys of the leaf are known
abbrev pub knew : ℕ → List Key → View → View
knew t keys v = record v { known = record { slot = t; keys = keys } ∷ v.known }

-- the leaf was split, and its halves are known
abbrev pub met_moved : ℕ → ℕ → ℕ → ℕ → View → View
met_moved t minor major separator v =
    record v { moved = record { slot = t; minor = minor; major = major; separator = separator } ∷ v.moved }

-- the separators of the interior page are known
abbrev pub met_inner : ℕ → List ℕ → View → View
met_inner t separators v = record v { inners = record { slot = t; separators = separators } ∷ v.inners }

-- the pass knows no split of the leaf in this slot
abbrev pub IsUnmoved : View → ℕ → Type 0
IsUnmoved v t = (x : Moved) → Contains v.moved x → x.slot ≡ t → ⊥

-- The leaf has as many keys as the word counts, and wasn't split; no bit above that of the lock stands in the word.
pub record HasHeader (t : ℕ) (sp : Span) (at : ℕ) (v : View) (n : ℕ) (w : View) : Type 0 where
  pub keys : List Key
  pub are : AreLeafKeys v t sp keys
  pub few : n < 2 ^ 61
  pub count : length keys ≡ count_of n
  pub unmoved : IsUnmoved v t
  pub trees : TreesAgree w
  pub is : w ≡ knew t keys (read_at at n v)

-- It had as many, and was split, which is the one bit above that of the lock: where nobody has locked the header, its
-- halves are in slots that there are.
pub record HasTwins (t : ℕ) (sp : Span) (at : ℕ) (v : View) (n : ℕ) (w : View) : Type 0 where
  pub keys : List Key
  pub are : AreLeafKeys v t sp keys
  pub few : n < 2 ^ 62 + 2 ^ 61
  pub count : length keys ≡ count_of n
  pub minor : ℕ
  pub major : ℕ
  pub separator : ℕ
  pub there : n < moved_locked → (minor < v.layout.slots) × (major < v.layout.slots)
  pub trees : TreesAgree w
  pub is : w ≡ met_moved t minor major separator (knew t keys (read_at at n v))

-- the interior page has as many children as the word counts, one more than separators
pub record HasChildren (t : ℕ) (at : ℕ) (v : View) (n : ℕ) (w : View) : Type 0 where
  pub separators : List ℕ
  pub few : length separators < tree_fan
  pub count : suc (length separators) ≡ count_of n
  pub unmoved : IsUnmoved v t
  pub trees : TreesAgree w
  pub is : w ≡ met_inner t separators (read_at at n v)

-- a header tells what page it is, its count, and whether it was split
abbrev pub Headed : ℕ → Span → ℕ → View → ℕ → View → Type 0
Headed t sp at v n w = MatchBool (kind_of n == 1)
    (MatchBool (nat_lt n moved_bit) (HasHeader t sp at v n w) (HasTwins t sp at v n w)) (HasChildren t at v n w)

-- the same of the step
abbrev pub LoadsHeader : ℕ → Span → Step (Unit {0}) → View → ℕ → View → Type 0
LoadsHeader t sp s v n w = IsLoad s × Headed t sp s.word v n w

-- ---- words that never change

-- The word with this index of the page is the one that the pass knows: of a key, of a separator, or of a split.
pub record HasWord (t i at : ℕ) (v : View) (n : ℕ) (w : View) : Type 0 where
  pub is : w ≡ glanced at n v
  pub key : (x : Known) (j : ℕ) (k : Key) → Contains v.known x → x.slot ≡ t → slice_get x.keys j ≡ Some k
      → i ≡ record_start tree_leaf j → n ≡ k.key
  pub separator : (x : Inner) (j : ℕ) → Contains v.inners x → x.slot ≡ t → j < length x.separators
      → i ≡ separators_at + j → n ≡ get_or x.separators j 0
  pub minor : (x : Moved) → Contains v.moved x → x.slot ≡ t → i ≡ 3 → n ≡ x.minor + 1
  pub major : (x : Moved) → Contains v.moved x → x.slot ≡ t → i ≡ 4 → n ≡ x.major + 1
  pub parted : (x : Moved) → Contains v.moved x → x.slot ≡ t → i ≡ 5 → n ≡ x.separator

-- the same of the step
abbrev pub LoadsWord : ℕ → ℕ → Step (Unit {0}) → View → ℕ → View → Type 0
LoadsWord t i s v n w = IsLoad s × HasWord t i s.word v n w

-- ---- a split leaf is followed

-- the halves that the pass holds have their parts of the keys
abbrev pub twin_ways : Moved → Span → View → View
twin_ways x sp v = record v {
  ways = ways_if (has_slot v.grip.holds x.minor) x.minor (lower_span sp x.separator)
      (ways_if (has_slot v.grip.holds x.major) x.major (upper_span sp x.separator) v.ways);
}

-- The split leaf still leads to its halves, which the view knows as these.
pub record HasTwinWays (t : ℕ) (sp : Span) (at : ℕ) (v : View) (n : ℕ) (w : View) : Type 0 where
  pub is : (x : Moved) → Contains v.moved x → x.slot ≡ t → w ≡ twin_ways x sp (read_at at n v)
  pub layout : w.layout ≡ v.layout
  pub agree : WaysAgree w.ways
  pub trees : TreesAgree w

-- the header of a split leaf is loaded again, and says so: where nobody has locked it, its halves are still what it
-- leads to
abbrev pub MetAgain : ℕ → Span → ℕ → View → ℕ → View → Type 0
MetAgain t sp at v n w = (moved_bit ≤ n)
    × MatchBool (nat_lt n moved_locked) (HasTwinWays t sp at v n w) (w ≡ read_at at n v)

-- the same of the step
abbrev pub MeetsAgain : ℕ → Span → Step (Unit {0}) → View → ℕ → View → Type 0
MeetsAgain t sp s v n w = IsLoad s × MetAgain t sp s.word v n w
