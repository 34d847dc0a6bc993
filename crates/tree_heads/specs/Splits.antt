-- What the split of a full leaf asks and tells: its header is stored as moved, and leads to its halves from then on.
use Rattle.std.specs.Prelude.{◌≡◌, ◌≢◌, ◌⊎◌, ℕ, ◌+◌, true, false, not, List, ◌∷◌, filter, length, get_or}
use Rattle.std.specs.Prelude.{slice_get, Some, None}
use Rattle.std.specs.Prelude.{Contains, if◌then◌else◌}
use Rattle.atomic_table.specs.Table.{Step}
use Rattle.serial_model.specs.declared.key.Key.{Key}
use Rattle.homes.specs.declared.places.Content.{Content}
use Rattle.homes.specs.declared.places.Span.{Span}
use Rattle.homes.specs.Homes.{has_key}
use Rattle.wire_form.specs.Leaves.{tree_leaf, minor, major}
use Rattle.wire_form.specs.Words.{absent_field, number_word}
use Rattle.commit_core.specs.CoreState.{can_begin, settled}
use Rattle.commit_core.specs.Keys.{nothing}
use Rattle.drop_core.specs.Event.{are_keys_of, is_separator, key_in, lower_span, upper_span, without}
use Rattle.drop_core.specs.Table.{has_slot}
use Rattle.engine_pages.specs.declared.view.Head.{Head}
use Rattle.engine_pages.specs.declared.view.Known.{Known}
use Rattle.engine_pages.specs.declared.view.NewLeaf.{NewLeaf}
use Rattle.engine_pages.specs.declared.view.Role.TheVariants.{Keeper}
use Rattle.engine_pages.specs.declared.view.Took.{Took}
use Rattle.engine_pages.specs.declared.view.View.{View}
use Rattle.engine_pages.specs.Agreement.{TreesAgree}
use Rattle.engine_pages.specs.Layout.{page_at}
use Rattle.engine_pages.specs.Pointers.{WaysAgree, ways_if}
use Rattle.engine_pages.specs.Slots.{other_copies, other_heads, other_inners, other_leaves}
use Rattle.engine_pages.specs.Steps.{with_read}
use Rattle.engine_pages.specs.Words.{IsSmall, head_word}
use Rattle.tree_heads.specs.Headers.{IsTreeAt}

-- the header of a leaf with so many records that was split, and is open
abbrev pub moved_word : ℕ → ℕ
moved_word count = head_word count 1 0 true

-- ---- what stands at the keys that move

-- The pass has locked the key's record, whose word said this number and whether there is a value; the value was seen to
-- have stood there with it.
pub record IsLockedAs (v : View) (k : Key) (c : Content) : Type 0 where
  pub took : Took
  pub has : Contains v.took took
  pub key : took.key ≡ k
  pub locked : has_key v.seat.locks k ≡ true
  pub small : IsSmall c.number
  pub word : took.word ≡ number_word c.number + absent_field tree_leaf c.value
  pub value : (c.value ≡ None) ⊎ Contains v.versions (record { key = k; content = c })

-- a record of a half has what stands at its key, which the leaf has and the pass has locked, or is new and absent
abbrev pub IsMoving : View → List Key → Key → Content → Type 0
IsMoving v old k c = IsLockedAs v k c ⊎ ((has_key old k ≡ false) × (c ≡ nothing))

-- so it is of each record of a half
abbrev pub AreMoving : View → List Key → NewLeaf → Type 0
AreMoving v old x = (i : ℕ) (k : Key) (c : Content) → slice_get x.keys i ≡ Some k → slice_get x.contents i ≡ Some c
    → IsMoving v old k c

-- ---- what the split asks

-- The pass, which is a worker's and has no attempt, has locked the header of a full leaf and published two leaves over
-- both parts of its keys, which have its keys and one more, with what stands at them; their slots and the first key of
-- the second stand in the words of the leaf's page.
pub record CanSplit
    (v : View) (t : ℕ) (sp : Span) (lower upper : NewLeaf) (keys : List Key) (separator n : ℕ)
    : Type 0 where
  pub page : IsTreeAt v t sp
  pub head : Head
  pub has : Contains v.heads head
  pub slot : head.slot ≡ t
  pub full : length head.keys ≡ tree_leaf.room
  pub to_minor : get_or head.words 3 0 ≡ lower.slot + 1
  pub to_major : get_or head.words 4 0 ≡ upper.slot + 1
  pub separates : get_or head.words 5 0 ≡ separator
  pub lower_made : Contains v.new_leaves lower
  pub upper_made : Contains v.new_leaves upper
  pub apart : lower.slot ≢ upper.slot
  pub parts : is_separator sp separator ≡ true
  pub lower_span_is : lower.span ≡ lower_span sp separator
  pub upper_span_is : upper.span ≡ upper_span sp separator
  pub lower_keys : length lower.keys ≡ minor tree_leaf
  pub upper_keys : length upper.keys ≡ major tree_leaf
  pub keys_are : are_keys_of head.keys lower.keys upper.keys keys ≡ true
  pub first : has_key upper.keys (key_in sp separator) ≡ true
  pub old : (k : Key) → has_key head.keys k ≡ true → has_key v.seat.locks k ≡ true
  pub lower_moves : AreMoving v head.keys lower
  pub upper_moves : AreMoving v head.keys upper
  pub word : n ≡ moved_word tree_leaf.room
  pub worker : v.role ≡ Keeper → ⊥
  pub idle : can_begin v.seat.stage ≡ true

-- ---- what it tells

-- the keys of a half that the pass holds are known
abbrev pub half_known : View → NewLeaf → List Known → List Known
half_known v x known =
    if has_slot v.grip.holds x.slot then record { slot = x.slot; keys = x.keys } ∷ known else known

-- The leaf was split: its halves are the pass's own no more, and where it holds them they are known to be over their
-- parts of the keys; it has no lock of these keys.
abbrev pub split_at : ℕ → Span → NewLeaf → NewLeaf → List Key → ℕ → ℕ → ℕ → View → View
split_at t sp lower upper keys separator at n v = record v {
  steps = v.steps + 1;
  reads = with_read (with_read (with_read v.reads at n) (page_at v.layout.slots t 3) (lower.slot + 1))
      (page_at v.layout.slots t 4) (upper.slot + 1);
  seat = settled (record v.seat { locks = filter (λ q. not (has_key keys q)) v.seat.locks });
  took = filter (λ q. not (has_key keys q.key)) v.took;
  loaded = None;
  grip = record v.grip { made = without (without v.grip.made lower.slot) upper.slot };
  ways = ways_if (has_slot v.grip.holds lower.slot) lower.slot lower.span
      (ways_if (has_slot v.grip.holds upper.slot) upper.slot upper.span v.ways);
  copies = other_copies lower.slot (other_copies upper.slot v.copies);
  blanks = without (without v.blanks lower.slot) upper.slot;
  new_leaves = other_leaves lower.slot (other_leaves upper.slot v.new_leaves);
  new_inners = other_inners lower.slot (other_inners upper.slot v.new_inners);
  known = half_known v lower (half_known v upper v.known);
  heads = other_heads t v.heads;
  moved = record { slot = t; minor = lower.slot; major = upper.slot; separator = separator } ∷ v.moved;
}

-- the leaf was split
pub record HasSplit
    (t : ℕ) (sp : Span) (lower upper : NewLeaf) (keys : List Key) (separator at n : ℕ) (v w : View)
    : Type 0 where
  pub is : w ≡ split_at t sp lower upper keys separator at n v
  pub agree : WaysAgree w.ways
  pub trees : TreesAgree w

-- the same of the step
abbrev pub SplitsLeaf : ℕ → Span → NewLeaf → NewLeaf → List Key → ℕ → Step (Unit {0}) → View → ℕ → View → Type 0
SplitsLeaf t sp lower upper keys separator s v n w =
    (n ≡ s.first) × HasSplit t sp lower upper keys separator s.word s.first v w
