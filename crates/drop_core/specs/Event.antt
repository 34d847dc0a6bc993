-- What may happen: the condition, the effect and the moves of each act of a seat, and lists of events.
use Rattle.std.specs.Prelude.{◌≡◌, ℕ, zero, suc, ◌+◌, ◌-◌, ◌==◌, ◌&&◌, ◌||◌, Bool, true, false, not, List, [], ◌∷◌, ◌++◌, map, filter, length, Option, Some, None, if◌then◌else◌, nat_lt, nat_le, is_none, is_some, slice_get, slice_set, Result, Ok, Err}
use Rattle.std.specs.List.{list_any, list_all}
use Rattle.std.specs.Option.{option_map_or}
use Rattle.lists.specs.declared.memory.OrMemory.{OrMemory}
use Rattle.lists.specs.declared.memory.OrMemory.TheVariants.{Fault, Memory}
use Rattle.serial_model.specs.declared.key.Key.{Key}
use Rattle.wire_form.specs.Leaves.{tree_leaf, minor, major}
use Rattle.homes.specs.declared.places.Content.{Content}
use Rattle.homes.specs.declared.places.Holder.{Holder}
use Rattle.homes.specs.declared.places.Holder.TheVariants.{Free, Held, Dead}
use Rattle.homes.specs.declared.places.At.{At}
use Rattle.homes.specs.declared.places.At.TheVariants.{Root, In}
use Rattle.homes.specs.declared.places.Span.{Span}
use Rattle.homes.specs.declared.places.Home.{Home}
use Rattle.homes.specs.declared.places.Home.TheVariants.{Nowhere}
use Rattle.homes.specs.declared.places.Move.{Move}
use Rattle.homes.specs.Homes.{same_key, same_at, same_span, same_home, has_key, in_span, is_free, holder_is, look, moved, moves_to}
use Rattle.drop_core.specs.declared.table.Led.{Led}
use Rattle.drop_core.specs.declared.table.Led.TheVariants.{Never, From, Away}
use Rattle.drop_core.specs.declared.table.SlotState.{SlotState}
use Rattle.drop_core.specs.declared.table.SlotState.TheVariants.{Unused, Owned, Published, Retired}
use Rattle.drop_core.specs.declared.table.Slot.{Slot}
use Rattle.drop_core.specs.declared.table.Page.{Page}
use Rattle.drop_core.specs.declared.table.Page.TheVariants.{Blank, Leaf, Inner, Split}
use Rattle.drop_core.specs.declared.table.Pointer.{Pointer}
use Rattle.drop_core.specs.declared.table.SnapPage.{SnapPage}
use Rattle.drop_core.specs.declared.table.SnapPage.TheVariants.{Missing, Entries, Children}
use Rattle.drop_core.specs.declared.table.Table.{Table}
use Rattle.drop_core.specs.declared.grip.Grip.{Grip}
use Rattle.drop_core.specs.declared.event.Twins.{Twins}
use Rattle.drop_core.specs.declared.event.Chain.{Chain}
use Rattle.drop_core.specs.declared.event.Act.{Act}
use Rattle.drop_core.specs.declared.event.Act.TheVariants.{Enter, Leave, Give, Publish, Retire, FillPage, FillPointer, FillSnapshot, Extend, Install, Swing, Renew, Shut, Reopen, FillHeader, LockHeader, OpenHeader, Twin, SwingChain}
use Rattle.drop_core.specs.declared.event.Event.{Event}
use Rattle.drop_core.specs.declared.event.NotAllowed.{NotAllowed}
use Rattle.drop_core.specs.Table.{fresh_slot, slot_of, page_of, no_span, pointer_of, header_of, snap_of, has_slot, at_index, snap_home, page_span, leaf_place, leaf_home, is_led, is_never, is_live, is_split}

-- what the seats share, and what each of them has
pub record DropState : Type 0 where
  pub table : Table
  pub grips : List Grip

-- ---- conditions on slots

-- a slot in this state may be given
abbrev pub can_be_given : SlotState → Bool
can_be_given Unused = true
can_be_given Owned = false
can_be_given Published = false
can_be_given Retired = true

-- the slot is owned by the seat that it was given to
abbrev pub is_owned : SlotState → Bool
is_owned Unused = false
is_owned Owned = true
is_owned Published = false
is_owned Retired = false

-- pointers may lead to the slot
abbrev pub is_published : SlotState → Bool
is_published Unused = false
is_published Owned = false
is_published Published = true
is_published Retired = false

-- the slot was published, and may have been retired since
abbrev pub is_given : SlotState → Bool
is_given Unused = false
is_given Owned = false
is_given Published = true
is_given Retired = true

-- a slot may be given so many times
abbrev pub most_times : ℕ
most_times = 70368744177663

-- A slot is held by so many seats at most, as its word counts them in 16 bits. `enters` says that this is no limit where
-- there are no more seats.
abbrev pub most_passes : ℕ
most_passes = 65535

-- The slot may be given: it is unused or retired, no seat holds it, and it was not given too often.
abbrev pub is_usable : Slot → Bool
is_usable x = can_be_given x.state && ((x.passes == 0) && nat_lt x.times most_times)

-- ---- conditions on pages

-- the test holds of each number below this one
abbrev pub all_below : ℕ → (ℕ → Bool) → Bool
all_below zero test = true
all_below (suc n) test = test n && all_below n test

-- each key of the entries passes
abbrev pub entries_pass : (Key → Bool) → List (Key × Content) → Bool
entries_pass test entries = list_all (λ e. test e.0) entries

-- each key that the page has an entry of passes
abbrev pub page_keys_pass : (Key → Bool) → SnapPage → Bool
page_keys_pass test Missing = true
page_keys_pass test (Entries span entries) = entries_pass test entries
page_keys_pass test (Children span children) = true

-- Each key that some snapshot page has an entry of passes. Any other key has no home in any of them.
abbrev pub keys_pass : (Key → Bool) → List (ℕ × SnapPage) → Bool
keys_pass test snaps = list_all (λ s. page_keys_pass test s.1) snaps

-- the key is outside of the span, or in the list, or has no home by page n
abbrev pub is_left_in : Table → ℕ → Span → List Key → Key → Bool
is_left_in d n span keys k = not (in_span span k) || (has_key keys k || same_home (snap_home d n k) Nowhere)

-- page n has no entry of a key of the span that isn't in the list
abbrev pub leaves_none_out : Table → ℕ → Span → List Key → Bool
leaves_none_out d n span keys = keys_pass (is_left_in d n span keys) d.snaps

-- the key is outside of the span, or has one home by both pages
abbrev pub is_same_at : Table → Span → ℕ → ℕ → Key → Bool
is_same_at d span m n k = not (in_span span k) || same_home (snap_home d m k) (snap_home d n k)

-- each key of the span has one home by both pages
abbrev pub same_below : Table → Span → ℕ → ℕ → Bool
same_below d span m n = keys_pass (is_same_at d span m n) d.snaps

-- each key is in the list once
abbrev pub each_once : List Key → Bool
each_once [] = true
each_once (k ∷ more) = not (has_key more k) && each_once more

-- The leaf with these keys may stand for page n over the span: its keys are each there once, all in the span, and
-- page n has no other.
abbrev pub is_leaf_for : Table → ℕ → Span → List Key → Bool
is_leaf_for d n span keys =
    each_once keys && (list_all (λ k. in_span span k) keys && leaves_none_out d n span keys)

-- the pointer with this index in the page of a slot
abbrev pub child : Table → ℕ → ℕ → Pointer
child d s j = pointer_of d (at_index s j)

-- where the child with this index has to begin: at the span's low end, or after the child before it
abbrev pub begins : Table → ℕ → Span → ℕ → Bool
begins d s span zero = (child d s 0).span.low == span.low
begins d s span (suc j) =
    nat_lt (child d s j).span.high (child d s (suc j)).span.low
    && ((child d s (suc j)).span.low - (child d s j).span.high == 1)

-- the child with this index, of so many, has its part of the span: the children's spans tile it, in order
abbrev pub is_tile : Table → ℕ → Span → ℕ → ℕ → Bool
is_tile d s span count j =
    ((child d s j).span.storage == span.storage)
    && (nat_le (child d s j).span.low (child d s j).span.high
    && (begins d s span j && (nat_lt (j + 1) count || ((child d s j).span.high == span.high))))

-- the child leads to no slot, and to a page that gives its keys the homes that page n gives them
abbrev pub is_same_child : Table → ℕ → ℕ → ℕ → Bool
is_same_child d s n j = is_none (child d s j).slot && same_below d (child d s j).span (child d s j).page n

-- The interior page with so many children may stand for page n over the span.
abbrev pub is_inner_for : Table → ℕ → ℕ → Span → ℕ → Bool
is_inner_for d s n span count =
    nat_lt 0 count
    && (all_below count (is_tile d s span count)
    && (all_below count (is_same_child d s n)
    && (all_below count (λ j. nat_le (child d s j).page d.published)
    && all_below count (λ j. is_free (child d s j).holder))))

-- the page in slot s may stand for the page that the pointer leads to
abbrev pub stands_for : Table → ℕ → ℕ → Span → Page → Bool
stands_for d s n span Blank = false
stands_for d s n span (Leaf keys) = is_leaf_for d n span keys
stands_for d s n span (Inner count) = is_inner_for d s n span count
stands_for d s n span Split = false

-- page n may stand for the page in slot s, and the seat has shut each pointer of that
abbrev pub is_stood_for : ℕ → Table → ℕ → ℕ → Span → Page → Bool
is_stood_for p d s n span Blank = false
is_stood_for p d s n span (Leaf keys) = leaves_none_out d n span keys
is_stood_for p d s n span (Inner count) =
    all_below count (is_same_child d s n) && all_below count (λ j. holder_is p (child d s j).holder)
is_stood_for p d s n span Split = false

-- a leaf, or no page
abbrev pub is_leaf_page : SnapPage → Bool
is_leaf_page Missing = true
is_leaf_page (Entries span entries) = true
is_leaf_page (Children span children) = false

-- the child with this index in the page of slot s is that of the list: over the same keys, to the same page
abbrev pub is_child_at : Table → ℕ → List (Span × ℕ) → ℕ → Bool
is_child_at d s children j =
    option_map_or (λ e. same_span (child d s j).span e.0 && ((child d s j).page == e.1)) (slice_get children j) false

-- the children, of so many, in the page of slot s are those of the snapshot page; no page has no child
abbrev pub has_children : Table → ℕ → ℕ → SnapPage → Bool
has_children d s count Missing = all_below count (λ j. (child d s j).page == 0)
has_children d s count (Entries span entries) = false
has_children d s count (Children span children) =
    (length children == count) && all_below count (is_child_at d s children)

-- The page in slot s is of the snapshot page's kind, and an interior one leads where that leads. No page is like an empty
-- page of either kind.
abbrev pub is_like : Table → ℕ → Page → SnapPage → Bool
is_like d s Blank snap = false
is_like d s (Leaf keys) snap = is_leaf_page snap
is_like d s (Inner count) snap = has_children d s count snap
is_like d s Split snap = false

-- page n is one, is published, and is over the span
abbrev pub is_page_over : Table → ℕ → Span → Bool
is_page_over d n span = nat_lt 0 n && (nat_le n d.published && same_span (page_span (snap_of d n)) span)

-- the page is filled, and leads to lower pages alone
abbrev pub leads_down : ℕ → SnapPage → Bool
leads_down n Missing = false
leads_down n (Entries span entries) = true
leads_down n (Children span children) = list_all (λ e. nat_lt e.1 n) children

-- the entries have values of keys of the span, each key once
abbrev pub are_entries_of : Span → List (Key × Content) → Bool
are_entries_of span [] = true
are_entries_of span (e ∷ more) =
    in_span span e.0
    && (is_some (e.1).value && (not (list_any (λ f. same_key f.0 e.0) more) && are_entries_of span more))

-- the part begins where the span does
abbrev pub is_first_part : Span → Span → Bool
is_first_part span part = (part.storage == span.storage) && ((part.low == span.low) && nat_le part.low part.high)

-- the part begins right after this key
abbrev pub is_next_part : Span → ℕ → Span → Bool
is_next_part span high part =
    (part.storage == span.storage)
    && (nat_le part.low part.high && (nat_lt high part.low && (part.low - high == 1)))

-- the children tile the keys of the span after this one, in order
abbrev pub tile_after : Span → ℕ → List (Span × ℕ) → Bool
tile_after span high [] = high == span.high
tile_after span high (e ∷ more) = is_next_part span high e.0 && tile_after span (e.0).high more

-- the children tile the span, in order
abbrev pub tile : Span → List (Span × ℕ) → Bool
tile span [] = false
tile span (e ∷ more) = is_first_part span e.0 && tile_after span (e.0).high more

-- there is no page, or the page is over the keys that it is named for
abbrev pub is_right_child : (ℕ → SnapPage) → (Span × ℕ) → Bool
is_right_child snaps e = (e.1 == 0) || same_span (page_span (snaps e.1)) e.0

-- The page is one for its span: a leaf has entries of these keys alone, each once and with a value; the children of an
-- interior page tile the span, and the pages that they name are over their parts.
abbrev pub is_right : (ℕ → SnapPage) → SnapPage → Bool
is_right snaps Missing = false
is_right snaps (Entries span entries) = are_entries_of span entries
is_right snaps (Children span children) = tile span children && list_all (is_right_child snaps) children

-- ---- leaves that grow, and leaves that are split

-- the keys of a page's records
abbrev pub leaf_keys : Page → List Key
leaf_keys Blank = []
leaf_keys (Leaf keys) = keys
leaf_keys (Inner count) = []
leaf_keys Split = []

-- a leaf to which keys are added has so many at most
abbrev pub most_records : ℕ
most_records = tree_leaf.room

-- a full leaf is split with one more key, into one of so many keys
abbrev pub minor_records : ℕ
minor_records = minor tree_leaf

-- and one of so many
abbrev pub major_records : ℕ
major_records = major tree_leaf

-- the keys that are below what leads to a slot
abbrev pub led_span : Table → Led → Span
led_span d Never = no_span
led_span d (From x) = (pointer_of d x).span
led_span d Away = no_span

-- the keys that the page in a slot is over, where something leads to it
abbrev pub slot_span : Table → ℕ → Span
slot_span d s = led_span d (slot_of d s).led

-- the page is a leaf over the span that has room for one more key, which is this one
abbrev pub takes_key : Span → Key → Page → Bool
takes_key span k Blank = false
takes_key span k (Leaf keys) = in_span span k && (not (has_key keys k) && nat_lt (length keys) most_records)
takes_key span k (Inner count) = false
takes_key span k Split = false

-- Seat p, which holds the header, may open it, as it was or with one more key. Seat 0 adds none.
abbrev pub can_open_header : ℕ → Table → ℕ → Option Key → Bool
can_open_header p d s None = holder_is p (header_of d s)
can_open_header p d s (Some k) =
    not (p == 0) && (holder_is p (header_of d s) && takes_key (slot_span d s) k (page_of d s))

-- the keys of the span below the separator
abbrev pub lower_span : Span → ℕ → Span
lower_span span separator = record { storage = span.storage; low = span.low; high = separator - 1 }

-- and those from it on
abbrev pub upper_span : Span → ℕ → Span
upper_span span separator = record { storage = span.storage; low = separator; high = span.high }

-- the page is a leaf with so many keys, each there once, all in the span
abbrev pub is_leaf_of : Span → ℕ → Page → Bool
is_leaf_of span count Blank = false
is_leaf_of span count (Leaf keys) =
    (length keys == count) && (each_once keys && list_all (λ k. in_span span k) keys)
is_leaf_of span count (Inner n) = false
is_leaf_of span count Split = false

-- the seat published the slot, and nothing has led to it
abbrev pub is_ready : Table → Grip → ℕ → Bool
is_ready d g s = has_slot g.made s && (is_published (slot_of d s).state && is_never (slot_of d s).led)

-- the seat may lead to the slot, whose page is a leaf with so many keys of the span, and an open header
abbrev pub is_half : Table → Grip → ℕ → Span → ℕ → Bool
is_half d g s span count = is_ready d g s && (is_free (header_of d s) && is_leaf_of span count (page_of d s))

-- each key is once in the list, which has those of both halves and no other, and all of the old ones
abbrev pub are_keys_of : List Key → List Key → List Key → List Key → Bool
are_keys_of old lower upper keys =
    each_once keys
    && (list_all (λ k. has_key lower k || has_key upper k) keys
    && (list_all (λ k. has_key keys k) lower
    && (list_all (λ k. has_key keys k) upper && list_all (λ k. has_key keys k) old)))

-- the separator is in the span, and not its first key
abbrev pub is_separator : Span → ℕ → Bool
is_separator span separator = nat_lt span.low separator && nat_le separator span.high

-- the key of the span's storage
abbrev pub key_in : Span → ℕ → Key
key_in span n = record { storage = span.storage; key = n }

-- Seat p, which has g, may split the leaf over the span: it holds the header of a full one; both halves are leaves
-- that it may lead to; they have the full one's keys and one more; and the separator is the first key of the major.
abbrev pub can_split : ℕ → Table → Grip → Span → Twins → Bool
can_split p d g span w =
    holder_is p (header_of d w.slot)
    && (is_separator span w.separator
    && (not (w.minor == w.major)
    && (is_half d g w.minor (lower_span span w.separator) minor_records
    && (is_half d g w.major (upper_span span w.separator) major_records
    && (is_leaf_of span most_records (page_of d w.slot)
    && (are_keys_of (leaf_keys (page_of d w.slot)) (leaf_keys (page_of d w.minor)) (leaf_keys (page_of d w.major)) w.keys
    && has_key (leaf_keys (page_of d w.major)) (key_in span w.separator)))))))

-- ---- chains: leaves that were split, with all that came of them

-- a chain of more pages is kept
abbrev pub most_pages : ℕ
most_pages = 63

-- the pointer leads to one of these slots
abbrev pub leads_into : Table → List ℕ → At → Bool
leads_into d slots x = option_map_or (has_slot slots) (pointer_of d x).slot false

-- the pointer is in the page of one of these slots
abbrev pub is_in : List ℕ → At → Bool
is_in gone (Root r) = false
is_in gone (In x) = has_slot gone x.slot

-- what leads to a slot is this pointer, or one in the page of one of these slots
abbrev pub is_led_within : At → List ℕ → Led → Bool
is_led_within x slots Never = false
is_led_within x slots (From y) = same_at x y || is_in slots y
is_led_within x slots Away = false

-- the page is a leaf whose keys are the chain's, or was split into pages of the chain
abbrev pub is_chain_page : Table → Chain → ℕ → Page → Bool
is_chain_page d c s Blank = false
is_chain_page d c s (Leaf keys) = list_all (λ k. has_key c.keys k) keys
is_chain_page d c s (Inner count) = false
is_chain_page d c s Split = leads_into d c.slots (at_index s 0) && leads_into d c.slots (at_index s 1)

-- seat p holds the header of the page in the slot, which the pointer or the chain leads to, and which ends it or
-- leads on in it
abbrev pub is_link : ℕ → Table → At → Chain → ℕ → Bool
is_link p d x c s =
    holder_is p (header_of d s)
    && (is_led_within x c.slots (slot_of d s).led && is_chain_page d c s (page_of d s))

-- the key is one of a leaf of these slots
abbrev pub is_key_in : Table → List ℕ → Key → Bool
is_key_in d slots k = list_any (λ s. has_key (leaf_keys (page_of d s)) k) slots

-- The chain is what hangs on the pointer, with each of its keys once, and seat p holds each header.
abbrev pub is_chain : ℕ → Table → At → Chain → Bool
is_chain p d x c =
    nat_le (length c.slots) most_pages
    && (leads_into d c.slots x
    && (not (is_in c.slots x)
    && (list_all (λ s. is_link p d x c s) c.slots
    && (each_once c.keys && list_all (λ k. is_key_in d c.slots k) c.keys))))

-- ---- conditions

-- a live pointer that nobody has shut
abbrev pub is_open : Table → At → Bool
is_open d x = is_live d x && is_free (pointer_of d x).holder

-- the seat may lead the pointer to the slot
abbrev pub can_install : Table → Grip → At → ℕ → Bool
can_install d g x s =
    is_open d x
    && (is_none (pointer_of d x).slot
    && ((has_slot g.made s && (is_published (slot_of d s).state && is_never (slot_of d s).led))
    && (is_like d s (page_of d s) (snap_of d (pointer_of d x).page)
    && stands_for d s (pointer_of d x).page (pointer_of d x).span (page_of d s))))

-- the pointer leads to a slot, for whose page the snapshot page n may stand
abbrev pub can_swing_from : ℕ → Table → At → ℕ → Option ℕ → Bool
can_swing_from p d x n None = false
can_swing_from p d x n (Some s) =
    is_like d s (page_of d s) (snap_of d n) && is_stood_for p d s n (pointer_of d x).span (page_of d s)

-- the snapshot page is published and is over these keys, or is none
abbrev pub is_target : Table → ℕ → Span → Bool
is_target d n span = nat_le n d.published && ((n == 0) || same_span (page_span (snap_of d n)) span)

-- the seat may lead the pointer to the snapshot page alone
abbrev pub can_swing : ℕ → Table → At → ℕ → Bool
can_swing p d x n =
    is_open d x
    && (is_target d n (pointer_of d x).span && can_swing_from p d x n (pointer_of d x).slot)

-- nobody but seat p can open it
abbrev pub is_closed_to_others : ℕ → Holder → Bool
is_closed_to_others p Free = false
is_closed_to_others p (Held q) = q == p
is_closed_to_others p Dead = true

-- nobody but seat p can add a key to the page in the slot, if there is one
abbrev pub keeps_header : ℕ → Table → Option ℕ → Bool
keeps_header p d None = true
keeps_header p d (Some s) = is_closed_to_others p (header_of d s)

-- The same where a chain hangs on the pointer: no leaf below the snapshot page, which may itself be an interior one,
-- has another key of the span.
abbrev pub can_swing_chain : ℕ → Table → At → ℕ → Chain → Bool
can_swing_chain p d x n c =
    is_open d x
    && (is_target d n (pointer_of d x).span
    && (is_chain p d x c && leaves_none_out d n (pointer_of d x).span c.keys))

-- seat p, which has g, may do this
abbrev pub is_allowed : ℕ → Table → Grip → Act → Bool
is_allowed p d g (Enter s) = nat_lt s d.room && (not (has_slot g.holds s) && nat_lt (slot_of d s).passes most_passes)
is_allowed p d g (Leave s) = has_slot g.holds s
is_allowed p d g (Give s) = nat_lt s d.room && is_usable (slot_of d s)
is_allowed p d g (Publish s) = is_owned (slot_of d s).state && has_slot g.made s
is_allowed p d g (Retire s) =
    is_published (slot_of d s).state && (not (is_led (slot_of d s).led) && (has_slot g.made s || has_slot g.taken s))
is_allowed p d g (FillPage s page) = is_owned (slot_of d s).state && has_slot g.made s
is_allowed p d g (FillPointer x q) = is_owned (slot_of d x.slot).state && has_slot g.made x.slot
is_allowed p d g (FillSnapshot n page) = (p == 0) && nat_lt d.published n
is_allowed p d g (Extend n) =
    (p == 0)
    && (nat_le d.published n
    && (all_below n (λ l. leads_down (l + 1) (snap_of d (l + 1)))
    && all_below n (λ l. is_right (snap_of d) (snap_of d (l + 1)))))
is_allowed p d g (Install x s) = not (p == 0) && can_install d g x s
is_allowed p d g (Swing x n) = can_swing p d x n && keeps_header p d (pointer_of d x).slot
is_allowed p d g (Renew x n) =
    is_open d x && (not (is_none (pointer_of d x).slot) && is_page_over d n (pointer_of d x).span)
is_allowed p d g (Shut x) = is_open d x
is_allowed p d g (Reopen x) = holder_is p (pointer_of d x).holder
is_allowed p d g (FillHeader s) = is_owned (slot_of d s).state && has_slot g.made s
is_allowed p d g (LockHeader s) =
    is_led (slot_of d s).led && (is_free (header_of d s) && ((p == 0) || not (is_split (page_of d s))))
is_allowed p d g (OpenHeader s added) = can_open_header p d s added
is_allowed p d g (Twin w) = not (p == 0) && can_split p d g (slot_span d w.slot) w
is_allowed p d g (SwingChain x n c) = can_swing_chain p d x n c

-- ---- effects

-- a slot is this now
abbrev pub with_slot : Table → ℕ → Slot → Table
with_slot d s x = record d { slots = (s, x) ∷ d.slots }

-- a pointer is this now
abbrev pub with_pointer : Table → At → Pointer → Table
with_pointer d x q = record d { pointers = (x, q) ∷ d.pointers }

-- a header is held so now
abbrev pub with_header : Table → ℕ → Holder → Table
with_header d s h = record d { headers = (s, h) ∷ d.headers }

-- the page, with one more key behind those that it has
abbrev pub with_key : Key → Page → Page
with_key k Blank = Blank
with_key k (Leaf keys) = Leaf (keys ++ k ∷ [])
with_key k (Inner count) = Inner count
with_key k Split = Split

-- the page in the slot has one more key, and its header is open
abbrev pub grown : Table → ℕ → Key → Table
grown d s k = record d { pages = (s, with_key k (page_of d s)) ∷ d.pages; headers = (s, Free) ∷ d.headers }

-- what the opened header leaves
abbrev pub header_opened : Table → ℕ → Option Key → Table
header_opened d s None = with_header d s Free
header_opened d s (Some k) = grown d s k

-- a pointer of a leaf that was split
abbrev pub twin_pointer : Span → ℕ → Pointer
twin_pointer span s = record { span = span; slot = Some s; page = 0; holder = Dead }

-- the leaf over the span is split: it leads to the two halves
abbrev pub twinned : Table → Span → Twins → Table
twinned d span w = record d {
  slots =
      (w.minor, record (slot_of d w.minor) { led = From (at_index w.slot 0) })
      ∷ (w.major, record (slot_of d w.major) { led = From (at_index w.slot 1) }) ∷ d.slots;
  pages = (w.slot, Split) ∷ d.pages;
  pointers =
      (at_index w.slot 0, twin_pointer (lower_span span w.separator) w.minor)
      ∷ (at_index w.slot 1, twin_pointer (upper_span span w.separator) w.major) ∷ d.pointers;
  headers = (w.slot, Free) ∷ d.headers;
}

-- the slots but for this one
abbrev pub without : List ℕ → ℕ → List ℕ
without slots s = filter (λ x. not (x == s)) slots

-- the pointer at x leads elsewhere, and the slot s from elsewhere
abbrev pub repointed : Table → At → ℕ → Led → Option ℕ → ℕ → Table
repointed d x s led slot page =
    with_pointer (with_slot d s (record (slot_of d s) { led = led })) x
    (record (pointer_of d x) { slot = slot; page = page })

-- the pointer leads to the slot
abbrev pub installed : Table → At → ℕ → Table
installed d x s = repointed d x s (From x) (Some s) (pointer_of d x).page

-- nothing leads to these slots any more
abbrev pub away_slots : List ℕ → List (ℕ × Slot) → List (ℕ × Slot)
away_slots [] slots = slots
away_slots (t ∷ more) slots =
    away_slots more ((t, record (look (λ a b. a == b) fresh_slot slots t) { led = Away }) ∷ slots)

-- a pointer in the page of one of these slots is dead
abbrev pub bury : List ℕ → At → Pointer → Pointer
bury gone y q = if is_in gone y then record q { holder = Dead } else q

-- all of those pointers are
abbrev pub buried_pointers : List ℕ → List (At × Pointer) → List (At × Pointer)
buried_pointers gone pointers = map (λ e. (e.0, bury gone e.0 e.1)) pointers

-- the headers of the pages in these slots are dead
abbrev pub dead_headers : List ℕ → List (ℕ × Holder) → List (ℕ × Holder)
dead_headers gone headers = map (λ s. (s, Dead)) gone ++ headers

-- nothing leads to these slots any more, and their pages are dead
abbrev pub buried : Table → List ℕ → Table
buried d gone = record d {
  slots = away_slots gone d.slots;
  pointers = buried_pointers gone d.pointers;
  headers = dead_headers gone d.headers;
}

-- the pointer leads to the snapshot page alone, and the slots are gone from it
abbrev pub dropped : Table → At → ℕ → List ℕ → Table
dropped d x n gone = with_pointer (buried d gone) x (record (pointer_of d x) { slot = None; page = n })

-- the table and the seat's own after an act
pub record Turned : Type 0 where
  pub table : Table
  pub grip : Grip

-- the table and the seat's own that an act leaves
abbrev pub turned : Table → Grip → Turned
turned d g = record { table = d; grip = g }

-- the slot that the pointer led to is dropped
abbrev pub swung : Table → Grip → At → ℕ → Option ℕ → Turned
swung d g x n None = turned d g
swung d g x n (Some s) = turned (dropped d x n (s ∷ [])) (record g { taken = s ∷ g.taken })

-- what an act of seat p comes to
abbrev pub effect : ℕ → Table → Grip → Act → Turned
effect p d g (Enter s) =
    turned (with_slot d s (record (slot_of d s) { passes = (slot_of d s).passes + 1 }))
    (record g { holds = s ∷ g.holds })
effect p d g (Leave s) =
    turned (with_slot d s (record (slot_of d s) { passes = (slot_of d s).passes - 1 }))
    (record g { holds = without g.holds s })
effect p d g (Give s) =
    turned
    (with_header (with_slot d s (record (slot_of d s) { state = Owned; times = (slot_of d s).times + 1; led = Never })) s Dead)
    (record g { made = s ∷ g.made })
effect p d g (Publish s) = turned (with_slot d s (record (slot_of d s) { state = Published })) g
effect p d g (Retire s) =
    turned (with_slot d s (record (slot_of d s) { state = Retired }))
    (record g { made = without g.made s; taken = without g.taken s })
effect p d g (FillPage s page) = turned (record d { pages = (s, page) ∷ d.pages }) g
effect p d g (FillPointer x q) = turned (with_pointer d (In x) q) g
effect p d g (FillSnapshot n page) = turned (record d { snaps = (n, page) ∷ d.snaps }) g
effect p d g (Extend n) = turned (record d { published = n }) g
effect p d g (Install x s) = turned (installed d x s) (record g { made = without g.made s })
effect p d g (Swing x n) = swung d g x n (pointer_of d x).slot
effect p d g (Renew x n) = turned (with_pointer d x (record (pointer_of d x) { page = n })) g
effect p d g (Shut x) = turned (with_pointer d x (record (pointer_of d x) { holder = Held p })) g
effect p d g (Reopen x) = turned (with_pointer d x (record (pointer_of d x) { holder = Free })) g
effect p d g (FillHeader s) = turned (with_header d s Free) g
effect p d g (LockHeader s) = turned (with_header d s (Held p)) g
effect p d g (OpenHeader s added) = turned (header_opened d s added) g
effect p d g (Twin w) =
    turned (twinned d (slot_span d w.slot) w) (record g { made = without (without g.made w.minor) w.major })
effect p d g (SwingChain x n c) = turned (dropped d x n c.slots) (record g { taken = c.slots ++ g.taken })

-- ---- moves

-- the keys of the records in the page of the slot, if there is one
abbrev pub keys_in : Table → Option ℕ → List Key
keys_in d None = []
keys_in d (Some s) = leaf_keys (page_of d s)

-- where a key goes as a leaf over the span is split
abbrev pub twin_home : Table → Span → Twins → Key → Home
twin_home d span w k =
    if in_span (lower_span span w.separator) k
    then leaf_home w.minor 0 (leaf_keys (page_of d w.minor)) k
    else leaf_home w.major 0 (leaf_keys (page_of d w.major)) k

-- the place behind the records of a page
abbrev pub next_place : Table → ℕ → Home
next_place d s = leaf_place s (length (leaf_keys (page_of d s)))

-- the move of the key that is added, if one is
abbrev pub moves_in : Table → ℕ → Option Key → List Move
moves_in d s None = []
moves_in d s (Some k) = moves_to (λ _. next_place d s) (k ∷ [])

-- The moves that an act is: an install of a leaf brings its keys to the leaf's places, and a swing over a leaf or a
-- chain brings them to the snapshot page; a key that is added goes to the place behind the others, and a split brings
-- the keys to the halves' places. No other act moves a key.
abbrev pub moves : Table → Act → List Move
moves d (Enter s) = []
moves d (Leave s) = []
moves d (Give s) = []
moves d (Publish s) = []
moves d (Retire s) = []
moves d (FillPage s page) = []
moves d (FillPointer x q) = []
moves d (FillSnapshot n page) = []
moves d (Extend n) = []
moves d (Install x s) = moves_to (leaf_home s 0 (leaf_keys (page_of d s))) (leaf_keys (page_of d s))
moves d (Swing x n) = moves_to (snap_home d n) (keys_in d (pointer_of d x).slot)
moves d (Renew x n) = []
moves d (Shut x) = []
moves d (Reopen x) = []
moves d (FillHeader s) = []
moves d (LockHeader s) = []
moves d (OpenHeader s added) = moves_in d s added
moves d (Twin w) = moves_to (twin_home d (slot_span d w.slot) w) w.keys
moves d (SwingChain x n c) = moves_to (snap_home d n) c.keys

-- ---- events

-- the event's condition: a seat that is there may do this
abbrev pub may_happen : DropState → Event → Bool
may_happen c e = option_map_or (λ g. is_allowed e.seat c.table g e.act) (slice_get c.grips e.seat) false

-- the state with what an act of this seat left
abbrev pub with_turned : DropState → ℕ → Turned → DropState
with_turned c p t = record { table = t.table; grips = slice_set c.grips p t.grip }

-- the state after the event
abbrev pub happened : DropState → Event → DropState
happened c e = option_map_or (λ g. with_turned c e.seat (effect e.seat c.table g e.act)) (slice_get c.grips e.seat) c

-- an event whose condition fails changes nothing
abbrev pub next : DropState → Event → DropState
next c e = if may_happen c e then happened c e else c

-- the homes after an event
abbrev pub next_homes : DropState → Event → (Key → Home) → Key → Home
next_homes c e homes = if may_happen c e then moved (moves c.table e.act) homes else homes

-- the events, one after another
abbrev pub run : List Event → DropState → DropState
run [] c = c
run (e ∷ more) c = run more (next c e)

-- the homes after the events
abbrev pub run_homes : List Event → DropState → (Key → Home) → Key → Home
run_homes [] c homes = homes
run_homes (e ∷ more) c homes = run_homes more (next c e) (next_homes c e homes)

-- ---- answers

-- the act adds to a list, or builds one anew
abbrev pub takes_memory : Act → Bool
takes_memory (Enter s) = true
takes_memory (Leave s) = true
takes_memory (Give s) = true
takes_memory (Publish s) = true
takes_memory (Retire s) = true
takes_memory (FillPage s page) = true
takes_memory (FillPointer x q) = true
takes_memory (FillSnapshot n page) = true
takes_memory (Extend n) = false
takes_memory (Install x s) = true
takes_memory (Swing x n) = true
takes_memory (Renew x n) = true
takes_memory (Shut x) = true
takes_memory (Reopen x) = true
takes_memory (FillHeader s) = true
takes_memory (LockHeader s) = true
takes_memory (OpenHeader s added) = true
takes_memory (Twin w) = true
takes_memory (SwingChain x n c) = true

-- What an act answers and leaves: it happens, with these moves, only where it is allowed, is refused only where it
-- is not, and wants memory only where it is allowed and takes memory; after the last two nothing is changed.
abbrev pub Answers : ℕ → Act → Table → Grip → Result (List Move) (OrMemory NotAllowed) → Table → Grip → Type 0
Answers p act d g (Ok m) e h =
    (is_allowed p d g act ≡ true) × (m ≡ moves d act) × (e ≡ (effect p d g act).table) × (h ≡ (effect p d g act).grip)
Answers p act d g (Err (Fault r)) e h = (is_allowed p d g act ≡ false) × (e ≡ d) × (h ≡ g)
Answers p act d g (Err Memory) e h = (is_allowed p d g act ≡ true) × (takes_memory act ≡ true) × (e ≡ d) × (h ≡ g)

-- the same of an event and the whole state
abbrev pub AnswersEvent : DropState → Event → Result (List Move) (OrMemory NotAllowed) → DropState → Type 0
AnswersEvent c e (Ok m) d = (may_happen c e ≡ true) × (m ≡ moves c.table e.act) × (d ≡ happened c e)
AnswersEvent c e (Err (Fault r)) d = (may_happen c e ≡ false) × (d ≡ c)
AnswersEvent c e (Err Memory) d = (may_happen c e ≡ true) × (takes_memory e.act ≡ true) × (d ≡ c)
