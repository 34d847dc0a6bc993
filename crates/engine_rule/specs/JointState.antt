-- Both machines together, and what of a word of a page is compared.
use Rattle.std.specs.Prelude.{ℕ, ◌==◌, ◌&&◌, ◌||◌, Bool, true, false, not, List, [], length, Option, Some, None}
use Rattle.std.specs.Prelude.{is_none}
use Rattle.std.specs.List.{list_any, list_all}
use Rattle.std.specs.Option.{option_map_or}
use Rattle.homes.specs.declared.places.At.{At}
use Rattle.homes.specs.declared.places.At.TheVariants.{Root, In}
use Rattle.commit_core.specs.declared.part.Word.{Word}
use Rattle.commit_core.specs.declared.part.Word.TheVariants.{Record, Pointer, Header}
use Rattle.commit_core.specs.declared.part.Version.{Version}
use Rattle.commit_core.specs.declared.part.Version.TheVariants.{Numbered, Leads, Counted}
use Rattle.commit_core.specs.declared.part.Part.{Part}
use Rattle.commit_core.specs.declared.attempt.Attempt.{Attempt}
use Rattle.commit_core.specs.declared.seat.Seat.{Seat}
use Rattle.commit_core.specs.declared.story.Story.{Story}
use Rattle.commit_core.specs.CoreState.{CoreState, attempt_tried}
use Rattle.homes.specs.Homes.{is_free}
use Rattle.commit_core.specs.Places.{is_open_to}
use Rattle.commit_core.specs.Parts.{same_word}
use Rattle.drop_core.specs.declared.table.Page.{Page}
use Rattle.drop_core.specs.declared.table.Page.TheVariants.{Blank, Leaf, Inner, Split}
use Rattle.drop_core.specs.declared.table.Pointer.{Pointer as Leading}
use Rattle.drop_core.specs.declared.table.Table.{Table}
use Rattle.drop_core.specs.declared.grip.Grip.{Grip}
use Rattle.drop_core.specs.Table.{slot_of, page_of, pointer_of, header_of, has_slot, is_led}
use Rattle.drop_core.specs.Event.{DropState, leaf_keys, slot_span, is_open}

-- the machine of commits and the machine of pages, with the same seats
pub record JointState : Type 0 where
  pub commits : CoreState
  pub pages : DropState

-- ---- where words stand

-- the slot in whose page the pointer stands
abbrev pub slot_at : At → Option ℕ
slot_at (Root r) = None
slot_at (In x) = Some x.slot

-- the slot in whose page the word stands
abbrev pub slot_of_word : Word → Option ℕ
slot_of_word (Record x) = Some x.slot
slot_of_word (Pointer x) = slot_at x
slot_of_word (Header s) = Some s

-- it is this slot
abbrev pub is_slot : ℕ → Option ℕ → Bool
is_slot s None = false
is_slot s (Some t) = t == s

-- one of the words that are kept stands in the slot's page
abbrev pub keeps_word : List Part → ℕ → Bool
keeps_word kept s = list_any (λ part. is_slot s (slot_of_word part.word)) kept

-- the seat holds the slot, if there is one
abbrev pub holds_slot : Grip → Option ℕ → Bool
holds_slot g None = true
holds_slot g (Some s) = has_slot g.holds s

-- ---- a pointer that is read, and read again

-- The seat may keep the pointer: it is live, nobody has shut it, it leads to no slot, and the seat holds the slot that
-- it stands in.
abbrev pub can_see : Table → Grip → At → Bool
can_see d g x = is_open d x && (is_none (pointer_of d x).slot && holds_slot g (slot_at x))

-- the pointer leads to no slot, and to the page of the version: both halves are compared
abbrev pub leads_so : Leading → Version → Bool
leads_so q (Numbered n there) = false
leads_so q (Leads n) = is_none q.slot && q.page == n
leads_so q (Counted n) = false

-- the same, and nobody but the seat has shut it
abbrev pub is_pointer_so : ℕ → Leading → Version → Bool
is_pointer_so p q v = is_open_to p q.holder && leads_so q v

-- each part of the attempt with this pointer's word, of which there is one, is as it was read
abbrev pub pointer_stays : ℕ → Table → At → Attempt → Bool
pointer_stays p d x a =
    list_all (λ part. not (same_word part.word (Pointer x)) || is_pointer_so p (pointer_of d x) part.version) a.parts

-- the same of the attempt in progress, if there is one
abbrev pub is_so_now : ℕ → Table → Story → Seat → At → Bool
is_so_now p d m s x = option_map_or (pointer_stays p d x) (attempt_tried m.history s.stage) false

-- ---- a header that is read, and read again

-- a leaf
abbrev pub is_leaf : Page → Bool
is_leaf Blank = false
is_leaf (Leaf keys) = true
is_leaf (Inner n) = false
is_leaf Split = false

-- The seat may keep the header: it is of a leaf to which something leads, nobody holds it, and the seat holds the slot.
abbrev pub can_see_header : Table → Grip → ℕ → Bool
can_see_header d g s =
    is_led (slot_of d s).led && (is_leaf (page_of d s) && (is_free (header_of d s) && has_slot g.holds s))

-- the version counts so many records
abbrev pub is_counted : ℕ → Version → Bool
is_counted n (Numbered m there) = false
is_counted n (Leads page) = false
is_counted n (Counted m) = n == m

-- the page is a leaf with as many records as the version counts
abbrev pub counts_so : Page → Version → Bool
counts_so Blank v = false
counts_so (Leaf keys) v = is_counted (length keys) v
counts_so (Inner n) v = false
counts_so Split v = false

-- the page of the slot counts so, and nobody holds its header: not the seat itself either
abbrev pub is_header_so : Table → ℕ → Version → Bool
is_header_so d t v = is_free (header_of d t) && counts_so (page_of d t) v

-- each part of the attempt with this header's word, of which there is one, is as it was read
abbrev pub header_stays : Table → ℕ → Attempt → Bool
header_stays d t a =
    list_all (λ part. not (same_word part.word (Header t)) || is_header_so d t part.version) a.parts

-- the same of the attempt in progress, if there is one
abbrev pub is_header_so_now : Table → Story → Seat → ℕ → Bool
is_header_so_now d m s t = option_map_or (header_stays d t) (attempt_tried m.history s.stage) false

-- the part of a header: it vouches that no key of the leaf's span is there but those of its records
abbrev pub header_part : Table → ℕ → Part
header_part d t = record {
  word = Header t;
  version = Counted (length (leaf_keys (page_of d t)));
  span = slot_span d t;
  less = leaf_keys (page_of d t);
  pairs = [];
}

-- what is kept has a part of the header, with so many records
abbrev pub keeps_header_at : List Part → ℕ → ℕ → Bool
keeps_header_at kept t n = list_any (λ part. same_word part.word (Header t) && is_counted n part.version) kept
