-- The shared state: slots, the pages in them, pointers, and snapshot pages.
use Rattle.std.specs.Prelude.{ℕ, zero, suc, ◌==◌, ◌&&◌, Bool, true, false, not, List, [], ◌∷◌, Option, Some, None, if◌then◌else◌, nat_lt, cond}
use Rattle.std.specs.List.{list_any, sum_by}
use Rattle.serial_model.specs.declared.key.Key.{Key}
use Rattle.homes.specs.declared.places.Content.{Content}
use Rattle.homes.specs.declared.places.Holder.{Holder}
use Rattle.homes.specs.declared.places.Holder.TheVariants.{Dead}
use Rattle.homes.specs.declared.places.At.{At}
use Rattle.homes.specs.declared.places.At.TheVariants.{Root, In}
use Rattle.homes.specs.declared.places.Span.{Span}
use Rattle.homes.specs.declared.places.Home.{Home}
use Rattle.homes.specs.declared.places.Home.TheVariants.{InSlot, InPage, Nowhere}
use Rattle.homes.specs.Homes.{same_key, same_at, in_span, look}
use Rattle.drop_core.specs.declared.table.Led.{Led}
use Rattle.drop_core.specs.declared.table.Led.TheVariants.{Never, From, Away}
use Rattle.drop_core.specs.declared.table.SlotState.TheVariants.{Unused}
use Rattle.drop_core.specs.declared.table.Slot.{Slot}
use Rattle.drop_core.specs.declared.table.Page.{Page}
use Rattle.drop_core.specs.declared.table.Page.TheVariants.{Blank, Leaf, Inner, Split}
use Rattle.drop_core.specs.declared.table.Pointer.{Pointer}
use Rattle.drop_core.specs.declared.table.SnapPage.{SnapPage}
use Rattle.drop_core.specs.declared.table.SnapPage.TheVariants.{Missing, Entries, Children}
use Rattle.drop_core.specs.declared.table.Table.{Table}
use Rattle.drop_core.specs.declared.grip.Grip.{Grip}

-- ---- look-ups

-- a slot that was never given
abbrev pub fresh_slot : Slot
fresh_slot = record { state = Unused; passes = 0; times = 0; led = Never }

-- the slot of a number
abbrev pub slot_of : Table → ℕ → Slot
slot_of d s = look (λ a b. a == b) fresh_slot d.slots s

-- what the page in a slot is laid out as
abbrev pub page_of : Table → ℕ → Page
page_of d s = look (λ a b. a == b) Blank d.pages s

-- a span without keys
abbrev pub no_span : Span
no_span = record { storage = 0; low = 1; high = 0 }

-- what stands where no pointer is
abbrev pub no_pointer : Pointer
no_pointer = record { span = no_span; slot = None; page = 0; holder = Dead }

-- the pointer that stands there
abbrev pub pointer_of : Table → At → Pointer
pointer_of d x = look same_at no_pointer d.pointers x

-- who holds the header of the page in a slot; a page without one has one that is dead
abbrev pub header_of : Table → ℕ → Holder
header_of d s = look (λ a b. a == b) Dead d.headers s

-- the snapshot page of a number
abbrev pub snap_of : Table → ℕ → SnapPage
snap_of d n = look (λ a b. a == b) Missing d.snaps n

-- the slot is in the list
abbrev pub has_slot : List ℕ → ℕ → Bool
has_slot slots s = list_any (λ x. x == s) slots

-- the pointer with this index in the page of a slot
abbrev pub at_index : ℕ → ℕ → At
at_index s j = In (record { slot = s; index = j })

-- ---- where a snapshot page has a key. A page names lower pages alone, so its number bounds the way

-- a key's home by the entries of page n
abbrev pub entry_home : ℕ → List (Key × Content) → Key → Home
entry_home n [] k = Nowhere
entry_home n (e ∷ more) k = if same_key e.0 k then InPage n e.1 else entry_home n more k

-- the page that the first child with the key leads to, or 0
abbrev pub child_of : List (Span × ℕ) → Key → ℕ
child_of [] k = 0
child_of (e ∷ more) k = if in_span e.0 k then e.1 else child_of more k

-- a key's home by page n, given its homes by other pages
abbrev pub snap_step : (ℕ → Key → Home) → ℕ → Key → SnapPage → Home
snap_step down n k Missing = Nowhere
snap_step down n k (Entries span entries) = entry_home n entries k
snap_step down n k (Children span children) = down (child_of children k) k

-- a key's home by page n, on a way of so many pages at most
unfoldable pub snap_walk : ℕ → (ℕ → SnapPage) → ℕ → Key → Home
snap_walk zero snaps n k = Nowhere
snap_walk (suc f) snaps n k = snap_step (λ m q. snap_walk f snaps m q) n k (snaps n)

-- a key's home by page n; page 0 has nothing
abbrev pub snap_home : Table → ℕ → Key → Home
snap_home d n k = snap_walk n (snap_of d) n k

-- the keys that a page is over
abbrev pub page_span : SnapPage → Span
page_span Missing = no_span
page_span (Entries span entries) = span
page_span (Children span children) = span

-- ---- the home of a key in a leaf

-- the place with this index in the page of a slot, as a home
abbrev pub leaf_place : ℕ → ℕ → Home
leaf_place s i = InSlot (record { slot = s; index = i })

-- the home of a key in the leaf of a slot, where the first of these keys has this index
abbrev pub leaf_home : ℕ → ℕ → List Key → Key → Home
leaf_home s i [] k = Nowhere
leaf_home s i (x ∷ more) k = if same_key x k then leaf_place s i else leaf_home s (suc i) more k

-- ---- what is live

-- something leads to the slot
abbrev pub is_led : Led → Bool
is_led Never = false
is_led (From x) = true
is_led Away = false

-- nothing has led to the slot since it was given
abbrev pub is_never : Led → Bool
is_never Never = true
is_never (From x) = false
is_never Away = false

-- what led to the slot was taken away
abbrev pub is_away : Led → Bool
is_away Never = false
is_away (From x) = false
is_away Away = true

-- the page has a pointer with this index
abbrev pub has_pointer : Page → ℕ → Bool
has_pointer Blank j = false
has_pointer (Leaf keys) j = false
has_pointer (Inner n) j = nat_lt j n
has_pointer Split j = nat_lt j 2

-- a root's pointer, or one in a page that something leads to
abbrev pub is_live : Table → At → Bool
is_live d (Root r) = true
is_live d (In x) = is_led (slot_of d x.slot).led && has_pointer (page_of d x.slot) x.index

-- a page with pointers: an interior page, or a leaf that was split
abbrev pub is_inner : Page → Bool
is_inner Blank = false
is_inner (Leaf keys) = false
is_inner (Inner n) = true
is_inner Split = true

-- a leaf that was split
abbrev pub is_split : Page → Bool
is_split Blank = false
is_split (Leaf keys) = false
is_split (Inner n) = false
is_split Split = true

-- where the way through slots' pages ends: at a leaf, or where there is no slot
abbrev pub is_last_to : Table → Option ℕ → Bool
is_last_to d None = true
is_last_to d (Some s) = not (is_inner (page_of d s))

-- a live pointer at which the way through slots' pages ends
abbrev pub is_last : Table → At → Bool
is_last d x = is_live d x && is_last_to d (pointer_of d x).slot

-- ---- how many seats hold a slot

-- 1 where this seat holds the slot
abbrev pub counts_hold : ℕ → Grip → ℕ
counts_hold s g = cond (has_slot g.holds s) 1 0

-- how many of the seats hold the slot
abbrev pub holders : ℕ → List Grip → ℕ
holders s grips = sum_by (counts_hold s) grips

-- a seat counts once where it made the slot
abbrev pub counts_made : ℕ → Grip → ℕ
counts_made s g = cond (has_slot g.made s) 1 0

-- how many of the seats made the slot, and have neither led to it nor retired it
abbrev pub makers : ℕ → List Grip → ℕ
makers s grips = sum_by (counts_made s) grips

-- a seat counts once where it took away what led to the slot
abbrev pub counts_taken : ℕ → Grip → ℕ
counts_taken s g = cond (has_slot g.taken s) 1 0

-- how many of the seats took away what led to the slot, and haven't retired it
abbrev pub takers : ℕ → List Grip → ℕ
takers s grips = sum_by (counts_taken s) grips
