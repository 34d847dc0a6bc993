-- The sound state. `homes` is where the keys' records stand, which the machine of commits keeps.
use Rattle.std.specs.Prelude.{◌≡◌, ◌⊎◌, ℕ, ◌<◌, ◌≤◌, ◌&&◌, ◌||◌, Bool, true, cond, length, List, Option, Some, None, Result, Ok, Err, ⊤}
use Rattle.serial_model.specs.declared.key.Key.{Key}
use Rattle.homes.specs.declared.places.Holder.TheVariants.{Held, Dead}
use Rattle.homes.specs.declared.places.Spot.{Spot}
use Rattle.homes.specs.declared.places.At.{At}
use Rattle.homes.specs.declared.places.Span.{Span}
use Rattle.homes.specs.declared.places.Home.{Home}
use Rattle.homes.specs.declared.places.At.TheVariants.{Root, In}
use Rattle.homes.specs.declared.places.Home.TheVariants.{InSlot, Nowhere}
use Rattle.homes.specs.declared.places.Move.{Move}
use Rattle.homes.specs.Homes.{has_key, in_span, moved}
use Rattle.lists.specs.declared.memory.OrMemory.{OrMemory}
use Rattle.drop_core.specs.declared.event.NotAllowed.{NotAllowed}
use Rattle.drop_core.specs.declared.table.Led.{Led}
use Rattle.drop_core.specs.declared.table.Led.TheVariants.{Never, From, Away}
use Rattle.drop_core.specs.declared.table.SlotState.{SlotState}
use Rattle.drop_core.specs.declared.table.SlotState.TheVariants.{Published}
use Rattle.drop_core.specs.declared.table.Slot.{Slot}
use Rattle.drop_core.specs.declared.table.Page.{Page}
use Rattle.drop_core.specs.declared.table.Page.TheVariants.{Blank, Leaf, Inner, Split}
use Rattle.drop_core.specs.declared.table.SnapPage.{SnapPage}
use Rattle.drop_core.specs.declared.table.SnapPage.TheVariants.{Missing, Entries, Children}
use Rattle.drop_core.specs.declared.table.Table.{Table}
use Rattle.drop_core.specs.declared.grip.Grip.{Grip}
use Rattle.drop_core.specs.Table.{slot_of, page_of, pointer_of, header_of, snap_of, at_index, child_of, snap_home, leaf_home, has_pointer, is_led, is_never, is_away, is_live, is_last, holders, makers, takers, fresh_slot}
use Rattle.drop_core.specs.Event.{DropState, each_once, is_owned, is_published, is_given, leads_down, is_right}

-- ---- one home each: from the roots the pointers lead to each key's home

-- the keys that a pointer is over
abbrev pub span_at : Table → At → Span
span_at d x = (pointer_of d x).span

-- A page with pointers over a span has one for each key of the span, and no key beyond it.
abbrev pub Parts : (At → Span) → Span → ℕ → Page → Type 0
Parts spans span s page =
    ((k : Key) → in_span span k ≡ true
    → (j : ℕ) × (has_pointer page j ≡ true) × (in_span (spans (at_index s j)) k ≡ true))
    × ((j : ℕ) (k : Key) → has_pointer page j ≡ true → in_span (spans (at_index s j)) k ≡ true
    → in_span span k ≡ true)

-- What the page of a slot over a span has: a leaf the homes of the span's keys, and no key beyond it; an interior
-- page and a leaf that was split have pointers over its parts.
abbrev pub PageTies : (Key → Home) → (At → Span) → Span → ℕ → Page → Type 0
PageTies homes spans span s Blank = ⊥
PageTies homes spans span s (Leaf keys) =
    ((k : Key) → in_span span k ≡ true → homes k ≡ leaf_home s 0 keys k)
    × ((k : Key) → has_key keys k ≡ true → in_span span k ≡ true)
    × (each_once keys ≡ true)
PageTies homes spans span s (Inner n) = Parts spans span s (Inner n)
PageTies homes spans span s Split = Parts spans span s Split

-- the same of a page in the table
abbrev pub TiesPage : (Key → Home) → Table → Span → ℕ → Page → Type 0
TiesPage homes d span s page = PageTies homes (span_at d) span s page

-- what a pointer over a span leads to: a slot's page, or the homes that the snapshot page gives
abbrev pub TiesTo : (Key → Home) → Table → Span → ℕ → Option ℕ → Type 0
TiesTo homes d span page None = (k : Key) → in_span span k ≡ true → homes k ≡ snap_home d page k
TiesTo homes d span page (Some s) = TiesPage homes d span s (page_of d s)

-- each live pointer leads to the homes of the keys below it
abbrev pub Ties : (Key → Home) → Table → Type 0
Ties homes d = (x : At) → is_live d x ≡ true
    → TiesTo homes d (pointer_of d x).span (pointer_of d x).page (pointer_of d x).slot

-- the ways to a key end at one pointer
abbrev pub Apart : Table → Type 0
Apart d = (x y : At) → is_last d x ≡ true → is_last d y ≡ true
    → (k : Key) → in_span (pointer_of d x).span k ≡ true → in_span (pointer_of d y).span k ≡ true → x ≡ y

-- a home in a slot is the place of that key in a leaf that something leads to
pub record IsOwnHome (d : Table) (k : Key) (x : Spot) : Type 0 where
  pub keys : List Key
  pub page : page_of d x.slot ≡ Leaf keys
  pub at : leaf_home x.slot 0 keys k ≡ InSlot x
  pub led : is_led (slot_of d x.slot).led ≡ true

-- each home in a slot is
abbrev pub HomesAreOwn : (Key → Home) → Table → Type 0
HomesAreOwn homes d = (k : Key) (x : Spot) → homes k ≡ InSlot x → IsOwnHome d k x

-- each pointer of the page in the slot is dead
abbrev pub DeadPage : Table → ℕ → Page → Type 0
DeadPage d s page = (j : ℕ) → has_pointer page j ≡ true → (pointer_of d (at_index s j)).holder ≡ Dead

-- the pointers of a page from which what led to it was taken are dead, until its slot is given again
abbrev pub DeadStaysDead : Table → Type 0
DeadStaysDead d = (s : ℕ) → (slot_of d s).led ≡ Away → DeadPage d s (page_of d s)

-- each key has one home, to which the pointers lead
pub record OneHomeEach (homes : Key → Home) (d : Table) : Type 0 where
  pub ties : Ties homes d
  pub apart : Apart d
  pub own : HomesAreOwn homes d
  pub dead : DeadStaysDead d

-- ---- holds counted

-- what a slot's state says of what leads to it: a slot that was taken away is published still, or retired
abbrev pub IsLedSo : Table → ℕ → SlotState → Led → Type 0
IsLedSo d s state Never = ⊤
IsLedSo d s state (From x) = (state ≡ Published) × (is_live d x ≡ true) × ((pointer_of d x).slot ≡ Some s)
IsLedSo d s state Away = is_given state ≡ true

-- each slot is led to from one place alone
abbrev pub LeadsBack : Table → Type 0
LeadsBack d = (x : At) (s : ℕ) → is_live d x ≡ true → (pointer_of d x).slot ≡ Some s → (slot_of d s).led ≡ From x

-- A slot's count is that of the seats that hold it, and live pointers lead to published slots.
pub record HoldsCounted (d : Table) (grips : List Grip) : Type 0 where
  pub counted : (s : ℕ) → (slot_of d s).passes ≡ holders s grips
  pub led : (s : ℕ) → IsLedSo d s (slot_of d s).state (slot_of d s).led
  pub back : LeadsBack d

-- ---- snapshots fixed

-- the page leads to published pages
abbrev pub LeadsWithin : ℕ → SnapPage → Type 0
LeadsWithin published Missing = ⊤
LeadsWithin published (Entries span entries) = ⊤
LeadsWithin published (Children span children) = (k : Key) → child_of children k ≤ published

-- Live pointers and published pages lead to published pages. That those do not change is in the condition of
-- filling.
pub record SnapshotsFixed (d : Table) : Type 0 where
  pub pointers : (x : At) → is_live d x ≡ true → (pointer_of d x).page ≤ d.published
  pub closed : (n : ℕ) → n ≤ d.published → LeadsWithin d.published (snap_of d n)

-- ---- all of them

-- the parts on homes, holds and published pages, with these homes of the keys
pub record IsSoundTable (homes : Key → Home) (d : Table) (grips : List Grip) : Type 0 where
  pub one_home_each : OneHomeEach homes d
  pub holds_counted : HoldsCounted d grips
  pub snapshots_fixed : SnapshotsFixed d

-- Own part: slots that are led to have ranks below a top one, and each is led to from a slot of lower rank. So the ways
-- through slots' pages end.
pub record IsRanked (led : ℕ → Led) : Type 0 where
  pub rank : ℕ → ℕ
  pub top : ℕ
  pub within : (s : ℕ) → is_led (led s) ≡ true → rank s < top
  pub below : (s : ℕ) (x : Spot) → led s ≡ From (In x) → rank x.slot < rank s

-- some root is over the key
abbrev pub IsRooted : (At → Span) → Key → Type 0
IsRooted spans k = (r : ℕ) × (in_span (spans (Root r)) k ≡ true)

-- Own part: a key that has a home is below a root.
abbrev pub HomesAreRooted : (Key → Home) → (At → Span) → Type 0
HomesAreRooted homes spans = (k : Key) → (homes k ≡ Nowhere) ⊎ IsRooted spans k

-- Own part: published pages are right for their spans, and lead to lower pages.
pub record PublishedAreRight (snaps : ℕ → SnapPage) (published : ℕ) : Type 0 where
  pub down : (n : ℕ) → 0 < n → n ≤ published → leads_down n (snaps n) ≡ true
  pub right : (n : ℕ) → 0 < n → n ≤ published → is_right snaps (snaps n) ≡ true

-- Own part: the header of a page from which what led to it was taken is dead, until its slot is given again.
abbrev pub HeadersStayDead : Table → Type 0
HeadersStayDead d = (s : ℕ) → (slot_of d s).led ≡ Away → header_of d s ≡ Dead

-- Own part: who holds a header is a seat, and something leads to that page; who shut a live pointer is a seat; and the
-- pointers of a page that was split are dead.
pub record HeldBySeats (d : Table) (seats : ℕ) : Type 0 where
  pub headers : (s q : ℕ) → header_of d s ≡ Held q → (q < seats) × (is_led (slot_of d s).led ≡ true)
  pub pointers : (x : At) (q : ℕ) → is_live d x ≡ true → (pointer_of d x).holder ≡ Held q → q < seats
  pub splits : (s j : ℕ) → is_led (slot_of d s).led ≡ true → page_of d s ≡ Split → has_pointer Split j ≡ true
      → (pointer_of d (at_index s j)).holder ≡ Dead

-- Own part: a slot from the room on was never given, so nothing leads to it and no seat holds it.
abbrev pub SlotsWithin : Table → Type 0
SlotsWithin d = (s : ℕ) → d.room ≤ s → slot_of d s ≡ fresh_slot

-- the slot is in the hands of the seat that made it: it is owned, or was published and nothing has led to it
abbrev pub is_in_making : Slot → Bool
is_in_making x = is_owned x.state || (is_published x.state && is_never x.led)

-- what led to the slot was taken away, and it wasn't retired yet
abbrev pub is_left : Slot → Bool
is_left x = is_published x.state && is_away x.led

-- Own part: a slot that is in the making was made by one seat, one that is left was taken by one, and no other slot is
-- noted by any.
pub record NotedByOne (d : Table) (grips : List Grip) : Type 0 where
  pub made : (s : ℕ) → makers s grips ≡ cond (is_in_making (slot_of d s)) 1 0
  pub taken : (s : ℕ) → takers s grips ≡ cond (is_left (slot_of d s)) 1 0

-- the pages are sound, with these homes of the keys
pub record IsSoundPages (homes : Key → Home) (d : Table) (grips : List Grip) : Type 0 where
  pub table : IsSoundTable homes d grips
  pub ranked : IsRanked (λ s. (slot_of d s).led)
  pub rooted : HomesAreRooted homes (span_at d)
  pub published : PublishedAreRight (snap_of d) d.published
  pub headers : HeadersStayDead d
  pub held : HeldBySeats d (length grips)
  pub within : SlotsWithin d
  pub noted : NotedByOne d grips

-- the whole state is
abbrev pub IsSound : (Key → Home) → DropState → Type 0
IsSound homes c = IsSoundPages homes c.table c.grips

-- After an event that happened the state is sound with the homes after the moves that were answered; after any other
-- answer it is so with the homes as they were.
abbrev pub IsOutcome : (Key → Home) → Result (List Move) (OrMemory NotAllowed) → DropState → Type 0
IsOutcome homes (Ok m) d = IsSound (moved m homes) d
IsOutcome homes (Err f) d = IsSound homes d
