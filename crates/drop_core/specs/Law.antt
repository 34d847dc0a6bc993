-- What holds under every list of events.
use Rattle.std.specs.Prelude.{◌≡◌, ◌↔◌, ◌⊎◌, ℕ, ◌+◌, ◌<◌, ◌≤◌, true, false, List, [], ◌∷◌, ◌++◌, length, Some, slice_get, slice_set}
use Rattle.serial_model.specs.declared.key.Key.{Key}
use Rattle.homes.specs.declared.places.At.{At}
use Rattle.homes.specs.declared.places.Holder.TheVariants.{Held, Dead}
use Rattle.homes.specs.declared.places.Span.{Span}
use Rattle.homes.specs.declared.places.Home.{Home}
use Rattle.homes.specs.declared.places.Home.TheVariants.{InSlot, Nowhere}
use Rattle.homes.specs.Homes.{has_key, holder_is, in_span, moved}
use Rattle.drop_core.specs.declared.table.Led.TheVariants.{Never, From, Away}
use Rattle.drop_core.specs.declared.table.Page.{Page}
use Rattle.drop_core.specs.declared.table.Page.TheVariants.{Leaf, Split}
use Rattle.drop_core.specs.declared.table.SnapPage.{SnapPage}
use Rattle.drop_core.specs.declared.table.Table.{Table}
use Rattle.drop_core.specs.declared.grip.Grip.{Grip}
use Rattle.drop_core.specs.declared.event.Chain.{Chain}
use Rattle.drop_core.specs.declared.event.Twins.{Twins}
use Rattle.drop_core.specs.declared.event.Act.{Act}
use Rattle.drop_core.specs.declared.event.Act.TheVariants.{Install, Swing, SwingChain, Twin}
use Rattle.drop_core.specs.declared.event.Event.{Event}
use Rattle.homes.specs.declared.places.At.TheVariants.{Root}
use Rattle.drop_core.specs.Table.{slot_of, page_of, pointer_of, header_of, has_slot, at_index, snap_of, snap_home, leaf_home, has_pointer, is_never, is_live}
use Rattle.drop_core.specs.Event.{DropState, leaves_none_out, same_below, is_usable, is_allowed, effect, moves, leaf_keys, keys_in, run, run_homes, most_passes, most_records}
use Rattle.drop_core.specs.Sound.{span_at, is_in_making, IsSoundTable, IsSoundPages, IsSound}
use Rattle.drop_core.specs.Opening.{CanOpen, opening_state, opening_homes}
use Rattle.drop_core.specs.Way.{way}

-- each act that is allowed keeps the pages sound, with the homes after its moves
abbrev pub EachActKeeps : Type 0
EachActKeeps = (homes : Key → Home) (d : Table) (grips : List Grip) (p : ℕ) (g : Grip) (act : Act)
    → slice_get grips p ≡ Some g → is_allowed p d g act ≡ true → IsSoundPages homes d grips
    → IsSoundPages (moved (moves d act) homes) (effect p d g act).table (slice_set grips p (effect p d g act).grip)

-- each machine starts sound
abbrev pub StartsSound : Type 0
StartsSound = (snaps : List (ℕ × SnapPage)) (published : ℕ) (roots : List (Span × ℕ)) (room seats : ℕ)
    → CanOpen snaps published roots room
    → IsSound (opening_homes snaps published roots room) (opening_state snaps published roots room seats)

-- every list of events keeps it so
abbrev pub StaysSound : Type 0
StaysSound = (c : DropState) (homes : Key → Home) (events : List Event)
    → IsSound homes c → IsSound (run_homes events c homes) (run events c)

-- a slot that some seat holds is not given, whether its page was evicted or never installed
abbrev pub HeldIsNotGiven : Type 0
HeldIsNotGiven = (homes : Key → Home) (c : DropState) (q s : ℕ) (g : Grip)
    → IsSound homes c → slice_get c.grips q ≡ Some g → has_slot g.holds s ≡ true
    → is_usable (slot_of c.table s) ≡ false

-- a seat can hold any slot that it does not hold, where there are no more seats than a count has room for
abbrev pub Enters : Type 0
Enters = (homes : Key → Home) (c : DropState) (p s : ℕ) (g : Grip)
    → IsSound homes c → slice_get c.grips p ≡ Some g → has_slot g.holds s ≡ false → length c.grips ≤ most_passes
    → (slot_of c.table s).passes + 1 ≤ most_passes

-- the way from a live pointer, as from a root, ends at the key's home
abbrev pub WaysLeadHome : Type 0
WaysLeadHome = (homes : Key → Home) (c : DropState) (x : At) (k : Key) (sound : IsSound homes c)
    → is_live c.table x ≡ true → in_span (pointer_of c.table x).span k ≡ true
    → way (sound.ranked.top + 1) c.table x k ≡ Some (homes k)

-- a key that an install moves was where the pointer's snapshot page has it
abbrev pub InstallsMoveUp : Type 0
InstallsMoveUp = (homes : Key → Home) (d : Table) (grips : List Grip) (p s : ℕ) (g : Grip) (x : At)
    → is_allowed p d g (Install x s) ≡ true → IsSoundTable homes d grips
    → (k : Key) → has_key (leaf_keys (page_of d s)) k ≡ true → homes k ≡ snap_home d (pointer_of d x).page k

-- a key that a swing moves was in the page of the pointer's slot
abbrev pub SwingsMoveDown : Type 0
SwingsMoveDown = (homes : Key → Home) (d : Table) (grips : List Grip) (p n s : ℕ) (g : Grip) (x : At)
    → is_allowed p d g (Swing x n) ≡ true → (pointer_of d x).slot ≡ Some s → IsSoundTable homes d grips
    → (k : Key) → has_key (keys_in d (Some s)) k ≡ true → homes k ≡ leaf_home s 0 (keys_in d (Some s)) k

-- a key that an act swings with a chain was in the leaf that has it
abbrev pub ChainsMoveDown : Type 0
ChainsMoveDown = (homes : Key → Home) (d : Table) (grips : List Grip) (p n s : ℕ) (g : Grip) (x : At) (c : Chain)
    → is_allowed p d g (SwingChain x n c) ≡ true → IsSoundTable homes d grips → has_slot c.slots s ≡ true
    → (k : Key) → has_key (leaf_keys (page_of d s)) k ≡ true
    → (has_key c.keys k ≡ true) × (homes k ≡ leaf_home s 0 (leaf_keys (page_of d s)) k)

-- the leaf got one more key behind those that it had, or was split
abbrev pub IsGrown : Page → Page → Type 0
IsGrown old new =
    (keys : List Key) × (old ≡ Leaf keys) × ((new ≡ Split) ⊎ ((k : Key) × (new ≡ Leaf (keys ++ k ∷ []))))

-- What an act leaves as it was of a slot's page: its layout, unless it is a leaf that grows or is split, under a header
-- that isn't dead, and a dead header; the keys that its pointers are over; and that something has led to the slot since
-- it was given: what leads to it now did so, over the same keys.
pub record LeavesPage (old new : Table) (s : ℕ) : Type 0 where
  pub page : (page_of new s ≡ page_of old s)
      ⊎ (IsGrown (page_of old s) (page_of new s) × (header_of old s ≡ Dead → ⊥))
  pub dead : header_of old s ≡ Dead → header_of new s ≡ Dead
  pub spans : (j : ℕ) → has_pointer (page_of old s) j ≡ true
      → span_at new (at_index s j) ≡ span_at old (at_index s j)
  pub known : is_never (slot_of new s).led ≡ false
  pub led : (x : At) → (slot_of new s).led ≡ From x
      → ((slot_of old s).led ≡ From x) × (span_at new x ≡ span_at old x)

-- An act of one seat leaves the page of each slot that any seat holds, once something has led to it; it leaves the
-- keys that roots are over, and published snapshot pages with the homes that they give.
pub record Leaves (grips : List Grip) (old new : Table) : Type 0 where
  pub pages : (q s : ℕ) (h : Grip) → slice_get grips q ≡ Some h → has_slot h.holds s ≡ true
      → is_never (slot_of old s).led ≡ false → LeavesPage old new s
  pub roots : (r : ℕ) → span_at new (Root r) ≡ span_at old (Root r)
  pub snaps : (n : ℕ) → n ≤ old.published → snap_of new n ≡ snap_of old n
  pub homes : (n : ℕ) (k : Key) → n ≤ old.published → snap_home new n k ≡ snap_home old n k
  pub published : old.published ≤ new.published

-- each act that is allowed leaves alone what others hold, and what is published
abbrev pub EachActLeaves : Type 0
EachActLeaves = (homes : Key → Home) (d : Table) (grips : List Grip) (p : ℕ) (g : Grip) (act : Act)
    → slice_get grips p ≡ Some g → is_allowed p d g act ≡ true → IsSoundTable homes d grips
    → Leaves grips d (effect p d g act).table

-- A header that another seat holds stays so through an act of seat p, with its page, as does a live pointer that another
-- seat shut: so the seat may open it by a store, without a look at it. A swing asks for the header because of that.
pub record LeavesHeld (p : ℕ) (old new : Table) : Type 0 where
  pub headers : (q s : ℕ) → (q ≡ p → ⊥) → header_of old s ≡ Held q
      → (header_of new s ≡ Held q) × (page_of new s ≡ page_of old s)
  pub pointers : (q : ℕ) (x : At) → (q ≡ p → ⊥) → is_live old x ≡ true → (pointer_of old x).holder ≡ Held q
      → pointer_of new x ≡ pointer_of old x

-- each act leaves alone what another seat holds
abbrev pub EachActLeavesHeld : Type 0
EachActLeavesHeld = (homes : Key → Home) (d : Table) (grips : List Grip) (p : ℕ) (g : Grip) (act : Act)
    → slice_get grips p ≡ Some g → is_allowed p d g act ≡ true → IsSoundPages homes d grips
    → LeavesHeld p d (effect p d g act).table

-- A slot that a seat made is in its hands alone: it may not be given, nothing has led to it, and no other seat made it.
pub record IsMade (d : Table) (grips : List Grip) (q s : ℕ) : Type 0 where
  pub making : is_in_making (slot_of d s) ≡ true
  pub never : (slot_of d s).led ≡ Never
  pub alone : (p : ℕ) (g : Grip) → (q ≡ p → ⊥) → slice_get grips p ≡ Some g → has_slot g.made s ≡ false

-- so it is with each that a seat has among its own
abbrev pub MadeIsOwn : Type 0
MadeIsOwn = (homes : Key → Home) (d : Table) (grips : List Grip) (q s : ℕ) (h : Grip)
    → IsSoundPages homes d grips → slice_get grips q ≡ Some h → has_slot h.made s ≡ true → IsMade d grips q s

-- What an act of seat p leaves as it was of a slot that another seat made, and that nothing has led to since: all but its
-- count of seats, with its page, and each pointer of the page but one that seat p has shut itself.
pub record LeavesMade (p : ℕ) (old new : Table) (s : ℕ) : Type 0 where
  pub state : (slot_of new s).state ≡ (slot_of old s).state
  pub times : (slot_of new s).times ≡ (slot_of old s).times
  pub led : (slot_of new s).led ≡ (slot_of old s).led
  pub page : page_of new s ≡ page_of old s
  pub header : header_of new s ≡ header_of old s
  pub pointers : (j : ℕ) → holder_is p (pointer_of old (at_index s j)).holder ≡ false
      → pointer_of new (at_index s j) ≡ pointer_of old (at_index s j)

-- of each slot that another seat made
abbrev pub LeavesMades : ℕ → List Grip → Table → Table → Type 0
LeavesMades p grips old new = (q s : ℕ) (h : Grip) → (q ≡ p → ⊥) → slice_get grips q ≡ Some h
    → has_slot h.made s ≡ true → LeavesMade p old new s

-- each act leaves alone what another seat makes
abbrev pub EachActLeavesMade : Type 0
EachActLeavesMade = (homes : Key → Home) (d : Table) (grips : List Grip) (p : ℕ) (g : Grip) (act : Act)
    → slice_get grips p ≡ Some g → is_allowed p d g act ≡ true → IsSoundPages homes d grips
    → LeavesMades p grips d (effect p d g act).table

-- The slot was so before the act, with the same page; or the act is the swing that took away what led to it.
abbrev pub WasAway : Table → Act → ℕ → Type 0
WasAway old act s =
    ((slot_of old s).led ≡ Away)
    ⊎ (((x : At) × (n : ℕ) × (act ≡ Swing x n) × ((pointer_of old x).slot ≡ Some s))
    ⊎ ((x : At) × (n : ℕ) × (c : Chain) × (act ≡ SwingChain x n c) × (has_slot c.slots s ≡ true)))

-- what led to a slot is taken away by a swing alone, and its page stays as it is laid out
abbrev pub SwingsTakeAway : Type 0
SwingsTakeAway = (homes : Key → Home) (d : Table) (grips : List Grip) (p : ℕ) (g : Grip) (act : Act) (s : ℕ)
    → is_allowed p d g act ≡ true → IsSoundTable homes d grips → (slot_of (effect p d g act).table s).led ≡ Away
    → (page_of (effect p d g act).table s ≡ page_of d s) × WasAway d act s

-- the page is one that was split, in a slot that something has led to since it was given
abbrev pub IsSplitAt : Table → ℕ → Type 0
IsSplitAt d s = (page_of d s ≡ Split) × (is_never (slot_of d s).led ≡ false)

-- A page that was split was so before the act, or the act is the split that its leaf came to; which moves the key of each
-- place that the leaf's records had.
pub record SplitsComeOfTwins : Type 0 where
  pub comes : (homes : Key → Home) (d : Table) (grips : List Grip) (p : ℕ) (g : Grip) (act : Act) (s : ℕ)
      → is_allowed p d g act ≡ true → IsSoundTable homes d grips → IsSplitAt (effect p d g act).table s
      → IsSplitAt d s ⊎ ((w : Twins) × (act ≡ Twin w) × (w.slot ≡ s))
  pub moves : (homes : Key → Home) (d : Table) (grips : List Grip) (p : ℕ) (g : Grip) (w : Twins) (i : ℕ)
      → is_allowed p d g (Twin w) ≡ true → IsSoundTable homes d grips → i < most_records
      → (k : Key) × (has_key w.keys k ≡ true) × (homes k ≡ InSlot (record { slot = w.slot; index = i }))

-- The tests of an install and a swing are true exactly where what they stand for holds of all keys: that page n has no other
-- key of the span, and that two pages give the span's keys the same homes.
pub record TestsDecide : Type 0 where
  pub none_out : (d : Table) (n : ℕ) (span : Span) (keys : List Key)
      → (leaves_none_out d n span keys ≡ true)
      ↔ ((k : Key) → in_span span k ≡ true → has_key keys k ≡ false → snap_home d n k ≡ Nowhere)
  pub same_homes : (d : Table) (span : Span) (m n : ℕ)
      → (same_below d span m n ≡ true) ↔ ((k : Key) → in_span span k ≡ true → snap_home d m k ≡ snap_home d n k)

-- ---- all of them

-- What holds under every list of events.
pub record PagesStaySound : Type 0 where
  pub each_act : EachActKeeps
  pub each_act_leaves : EachActLeaves
  pub each_act_leaves_held : EachActLeavesHeld
  pub each_act_leaves_made : EachActLeavesMade
  pub starts : StartsSound
  pub stays : StaysSound
  pub held : HeldIsNotGiven
  pub made : MadeIsOwn
  pub enters : Enters
  pub ways : WaysLeadHome
  pub install : InstallsMoveUp
  pub swing : SwingsMoveDown
  pub chains : ChainsMoveDown
  pub away : SwingsTakeAway
  pub splits : SplitsComeOfTwins
  pub tests : TestsDecide
