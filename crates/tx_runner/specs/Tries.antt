-- Tries of a line that were refused.
use Rattle.std.specs.Prelude.{◌≡◌, ◌≢◌, ◌⊎◌, ℕ, ◌+◌, ◌/◌, ◌%◌, ◌^◌, ◌≤◌, ◌<◌, Bool, true, List, [], ◌∷◌, ◌++◌, length}
use Rattle.std.specs.Prelude.{Some, Option, Contains, cond, flat_map, map, sum_by, ⊤}
use Rattle.std.specs.List.{AllByRecursion, list_all}
use Rattle.serial_model.specs.Numbers.{draw_limit}
use Rattle.serial_model.specs.declared.decl.Decl.{Decl}
use Rattle.serial_model.specs.declared.key.Key.{Key}
use Rattle.serial_model.specs.declared.op.Op.{Op}
use Rattle.wire_form.specs.Leaves.{array_leaf, word_in}
use Rattle.engine_pages.specs.declared.layout.Layout.{Layout}
use Rattle.engine_pages.specs.declared.view.RefusalCause.{RefusalCause}
use Rattle.engine_pages.specs.declared.view.RefusalCause.TheVariants as refusals
use Rattle.engine_pages.specs.declared.view.SetName.{SetName}
use Rattle.engine_pages.specs.declared.view.SetName.TheVariants as names
use Rattle.engine_pages.specs.declared.view.Touch.{Touch}
use Rattle.engine_pages.specs.declared.view.View.{View}
use Rattle.engine_pages.specs.Layout.{clock_at, page_at, slot_at}
use Rattle.engine_pages.specs.Pages.{is_array, is_tree}
use Rattle.engine_pages.specs.Slots.{first_retired, is_taken_word, looks}
use Rattle.engine_pages.specs.Steps.{glance}
use Rattle.engine_pages.specs.Touches.{touch}
use Rattle.engine_pages.specs.Views.{seat_number}
use Rattle.page_commit.specs.Below.{IsWayPlace}
use Rattle.page_commit.specs.Between.{HasSeen}
use Rattle.page_commit.specs.Live.{IsOver}
use Rattle.page_commit.specs.Turning.{MayWrite}
use Rattle.tx_runner.specs.Lines.{HasTreeOp, HasTreeScan, IsOfKey}

-- ---- the keys of a line

-- an operation of the line is at this key
pub record IsKeyOf (ops : List Op) (k : Key) : Type 0 where
  pub op : Op
  pub among : Contains ops op
  pub at : IsOfKey op k

-- an operation of the line may write this key
pub record IsWrittenBy (ops : List Op) (k : Key) : Type 0 where
  pub op : Op
  pub among : Contains ops op
  pub writes : MayWrite op k

-- some operation of the line may write
abbrev pub Writes : List Op → Type 0
Writes ops = (k : Key) × IsWrittenBy ops k

-- some operation of the line may write in a tree
abbrev pub WritesTree : List Decl → List Op → Type 0
WritesTree decls ops = (k : Key) × IsWrittenBy ops k × (is_tree decls k.storage ≡ true)

-- The line may lock the key's record: it may write the key; or it may write in a tree, and the key is one of a tree, of
-- a leaf to which a key is added, or which is split.
abbrev pub IsLockedFor : List Decl → List Op → Key → Type 0
IsLockedFor decls ops k = IsWrittenBy ops k ⊎ ((is_tree decls k.storage ≡ true) × WritesTree decls ops)

-- ---- conflicts

-- Where a try was in conflict: at the record of this key of an array; at a pointer on the way to this key; in a leaf of
-- a tree on the way to this key, at its header or at the record of a key; or at the word of a slot that it was to be
-- given.
pub data Spot : Type 0 where
  OfRecord : Key → Spot
  OfWay : Key → Spot
  OfLeaf : Key → Spot
  OfSlot : Spot

-- A word was in conflict: that of the record of an array's key, which was locked, or not the expected one; that of a
-- pointer, which was shut, or not the expected one; that of a header or a record in a leaf of a tree, which has the bit
-- of a lock, or isn't the expected one; or that of a slot, which isn't the expected one.
abbrev pub IsChangedAt : Spot → ℕ → ℕ → Type 0
IsChangedAt (OfRecord k) expected seen = (2 ^ 60 ≤ seen) ⊎ ((expected < 2 ^ 60) × (seen ≢ expected))
IsChangedAt (OfWay k) expected seen = (2 ^ 60 ≤ seen) ⊎ (seen ≢ expected)
IsChangedAt (OfLeaf k) expected seen = ((seen / 2 ^ 60) % 2 ≡ 1) ⊎ (seen ≢ expected)
IsChangedAt OfSlot expected seen = seen ≢ expected

-- the refusal is a conflict there
abbrev pub IsConflicting : RefusalCause → Spot → Type 0
IsConflicting (refusals.Conflict at expected seen) spot = IsChangedAt spot expected seen
IsConflicting (refusals.Full held) spot = ⊥
IsConflicting (refusals.Wide set) spot = ⊥
IsConflicting (refusals.NumberLimit clock) spot = ⊥

-- the key at whose record, or on the way to which, it was is one of the line, which may write if it was at a slot
abbrev pub IsMetOf : List Op → Spot → Type 0
IsMetOf ops (OfRecord k) = IsKeyOf ops k
IsMetOf ops (OfWay k) = IsKeyOf ops k
IsMetOf ops (OfLeaf k) = IsKeyOf ops k
IsMetOf ops OfSlot = Writes ops

-- The word stands in a slot's page, where a leaf of an array that begins with this key has the record of that one: so
-- many records behind its first one.
pub record IsRecordWord (l : Layout) (k : Key) (at : ℕ) : Type 0 where
  pub slot : ℕ
  pub within : slot < l.slots
  pub first : ℕ
  pub index : ℕ
  pub few : index < array_leaf.room
  pub key : k.key ≡ first + index
  pub word : at ≡ page_at l.slots slot (word_in array_leaf index)

-- the word stands in a slot's page
abbrev pub IsInPage : Layout → ℕ → Type 0
IsInPage l at = (t : ℕ) × (i : ℕ) × (at ≡ page_at l.slots t i)

-- the word is a root's, or stands in a slot's page
abbrev pub IsPageWord : Layout → ℕ → Type 0
IsPageWord l at = (at < 32) ⊎ IsInPage l at

-- the word is that of a pointer on the way to the key of an array, or one of a root or a page, for the key of a tree
abbrev pub IsWayWord : Layout → Key → ℕ → Type 0
IsWayWord l k at = IsWayPlace l k at ⊎ ((is_tree l.decls k.storage ≡ true) × IsPageWord l at)

-- the word is one of a page, for the key of a tree
abbrev pub IsLeafWord : Layout → Key → ℕ → Type 0
IsLeafWord l k at = (is_tree l.decls k.storage ≡ true) × IsInPage l at

-- the record is one of an array, and the word that of a record; the word is on the way to the key, in a root or a page;
-- it is one of a page; or it is that of a slot
abbrev pub IsAtSpot : Layout → Spot → ℕ → Type 0
IsAtSpot l (OfRecord k) at = (is_array l.decls k.storage ≡ true) × IsRecordWord l k at
IsAtSpot l (OfWay k) at = IsWayWord l k at
IsAtSpot l (OfLeaf k) at = IsLeafWord l k at
IsAtSpot l OfSlot at = (t : ℕ) × (t < l.slots) × (at ≡ slot_at t)

-- so it is with the word of a conflict
abbrev pub IsWordAt : Layout → Spot → RefusalCause → Type 0
IsWordAt l spot (refusals.Conflict at expected seen) = IsAtSpot l spot at
IsWordAt l spot (refusals.Full held) = ⊥
IsWordAt l spot (refusals.Wide set) = ⊥
IsWordAt l spot (refusals.NumberLimit clock) = ⊥

-- ---- no slot was usable

-- These are the words of all slots, as steps of the pass between these views saw them in one search, and none of the
-- slots is usable.
pub record AreAllTaken (words : List ℕ) (v w : View) : Type 0 where
  pub count : length words ≡ v.layout.slots
  pub taken : list_all is_taken_word words ≡ true
  pub step : ℕ
  pub since : v.steps ≤ step
  pub looked : w.looked ≡ looks step 0 words

-- ---- full sets

-- Which lines may fill a set: of records and headers, and of pointers, those with a scan of a tree alone, as any other
-- operation meets one of a kind at most; of slots that are held those on trees; of writes none, as a line has 16
-- operations at most.
abbrev pub FillsSet : List Decl → List Op → SetName → Type 0
FillsSet decls ops names.Reads = HasTreeScan decls ops
FillsSet decls ops names.Writes = ⊥
FillsSet decls ops names.Pointers = HasTreeScan decls ops
FillsSet decls ops names.Holds = HasTreeOp decls ops

-- ---- tries

-- A try that was refused with Conflict: why, where, and whether it had drawn its number by then.
pub record Clash : Type 0 where
  pub why : RefusalCause
  pub spot : Spot
  pub drew : Bool

-- How a try was lost: it met another transaction, or a word that was changed; it was to be given a slot, and all of
-- them had these words; it needed more than a set has room for; or the clock had this word and gave it no number.
pub data Lost : Type 0 where
  ToOther : Clash → Lost
  ToSlots : List ℕ → Lost
  ToSet : SetName → Lost
  ToClock : ℕ → Lost

-- why it was refused; of slots the lowest retired one is told
abbrev pub why_of : Lost → RefusalCause
why_of (ToOther clash) = clash.why
why_of (ToSlots words) = refusals.Full (first_retired 0 words)
why_of (ToSet set) = refusals.Wide set
why_of (ToClock clock) = refusals.NumberLimit clock

-- the same of these tries, in order
abbrev pub whys_of : List Lost → List RefusalCause
whys_of losts = map why_of losts

-- how many numbers were drawn for it
abbrev pub drawn_for : Lost → ℕ
drawn_for (ToOther clash) = cond clash.drew 1 0
drawn_for (ToSlots words) = 0
drawn_for (ToSet set) = 0
drawn_for (ToClock clock) = 0

-- and for these tries
abbrev pub lost_to : List Lost → ℕ
lost_to losts = sum_by drawn_for losts

-- the try of this line was refused with Conflict, for a key of its, or at a slot, where it may write
abbrev pub IsClash : List Op → Lost → Type 0
IsClash ops (ToOther clash) = IsConflicting clash.why clash.spot × IsMetOf ops clash.spot
IsClash ops (ToSlots words) = ⊥
IsClash ops (ToSet set) = ⊥
IsClash ops (ToClock clock) = ⊥

-- A try that met a conflict at a record met that of an array's key; else it met it at a slot's word, at a pointer on
-- the way to the key, or at a word of a page, if the key is one of a tree.
abbrev pub IsPlaced : Layout → Lost → Type 0
IsPlaced l (ToOther clash) = IsWordAt l clash.spot clash.why
IsPlaced l (ToSlots words) = ⊤
IsPlaced l (ToSet set) = ⊤
IsPlaced l (ToClock clock) = ⊤

-- what the pass of this seat tells of such a conflict
abbrev pub blame_at : ℕ → Spot → List Touch
blame_at q (OfRecord k) = touch q k ∷ []
blame_at q (OfWay k) = []
blame_at q (OfLeaf k) = []
blame_at q OfSlot = []

-- at which key the pass of this seat met another one's, where the try was refused for that
abbrev pub blame_of : ℕ → Lost → List Touch
blame_of q (ToOther clash) = blame_at q clash.spot
blame_of q (ToSlots words) = []
blame_of q (ToSet set) = []
blame_of q (ToClock clock) = []

-- and of these tries, in order
abbrev pub blames_of : ℕ → List Lost → List Touch
blames_of q losts = flat_map (blame_of q) losts

-- the pass took locks at most that the line may take
abbrev pub TouchesOnly : List Op → View → View → Type 0
TouchesOnly ops v w = (t : Touch) → Contains w.touched t
    → Contains v.touched t ⊎ ((t.seat ≡ seat_number v.role) × IsLockedFor v.layout.decls ops t.key)

-- These tries of a line were made, in their order, and refused: no transaction is under way, so nothing is locked and
-- no slot held, and of the pass's own nothing is new but the refusals, with the keys at which it met others, the
-- numbers that were drawn for these tries, and locks that the line may take.
pub record HasTriedFor (ops : List Op) (losts : List Lost) (v w : View) : Type 0 where
  pub over : IsOver w
  pub layout : w.layout ≡ v.layout
  pub role : w.role ≡ v.role
  pub seen : HasSeen v w
  pub since : v.steps ≤ w.steps
  pub mine : w.mine ≡ v.mine
  pub draws : w.draws ≡ v.draws + lost_to losts
  pub marks : w.seat.marks ≡ v.seat.marks
  pub refused : w.refused ≡ v.refused ++ whys_of losts
  pub blamed : w.blamed ≡ v.blamed ++ blames_of (seat_number v.role) losts
  pub touched : TouchesOnly ops v w

-- With the draws that the pass has seen, the clock is not at the last draws.
abbrev pub HasDrawsLeft : View → Type 0
HasDrawsLeft v = v.layout.first.draw + length v.history < draw_limit

-- so many tries, each of which began, and was refused with Conflict
pub record HasConflicted (ops : List Op) (tries : ℕ) (v w : View) : Type 0 where
  pub began : 1 ≤ tries → HasDrawsLeft v
  pub losts : List Lost
  pub count : length losts ≡ tries
  pub each : AllByRecursion (IsClash ops) losts
  pub placed : AllByRecursion (IsPlaced v.layout) losts
  pub tried : HasTriedFor ops losts v w

-- The last try was lost so, and those before it, which were fewer than the line has, were refused with Conflict.
pub record IsLostAt (ops : List Op) (last : Lost) (tries : ℕ) (v w : View) : Type 0 where
  pub losts : List Lost
  pub fewer : length losts < tries
  pub each : AllByRecursion (IsClash ops) losts
  pub placed : AllByRecursion (IsPlaced v.layout) losts
  pub tried : HasTriedFor ops (losts ++ last ∷ []) v w

-- ---- ends of a line that isn't tried again

-- A slot was wanted, by a line that may write, and none is usable: these are the words of all, as steps of the last try
-- saw them, which began behind the other ones.
pub record IsFullAt (ops : List Op) (tries : ℕ) (v w : View) : Type 0 where
  pub began : HasDrawsLeft v
  pub writes : Writes ops
  pub words : List ℕ
  pub refused : IsLostAt ops (ToSlots words) tries v w
  pub last : View
  pub before : HasTriedFor ops refused.losts v last
  pub all : AreAllTaken words last w

-- A set of the transaction was full, and the last try needed one entry more of it. The line's operations can fill that
-- one: on arrays alone they fill none.
pub record IsWideAt (ops : List Op) (tries : ℕ) (v w : View) : Type 0 where
  pub began : HasDrawsLeft v
  pub set : SetName
  pub fills : FillsSet v.layout.decls ops set
  pub refused : IsLostAt ops (ToSet set) tries v w

-- The last try wasn't begun, and drew no number: the clock, which it loaded and with which all draws are seen, is at
-- the last draws.
pub record IsAtLimit (ops : List Op) (tries : ℕ) (v w : View) : Type 0 where
  pub clock : ℕ
  pub high : draw_limit ≤ clock % 2 ^ 40
  pub draws : clock % 2 ^ 40 ≡ v.layout.first.draw + length w.history
  pub step : ℕ
  pub last : w.last ≡ Some (glance step clock_at clock)
  pub refused : IsLostAt ops (ToClock clock) tries v w
