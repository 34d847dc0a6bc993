-- What it comes to that the pages on the way to a key of a tree are brought into memory.
use Rattle.std.specs.Prelude.{◌≡◌, ◌⊎◌, ℕ, ◌+◌, ◌*◌, ◌^◌, ◌<◌, ◌≤◌, false, List, [], length, Option, Result, Some}
use Rattle.std.specs.Prelude.{IfOk, IfErr, OnOk}
use Rattle.serial_model.specs.declared.key.Key.{Key}
use Rattle.homes.specs.declared.places.Span.{Span}
use Rattle.homes.specs.declared.places.Spot.{Spot}
use Rattle.homes.specs.Homes.{has_key}
use Rattle.commit_core.specs.declared.seat.Stage.TheVariants.{Idle}
use Rattle.tx_sets.specs.declared.seen.Seen.{Seen}
use Rattle.engine_pages.specs.declared.view.RefusalCause.{RefusalCause}
use Rattle.engine_pages.specs.declared.view.RefusalCause.TheVariants as causes
use Rattle.engine_pages.specs.declared.view.Role.TheVariants.{Keeper}
use Rattle.engine_pages.specs.declared.view.SetName.{SetName}
use Rattle.engine_pages.specs.declared.view.SetName.TheVariants as sets
use Rattle.engine_pages.specs.declared.view.View.{View}
use Rattle.engine_pages.specs.Records.{IsTreeRecordAt}
use Rattle.engine_pages.specs.Steps.{seen_at}
use Rattle.page_pool.specs.Pool.{IsChanged, IsFull}
use Rattle.tree_walks.specs.declared.ways.Page.{Page}
use Rattle.tree_walks.specs.Walks.{walk_steps, AreLedTo, CanWalk, HasWalked, KeepsMet, KeepsWords, OnlyTrees, OnlyWaysOn}
use Rattle.tree_walks.specs.Ways.{IsHeaderChanged, IsHeldWide, IsLeafOn, IsOnWay, IsPointerChanged, IsUnsplit}
use Rattle.tree_walks.specs.Ways.{IsWayPointer}
use Rattle.foster_tree.specs.Splitting.{HasMadeNothing}
use Rattle.tree_making.specs.declared.making.Made.{Made}
use Rattle.tree_making.specs.declared.making.Made.TheVariants as mades

-- ---- a pass that makes pages

-- A worker's pass between two transactions or within one that has yet to draw. Each slot that it was given it has led
-- something to, or has given up; it has locked no header.
pub record CanMake (slots : List ℕ) (v : View) : Type 0 where
  pub walks : CanWalk slots v
  pub worker : v.role ≡ Keeper → ⊥
  pub idle : v.seat.stage ≡ Idle
  pub unlocked : v.seat.locks ≡ []
  pub nothing_made : HasMadeNothing v
  pub opened : v.heads ≡ []

-- ---- what it comes to

-- The key's record stands in a leaf on the way to the key, which the pass holds, and its word is here; or the leaf in
-- memory on the way to the key has no record of it. The leaf's header was last seen as that of one that wasn't split.
abbrev pub IsMade : Key → List Seen → Made → View → Type 0
IsMade k headers (mades.Record at) w =
    (x : Spot) × (sp : Span) × IsOnWay k w x.slot sp × IsTreeRecordAt w k x at × IsUnsplit w x.slot
IsMade k headers (mades.Lacking leaf) w = (h : IsLeafOn k headers leaf w) × (has_key h.leaf.keys k ≡ false)

-- ---- refusals

-- Behind a walk the call looked at the word of each slot, and none was usable. Each slot that it holds and didn't
-- before is on the way to the key: what it was given until then it put in.
pub record NoneUsable (told : Option (ℕ × ℕ)) (k : Key) (v w : View) : Type 0 where
  pub before : View
  pub walked : HasWalked v before
  pub full : IsFull told before w
  pub led : AreLedTo k v w

-- behind a walk the slot that was to be given had changed
abbrev pub IsSlotChanged : ℕ → ℕ → ℕ → View → View → Type 0
IsSlotChanged at expected seen v w = (u : View) × HasWalked v u × IsChanged at expected seen u w

-- A pointer on the way to the key was last seen to lead to no slot, so that a page is to be put in there: it is one
-- more to hold.
pub record NeedsPage (k : Key) (w : View) : Type 0 where
  pub at : ℕ
  pub word : ℕ
  pub on : IsWayPointer k w at
  pub saw : seen_at w.reads at ≡ Some word
  pub bare : word < 2 ^ 32

-- the holds are as many as there is room for, and the way to the key needs one more, or it is longer than that; no
-- other set is asked for room
abbrev pub IsMadeWide : Key → List ℕ → SetName → View → Type 0
IsMadeWide k slots sets.Reads w = ⊥
IsMadeWide k slots sets.Writes w = ⊥
IsMadeWide k slots sets.Pointers w = ⊥
IsMadeWide k slots sets.Holds w = IsHeldWide k slots w ⊎ ((length slots ≡ 128) × NeedsPage k w)

-- A page was not made: a pointer, a header or the slot that was to be given was in conflict, no slot was usable, or the
-- holds were full, and then each slot that it holds newly has a page over the key.
abbrev pub RefusesMake : Key → List Seen → List Seen → List ℕ → RefusalCause → View → View → Type 0
RefusesMake k pointers headers slots (causes.Conflict at expected seen) v w =
    IsPointerChanged k pointers at expected seen v w
    ⊎ (IsHeaderChanged k headers at expected seen v w ⊎ IsSlotChanged at expected seen v w)
RefusesMake k pointers headers slots (causes.Full held) v w = NoneUsable held k v w
RefusesMake k pointers headers slots (causes.Wide set) v w = IsMadeWide k slots set w × AreLedTo k v w
RefusesMake k pointers headers slots (causes.NumberLimit clock) v w = ⊥

-- ---- what any part leaves

-- By at most so many steps words of trees were loaded, slots entered and pages put in; nothing was kept, and each slot
-- that was given was put in or given up.
pub record Worked (bound : ℕ) (slots : List ℕ) (v w : View) : Type 0 where
  pub can : CanMake slots w
  pub walked : HasWalked v w
  pub most : w.steps ≤ v.steps + bound
  pub kept : w.seat.kept ≡ v.seat.kept
  pub words : KeepsWords v w
  pub met : OnlyTrees v w

-- A part of the work for the key went on so, met what the sets have as they have it, was led to each slot that it holds
-- newly, and came to what is told; or it was refused. Each way that is new is over the key, or into a half of a page on
-- the way to it.
pub record MakesSo {A : Type 0}
    (bound : ℕ) (k : Key) (pointers headers : List Seen) (slots : List ℕ) (comes : A → View → Type 0)
    (r : Result A RefusalCause) (v w : View) : Type 0 where
  pub went : Worked bound slots v w
  pub led : OnOk r (AreLedTo k v w)
  pub keeps : OnOk r (KeepsMet pointers headers v w)
  pub paths : OnlyWaysOn k v w
  pub came : IfOk r (λ a. comes a w)
  pub cause : IfErr r (λ why. RefusesMake k pointers headers slots why v w)

-- the page is on the way to the key
abbrev pub IsOn : Key → Page → View → Type 0
IsOn k page w = IsOnWay k w page.slot page.span

-- so many steps at most for one page that is put in, and the walk below it, where there are so many slots
abbrev pub page_steps : ℕ → ℕ
page_steps slots = slots + 4615

-- for the first walk and all of them, of which there are no more than slots, and for one that is refused
abbrev pub way_steps : ℕ → ℕ
way_steps slots = (slots * page_steps slots + page_steps slots) + walk_steps

-- and for the search in the leaf
abbrev pub make_steps : ℕ → ℕ
make_steps slots = way_steps slots + 16
