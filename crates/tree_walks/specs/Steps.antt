-- What the parts of a walk come to.
use Rattle.std.specs.Prelude.{◌≡◌, ◌⊎◌, ℕ, suc, ◌+◌, ◌<◌, ◌≤◌, true, false, List, length, slice_get, Some, Contains}
use Rattle.std.specs.Prelude.{Result, IfOk, IfErr, OnOk}
use Rattle.serial_model.specs.declared.decl.Decl.{Decl}
use Rattle.serial_model.specs.declared.decl.Decl.TheVariants.{Tree}
use Rattle.serial_model.specs.declared.key.Key.{Key}
use Rattle.homes.specs.declared.places.At.{At}
use Rattle.homes.specs.declared.places.Span.{Span}
use Rattle.homes.specs.Homes.{in_span}
use Rattle.wire_form.specs.Leaves.{tree_fan}
use Rattle.drop_core.specs.Table.{has_slot}
use Rattle.tx_sets.specs.declared.seen.Seen.{Seen}
use Rattle.engine_pages.specs.declared.view.Inner.{Inner}
use Rattle.engine_pages.specs.declared.view.Moved.{Moved}
use Rattle.engine_pages.specs.declared.view.RefusalCause.{RefusalCause}
use Rattle.engine_pages.specs.declared.view.RefusalCause.TheVariants as causes
use Rattle.engine_pages.specs.declared.view.SetName.TheVariants.{Holds}
use Rattle.engine_pages.specs.declared.view.View.{View}
use Rattle.engine_pages.specs.Pages.{part_between}
use Rattle.engine_pages.specs.Steps.{seen_at}
use Rattle.tree_walks.specs.declared.children.Child.{Child}
use Rattle.tree_walks.specs.declared.descent.Next.{Next}
use Rattle.tree_walks.specs.declared.descent.Next.TheVariants as nexts
use Rattle.tree_walks.specs.declared.walk.Reached.{Reached}
use Rattle.tree_walks.specs.declared.walk.Reached.TheVariants as reaches
use Rattle.tree_walks.specs.declared.ways.Bare.{Bare}
use Rattle.tree_walks.specs.declared.ways.Page.{Page}
use Rattle.tree_walks.specs.Walks.{AreLedTo, CanWalk, HasWalked, KeepsMet, KeepsWords, OnlyTrees, OnlyWaysOn}
use Rattle.tree_walks.specs.Ways.{HasCome, IsBareOn, IsChildOf, IsHalfOf, IsOnWay, RefusesWalk, half_for, half_span}

-- ---- storages

-- the declared storage with this index is a tree with this id
pub record IsTreeRoot (decls : List Decl) (id root : ℕ) : Type 0 where
  pub there : slice_get decls root ≡ Some (Tree id)

-- a tree with this id is declared
abbrev pub HasTree : List Decl → ℕ → Type 0
HasTree decls id = (root : ℕ) × IsTreeRoot decls id root

-- ---- what any part of a walk leaves

-- By at most so many steps words of trees were loaded, and slots entered, of which these are held then; nothing was
-- kept.
pub record Went (bound : ℕ) (slots : List ℕ) (v w : View) : Type 0 where
  pub can : CanWalk slots w
  pub walked : HasWalked v w
  pub most : w.steps ≤ v.steps + bound
  pub kept : w.seat.kept ≡ v.seat.kept
  pub words : KeepsWords v w
  pub met : OnlyTrees v w

-- A part of a walk to the key went on so, met what the sets have as they have it, was led to each slot that it holds
-- newly, and came to what is told; or it was refused. Each way that is new is over the key, or into a half of a page on
-- the way to it.
pub record GoesSo {A : Type 0}
    (bound : ℕ) (k : Key) (pointers headers : List Seen) (slots : List ℕ) (comes : A → View → Type 0)
    (r : Result A RefusalCause) (v w : View) : Type 0 where
  pub went : Went bound slots v w
  pub led : OnOk r (AreLedTo k v w)
  pub keeps : OnOk r (KeepsMet pointers headers v w)
  pub paths : OnlyWaysOn k v w
  pub came : IfOk r (λ a. comes a w)
  pub cause : IfErr r (λ why. RefusesWalk k pointers headers slots why v w)

-- ---- a slot is entered

-- no slot was entered, since the holds are full
abbrev pub IsFullFor : ℕ → List ℕ → RefusalCause → Type 0
IsFullFor t slots (causes.Conflict at expected seen) = ⊥
IsFullFor t slots (causes.Full held) = ⊥
IsFullFor t slots (causes.Wide set) = (set ≡ Holds) × (length slots ≡ 128) × (has_slot slots t ≡ false)
IsFullFor t slots (causes.NumberLimit clock) = ⊥

-- The slot is held, and no other was entered, or why not; no word was met.
pub record EntersSo (t : ℕ) (slots : List ℕ) (r : Result (Unit {0}) RefusalCause) (v w : View) : Type 0 where
  pub went : Went 1 slots v w
  pub held : OnOk r (has_slot w.grip.holds t ≡ true)
  pub only : (q : ℕ) → has_slot w.grip.holds q ≡ true → has_slot v.grip.holds q ≡ false → q ≡ t
  pub ways : w.ways ≡ v.ways
  pub seen : (a : ℕ) → seen_at w.reads a ≡ seen_at v.reads a
  pub cause : IfErr r (λ why. IsFullFor t slots why)

-- ---- one pointer down

-- a pointer that leads to no slot
abbrev pub bare_at : At → Span → ℕ → ℕ → Bare
bare_at place span at n = record { place = place; span = span; pointer = record { at = at; word = n } }

-- the pointer over these keys leads to a slot, or to none
abbrev pub IsReached : Key → List Seen → At → Span → ℕ → Reached → View → Type 0
IsReached k pointers place span at (reaches.Slot t) w = IsOnWay k w t span
IsReached k pointers place span at (reaches.Bare n) w = IsBareOn k pointers (bare_at place span at n) w

-- the slot is that of a page over these keys
abbrev pub IsHeldOn : Key → Span → ℕ → View → Type 0
IsHeldOn k span t w = IsOnWay k w t span

-- ---- an interior page

-- so many children are known of the interior page in this slot
pub record IsInnerAt (v : View) (t many : ℕ) : Type 0 where
  pub inner : Inner
  pub knows : Contains v.inners inner
  pub same : inner.slot ≡ t
  pub few : length inner.separators < tree_fan
  pub count : suc (length inner.separators) ≡ many

-- the child is the one that has the key, of an interior page over these keys
pub record IsChildFor (k : Key) (v : View) (t : ℕ) (sp : Span) (x : Child) : Type 0 where
  pub inner : Inner
  pub knows : Contains v.inners inner
  pub same : inner.slot ≡ t
  pub within : x.index ≤ length inner.separators
  pub small : x.index < tree_fan
  pub span : x.span ≡ part_between sp inner.separators x.index
  pub over : in_span x.span k ≡ true

-- ---- a split leaf

-- the leaf in this slot was split into halves in slots that there are
pub record IsSplitAt (v : View) (t : ℕ) : Type 0 where
  pub moved : Moved
  pub knows : Contains v.moved moved
  pub same : moved.slot ≡ t
  pub minor : moved.minor < v.layout.slots
  pub major : moved.major < v.layout.slots

-- the half is the one that has the key
pub record IsHalfFor (k : Key) (v : View) (t : ℕ) (sp : Span) (x : Page) : Type 0 where
  pub moved : Moved
  pub knows : Contains v.moved moved
  pub same : moved.slot ≡ t
  pub slot : x.slot ≡ half_for moved k
  pub span : x.span ≡ half_span moved sp k
  pub there : x.slot < v.layout.slots
  pub over : in_span x.span k ≡ true

-- ---- one page further

-- the next page on the way, which is below this one, or the end of the way
abbrev pub IsFurther : Key → List Seen → List Seen → Page → Next → View → Type 0
IsFurther k pointers headers page (nexts.Down next) w =
    IsOnWay k w next.slot next.span
    × (IsChildOf w (record { slot = page.slot; span = page.span }) (record { slot = next.slot; span = next.span })
    ⊎ IsHalfOf k w (record { slot = page.slot; span = page.span }) (record { slot = next.slot; span = next.span }))
IsFurther k pointers headers page (nexts.End end) w = HasCome k pointers headers end w

-- the half is the next page
abbrev pub IsHalfBelow : Key → Page → Page → View → Type 0
IsHalfBelow k page next w =
    IsOnWay k w next.slot next.span
    × IsHalfOf k w (record { slot = page.slot; span = page.span }) (record { slot = next.slot; span = next.span })
