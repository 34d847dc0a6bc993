-- Where the passes of a crew stand.
use Rattle.std.specs.Prelude.{◌≡◌, ℕ, ◌<◌, ◌≤◌, ◌^◌, true, false, List, [], ◌∷◌, get_or, Option, Some, None, Contains}
use Rattle.std.specs.Prelude.{⊤}
use Rattle.std.specs.List.{AllByRecursion}
use Rattle.serial_model.specs.Decls.{AreDecls}
use Rattle.serial_model.specs.declared.decl.Decl.{Decl}
use Rattle.serial_model.specs.declared.decl.Decl.TheVariants.{Array, Tree}
use Rattle.serial_model.specs.declared.key.Key.{Key}
use Rattle.commit_core.specs.declared.seat.Stage.TheVariants.{Idle}
use Rattle.views.specs.Sums.{times}
use Rattle.drop_core.specs.Table.{has_slot}
use Rattle.tx_sets.specs.declared.sets.Sets.{Sets}
use Rattle.engine_pages.specs.Agreement.{TreesAgree}
use Rattle.engine_pages.specs.declared.engine.Engine.{Engine}
use Rattle.engine_pages.specs.declared.layout.Layout.{Layout}
use Rattle.engine_pages.specs.declared.view.Draft.{Draft}
use Rattle.engine_pages.specs.declared.view.Role.TheVariants as roles
use Rattle.engine_pages.specs.declared.view.View.{View}
use Rattle.engine_pages.specs.Beginning.{layout_of}
use Rattle.engine_pages.specs.Passes.{view, IsPassOf, Pass}
use Rattle.engine_pages.specs.Pointers.{WaysAgree}
use Rattle.engine_pages.specs.Views.{bare_seat, IsResting}
use Rattle.page_commit.specs.Below.{worker_of}
use Rattle.page_drops.specs.Calls.{IsBare}
use Rattle.page_records.specs.Locks.{took_at, CanOpenAnew}
use Rattle.page_commit.specs.Live.{HasHolds, IsLive, IsOver}
use Rattle.page_commit.specs.Places.{spot_at, IsKeyAt}
use Rattle.txn_tests.specs.declared.hand.Hand.{Hand}
use Rattle.txn_tests.specs.declared.hand.Slot.{Slot}
use Rattle.txn_tests.specs.declared.hand.Slot.TheVariants as slots
use Rattle.txn_tests.specs.declared.worker.Phase.{Phase}
use Rattle.txn_tests.specs.declared.worker.Phase.TheVariants as phases
use Rattle.txn_tests.specs.declared.worker.Plan.{Plan}
use Rattle.txn_tests.specs.declared.worker.Worker.{Worker}

-- ---- engines

-- an array has so many values
abbrev pub IsSize : ℕ → Type 0
IsSize size = (1 ≤ size) × (size ≤ 131072)

-- an engine can be made for it
pub record IsPlan (p : Plan) : Type 0 where
  pub size : IsSize p.size
  pub some : 1 ≤ p.slots
  pub slots : p.slots ≤ 4096
  pub first : 1 ≤ p.draw
  pub draw : p.draw < 2 ^ 40

-- one array, storage 1, with so many values, and a tree, storage 2
abbrev pub declared : ℕ → List Decl
declared size = Array 1 size ∷ Tree 2 ∷ []

-- neither has a page
abbrev pub no_roots : List ℕ
no_roots = 0 ∷ 0 ∷ []

-- an engine of them begins in epoch 1 and without a page
abbrev pub blank : Plan → Layout
blank p = layout_of (record { epoch = 1; draw = p.draw }) (declared p.size) no_roots p.slots 0 []

-- ---- a transaction by hand, which writes the first key

-- the first key
abbrev pub first_key : Key
first_key = record { storage = 1; key = 0 }

-- a worker's pass that holds these slots, each in the page of which it knows one place for each key
pub record IsWithin (slots : List ℕ) (v : View) : Type 0 where
  pub decls : AreDecls v.layout.decls
  pub worker : v.role ≡ roles.Worker (worker_of v.role)
  pub agree : WaysAgree v.ways
  pub trees : TreesAgree v
  pub holds : HasHolds slots v

-- nothing is read or locked, and the transaction has yet to draw
pub record IsFree (slots : List ℕ) (v : View) : Type 0 where
  pub within : IsWithin slots v
  pub due : v.due ≡ true
  pub kept : v.seat.kept ≡ []
  pub stage : v.seat.stage ≡ Idle
  pub locks : v.seat.locks ≡ []
  pub took : v.took ≡ []

-- the first key alone is locked, whose record's word stands here
pub record HasLock (at : ℕ) (v : View) : Type 0 where
  pub place : IsKeyAt v first_key at
  pub locks : v.seat.locks ≡ first_key ∷ []
  pub word : ℕ
  pub took : v.took ≡ took_at first_key (spot_at v.layout.slots at) word ∷ []

-- nothing was read, and the transaction has yet to draw
pub record IsHolding (slots : List ℕ) (at : ℕ) (v : View) : Type 0 where
  pub within : IsWithin slots v
  pub has : HasLock at v
  pub due : v.due ≡ true
  pub kept : v.seat.kept ≡ []
  pub stage : v.seat.stage ≡ Idle

-- its value is put, by an attempt whose number has this word
pub record HasPut (slots : List ℕ) (at number : ℕ) (v : View) : Type 0 where
  pub within : IsWithin slots v
  pub has : HasLock at v
  pub due : v.due ≡ false
  pub kept : v.seat.kept ≡ []
  pub can : CanOpenAnew v first_key (spot_at v.layout.slots at) number

-- it is open, and the slots are held still
pub record IsPublished (slots : List ℕ) (v : View) : Type 0 where
  pub within : IsWithin slots v
  pub due : v.due ≡ false
  pub took : v.took ≡ []
  pub rests : IsResting v.seat

-- ---- workers

-- what the view has in each phase of a worker
abbrev pub IsIn : Phase → Sets → List ℕ → ℕ → ℕ → View → Type 0
IsIn phases.Over sets slots at number v = IsOver v
IsIn phases.Live sets slots at number v = IsLive sets v
IsIn phases.Held sets slots at number v = IsHolding slots at v
IsIn phases.Put sets slots at number v = HasPut slots at number v

-- it is a worker of this engine, and its pass has what its phase says
pub record Stands (e : Engine) (w : Worker) : Type 0 where
  pub of : IsPassOf e w.pass
  pub size : IsSize w.size
  pub decls : (view w.pass).layout.decls ≡ declared w.size
  pub is : IsIn w.phase w.txn.sets w.holds w.at w.number (view w.pass)

-- the keeper's pass of this engine
pub record IsKeeper (e : Engine) (keeper : Pass) : Type 0 where
  pub of : IsPassOf e keeper
  pub role : (view keeper).role ≡ roles.Keeper

-- The same, where it holds nothing, so that it may drop pages of the array.
pub record IsDropper (e : Engine) (keeper : Pass) : Type 0 where
  pub keeps : IsKeeper e keeper
  pub bare : IsBare (view keeper)
  pub ways : (view keeper).ways ≡ []
  pub size : ℕ
  pub sized : IsSize size
  pub decls : (view keeper).layout.decls ≡ declared size

-- The workers from this one on are not seated yet, and the array has so many values.
pub record CanSeat (size : ℕ) (e : Engine) (next : ℕ) (keeper : Pass) : Type 0 where
  pub keeps : IsKeeper e keeper
  pub bare : IsBare (view keeper)
  pub ways : (view keeper).ways ≡ []
  pub sized : IsSize size
  pub decls : (view keeper).layout.decls ≡ declared size
  pub locks : (view keeper).seat.locks ≡ []
  pub apart : (worker : ℕ) → next ≤ worker → times worker (view keeper).made ≡ 0
  pub parked : (worker : ℕ) → worker < 8 → IsResting (get_or (view keeper).parked worker bare_seat)

-- the keeper's pass, which may drop pages, and the workers are of this engine
pub record AreWorkers (e : Engine) (keeper : Pass) (workers : List Worker) : Type 0 where
  pub keeps : IsDropper e keeper
  pub each : AllByRecursion (Stands e) workers

-- ---- hands

-- the slot is given to the pass, or published by it, where there are so many slots
abbrev pub HasOwn : Slot → ℕ → List Draft → List ℕ → Type 0
HasOwn slots.None count drafts blanks = ⊤
HasOwn (slots.Own t) count drafts blanks = (t < count) × ((x : Draft) × Contains drafts x × (x.slot ≡ t))
HasOwn (slots.Put t) count drafts blanks = (t < count) × (has_slot blanks t ≡ true)

-- the pass holds this slot alone, or none
abbrev pub HasHeld : Option ℕ → ℕ → List ℕ → Type 0
HasHeld None count holds = holds ≡ []
HasHeld (Some t) count holds = (t < count) × (holds ≡ t ∷ [])

-- the pass of a worker that has just these slots, and keeps nothing
pub record IsHand (own : Slot) (held : Option ℕ) (v : View) : Type 0 where
  pub worker : v.role ≡ roles.Worker (worker_of v.role)
  pub kept : v.seat.kept ≡ []
  pub own_slot : HasOwn own v.layout.slots v.drafts v.blanks
  pub held_slot : HasHeld held v.layout.slots v.grip.holds

-- it is a worker of this engine, whose pass has just the slots that it says
pub record HandStands (e : Engine) (h : Hand) : Type 0 where
  pub of : IsPassOf e h.pass
  pub is : IsHand h.own h.held (view h.pass)

-- the keeper's pass and the hands are of this engine
pub record AreHands (e : Engine) (keeper : Pass) (hands : List Hand) : Type 0 where
  pub keeps : IsKeeper e keeper
  pub each : AllByRecursion (HandStands e) hands
