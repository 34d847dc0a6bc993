-- One view by itself.
use Rattle.std.specs.Prelude.{◌≡◌, ℕ, suc, ◌-◌, ◌<◌, Bool, false, cond, replicate, List, [], None, ⊤}
use Rattle.serial_model.specs.declared.number.Number.{Number}
use Rattle.commit_core.specs.declared.attempt.Attempt.{Attempt}
use Rattle.commit_core.specs.declared.seat.Seat.{Seat}
use Rattle.commit_core.specs.declared.seat.Stage.{Stage}
use Rattle.commit_core.specs.declared.seat.Stage.TheVariants.{Idle}
use Rattle.commit_core.specs.CoreState.{is_trying}
use Rattle.commit_core.specs.Opening.{fresh_seat}
use Rattle.drop_core.specs.declared.grip.Grip.{Grip}
use Rattle.views.specs.Sums.{total, one_at, times}
use Rattle.engine_pages.specs.declared.layout.Layout.{Layout}
use Rattle.engine_pages.specs.declared.view.Copied.{Copied}
use Rattle.engine_pages.specs.declared.view.Draft.{Draft}
use Rattle.engine_pages.specs.declared.view.Role.{Role}
use Rattle.engine_pages.specs.declared.view.Role.TheVariants.{Keeper, Worker, Note, Spent}
use Rattle.engine_pages.specs.declared.view.View.{View}
use Rattle.engine_pages.specs.declared.view.Way.{Way}

-- ---- the seat of a pass in the machines: the keeper's is 0, a worker's one more than its number

-- the pass has this seat
abbrev pub IsAt : ℕ → Role → Type 0
IsAt p Keeper = p ≡ 0
IsAt p (Worker w) = p ≡ suc w
IsAt p Note = ⊥
IsAt p Spent = ⊥

-- its number, and 0 for a pass without one
abbrev pub seat_number : Role → ℕ
seat_number Keeper = 0
seat_number (Worker w) = suc w
seat_number Note = 0
seat_number Spent = 0

-- it has a seat
abbrev pub IsActive : Role → Type 0
IsActive Keeper = ⊤
IsActive (Worker w) = ⊤
IsActive Note = ⊥
IsActive Spent = ⊥

-- ---- what a view weighs

-- 1 for a pass of this role that has this seat
abbrev pub sits_by : ℕ → Role → ℕ
sits_by p Keeper = one_at p 0
sits_by p (Worker w) = one_at p (suc w)
sits_by p Note = 0
sits_by p Spent = 0

-- 1 for the pass that has this seat
abbrev pub sits : ℕ → View → ℕ
sits p v = sits_by p v.role

-- how often the worker stands in `made`
abbrev pub makes : ℕ → View → ℕ
makes worker v = times worker v.made

-- 1 where a draw is due
abbrev pub waits : View → ℕ
waits v = cond v.due 1 0

-- 1 where an attempt is in progress
abbrev pub tries : View → ℕ
tries v = cond (is_trying v.seat.stage) 1 0

-- the own commits, weighed by their numbers
abbrev pub owns : (Number → ℕ) → View → ℕ
owns h v = total (λ a. h a.number) v.mine

-- how many numbers it drew
abbrev pub drawn_by : View → ℕ
drawn_by v = v.draws

-- ---- what passes of the roles have

-- no commits, no attempt, and nobody seated
pub record HasNothing (made : List ℕ) (due : Bool) (stage : Stage) (mine : List Attempt) : Type 0 where
  pub nobody : made ≡ []
  pub no_draw : due ≡ false
  pub no_attempt : is_trying stage ≡ false
  pub no_commits : mine ≡ []

-- the keeper begins no transaction and so has no attempt, and a worker seats nobody
abbrev pub HasPart : Role → List ℕ → Bool → Stage → List Attempt → Type 0
HasPart Keeper made due stage mine = (due ≡ false) × (stage ≡ Idle)
HasPart (Worker w) made due stage mine = (w < 8) × (made ≡ [])
HasPart Note made due stage mine = HasNothing made due stage mine
HasPart Spent made due stage mine = HasNothing made due stage mine

-- the grip of a pass that has none
abbrev pub bare_grip : Grip
bare_grip = record { holds = []; made = []; taken = [] }

-- it has no slot, and knows none that it holds, owns or published
abbrev pub HasNoSlots : Grip → List Way → List Draft → List Copied → List ℕ → Type 0
HasNoSlots grip ways drafts copies blanks =
    (grip ≡ bare_grip) × (ways ≡ []) × (drafts ≡ []) × (copies ≡ []) × (blanks ≡ [])

-- a pass without a seat has no part of the pages
abbrev pub HasNoPages : Role → Grip → List Way → List Draft → List Copied → List ℕ → Type 0
HasNoPages Keeper grip ways drafts copies blanks = ⊤
HasNoPages (Worker w) grip ways drafts copies blanks = ⊤
HasNoPages Note grip ways drafts copies blanks = HasNoSlots grip ways drafts copies blanks
HasNoPages Spent grip ways drafts copies blanks = HasNoSlots grip ways drafts copies blanks

-- it knows of no page of a tree, and published none
abbrev pub HasNoTreePages : View → Type 0
HasNoTreePages v = (v.known ≡ []) × (v.heads ≡ []) × (v.moved ≡ []) × (v.inners ≡ [])
    × (v.new_leaves ≡ []) × (v.new_inners ≡ []) × (v.sealed ≡ [])

-- nor has a pass without a seat any of trees
abbrev pub HasNoTrees : Role → View → Type 0
HasNoTrees Keeper v = ⊤
HasNoTrees (Worker w) v = ⊤
HasNoTrees Note v = HasNoTreePages v
HasNoTrees Spent v = HasNoTreePages v

-- a seat without a transaction
pub record IsResting (s : Seat) : Type 0 where
  pub kept : s.kept ≡ []
  pub locks : s.locks ≡ []
  pub stage : s.stage ≡ Idle

-- ---- the beginning

-- the seat of a pass that has none
abbrev pub bare_seat : Seat
bare_seat = record { kept = []; locks = []; put = []; marks = []; stage = Idle }

-- the keeper's pass of a new engine
abbrev pub opening_view : Layout → View
opening_view l = record {
  layout = l;
  role = Keeper;
  made = [];
  past = l.first.epoch - 1;
  parked = replicate 8 (fresh_seat l.first);
  steps = 0;
  epoch = l.first.epoch;
  history = [];
  decided = [];
  heard = [];
  mine = [];
  draws = 0;
  due = false;
  seat = fresh_seat l.first;
  checked = [];
  took = [];
  reads = [];
  gone = [];
  refused = [];
  touched = [];
  blamed = [];
  last = None;
  loaded = None;
  met = [];
  grip = bare_grip;
  ways = [];
  drafts = [];
  copies = [];
  blanks = [];
  known = [];
  heads = [];
  moved = [];
  sealed = [];
  inners = [];
  new_leaves = [];
  new_inners = [];
  versions = [];
  pages = l.pages;
  leads = [];
  shuts = [];
  swung = [];
  kept = [];
  drops = [];
  fills = [];
  looked = [];
}
