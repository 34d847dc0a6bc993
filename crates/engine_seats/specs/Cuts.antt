-- How views are cut and joined.
use Rattle.std.specs.Prelude.{◌≡◌, ℕ, ◌+◌, false, cond, List, [], ◌∷◌, ◌++◌, get_or, slice_set, None}
use Rattle.lists.specs.Fronts.{IsFront}
use Rattle.serial_model.specs.Numbers.{is_below}
use Rattle.commit_core.specs.declared.attempt.Attempt.{Attempt}
use Rattle.commit_core.specs.Keys.{opening_number}
use Rattle.views.specs.Sums.{without}
use Rattle.views.specs.Longer.{longer}
use Rattle.engine_pages.specs.declared.view.Heard.{Heard}
use Rattle.engine_pages.specs.declared.view.Role.{Role}
use Rattle.engine_pages.specs.declared.view.Role.TheVariants.{Keeper, Worker, Note, Spent}
use Rattle.engine_pages.specs.declared.view.Touch.{Touch}
use Rattle.engine_pages.specs.declared.view.View.{View}
use Rattle.engine_pages.specs.Views.{IsResting, bare_grip, bare_seat}

-- ---- notes

-- a view without a seat, which has seen what v has
abbrev pub note_view : View → View
note_view v = record {
  layout = v.layout;
  role = Note;
  made = [];
  past = 0;
  parked = [];
  steps = 0;
  epoch = 0;
  history = v.history;
  decided = v.decided;
  heard = [];
  mine = [];
  draws = 0;
  due = false;
  seat = bare_seat;
  checked = [];
  took = [];
  reads = [];
  gone = [];
  refused = [];
  touched = [];
  blamed = [];
  last = None;
  loaded = None;
  met = [];
  grip = bare_grip;
  ways = [];
  drafts = [];
  copies = [];
  blanks = [];
  known = [];
  heads = [];
  moved = [];
  sealed = [];
  inners = [];
  new_leaves = [];
  new_inners = [];
  versions = [];
  pages = v.pages;
  leads = [];
  fills = [];
  shuts = [];
  swung = [];
  kept = [];
  drops = [];
  looked = [];
}

-- what is left of a view that was taken into another
abbrev pub spent_view : View
spent_view = record {
  layout = record { first = opening_number; decls = []; roots = []; opening = []; slots = 0; resident = 0; pages = [] };
  role = Spent;
  made = [];
  past = 0;
  parked = [];
  steps = 0;
  epoch = 0;
  history = [];
  decided = [];
  heard = [];
  mine = [];
  draws = 0;
  due = false;
  seat = bare_seat;
  checked = [];
  took = [];
  reads = [];
  gone = [];
  refused = [];
  touched = [];
  blamed = [];
  last = None;
  loaded = None;
  met = [];
  grip = bare_grip;
  ways = [];
  drafts = [];
  copies = [];
  blanks = [];
  known = [];
  heads = [];
  moved = [];
  sealed = [];
  inners = [];
  new_leaves = [];
  new_inners = [];
  versions = [];
  pages = [];
  leads = [];
  fills = [];
  shuts = [];
  swung = [];
  kept = [];
  drops = [];
  looked = [];
}

-- what the view has seen
abbrev pub heard_of : View → Heard
heard_of v = record { history = v.history; decided = v.decided; epoch = v.epoch }

-- v has seen what u has, too
abbrev pub learned : View → View → View
learned v u = record v {
  history = longer v.history u.history;
  decided = longer v.decided u.decided;
  heard = heard_of v ∷ heard_of u ∷ [];
  pages = longer v.pages u.pages;
}

-- what v has seen stands at the beginning of what w has
pub record HasSeen (v w : View) : Type 0 where
  pub history : IsFront v.history w.history
  pub decided : IsFront v.decided w.decided

-- ---- seats

-- what the keeper's view has of touches as it seats a worker: where nobody was seated, nobody holds a lock
abbrev pub since_seated : List ℕ → List Touch → List Touch
since_seated [] touches = []
since_seated (worker ∷ more) touches = touches

-- the keeper's view with one worker more
abbrev pub seated : ℕ → View → View
seated worker v = record v {
  made = v.made ++ worker ∷ [];
  touched = since_seated v.made v.touched;
  blamed = since_seated v.made v.blamed;
}

-- and that of the worker, with the seat and the epoch that the keeper's view had
abbrev pub worker_view : ℕ → View → View
worker_view worker v =
    record (note_view v) { role = Worker worker; epoch = v.epoch; seat = get_or v.parked worker bare_seat }

-- the worker of a pass
abbrev pub worker_of : Role → ℕ
worker_of Keeper = 0
worker_of (Worker w) = w
worker_of Note = 0
worker_of Spent = 0

-- the pass has no transaction under way, no slot, and no header locked
pub record IsDone (v : View) : Type 0 where
  pub due : v.due ≡ false
  pub resting : IsResting v.seat
  pub grip : v.grip ≡ bare_grip
  pub heads : v.heads ≡ []

-- one more, in order of number
abbrev pub put_in : Attempt → List Attempt → List Attempt
put_in a [] = a ∷ []
put_in a (b ∷ more) = cond (is_below a.number b.number) (a ∷ b ∷ more) (b ∷ put_in a more)

-- both lists, in order of number
abbrev pub gathered : List Attempt → List Attempt → List Attempt
gathered xs [] = xs
gathered xs (y ∷ ys) = gathered (put_in y xs) ys

-- the keeper's view with what a worker's has
abbrev pub ended : View → View → View
ended v u = record (learned v u) {
  made = without (worker_of u.role) v.made;
  mine = gathered v.mine u.mine;
  draws = v.draws + u.draws;
  refused = v.refused ++ u.refused;
  touched = v.touched ++ u.touched;
  blamed = v.blamed ++ u.blamed;
  parked = slice_set v.parked (worker_of u.role) u.seat;
}
