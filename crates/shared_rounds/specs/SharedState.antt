-- What an engine of words is between two rounds, as the pass of the maintenance thread knows it.
use Rattle.std.specs.Prelude.{◌≡◌, ◌+◌, ◌<◌, ◌≤◌, ℕ, Bool, true, false, List, [], ◌∷◌, filter, length, map}
use Rattle.std.specs.Prelude.{Contains, None, fold, get_or}
use Rattle.std.specs.FinMap.{empty, get}
use Rattle.views.specs.Sums.{total}
use Rattle.serial_model.specs.declared.decl.Decl.{Decl}
use Rattle.serial_model.specs.declared.key.Key.{Key}
use Rattle.serial_model.specs.declared.number.Number.{Number}
use Rattle.serial_model.specs.Decls.{AreDecls}
use Rattle.serial_model.specs.Keys.{has_key}
use Rattle.serial_model.specs.Numbers.{IsNumber}
use Rattle.serial_model.specs.State.{State}
use Rattle.homes.specs.declared.places.Content.{Content}
use Rattle.commit_core.specs.declared.attempt.Attempt.{Attempt}
use Rattle.commit_core.specs.CoreState.{is_decided}
use Rattle.commit_core.specs.Sound.Numbers.{EachOnce}
use Rattle.commit_core.specs.declared.seat.Mark.{Mark}
use Rattle.commit_core.specs.declared.seat.Seat.{Seat}
use Rattle.engine_pages.specs.declared.engine.Engine.{Engine}
use Rattle.engine_pages.specs.declared.view.Dropped.{Dropped}
use Rattle.engine_pages.specs.declared.view.Met.{Met}
use Rattle.engine_pages.specs.declared.view.RefusalCause.{RefusalCause}
use Rattle.engine_pages.specs.declared.view.Role.TheVariants.{Keeper}
use Rattle.engine_pages.specs.declared.view.View.{View}
use Rattle.engine_seats.specs.Between.{counts}
use Rattle.engine_pages.specs.Passes.{view, IsPassOf, Pass}
use Rattle.engine_seats.specs.Counts.{AreSerial}
use Rattle.resident_pages.specs.Fills.{AreClaimed}
use Rattle.engine_pages.specs.Views.{bare_seat, IsResting}
use Rattle.shared_rounds.specs.Contents.{after_commits, with_value}

-- ---- what it is between two rounds

-- the values of what stands at keys at first, where the first of a key counts
abbrev pub opened : List (Key × Content) → State
opened [] = empty
opened (e ∷ more) = with_value (opened more) e.0 e.1.value

-- what the keeper's own commits leave, which are all that count where nobody is seated
abbrev pub state_of : View → State
state_of v = after_commits (opened v.layout.opening) v.mine

-- an idle mark of no bytes
abbrev pub no_mark : Mark
no_mark = record { epoch = None; length = 0 }

-- the last of the marks that a seat set
abbrev pub last_mark : List Mark → Mark
last_mark marks = fold (λ before mark. mark) no_mark marks

-- of each worker, who isn't seated, the mark on the words: the last one of its seat
abbrev pub marks_of : List Seat → List Mark
marks_of seats = map (λ (seat : Seat). last_mark seat.marks) seats

-- the storages, their contents, what stood at keys at first, with its numbers, the number that the next commit gets,
-- the attempts that count, in order of number, what each try was refused for so far, which marks of workers saves met
-- so far, the workers' marks on the words, worker 0's first, how many slots there are for pages in memory, the words of
-- the snapshot pages that are published, for how many such pages there is room, and what each drop of pages came to so
-- far
pub record SharedState : Type 0 where
  pub decls : List Decl
  pub state : State
  pub opening : List (Key × Content)
  pub clock : Number
  pub mine : List Attempt
  pub refused : List RefusalCause
  pub met : List Met
  pub marks : List Mark
  pub slots : ℕ
  pub pages : List (List ℕ)
  pub resident : ℕ
  pub drops : List Dropped

-- what the keeper's pass and the clock are
abbrev pub shared_by : Pass → Number → SharedState
shared_by keeper clock = record {
  decls = (view keeper).layout.decls;
  state = state_of (view keeper);
  opening = (view keeper).layout.opening;
  clock = clock;
  mine = (view keeper).mine;
  refused = (view keeper).refused;
  met = (view keeper).met;
  marks = marks_of (view keeper).parked;
  slots = (view keeper).layout.slots;
  pages = (view keeper).pages;
  resident = (view keeper).layout.resident;
  drops = (view keeper).drops;
}

-- What a count told of the keeper's view, with nobody seated: its own commits are those that count.
pub record IsCounted (v : View) : Type 0 where
  pub own : v.mine ≡ filter (counts v.decided) v.history
  pub all : (h : Number → ℕ) → total (λ (a : Attempt). h a.number) v.mine ≡ total h v.decided
  pub drawn : (n : Number) → is_decided v.decided n ≡ true → (a : Attempt) × Contains v.history a × (a.number ≡ n)

-- The pass holds no slot and owns none, has led nothing away from one, has no lock of a record or a header, and has shut
-- no pointer.
pub record HoldsNothing (v : View) : Type 0 where
  pub holds : v.grip.holds ≡ []
  pub made : v.grip.made ≡ []
  pub taken : v.grip.taken ≡ []
  pub ways : v.ways ≡ []
  pub took : v.took ≡ []
  pub heads : v.heads ≡ []
  pub shuts : v.shuts ≡ []

-- What the keeper's pass knows between two rounds: nobody is seated, and no seat, its own or a worker's, has a
-- transaction or a lock; only keys of the storages have values; the attempts that count are its own, and serial; each
-- number was drawn by this pass, or by one that was ended into it; all room for snapshot pages behind those that are
-- published is its own to fill; and it has nothing of the pages in memory.
pub record IsKept (v : View) : Type 0 where
  pub role : v.role ≡ Keeper
  pub made : v.made ≡ []
  pub decls : AreDecls v.layout.decls
  pub first : IsNumber v.layout.first
  pub records : (k : Key) → has_key v.layout.decls k ≡ false → get (state_of v) k ≡ None
  pub counted : IsCounted v
  pub draws : v.draws ≡ length v.history
  pub once : EachOnce v.decided
  pub serial : AreSerial v.layout.opening v.history v.decided
  pub parked_are : length v.parked ≡ 8
  pub parked : (worker : ℕ) → worker < 8 → IsResting (get_or v.parked worker bare_seat)
  pub rests : IsResting v.seat
  pub some_slots : 0 < v.layout.slots
  pub few : v.layout.resident ≤ 65536
  pub claimed : AreClaimed v
  pub free : HoldsNothing v

-- The words with the keeper's pass, the storages, and the clock as it was last loaded: its draw is the one behind all
-- that were drawn.
pub record AreKept (words : Engine) (keeper : Pass) (decls : List Decl) (clock : Number) : Type 0 where
  pub of : IsPassOf words keeper
  pub kept : IsKept (view keeper)
  pub decls_are : decls ≡ (view keeper).layout.decls
  pub number : IsNumber clock
  pub epoch : clock.epoch ≡ (view keeper).epoch
  pub draw : clock.draw ≡ (view keeper).layout.first.draw + (view keeper).draws
