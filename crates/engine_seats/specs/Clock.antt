-- What the steps of the clock and of the marks tell.
use Rattle.std.specs.Prelude.{◌≡◌, ℕ, ◌+◌, ◌<◌, ◌≤◌, List, [], ◌∷◌, ◌++◌, length, get_or, slice_get, Contains, Option}
use Rattle.std.specs.Prelude.{Some, None, ⊤}
use Rattle.atomic_table.specs.Table.{Step}
use Rattle.commit_core.specs.declared.seat.Mark.{Mark}
use Rattle.commit_core.specs.CoreState.{last_marked}
use Rattle.views.specs.Sums.{times}
use Rattle.engine_pages.specs.declared.view.Met.{Met}
use Rattle.engine_pages.specs.declared.view.Role.TheVariants.{Keeper}
use Rattle.engine_pages.specs.declared.view.View.{View}
use Rattle.engine_pages.specs.Layout.{mark_at}
use Rattle.engine_pages.specs.Steps.{glanced}
use Rattle.engine_pages.specs.Views.{bare_seat}
use Rattle.engine_pages.specs.Words.{IsSmallMark, word_of_mark}

-- ---- the clock

-- the clock is in the next epoch
abbrev pub advanced : View → View
advanced v = record v { epoch = v.epoch + 1; steps = v.steps + 1; loaded = None }

-- the same of the step
abbrev pub Advances : Step (Unit {0}) → View → ℕ → View → Type 0
Advances s v n w = w ≡ advanced v

-- ---- marks

-- an epoch below the one that was seen, and none below an earlier mark's; or idle
abbrev pub CanMark : View → Option ℕ → Type 0
CanMark v None = ⊤
CanMark v (Some e) = (e < v.epoch) × (last_marked v.seat.marks ≤ e)

-- one mark more
abbrev pub marked : Mark → View → View
marked mark v =
    record v { seat = record v.seat { marks = v.seat.marks ++ mark ∷ [] }; steps = v.steps + 1; loaded = None }

-- the same of the step
abbrev pub Marks : Mark → Step (Unit {0}) → View → ℕ → View → Type 0
Marks mark s v n w = w ≡ marked mark v

-- the worker's mark at this place among its marks has this word
abbrev pub met_at : ℕ → ℕ → ℕ → Met
met_at worker n place = record { worker = worker; word = n; place = place }

-- the mark that was met stands at its place among these
abbrev pub IsMetAt : List Mark → Met → Type 0
IsMetAt marks met = (mark : Mark) × (slice_get marks met.place ≡ Some mark) × (met.word ≡ word_of_mark mark)

-- the mark is the last of these
pub record IsLast (mark : Mark) (marks : List Mark) : Type 0 where
  pub before : List Mark
  pub is : marks ≡ before ++ mark ∷ []

-- The mark of the worker was loaded, which stands at this place among those that its seat set. No mark of the worker that
-- the pass had met stands behind it, nor does any that the keeper knew of as it seated the worker; where the worker isn't
-- seated, it is the last of these.
pub record HasMet (worker : ℕ) (v : View) (n : ℕ) (w : View) : Type 0 where
  pub mark : Mark
  pub small : IsSmallMark mark
  pub found : n ≡ word_of_mark mark
  pub place : ℕ
  pub rises : (x : Met) → Contains v.met x → x.worker ≡ worker → x.place ≤ place
  pub begun : v.role ≡ Keeper → length (get_or v.parked worker bare_seat).marks ≤ place + 1
  pub parked : v.role ≡ Keeper → times worker v.made ≡ 0 → IsLast mark (get_or v.parked worker bare_seat).marks
  pub is : w ≡ record (glanced (mark_at worker) n v) { met = v.met ++ met_at worker n place ∷ [] }

-- the same of the step
abbrev pub Meets : ℕ → Step (Unit {0}) → View → ℕ → View → Type 0
Meets worker s v n w = HasMet worker v n w
