-- The keeper's view as workers are seated.
use Rattle.std.specs.Prelude.{◌≡◌, ◌<◌, ◌≤◌, ◌+◌, ℕ, zero, suc, List, [], ◌∷◌, ◌++◌, get_or, length}
use Rattle.lists.specs.Fronts.{IsFront}
use Rattle.serial_model.specs.Decls.{AreDecls}
use Rattle.engine_pages.specs.Views.{IsResting, bare_seat}
use Rattle.engine_seats.specs.Cuts.{HasSeen}
use Rattle.engine_pages.specs.declared.view.Role.TheVariants.{Keeper}
use Rattle.engine_pages.specs.declared.view.Touch.{Touch}
use Rattle.engine_pages.specs.declared.view.View.{View}

-- what it has of locks and of refusals in conflict with these workers seated: nothing yet, where there are some
abbrev pub since_made : List ℕ → List Touch → List Touch
since_made [] touches = touches
since_made (worker ∷ more) touches = []

-- the keeper's view with these workers seated
abbrev pub with_made : List ℕ → View → View
with_made workers v = record v {
  made = workers;
  touched = since_made workers v.touched;
  blamed = since_made workers v.blamed;
}

-- so many workers, the last of which is this one, the greatest number first
abbrev pub seats_from : ℕ → ℕ → List ℕ
seats_from zero low = []
seats_from (suc n) low = seats_from n (low + 1) ++ low ∷ []

-- nobody is seated, no worker's seat has a transaction, and the keeper has no locks
pub record CanSeat (v : View) : Type 0 where
  pub role : v.role ≡ Keeper
  pub made : v.made ≡ []
  pub locks : v.seat.locks ≡ []
  pub decls : AreDecls v.layout.decls
  pub draws : 1 ≤ v.layout.first.draw
  pub parked : (worker : ℕ) → worker < 8 → IsResting (get_or v.parked worker bare_seat)

-- The keeper has this view, who had the other one as the round began, with all eight workers seated since. It has done
-- nothing of a worker's own meanwhile; the clock may have come further, more pages may be published, and it may have
-- dropped pages, for which it took locks.
pub record StandsFor (was now : View) : Type 0 where
  pub role : now.role ≡ Keeper
  pub made : now.made ≡ seats_from 8 0
  pub layout : now.layout ≡ was.layout
  pub epoch : was.epoch ≤ now.epoch
  pub seen : HasSeen was now
  pub seat : now.seat ≡ was.seat
  pub mine : now.mine ≡ was.mine
  pub draws : now.draws ≡ was.draws
  pub refused : now.refused ≡ was.refused
  pub drops : IsFront was.drops now.drops
  pub touched : now.drops ≡ was.drops → now.touched ≡ []
  pub blamed : now.blamed ≡ []
  pub parked_are : length now.parked ≡ 8
  pub parked : (worker : ℕ) → worker < 8 → IsResting (get_or now.parked worker bare_seat)
