-- A worker more is seated.
use Rattle.std.proofs.Common.{◌≡◌, ℕ, ◌+◌, ◌<◌, ◌≤◌, List, [], ◌∷◌, ◌++◌, refl, sym, ap, ◌∙◌, subst, arith}
use Rattle.std.specs.Prelude.{get_or}
use Rattle.views.specs.Sums.{times, one_at, total-append}
use Rattle.engine_pages.specs.declared.engine.Engine.{Engine}
use Rattle.engine_pages.specs.declared.view.View.{View}
use Rattle.engine_seats.specs.Cuts.{seated}
use Rattle.engine_pages.specs.Passes.{view, IsPassOf, Pass}
use Rattle.engine_pages.specs.Views.{bare_seat, IsResting}
use Rattle.std.proofs.lemmas.Bool.Decides.{nat_tests}
use Rattle.page_drops.specs.Calls.{IsBare}
use Rattle.txn_tests.specs.Standing.{IsKeeper, CanSeat}

others : (number worker : ℕ) → number + 1 ≤ worker → one_at worker number ≡ 0
others number worker less = grind (arith, nat_tests)

-- the keeper holds as little
bare_seated : (number : ℕ) (v : View) → IsBare v → IsBare (seated number v)
bare_seated number v bare = record {
  keeper = bare.keeper;
  idle = bare.idle;
  holds = bare.holds;
  made = bare.made;
  taken = bare.taken;
  locks = bare.locks;
  took = bare.took;
  parts = bare.parts;
  heads = bare.heads;
  shuts = bare.shuts;
}

pub seats_next : (size : ℕ) (e : Engine) (number : ℕ) (keeper later : Pass) → CanSeat size e number keeper
    → IsPassOf e later → view later ≡ seated number (view keeper) → CanSeat size e (number + 1) later
seats_next size e number keeper later can of is = record {
  keeps = record { of = of; role = ap (λ (v : View). v.role) is ∙ can.keeps.role };
  bare = subst IsBare (sym is) (bare_seated number (view keeper) can.bare);
  ways = ap (λ (v : View). v.ways) is ∙ can.ways;
  sized = can.sized;
  decls = ap (λ (v : View). v.layout.decls) is ∙ can.decls;
  locks = ap (λ (v : View). v.seat.locks) is ∙ can.locks;
  apart = λ worker less.
      let old = can.apart worker (omega (arith, less)) in
      let none = others number worker less in
      ap (λ (v : View). times worker v.made) is
      ∙ (total-append (one_at worker) (view keeper).made (number ∷ []) ∙ omega (arith, old, none));
  parked = λ worker less.
      subst (λ (v : View). IsResting (get_or v.parked worker bare_seat)) (sym is) (can.parked worker less);
}
