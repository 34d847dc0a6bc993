-- A worker more is seated, and the last one of some.
use Rattle.std.proofs.Common.{◌≡◌, ℕ, ◌+◌, ◌<◌, ◌≤◌, List, [], ◌∷◌, ◌++◌, refl, sym, ap, ◌∙◌, subst, arith}
use Rattle.std.specs.Prelude.{get_or}
use Rattle.std.specs.List.{AllByRecursion}
use Rattle.views.specs.Sums.{times, one_at, total-append}
use Rattle.engine_pages.specs.declared.engine.Engine.{Engine}
use Rattle.engine_pages.specs.declared.view.View.{View}
use Rattle.engine_seats.specs.Cuts.{seated}
use Rattle.engine_pages.specs.Passes.{view, IsPassOf, Pass}
use Rattle.engine_pages.specs.Views.{bare_seat, IsResting}
use Rattle.std.proofs.lemmas.Bool.Decides.{nat_tests}
use Rattle.bank_tellers.specs.Standing.{IsKeeper, CanSeat}

others : (number worker : ℕ) → number + 1 ≤ worker → one_at worker number ≡ 0
others number worker less = grind (arith, nat_tests)

pub seats_next : (e : Engine) (number : ℕ) (keeper later : Pass) → CanSeat e number keeper → IsPassOf e later
    → view later ≡ seated number (view keeper) → CanSeat e (number + 1) later
seats_next e number keeper later can of is = record {
  keeps = record { of = of; role = ap (λ (v : View). v.role) is ∙ can.keeps.role };
  decls = ap (λ (v : View). v.layout.decls) is ∙ can.decls;
  locks = ap (λ (v : View). v.seat.locks) is ∙ can.locks;
  apart = λ worker less.
      let old = can.apart worker (omega (arith, less)) in
      let none = others number worker less in
      ap (λ (v : View). times worker v.made) is
      ∙ (total-append (one_at worker) (view keeper).made (number ∷ []) ∙ omega (arith, old, none));
  parked = λ worker less.
      subst (λ (v : View). IsResting (get_or v.parked worker bare_seat)) (sym is) (can.parked worker less);
}

pub all_last : {X : Type 0} (P : X → Type 0) (xs : List X) (y : X) → AllByRecursion P (xs ++ y ∷ []) → P y
all_last P [] y all = all.0
all_last P (x ∷ xs) y all = all_last P xs y all.1
