use Rattle.std.proofs.Common.{ap, subst, sym, ◌∙◌}
use Rattle.serial_model.specs.Decls.{AreDecls}
use Rattle.engine_pages.specs.declared.view.View.{View}
use Rattle.engine_pages.specs.Passes.{view}
use Rattle.page_commit.specs.Live.{IsOver}
use Rattle.txn_tests.proofs.OverLaws.{seat_over}
use Rattle.txn_tests.proofs.OpeningLaws.{are_declared}
use Rattle.txn_tests.proofs.SeatLaws.{seats_next}
use Rattle.txn_tests.proofs.seating.seat_next.Goals as goal

pub returns-clause-can : goal.returns-clause-can
returns-clause-can c =
    seats_next c.args.size c.args.engine.now c.args.number c.args.keeper.now c.seat.new.keeper c.requires.can
    c.seat.ensures.of.0 c.seat.ensures.keeper

pub returns-clause-stands : goal.returns-clause-stands
returns-clause-stands c = record {
  of = c.seat.ensures.of.1;
  size = c.requires.can.sized;
  decls = ap (λ (v : View). v.layout.decls) c.seat.ensures.seat ∙ c.requires.can.decls;
  is = subst IsOver (sym c.seat.ensures.seat)
      (seat_over (view c.args.keeper.now) c.args.number
      (subst AreDecls (sym c.requires.can.decls) (are_declared c.args.size c.requires.can.sized))
      (c.requires.can.parked c.args.number c.requires.number));
}
