use Rattle.engine_pages.specs.Passes.{view}
use Rattle.txn_tests.proofs.HandLaws.{seated_hand}
use Rattle.txn_tests.proofs.SeatLaws.{seats_next}
use Rattle.txn_tests.proofs.seating.hand_next.Goals as goal

pub returns-clause-can : goal.returns-clause-can
returns-clause-can c =
    seats_next c.args.size c.args.engine.now c.args.number c.args.keeper.now c.seat.new.keeper c.requires.can
    c.seat.ensures.of.0 c.seat.ensures.keeper

pub returns-clause-stands : goal.returns-clause-stands
returns-clause-stands c = record {
  of = c.seat.ensures.of.1;
  is = seated_hand c.args.number c.seat.result (view c.args.keeper.now)
      (c.requires.can.parked c.args.number c.requires.number) c.seat.ensures.seat;
}
