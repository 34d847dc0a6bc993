use Rattle.std.proofs.Common.{subst, sym, Some, None, Option, ℕ}
use Rattle.engine_pages.specs.Passes.{view}
use Rattle.txn_tests.specs.declared.hand.Slot.{Slot}
use Rattle.txn_tests.specs.declared.hand.Slot.TheVariants as slots
use Rattle.txn_tests.specs.Standing.{IsHand}
use Rattle.txn_tests.proofs.HandLaws.{hand_active, looks_on, slot_there}
use Rattle.txn_tests.proofs.slots.look_at.Goals as goal

pub look-requires-clause-pass : goal.look-requires-clause-pass
look-requires-clause-pass c = hand_active _ _ (view c.args.hand.now.pass) c.requires.is

pub look-requires-clause-slot : goal.look-requires-clause-slot
look-requires-clause-slot c =
    slot_there c.args.engine.now c.args.hand.now.pass c.args.slot c.slots.result c.requires.of c.slots.ensures.value
    c.if-slot-slots.false

pub returns : goal.returns
returns c = record {
  of = c.look.ensures.of;
  is = looks_on c.args.hand.now.own c.args.hand.now.held c.args.slot c.look.result (view c.args.hand.now.pass)
      (view c.look.new.pass) c.look.ensures.looks c.requires.is;
}
