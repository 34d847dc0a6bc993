use Rattle.std.proofs.Common.{subst, sym, Some, None, Option, ℕ}
use Rattle.engine_pages.specs.Passes.{view}
use Rattle.txn_tests.specs.declared.hand.Slot.{Slot}
use Rattle.txn_tests.specs.declared.hand.Slot.TheVariants as slots
use Rattle.txn_tests.specs.Standing.{IsHand}
use Rattle.txn_tests.proofs.HandLaws.{enters, hand_active, slot_there, unheld}
use Rattle.txn_tests.proofs.slots.enter_slot.Goals as goal

pub enter-requires-clause-pass : goal.enter-requires-clause-pass
enter-requires-clause-pass c = hand_active _ _ (view c.args.hand.now.pass) c.requires.is

pub enter-requires-clause-slot : goal.enter-requires-clause-slot
enter-requires-clause-slot c =
    slot_there c.args.engine.now c.args.hand.now.pass c.args.slot c.slots.result c.requires.of c.slots.ensures.value
    c.if-slot-slots.false

pub enter-requires-clause-unheld : goal.enter-requires-clause-unheld
enter-requires-clause-unheld c =
    unheld c.args.hand.now.own c.args.slot (view c.args.hand.now.pass)
    (subst (λ (o : Option ℕ). IsHand c.args.hand.now.own o (view c.args.hand.now.pass)) c.in-None.is c.requires.is)

pub returns : goal.returns
returns c = record {
  of = c.enter.ensures.of;
  is = enters c.args.hand.now.own c.args.slot (view c.args.hand.now.pass) (view c.enter.new.pass)
      (slot_there c.args.engine.now c.args.hand.now.pass c.args.slot c.slots.result c.requires.of c.slots.ensures.value
      c.if-slot-slots.false)
      c.enter.ensures.enters
      (subst (λ (o : Option ℕ). IsHand c.args.hand.now.own o (view c.args.hand.now.pass)) c.in-None.is c.requires.is);
}
