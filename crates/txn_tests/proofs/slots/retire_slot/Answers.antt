use Rattle.std.proofs.Common.{subst, sym, Some, None, Option, ℕ}
use Rattle.engine_pages.specs.Passes.{view}
use Rattle.txn_tests.specs.declared.hand.Slot.{Slot}
use Rattle.txn_tests.specs.declared.hand.Slot.TheVariants as slots
use Rattle.txn_tests.specs.Standing.{IsHand}
use Rattle.txn_tests.proofs.HandLaws.{hand_active, may_retire, retires, the_put}
use Rattle.txn_tests.proofs.slots.retire_slot.Goals as goal

pub retire-requires-clause-pass : goal.retire-requires-clause-pass
retire-requires-clause-pass c = hand_active _ _ (view c.args.hand.now.pass) c.requires.is

pub retire-requires-clause-slot : goal.retire-requires-clause-slot
retire-requires-clause-slot c =
    (the_put c.args.hand.now.held c.in-Put.slot (view c.args.hand.now.pass)
    (subst (λ (o : Slot). IsHand o c.args.hand.now.held (view c.args.hand.now.pass)) c.in-Put.is c.requires.is))

pub retire-requires-clause-may : goal.retire-requires-clause-may
retire-requires-clause-may c =
    may_retire c.args.hand.now.held c.in-Put.slot (view c.args.hand.now.pass)
    (subst (λ (o : Slot). IsHand o c.args.hand.now.held (view c.args.hand.now.pass)) c.in-Put.is c.requires.is)

pub returns : goal.returns
returns c = record {
  of = c.retire.ensures.of;
  is = retires c.args.hand.now.held c.in-Put.slot (view c.args.hand.now.pass) (view c.retire.new.pass)
      c.retire.ensures.retires
      (subst (λ (o : Slot). IsHand o c.args.hand.now.held (view c.args.hand.now.pass)) c.in-Put.is c.requires.is);
}
