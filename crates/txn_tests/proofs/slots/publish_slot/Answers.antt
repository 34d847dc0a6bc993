use Rattle.std.proofs.Common.{subst, sym, Some, None, Option, ℕ}
use Rattle.engine_pages.specs.Passes.{view}
use Rattle.txn_tests.specs.declared.hand.Slot.{Slot}
use Rattle.txn_tests.specs.declared.hand.Slot.TheVariants as slots
use Rattle.txn_tests.specs.Standing.{IsHand}
use Rattle.txn_tests.proofs.HandLaws.{hand_active, publishes, the_own}
use Rattle.txn_tests.proofs.slots.publish_slot.Goals as goal

pub publish_blank-requires-clause-pass : goal.publish_blank-requires-clause-pass
publish_blank-requires-clause-pass c = hand_active _ _ (view c.args.hand.now.pass) c.requires.is

pub publish_blank-requires-clause-slot : goal.publish_blank-requires-clause-slot
publish_blank-requires-clause-slot c =
    (the_own c.args.hand.now.held c.in-Own.slot (view c.args.hand.now.pass)
    (subst (λ (o : Slot). IsHand o c.args.hand.now.held (view c.args.hand.now.pass)) c.in-Own.is c.requires.is)).0

pub publish_blank-requires-clause-draft : goal.publish_blank-requires-clause-draft
publish_blank-requires-clause-draft c =
    (the_own c.args.hand.now.held c.in-Own.slot (view c.args.hand.now.pass)
    (subst (λ (o : Slot). IsHand o c.args.hand.now.held (view c.args.hand.now.pass)) c.in-Own.is c.requires.is)).1

pub returns : goal.returns
returns c = record {
  of = c.publish_blank.ensures.of;
  is = publishes c.args.hand.now.held c.in-Own.slot (view c.args.hand.now.pass) (view c.publish_blank.new.pass)
      c.publish_blank.ensures.publishes
      (subst (λ (o : Slot). IsHand o c.args.hand.now.held (view c.args.hand.now.pass)) c.in-Own.is c.requires.is);
}
