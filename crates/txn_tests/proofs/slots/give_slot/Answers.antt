use Rattle.std.proofs.Common.{subst, sym, Some, None, Option, ℕ}
use Rattle.engine_pages.specs.Passes.{view}
use Rattle.txn_tests.specs.declared.hand.Slot.{Slot}
use Rattle.txn_tests.specs.declared.hand.Slot.TheVariants as slots
use Rattle.txn_tests.specs.Standing.{IsHand}
use Rattle.txn_tests.proofs.HandLaws.{hand_active, misses, takes}
use Rattle.txn_tests.proofs.slots.give_slot.Goals as goal

pub give-requires-clause-pass : goal.give-requires-clause-pass
give-requires-clause-pass c = hand_active _ _ (view c.args.hand.now.pass) c.requires.is

pub returns-in-Ok : goal.returns-in-Ok
returns-in-Ok c = record {
  of = c.give.ensures.of;
  is = takes c.args.hand.now.held c.in-Ok.slot (view c.args.hand.now.pass) (view c.give.new.pass)
      c.in-Ok.ensures.given
      (subst (λ (o : Slot). IsHand o c.args.hand.now.held (view c.args.hand.now.pass)) c.in-None.is c.requires.is);
}

pub returns-in-Err : goal.returns-in-Err
returns-in-Err c = record {
  of = c.give.ensures.of;
  is = misses c.args.hand.now.own c.args.hand.now.held c.in-Err.why (view c.args.hand.now.pass) (view c.give.new.pass)
      c.in-Err.ensures.missed c.requires.is;
}
