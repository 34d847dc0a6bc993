use Rattle.std.proofs.Common.{subst, sym, Some, None, Option, ℕ}
use Rattle.engine_pages.specs.Passes.{view}
use Rattle.txn_tests.specs.declared.hand.Slot.{Slot}
use Rattle.txn_tests.specs.declared.hand.Slot.TheVariants as slots
use Rattle.txn_tests.specs.Standing.{IsHand}
use Rattle.txn_tests.proofs.HandLaws.{hand_active, is_held, is_unkept, leaves, slot_held}
use Rattle.txn_tests.proofs.slots.leave_slot.Goals as goal

pub leave-requires-clause-pass : goal.leave-requires-clause-pass
leave-requires-clause-pass c = hand_active _ _ (view c.args.hand.now.pass) c.requires.is

pub leave-requires-clause-slot : goal.leave-requires-clause-slot
leave-requires-clause-slot c =
    slot_held c.args.hand.now.own c.in-Some.slot (view c.args.hand.now.pass)
    (subst (λ (o : Option ℕ). IsHand c.args.hand.now.own o (view c.args.hand.now.pass)) c.in-Some.is c.requires.is)

pub leave-requires-clause-held : goal.leave-requires-clause-held
leave-requires-clause-held c =
    is_held c.args.hand.now.own c.in-Some.slot (view c.args.hand.now.pass)
    (subst (λ (o : Option ℕ). IsHand c.args.hand.now.own o (view c.args.hand.now.pass)) c.in-Some.is c.requires.is)

pub leave-requires-clause-unkept : goal.leave-requires-clause-unkept
leave-requires-clause-unkept c =
    is_unkept c.args.hand.now.own c.args.hand.now.held c.in-Some.slot (view c.args.hand.now.pass) c.requires.is

pub returns : goal.returns
returns c = record {
  of = c.leave.ensures.of;
  is = leaves c.args.hand.now.own c.in-Some.slot (view c.args.hand.now.pass) (view c.leave.new.pass)
      c.leave.ensures.leaves
      (subst (λ (o : Option ℕ). IsHand c.args.hand.now.own o (view c.args.hand.now.pass)) c.in-Some.is c.requires.is);
}
