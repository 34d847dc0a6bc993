-- The head and the words of the replies are put in their places.
use Rattle.std.proofs.Common.{ap, arith, length, refl, sym}
use Rattle.serial_model.specs.ReplyWords.{replies_of}
use Rattle.tx_script.specs.Room.{RoomState}
use Rattle.tx_script.specs.declared.outcome.Outcome.TheVariants.{Committed}
use Rattle.tx_script.proofs.FlatOutcomes.{commit_are, commit_in}
use Rattle.tx_script.proofs.RoomMore.{one_more}
use Rattle.tx_script.proofs.outcome_room.OutcomeRoom.push_words.Goals as goal

pub invariant_of-self : goal.invariant_of-self
invariant_of-self c =
    let space = ap (λ (r : RoomState). r.space) c.self.view_is in (
      rw (c.push_reserved.ensures.items, c.append_reserved.ensures.items, c.head_of_commit-head.ensures)
          (commit_are _ _ _ _ (replies_of c.args.words.now) c.self.invariant.0 refl (sym c.requires.are)),
      omega (
        arith,
        c.append_reserved.ensures.len,
        c.append_reserved.ensures.capacity,
        c.self.invariant.1,
        space,
        c.requires.space,
      ),
    )

pub returns : goal.returns
returns c =
    let left = ap (λ (r : RoomState). r.left) c.self.view_is in
    one_more c.args.self.now (Committed c.args.verdict c.args.number (replies_of c.args.words.now))
    (length c.args.words.now) _ _ _
    (rw (c.push_reserved.ensures.items, c.append_reserved.ensures.items, c.head_of_commit-head.ensures)
    (commit_in _ _ _ _ _ c.args.verdict (replies_of c.args.words.now) c.self.invariant.0 refl (sym c.requires.are)
    refl (ap (λ (r : RoomState). r.told) c.self.view_is)))
    (omega (arith, c.push_reserved.ensures.len, c.push_reserved.ensures.capacity, left))
    (omega (arith, ap (λ (r : RoomState). r.space) c.self.view_is))
