-- A head without words is put in its place.
use Rattle.std.proofs.Common.{ap, arith, refl}
use Rattle.tx_script.specs.Room.{RoomState}
use Rattle.tx_script.specs.Flat.{outcome_refused}
use Rattle.tx_script.proofs.FlatOutcomes.{refused_are, refused_in}
use Rattle.tx_script.proofs.RoomMore.{one_more}
use Rattle.tx_script.proofs.outcome_room.OutcomeRoom.push_refused.Goals as goal

pub invariant_of-self : goal.invariant_of-self
invariant_of-self c = (
  rw (c.push_reserved.ensures.items, c.head_of_refused.ensures) (refused_are _ _ _ c.self.invariant.0 refl),
  c.self.invariant.1,
)

pub returns : goal.returns
returns c =
    let left = ap (λ (r : RoomState). r.left) c.self.view_is in
    one_more c.args.self.now (outcome_refused c.args.refused) 0 _ _ _
    (rw (c.push_reserved.ensures.items, c.head_of_refused.ensures)
    (refused_in _ _ _ _ c.args.refused c.self.invariant.0 refl refl (ap (λ (r : RoomState). r.told) c.self.view_is)))
    (omega (arith, c.push_reserved.ensures.len, c.push_reserved.ensures.capacity, left))
    (omega (arith, ap (λ (r : RoomState). r.space) c.self.view_is))
