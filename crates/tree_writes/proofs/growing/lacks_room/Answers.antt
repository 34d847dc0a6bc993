use Rattle.std.proofs.Common.{true≢false, sym, ◌∙◌}
use Rattle.tree_writes.proofs.RoomLaws.{no_true, not_false}
use Rattle.tree_writes.proofs.growing.lacks_room.Goals as goal

pub returns-then-not-contains-clause-room : goal.returns-then-not-contains-clause-room
returns-then-not-contains-clause-room c none has =
    absurd (true≢false (sym has ∙ (sym c.contains.ensures ∙ c.if-not-contains.true)))

pub returns-clause-lacks : goal.returns-clause-lacks
returns-clause-lacks c is = (
  sym c.contains.ensures ∙ c.if-not-contains.false,
  sym c.has_read_room.ensures ∙ no_true c.has_read_room.result is,
)

pub returns-clause-room : goal.returns-clause-room
returns-clause-room c is has = sym c.has_read_room.ensures ∙ not_false c.has_read_room.result is
