use Rattle.std.proofs.Common.{inl, inr, refl, sym, ◌∙◌, Some}
use Rattle.engine_pages.specs.Passes.{view}
use Rattle.page_commit.specs.Places.{ground}
use Rattle.page_commit.proofs.TurnLaws.{value_rewritten}
use Rattle.page_commit.proofs.WriteLaws.{absent_same, rewritten_all, rewritten_writes, room_same, word_apart}
use Rattle.tree_writes.proofs.ValueWrites.{inserted_put, inserted_tree}
use Rattle.tree_writes.proofs.WholePlaces.{whole_again, whole_put}
use Rattle.tree_writes.proofs.WriteTurns.{value_placed}
use Rattle.tree_writes.proofs.writing.write.Goals as goal

pub returns-then-contains-clause-done : goal.returns-then-contains-clause-done
returns-then-contains-clause-done c =
    value_rewritten c.args.sets.now _ (view c.args.pass.now) c.args.key c.args.value c.requires.live refl refl refl refl
    (rewritten_writes c.args.key c.args.value c.args.sets.now.writes _ c.set.ensures)
    (rewritten_all (ground (view c.args.pass.now)) c.args.key c.args.value c.args.sets.now.writes _ c.set.ensures
    c.requires.live.writes)

pub returns-then-contains-clause-locks : goal.returns-then-contains-clause-locks
returns-then-contains-clause-locks c = inl refl

pub place_seen-requires-clause-unwritten : goal.place_seen-requires-clause-unwritten
place_seen-requires-clause-unwritten c = sym c.contains.ensures ∙ c.if-contains.false

pub put-requires-clause-room : goal.put-requires-clause-room
put-requires-clause-room c = room_same c.in-Ok.ensures.brings.writes c.in-Ok.ensures.room

pub put-requires-clause-absent : goal.put-requires-clause-absent
put-requires-clause-absent c =
    absent_same c.args.key c.in-Ok.ensures.brings.writes (sym c.contains.ensures ∙ c.if-contains.false)

pub put-requires-clause-apart : goal.put-requires-clause-apart
put-requires-clause-apart c =
    word_apart (ground (view c.place_seen.new.pass)) c.args.key c.in-Ok.at c.place_seen.new.sets.writes
    c.in-Ok.ensures.brings.live.agree c.in-Ok.ensures.brings.live.trees.known (inr c.in-Ok.ensures.brings.place)
    c.in-Ok.ensures.brings.live.writes
    (absent_same c.args.key c.in-Ok.ensures.brings.writes (sym c.contains.ensures ∙ c.if-contains.false))

pub returns-in-Ok-clause-done : goal.returns-in-Ok-clause-done
returns-in-Ok-clause-done c =
    value_placed c.args.sets.now c.place_seen.new.sets c.put.new.sets (view c.args.pass.now) (view c.place_seen.new.pass)
    c.args.key c.args.value c.in-Ok.at c.requires.tree c.in-Ok.ensures.brings c.put.ensures.keeps
    (inserted_tree (ground (view c.place_seen.new.pass)) c.args.key (Some c.args.value) c.in-Ok.at
    c.place_seen.new.sets.writes c.put.new.sets.writes c.put.ensures.writes c.in-Ok.ensures.brings.place
    c.in-Ok.ensures.brings.live.writes)
    (inserted_put c.args.key (Some c.args.value) c.in-Ok.at c.place_seen.new.sets.writes c.put.new.sets.writes
    c.put.ensures.writes
    (absent_same c.args.key c.in-Ok.ensures.brings.writes (sym c.contains.ensures ∙ c.if-contains.false)))

pub returns-in-Ok-clause-locks : goal.returns-in-Ok-clause-locks
returns-in-Ok-clause-locks c = c.in-Ok.ensures.brings.locks

pub returns-then-contains-clause-whole : goal.returns-then-contains-clause-whole
returns-then-contains-clause-whole c =
    whole_again c.args.key c.args.sets.now _ (view c.args.pass.now) (view c.args.pass.now)
    (sym c.contains.ensures ∙ c.if-contains.true)

pub returns-in-Ok-clause-whole : goal.returns-in-Ok-clause-whole
returns-in-Ok-clause-whole c =
    whole_put c.args.key (Some c.args.value) c.in-Ok.at c.args.sets.now c.place_seen.new.sets c.put.new.sets
    (view c.args.pass.now) (view c.place_seen.new.pass) c.put.ensures.writes c.in-Ok.ensures.brings.writes
    c.put.ensures.keeps.reads c.in-Ok.ensures.brings.whole
