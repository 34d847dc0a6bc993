use Rattle.std.proofs.Common.{ℕ, List, length, refl, sym, ap, ◌∙◌, arith}
use Rattle.engine_pages.specs.Passes.{view}
use Rattle.page_commit.specs.Places.{ground}
use Rattle.page_commit.proofs.TurnLaws.{brought_apart, value_brought, value_rewritten}
use Rattle.page_commit.proofs.WriteLaws.{absent_same, rewritten_all, rewritten_writes, room_same}
use Rattle.page_commit.proofs.writing.write_value.Goals as goal

pub returns-then-contains-clause-done : goal.returns-then-contains-clause-done
returns-then-contains-clause-done c =
    value_rewritten c.args.sets.now _ (view c.args.pass.now) c.args.key c.args.value c.requires.live refl refl refl refl
    (rewritten_writes c.args.key c.args.value c.args.sets.now.writes _ c.set.ensures)
    (rewritten_all (ground (view c.args.pass.now)) c.args.key c.args.value c.args.sets.now.writes _ c.set.ensures
    c.requires.live.writes)

pub bring_up-requires-clause-unwritten : goal.bring_up-requires-clause-unwritten
bring_up-requires-clause-unwritten c = sym c.contains.ensures ∙ c.if-contains.false

pub put_in-requires-clause-room : goal.put_in-requires-clause-room
put_in-requires-clause-room c = room_same c.in-Ok.ensures.brings.writes c.in-Ok.ensures.room

pub put_in-requires-clause-absent : goal.put_in-requires-clause-absent
put_in-requires-clause-absent c =
    absent_same c.args.key c.in-Ok.ensures.brings.writes (sym c.contains.ensures ∙ c.if-contains.false)

pub put_in-requires-clause-apart : goal.put_in-requires-clause-apart
put_in-requires-clause-apart c =
    brought_apart c.args.sets.now c.bring_up.new.sets (view c.args.pass.now) (view c.bring_up.new.pass) c.args.key
    c.in-Ok.at (sym c.contains.ensures ∙ c.if-contains.false) c.in-Ok.ensures.brings

pub returns-in-Ok-clause-done : goal.returns-in-Ok-clause-done
returns-in-Ok-clause-done c =
    value_brought c.args.sets.now c.bring_up.new.sets c.put_in.new.sets (view c.args.pass.now) (view c.bring_up.new.pass)
    c.args.key c.args.value c.in-Ok.at (sym c.contains.ensures ∙ c.if-contains.false) c.in-Ok.ensures.brings
    c.put_in.ensures.keeps c.put_in.ensures.writes

pub returns-in-Ok-clause-grows : goal.returns-in-Ok-clause-grows
returns-in-Ok-clause-grows c =
    let one = c.bring_up.ensures.grows in
    let same = ap (λ (l : List ℕ). length l) c.put_in.ensures.keeps.holds in omega (arith, one, same)
