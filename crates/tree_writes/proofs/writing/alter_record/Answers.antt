use Rattle.std.proofs.Common.{inl, inr, sym, ap, ◌∙◌, arith, Some}
use Rattle.std.proofs.lemmas.Result.{err_from_is_err_and}
use Rattle.engine_pages.specs.Passes.{view}
use Rattle.page_commit.specs.Altering.{altered, op_of}
use Rattle.page_commit.specs.Places.{ground}
use Rattle.page_commit.proofs.RefuseLaws.{refused_since}
use Rattle.page_commit.proofs.TurnLaws.{may_read}
use Rattle.page_commit.proofs.WriteLaws.{absent_same, room_same, word_apart}
use Rattle.tree_writes.proofs.AlterCauses.{behind_two, place_cause, read_cause, steps_behind, tree_stays}
use Rattle.tree_writes.proofs.NamedLaws.{unnamed_behind, unnamed_read, whole_behind}
use Rattle.tree_writes.proofs.ReadFirst.{brought_behind, made_read}
use Rattle.tree_writes.proofs.ValueWrites.{inserted_put, inserted_tree}
use Rattle.tree_writes.proofs.WholePlaces.{whole_none, whole_put}
use Rattle.tree_writes.proofs.WriteTurns.{altered_ends, altered_put, may_write_own, meets_own}
use Rattle.tree_writes.proofs.writing.alter_record.Goals as goal

-- ---- the pages could not be brought into memory

pub returns-in_err-bring-clause-cause : goal.returns-in_err-bring-clause-cause
returns-in_err-bring-clause-cause c =
    let p = err_from_is_err_and c.from_residual.result c.from_residual.ensures.1 in
    rw (p.1, p.2) (inl c.in_err-bring.ensures.cause)

pub returns-in_err-bring-clause-refused : goal.returns-in_err-bring-clause-refused
returns-in_err-bring-clause-refused c =
    let p = err_from_is_err_and c.from_residual.result c.from_residual.ensures.1 in
    rw (p.1, p.2) c.in_err-bring.ensures.refused

-- ---- the key is read

pub read_value-requires-clause-live : goal.read_value-requires-clause-live
read_value-requires-clause-live c = c.in_ok-bring.ensures.makes.makes.live

pub read_value-requires-clause-tree : goal.read_value-requires-clause-tree
read_value-requires-clause-tree c =
    tree_stays (view c.args.pass.now) (view c.bring.new.pass) c.args.key c.in_ok-bring.ensures.makes.makes.only
    c.requires.tree

pub read_value-requires-clause-unwritten : goal.read_value-requires-clause-unwritten
read_value-requires-clause-unwritten c = absent_same c.args.key c.in_ok-bring.ensures.makes.makes.writes c.requires.unwritten

pub returns-in_err-before-clause-cause : goal.returns-in_err-before-clause-cause
returns-in_err-before-clause-cause c =
    let p = err_from_is_err_and c.from_residual-in_err-before.result c.from_residual-in_err-before.ensures.1 in
    rw (p.1, p.2) (read_cause c.in_err-before.field-0.0 c.args.sets.now c.bring.new.sets c.read_value.new.sets c.args.key
    (view c.args.pass.now) (view c.bring.new.pass) (view c.read_value.new.pass) c.in_ok-bring.ensures.makes.makes
    c.in_ok-bring.ensures.room c.in_err-before.ensures.cause)

pub returns-in_err-before-clause-refused : goal.returns-in_err-before-clause-refused
returns-in_err-before-clause-refused c =
    let p = err_from_is_err_and c.from_residual-in_err-before.result c.from_residual-in_err-before.ensures.1 in
    rw (p.1, p.2) (refused_since c.in_err-before.field-0.0 (view c.args.pass.now) (view c.bring.new.pass)
    (view c.read_value.new.pass) c.in_ok-bring.ensures.makes.makes.only c.in_err-before.ensures.refused)

-- ---- it has no value

pub returns-in_default-clause-turns : goal.returns-in_default-clause-turns
returns-in_default-clause-turns c =
    rw c.ending.ensures (altered_ends c.args.by c.args.sets.now c.read_value.new.sets (view c.args.pass.now)
    (view c.read_value.new.pass) c.args.key c.in_ok-before.before c.requires.unwritten
    (made_read (op_of c.args.key c.args.by) c.args.key (may_read c.args.by c.args.key) (may_write_own c.args.by c.args.key)
    (meets_own c.args.by c.args.key) c.in_ok-before.before c.args.sets.now c.bring.new.sets c.read_value.new.sets
    (view c.args.pass.now) (view c.bring.new.pass) (view c.read_value.new.pass) c.in_ok-bring.ensures.makes.makes
    c.in_ok-before.ensures.value)
    (ap (altered c.args.by) (sym c.unwrap_or.ensures) ∙ (sym c.after.ensures ∙ c.in_default.is)))

-- ---- the place of its record

pub place_seen-requires-clause-live : goal.place_seen-requires-clause-live
place_seen-requires-clause-live c = c.in_ok-before.ensures.value.live

pub place_seen-requires-clause-tree : goal.place_seen-requires-clause-tree
place_seen-requires-clause-tree c =
    tree_stays (view c.bring.new.pass) (view c.read_value.new.pass) c.args.key c.in_ok-before.ensures.value.only
    (tree_stays (view c.args.pass.now) (view c.bring.new.pass) c.args.key c.in_ok-bring.ensures.makes.makes.only
    c.requires.tree)

pub place_seen-requires-clause-unwritten : goal.place_seen-requires-clause-unwritten
place_seen-requires-clause-unwritten c =
    absent_same c.args.key (c.in_ok-before.ensures.value.writes ∙ c.in_ok-bring.ensures.makes.makes.writes)
    c.requires.unwritten

pub returns-in_err-at-clause-cause : goal.returns-in_err-at-clause-cause
returns-in_err-at-clause-cause c =
    let p = err_from_is_err_and c.from_residual-in_err-at.result c.from_residual-in_err-at.ensures.1 in
    rw (p.1, p.2) (place_cause c.in_err-at.field-0.0 c.args.sets.now c.bring.new.sets c.read_value.new.sets
    c.place_seen.new.sets c.args.key (view c.args.pass.now) (view c.bring.new.pass) (view c.read_value.new.pass)
    (view c.place_seen.new.pass) c.in_ok-bring.ensures.makes.makes c.in_ok-before.ensures.value
    c.requires.unwritten c.in_err-at.ensures.cause)

pub returns-in_err-at-clause-refused : goal.returns-in_err-at-clause-refused
returns-in_err-at-clause-refused c =
    let p = err_from_is_err_and c.from_residual-in_err-at.result c.from_residual-in_err-at.ensures.1 in
    rw (p.1, p.2) (behind_two c.in_err-at.field-0.0 (view c.args.pass.now) (view c.bring.new.pass)
    (view c.read_value.new.pass) (view c.place_seen.new.pass) c.in_ok-bring.ensures.makes.makes.only
    c.in_ok-before.ensures.value.only c.in_err-at.ensures.refused)

-- ---- it is written

pub put-requires-clause-room : goal.put-requires-clause-room
put-requires-clause-room c =
    room_same (c.in_ok-at.ensures.brings.writes
    ∙ (c.in_ok-before.ensures.value.writes ∙ c.in_ok-bring.ensures.makes.makes.writes)) c.in_ok-bring.ensures.room

pub put-requires-clause-absent : goal.put-requires-clause-absent
put-requires-clause-absent c =
    absent_same c.args.key (c.in_ok-at.ensures.brings.writes
    ∙ (c.in_ok-before.ensures.value.writes ∙ c.in_ok-bring.ensures.makes.makes.writes)) c.requires.unwritten

pub put-requires-clause-apart : goal.put-requires-clause-apart
put-requires-clause-apart c =
    word_apart (ground (view c.place_seen.new.pass)) c.args.key c.in_ok-at.at c.place_seen.new.sets.writes
    c.in_ok-at.ensures.brings.live.agree c.in_ok-at.ensures.brings.live.trees.known (inr c.in_ok-at.ensures.brings.place)
    c.in_ok-at.ensures.brings.live.writes
    (absent_same c.args.key (c.in_ok-at.ensures.brings.writes
    ∙ (c.in_ok-before.ensures.value.writes ∙ c.in_ok-bring.ensures.makes.makes.writes)) c.requires.unwritten)

pub returns-clause-turns : goal.returns-clause-turns
returns-clause-turns c =
    altered_put c.args.by c.args.sets.now c.place_seen.new.sets c.put.new.sets (view c.args.pass.now)
    (view c.place_seen.new.pass) c.args.key c.in_ok-before.before c.in-Some.value c.requires.unwritten
    (brought_behind (op_of c.args.key c.args.by) c.args.key (may_read c.args.by c.args.key)
    (may_write_own c.args.by c.args.key) (meets_own c.args.by c.args.key) c.in_ok-before.before c.args.sets.now
    c.bring.new.sets c.read_value.new.sets (view c.args.pass.now) (view c.bring.new.pass) (view c.read_value.new.pass)
    c.in_ok-bring.ensures.makes.makes c.in_ok-before.ensures.value c.place_seen.new.sets (view c.place_seen.new.pass)
    c.in_ok-at.at c.requires.tree c.in_ok-at.ensures.brings c.in_ok-at.ensures.again)
    (ap (altered c.args.by) (sym c.unwrap_or.ensures) ∙ (sym c.after.ensures ∙ c.in-Some.is)) c.put.ensures.keeps
    (inserted_tree (ground (view c.place_seen.new.pass)) c.args.key (Some c.in-Some.value) c.in_ok-at.at
    c.place_seen.new.sets.writes c.put.new.sets.writes c.put.ensures.writes c.in_ok-at.ensures.brings.place
    c.in_ok-at.ensures.brings.live.writes)
    (inserted_put c.args.key (Some c.in-Some.value) c.in_ok-at.at c.place_seen.new.sets.writes c.put.new.sets.writes
    c.put.ensures.writes
    (absent_same c.args.key (c.in_ok-at.ensures.brings.writes
    ∙ (c.in_ok-before.ensures.value.writes ∙ c.in_ok-bring.ensures.makes.makes.writes)) c.requires.unwritten))

-- ---- locks

pub returns-in_default-clause-locks : goal.returns-in_default-clause-locks
returns-in_default-clause-locks c =
    unnamed_read c.args.sets.now c.bring.new.sets c.read_value.new.sets c.args.key (view c.args.pass.now)
    (view c.bring.new.pass) (view c.read_value.new.pass) c.in_ok-bring.ensures.makes.makes c.in_ok-before.ensures.value

pub returns-clause-locks : goal.returns-clause-locks
returns-clause-locks c =
    unnamed_behind c.args.sets.now c.bring.new.sets c.read_value.new.sets c.place_seen.new.sets c.args.key c.in_ok-at.at
    (view c.args.pass.now) (view c.bring.new.pass) (view c.read_value.new.pass) (view c.place_seen.new.pass)
    c.in_ok-bring.ensures.makes.makes c.in_ok-before.ensures.value c.in_ok-at.ensures.brings

-- ---- where it stands

pub returns-in_default-clause-whole : goal.returns-in_default-clause-whole
returns-in_default-clause-whole c =
    whole_none c.args.key c.args.sets.now c.read_value.new.sets (view c.args.pass.now) (view c.read_value.new.pass)
    (c.in_ok-before.ensures.value.writes ∙ c.in_ok-bring.ensures.makes.makes.writes)

pub returns-clause-whole : goal.returns-clause-whole
returns-clause-whole c =
    whole_put c.args.key (Some c.in-Some.value) c.in_ok-at.at c.args.sets.now c.place_seen.new.sets c.put.new.sets
    (view c.args.pass.now) (view c.place_seen.new.pass) c.put.ensures.writes
    (c.in_ok-at.ensures.brings.writes
    ∙ (c.in_ok-before.ensures.value.writes ∙ c.in_ok-bring.ensures.makes.makes.writes)) c.put.ensures.keeps.reads
    (whole_behind c.args.sets.now c.bring.new.sets c.read_value.new.sets c.place_seen.new.sets c.args.key c.in_ok-at.at
    (view c.args.pass.now) (view c.bring.new.pass) (view c.read_value.new.pass) (view c.place_seen.new.pass)
    c.in_ok-bring.ensures.makes.makes c.in_ok-before.ensures.value c.in_ok-at.ensures.brings)

-- ---- steps

pub returns-in_err-bring-clause-most : goal.returns-in_err-bring-clause-most
returns-in_err-bring-clause-most c = let one = c.bring.ensures.most in omega (arith, one)

pub returns-in_err-before-clause-most : goal.returns-in_err-before-clause-most
returns-in_err-before-clause-most c =
    let one = c.bring.ensures.most in let two = c.read_value.ensures.most in omega (arith, one, two)

pub returns-in_default-clause-most : goal.returns-in_default-clause-most
returns-in_default-clause-most c =
    let one = c.bring.ensures.most in let two = c.read_value.ensures.most in omega (arith, one, two)

pub returns-in_err-at-clause-most : goal.returns-in_err-at-clause-most
returns-in_err-at-clause-most c =
    steps_behind (view c.args.pass.now) (view c.bring.new.pass) (view c.read_value.new.pass) (view c.place_seen.new.pass)
    c.in_ok-bring.ensures.makes.makes.only c.in_ok-before.ensures.value.only c.bring.ensures.most c.read_value.ensures.most
    c.place_seen.ensures.most

pub returns-clause-most : goal.returns-clause-most
returns-clause-most c =
    steps_behind (view c.args.pass.now) (view c.bring.new.pass) (view c.read_value.new.pass) (view c.place_seen.new.pass)
    c.in_ok-bring.ensures.makes.makes.only c.in_ok-before.ensures.value.only c.bring.ensures.most c.read_value.ensures.most
    c.place_seen.ensures.most
