use Rattle.std.proofs.Common.{◌≡◌, false, sym, subst, arith, List}
use Rattle.std.proofs.lemmas.Result.{err_from_is_err_and}
use Rattle.engine_pages.specs.Passes.{view}
use Rattle.tx_sets.specs.declared.reads.ReadEntry.{ReadEntry}
use Rattle.tx_sets.specs.Entries.{has_read}
use Rattle.tree_making.specs.declared.making.Made.{Made}
use Rattle.tree_writes.specs.Writing.{HasMadeAt}
use Rattle.tree_writes.proofs.BroughtThen.{brought_for, cause_for, lacking_now, made_record, on_ok, refused_for}
use Rattle.tree_writes.proofs.BroughtThen.{steps_for}
use Rattle.page_commit.proofs.WriteLaws.{absent_same, room_same}
use Rattle.tree_writes.proofs.growing.place_for.Goals as goal

-- ---- the pages weren't brought into memory

pub returns-in_err-made-clause-cause : goal.returns-in_err-made-clause-cause
returns-in_err-made-clause-cause c =
    let p = err_from_is_err_and c.from_residual.result c.from_residual.ensures.1 in
    rw (p.1, p.2) c.in_err-made.ensures.cause

pub returns-in_err-made-clause-refused : goal.returns-in_err-made-clause-refused
returns-in_err-made-clause-refused c =
    let p = err_from_is_err_and c.from_residual.result c.from_residual.ensures.1 in
    rw (p.1, p.2) c.in_err-made.ensures.refused

pub returns-in_err-made-clause-most : goal.returns-in_err-made-clause-most
returns-in_err-made-clause-most c = let one = c.bring.ensures.most in omega (arith, one)

-- ---- the leaf has the record

pub returns-in-Record-clause-brings : goal.returns-in-Record-clause-brings
returns-in-Record-clause-brings c =
    made_record c.args.sets.now c.bring.new.sets (view c.args.pass.now) (view c.bring.new.pass) c.args.key c.in-Record.at
    (subst (λ (m : Made). HasMadeAt c.args.key m c.args.sets.now c.bring.new.sets (view c.args.pass.now)
    (view c.bring.new.pass)) c.in-Record.is c.in_ok-made.ensures.makes)

pub returns-in-Record-clause-most : goal.returns-in-Record-clause-most
returns-in-Record-clause-most c = let one = c.bring.ensures.most in omega (arith, one)

-- ---- it gets it

pub grow-requires-clause-live : goal.grow-requires-clause-live
grow-requires-clause-live c = c.in_ok-made.ensures.makes.makes.live

pub grow-requires-clause-unwritten : goal.grow-requires-clause-unwritten
grow-requires-clause-unwritten c = absent_same c.args.key c.in_ok-made.ensures.makes.makes.writes c.requires.unwritten

pub grow-requires-clause-unread : goal.grow-requires-clause-unread
grow-requires-clause-unread c =
    subst (λ (l : List ReadEntry). has_read c.args.key l ≡ false) (sym c.in_ok-made.ensures.makes.makes.reads) c.requires.unread

pub grow-requires-clause-room : goal.grow-requires-clause-room
grow-requires-clause-room c = room_same c.in_ok-made.ensures.makes.makes.writes c.in_ok-made.ensures.room

pub grow-requires-clause-lacking : goal.grow-requires-clause-lacking
grow-requires-clause-lacking c =
    lacking_now c.args.sets.now c.bring.new.sets (view c.args.pass.now) (view c.bring.new.pass) c.args.key c.in-Lacking.leaf
    (subst (λ (m : Made). HasMadeAt c.args.key m c.args.sets.now c.bring.new.sets (view c.args.pass.now)
    (view c.bring.new.pass)) c.in-Lacking.is c.in_ok-made.ensures.makes)

pub returns-in-Lacking-clause-brings : goal.returns-in-Lacking-clause-brings
returns-in-Lacking-clause-brings c =
    brought_for c.grow.result c.args.sets.now c.bring.new.sets c.grow.new.sets c.args.key (view c.args.pass.now)
    (view c.bring.new.pass) (view c.grow.new.pass) c.in_ok-made.ensures.makes.makes c.grow.ensures.grows

pub returns-in-Lacking-clause-cause : goal.returns-in-Lacking-clause-cause
returns-in-Lacking-clause-cause c =
    cause_for c.grow.result c.args.sets.now c.bring.new.sets c.grow.new.sets c.args.key (view c.args.pass.now)
    (view c.bring.new.pass) (view c.grow.new.pass) c.in_ok-made.ensures.makes.makes c.grow.ensures.grows

pub returns-in-Lacking-clause-refused : goal.returns-in-Lacking-clause-refused
returns-in-Lacking-clause-refused c =
    refused_for c.grow.result c.args.sets.now c.bring.new.sets c.grow.new.sets c.args.key (view c.args.pass.now)
    (view c.bring.new.pass) (view c.grow.new.pass) c.in_ok-made.ensures.makes.makes c.grow.ensures.grows

pub returns-in-Lacking-clause-room : goal.returns-in-Lacking-clause-room
returns-in-Lacking-clause-room c =
    on_ok c.grow.result c.in_ok-made.ensures.room

pub returns-in-Lacking-clause-most : goal.returns-in-Lacking-clause-most
returns-in-Lacking-clause-most c =
    steps_for c.grow.result c.args.sets.now c.bring.new.sets c.grow.new.sets c.args.key (view c.args.pass.now)
    (view c.bring.new.pass) (view c.grow.new.pass) c.in_ok-made.ensures.makes.makes c.in_ok-made.ensures.worked
    c.grow.ensures.grows
