use Rattle.std.proofs.Common.{sym, ◌∙◌}
use Rattle.engine_pages.specs.Passes.{view}
use Rattle.page_commit.proofs.WalkedLaws.{can_walk}
use Rattle.tree_calls.proofs.CauseLaws.{find_told}
use Rattle.tree_calls.proofs.DueLaws.{find_due}
use Rattle.tree_calls.proofs.OnLaws.{entry_on, find_on}
use Rattle.tree_calls.proofs.SetLaws.{room_found}
use Rattle.tree_ranges.proofs.ReadInLaws.{read_done, read_full, read_refused, read_walked, refused_walked}
use Rattle.tree_ranges.proofs.StopLaws.{stop_can}
use Rattle.tree_ranges.proofs.records.read_in.Goals as goal

pub read_record-requires-clause-can : goal.read_record-requires-clause-can
read_record-requires-clause-can c = can_walk c.args.sets.now (view c.args.pass.now) c.requires.live

pub read_record-requires-clause-met : goal.read_record-requires-clause-met
read_record-requires-clause-met c = c.requires.met

-- ---- it was read

pub keep-requires-clause-room : goal.keep-requires-clause-room
keep-requires-clause-room c =
    room_found c.in-Ok.found c.args.sets.now c.args.key (view c.args.pass.now) (view c.read_record.new.pass)
    c.in-Ok.ensures.keeps.found (sym c.lacks_room.ensures ∙ c.if-lacks_room.false)

pub returns-else-lacks_room-clause-reads : goal.returns-else-lacks_room-clause-reads
returns-else-lacks_room-clause-reads c =
    read_done c.in-Ok.found c.keep.result c.args.sets.now c.keep.new.sets c.args.key (view c.args.pass.now)
    (view c.read_record.new.pass) c.requires.live c.in-Ok.ensures.keeps c.requires.unread
    (sym c.lacks_room.ensures ∙ c.if-lacks_room.false) c.keep.ensures.keeps c.keep.ensures.value

-- ---- there was no room for it

pub refuse_on-requires-clause-can : goal.refuse_on-requires-clause-can
refuse_on-requires-clause-can c =
    let v = view c.args.pass.now in
    let w = view c.read_record.new.pass in
    stop_can c.args.sets.now c.args.sets.now.holds c.args.key v w w
    (read_walked c.args.sets.now c.args.key c.in-Ok.found v w c.requires.live c.in-Ok.ensures.keeps)

pub refuse_on-requires-clause-on : goal.refuse_on-requires-clause-on
refuse_on-requires-clause-on c =
    let v = view c.args.pass.now in
    let w = view c.read_record.new.pass in
    entry_on c.in-Ok.found c.args.sets.now c.args.sets.now.holds c.args.key v w
    (read_walked c.args.sets.now c.args.key c.in-Ok.found v w c.requires.live c.in-Ok.ensures.keeps) c.requires.unread
    c.in-Ok.ensures.keeps.found (sym c.lacks_room.ensures ∙ c.if-lacks_room.true)

pub returns-then-lacks_room-clause-reads : goal.returns-then-lacks_room-clause-reads
returns-then-lacks_room-clause-reads c =
    read_full c.in-Ok.found c.refuse_on.result c.args.sets.now c.args.key (view c.args.pass.now)
    (view c.read_record.new.pass)
    (view c.refuse_on.new.pass) c.requires.live c.in-Ok.ensures.keeps c.requires.unread
    (sym c.lacks_room.ensures ∙ c.if-lacks_room.true) c.refuse_on.ensures.gives_up c.refuse_on.ensures.most
    c.refuse_on.ensures.why

-- ---- it was in conflict

pub refuse_on-requires-in-Err-clause-can : goal.refuse_on-requires-in-Err-clause-can
refuse_on-requires-in-Err-clause-can c =
    let v = view c.args.pass.now in
    let w = view c.read_record.new.pass in
    stop_can c.args.sets.now c.args.sets.now.holds c.args.key v w w
    (refused_walked c.args.sets.now c.args.key c.in-Err.why v w c.requires.live c.in-Err.ensures.keeps)

pub refuse_on-requires-in-Err-clause-due : goal.refuse_on-requires-in-Err-clause-due
refuse_on-requires-in-Err-clause-due c =
    let v = view c.args.pass.now in
    let w = view c.read_record.new.pass in
    find_due c.in-Err.why c.args.sets.now c.args.sets.now.holds c.args.sets.now.holds c.args.key v w
    (refused_walked c.args.sets.now c.args.key c.in-Err.why v w c.requires.live c.in-Err.ensures.keeps)
    c.in-Err.ensures.keeps.cause

pub refuse_on-requires-in-Err-clause-on : goal.refuse_on-requires-in-Err-clause-on
refuse_on-requires-in-Err-clause-on c =
    let v = view c.args.pass.now in
    let w = view c.read_record.new.pass in
    find_on c.in-Err.why c.args.sets.now c.args.sets.now.holds c.args.key v w
    (refused_walked c.args.sets.now c.args.key c.in-Err.why v w c.requires.live c.in-Err.ensures.keeps)
    c.in-Err.ensures.keeps.cause

pub returns-in-Err-clause-reads : goal.returns-in-Err-clause-reads
returns-in-Err-clause-reads c =
    read_refused c.in-Err.why c.refuse_on-in-Err.result c.args.sets.now c.args.key (view c.args.pass.now)
    (view c.read_record.new.pass) (view c.refuse_on-in-Err.new.pass) c.requires.live c.in-Err.ensures.keeps
    c.requires.unread
    c.refuse_on-in-Err.ensures.gives_up c.refuse_on-in-Err.ensures.most c.refuse_on-in-Err.ensures.why
