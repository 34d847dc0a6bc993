-- The workers' marks are set, they are seated, run and taken in again.
use Rattle.std.proofs.Common.{rules, ◌≡◌, ◌++◌, ◌∙◌, drop, length, subst, sym, ap, take, arith, List}
use Rattle.std.specs.List.{AllByRecursion}
use Rattle.engine_pages.specs.Passes.{view}
use Rattle.engine_pages.specs.declared.layout.Layout.{Layout}
use Rattle.engine_pages.specs.declared.view.View.{View}
use Rattle.tx_script.specs.Run.{CanRun}
use Rattle.shared_rounds.specs.Seated.{IsReady}
use Rattle.shared_rounds.proofs.Backward.{cells_end, cells_ready}
use Rattle.shared_rounds.proofs.Besides.{begins_on, known_marks}
use Rattle.shared_rounds.specs.FirstLaws.{idle_first}
use Rattle.shared_rounds.proofs.FirstMarks.{begun_all, ended_first, flushed_first, sets_can, up_first}
use Rattle.shared_rounds.proofs.Rounded.{lent_ran, may_seat, stand_for}
use Rattle.shared_rounds.proofs.workers.run_seated.Goals as goal

pub show_marks-requires-clause-keeper : goal.show_marks-requires-clause-keeper
show_marks-requires-clause-keeper g c = may_seat (view c.args.keeper.now) c.requires.kept

pub show_marks-requires-clause-idle : goal.show_marks-requires-clause-idle
show_marks-requires-clause-idle g c worker log there none =
    idle_first c.args.round.now c.args.rooms.counts c.args.logs.now.items worker log c.requires.rooms.counts
    c.requires.logs.0 c.requires.idle there none

pub seat_all-requires-clause-keeper : goal.seat_all-requires-clause-keeper
seat_all-requires-clause-keeper g c =
    sets_can (view c.args.keeper.now) (view c.show_marks.new.keeper) c.show_marks.ensures.shows.sets
    (may_seat (view c.args.keeper.now) c.requires.kept)

pub seat_all-requires-clause-up : goal.seat_all-requires-clause-up
seat_all-requires-clause-up g c =
    up_first c.args.rooms.counts (view c.args.keeper.now) (view c.show_marks.new.keeper) c.args.logs.now.items
    c.show_marks.new.logs.items c.args.growing.now.items c.show_marks.new.growing.items c.show_marks.ensures.shows
    c.requires.logs.0 c.requires.logs.1 c.requires.up

pub seat_all-requires-clause-flushed : goal.seat_all-requires-clause-flushed
seat_all-requires-clause-flushed g c =
    flushed_first c.args.rooms.counts (view c.args.keeper.now) (view c.show_marks.new.keeper) c.args.logs.now.items
    c.show_marks.new.logs.items c.args.growing.now.items c.show_marks.new.growing.items c.show_marks.ensures.shows
    c.requires.logs.0 c.requires.logs.1 c.requires.flushed

pub seat_all-requires-clause-logs : goal.seat_all-requires-clause-logs
seat_all-requires-clause-logs g c =
    let shows = c.show_marks.ensures.shows in
    let many : length c.show_marks.new.logs.items ≡ 8 = shows.logs_many ∙ c.requires.logs.0 in
    let banks : length c.show_marks.new.growing.items ≡ 8 =
    ap (λ (l : List g.row.D.Denot). length l) shows.banks_are ∙ c.requires.logs.1 in
    search (rules, many, banks)

pub run_beside-requires-clause-keeper : goal.run_beside-requires-clause-keeper
run_beside-requires-clause-keeper g c κs within =
    ap (λ (v : View). v.role) c.seat_all.ensures.keeper ∙ c.show_marks.ensures.shows.sets.role

pub run_beside-requires-clause-decls : goal.run_beside-requires-clause-decls
run_beside-requires-clause-decls g c κs within =
    c.requires.decls ∙ sym (ap (λ (v : View). v.layout.decls) c.seat_all.ensures.keeper
    ∙ ap (λ (l : Layout). l.decls) c.show_marks.ensures.shows.sets.layout)

pub run_beside-requires-clause-can : goal.run_beside-requires-clause-can
run_beside-requires-clause-can g c κs within =
    let shows = c.show_marks.ensures.shows in
    c.requires.beside (view c.seat_all.new.keeper)
    (begins_on (view c.args.keeper.now) (view c.show_marks.new.keeper) (view c.seat_all.new.keeper) c.requires.kept
    c.requires.epoch shows.sets (shows.past (λ no. omega (arith, no))) c.show_marks.ensures.behind
    c.seat_all.ensures.keeper)

pub run_beside-requires-clause-ready : goal.run_beside-requires-clause-ready
run_beside-requires-clause-ready g c κs within =
    let shows = c.show_marks.ensures.shows in
    let layout = shows.sets.layout in
    subst (AllByRecursion (IsReady g.D.Disk.tells c.args.words.now c.args.round.now))
    (sym c.as_mut_slice.ensures.value)
    (cells_ready g.D.Disk.tells g.D.Disk.clock g.D.Disk.image_at g.D.Disk.faults c.args.words.now
    (view c.args.keeper.now) (view c.show_marks.new.keeper) c.args.rooms.counts c.args.rooms.spaces c.args.round.now
    c.seat_all.new.cells.items c.show_marks.new.logs.items c.show_marks.new.growing.items
    (subst (λ (l : Layout). CanRun l.decls c.args.round.now) (sym layout) c.requires.lines)
    c.requires.rooms.counts c.requires.rooms.spaces
    (begun_all c.args.round.now c.args.rooms.counts (view c.args.keeper.now) (view c.show_marks.new.keeper)
    c.args.logs.now.items c.show_marks.new.logs.items c.args.growing.now.items c.show_marks.new.growing.items
    c.requires.rooms.counts c.requires.logs.0 c.requires.logs.1 shows) c.seat_all.ensures.seated)

pub end_all-requires-clause-keeper : goal.end_all-requires-clause-keeper
end_all-requires-clause-keeper g c =
    c.run_beside.ensures.went.role ∙ ap (λ (v : View). v.role) c.seat_all.ensures.keeper
    ∙ c.show_marks.ensures.shows.sets.role

pub end_all-requires-clause-cells : goal.end_all-requires-clause-cells
end_all-requires-clause-cells g c =
    let shows = c.show_marks.ensures.shows in
    let same : length c.run_beside.new.cells ≡ length c.seat_all.new.cells.items = search rules in
    let len : c.seat_all.new.cells.len ≡ length c.seat_all.new.cells.items = search rules in
    let begun = begun_all c.args.round.now c.args.rooms.counts (view c.args.keeper.now) (view c.show_marks.new.keeper)
    c.args.logs.now.items c.show_marks.new.logs.items c.args.growing.now.items c.show_marks.new.growing.items
    c.requires.rooms.counts c.requires.logs.0 c.requires.logs.1 shows in
    let ran = lent_ran g.D.Disk.tells g.D.Disk.clock g.D.Disk.image_at g.D.Disk.faults c.args.tries
    c.args.round.now c.args.words.now (view c.args.keeper.now) (view c.show_marks.new.keeper) c.args.rooms.counts
    c.args.rooms.spaces c.seat_all.new.cells.items c.run_beside.new.cells c.as_mut_slice.result.now c.seat_all.new.cells.len
    c.show_marks.new.logs.items c.show_marks.new.growing.items begun same len c.as_mut_slice.ensures.value
    c.seat_all.ensures.seated c.run_beside.ensures.ran in (
      c.seat_all.ensures.len,
      cells_end g.D.Disk.tells g.D.Disk.clock g.D.Disk.image_at g.D.Disk.faults c.args.tries c.args.round.now
          c.args.words.now (view c.args.keeper.now)
          (take c.seat_all.new.cells.len (c.run_beside.new.cells ++ drop (length c.run_beside.new.cells)
          c.seat_all.new.cells.items)) c.show_marks.new.logs.items c.show_marks.new.growing.items ran,
    )

pub returns-clause-ran : goal.returns-clause-ran
returns-clause-ran g c =
    let shows = c.show_marks.ensures.shows in
    let same : length c.run_beside.new.cells ≡ length c.seat_all.new.cells.items = search rules in
    let len : c.seat_all.new.cells.len ≡ length c.seat_all.new.cells.items = search rules in
    let begun = begun_all c.args.round.now c.args.rooms.counts (view c.args.keeper.now) (view c.show_marks.new.keeper)
    c.args.logs.now.items c.show_marks.new.logs.items c.args.growing.now.items c.show_marks.new.growing.items
    c.requires.rooms.counts c.requires.logs.0 c.requires.logs.1 shows in
    let ran = lent_ran g.D.Disk.tells g.D.Disk.clock g.D.Disk.image_at g.D.Disk.faults c.args.tries
    c.args.round.now c.args.words.now (view c.args.keeper.now) (view c.show_marks.new.keeper) c.args.rooms.counts
    c.args.rooms.spaces c.seat_all.new.cells.items c.run_beside.new.cells c.as_mut_slice.result.now c.seat_all.new.cells.len
    c.show_marks.new.logs.items c.show_marks.new.growing.items begun same len c.as_mut_slice.ensures.value
    c.seat_all.ensures.seated c.run_beside.ensures.ran in
    let stands = stand_for (view c.args.keeper.now) (view c.show_marks.new.keeper) (view c.seat_all.new.keeper)
    (view c.run_beside.new.keeper) shows.sets c.seat_all.ensures.keeper c.run_beside.ensures.went in
    record {
      seated = view c.seat_all.new.keeper;
      behind = view c.run_beside.new.keeper;
      begins = begins_on (view c.args.keeper.now) (view c.show_marks.new.keeper) (view c.seat_all.new.keeper)
          c.requires.kept c.requires.epoch shows.sets (shows.past (λ no. omega (arith, no)))
          c.show_marks.ensures.behind c.seat_all.ensures.keeper;
      known = known_marks g.D.Disk.tells g.D.Disk.clock g.D.Disk.image_at g.D.Disk.faults c.args.rooms.counts
          (view c.args.keeper.now) (view c.show_marks.new.keeper) (view c.seat_all.new.keeper) c.args.logs.now.items
          c.show_marks.new.logs.items c.args.growing.now.items c.show_marks.new.growing.items shows
          c.seat_all.ensures.keeper c.requires.logs.0 c.requires.logs.1;
      went = c.run_beside.ensures.went;
      did_so = c.run_beside.ensures.did;
      ended = ended_first c.args.tries c.args.round.now c.args.rooms.counts (view c.args.keeper.now)
          (view c.show_marks.new.keeper) (view c.run_beside.new.keeper) (view c.end_all.new.keeper)
          c.args.logs.now.items c.show_marks.new.logs.items c.end_all.new.logs.items c.args.growing.now.items
          c.show_marks.new.growing.items c.end_all.new.growing.items c.end_all.result.outcomes
          c.end_all.result.ends.items c.requires.rooms.counts c.requires.epoch c.requires.logs.0 c.requires.logs.1 shows
          (c.end_all.ensures.ended c.args.tries c.args.round.now (view c.args.keeper.now) c.show_marks.new.logs.items
          c.show_marks.new.growing.items stands ran);
    }
