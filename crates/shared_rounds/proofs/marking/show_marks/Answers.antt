-- What was lent is given back.
use Rattle.std.proofs.Common.{rules, ◌≡◌, ◌++◌, ◌∙◌, ap, subst, sym, drop, length, List, take}
use Rattle.engine_pages.specs.Passes.{view}
use Rattle.worker_logs.specs.Logs.{LogState}
use Rattle.shared_rounds.specs.First.{ShowsMarks}
use Rattle.shared_rounds.proofs.Rounded.{given_back}
use Rattle.shared_rounds.proofs.marking.show_marks.Goals as goal

pub returns-clause-shows : goal.returns-clause-shows
returns-clause-shows g c =
    let shows = c.show_each.ensures.shows in
    let logs : c.as_mut_slice.result.now ≡ c.args.logs.now.items = c.as_mut_slice.ensures.value in
    let banks : c.as_mut_slice-2.result.now ≡ c.args.growing.now.items = c.as_mut_slice-2.ensures.value in
    let logs_len : c.args.logs.now.len ≡ length c.args.logs.now.items = search rules in
    let banks_len : c.args.growing.now.len ≡ length c.args.growing.now.items = search rules in
    let logs_many : length c.show_each.new.logs ≡ length c.args.logs.now.items =
    shows.logs_many ∙ ap (λ (l : List LogState). length l) logs in
    let banks_many : length c.show_each.new.growing ≡ length c.args.growing.now.items =
    ap (λ (l : List g.row.D.Denot). length l) (shows.banks_are ∙ banks) in
    let logs_back : take c.args.logs.now.len (c.show_each.new.logs ++ drop (length c.show_each.new.logs)
    c.args.logs.now.items) ≡ c.show_each.new.logs =
    ap (λ n. take n (c.show_each.new.logs ++ drop (length c.show_each.new.logs) c.args.logs.now.items)) logs_len
    ∙ given_back c.show_each.new.logs c.args.logs.now.items logs_many in
    let banks_back : take c.args.growing.now.len (c.show_each.new.growing ++ drop (length c.show_each.new.growing)
    c.args.growing.now.items) ≡ c.show_each.new.growing =
    ap (λ n. take n (c.show_each.new.growing ++ drop (length c.show_each.new.growing) c.args.growing.now.items))
    banks_len
    ∙ given_back c.show_each.new.growing c.args.growing.now.items banks_many in
    subst (λ l. ShowsMarks g.D.Disk.tells g.D.Disk.clock g.D.Disk.image_at g.D.Disk.faults c.args.counts.now 8
    (view c.args.keeper.now) (view c.show_each.new.keeper)
    c.args.logs.now.items l c.args.growing.now.items (take c.args.growing.now.len (c.show_each.new.growing
    ++ drop (length c.show_each.new.growing) c.args.growing.now.items))) (sym logs_back)
    (subst (λ l. ShowsMarks g.D.Disk.tells g.D.Disk.clock g.D.Disk.image_at g.D.Disk.faults c.args.counts.now 8
    (view c.args.keeper.now) (view c.show_each.new.keeper)
    c.args.logs.now.items c.show_each.new.logs c.args.growing.now.items l) (sym banks_back)
    (subst (λ l. ShowsMarks g.D.Disk.tells g.D.Disk.clock g.D.Disk.image_at g.D.Disk.faults c.args.counts.now 8
    (view c.args.keeper.now) (view c.show_each.new.keeper)
    l c.show_each.new.logs c.args.growing.now.items c.show_each.new.growing) logs
    (subst (λ l. ShowsMarks g.D.Disk.tells g.D.Disk.clock g.D.Disk.image_at g.D.Disk.faults c.args.counts.now 8
    (view c.args.keeper.now) (view c.show_each.new.keeper)
    c.as_mut_slice.result.now c.show_each.new.logs l c.show_each.new.growing) banks shows)))
