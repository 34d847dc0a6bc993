use Rattle.std.specs.Prelude.{Err}
use Rattle.std.proofs.Common.{◌≡◌, arith}
use Rattle.std.proofs.lemmas.Result.{err_from_is_err_and}
use Rattle.engine_pages.specs.Passes.{view}
use Rattle.tree_drops.proofs.TakenFrom.{all_done, err_taken, kept_now, next_here, ok_taken, taken_here, undo_here, undo_role, undo_slot}
use Rattle.tree_drops.proofs.TakenFrom.{undone_here, work_here}
use Rattle.tree_drops.proofs.taking.+take_from.Goals as goal

pub swing_away-requires-clause-take : goal.swing_away-requires-clause-take
swing_away-requires-clause-take t c =
    let past = c.if-index-halves.true in
    all_done c.args.root c.args.halves.now c.args.headers.now c.args.unit (view c.args.pass.now) c.requires.take (omega (arith, past))

pub page_of-page-requires-clause-same : goal.page_of-page-requires-clause-same
page_of-page-requires-clause-same t c =
    c.requires.take.chain.same

pub page_of-page-requires-clause-within : goal.page_of-page-requires-clause-within
page_of-page-requires-clause-within t c =
    let less = c.if-index-halves.false in omega (arith, less)

pub work_on-requires-clause-work : goal.work_on-requires-clause-work
work_on-requires-clause-work t c =
    work_here c.args.root c.args.halves.now c.args.headers.now c.args.unit (view c.args.pass.now) c.requires.take c.page_of-page.result
    c.page_of-page.ensures.page

pub returns-in_err-done-clause-takes : goal.returns-in_err-done-clause-takes
returns-in_err-done-clause-takes t c =
    let p = err_from_is_err_and c.from_residual.result c.from_residual.ensures.1 in
    let told : c.from_residual.result ≡ Err c.in_err-done.field-0.0 = let a = p.1 in let b = p.2 in cc in
    rw told
    (kept_now c.args.root c.args.halves.now c.args.headers.now c.args.unit (view c.args.pass.now) c.requires.take c.page_of-page.result
    c.page_of-page.ensures.page c.in_err-done.field-0.0 (view c.work_on.new.pass) c.in_err-done.ensures.works)

pub take_from-requires : goal.take_from-requires
take_from-requires t c =
    let less = c.if-index-halves.false in (
      omega (arith, less),
      (
        c.work_on.ensures.of,
        next_here c.args.root c.args.halves.now c.args.headers.now c.args.unit (view c.args.pass.now) c.requires.take c.page_of-page.result
            c.page_of-page.ensures.page c.in_ok-done.done (view c.work_on.new.pass) c.in_ok-done.ensures.works (omega (arith, less)),
      ),
    )

pub undo-requires-clause-keeper : goal.undo-requires-clause-keeper
undo-requires-clause-keeper t c =
    undo_role c.args.root c.args.halves.now c.args.headers.now c.args.unit (view c.args.pass.now) c.requires.take c.page_of-page.result
    c.page_of-page.ensures.page c.in_ok-done.done (view c.work_on.new.pass) c.in_ok-done.ensures.works c.in-Err.kept
    (view c.take_from.new.pass)
    (err_taken c.args.root c.args.halves.now c.args.headers.now c.take_from.result c.in-Err.kept (view c.work_on.new.pass)
    (view c.take_from.new.pass) c.take_from.ensures.takes c.in-Err.is)

pub undo-requires-clause-slot : goal.undo-requires-clause-slot
undo-requires-clause-slot t c =
    undo_slot c.args.root c.args.halves.now c.args.headers.now c.args.unit (view c.args.pass.now) c.requires.take c.page_of-page.result
    c.page_of-page.ensures.page c.in_ok-done.done (view c.work_on.new.pass) c.in_ok-done.ensures.works c.in-Err.kept
    (view c.take_from.new.pass)
    (err_taken c.args.root c.args.halves.now c.args.headers.now c.take_from.result c.in-Err.kept (view c.work_on.new.pass)
    (view c.take_from.new.pass) c.take_from.ensures.takes c.in-Err.is)

pub undo-requires-clause-undo : goal.undo-requires-clause-undo
undo-requires-clause-undo t c =
    undo_here c.args.root c.args.halves.now c.args.headers.now c.args.unit (view c.args.pass.now) c.requires.take c.page_of-page.result
    c.page_of-page.ensures.page c.in_ok-done.done (view c.work_on.new.pass) c.in_ok-done.ensures.works c.in-Err.kept
    (view c.take_from.new.pass)
    (err_taken c.args.root c.args.halves.now c.args.headers.now c.take_from.result c.in-Err.kept (view c.work_on.new.pass)
    (view c.take_from.new.pass) c.take_from.ensures.takes c.in-Err.is)

pub returns-in-Err-clause-takes : goal.returns-in-Err-clause-takes
returns-in-Err-clause-takes t c =
    undone_here c.args.root c.args.halves.now c.args.headers.now c.args.unit (view c.args.pass.now) c.requires.take c.page_of-page.result
    c.page_of-page.ensures.page c.in_ok-done.done (view c.work_on.new.pass) c.in_ok-done.ensures.works c.in-Err.kept
    (view c.take_from.new.pass)
    (err_taken c.args.root c.args.halves.now c.args.headers.now c.take_from.result c.in-Err.kept (view c.work_on.new.pass)
    (view c.take_from.new.pass) c.take_from.ensures.takes c.in-Err.is) (view c.undo.new.pass) c.undo.ensures.undoes

pub returns-clause-takes : goal.returns-clause-takes
returns-clause-takes t c =
    taken_here c.args.root c.args.halves.now c.args.headers.now c.args.unit (view c.args.pass.now) c.requires.take c.page_of-page.result
    c.page_of-page.ensures.page c.in_ok-done.done (view c.work_on.new.pass) c.in_ok-done.ensures.works tt (view c.take_from.new.pass)
    (ok_taken c.args.root c.args.halves.now c.args.headers.now c.take_from.result (view c.work_on.new.pass) (view c.take_from.new.pass)
    c.take_from.ensures.takes c.in_default.not-Err)
