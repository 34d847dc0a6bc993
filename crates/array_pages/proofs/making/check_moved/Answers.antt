use Rattle.std.proofs.lemmas.Result.{err_from_is_err_and}
use Rattle.engine_pages.specs.Passes.{view}
use Rattle.array_pages.proofs.MakeLaws.{check_other, check_same}
use Rattle.array_pages.proofs.LoadedLaws.{is_followed}
use Rattle.engine_pages.specs.Pointers.{any_pointer}
use Rattle.array_pages.proofs.making.check_moved.Goals as goal

pub follow-seen-requires-clause-place : goal.follow-seen-requires-clause-place
follow-seen-requires-clause-place c =
    any_pointer (view c.args.pass.now) c.args.place c.args.span c.args.at c.requires.place

pub returns-in_err-is_met-clause-checks : goal.returns-in_err-is_met-clause-checks
returns-in_err-is_met-clause-checks c =
    let p = err_from_is_err_and c.from_residual.result c.from_residual.ensures.1 in
    let v = view c.args.pass.now in
    let u = view c.follow-seen.new.pass in
    let n = c.follow-seen.result in
    rw (p.1, p.2, c.if-not-moved.false)
    (check_other c.args.pointers.now c.args.place c.args.span c.args.at n v u c.requires.place
    (is_followed c.args.span c.args.at v n u c.follow-seen.ensures.follows)
    c.in_err-is_met.field-0.0 c.in_err-is_met.ensures.other)

pub returns-clause-checks : goal.returns-clause-checks
returns-clause-checks c =
    let v = view c.args.pass.now in
    let u = view c.follow-seen.new.pass in
    let n = c.follow-seen.result in
    rw c.if-not-moved.false
    (check_same c.args.pointers.now c.args.place c.args.span c.args.at n v u c.requires.place
    (is_followed c.args.span c.args.at v n u c.follow-seen.ensures.follows)
    c.in_ok-is_met.field-0 c.in_ok-is_met.ensures.met)
