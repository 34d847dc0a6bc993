-- The log refused the line.
use Rattle.std.proofs.Common.{◌∙◌, ◌+◌, ◌++◌, ◌∷◌, [], ap, refl, subst, sym, inl, inr, arith, Err}
use Rattle.std.specs.List.{AllByRecursion}
use Rattle.engine_pages.specs.Passes.{view}
use Rattle.std.specs.Prelude.{IsTrue}
use Rattle.serial_model.specs.Keys.{fits}
use Rattle.tx_script.specs.declared.outcome.Outcome.TheVariants.{Unrun}
use Rattle.tx_script.specs.Room.{RoomState}
use Rattle.worker_cells.proofs.Moves.{down_by}
use Rattle.worker_cells.specs.GateLaws.{calls_both, told_left, told_ran}
use Rattle.worker_cells.specs.Gates.{After, IsOpen, IsTold, calls_in, is_run}
use Rattle.worker_cells.proofs.Gated.{comes_run, fault_shut, refused_shut}
use Rattle.worker_cells.proofs.lines.run_one.Goals as goal

pub returns-in-Err-clause-steps : goal.returns-in-Err-clause-steps
returns-in-Err-clause-steps g c =
    let before = c.is_refused.ensures.no c.if-is_refused.false in
    let ready = c.in-Err.ensures.readies in
    inr (inl (
      before.1,
      before.0,
      record {
        fault = c.in-Err.fault;
        readies = ready;
        limit = λ size is.
            let at = c.in-Err.ensures.full size (ap Err is) in record { end = at.0; above = omega (arith, at.1) };
        told_is = ap (λ (r : RoomState). r.told) c.push_refused-in-Err.ensures;
        full = c.end_by-cell.ensures.full;
        failed = c.end_by-cell.ensures.failed
            ∙ down_by c.in-Err.fault ready.moves (sym before.0 ∙ c.requires.up);
      },
    ))

pub returns-in-Err-clause-calls : goal.returns-in-Err-clause-calls
returns-in-Err-clause-calls g c =
    told_left (IsOpen c.end_by-cell.result) _ Unrun c.requires.calls
    (ap (λ (r : RoomState). r.told) c.push_refused-in-Err.ensures) refl
    (fault_shut c.in-Err.fault c.end_by-cell.result c.end_by-cell.ensures.full c.end_by-cell.ensures.failed)

pub run_logged-requires-clause-fitting : goal.run_logged-requires-clause-fitting
run_logged-requires-clause-fitting g c =
    subst (λ l. AllByRecursion (λ op. IsTrue (fits l.decls op)) c.args.ops.now)
    (sym c.in-Ok.ensures.readies.goes.layout) c.requires.fitting

pub returns-then-is_refused-clause-calls : goal.returns-then-is_refused-clause-calls
returns-then-is_refused-clause-calls g c =
    told_left (IsOpen c.args.cell.now.end) _ Unrun c.requires.calls
    (ap (λ (r : RoomState). r.told) c.push_refused.ensures) refl
    (refused_shut c.args.cell.now.end (c.is_refused.ensures.yes c.if-is_refused.true))

pub returns-in-Ok-clause-calls : goal.returns-in-Ok-clause-calls
returns-in-Ok-clause-calls g c =
    let runs = c.run_logged.ensures.runs in
    let same = c.run_logged.ensures.kept.0 in
    let new = c.run_logged.new.cell in
    subst (λ n. IsTold is_run n (c.args.count + 1) (IsOpen new.end) new.outcomes.told (calls_in c.leave.new.calls))
    (sym same)
    (told_ran (IsOpen new.end) new.outcomes.told runs.logs.outcome (calls_in c.leave.new.calls) c.requires.calls
    (c.is_refused.ensures.no c.if-is_refused.false) runs.told_is
    (comes_run c.args.tries c.args.ops.now runs.logs.outcome runs.logs.refused runs.logs.logged
    (view c.make_ready.new.pass) (view new.pass) runs.logs.comes)
    (calls_both c.args.cell.now.worker c.args.count (calls_in c.args.calls.now) (calls_in c.enter.new.calls)
    (calls_in c.leave.new.calls) c.enter.ensures.noted
    (c.leave.ensures.noted ∙ ap (λ n. calls_in c.enter.new.calls ++ After n c.args.count ∷ []) same)))

pub returns-in-Err-clause-space : goal.returns-in-Err-clause-space
returns-in-Err-clause-space g c = omega (arith, ap (λ (r : RoomState). r.space) c.push_refused-in-Err.ensures)

pub returns-then-is_refused-clause-space : goal.returns-then-is_refused-clause-space
returns-then-is_refused-clause-space g c = omega (arith, ap (λ (r : RoomState). r.space) c.push_refused.ensures)
