-- One line after another, and the mark behind the last one.
use Rattle.std.proofs.Common.{◌∙◌, ◌≡◌, ◌<◌, ◌≤◌, Some, None, ap, sym, subst, refl, arith, length}
use Rattle.std.specs.Prelude.{IsTrue, is_some}
use Rattle.std.specs.List.{AllByRecursion}
use Rattle.serial_model.specs.Keys.{fits}
use Rattle.script_grammar.specs.Script.{lines_of_worker}
use Rattle.engine_pages.specs.declared.view.Role.TheVariants.{Worker}
use Rattle.engine_pages.specs.Passes.{view}
use Rattle.tx_script.specs.Room.{all_words}
use Rattle.worker_cells.specs.GateLaws.{told_none}
use Rattle.worker_cells.specs.Gates.{IsOpen, calls_for, calls_in, is_run}
use Rattle.worker_cells.proofs.CellLoop.{so_begin, so_layout, so_marked, so_noted, so_other, so_role, so_room}
use Rattle.worker_cells.proofs.CellLoop.{so_step, so_tied, so_within}
use Rattle.worker_cells.proofs.LinesOf.{HasOps, runnable_at, take_other, words_more, words_within}
use Rattle.worker_cells.proofs.lines.run_cell.Goals as goal
use Rattle.worker_cells.proofs.lines.run_cell.Goals.{in-Some, in_default}

pub loop-count-init : goal.loop-count-init
loop-count-init g c = (
  so_begin c.args.tries c.args.cell.now.worker c.args.round.now.lines c.args.cell.now.outcomes.told
      c.default-cell.result c.requires.cell c.requires.told c.default-cell.ensures.1.0
      (c.default-cell.ensures.0 ∙ sym (ap is_some c.requires.cell.up.up)),
  c.requires.of,
  refl,
  omega arith,
  omega arith,
  told_none is_run c.args.cell.now.worker (IsOpen c.default-cell.result) c.args.cell.now.outcomes.told
      (calls_in c.none-calls.result) c.requires.told c.none-calls.ensures,
)

pub ops_of-requires : goal.ops_of-requires
ops_of-requires g c =
    so_within (omega (arith, c.loop-count-test.true, c.requires.count)) c.loop-count.invariant.0

pub overflow_add-index : goal.overflow_add-index
overflow_add-index g c =
    let within = so_within (omega (arith, c.loop-count-test.true, c.requires.count)) c.loop-count.invariant.0 in
    omega (arith, within, c.requires.lines.few_lines)

pub run_one-requires-clause-worker : goal.run_one-requires-clause-worker
run_one-requires-clause-worker g c =
    let so = c.loop-count.invariant in (
      so_role so.0 ∙ c.requires.worker.0 ∙ ap Worker (sym so.2),
      subst (λ n. n < 8) (sym so.2) c.requires.worker.1,
    )

pub run_one-requires-clause-tied : goal.run_one-requires-clause-tied
run_one-requires-clause-tied g c =
    let tied = c.requires.tied (λ none. omega (arith, c.loop-count-test.true, c.requires.count, ap length none)) in
    so_tied c.loop-count.invariant.0 tied.0 tied.1

pub run_one-requires-clause-fitting : goal.run_one-requires-clause-fitting
run_one-requires-clause-fitting g c =
    let decls = (view c.args.cell.now.pass).layout.decls in
    subst (λ l. AllByRecursion (λ op. IsTrue (fits l.decls op)) c.in-Some.ops.now)
    (sym (so_layout c.loop-count.invariant.0))
    (runnable_at decls c.loop-count.cell.worker c.args.round.now c.loop-count.index c.in-Some.ops.now c.requires.lines
    c.in-Some.ensures).fitting

pub run_one-requires-clause-few : goal.run_one-requires-clause-few
run_one-requires-clause-few g c =
    (runnable_at (view c.args.cell.now.pass).layout.decls c.loop-count.cell.worker c.args.round.now c.loop-count.index
    c.in-Some.ops.now c.requires.lines c.in-Some.ensures).few

pub run_one-requires-clause-room : goal.run_one-requires-clause-room
run_one-requires-clause-room g c =
    let so = c.loop-count.invariant in
    let has : HasOps c.args.cell.now.worker c.args.round.now.lines c.loop-count.index (Some c.in-Some.ops.now) =
    subst (λ n. HasOps n c.args.round.now.lines c.loop-count.index (Some c.in-Some.ops.now)) so.2 c.in-Some.ensures in
    so_room so.0 c.in-Some.ops.now c.args.cell.now.outcomes.left c.loop-count.cell.outcomes.left has c.requires.room
    so.3

pub run_one-requires-clause-space : goal.run_one-requires-clause-space
run_one-requires-clause-space g c =
    let so = c.loop-count.invariant in
    let has : HasOps c.args.cell.now.worker c.args.round.now.lines c.loop-count.index (Some c.in-Some.ops.now) =
    subst (λ n. HasOps n c.args.round.now.lines c.loop-count.index (Some c.in-Some.ops.now)) so.2 c.in-Some.ensures in
    omega (
      arith,
      so.4,
      c.requires.space,
      words_within c.args.cell.now.worker c.loop-count.index c.args.round.now.lines c.in-Some.ops.now has,
    )

pub loop-count-preserved : goal.loop-count-preserved
loop-count-preserved g c =
    let so = c.loop-count.invariant in
    elim c.match-ops_of.branch [
      | in-Some w ↦
          let has : HasOps c.args.cell.now.worker c.args.round.now.lines c.loop-count.index (Some w.in-Some.ops.now) =
          subst (λ n. HasOps n c.args.round.now.lines c.loop-count.index (Some w.in-Some.ops.now)) so.2
          w.in-Some.ensures in
          rw (w.cell-is, w.count-is, w.calls-is) (
            so_step w.in-Some.ops.now has so.0 w.run_one.ensures.steps,
            w.run_one.ensures.of,
            w.run_one.ensures.worker ∙ so.2,
            omega (
              arith,
              so.3,
              w.run_one.ensures.left,
              so_room so.0 w.in-Some.ops.now c.args.cell.now.outcomes.left
                  c.loop-count.cell.outcomes.left has c.requires.room so.3,
            ),
            omega (
              arith,
              so.4,
              w.run_one.ensures.space,
              words_more c.args.cell.now.worker c.loop-count.index c.args.round.now.lines w.in-Some.ops.now has,
            ),
            w.run_one.ensures.calls,
          )
      | in_default w ↦
          rw (w.cell-is, w.count-is, w.calls-is) (
            so_other (subst (λ n. HasOps n c.args.round.now.lines c.loop-count.index None) so.2 w.in_default.ensures)
                so.0,
            so.1,
            so.2,
            so.3,
            omega (
              arith,
              so.4,
              ap all_words (take_other c.args.cell.now.worker c.args.round.now.lines c.loop-count.index
                  (subst (λ n. HasOps n c.args.round.now.lines c.loop-count.index None) so.2 w.in_default.ensures)),
            ),
            so.5,
          )
    ]

pub flush_last-cell-requires-clause-worker : goal.flush_last-cell-requires-clause-worker
flush_last-cell-requires-clause-worker g c =
    let so = c.loop-count.invariant in (
      so_role so.0 ∙ c.requires.worker.0 ∙ ap Worker (sym so.2),
      subst (λ n. n < 8) (sym so.2) c.requires.worker.1,
    )

pub returns-then-count-gt0-clause-runs : goal.returns-then-count-gt0-clause-runs
returns-then-count-gt0-clause-runs g c =
    let all : length (lines_of_worker c.args.round.now c.args.cell.now.worker) ≤ c.loop-count.count =
    omega (arith, c.loop-count-test.false, c.requires.count) in
    so_marked c.flush_last-cell.result all (omega (arith, c.if-count-gt0.true))
    (so_noted c.loop-count.calls c.loop-count.invariant.0)
    c.flush_last-cell.ensures.readies c.flush_last-cell.ensures.failed c.flush_last-cell.ensures.flushed

pub returns-then-count-gt0-clause-calls : goal.returns-then-count-gt0-clause-calls
returns-then-count-gt0-clause-calls g c =
    let so = c.loop-count.invariant in
    subst (λ n. calls_in c.loop-count.calls ≡ calls_for is_run n 0 c.loop-count.cell.outcomes.told) so.2
    so.5.calls_are
