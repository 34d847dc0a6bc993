-- The loop of a cell over a round's lines.
use Rattle.std.proofs.Common.{◌≡◌, ◌∙◌, ◌≤◌, ◌<◌, ◌+◌, ◌++◌, ◌∷◌, refl, sym, ap, subst, ℕ, List, [], length}
use Rattle.std.proofs.Common.{take, arith}
use Rattle.std.proofs.Common.{Bool, Option, Some, None}
use Rattle.std.specs.Prelude.{is_some}
use Rattle.serial_model.specs.declared.op.Op.{Op}
use Rattle.script_grammar.specs.Script.{Line}
use Rattle.log_writer.specs.Journal.{Reaches}
use Rattle.wire_form.specs.Words.{IsMark}
use Rattle.engine_pages.specs.declared.view.View.{View}
use Rattle.tx_runner.specs.Below.{IsOver}
use Rattle.tx_script.specs.declared.outcome.Outcome.{Outcome}
use Rattle.worker_logs.specs.Logs.{LogState}
use Rattle.worker_cells.specs.declared.cell.LogEnd.{LogEnd}
use Rattle.worker_cells.specs.declared.gate_calls.GateCalls.{GateCalls}
use Rattle.worker_cells.specs.Cells.{IsCell, IsTied, ReadiesSome, RunsCell, RunsLines, StepsOne}
use Rattle.worker_cells.specs.InARow.{row_layout, row_role}
use Rattle.worker_cells.proofs.LinesOf.{HasOps, count_more, few_of, ops_of, take_mine}
use Rattle.worker_cells.proofs.LinesOf.{take_other, whole_of, within_of}
use Rattle.worker_cells.proofs.Loop.{RunsOn, lines_begin, lines_marked, lines_step, some_lines}

-- a list with nothing in it
empty_of : {X : Type 0} (xs : List X) → length xs ≡ 0 → xs ≡ []
empty_of [] is = refl
empty_of (x ∷ xs) is = absurd (omega (arith, is))

-- The first lines of a round were run that are the worker's, so many, or left out. Where there were none the pass has
-- seen no other epoch.
pub record SoFar {D : Type 0} (tells : D → Option (List ℕ)) (clock : D → ℕ) (image_at : D → ℕ → List ℕ → Type 0)
    (faults : D → ℕ) (tries worker i : ℕ) (lines : List Line) (outcomes : List Outcome) (end : LogEnd)
    (count : ℕ) (v w : View) (old new : LogState) (before now : D) : Type 0 where
  pub high : ℕ
  pub runs : RunsOn tells clock image_at faults tries high (ops_of worker (take i lines)) outcomes end.full v w
      old new before now
  pub failed : end.failed ≡ is_some new.journal.down
  pub count_is : count ≡ length (ops_of worker (take i lines))
  pub few : count ≤ i
  pub idle : ops_of worker (take i lines) ≡ [] → high ≡ w.epoch

module _ {D : Type 0} {tells : D → Option (List ℕ)} {clock : D → ℕ} {image_at : D → ℕ → List ℕ → Type 0}
    {faults : D → ℕ} where
  -- no line
  pub so_begin : (tries worker : ℕ) (lines : List Line) (outcomes : List Outcome) (end : LogEnd)
      {v : View} {log : LogState} {bank : D} → IsCell tells v log bank → outcomes ≡ [] → end.full ≡ None
      → end.failed ≡ is_some log.journal.down
      → SoFar tells clock image_at faults tries worker 0 lines outcomes end 0 v v log log bank bank
  so_begin tries worker lines outcomes end {v = v} {log = log} {bank = bank} is none full failed = record {
    high = v.epoch;
    runs = subst (λ o. RunsOn tells clock image_at faults tries v.epoch [] o end.full v v log log bank bank)
        (sym none)
        (subst (λ f. RunsOn tells clock image_at faults tries v.epoch [] [] f v v log log bank bank) (sym full)
        (lines_begin tries is));
    failed = failed;
    count_is = refl;
    few = omega arith;
    idle = λ none. refl;
  }

  -- where there are more, a line of the round is left
  pub so_within : {tries worker i count : ℕ} {lines : List Line} {outcomes : List Outcome} {end : LogEnd}
      {v w : View} {old new : LogState} {before now : D} → count < length (ops_of worker lines)
      → SoFar tells clock image_at faults tries worker i lines outcomes end count v w old new before now
      → i < length lines
  so_within {worker = worker} {i = i} {lines = lines} fewer so =
      within_of worker i lines (omega (arith, fewer, so.count_is))

  -- a line of another worker was passed over
  pub so_other : {tries worker i count : ℕ} {lines : List Line} {outcomes : List Outcome} {end : LogEnd}
      {v w : View} {old new : LogState} {before now : D} → HasOps worker lines i None
      → SoFar tells clock image_at faults tries worker i lines outcomes end count v w old new before now
      → SoFar tells clock image_at faults tries worker (i + 1) lines outcomes end count v w old new before now
  so_other {tries = tries} {worker = worker} {i = i} {lines = lines} {outcomes = outcomes} {end = end} {v = v} {w = w}
      {old = old} {new = new} {before = before} {now = now} has so =
      let same : ops_of worker (take (i + 1) lines) ≡ ops_of worker (take i lines) = take_other worker lines i has in
      record {
        high = so.high;
        runs = subst (λ l. RunsOn tells clock image_at faults tries so.high l outcomes end.full v w old new
            before now)
            (sym same) so.runs;
        failed = so.failed;
        count_is = so.count_is ∙ sym (ap length same);
        few = omega (arith, so.few);
        idle = λ none. so.idle (sym same ∙ none);
      }

  -- one of the worker was run, or left out
  pub so_step : {tries worker i count : ℕ} {lines : List Line} {outcomes after : List Outcome} {first end : LogEnd}
      {v w x : View} {old mid left : LogState} {before between now : D} (ops : List Op)
      → HasOps worker lines i (Some ops)
      → SoFar tells clock image_at faults tries worker i lines outcomes first count v w old mid before between
      → StepsOne tells clock image_at faults tries ops outcomes after first end w x mid left between now
      → SoFar tells clock image_at faults tries worker (i + 1) lines after end (count + 1) v x old left before now
  so_step {tries = tries} {worker = worker} {i = i} {count = count} {lines = lines} {outcomes = outcomes}
      {after = after} {end = end} {v = v} {x = x} {old = old} {left = left} {before = before} {now = now} ops has so
      steps =
      let one = lines_step ops so.runs so.failed steps in
      let mine : ops_of worker (take (i + 1) lines) ≡ ops_of worker (take i lines) ++ ops ∷ [] =
      take_mine worker lines i ops has in
      record {
        high = one.0;
        runs = subst (λ l. RunsOn tells clock image_at faults tries one.0 l after end.full v x old left before now)
            (sym mine) one.1;
        failed = one.2;
        count_is = count_more worker i count lines ops has so.count_is;
        few = omega (arith, so.few);
        idle = λ none. absurd (some_lines (ops_of worker (take i lines)) ops (sym mine ∙ none));
      }

  -- behind the last line it is noted what the gate was told
  pub so_noted : {tries worker i count : ℕ} {lines : List Line} {outcomes : List Outcome} {end : LogEnd}
      {v w : View} {old new : LogState} {before now : D} (calls : GateCalls)
      → SoFar tells clock image_at faults tries worker i lines outcomes end count v w old new before now
      → SoFar tells clock image_at faults tries worker i lines outcomes (record end { calls = calls }) count v w
      old new before now
  so_noted calls so = record {
    high = so.high;
    runs = so.runs;
    failed = so.failed;
    count_is = so.count_is;
    few = so.few;
    idle = so.idle;
  }

  -- behind the last line, with some of the worker: what waits was made durable, and marked
  pub so_marked : {tries worker i count : ℕ} {lines : List Line} {outcomes : List Outcome} {end : LogEnd}
      {v w x : View} {old mid left : LogState} {before between now : D} (failed : Bool)
      → length (ops_of worker lines) ≤ count → 0 < count
      → SoFar tells clock image_at faults tries worker i lines outcomes end count v w old mid before between
      → ReadiesSome tells clock image_at faults w x mid left between now
      → failed ≡ is_some left.journal.down → (left.journal.down ≡ None → left.journal.lines ≡ [])
      → RunsCell tells clock image_at faults tries (ops_of worker lines) outcomes (record end { failed = failed })
      v x old left before now
  so_marked {tries = tries} {worker = worker} {i = i} {lines = lines} {outcomes = outcomes} {end = end} {v = v} {x = x}
      {old = old} {left = left} {before = before} {now = now} failed all some so readied is flushed =
      let whole : ops_of worker (take i lines) ≡ ops_of worker lines =
      whole_of worker i lines (omega (arith, all, so.count_is)) in
      let not : ops_of worker (take i lines) ≡ [] → ⊥ = λ none. omega (arith, some, so.count_is, ap length none) in
      record {
        lines_run = subst (λ l. RunsLines tells clock image_at faults tries x.epoch l outcomes end.full v x
            old left before now) whole (lines_marked readied.fault not so.runs readied.readies);
        failed = is;
        flushed = flushed;
      }

  -- and with none
  pub so_idle : {tries worker i : ℕ} {lines : List Line} {outcomes : List Outcome} {end : LogEnd}
      {v w : View} {old new : LogState} {before now : D}
      → length (ops_of worker lines) ≤ 0 → old.journal.lines ≡ []
      → SoFar tells clock image_at faults tries worker i lines outcomes end 0 v w old new before now
      → RunsCell tells clock image_at faults tries (ops_of worker lines) outcomes end v w old new before now
  so_idle {tries = tries} {worker = worker} {i = i} {lines = lines} {outcomes = outcomes} {end = end} {v = v} {w = w}
      {old = old} {new = new} {before = before} {now = now} all flushed so =
      let whole : ops_of worker (take i lines) ≡ ops_of worker lines =
      whole_of worker i lines (omega (arith, all, so.count_is)) in
      let none : ops_of worker (take i lines) ≡ [] = empty_of (ops_of worker (take i lines)) (sym so.count_is) in
      record {
        lines_run = subst (λ l. RunsLines tells clock image_at faults tries w.epoch l outcomes end.full v w
            old new before now) whole
            (subst (λ h. RunsLines tells clock image_at faults tries h (ops_of worker (take i lines)) outcomes
            end.full v w
            old new before now) (so.idle none) so.runs.runs);
        failed = so.failed;
        flushed = λ up. ap (λ (l : LogState). l.journal.lines) (so.runs.runs.none none).0 ∙ flushed;
      }

  -- ---- what a line of the worker finds

  module _ {tries worker i count : ℕ} {lines : List Line} {outcomes : List Outcome} {end : LogEnd}
      {v w : View} {old new : LogState} {before now : D}
      (so : SoFar tells clock image_at faults tries worker i lines outcomes end count v w old new before now)
    where
      pub so_over : IsOver w
      so_over = so.runs.runs.did.over

      -- the log's mark stands on the words, where it stood there as the lines began
      pub so_tied : IsTied old.mark v.seat.marks → IsMark old.mark → IsTied new.mark w.seat.marks
      so_tied tied small = (so.runs.runs.did.shown tied small).last

      pub so_role : w.role ≡ v.role
      so_role = row_role tries v so.runs.runs.ran w so.runs.runs.did.row

      pub so_layout : w.layout ≡ v.layout
      so_layout = row_layout tries v so.runs.runs.ran w so.runs.runs.did.row

      pub so_draws : 1 ≤ v.layout.first.draw → 1 ≤ w.layout.first.draw
      so_draws some =
          subst (λ l. 1 ≤ l.first.draw) (sym (row_layout tries v so.runs.runs.ran w so.runs.runs.did.row)) some

      pub so_reaches : Reaches tells now new.journal
      so_reaches = so.runs.runs.did.reaches

      -- room for all lines isn't full yet
      pub so_room : (ops : List Op) (size left : ℕ) → HasOps worker lines i (Some ops)
          → length (ops_of worker lines) ≤ size → count + left ≡ size → 1 ≤ left
      so_room ops size left has most is = omega (arith, few_of worker i lines ops has, so.count_is, most, is)
