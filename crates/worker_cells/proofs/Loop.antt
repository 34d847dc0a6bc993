-- The loop over the lines of a cell: a line more that was run, or left out, and the mark behind the last one.
use Rattle.std.proofs.Common.{◌≡◌, ◌∙◌, ◌++◌, ◌-◌, ◌∷◌, ◌⊎◌, inl, inr, refl, sym, ap, subst, ℕ, List, []}
use Rattle.std.proofs.Common.{Bool, false, true, true≢false, Option, Some, None, append_assoc}
use Rattle.std.specs.Prelude.{is_some}
use Rattle.std.proofs.lemmas.List.{append-nil}
use Rattle.serial_model.specs.declared.number.Commit.{Commit}
use Rattle.serial_model.specs.declared.op.Op.{Op}
use Rattle.log_writer.specs.declared.journal.LogFault.{LogFault}
use Rattle.log_writer.specs.declared.journal.LogFault.TheVariants.{Limit as AtLimit}
use Rattle.engine_pages.specs.declared.view.View.{View}
use Rattle.tx_script.specs.Readied.{epoch_behind}
use Rattle.tx_script.specs.declared.outcome.Outcome.{Outcome}
use Rattle.tx_script.specs.declared.outcome.Outcome.TheVariants.{Unrun}
use Rattle.worker_logs.specs.Logs.{LogState}
use Rattle.worker_logs.specs.Rows.{IsFull, TakesCommit, full_after}
use Rattle.worker_logs.specs.RowLaws.{full_at, never_up, still_down, still_full, was_up}
use Rattle.worker_logs.specs.ShownLaws.{shows_takes}
use Rattle.worker_cells.specs.Cells.{IsCell, IsMarkedBelow, Readies, RunsLines, RunsOne, StepsOne, steps_behind}
use Rattle.worker_cells.specs.declared.cell.LogEnd.{LogEnd}
use Rattle.worker_cells.specs.Rows.{LineRan, lines_of, outcomes_of, unrun}
use Rattle.worker_cells.proofs.Over.{looked_since, ran_begin, ran_line, ran_ready}

-- ---- lists

pub lines_push : (ran : List LineRan) (line : LineRan) → lines_of (ran ++ line ∷ []) ≡ lines_of ran ++ line.ops ∷ []
lines_push [] line = refl
lines_push (first ∷ ran) line = ap (λ l. first.ops ∷ l) (lines_push ran line)

pub outcomes_push : (ran : List LineRan) (line : LineRan)
    → outcomes_of (ran ++ line ∷ []) ≡ outcomes_of ran ++ line.outcome ∷ []
outcomes_push [] line = refl
outcomes_push (first ∷ ran) line = ap (λ o. first.outcome ∷ o) (outcomes_push ran line)

pub unrun_push : (left : List (List Op)) (ops : List Op) → unrun (left ++ ops ∷ []) ≡ unrun left ++ Unrun ∷ []
unrun_push [] ops = refl
unrun_push (first ∷ left) ops = ap (λ o. Unrun ∷ o) (unrun_push left ops)

pub some_lines : (lines : List (List Op)) (ops : List Op) → lines ++ ops ∷ [] ≡ [] → ⊥
some_lines [] ops is = absurd cc
some_lines (first ∷ lines) ops is = absurd cc

-- a commit leaves a log as up as it was
down_took : (mid new : LogState) (commit : Option Commit) → TakesCommit commit mid new
    → new.journal.down ≡ mid.journal.down
down_took mid new None takes = ap (λ (l : LogState). l.journal.down) takes
down_took mid new (Some c) takes = takes.down

-- a log that was refused takes no line
shut : (failed : Bool) (full : Option ℕ) (down : Option ℕ) → failed ≡ is_some down
    → (failed ≡ true) ⊎ (is_some full ≡ true) → full ≡ None → down ≡ None → ⊥
shut failed full down is (inl refused) none up = true≢false (sym refused ∙ is ∙ ap is_some up)
shut failed full down is (inr refused) none up = true≢false (sym refused ∙ ap is_some none)

-- a journal that isn't down is up
is_up : (down : Option ℕ) → is_some down ≡ false → down ≡ None
is_up None is = refl
is_up (Some count) is = absurd cc

-- Lines were run, and what waits isn't flushed yet: a log that refused none is up.
pub record RunsOn {D : Type 0} (tells : D → Option (List ℕ)) (clock : D → ℕ) (image_at : D → ℕ → List ℕ → Type 0)
    (faults : D → ℕ) (tries high : ℕ) (lines : List (List Op)) (outcomes : List Outcome) (full : Option ℕ) (v w : View)
    (old new : LogState) (before now : D) : Type 0 where
  pub runs : RunsLines tells clock image_at faults tries high lines outcomes full v w old new before now
  pub up : runs.left ≡ [] → new.journal.down ≡ None

module _ {D : Type 0} {tells : D → Option (List ℕ)} {clock : D → ℕ} {image_at : D → ℕ → List ℕ → Type 0}
    {faults : D → ℕ} where
  -- no line
  pub lines_begin : (tries : ℕ) {v : View} {log : LogState} {bank : D} → IsCell tells v log bank
      → RunsOn tells clock image_at faults tries v.epoch [] [] None v v log log bank bank
  lines_begin tries is = record {
    runs = record {
      ran = [];
      more = [];
      left = [];
      whole = refl;
      told = refl;
      did = ran_begin tries is;
      full_is = λ size is. absurd (let no = is in cc);
      all = λ none up. refl;
      refuses = λ some. absurd (some refl);
      unfilled = λ none. refl;
      none = λ none. (refl, refl, refl);
    };
    up = λ none. is.up.up;
  }

  -- a line was run, as the log was not refused before
  pub lines_ran : {tries high : ℕ} {lines : List (List Op)} {outcomes after : List Outcome} {full : Option ℕ}
      {v w x y : View} {old mid ready left : LogState} {before between now : D} (ops : List Op) → full ≡ None
      → RunsOn tells clock image_at faults tries high lines outcomes full v w old mid before between
      → Readies tells clock image_at faults None w x mid ready between now
      → IsMarkedBelow ready.mark x
      → (one : RunsOne tries ops outcomes after x y ready left)
      → RunsOn tells clock image_at faults tries (epoch_behind x.epoch one.logs.outcome) (lines ++ ops ∷ []) after full
      v y old left before now
  lines_ran {tries = tries} {lines = lines} {outcomes = outcomes} {full = full} {v = v} {w = w} {x = x} {y = y}
      {ready = ready} {left = left} ops unfilled on readied marked one =
      let so = on.runs in
      let none : so.left ≡ [] = so.all unfilled (was_up readied.moves) in
      let ready_at = ran_ready None so.did readied in
      let line : LineRan = record {
        ops = ops;
        outcome = one.logs.outcome;
        refused = one.logs.refused;
        logged = one.logs.logged;
        before = x;
        after = y;
      } in
      record {
        runs = record {
          ran = so.ran ++ line ∷ [];
          more = ready_at.0;
          left = [];
          whole = ap (λ l. l ++ ops ∷ [])
              (so.whole ∙ ap (λ l. lines_of so.ran ++ l) none ∙ append-nil (lines_of so.ran))
              ∙ sym (lines_push so.ran line) ∙ sym (append-nil (lines_of (so.ran ++ line ∷ [])));
          told = one.told_is ∙ ap (λ o. o ++ one.logs.outcome ∷ [])
              (so.told ∙ ap (λ l. outcomes_of so.ran ++ unrun l) none ∙ append-nil (outcomes_of so.ran))
              ∙ sym (outcomes_push so.ran line) ∙ sym (append-nil (outcomes_of (so.ran ++ line ∷ [])));
          did = ran_line ops refl ready_at.1 marked (looked_since (steps_behind v.steps so.ran) w.steps x so.did.steps
              readied.looked) one.logs;
          full_is = λ size is. absurd (let no = sym unfilled ∙ is in cc);
          all = λ no up. refl;
          refuses = λ some. absurd (some refl);
          unfilled = λ is. unfilled;
          none = λ is. absurd (some_lines lines ops is);
        };
        up = λ is. down_took ready left one.logs.logged one.logs.takes
            ∙ readied.moves.stays_up (λ no. cc) ∙ was_up readied.moves;
      }

  -- behind a log that was refused before a line is left out
  pub lines_passed : {tries high : ℕ} {lines : List (List Op)} {outcomes after : List Outcome} {full : Option ℕ}
      {v w : View} {old log : LogState} {before now : D} (ops : List Op)
      → (full ≡ None → log.journal.down ≡ None → ⊥)
      → RunsOn tells clock image_at faults tries high lines outcomes full v w old log before now
      → after ≡ outcomes ++ Unrun ∷ []
      → RunsOn tells clock image_at faults tries high (lines ++ ops ∷ []) after full v w old log before now
  lines_passed {lines = lines} ops shut on told =
      let so = on.runs in
      record {
        runs = record {
          ran = so.ran;
          more = so.more;
          left = so.left ++ ops ∷ [];
          whole = ap (λ l. l ++ ops ∷ []) so.whole ∙ append_assoc (lines_of so.ran) so.left (ops ∷ []);
          told = told ∙ ap (λ o. o ++ Unrun ∷ []) so.told
              ∙ append_assoc (outcomes_of so.ran) (unrun so.left) (Unrun ∷ [])
              ∙ ap (λ o. outcomes_of so.ran ++ o) (sym (unrun_push so.left ops));
          did = so.did;
          full_is = so.full_is;
          all = λ none up. absurd (shut none up);
          refuses = λ some. so.refuses (λ none. shut (so.unfilled none) (on.up none));
          unfilled = λ none. absurd (some_lines so.left ops none);
          none = λ is. absurd (some_lines lines ops is);
        };
        up = λ none. absurd (some_lines so.left ops none);
      }

  -- the log refused a line, the first one
  pub lines_left : {tries high : ℕ} {lines : List (List Op)} {outcomes after : List Outcome} {full : Option ℕ}
      {v w x : View} {old mid left : LogState} {before between now : D} (ops : List Op) (fault : LogFault)
      → mid.journal.down ≡ None
      → RunsOn tells clock image_at faults tries high lines outcomes full v w old mid before between
      → Readies tells clock image_at faults (Some fault) w x mid left between now
      → ((size : ℕ) → fault ≡ AtLimit size → IsFull size mid.journal)
      → after ≡ outcomes ++ Unrun ∷ []
      → RunsOn tells clock image_at faults tries x.epoch (lines ++ ops ∷ []) after (full_after fault full) v x
      old left before now
  lines_left {high = high} {lines = lines} {full = full} {x = x} {mid = mid} {left = left} {between = between}
      {now = now} ops fault up on readied limit told =
      let so = on.runs in
      let ready_at = ran_ready (Some fault) so.did readied in
      record {
        runs = record {
          ran = so.ran;
          more = ready_at.0;
          left = so.left ++ ops ∷ [];
          whole = ap (λ l. l ++ ops ∷ []) so.whole ∙ append_assoc (lines_of so.ran) so.left (ops ∷ []);
          told = told ∙ ap (λ o. o ++ Unrun ∷ []) so.told
              ∙ append_assoc (outcomes_of so.ran) (unrun so.left) (Unrun ∷ [])
              ∙ ap (λ o. outcomes_of so.ran ++ o) (sym (unrun_push so.left ops));
          did = ready_at.1;
          full_is = λ size is. still_full readied.moves (full_at fault full limit so.full_is size is);
          all = λ none up. absurd (never_up fault full readied.moves none up);
          refuses = λ some. record {
            high = high;
            later = so.did.later;
            found = mid;
            at = between;
            takes = shows_takes so.did.shows;
            longer = so.did.longer;
            limit = so.did.limit;
            up = up;
            fault = fault;
            epoch = x.epoch - 1;
            left = left;
            behind = now;
            call = readied.moves;
            full = limit;
          };
          unfilled = λ none. absurd (some_lines so.left ops none);
          none = λ is. absurd (some_lines lines ops is);
        };
        up = λ none. absurd (some_lines so.left ops none);
      }

  -- What waits was made durable at the end, and marked.
  pub lines_marked : {tries high : ℕ} {lines : List (List Op)} {outcomes : List Outcome} {full : Option ℕ}
      {v w x : View} {old mid left : LogState} {before between now : D} (fault : Option LogFault)
      → (lines ≡ [] → ⊥)
      → RunsOn tells clock image_at faults tries high lines outcomes full v w old mid before between
      → Readies tells clock image_at faults fault w x mid left between now
      → RunsLines tells clock image_at faults tries x.epoch lines outcomes full v x old left before now
  lines_marked fault some on readied = let so = on.runs in let ready_at = ran_ready fault so.did readied in record {
    ran = so.ran;
    more = ready_at.0;
    left = so.left;
    whole = so.whole;
    told = so.told;
    did = ready_at.1;
    full_is = λ size is. still_full readied.moves (so.full_is size is);
    all = λ no up. so.all no (still_down fault readied.moves up);
    refuses = so.refuses;
    unfilled = so.unfilled;
    none = λ is. absurd (some is);
  }

  -- ---- a line of a cell

  -- a line more, whatever was done with it
  pub lines_step : {tries high : ℕ} {lines : List (List Op)} {outcomes after : List Outcome} {first end : LogEnd}
      {v w x : View} {old mid left : LogState} {before between now : D} (ops : List Op)
      → RunsOn tells clock image_at faults tries high lines outcomes first.full v w old mid before between
      → first.failed ≡ is_some mid.journal.down
      → StepsOne tells clock image_at faults tries ops outcomes after first end w x mid left between now
      → (later : ℕ)
      × RunsOn tells clock image_at faults tries later (lines ++ ops ∷ []) after end.full v x old left before now
      × (end.failed ≡ is_some left.journal.down)
  lines_step {tries = tries} {high = high} {lines = lines} {outcomes = outcomes} {after = after} {first = first}
      {end = end} {v = v} {w = w} {x = x} {old = old} {mid = mid} {left = left} {before = before} {between = between}
      {now = now} ops so failed (inl (same, up, unfilled, ran)) = (
        epoch_behind ran.mid.epoch ran.one.logs.outcome,
        subst (λ (e : LogEnd). RunsOn tells clock image_at faults tries
            (epoch_behind ran.mid.epoch ran.one.logs.outcome) (lines ++ ops ∷ []) after e.full v x old left before now)
            (sym same) (lines_ran ops unfilled so ran.readies ran.marked ran.one),
        ap (λ (e : LogEnd). e.failed) same ∙ failed
            ∙ ap is_some (sym (down_took ran.ready left ran.one.logs.logged ran.one.logs.takes
            ∙ ran.readies.moves.stays_up (λ is. cc))),
      )
  lines_step {tries = tries} {lines = lines} {after = after} {end = end} {v = v} {x = x} {old = old} {mid = mid}
      {left = left} {before = before} {now = now} ops so failed (inr (inl (unfilled, unfailed, refused))) = (
        x.epoch,
        subst (λ f. RunsOn tells clock image_at faults tries x.epoch (lines ++ ops ∷ []) after f v x old left
            before now)
            (ap (full_after refused.fault) unfilled ∙ sym refused.full)
            (lines_left ops refused.fault (is_up mid.journal.down (sym failed ∙ unfailed)) so refused.readies
            refused.limit refused.told_is),
        refused.failed,
      )
  lines_step {tries = tries} {high = high} {lines = lines} {after = after} {first = first} {v = v} {w = w} {x = x}
      {old = old} {mid = mid} {before = before} {between = between} ops so failed (inr (inr passed)) =
      rw (passed.end_is, passed.view, passed.log, passed.bank) (
        high,
        lines_passed ops (shut first.failed first.full mid.journal.down failed passed.refused) so passed.told_is,
        failed,
      )
