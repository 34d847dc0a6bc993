-- What is durable of the log files through a round: each log stays that of some commits, and what counts of the closed
-- log files stays durable.
use Rattle.std.proofs.Common.{◌≡◌, ◌∙◌, ◌≤◌, ◌+◌, ◌-◌, inl, inr, sym, ap, subst, ℕ, List, [], length, map}
use Rattle.std.proofs.Common.{false, true, Option, Some, None, arith}
use Rattle.std.specs.Prelude.{slice_get, Result, Ok}
use Rattle.std.specs.List.{AllByRecursion}
use Rattle.std.proofs.lemmas.Bool.{cases_Bool}
use Rattle.std.proofs.lemmas.Option.{same_Some}
use Rattle.lists.specs.Each.{all_at}
use Rattle.log_writer.specs.Counted.{AlwaysTells, KeepsCounted, keeps_nothing, keeps_read}
use Rattle.log_writer.specs.Points.{sequence_of}
use Rattle.log_writer.specs.Vault.{IsWhole, disk_in}
use Rattle.outside.specs.declared.device.Device.TheVariants as devices
use Rattle.log_writer.specs.declared.vault.Vault.{Vault}
use Rattle.script_grammar.specs.Script.{Round, lines_of_worker}
use Rattle.script_grammar.specs.declared.lines.KeeperLine.{KeeperLine}
use Rattle.serial_model.specs.declared.op.Op.{Op}
use Rattle.tx_script.specs.Causes.{some_counted}
use Rattle.tx_script.specs.Run.{Readied}
use Rattle.tx_script.specs.declared.answer.Answer.{Answer}
use Rattle.tx_script.specs.declared.outcome.Outcome.{Outcome}
use Rattle.wire_form.specs.declared.clock.Mark.{Mark}
use Rattle.worker_logs.specs.FlushAll.{FlushesAll}
use Rattle.worker_logs.specs.LogLaws.{log_resets, mark_kept, some_goes}
use Rattle.worker_logs.specs.Logs.{IsJoined, IsPassed, IsSomeLog, LogState, reset_log}
use Rattle.worker_logs.specs.RowLaws.{some_takes}
use Rattle.worker_logs.specs.Shown.{Stood}
use Rattle.worker_logs.specs.ShownLaws.{shows_takes}
use Rattle.worker_logs.specs.Saves.{AreDurable, closed_number, growing_number, logs_marks}
use Rattle.worker_logs.specs.declared.savepoints.Side.{Side}
use Rattle.round_engine.specs.Keeping.{RunsJoin, RunsKeeper}
use Rattle.round_engine.specs.Phases.{as_begun}
use Rattle.round_engine.specs.Shares.{Share, logged_in}
use Rattle.round_engine.specs.Sides.{closed_in, closed_numbers, growing_in, other_side}
use Rattle.round_engine.specs.Standing.{ArePassed, beside_of, LogsStand, RuntimeState, Standing}
use Rattle.round_engine.specs.Swaps.{CutsBanks}
use Rattle.round_engine.specs.Workers.{RunsOver, RunsWorkers, idled, is_busy}
use Rattle.round_engine.specs.declared.report.End.{End}
use Rattle.shared_rounds.specs.Below.{LogEnd}
use Rattle.round_engine.proofs.BanksCut.{banks_empty, closed_in_numbers, some_there}
use Rattle.round_engine.proofs.LinesLeft.{lines_at}
use Rattle.round_engine.proofs.LogsLeft.{idled_log, idled_passed}
use Rattle.round_engine.proofs.Numbered.{closed_at, closed_many, growing_at, other_closed, other_growing}
use Rattle.round_engine.proofs.Places.{item_at, map_at, within_of}
use Rattle.round_engine.proofs.Saved.{over_begin, over_end, zero_of}
use Rattle.round_engine.proofs.SharesRun.{logged_nothing, share_lines}
use Rattle.round_engine.proofs.Turned.{TurnsBehind, swap_leaves}
use Rattle.round_engine.proofs.Whole.{below_8}

module _ {D : Type 0} {tells : D → Option (List ℕ)} {clock : D → ℕ} {image_at : D → ℕ → List ℕ → Type 0} where
  -- what a save by the logs' marks counts is durable
  pub stand_saved : (r : RuntimeState) (vault : Vault D) → LogsStand tells clock image_at r.side r.logs r.counted vault
      → AreDurable clock image_at (logs_marks r.logs) (beside_of r) vault
  stand_saved r vault stand = record {
    growing = λ w m bank at there.
        let log = map_at (λ (l : LogState). l.mark) r.logs w m at in
        subst (λ (k : Mark). KeepsCounted clock image_at k.length bank) log.2
        (mark_kept (stand.growing w log.0 bank log.1 there));
    closed = stand.closed;
  }

  -- ---- a round begins

  -- the log of a worker as it begins
  some_idled : (lines : List (List Op)) (epoch : ℕ) {log : LogState} {bank : D} → IsJoined epoch log
      → IsSomeLog tells clock image_at log bank → IsSomeLog tells clock image_at (idled lines log) bank
  some_idled lines epoch joined some = record {
    commits = some.commits;
    durable = some.durable;
    is = idled_log (is_busy lines) epoch some.is joined;
  }

  pub stand_start : (round : Round) (epoch : ℕ) {side : Side} {old start : List LogState} {counted : List ℕ} {vault : Vault D}
      → AllByRecursion (IsJoined epoch) old → length old ≡ 8 → length start ≡ 8
      → ((w : ℕ) (log : LogState) → slice_get old w ≡ Some log
      → slice_get start w ≡ Some (idled (lines_of_worker round w) log))
      → LogsStand tells clock image_at side old counted vault → LogsStand tells clock image_at side start counted vault
  stand_start round epoch {old = old} {start = start} joined many start_many idle stand = record {
    growing = λ w log bank at there.
        let was = item_at old w (omega (arith, below_8 start w log at start_many, many)) in
        let same : idled (lines_of_worker round w) was.0 ≡ log = same_Some _ log (sym (idle w was.0 was.1) ∙ at) in
        subst (λ (l : LogState). IsSomeLog tells clock image_at l bank) same
        (some_idled (lines_of_worker round w) epoch (all_at (IsJoined epoch) old w was.0 joined was.1)
        (stand.growing w was.0 bank was.1 there));
    closed = stand.closed;
  }

-- a commit of the clock's epoch may follow the mark of each worker with lines
pub start_passed : (round : Round) (epoch : ℕ) (old start : List LogState) → 1 ≤ epoch
    → AllByRecursion (IsJoined epoch) old → length old ≡ 8 → length start ≡ 8
    → ((w : ℕ) (log : LogState) → slice_get old w ≡ Some log
    → slice_get start w ≡ Some (idled (lines_of_worker round w) log))
    → (w : ℕ) (log : LogState) → slice_get start w ≡ Some log → (lines_of_worker round w ≡ [] → ⊥)
    → IsPassed epoch log.mark
start_passed round epoch old start first joined many start_many idle w log at some =
    let was = item_at old w (omega (arith, below_8 start w log at start_many, many)) in
    let same : idled (lines_of_worker round w) was.0 ≡ log = same_Some _ log (sym (idle w was.0 was.1) ∙ at) in
    subst (λ (l : LogState). IsPassed epoch l.mark) same
    (idled_passed (lines_of_worker round w) was.0 epoch first (all_at (IsJoined epoch) old w was.0 joined was.1) some)

module _ {D : Type 0} {tells : D → Option (List ℕ)} {clock : D → ℕ} {image_at : D → ℕ → List ℕ → Type 0}
    {faults : D → ℕ} where
  -- ---- its lines

  -- the workers' lines, of which all or some were run
  pub stand_lines : {tries : ℕ} {s t : Standing} {shares : List Share} (side : Side) {start logs : List LogState}
      {counted : List ℕ} (before now : Vault D)
      → RunsOver tells clock image_at faults tries s t shares start logs (growing_in side before) (growing_in side now)
      → length start ≡ 8 → length (growing_in side before) ≡ 8
      → ((w : ℕ) (log : LogState) → slice_get start w ≡ Some log → (logged_in shares w ≡ [] → ⊥)
      → IsPassed s.clock.epoch log.mark)
      → closed_in side now ≡ closed_in side before
      → LogsStand tells clock image_at side start counted before → LogsStand tells clock image_at side logs counted now
  stand_lines {s = s} {t = t} {shares = shares} side {start = start} {logs = logs} before now over many banks_many passed
      closed stand = record {
        growing = λ w log bank at there.
            let below = below_8 logs w log at (over.logs_length ∙ many) in
            let was = item_at start w (omega (arith, below, many)) in
            let bank_was = item_at (growing_in side before) w (omega (arith, below, banks_many)) in
            let one = lines_at w over many was.1 at bank_was.1 (sym (growing_at side now w) ∙ there) in
            some_takes s.clock.epoch t.clock.epoch (logged_in shares w) (shows_takes one.shows) (passed w was.0 was.1)
            (stand.growing w was.0 bank_was.0 was.1 (growing_at side before w ∙ bank_was.1));
        closed = λ w n bank at there. stand.closed w n bank at
            (closed_at side before w ∙ ap (λ l. slice_get l w) (sym closed) ∙ sym (closed_at side now w) ∙ there);
      }

  -- all of them
  pub stand_ran : {tries : ℕ} (round : Round) (r mid : RuntimeState) (worked : Standing) (before between : Vault D)
      {outcomes : List (List Outcome)} {ends : List LogEnd} {marks : List (List Stood)} {readied : List (List Readied)}
      → RunsWorkers tells clock image_at faults tries round r.stands worked outcomes ends marks readied r.logs mid.logs
      (growing_in r.side before) (growing_in r.side between)
      → mid ≡ record r { stands = as_begun r.stands worked; logs = mid.logs }
      → length r.logs ≡ 8 → length (growing_in r.side before) ≡ 8 → ArePassed round r
      → closed_in r.side between ≡ closed_in r.side before
      → LogsStand tells clock image_at r.side r.logs r.counted before
      → LogsStand tells clock image_at mid.side mid.logs mid.counted between
  stand_ran {tries = tries} round r mid worked before between lines alone many banks_many passed closed stand =
      subst (λ (x : RuntimeState). LogsStand tells clock image_at x.side mid.logs x.counted between) (sym alone)
      (stand_lines r.side before between lines.over many banks_many
      (λ w log at any. passed w log at (λ none. any (logged_nothing r.stands.decls r.stands.clock.epoch
      r.stands.clock.draw worked.clock.draw tries lines.shares w lines.over.runs.each
      (λ p p_at. share_lines round lines.shares w p lines.lines p_at ∙ none))))
      closed stand)

  -- those of the maintenance thread
  pub stand_keeper : {seen : List (List Mark)} {lines : List KeeperLine} {said : List Answer} {refusal : Option End}
      {old mid : RuntimeState} {before between : Vault D}
      → RunsKeeper tells clock image_at faults seen lines said refusal old mid before between
      → length old.counted ≡ 8 → LogsStand tells clock image_at old.side old.logs old.counted before
      → LogsStand tells clock image_at mid.side mid.logs mid.counted between
  stand_keeper {said = said} {old = old} {before = before} {between = between} runs many stand = record {
    growing = λ w log bank at there. stand.growing w log bank (ap (λ l. slice_get l w) (sym runs.logs) ∙ at)
        (growing_at old.side before w ∙ ap (λ l. slice_get l w) (sym runs.leaves.over.growing)
        ∙ sym (growing_at old.side between w)
        ∙ ap (λ (x : Side). disk_in between (devices.Bank (growing_number x w))) (sym runs.leaves.side) ∙ there);
    closed = λ w n bank at there.
        let over = over_end said (beside_of old) (over_begin old.side old.counted (length old.store.pages) many) in
        let here : slice_get (closed_in old.side between) w ≡ Some bank = sym (closed_at old.side between w)
        ∙ ap (λ (x : Side). disk_in between (devices.Bank (closed_number x w))) (sym runs.leaves.side) ∙ there in
        elim (over.each w n (ap (λ l. slice_get l w) (sym runs.leaves.counted) ∙ at)) [
          | inl none ↦ subst (λ k. KeepsCounted clock image_at k bank) (sym none) (keeps_nothing bank)
          | inr was ↦
              let file = item_at (closed_in old.side before) w
              (omega (arith, within_of (closed_in old.side between) w bank here, runs.leaves.over.many)) in
              keeps_read (stand.closed w n file.0 was (closed_at old.side before w ∙ file.1))
              (runs.leaves.over.reads w file.0 bank file.1 here).moments
        ];
  }

  -- ---- the join

  -- each log was flushed and marked
  pub stand_flushed : {T : Type 0} (epoch : ℕ) (side : Side) {old logs : List LogState} {counted : List ℕ}
      (before now : Vault D) (flushed : Result T ℕ) (done : T) → flushed ≡ Ok done
      → FlushesAll tells clock image_at faults (epoch + 1) old logs (growing_in side before) (growing_in side now) flushed
      → length old ≡ 8 → length (growing_in side before) ≡ 8 → closed_in side now ≡ closed_in side before
      → LogsStand tells clock image_at side old counted before → LogsStand tells clock image_at side logs counted now
  stand_flushed epoch side {old = old} {logs = logs} before now flushed done said flushes many banks_many closed
      stand = record {
        growing = λ w log bank at there.
            let below = below_8 logs w log at (flushes.as_many_logs ∙ many) in
            let was = item_at old w (omega (arith, below, many)) in
            let bank_was = item_at (growing_in side before) w (omega (arith, below, banks_many)) in
            let marks = flushes.done w (rw said tt) was.0 log bank_was.0 bank was.1 at bank_was.1
            (sym (growing_at side now w) ∙ there) in
            some_goes (epoch + 1 - 1) marks.moves.runs
            (stand.growing w was.0 bank_was.0 was.1 (growing_at side before w ∙ bank_was.1));
        closed = λ w n bank at there. stand.closed w n bank at
            (closed_at side before w ∙ ap (λ l. slice_get l w) (sym closed) ∙ sym (closed_at side now w) ∙ there);
      }

  -- all of its steps
  pub stand_join : {old new : RuntimeState} {before now : Vault D} {result : Result ℕ End}
      → RunsJoin tells clock image_at faults old new before now result → length old.logs ≡ 8
      → length (growing_in old.side before) ≡ 8 → LogsStand tells clock image_at old.side old.logs old.counted before
      → LogsStand tells clock image_at new.side new.logs new.counted now
  stand_join {old = old} {new = new} {before = before} {now = now} runs many banks_many stand =
      let side : new.side ≡ old.side = ap (λ (x : RuntimeState). x.side) runs.alone in
      let counted : new.counted ≡ old.counted = ap (λ (x : RuntimeState). x.counted) runs.alone in
      record {
        growing = λ w log bank at there.
            let below = below_8 new.logs w log at (runs.logs_length ∙ many) in
            let was = item_at old.logs w (omega (arith, below, many)) in
            let bank_was = item_at (growing_in old.side before) w (omega (arith, below, banks_many)) in
            let one = runs.each w was.0 log bank_was.0 bank was.1 at bank_was.1 (sym (growing_at old.side now w)
            ∙ ap (λ (x : Side). disk_in now (devices.Bank (growing_number x w))) (sym side) ∙ there) in
            some_goes old.stands.clock.epoch one.goes
            (stand.growing w was.0 bank_was.0 was.1 (growing_at old.side before w ∙ bank_was.1));
        closed = λ w n bank at there. stand.closed w n bank (ap (λ l. slice_get l w) (sym counted) ∙ at)
            (closed_at old.side before w ∙ ap (λ l. slice_get l w) (sym runs.closed) ∙ sym (closed_at old.side now w)
            ∙ ap (λ (x : Side). disk_in now (devices.Bank (closed_number x w))) (sym side) ∙ there);
      }

-- ---- the swap

module _ {D : Type 0} {tells : D → Option (List ℕ)} {clock : D → ℕ} {image_at : D → ℕ → List ℕ → Type 0}
    {faults : D → ℕ} {epoch : ℕ} {result : Result ℕ End} {joined new : RuntimeState} {between now : Vault D} {end : Option End}
    (turns : TurnsBehind tells clock image_at faults epoch result joined new between now end) (whole : IsWhole between) where
  -- whatever the cuts answered, of the closed log files nothing counted
  pub stand_cut : (turns.tried ≡ true → some_counted joined.counted ≡ false)
      → LogsStand tells clock image_at joined.side joined.logs joined.counted between
      → LogsStand tells clock image_at joined.side joined.logs joined.counted now
  stand_cut none stand =
      let leaves = swap_leaves tells clock image_at faults epoch result joined new between now end turns whole in
      record {
        growing = λ w log bank at there. stand.growing w log bank at
            (growing_at joined.side between w ∙ ap (λ l. slice_get l w) (sym leaves.growing)
            ∙ sym (growing_at joined.side now w) ∙ there);
        closed = λ w n bank at there. elim (cases_Bool turns.tried) [
          | inl tried ↦ subst (λ k. KeepsCounted clock image_at k bank)
              (sym (zero_of joined.counted w n (none tried) at)) (keeps_nothing bank)
          | inr not ↦ stand.closed w n bank at
              (ap (λ (v : Vault D). disk_in v (devices.Bank (closed_number joined.side w))) (sym (turns.left not).1) ∙ there)
        ];
      }

  -- behind the turn nothing is in the growing ones, and the closed ones have what their logs' marks count
  pub stand_turned : AlwaysTells tells → length joined.logs ≡ 8 → turns.tried ≡ true → turns.cut ≡ None
      → LogsStand tells clock image_at joined.side joined.logs joined.counted now
      → LogsStand tells clock image_at (other_side joined.side) (map reset_log joined.logs)
      (map (λ (m : Mark). m.length) (logs_marks joined.logs)) now
  stand_turned always many tried cut stand =
      let at_sequence = sequence_of joined.save.newest in
      let cuts = subst (λ f. CutsBanks tells clock image_at faults at_sequence (closed_numbers joined.side) f between now) cut
      (turns.cuts tried) in
      record {
        growing = λ w log bank at there.
            let l = map_at reset_log joined.logs w log at in
            let below = below_8 joined.logs w l.0 l.1 many in
            let was = item_at (closed_in joined.side between) w (omega (arith, below, closed_many joined.side between whole)) in
            let told = some_there (tells was.0) (always was.0) in
            let empty = banks_empty tells clock image_at faults at_sequence (closed_numbers joined.side) between now cuts
            (closed_number joined.side w) was.0 bank (closed_in_numbers joined.side w below)
            (closed_at joined.side between w ∙ was.1) told.0 told.1
            (ap (λ n. disk_in now (devices.Bank n)) (sym (other_growing joined.side w)) ∙ there) in
            subst (λ (x : LogState). IsSomeLog tells clock image_at x bank) l.2
            (record { commits = []; durable = []; is = log_resets l.0 (λ up. empty) });
        closed = λ w n bank at there.
            let m = map_at (λ (m : Mark). m.length) (logs_marks joined.logs) w n at in
            let log = map_at (λ (l : LogState). l.mark) joined.logs w m.0 m.1 in
            subst (λ k. KeepsCounted clock image_at k bank) (ap (λ (m : Mark). m.length) log.2 ∙ m.2)
            (mark_kept (stand.growing w log.0 bank log.1
            (ap (λ n. disk_in now (devices.Bank n)) (sym (other_closed joined.side w)) ∙ there)));
      }
