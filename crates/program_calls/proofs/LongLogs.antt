-- How long the growing log files are with what waits, by what their workers logged since the swap: also where no device
-- tells its bytes.
use Rattle.std.proofs.Common.{◌≡◌, ◌∙◌, ◌≤◌, ◌<◌, ◌+◌, sym, ap, subst, refl, inl, inr, ℕ, cond, arith}
use Rattle.std.proofs.Common.{List, [], ◌∷◌, ◌++◌, Option, Some, append_assoc, length, length-append, suc, zero}
use mathlib.Core.Path.{fun_ext}
use Rattle.std.specs.Prelude.{filter, map, replicate, slice_get}
use Rattle.std.specs.List.{AllByRecursion}
use Rattle.std.proofs.lemmas.Bool.{cases_Bool}
use Rattle.std.proofs.lemmas.Grind.{flat_map-append}
use Rattle.std.proofs.lemmas.List.{append-nil}
use Rattle.std.proofs.lemmas.Option.{same_Some}
use Rattle.lists.specs.Each.{all_append, all_weaker}
use Rattle.log_writer.specs.Journal.{end_of as file_end}
use Rattle.log_writer.specs.declared.vault.Vault.{Vault}
use Rattle.serial_model.specs.History.{Entry, state_after_all}
use Rattle.serial_model.specs.State.{State}
use Rattle.serial_model.specs.declared.decl.Decl.{Decl}
use Rattle.serial_model.specs.declared.number.Commit.{Commit}
use Rattle.serial_model.specs.declared.number.Number.{Number}
use Rattle.script_grammar.specs.Script.{Round}
use Rattle.wire_form.specs.LogFile.{IsLineOf, lines_bytes}
use Rattle.wire_form.specs.LogLine.{line_bytes}
use Rattle.wire_form.specs.declared.clock.Mark.{Mark}
use Rattle.log_mapper.specs.Mapped.{is_after}
use Rattle.tx_script.specs.Run.{LogFiles, LogFull}
use Rattle.worker_logs.specs.Logs.{LogState, fresh_log, reset_log}
use Rattle.worker_logs.specs.Saves.{logs_marks}
use Rattle.round_engine.specs.Changes.{AreLogged}
use Rattle.round_engine.specs.Ends.{swaps}
use Rattle.round_engine.specs.RanRound.{LeavesVault, RanRound}
use Rattle.round_engine.specs.Saves.{beside_at_end}
use Rattle.round_engine.specs.Standing.{RuntimeState, StandsOn, beside_of}
use Rattle.round_engine.specs.declared.report.Report.{Report}
use Rattle.program_calls.specs.Beginning.{SameDecls}
use Rattle.program_calls.specs.RanOver.{FilesAt}
use Rattle.program_calls.specs.RoundCauses.{AreFull, is_since}
use Rattle.program_calls.proofs.KeptFiles.{item_at}
use Rattle.program_calls.proofs.KeptLogged.{LoggedIn, logged_more, logged_turned}
use Rattle.program_calls.proofs.KeptOver.{ClosesOf, below_length, here_between, log_of_parts}
use Rattle.program_calls.proofs.KeptParts.{commits_all}
use Rattle.program_calls.proofs.KeptRounds.{advances_later}
use Rattle.program_calls.proofs.RoundCommits.{of_round}
use Rattle.program_calls.proofs.SinceSwap.{logs_before, since_closed}

-- What the workers logged of these commits, in parts. Each growing log file, with what waits, has the bytes of the last
-- part's lines; and the last part is what was logged since the swap.
pub record LongSoFar (decls : List Decl) (s : State) (ordered : List Entry) (r : RuntimeState) : Type 0 where
  pub since : ℕ
  pub older : ℕ → List Commit
  pub gone : ℕ → List Commit
  pub commits : ℕ → List Commit
  pub it : LoggedIn decls s ordered since r.closed_at older gone commits
  pub by : (w : ℕ) → w < 8 → AllByRecursion (λ c. c.number.epoch ≤ r.stands.clock.epoch) (commits w)
  pub here : (w : ℕ) (log : LogState) → w < 8 → slice_get r.logs w ≡ Some log
      → file_end log.journal ≡ length (lines_bytes (commits w))

-- the lines of two lists are those of both
lines_both : (a b : List Commit) → length (lines_bytes (a ++ b)) ≡ length (lines_bytes a) + length (lines_bytes b)
lines_both a b = ap length (flat_map-append line_bytes a b) ∙ length-append (lines_bytes a) (lines_bytes b)

-- what counts by a log's mark
mark_counts : (logs : List LogState) (w size : ℕ) (log : LogState)
    → slice_get (map (λ (m : Mark). m.length) (logs_marks logs)) w ≡ Some size → slice_get logs w ≡ Some log
    → size ≡ log.mark.length
mark_counts [] w size log at there = absurd cc
mark_counts (l ∷ logs) zero size log at there = sym (same_Some l.mark.length size at)
    ∙ ap (λ (x : LogState). x.mark.length) (same_Some l log there)
mark_counts (l ∷ logs) (suc w) size log at there = mark_counts logs w size log at there

-- an empty log has no bytes
pub fresh_end : (n w epoch : ℕ) (log : LogState) → slice_get (replicate n (fresh_log epoch)) w ≡ Some log
    → file_end log.journal ≡ 0
fresh_end zero w epoch log at = absurd cc
fresh_end (suc n) zero epoch log at =
    ap (λ (x : LogState). file_end x.journal) (sym (same_Some (fresh_log epoch) log at))
fresh_end (suc n) (suc w) epoch log at = fresh_end n w epoch log at

-- as a run begins nothing was logged
pub long_begins : (decls : List Decl) (s : State) (r : RuntimeState)
    → ((w : ℕ) (log : LogState) → w < 8 → slice_get r.logs w ≡ Some log → file_end log.journal ≡ 0)
    → LongSoFar decls s [] r
long_begins decls s r empty = record {
  since = r.closed_at;
  older = λ w. [];
  gone = λ w. [];
  commits = λ w. [];
  it = record {
    is_logged = λ w below. refl;
    lines_gone = λ w below. tt;
    lines_here = λ w below. tt;
    older_by = λ w below. tt;
    gone_from = λ w below. tt;
    gone_by = λ w below. tt;
    here_from = λ w below. tt;
    workers = tt;
    since_by = omega arith;
  };
  by = λ w below. tt;
  here = empty;
}

module _ {D : Type 0} {tells : D → Option (List ℕ)} {clock : D → ℕ} {image_at : D → ℕ → List ℕ → Type 0} {faults : D → ℕ}
    {decls : List Decl} {s : State} {ordered : List Entry} {tries : ℕ} {round : Round} {old new : RuntimeState}
    {before now : Vault D} {report : Report} (long : LongSoFar decls s ordered old)
    (stands : StandsOn tells clock image_at old before) (decls_are : old.stands.decls ≡ decls)
    (state_is : old.stands.state ≡ state_after_all decls s ordered) (one : RanRound tries round old new report)
    (leaves : LeavesVault tells clock image_at faults one.ran one.logged old new before now) (index : ℕ) where
  abbrev run_ordered : List Entry
  run_ordered = (one.lines.run index).ordered

  abbrev here_then : ℕ → List Commit
  here_then w = long.commits w ++ one.logged w

  own : (w : ℕ) → w < 8 → AreLogged decls w (state_after_all decls s ordered) run_ordered (one.logged w)
  own w under = subst (λ (t : State). AreLogged decls w t run_ordered (one.logged w)) state_is
      (subst (λ ds. AreLogged ds w old.stands.state run_ordered (one.logged w)) decls_are
      (one.lines.logged_are index w under))

  -- the parts with those of the round
  pub parts_then : LoggedIn decls s (ordered ++ run_ordered) long.since old.closed_at long.older long.gone here_then
  parts_then =
      let of = of_round (one.lines.run index) in
      let later = all_weaker (λ (e : Entry). old.stands.clock.epoch ≤ e.number.epoch)
      (λ (e : Entry). old.closed_at < e.number.epoch)
      (λ e from. (let past = stands.closed.before in omega (arith, from, past))) run_ordered of.later in
      logged_more long.it run_ordered one.logged own
      (λ w under. subst (λ ds. AllByRecursion (IsLineOf ds) (one.logged w)) decls_are (one.lines.lines_are w under))
      (λ w under. commits_all (λ n. old.closed_at < n.epoch) decls w (state_after_all decls s ordered) run_ordered
      (one.logged w) (own w under) later) of.workers

  -- what the round logged is of epochs from the clock's on
  pub long_later : (w : ℕ) → w < 8 → AllByRecursion (λ c. old.stands.clock.epoch ≤ c.number.epoch) (one.logged w)
  long_later w below = commits_all (λ n. old.stands.clock.epoch ≤ n.epoch) decls w (state_after_all decls s ordered)
      run_ordered (one.logged w) (own w below) (of_round (one.lines.run index)).later

  -- before the swap each growing log file has the bytes of its lines
  long_before : (w : ℕ) (log : LogState) → w < 8 → slice_get leaves.logs w ≡ Some log
      → file_end log.journal ≡ length (lines_bytes (here_then w))
  long_before w log below at =
      let was = item_at old.logs w (let many = stands.workers in omega (arith, many, below)) in
      let more = leaves.longer w was.0 log was.1 at in
      let first = long.here w was.0 below was.1 in
      omega (arith, more, first, lines_both (long.commits w) (one.logged w))

  eight : length leaves.logs ≡ 8
  eight = logs_before leaves.logs new.logs (swaps one.ran) leaves.files.logs_are leaves.stands.workers

  -- A log file that was told full is as long as its worker's lines.
  pub long_full : (given : List Decl) → SameDecls given decls → AreFull given s (ordered ++ run_ordered) one.ran
  long_full given same worker size below at =
      let log = item_at leaves.logs worker (omega (arith, eight, below)) in
      let refused = leaves.refused worker log.0 (Some (LogFull size)) log.1 at in
      let closed : one.ran.beside.files.closed_at ≡ old.closed_at = ap (λ (f : LogFiles). f.closed_at) one.begins.files in
      let all : List Commit = long.older worker ++ (long.gone worker ++ here_then worker) in
      let lines : filter (is_since one.ran.beside.files.closed_at) all ≡ here_then worker =
      ap (λ n. filter (is_since n) all) closed ∙ since_closed parts_then worker below in (
        decls,
        same,
        all,
        parts_then.is_logged worker below,
        refused.0 ∙ long_before worker log.0 below log.1 ∙ sym (ap (λ cs. length (lines_bytes cs)) lines),
      )

  -- all commits of the growing ones are up to the round's last epoch
  by_then : (w : ℕ) → w < 8 → AllByRecursion (λ c. c.number.epoch ≤ one.ran.printed.end.epoch) (here_then w)
  by_then w below =
      let run = one.lines.run index in
      let begins : one.ran.printed.begin.epoch ≡ old.stands.clock.epoch = ap (λ (n : Number). n.epoch) run.clocks.0 in
      let up : old.stands.clock.epoch ≤ one.ran.printed.end.epoch =
      (let later = advances_later one.ran.printed.begin.epoch one.ran.printed.answers one.ran.printed.end.epoch
      run.clocks.1.epoch in omega (arith, begins, later)) in
      all_append (λ (c : Commit). c.number.epoch ≤ one.ran.printed.end.epoch) (long.commits w) (one.logged w)
      (all_weaker (λ (c : Commit). c.number.epoch ≤ old.stands.clock.epoch)
      (λ (c : Commit). c.number.epoch ≤ one.ran.printed.end.epoch) (λ c at. omega (arith, at, up)) (long.commits w)
      (long.by w below))
      (commits_all (λ n. n.epoch ≤ one.ran.printed.end.epoch) decls w (state_after_all decls s ordered) run_ordered
      (one.logged w) (own w below) (of_round run).earlier)

  -- What a swap closes counts the lines of the log files that grew.
  pub long_closes : (f : FilesAt) → f.files.closed_at ≡ old.closed_at → (made : List (List ℕ))
      → ClosesOf (log_of_parts long.older long.gone here_then) f one.ran made new.counted
  long_closes f at made is =
      let many = leaves.stands.closed.workers in
      let counted_is : new.counted ≡ map (λ (m : Mark). m.length) (logs_marks leaves.logs) =
      leaves.files.counted ∙ ap (λ b. cond b (map (λ (m : Mark). m.length) (logs_marks leaves.logs))
      (beside_at_end (beside_of old) one.ran.printed.answers).closed) is in
      record {
        workers = many;
        each = λ w size there.
            let below : w < 8 = (let within = below_length new.counted w size there in omega (arith, many, within)) in
            let log = item_at leaves.logs w (omega (arith, eight, below)) in
            mark_counts leaves.logs w size log.0 (ap (λ l. slice_get l w) (sym counted_is) ∙ there) log.1
            ∙ leaves.marked is w log.0 log.1 ∙ long_before w log.0 below log.1
            ∙ ap (λ cs. length (lines_bytes cs)) (sym (ap (λ n. filter (is_after n one.ran.printed.end.epoch)
            (log_of_parts long.older long.gone here_then w)) at
            ∙ here_between parts_then w below one.ran.printed.end.epoch (by_then w below)));
      }

  -- What is logged so far behind the round, where the clock doesn't stand before its last epoch: the same, in other
  -- parts where the files were swapped.
  pub long_more : one.ran.printed.end.epoch ≤ new.stands.clock.epoch
      → (n : LongSoFar decls s (ordered ++ run_ordered) new)
      × (log_of_parts long.older long.gone here_then ≡ log_of_parts n.older n.gone n.commits)
  long_more later = elim (cases_Bool (swaps one.ran)) [
    | inl is ↦
        let closed_at : new.closed_at ≡ one.ran.printed.end.epoch =
        leaves.files.closed_at ∙ ap (λ b. cond b one.ran.printed.end.epoch old.closed_at) is in
        let logs_are : new.logs ≡ map reset_log leaves.logs =
        leaves.files.logs_are ∙ ap (λ b. cond b (map reset_log leaves.logs) leaves.logs) is in
        let after : old.closed_at ≤ one.ran.printed.end.epoch =
        (let past = stands.closed.before in let up = ends_later in omega (arith, past, up)) in (
          record {
            since = old.closed_at;
            older = λ w. long.older w ++ long.gone w;
            gone = here_then;
            commits = λ w. [];
            it = subst (λ e. LoggedIn decls s (ordered ++ run_ordered) old.closed_at e
                (λ w. long.older w ++ long.gone w) here_then (λ w. [])) (sym closed_at)
                (logged_turned parts_then one.ran.printed.end.epoch after by_then);
            by = λ w below. tt;
            here = λ w log below at. reset_end leaves.logs new.logs w log logs_are at;
          },
          fun_ext (λ w. ap (λ l. long.older w ++ (long.gone w ++ l)) (sym (append-nil (here_then w)))
              ∙ sym (append_assoc (long.older w) (long.gone w) (here_then w ++ []))),
        )
    | inr is ↦
        let closed_at : new.closed_at ≡ old.closed_at =
        leaves.files.closed_at ∙ ap (λ b. cond b one.ran.printed.end.epoch old.closed_at) is in
        let logs_are : new.logs ≡ leaves.logs =
        leaves.files.logs_are ∙ ap (λ b. cond b (map reset_log leaves.logs) leaves.logs) is in (
          record {
            since = long.since;
            older = long.older;
            gone = long.gone;
            commits = here_then;
            it = subst (λ e. LoggedIn decls s (ordered ++ run_ordered) long.since e long.older long.gone here_then)
                (sym closed_at) parts_then;
            by = λ w below. all_weaker (λ (c : Commit). c.number.epoch ≤ one.ran.printed.end.epoch)
                (λ (c : Commit). c.number.epoch ≤ new.stands.clock.epoch) (λ c at. omega (arith, at, later))
                (here_then w) (by_then w below);
            here = λ w log below at. long_before w log below (ap (λ l. slice_get l w) (sym logs_are) ∙ at);
          },
          refl,
        )
  ]
    where
      ends_later : old.stands.clock.epoch ≤ one.ran.printed.end.epoch
      ends_later =
          let run = one.lines.run index in
          let begins : one.ran.printed.begin.epoch ≡ old.stands.clock.epoch =
          ap (λ (n : Number). n.epoch) run.clocks.0 in
          let on = advances_later one.ran.printed.begin.epoch one.ran.printed.answers one.ran.printed.end.epoch
          run.clocks.1.epoch in omega (arith, begins, on)

      -- an empty log file has no bytes
      reset_at : (logs : List LogState) (w : ℕ) (log : LogState) → slice_get (map reset_log logs) w ≡ Some log
          → file_end log.journal ≡ 0
      reset_at [] w log at = absurd cc
      reset_at (l ∷ logs) zero log at = ap (λ (x : LogState). file_end x.journal) (sym (same_Some (reset_log l) log at))
      reset_at (l ∷ logs) (suc w) log at = reset_at logs w log at

      reset_end : (logs made : List LogState) (w : ℕ) (log : LogState) → made ≡ map reset_log logs
          → slice_get made w ≡ Some log → file_end log.journal ≡ 0
      reset_end logs made w log are at = reset_at logs w log (ap (λ l. slice_get l w) (sym are) ∙ at)
