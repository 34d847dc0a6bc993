-- What is known of a worker's log through its calls, as laws for those who make them.
use Rattle.std.proofs.Common.{◌≡◌, ◌++◌, ◌∷◌, ℕ, List, [], Option, Some, None, length}
use Rattle.std.proofs.Common.{append_assoc, refl, sym, ◌∙◌, ap, subst, arith}
use Rattle.std.specs.List.{AllByRecursion}
use Rattle.std.proofs.lemmas.List.{append-nil}
use Rattle.lists.specs.Fronts.{front_none}
use Rattle.outside.specs.Growth.{grows_none}
use Rattle.serial_model.specs.declared.number.Commit.{Commit}
use Rattle.wire_form.specs.LogFile.{lines_bytes}
use Rattle.wire_form.specs.LogLine.{line_bytes}
use Rattle.wire_form.specs.declared.clock.Mark.{Mark}
use Rattle.log_writer.specs.Counted.{KeepsCounted, keeps_durable}
use Rattle.joint_crashes.specs.Marks.{Marks}
use Rattle.joint_crashes.specs.Crashes.Marking.{lines_more, mark_put, mark_set}
use Rattle.worker_logs.specs.Logs.{LogState, idle_log, reset_log, MarkSays, IsMarkOf}
use Rattle.worker_logs.specs.Logs.{IsEpochPassed, IsPassed}
use Rattle.worker_logs.specs.Logs.{IsLog, IsSomeLog, LogGoesOn, LogRan}

-- ---- marks

-- of no commit a mark says what it counts, which is nothing
says_none : (marked : Option ℕ) → MarkSays [] 0 marked
says_none None = λ epoch. mark_set [] epoch
says_none (Some epoch) = mark_set [] epoch

-- a mark that a commit may follow says of it what it said before
says_put : (commits : List Commit) (c : Commit) (marked : Option ℕ) (size : ℕ) → MarkSays commits size marked
    → IsEpochPassed c.number.epoch marked → MarkSays (commits ++ c ∷ []) size marked
says_put commits c None size says passed = absurd passed
says_put commits c (Some epoch) size says passed = mark_put commits epoch size c says passed

mark_put_behind : (commits : List Commit) (durable : List ℕ) (c : Commit) (m : Mark) → IsMarkOf commits durable m
    → IsPassed c.number.epoch m → IsMarkOf (commits ++ c ∷ []) durable m
mark_put_behind commits durable c m is passed = record {
  says = says_put commits c m.epoch m.length is.says passed;
  within = is.within;
}

marks_put_behind : (commits : List Commit) (durable : List ℕ) (c : Commit) (marks : List Mark)
    → AllByRecursion (IsMarkOf commits durable) marks → AllByRecursion (IsPassed c.number.epoch) marks
    → AllByRecursion (IsMarkOf (commits ++ c ∷ []) durable) marks
marks_put_behind commits durable c [] had passed = tt
marks_put_behind commits durable c (m ∷ ms) had passed = (
  mark_put_behind commits durable c m had.0 passed.0,
  marks_put_behind commits durable c ms had.1 passed.1,
)

-- the last of some marks is one of them
last_is : (P : Mark → Type 0) (marks earlier : List Mark) (m : Mark) → marks ≡ earlier ++ m ∷ []
    → AllByRecursion P marks → P m
last_is P marks earlier m is all = at_end earlier (subst (AllByRecursion P) is all)
  where
    at_end : (front : List Mark) → AllByRecursion P (front ++ m ∷ []) → P m
    at_end [] all = all.0
    at_end (x ∷ xs) all = at_end xs all.1

-- ---- a log

module _ {D : Type 0} {tells : D → Option (List ℕ)} {clock : D → ℕ} {image_at : D → ℕ → List ℕ → Type 0} where
  -- nothing was called since now
  pub log_begins : {commits : List Commit} {durable : List ℕ} {log : LogState} {bank : D}
      → IsLog tells clock image_at commits durable log bank
      → LogRan tells clock image_at commits durable durable (log.mark ∷ []) bank bank log
  log_begins is = record {
    grows = grows_none is.journal_of.durable.begins;
    journal_of = is.journal_of;
    lines = is.lines;
    had = (is.mark, tt);
    last = ([], refl);
  }

  -- what ran is a log
  pub log_of : {commits : List Commit} {was durable : List ℕ} {marks : List Mark} {first bank : D} {log : LogState}
      → LogRan tells clock image_at commits was durable marks first bank log
      → IsLog tells clock image_at commits durable log bank
  log_of {commits = commits} {durable = durable} {marks = marks} {log = log} ran = record {
    journal_of = ran.journal_of;
    lines = ran.lines;
    mark = last_is (IsMarkOf commits durable) marks ran.last.0 log.mark ran.last.1 ran.had;
  }

  -- A commit is put behind those that wait, which each mark allows.
  pub log_put : {commits : List Commit} {was durable : List ℕ} {marks : List Mark} {first bank : D}
      {old new : LogState} (c : Commit)
      → LogRan tells clock image_at commits was durable marks first bank old
      → new.journal.lines ≡ old.journal.lines ++ line_bytes c → new.journal.durable ≡ old.journal.durable
      → new.journal.down ≡ old.journal.down → new.mark ≡ old.mark
      → AllByRecursion (IsPassed c.number.epoch) marks
      → LogRan tells clock image_at (commits ++ c ∷ []) was durable marks first bank new
  log_put {commits = commits} {durable = durable} {marks = marks} {old = old} c ran lines size down mark
      passed = record {
        grows = ran.grows;
        journal_of = record {
          durable = record {
            size = ran.journal_of.durable.size ∙ sym size;
            begins = ran.journal_of.durable.begins;
          };
          told = λ up. ran.journal_of.told (sym down ∙ up);
        };
        lines = lines_more commits (c ∷ []) ∙ ap (λ l. l ++ lines_bytes (c ∷ [])) ran.lines
            ∙ ap (λ l. durable ++ old.journal.lines ++ l) (append-nil (line_bytes c))
            ∙ append_assoc durable old.journal.lines (line_bytes c) ∙ ap (λ l. durable ++ l) (sym lines);
        had = marks_put_behind commits durable c marks ran.had passed;
        last = (ran.last.0, ran.last.1 ∙ ap (λ m. ran.last.0 ++ m ∷ []) (sym mark));
      }

  -- The log of a log file that is empty, as far as it tells, has no commit, whatever its mark's epoch is.
  pub log_resets : (log : LogState) {bank : D} → (log.journal.down ≡ None → tells bank ≡ Some [])
      → IsLog tells clock image_at [] [] (reset_log log) bank
  log_resets log empty = record {
    journal_of = record {
      durable = record { size = refl; begins = λ content image. front_none content };
      told = empty;
    };
    lines = refl;
    mark = record { says = says_none log.mark.epoch; within = omega arith };
  }

  -- A log whose mark counts all that is durable, as no line waits, may be set idle.
  pub log_idles : {commits : List Commit} {durable : List ℕ} {log : LogState} {bank : D}
      → IsLog tells clock image_at commits durable log bank → log.journal.lines ≡ []
      → log.mark.length ≡ log.journal.durable
      → IsLog tells clock image_at commits durable (idle_log log) bank
  log_idles {commits = commits} {durable = durable} {log = log} is none counts =
      let whole : lines_bytes commits ≡ durable = is.lines ∙ ap (λ l. durable ++ l) none ∙ append-nil durable in
      let size : length (lines_bytes commits) ≡ log.mark.length =
      ap length whole ∙ is.journal_of.durable.size ∙ sym counts in
      record {
        journal_of = is.journal_of;
        lines = is.lines;
        mark = record {
          says = λ epoch. subst (λ k. Marks commits epoch k) size (mark_set commits epoch);
          within = is.mark.within;
        };
      }

  -- ---- the log of some commits

  -- What its mark counts is durable.
  pub mark_kept : {log : LogState} {bank : D} → IsSomeLog tells clock image_at log bank
      → KeepsCounted clock image_at log.mark.length bank
  mark_kept {log = log} some =
      keeps_durable log.mark.length some.is.journal_of.durable
      (omega (arith, some.is.mark.within, some.is.journal_of.durable.size))

  -- So it is behind a call that adds no commit.
  pub some_goes : (epoch : ℕ) {old new : LogState} {before now : D} → LogGoesOn tells clock image_at epoch old new before now
      → IsSomeLog tells clock image_at old before → IsSomeLog tells clock image_at new now
  some_goes epoch {old = old} {before = before} goes some =
      let went = goes some.commits some.durable some.durable (old.mark ∷ []) before (log_begins some.is) in
      record { commits = some.commits; durable = went.durable; is = log_of went.ran }
