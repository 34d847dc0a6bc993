-- What is known of a log whose mark was set, or left alone, as a round began.
use Rattle.std.proofs.Common.{◌≡◌, ◌∙◌, sym, ap, subst, refl, ℕ, zero, suc, ◌-◌, ◌<◌, ◌≤◌, List, [], ◌∷◌, inl, inr}
use Rattle.std.proofs.Common.{length, arith, Option, Some, None, get_or}
use Rattle.std.specs.Prelude.{slice_get}
use Rattle.std.proofs.lemmas.Option.{same_Some}
use Rattle.lists.specs.Elements.{at_below}
use Rattle.serial_model.specs.declared.number.Commit.{Commit}
use Rattle.script_grammar.specs.Script.{Round, lines_of_worker}
use Rattle.log_writer.specs.Journal.{JournalState}
use Rattle.wire_form.specs.declared.clock.Mark.{Mark as LogMark}
use Rattle.tx_script.specs.Run.{LogRefusal}
use Rattle.worker_logs.specs.Logs.{LogState}
use Rattle.worker_logs.specs.Rows.{IsBeforeOne, KeepsMarkIn}
use Rattle.worker_logs.specs.Shown.{Stood}
use Rattle.worker_logs.specs.ShownLaws.{shows_behind, takes_behind}
use Rattle.shared_rounds.specs.First.{AreIdle, MarkedFor}
use Rattle.shared_rounds.specs.Rooms.{AreCounts}
use Rattle.shared_rounds.specs.Workers.{LeavesOut, LeftBy}

-- lists with the same things at each place are one
pub same_lists : {A : Type 0} (xs ys : List A) → ((i : ℕ) → slice_get xs i ≡ slice_get ys i) → xs ≡ ys
same_lists [] [] same = refl
same_lists [] (y ∷ ys) same = absurd (let no = same 0 in cc)
same_lists (x ∷ xs) [] same = absurd (let no = same 0 in cc)
same_lists (x ∷ xs) (y ∷ ys) same =
    ap (λ z. z ∷ xs) (same_Some x y (same 0)) ∙ ap (λ l. y ∷ l) (same_lists xs ys (λ i. same (suc i)))

-- what stands at a place within a list
pub there_at : {X : Type 0} (xs : List X) (i : ℕ) → i < length xs → (x : X) × (slice_get xs i ≡ Some x)
there_at [] i less = absurd (omega (arith, less))
there_at (x ∷ xs) zero less = (x, refl)
there_at (x ∷ xs) (suc i) less = there_at xs i (omega (arith, less))

-- a list of no length has nothing
pub no_items : {X : Type 0} (xs : List X) → length xs ≡ 0 → xs ≡ []
no_items [] none = refl
no_items (x ∷ xs) none = absurd (omega (arith, none))

-- the log of a worker without a line, as these count lines
pub idle_first : (round : Round) (counts : List ℕ) (logs : List LogState) (worker : ℕ) (log : LogState)
    → AreCounts round counts → length logs ≡ 8 → AreIdle round logs → slice_get logs worker ≡ Some log
    → get_or counts worker 0 ≡ 0 → log.mark.epoch ≡ None
idle_first round counts logs worker log counted eight idle at none =
    let small : worker < 8 = omega (arith, at_below logs worker log at, eight) in
    idle worker log at (no_items (lines_of_worker round worker) (sym (counted.each worker small) ∙ none))

module _ {D : Type 0} (tells : D → Option (List ℕ)) (clock : D → ℕ) (image_at : D → ℕ → List ℕ → Type 0)
    (faults : D → ℕ) where
  -- the same, at an equal epoch
  pub marked_at : (lines epoch later : ℕ) (old new : LogState) (bank : D) → epoch ≡ later
      → MarkedFor tells clock image_at faults lines epoch old new bank
      → MarkedFor tells clock image_at faults lines later old new bank
  marked_at lines epoch later old new bank same is =
      subst (λ n. MarkedFor tells clock image_at faults lines n old new bank) same is

  -- with lines the mark is of the epoch before
  pub named_by : (lines epoch : ℕ) (old new : LogState) (bank : D)
      → MarkedFor tells clock image_at faults lines epoch old new bank → (lines ≡ 0 → ⊥)
      → new.mark.epoch ≡ Some (epoch - 1)
  named_by zero epoch old new bank is some = absurd (some refl)
  named_by (suc n) epoch old new bank is some = is.named

  -- without one it is idle
  pub idle_by : (lines epoch : ℕ) (old new : LogState) (bank : D)
      → MarkedFor tells clock image_at faults lines epoch old new bank → lines ≡ 0 → new.mark.epoch ≡ None
  idle_by zero epoch old new bank is none = is.1
  idle_by (suc n) epoch old new bank is none = absurd (omega (arith, none))

  -- and the log is as it was
  pub same_by : (lines epoch : ℕ) (old new : LogState) (bank : D)
      → MarkedFor tells clock image_at faults lines epoch old new bank → lines ≡ 0 → new ≡ old
  same_by zero epoch old new bank is none = is.0
  same_by (suc n) epoch old new bank is none = absurd (omega (arith, none))

  -- its journal is in any case
  pub journal_by : (lines epoch : ℕ) (old new : LogState) (bank : D)
      → MarkedFor tells clock image_at faults lines epoch old new bank → new.journal ≡ old.journal
  journal_by zero epoch old new bank is = ap (λ (l : LogState). l.journal) is.0
  journal_by (suc n) epoch old new bank is = is.journal

module _ {D : Type 0} {tells : D → Option (List ℕ)} {clock : D → ℕ} {image_at : D → ℕ → List ℕ → Type 0}
    {faults : D → ℕ} where
  -- What a worker's lines left of its log, by the log as the round began, whose mark was set anew or left alone.
  pub left_by_first : (low high lines : ℕ) {logged : List Commit} {marks : List Stood} {refusal : Option LogRefusal}
      {first old new : LogState} {before now : D} → 1 ≤ low → low ≤ high
      → MarkedFor tells clock image_at faults lines low first old before
      → LeftBy tells clock image_at faults low high logged marks refusal old new before now
      → LeftBy tells clock image_at faults low high logged marks refusal first new before now
  left_by_first low high zero {logged = logged} {marks = marks} {refusal = refusal} {new = new} {before = before}
      {now = now} some up is by =
      subst (λ l. LeftBy tells clock image_at faults low high logged marks refusal l new before now) is.0 by
  left_by_first low high (suc n) {first = first} {old = old} {new = new} some up is by = record {
    shows = shows_behind some up is.moves.runs by.shows;
    first = by.first;
    below = by.below;
    takes = takes_behind some up is.moves.runs by.takes;
    longer = (let more = by.longer in let stays = is.moves.end in omega (arith, more, stays));
    mark = by_mark by.mark;
    blames = by.blames;
    reaches = by.reaches;
    limit = by.limit ∙ ap (λ (j : JournalState). j.limit) is.journal;
    refused = by.refused;
    failed = by.failed;
  }
    where
      by_mark : KeepsMarkIn low high old new → KeepsMarkIn low high first new
      by_mark (inl same) = inr (subst (IsBeforeOne low high) (sym (ap (λ (m : LogMark). m.epoch) same ∙ is.named))
          (omega arith, omega (arith, up)))
      by_mark (inr set) = inr set

  -- and what was left out of them
  pub out_first : (low lines : ℕ) {SomeLeft : Type 0} {logged : List Commit} {refusal : Option LogRefusal}
      {first old : LogState} {before : D} → 1 ≤ low → MarkedFor tells clock image_at faults lines low first old before
      → LeavesOut tells clock image_at faults low SomeLeft logged refusal old before
      → LeavesOut tells clock image_at faults low SomeLeft logged refusal first before
  out_first low zero {SomeLeft = SomeLeft} {logged = logged} {refusal = refusal} {before = before} some is out =
      subst (λ l. LeavesOut tells clock image_at faults low SomeLeft logged refusal l before) is.0 out
  out_first low (suc n) some is out = record {
    refuses = λ any. let r = out.refuses any in record {
      high = r.high;
      later = r.later;
      found = r.found;
      at = r.at;
      takes = takes_behind some r.later is.moves.runs r.takes;
      longer = (let more = r.longer in let stays = is.moves.end in omega (arith, more, stays));
      limit = r.limit ∙ ap (λ (j : JournalState). j.limit) is.journal;
      up = r.up;
      fault = r.fault;
      epoch = r.epoch;
      left = r.left;
      behind = r.behind;
      call = r.call;
      full = r.full;
    };
    filled = out.filled;
  }
