-- What the calls of a log's journal make of the log.
use Rattle.std.specs.Prelude.{◌⊎◌, Result, Ok, Err, OnOk}
use Rattle.std.proofs.Common.{◌≡◌, ◌≤◌, ◌++◌, ◌∷◌, inl, inr, ℕ, List, [], Option, Some, None, length}
use Rattle.std.proofs.Common.{append_assoc, refl, sym, ◌∙◌, ap, ap₂, subst, arith}
use Rattle.std.specs.List.{AllByRecursion}
use Rattle.std.proofs.lemmas.List.{append-nil}
use Rattle.lists.specs.Each.{all_append, all_push, all_weaker}
use Rattle.lists.specs.Fronts.{front_length}
use Rattle.outside.specs.Faults.{Rose}
use Rattle.outside.specs.Growth.{Grows, grows_then}
use Rattle.serial_model.specs.declared.number.Commit.{Commit}
use Rattle.wire_form.specs.LogFile.{lines_bytes}
use Rattle.wire_form.specs.declared.clock.Mark.{Mark}
use Rattle.log_writer.specs.Flushes.{Flushes}
use Rattle.log_writer.specs.Growing.{IsJournalOf, flush_grows, flush_fails}
use Rattle.log_writer.specs.Journal.{JournalState, Reaches, IsFlushed, Wrote}
use Rattle.log_writer.specs.declared.journal.LogFault.{LogFault}
use Rattle.log_writer.specs.declared.journal.LogFault.TheVariants.{Device, Down}
use Rattle.joint_crashes.specs.Marks.{Marks}
use Rattle.joint_crashes.specs.Crashes.Marking.{mark_set}
use Rattle.worker_logs.specs.Logs.{LogState, IsMarkOf, LogRan, LogWent}
use Rattle.worker_logs.specs.Moves.{MovesLog, refusal}

-- ---- marks

-- marks of durable bytes are marks of more of them
marks_more : (commits : List Commit) (durable made : List ℕ) (marks : List Mark) → length durable ≤ length made
    → AllByRecursion (IsMarkOf commits durable) marks → AllByRecursion (IsMarkOf commits made) marks
marks_more commits durable made marks longer had =
    all_weaker (IsMarkOf commits durable) (IsMarkOf commits made)
    (λ m is. record { says = is.says; within = omega (arith, is.within, longer) }) marks had

-- a mark that is set as no line waits
mark_made : (commits : List Commit) (made : List ℕ) (epoch size : ℕ) (m : Mark) → lines_bytes commits ≡ made
    → length made ≡ size → m ≡ record { length = size; epoch = Some epoch } → IsMarkOf commits made m
mark_made commits made epoch size m whole long is = subst (IsMarkOf commits made) (sym is) (record {
  says = subst (λ k. Marks commits epoch k) (ap length whole ∙ long) (mark_set commits epoch);
  within = omega (arith, long);
})

-- a mark by its parts
abbrev pub mark_at : ℕ → ℕ → Mark
mark_at size epoch = record { length = size; epoch = Some epoch }

-- ---- what runs goes on

module _ {D : Type 0} {tells : D → Option (List ℕ)} {clock : D → ℕ} {image_at : D → ℕ → List ℕ → Type 0}
    {commits : List Commit} {was durable : List ℕ} {marks : List Mark} {first before now : D}
    {old new : LogState} where
  -- with more durable bytes, and no mark
  goes_on : (made : List ℕ) → LogRan tells clock image_at commits was durable marks first before old
      → Grows clock image_at before now durable made → IsJournalOf tells clock image_at made new.journal now
      → durable ++ old.journal.lines ≡ made ++ new.journal.lines → new.mark ≡ old.mark
      → LogRan tells clock image_at commits was made marks first now new
  goes_on made ran grown held same mark = record {
    grows = grows_then ran.grows grown;
    journal_of = held;
    lines = ran.lines ∙ same;
    had = marks_more commits durable made marks (front_length durable made grown.more) ran.had;
    last = (ran.last.0, ran.last.1 ∙ ap (λ m. ran.last.0 ++ m ∷ []) (sym mark));
  }

  -- with a mark of all that is durable, as no line waits
  goes_marked : (made : List ℕ) (epoch : ℕ) → LogRan tells clock image_at commits was durable marks first before old
      → Grows clock image_at before now durable made → IsJournalOf tells clock image_at made new.journal now
      → durable ++ old.journal.lines ≡ made ++ new.journal.lines → new.journal.lines ≡ []
      → new.mark ≡ record { length = new.journal.durable; epoch = Some epoch }
      → LogRan tells clock image_at commits was made (marks ++ new.mark ∷ []) first now new
  goes_marked made epoch ran grown held same none mark =
      let whole : lines_bytes commits ≡ made = ran.lines ∙ same ∙ ap (λ l. made ++ l) none ∙ append-nil made in
      record {
        grows = grows_then ran.grows grown;
        journal_of = held;
        lines = ran.lines ∙ same;
        had = all_push (IsMarkOf commits made) marks new.mark
            (marks_more commits durable made marks (front_length durable made grown.more) ran.had)
            (mark_made commits made epoch new.journal.durable new.mark whole held.durable.size mark);
        last = (marks, refl);
      }

-- ---- moves

-- a log by its parts
abbrev pub log_at : JournalState → Mark → LogState
log_at journal mark = record { journal = journal; mark = mark }

module _ {D : Type 0} {tells : D → Option (List ℕ)} {clock : D → ℕ} {image_at : D → ℕ → List ℕ → Type 0} where
  -- nothing was set
  went_unmarked : {commits : List Commit} {was : List ℕ} {marks : List Mark} {first now : D} {new : LogState}
      (epoch : ℕ) (made : List ℕ) → LogRan tells clock image_at commits was made marks first now new
      → LogWent tells clock image_at epoch commits was marks first now new
  went_unmarked {commits = commits} {was = was} {marks = marks} {first = first} {now = now} {new = new} epoch made ran =
      record {
        durable = made;
        set = [];
        of_epoch = tt;
        ran = subst (λ ms. LogRan tells clock image_at commits was made ms first now new) (sym (append-nil marks)) ran;
      }

module _ {D : Type 0} {tells : D → Option (List ℕ)} {clock : D → ℕ} {image_at : D → ℕ → List ℕ → Type 0}
    {faults : D → ℕ}
    (reads : (disk : D) (file : List ℕ) → tells disk ≡ Some file → image_at disk (clock disk) file) where
  -- a flush that was done, after which the mark is set
  pub moves_marked : {T : Type 0} {old new : LogState} {before now : D} (given : T) (epoch : ℕ)
      → (let result : Result T LogFault = Ok given in
      Flushes tells clock image_at faults old.journal new.journal before now result)
      → IsFlushed old.journal new.journal → Wrote tells old.journal before now
      → new.mark ≡ record { length = new.journal.durable; epoch = Some epoch }
      → MovesLog tells clock image_at faults epoch old new before now None
  moves_marked {old = old} {new = new} {before = before} {now = now} given epoch flushes flushed wrote mark = record {
    reaches = flushes.reaches;
    runs = λ commits was durable marks first ran.
        let grown = flush_grows reads durable given ran.journal_of flushes flushed wrote in
        let made = durable ++ old.journal.lines in
        let same : durable ++ old.journal.lines ≡ made ++ new.journal.lines =
        sym (append-nil made) ∙ ap (λ l. made ++ l) (sym flushed.empty) in
        record {
          durable = made;
          set = new.mark ∷ [];
          of_epoch = (ap (λ (m : Mark). m.epoch) mark, tt);
          ran = goes_marked made epoch ran grown.0 grown.1 same flushed.empty mark;
        };
    end = omega (arith, flushed.durable, ap length flushed.empty);
    limit = flushed.limit;
    mark = inr (ap (λ (m : Mark). m.epoch) mark);
    counts = inr (ap (λ (m : Mark). m.length) mark);
    flushed = inr flushed.empty;
    later = flushes.refused.later;
    quiet = λ other. flushes.refused.quiet;
    device = λ is. absurd cc;
    goes_down = λ is. absurd cc;
    down = λ count. (λ is. absurd cc, λ is. absurd (let never = (flushes.refused.down count).1 is in cc));
    stays_up = λ other. flushed.is_up ∙ sym flushed.was_up;
  }

  -- a flush that was done, and the mark stays
  pub moves_flushed : {T : Type 0} {old new : LogState} {before now : D} (given : T) (epoch : ℕ)
      → (let result : Result T LogFault = Ok given in
      Flushes tells clock image_at faults old.journal new.journal before now result)
      → IsFlushed old.journal new.journal → Wrote tells old.journal before now → new.mark ≡ old.mark
      → MovesLog tells clock image_at faults epoch old new before now None
  moves_flushed {old = old} {new = new} {before = before} {now = now} given epoch flushes flushed wrote mark = record {
    reaches = flushes.reaches;
    runs = λ commits was durable marks first ran.
        let grown = flush_grows reads durable given ran.journal_of flushes flushed wrote in
        let made = durable ++ old.journal.lines in
        let same : durable ++ old.journal.lines ≡ made ++ new.journal.lines =
        sym (append-nil made) ∙ ap (λ l. made ++ l) (sym flushed.empty) in
        went_unmarked epoch made (goes_on made ran grown.0 grown.1 same mark);
    end = omega (arith, flushed.durable, ap length flushed.empty);
    limit = flushed.limit;
    mark = inl mark;
    counts = inl mark;
    flushed = inl mark;
    later = flushes.refused.later;
    quiet = λ other. flushes.refused.quiet;
    device = λ is. absurd cc;
    goes_down = λ is. absurd cc;
    down = λ count. (λ is. absurd cc, λ is. absurd (let never = (flushes.refused.down count).1 is in cc));
    stays_up = λ other. flushed.is_up ∙ sym flushed.was_up;
  }

  -- a call that was refused
  pub moves_refused : {T : Type 0} {old new : LogState} {before now : D} (fault : LogFault) (epoch : ℕ)
      → (let result : Result T LogFault = Err fault in
      Flushes tells clock image_at faults old.journal new.journal before now result)
      → new.mark ≡ old.mark
      → MovesLog tells clock image_at faults epoch old new before now (Some fault)
  moves_refused {old = old} {new = new} {before = before} {now = now} fault epoch flushes mark = record {
    reaches = flushes.reaches;
    runs = λ commits was durable marks first ran.
        let grown = flush_fails reads durable fault ran.journal_of flushes in
        went_unmarked epoch durable (goes_on durable ran grown.0 grown.1
        (ap (λ l. durable ++ l) (sym flushes.kept.lines)) mark);
    end = omega (arith, flushes.kept.durable, ap length flushes.kept.lines);
    limit = flushes.kept.limit;
    mark = inl mark;
    counts = inl mark;
    flushed = inl mark;
    later = flushes.refused.later;
    quiet = λ other. ap faults
        (flushes.refused.untouched (λ is. other (let same : fault ≡ Device = cc in ap Some same))).1;
    device = λ is. flushes.refused.device (let same : fault ≡ Device = cc in ap Err same);
    goes_down = λ is. flushes.refused.goes_down (let same : fault ≡ Device = cc in ap Err same);
    down = λ count. (
      λ is. (flushes.refused.down count).0 (let same : fault ≡ Down count = cc in ap Err same),
      λ is. let refused = (flushes.refused.down count).1 is in let same : fault ≡ Down count = cc in ap Some same,
    );
    stays_up = λ other. ap (λ (j : JournalState). j.down)
        (flushes.refused.untouched (λ is. other (let same : fault ≡ Device = cc in ap Some same))).0;
  }

module _ {D : Type 0} {tells : D → Option (List ℕ)} {clock : D → ℕ} {image_at : D → ℕ → List ℕ → Type 0}
    {faults : D → ℕ} where
  -- a call that did nothing, of a log that is up
  pub moves_nothing : {old new : LogState} {before now : D} (epoch : ℕ) → new ≡ old → now ≡ before
      → ((count : ℕ) → old.journal.down ≡ Some count → ⊥) → Reaches tells before old.journal
      → MovesLog tells clock image_at faults epoch old new before now None
  moves_nothing {old = old} {before = before} epoch same same_bank up reaches = rw (same, same_bank) (record {
    reaches = reaches;
    runs = λ commits was durable marks first ran. went_unmarked epoch durable ran;
    end = refl;
    limit = refl;
    mark = inl refl;
    counts = inl refl;
    flushed = inl refl;
    later = omega arith;
    quiet = λ other. refl;
    device = λ is. absurd cc;
    goes_down = λ is. absurd cc;
    down = λ count. (λ is. absurd cc, λ is. absurd (up count is));
    stays_up = λ other. refl;
  })

  -- a call that was done, and then another one, which left the journal as it was
  pub moves_then : {a b c : LogState} {before mid now : D} {epoch : ℕ} {fault : Option LogFault}
      → MovesLog tells clock image_at faults epoch a b before mid None
      → MovesLog tells clock image_at faults epoch b c mid now fault → c.journal ≡ b.journal
      → MovesLog tells clock image_at faults epoch a c before now fault
  moves_then {a = a} {b = b} {c = c} {before = before} {mid = mid} {now = now} {epoch = epoch} first next stays =
      let quiet : faults mid ≡ faults before = first.quiet (λ is. cc) in
      let up : b.journal.down ≡ a.journal.down = first.stays_up (λ is. cc) in
      record {
        reaches = next.reaches;
        runs = λ commits was durable marks begin ran.
            let one = first.runs commits was durable marks begin ran in
            let two = next.runs commits was one.durable (marks ++ one.set) begin one.ran in
            record {
              durable = two.durable;
              set = one.set ++ two.set;
              of_epoch = all_append (λ (m : Mark). m.epoch ≡ Some epoch) one.set two.set one.of_epoch two.of_epoch;
              ran = subst (λ ms. LogRan tells clock image_at commits was two.durable ms begin now c)
                  (append_assoc marks one.set two.set) two.ran;
            };
        end = next.end ∙ first.end;
        limit = next.limit ∙ first.limit;
        mark = elim next.mark [
          | inr set ↦ inr set
          | inl same ↦ elim first.mark [
            | inl kept ↦ inl (same ∙ kept)
            | inr set ↦ inr (ap (λ (m : Mark). m.epoch) same ∙ set)
          ]
        ];
        counts = elim next.counts [
          | inr all ↦ inr all
          | inl same ↦ elim first.counts [
            | inl kept ↦ inl (same ∙ kept)
            | inr all ↦ inr (ap (λ (m : Mark). m.length) same ∙ all ∙ sym (ap (λ (j : JournalState). j.durable) stays))
          ]
        ];
        flushed = elim next.flushed [
          | inr none ↦ inr none
          | inl same ↦ elim first.flushed [
            | inl kept ↦ inl (same ∙ kept)
            | inr none ↦ inr (ap (λ (j : JournalState). j.lines) stays ∙ none)
          ]
        ];
        later = omega (arith, first.later, next.later);
        quiet = λ other. next.quiet other ∙ quiet;
        device = λ is. subst (λ n. Rose n (faults now)) quiet (next.device is);
        goes_down = next.goes_down;
        down = λ count. (λ is. sym up ∙ (next.down count).0 is, λ is. (next.down count).1 (up ∙ is));
        stays_up = λ other. next.stays_up other ∙ up;
      }

module _ {D : Type 0} {tells : D → Option (List ℕ)} {clock : D → ℕ} {image_at : D → ℕ → List ℕ → Type 0}
    {faults : D → ℕ}
    (reads : (disk : D) (file : List ℕ) → tells disk ≡ Some file → image_at disk (clock disk) file) where
  -- a journal of a log made room, or refused to
  pub moves_room : {T : Type 0} {old new : LogState} {before now : D} (result : Result T LogFault) (epoch : ℕ)
      → Flushes tells clock image_at faults old.journal new.journal before now result
      → OnOk result ((IsFlushed old.journal new.journal × Wrote tells old.journal before now)
      ⊎ ((new.journal ≡ old.journal) × (now ≡ before)))
      → Reaches tells before old.journal → new.mark ≡ old.mark
      → MovesLog tells clock image_at faults epoch old new before now (refusal result)
  moves_room {old = old} {new = new} (Ok given) epoch flushes passed reaches mark = elim passed [
    | inl done ↦ moves_flushed reads given epoch flushes done.0 done.1 mark
    | inr same ↦
        let whole : new ≡ old = ap₂ (λ (j : JournalState) (m : Mark). log_at j m) same.0 mark in
        moves_nothing epoch whole same.1
        (λ count is. let never = (flushes.refused.down count).1 is in cc) reaches
  ]
  moves_room (Err fault) epoch flushes passed reaches mark = moves_refused reads fault epoch flushes mark
