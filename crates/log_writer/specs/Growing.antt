-- How a log file grows by the calls of its journal, as laws for those who flush.
use Rattle.std.specs.Prelude.{◌≡◌, ℕ, ◌+◌, List, ◌++◌, Option, Some, None, length, Result, Ok, Err}
use Rattle.std.proofs.Common.{sym, ◌∙◌, ap, subst, refl, arith}
use Rattle.std.proofs.lemmas.List.{take_all, drop_all, append-nil}
use Rattle.outside.specs.Disk.{written}
use Rattle.outside.specs.Fronts.{AllBegin, KeepsSince}
use Rattle.outside.specs.Growth.{Grows, grows_none, grows_written, grows_failed}
use Rattle.log_writer.specs.declared.journal.LogFault.{LogFault}
use Rattle.log_writer.specs.declared.journal.LogFault.TheVariants.{Device, Down, Limit}
use Rattle.log_writer.specs.Journal.{JournalState, IsFlushed, Wrote, IsDurable}
use Rattle.log_writer.specs.Flushes.{Flushes}

-- These bytes are durable of the journal's log file, which tells just them as long as the journal isn't down.
pub record IsJournalOf {D : Type 0} (tells : D → Option (List ℕ)) (clock : D → ℕ) (image_at : D → ℕ → List ℕ → Type 0) (made : List ℕ) (journal : JournalState) (bank : D) : Type 0 where
  pub durable : IsDurable clock image_at journal bank made
  pub told : journal.down ≡ None → tells bank ≡ Some made

-- what is written at the end of a file stands behind it
written_behind : (made lines : List ℕ) (at : ℕ) → at ≡ length made → written at lines made ≡ made ++ lines
written_behind made lines at is =
    rw (take_all at made (omega (arith, is)), drop_all (at + length lines) made (omega (arith, is))) (append-nil (made ++ lines))

-- the journal was down, or not
up_or_down : (down : Option ℕ) {P : Type 0} → (down ≡ None → P) → ((count : ℕ) → down ≡ Some count → P) → P
up_or_down None up down = up refl
up_or_down (Some count) up down = down count refl

-- what every image now begins with, every image since now begins with
since_now : {D : Type 0} (clock : D → ℕ) (image_at : D → ℕ → List ℕ → Type 0) (disk : D) (made : List ℕ) → AllBegin (image_at disk (clock disk)) made → KeepsSince clock image_at disk (clock disk) made
since_now clock image_at disk made begins m c from to image = begins c (subst (λ j. image_at disk j c) (omega (arith, from, to)) image)

module _ {D T : Type 0} {tells : D → Option (List ℕ)} {clock : D → ℕ} {image_at : D → ℕ → List ℕ → Type 0} {faults : D → ℕ} (reads : (disk : D) (file : List ℕ) → tells disk ≡ Some file → image_at disk (clock disk) file) where
  -- a flush that was done: the lines that waited are durable behind what was
  pub flush_grows : {old new : JournalState} {before now : D} (made : List ℕ) (given : T) → IsJournalOf tells clock image_at made old before
      → (let result : Result T LogFault = Ok given in Flushes tells clock image_at faults old new before now result)
      → IsFlushed old new → Wrote tells old before now
      → Grows clock image_at before now made (made ++ old.lines) × IsJournalOf tells clock image_at (made ++ old.lines) new now
  flush_grows {old = old} {new = new} {before = before} {now = now} made given journal flushes flushed wrote =
      let told = journal.told flushed.was_up in
      let size = journal.durable.size in
      let stays = flushes.stays (clock before) made (omega (arith, size)) (omega arith) (since_now clock image_at before made journal.durable.begins) in
      let reads_now = wrote made told ∙ ap Some (written_behind made old.lines old.durable (sym size)) in
      let grown = flushes.durable made told made journal.durable in
      let whole = sym (append-nil grown.0) ∙ ap (λ l. grown.0 ++ l) (sym flushed.empty) ∙ grown.2 in
      let durable = subst (λ l. IsDurable clock image_at new now l) whole grown.1 in (
        grows_written reads made old.lines told reads_now flushes.through.moments flushes.through.each stays (since_now clock image_at now (made ++ old.lines) durable.begins),
        record { durable = durable; told = λ up. reads_now },
      )

  -- and one that was refused: what was durable is so still
  pub flush_fails : {old new : JournalState} {before now : D} (made : List ℕ) (fault : LogFault) → IsJournalOf tells clock image_at made old before
      → (let result : Result T LogFault = Err fault in Flushes tells clock image_at faults old new before now result)
      → Grows clock image_at before now made made × IsJournalOf tells clock image_at made new now
  flush_fails {old = old} {new = new} {before = before} {now = now} made Device journal flushes =
      up_or_down old.down
      (λ up.
      let told = journal.told up in
      let stays = flushes.stays (clock before) made (omega (arith, journal.durable.size)) (omega arith) (since_now clock image_at before made journal.durable.begins) in
      let down = flushes.refused.goes_down refl in (
        grows_failed reads made told journal.durable.begins flushes.through.moments flushes.through.unsettled stays,
        record {
          durable = record {
            size = journal.durable.size ∙ sym flushes.kept.durable;
            begins = λ c image. stays (clock now) c flushes.through.moments.later (omega arith) image;
          };
          told = λ none. absurd cc;
        },
      ))
      (λ count was. absurd (let is = (flushes.refused.down count).1 was in cc))
  flush_fails {old = old} {new = new} {before = before} {now = now} made (Down count) journal flushes =
      let same = flushes.refused.untouched (λ is. cc) in
      rw (same.0, same.1) (grows_none journal.durable.begins, journal)
  flush_fails {old = old} {new = new} {before = before} {now = now} made (Limit size) journal flushes =
      let same = flushes.refused.untouched (λ is. cc) in
      rw (same.0, same.1) (grows_none journal.durable.begins, journal)
