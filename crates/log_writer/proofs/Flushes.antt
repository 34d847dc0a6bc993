-- What a write and its sync leave of a log file.
use Rattle.std.proofs.Common.{◌≡◌, ◌∙◌, sym, ap, subst, refl, ◌≤◌, ◌+◌, ℕ, List, [], ◌++◌, length, take, drop, true, is_some, Option, Some, None, Result, Ok, Err, OnOk, OnErr, arith, length-append}
use Rattle.std.proofs.lemmas.List.{append-nil, take_at}
use Rattle.std.proofs.lemmas.Option.{same_Some}
use Rattle.lists.specs.Fronts.{IsFront}
use Rattle.outside.specs.Disk.{IfTold, Only, written, Torn}
use Rattle.outside.specs.Faults.{Rose}
use Rattle.outside.specs.Ranges.{length-written, torn_written}
use Rattle.outside.specs.Fronts.{keeps_torn}
use Rattle.log_writer.specs.declared.journal.LogFault.{LogFault}
use Rattle.log_writer.specs.declared.journal.LogFault.TheVariants.{Device}
use Rattle.log_writer.specs.Flushes.{WritesThrough, Flushes}
use Rattle.log_writer.specs.Journal.{JournalState, end_of, Reaches, IsKept, DurableGrows}

-- what holds whatever the answer is holds of a fault
pub on_err : {A E : Type 0} (r : Result A E) {P : Type 0} → P → OnErr r P
on_err (Ok done) p = tt
on_err (Err failed) p = p

-- and of an answer
pub on_ok : {A E : Type 0} (r : Result A E) {P : Type 0} → P → OnOk r P
on_ok (Ok done) p = p
on_ok (Err failed) p = tt

-- a file that reads as it was written is one that the write may leave
pub torn_told : (told now : Option (List ℕ)) (at : ℕ) (bytes : List ℕ) → IfTold told (λ file. at ≤ length file)
    → IfTold told (λ file. now ≡ Some (written at bytes file)) → IfTold told (λ file. IfTold now (Torn at (length bytes) file))
torn_told told now at bytes within done file was left is =
    subst (Torn at (length bytes) file) (same_Some (written at bytes file) left (sym (done file was) ∙ is)) (torn_written at bytes file (within file was))

-- a file that tells its bytes told them before
pub was_told : (told now : Option (List ℕ)) → is_some now ≡ is_some told → (left : List ℕ) → now ≡ Some left → (file : List ℕ) × told ≡ Some file
was_told (Some file) now same left is = (file, refl)
was_told None now same left is = absurd (let here : is_some now ≡ true = ap is_some is in cc)

-- what was written is there
pub reaches_written : (told now : Option (List ℕ)) (at : ℕ) (bytes : List ℕ) → is_some now ≡ is_some told → IfTold told (λ file. at ≤ length file)
    → IfTold told (λ file. now ≡ Some (written at bytes file)) → IfTold now (λ file. at + length bytes ≤ length file)
reaches_written told now at bytes same within done left is =
    let was = was_told told now same left is in
    let long = length-written at bytes was.0 (within was.0 was.1) in
    subst (λ file. at + length bytes ≤ length file) (same_Some (written at bytes was.0) left (sym (done was.0 was.1) ∙ is)) (omega (arith, long))

-- and what a write left in part is no shorter
pub reaches_torn : (told now : Option (List ℕ)) (at count : ℕ) → is_some now ≡ is_some told → IfTold told (λ file. at ≤ length file)
    → IfTold told (λ file. IfTold now (Torn at count file)) → IfTold now (λ file. at ≤ length file)
reaches_torn told now at count same within torn left is =
    let was = was_told told now same left is in
    omega (arith, within was.0 was.1, (torn was.0 was.1 left is).no_shorter)

-- a file that was written behind what it begins with begins with both
pub begins_written : (was lines file : List ℕ) → IsFront was file → IsFront (was ++ lines) (written (length was) lines file)
begins_written was lines file begins =
    ap (λ front. take (length (was ++ lines)) (front ++ lines ++ drop (length was + length lines) file)) begins
    ∙ take_at (was ++ lines) (drop (length was + length lines) file) (length (was ++ lines)) refl

module _ {D : Type 0} {tells : D → Option (List ℕ)} {clock : D → ℕ} {image_at : D → ℕ → List ℕ → Type 0} where
  -- once a file has only what was written behind its durable bytes, both are durable
  pub durable_written : {old new : JournalState} {before now : D} (at : ℕ) (bytes : List ℕ) → at ≡ old.durable → bytes ≡ old.lines
      → new.durable ≡ end_of old → new.lines ≡ []
      → ((disk : D) (file : List ℕ) → tells disk ≡ Some file → image_at disk (clock disk) file)
      → IfTold (tells before) (λ file. Only clock image_at now (written at bytes file))
      → DurableGrows tells clock image_at old new before now
  durable_written {old = old} {before = before} at bytes from lines durable empty reads only file told was is = (
    was ++ old.lines,
    record {
      size = omega (arith, length-append was old.lines, is.size, durable);
      begins = λ c left.
          let begins = is.begins file (reads before file told) in
          let same = ap (λ k. written k bytes file) (from ∙ sym is.size) ∙ ap (λ b. written (length was) b file) lines in
          ap (take (length (was ++ old.lines))) (only file told c left ∙ same) ∙ begins_written was old.lines file begins;
    },
    ap (λ rest. was ++ old.lines ++ rest) empty ∙ append-nil (was ++ old.lines),
  )

  -- what goes through at an offset goes through at the same one, told otherwise
  through_moved : {T E : Type 0} {before now : D} {result : Result T E} (at from : ℕ) (bytes lines : List ℕ) → at ≡ from → bytes ≡ lines
      → WritesThrough tells clock image_at at (length bytes) before now result → WritesThrough tells clock image_at from (length lines) before now result
  through_moved {before = before} {now = now} {result = result} at from bytes lines place same through =
      subst (λ (b : List ℕ). WritesThrough tells clock image_at from (length b) before now result) same
      (subst (λ k. WritesThrough tells clock image_at k (length bytes) before now result) place through)

module _ {D : Type 0} {tells : D → Option (List ℕ)} {clock : D → ℕ} {image_at : D → ℕ → List ℕ → Type 0} {faults : D → ℕ} where
  -- A journal's write that was done.
  pub flushes_done : {T U E : Type 0} {old new : JournalState} {before now : D} (value : T) (given : U) (at : ℕ) (bytes : List ℕ)
      → at ≡ old.durable → bytes ≡ old.lines → old.down ≡ None
      → new.durable ≡ end_of old → new.lines ≡ [] → faults now ≡ faults before
      → Reaches tells before old
      → ((disk : D) (file : List ℕ) → tells disk ≡ Some file → image_at disk (clock disk) file)
      → IfTold (tells before) (λ file. tells now ≡ Some (written at bytes file))
      → IfTold (tells before) (λ file. Only clock image_at now (written at bytes file))
      → (let answer : Result T E = Ok value in WritesThrough tells clock image_at at (length bytes) before now answer)
      → let result : Result U LogFault = Ok given in Flushes tells clock image_at faults old new before now result
  flushes_done {U = U} {old = old} {new = new} {before = before} {now = now} value given at bytes from lines up durable empty quiet reaches reads wrote only through =
      let result : Result U LogFault = Ok given in
      let same : WritesThrough tells clock image_at at (length bytes) before now result = record { told = through.told; moments = through.moments; each = through.each; unsettled = tt } in
      let moved = through_moved at old.durable bytes old.lines from lines same in
      record {
        reaches = λ file told. omega (
          arith,
          reaches_written (tells before) (tells now) at bytes through.told (λ file was. omega (arith, from, reaches file was)) wrote file told,
          durable,
          from,
          ap length lines,
        );
        through = moved;
        durable = durable_written at bytes from lines durable empty reads only;
        stays = λ since is within begun keeps. keeps_torn within begun moved.moments keeps;
        kept = tt;
        refused = record {
          later = omega (arith, quiet);
          quiet = quiet;
          device = λ none. absurd cc;
          goes_down = λ none. absurd cc;
          down = λ count. (λ none. absurd cc, λ is. absurd (let not : Some count ≡ None = sym is ∙ up in cc));
          untouched = λ other. tt;
        };
      }

  -- And one that failed.
  pub flushes_failed : {T U E : Type 0} {old new : JournalState} {before now : D} (error : E) (at : ℕ) (bytes : List ℕ)
      → at ≡ old.durable → bytes ≡ old.lines → old.down ≡ None
      → IsKept old new → new.down ≡ Some (faults now) → faults before ≤ faults now → Rose (faults before) (faults now)
      → Reaches tells before old
      → IfTold (tells before) (λ file. IfTold (tells now) (Torn at (length bytes) file))
      → (let answer : Result T E = Err error in WritesThrough tells clock image_at at (length bytes) before now answer)
      → let result : Result U LogFault = Err Device in Flushes tells clock image_at faults old new before now result
  flushes_failed {U = U} {old = old} {new = new} {before = before} {now = now} error at bytes from lines up kept down later rose reaches torn through =
      let result : Result U LogFault = Err Device in
      let same : WritesThrough tells clock image_at at (length bytes) before now result = record { told = through.told; moments = through.moments; each = through.each; unsettled = through.unsettled } in
      let moved = through_moved at old.durable bytes old.lines from lines same in
      record {
        reaches = λ file told. omega (
          arith,
          reaches_torn (tells before) (tells now) at (length bytes) through.told (λ file was. omega (arith, from, reaches file was)) torn file told,
          from,
          kept.durable,
        );
        through = moved;
        durable = tt;
        stays = λ since is within begun keeps. keeps_torn within begun moved.moments keeps;
        kept = kept;
        refused = record {
          later = later;
          quiet = tt;
          device = λ is. rose;
          goes_down = λ is. down;
          down = λ count. (λ is. absurd cc, λ is. absurd (let not : Some count ≡ None = sym is ∙ up in cc));
          untouched = λ other. absurd (other refl);
        };
      }

  -- What such a call does it does, whatever it gives where it answers `Ok`.
  pub flushes_ok : {T U : Type 0} {old new : JournalState} {before now : D} (value : T) (given : U)
      → (let answer : Result T LogFault = Ok value in Flushes tells clock image_at faults old new before now answer)
      → let result : Result U LogFault = Ok given in Flushes tells clock image_at faults old new before now result
  flushes_ok value given flushes = record {
    reaches = flushes.reaches;
    through = record { told = flushes.through.told; moments = flushes.through.moments; each = flushes.through.each; unsettled = tt };
    durable = flushes.durable;
    stays = flushes.stays;
    kept = tt;
    refused = record {
      later = flushes.refused.later;
      quiet = flushes.refused.quiet;
      device = λ none. absurd cc;
      goes_down = λ none. absurd cc;
      down = λ count. (λ none. absurd cc, λ is. absurd (let not = (flushes.refused.down count).1 is in cc));
      untouched = λ other. tt;
    };
  }

  -- And whatever it would have given.
  pub flushes_err : {T U : Type 0} {old new : JournalState} {before now : D} (fault : LogFault)
      → (let answer : Result T LogFault = Err fault in Flushes tells clock image_at faults old new before now answer)
      → let result : Result U LogFault = Err fault in Flushes tells clock image_at faults old new before now result
  flushes_err {T = T} fault flushes = record {
    reaches = flushes.reaches;
    through = record { told = flushes.through.told; moments = flushes.through.moments; each = flushes.through.each; unsettled = flushes.through.unsettled };
    durable = tt;
    stays = flushes.stays;
    kept = flushes.kept;
    refused = record {
      later = flushes.refused.later;
      quiet = tt;
      device = λ is. flushes.refused.device (cc);
      goes_down = λ is. flushes.refused.goes_down (cc);
      down = λ count. (λ is. (flushes.refused.down count).0 (cc), λ is. let was = (flushes.refused.down count).1 is in cc);
      untouched = λ other. flushes.refused.untouched (λ is. other (cc));
    };
  }
