-- A window of a log file's bytes goes on where the bytes end that were mapped.
use Rattle.std.proofs.Common.{◌≡◌, ◌≤◌, ◌<◌, ◌+◌, ◌-◌, ◌⊎◌, inl, inr, ℕ, List, [], ◌∷◌, ◌++◌, Option, None, length, take, drop, refl, sym, ap, subst, ◌∙◌, arith}
use Rattle.std.proofs.Math.Seq.{take-add, take-append_seam}
use Rattle.std.proofs.lemmas.List.{length-append, length-take, length-drop, take-append-drop, take-take}
use Rattle.outside.specs.Disk.{IfTold}
use Rattle.serial_model.specs.declared.decl.Decl.{Decl}
use Rattle.wire_form.specs.LogFile.{IsDamagedAt}
use Rattle.log_mapper.specs.Mapped.{AreMapped, AreMappedLines}
use Rattle.log_mapper.specs.SoFar.{AreMappedSoFar, IsDamagedIn, IsMappedTo, MapsFront}
use Rattle.log_mapper.specs.declared.lines.SoFar.{SoFar}
use Rattle.log_mapper.proofs.LineSteps.{all_mapped}

-- bytes at the front of a file, and those that a window begins with behind them
front_then : (before done rest window file : List ℕ) (held : ℕ) → before ≡ take (length before) file → take held window ≡ done ++ rest
    → take held window ≡ take held (drop (length before) file) → before ++ done ≡ take (length before + length done) file
front_then before done rest window file held front whole read =
    let within : length done ≤ held = omega (arith, ap length whole, length-append done rest, length-take held window) in
    let piece : done ≡ take (length done) (drop (length before) file) =
    sym (take-append_seam done rest) ∙ ap (take (length done)) (sym whole ∙ read) ∙ take-take (length done) held (drop (length before) file) within in
    ap (λ l. l ++ done) front ∙ ap (λ l. take (length before) file ++ l) piece ∙ sym (take-add (length before) (length done) file)

-- a list without items
is_empty : (xs : List ℕ) → length xs ≡ 0 → xs ≡ []
is_empty [] none = refl
is_empty (x ∷ xs) none = absurd (omega (arith, none))

module _ (told : Option (List ℕ)) (bank : ℕ) (decls : List Decl) (from to count : ℕ) (old : SoFar) where
  -- the lines of one window more
  pub more_mapped : (window rest : List ℕ) (held : ℕ) (new : SoFar) → IsMappedTo told bank decls from to count old
      → MapsFront decls from to (take held window) rest old new
      → IfTold told (λ file. take held window ≡ take held (drop old.at file))
      → IsMappedTo told bank decls from to count new
  more_mapped window rest held new so_far front read = record {
    done = so_far.done ++ front.done;
    lines = front.goes bank so_far.done so_far.lines;
    front = λ file told_is.
        let before = so_far.front file told_is in (
          before.0,
          front_then so_far.done front.done rest window file held before.1 front.whole
              (subst (λ n. take held window ≡ take held (drop n file)) so_far.lines.place (read file told_is))
              ∙ ap (λ n. take n file) (sym (length-append so_far.done front.done)),
        );
  }

  -- the first line of it that isn't one
  pub more_damaged : (window : List ℕ) (held least at : ℕ) → IsMappedTo told bank decls from to count old
      → IsDamagedIn decls from to (take held window) least old at → (400 ≤ least) ⊎ (held ≡ count - old.at) → held ≤ count - old.at → old.at < count
      → IfTold told (λ file. take held window ≡ take held (drop old.at file))
      → IfTold told (λ file. IsDamagedAt decls None (take count file) at)
  more_damaged window held least at so_far damaged wide within here read file told_is =
      let before = so_far.front file told_is in
      let rest : List ℕ = take (count - old.at) (drop old.at file) in
      let size : length rest ≡ count - old.at = omega (arith, length-take (count - old.at) (drop old.at file), length-drop old.at file, before.0) in
      let after : List ℕ = drop held rest in
      let front : take held window ≡ take held rest = read file told_is ∙ sym (take-take held (count - old.at) (drop old.at file) within) in
      let all : take count file ≡ so_far.done ++ (take held window ++ after) =
      ap (λ n. take n file) (let n : count ≡ old.at + (count - old.at) = omega (arith, here) in n) ∙ take-add old.at (count - old.at) file
      ∙ ap (λ l. l ++ rest) (ap (λ n. take n file) so_far.lines.place ∙ sym before.1)
      ∙ ap (λ l. so_far.done ++ l) (sym (take-append-drop held rest) ∙ ap (λ l. l ++ after) (sym front)) in
      subst (λ l. IsDamagedAt decls None l at) (sym all) (damaged bank so_far.done after so_far.lines (ends (length-drop held rest ∙ ap (λ n. n - held) size) wide))
    where
      ends : {after : List ℕ} → length after ≡ count - old.at - held → (400 ≤ least) ⊎ (held ≡ count - old.at) → (400 ≤ least) ⊎ (after ≡ [])
      ends size (inl some) = inl some
      ends {after = after} size (inr all) = inr (is_empty after (omega (arith, size, all)))

-- all counted bytes
pub whole_mapped : (told : Option (List ℕ)) (bank : ℕ) (decls : List Decl) (from to count : ℕ) (s : SoFar) → IsMappedTo told bank decls from to count s
    → s.at ≡ count → IfTold told (λ file. AreMapped bank count decls from to file s.buckets.items)
whole_mapped told bank decls from to count s so_far all file told_is =
    let front = so_far.front file told_is in record {
      long = front.0;
      front = subst (λ l. AreMappedLines bank decls from to l s.buckets.items)
          (front.1 ∙ ap (λ n. take n file) (sym so_far.lines.place ∙ all)) (all_mapped bank decls from to so_far.done s so_far.lines);
    }

-- before the first window
pub none_so_far : (told : Option (List ℕ)) (bank : ℕ) (decls : List Decl) (from to count : ℕ) (s : SoFar) → AreMappedSoFar bank decls from to [] s
    → IfTold told (λ file. count ≤ length file) → IsMappedTo told bank decls from to count s
none_so_far told bank decls from to count s none long = record { done = []; lines = none; front = λ file told_is. (long file told_is, refl) }
