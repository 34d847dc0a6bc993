-- Calls of a device that only read.
use Rattle.std.specs.Prelude.{◌≡◌, ◌≤◌, ℕ, List, Option}
use Rattle.std.proofs.Common.{inl, inr, ◌∙◌, arith}
use Rattle.std.proofs.lemmas.Bool.{cases_lt}
use Rattle.outside.specs.Disk.{Same, Goes}
use Rattle.outside.specs.Moments.{left_after}

-- what reads give stays, and so does what a stop may leave
pub record OnlyReads {D : Type 0} (tells : D → Option (List ℕ)) (clock : D → ℕ) (image_at : D → ℕ → List ℕ → Type 0) (faults : D → ℕ)
    (old new : D) : Type 0 where
  pub told : tells new ≡ tells old
  pub moments : Goes clock image_at Same old new
  pub later : faults old ≤ faults new

-- such calls, one after another
pub reads_then : {D : Type 0} {tells : D → Option (List ℕ)} {clock : D → ℕ} {image_at : D → ℕ → List ℕ → Type 0} {faults : D → ℕ}
    {old mid new : D} → OnlyReads tells clock image_at faults old mid → OnlyReads tells clock image_at faults mid new → OnlyReads tells clock image_at faults old new
reads_then {clock = clock} {image_at = image_at} {old = old} {mid = mid} first next = record {
  told = next.told ∙ first.told;
  moments = record {
    later = omega (arith, first.moments.later, next.moments.later);
    kept = λ m c le left. next.moments.kept m c (omega (arith, first.moments.later)) (first.moments.kept m c le left);
    no_new = λ m c le left. first.moments.no_new m c le (next.moments.no_new m c (omega (arith, first.moments.later)) left);
    from = λ m c gt le left. elim (cases_lt (clock mid) m) [
      | inl past ↦
          let was = next.moments.from m c past le left in
          elim (left_after was.0 first.moments was.1) [
            | inl before ↦ (was.0, before, was.2)
            | inr within ↦ (within.0, within.1, within.2 ∙ was.2)
          ]
      | inr within ↦ first.moments.from m c gt within (next.moments.no_new m c within left)
    ];
  };
  later = omega (arith, first.later, next.later);
}
