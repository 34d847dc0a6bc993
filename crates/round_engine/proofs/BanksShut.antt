-- A closed log file, through reads, stores of savepoints and cuts of other files.
use Rattle.std.proofs.Common.{◌≤◌, ◌<◌, inl, inr, subst, ℕ, List, Option, arith}
use Rattle.std.proofs.lemmas.Bool.{cases_lt}
use Rattle.lists.specs.Fronts.{IsFront, front_length, front_same, front_then, front_within}
use Rattle.outside.specs.Fronts.{begins_less}
use Rattle.outside.specs.Moments.{left_after}
use Rattle.outside.specs.Reads.{OnlyReads}
use Rattle.joint_crashes.specs.Story.{BankOpen, BankReady, BankTold}
use Rattle.round_engine.specs.Crashes.{BankShut}

module _ {D : Type 0} {clock : D → ℕ} {image_at : D → ℕ → List ℕ → Type 0} {counted : ℕ → List ℕ} {from low : ℕ}
    {IsCut : ℕ → ℕ → Type 0} where
  -- one that grew, and is closed
  pub shut_of : {high : ℕ} {bank : D} {made : List ℕ} → BankOpen clock image_at counted from low high bank IsCut made
      → BankShut clock image_at counted from low high bank IsCut made
  shut_of opened = record {
    past = opened.past;
    now = opened.now;
    agrees = λ m since come past c image front less all. opened.agrees m since come past front all;
    counts = opened.counts;
  }

  -- stores, of whose savepoints the log file's parts are durable
  pub shut_stored : {s high : ℕ} {bank : D} {made : List ℕ} → BankTold clock image_at counted from low s bank IsCut
      → BankShut clock image_at counted from low s bank IsCut made
      → ((began after : ℕ) → IsCut began after → after ≤ s)
      → ((k : ℕ) → s < k → k ≤ high → IsFront (counted k) made)
      → BankTold clock image_at counted from low high bank IsCut
      × BankShut clock image_at counted from low high bank IsCut made
  shut_stored {s = s} {made = made} told shut older fronts = (
    record {
      began = told.began;
      kept = λ k m front at_least at_most since come past before c image size all. elim (cases_lt s k) [
        | inr first ↦ told.kept k m front at_least first since come past before c image size all
        | inl later ↦
            let whole = fronts k later at_most in
            let less = front_length (counted k) made whole in
            let is = shut.agrees m since come (λ began after cut.
            past began after cut (omega (arith, older began after cut, later))) c image front
            (omega (arith, size, less)) all in
            front_same front (counted k) made is whole size
      ];
    },
    record {
      past = shut.past;
      now = shut.now;
      agrees = shut.agrees;
      counts = λ k at_least at_most last. elim (cases_lt s k) [
        | inr first ↦ shut.counts k at_least first last
        | inl later ↦ fronts k later at_most
      ];
    },
  )

  -- a stop now finds what a savepoint counts of it, where it was not cut since
  pub shut_ready : {high k : ℕ} {bank : D} {made : List ℕ} → BankShut clock image_at counted from low high bank IsCut made
      → low ≤ k → k ≤ high → ((began after : ℕ) → IsCut began after → after ≤ k)
      → BankReady clock image_at counted k bank IsCut
  shut_ready {k = k} {bank = bank} {made = made} shut at_least at_most last = record {
    now = begins_less (image_at bank (clock bank)) (counted k) made shut.now (shut.counts k at_least at_most last);
    past = λ began after cut less. shut.past began after cut;
  }

module _ {D : Type 0} (tells : D → Option (List ℕ)) (faults : D → ℕ) {clock : D → ℕ} {image_at : D → ℕ → List ℕ → Type 0}
    {counted : ℕ → List ℕ} {from low : ℕ} {IsCut : ℕ → ℕ → Type 0} where
  -- reads of it
  pub shut_reads : {high : ℕ} {old new : D} {made : List ℕ} → BankTold clock image_at counted from low high old IsCut
      → BankShut clock image_at counted from low high old IsCut made
      → OnlyReads tells clock image_at faults old new
      → BankTold clock image_at counted from low high new IsCut
      × BankShut clock image_at counted from low high new IsCut made
  shut_reads {old = old} {new = new} {made = made} told shut read = (
    record {
      began = omega (arith, told.began, read.moments.later);
      kept = λ k m front at_least at_most since come past before c image size all. elim (cases_lt (clock old) m) [
        | inr early ↦ told.kept k m front at_least at_most since early past before c
            (read.moments.no_new m c early image) size
            (λ d left. all d (read.moments.kept m d early left))
        | inl late ↦
            let had = read.moments.from m c late come image in
            let last = shut.counts k at_least at_most (λ began after cut. elim (cases_lt k after) [
              | inr within ↦ within
              | inl less ↦ absurd (omega (arith, shut.past began after cut, before began after cut less, late))
            ]) in
            let whole = subst (IsFront (counted k)) had.2 (front_then (counted k) made had.0 last (shut.now had.0 had.1)) in
            front_same front (counted k) c (all c image) whole size
      ];
    },
    record {
      past = λ began after cut. omega (arith, shut.past began after cut, read.moments.later);
      now = λ c image. elim (left_after c read.moments image) [
        | inl first ↦ shut.now c first
        | inr within ↦ subst (IsFront made) within.2 (shut.now within.0 within.1)
      ];
      agrees = λ m since come past c image front less all. elim (cases_lt (clock old) m) [
        | inr early ↦ shut.agrees m since early past c (read.moments.no_new m c early image) front less
            (λ d left. all d (read.moments.kept m d early left))
        | inl late ↦
            let had = read.moments.from m c late come image in
            front_within front made c (all c image) (subst (IsFront made) had.2 (shut.now had.0 had.1)) less
      ];
      counts = shut.counts;
    },
  )
