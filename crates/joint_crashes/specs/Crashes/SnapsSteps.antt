-- The snapshots, which only grow.
use Rattle.std.proofs.Common.{◌≡◌, ◌≤◌, ◌+◌, ◌++◌, ◌∷◌, inl, inr, ℕ}
use Rattle.std.proofs.Common.{List, [], Option, sym, ap, subst, arith}
use Rattle.std.specs.List.{Contains}
use Rattle.std.proofs.lemmas.Bool.{cases_lt, cases_eq}
use Rattle.std.proofs.lemmas.List.Elements.{Contains-push_cases, Contains-push, Contains-append_left}
use Rattle.log_writer.specs.declared.records.Tie.{Tie}
use Rattle.outside.specs.Disk.{Runs}
use Rattle.lists.specs.Fronts.{IsFront}
use Rattle.outside.specs.Fronts.{AllBegin}
use Rattle.joint_crashes.specs.Story.{SnapsTold}
use Rattle.lists.specs.Fronts.{front_then}

-- pages are appended, or nothing is done
pub snaps_runs : {D : Type 0} {clock : D → ℕ} {image_at : D → ℕ → List ℕ → Type 0} {pages : ℕ → List ℕ}
    {from low high : ℕ} {old new : D} {ties : List Tie}
    → SnapsTold clock image_at pages from low high old ties
    → ((k : ℕ) → low ≤ k → k ≤ high → IsFront (pages k) (pages high))
    → Runs clock image_at old new (IsFront (pages high))
    → SnapsTold clock image_at pages from low high new ties
snaps_runs {clock = clock} {image_at = image_at} {pages = pages} {high = high} {old = old} told grows runs = record {
  began = omega (arith, told.began, runs.later);
  times = λ tie has. omega (arith, told.times tie has, runs.later);
  since = λ k m at_least at_most since come past c image. elim (cases_lt (clock old) m) [
    | inr before ↦ told.since k m at_least at_most since before past c (runs.no_new m c before image)
    | inl after ↦ front_then (pages k) (pages high) c (grows k at_least at_most) (runs.leaves m c after come image)
  ];
}

-- a store is begun, as each image has the pages that it counts
pub snaps_tied : {D : Type 0} {clock : D → ℕ} {image_at : D → ℕ → List ℕ → Type 0} {pages : ℕ → List ℕ}
    {from low s : ℕ} {snaps : D} {was now : List Tie} (end : Option ℕ)
    → SnapsTold clock image_at pages from low s snaps was
    → AllBegin (image_at snaps (clock snaps)) (pages (s + 1))
    → now ≡ was ++ record { sequence = s + 1; snaps = clock snaps; ended = end } ∷ []
    → SnapsTold clock image_at pages from low (s + 1) snaps now
snaps_tied {clock = clock} {image_at = image_at} {pages = pages} {s = s} {snaps = snaps} {was = was}
    {now = now} end told begins ties =
    let this : Tie = record { sequence = s + 1; snaps = clock snaps; ended = end } in
    let has_this : Contains now this = subst (λ l. Contains l this) (sym ties) (Contains-push was this) in
    record {
      began = told.began;
      times = λ tie has. elim (Contains-push_cases was this tie (subst (λ l. Contains l tie) ties has)) [
        | inl older ↦ told.times tie older
        | inr is ↦ omega (arith, ap (λ (x : Tie). x.snaps) is)
      ];
      since = λ k m at_least at_most since come past c image. elim (cases_eq k (s + 1)) [
        | inl last ↦
            let here : m ≡ clock snaps = omega (arith, come, past this has_this (sym last)) in
            subst (λ j. IsFront (pages j) c) (sym last) (begins c (subst (λ j. image_at snaps j c) here image))
        | inr other ↦ told.since k m at_least (omega arith) since come
            (λ tie older. past tie (subst (λ l. Contains l tie) (sym ties)
            (Contains-append_left was _ tie older))) c image
      ];
    }

-- before the first store
pub snaps_begun : {D : Type 0} {clock : D → ℕ} {image_at : D → ℕ → List ℕ → Type 0} {pages : ℕ → List ℕ}
    {from s : ℕ} {snaps : D} (ties : List Tie)
    → ties ≡ [] → from ≤ clock snaps → ((m : ℕ) → from ≤ m → m ≤ clock snaps → AllBegin (image_at snaps m) (pages s))
    → SnapsTold clock image_at pages from s s snaps ties
snaps_begun {clock = clock} {image_at = image_at} {pages = pages} {s = s}
    {snaps = snaps} ties none came begins = record {
      began = came;
      times = λ tie has. let h = subst (λ l. Contains l tie) none has in absurd (omega (arith, h.1));
      since = λ k m at_least at_most since come past c image.
          let same : k ≡ s = omega arith in
          subst (λ j. IsFront (pages j) c) (sym same) (begins m since come c image);
    }
