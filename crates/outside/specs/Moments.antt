-- How the crash images of a disk go on, as laws for those who use it: one line for each of their calls.
use Rattle.std.specs.Prelude.{◌≡◌, ◌⊎◌, ◌<◌, ℕ, List, Option, Some}
use Rattle.std.proofs.Common.{inl, inr, ⊎_elim, refl, sym, ◌∙◌, subst, arith}
use Rattle.std.proofs.lemmas.Bool.{cases_lt}
use Rattle.outside.specs.Disk.{IfTold, Same, Goes, LeavesEach, Only, IsSettled, Runs}

module _ {D : Type 0} {clock : D → ℕ} {image_at : D → ℕ → List ℕ → Type 0} where
  -- no call
  pub runs_none : (disk : D) (P : List ℕ → Type 0) → Runs clock image_at disk disk P
  runs_none disk P = record {
    later = omega arith;
    kept = λ m c le left. left;
    no_new = λ m c le left. left;
    leaves = λ m c gt le left. absurd (omega arith);
  }

  -- some calls, and then more
  pub runs_then : {old mid new : D} {P : List ℕ → Type 0} → Runs clock image_at old mid P → Runs clock image_at mid new P → Runs clock image_at old new P
  runs_then {mid = mid} first next = record {
    later = omega (arith, first.later, next.later);
    kept = λ m c le left. next.kept m c (omega (arith, first.later)) (first.kept m c le left);
    no_new = λ m c le left. first.no_new m c le (next.no_new m c (omega (arith, first.later)) left);
    leaves = λ m c gt le left. elim (cases_lt (clock mid) m) [
      | inl past ↦ next.leaves m c past le left
      | inr within ↦ first.leaves m c gt within (next.no_new m c within left)
    ];
  }

  -- calls that leave what has P leave what has what follows from it
  pub runs_weaker : {old new : D} {P Q : List ℕ → Type 0} → ((c : List ℕ) → P c → Q c) → Runs clock image_at old new P → Runs clock image_at old new Q
  runs_weaker to runs = record {
    later = runs.later;
    kept = runs.kept;
    no_new = runs.no_new;
    leaves = λ m c gt le left. to c (runs.leaves m c gt le left);
  }

  -- one call
  pub runs_call : {step : List ℕ → List ℕ → Type 0} {old new : D} {P : List ℕ → Type 0} → ((d c : List ℕ) → image_at old (clock old) d → step d c → P c) → Goes clock image_at step old new → Runs clock image_at old new P
  runs_call to goes = record {
    later = goes.later;
    kept = goes.kept;
    no_new = goes.no_new;
    leaves = λ m c gt le left.
        let was = goes.from m c gt le left in
        to was.0 c was.1 was.2;
  }

  -- a call from the one content that a stop could leave
  pub runs_step : {step : List ℕ → List ℕ → Type 0} {old new : D} {file : List ℕ} → Only clock image_at old file → Goes clock image_at step old new → Runs clock image_at old new (step file)
  runs_step {step = step} only goes = runs_call (λ d c was is. subst (λ b. step b c) (only d was) is) goes

  -- what a stop leaves as a call has returned
  pub left_after : {step : List ℕ → List ℕ → Type 0} {old new : D} (c : List ℕ) → Goes clock image_at step old new → image_at new (clock new) c → image_at old (clock old) c ⊎ ((d : List ℕ) × image_at old (clock old) d × step d c)
  left_after {old = old} {new = new} c goes left = elim (cases_lt (clock old) (clock new)) [
    | inl gt ↦ inr (goes.from (clock new) c gt (omega arith) left)
    | inr le ↦
        let same : clock new ≡ clock old = omega (arith, goes.later) in
        inl (subst (λ m. image_at old m c) same (goes.no_new (clock new) c le left))
  ]

  -- and as many have
  pub left_after_runs : {old new : D} {P : List ℕ → Type 0} (c : List ℕ) → Runs clock image_at old new P → image_at new (clock new) c → image_at old (clock old) c ⊎ P c
  left_after_runs {old = old} {new = new} c runs left = elim (cases_lt (clock old) (clock new)) [
    | inl gt ↦ inr (runs.leaves (clock new) c gt (omega arith) left)
    | inr le ↦
        let same : clock new ≡ clock old = omega (arith, runs.later) in
        inl (subst (λ m. image_at old m c) same (runs.no_new (clock new) c le left))
  ]

  -- a call that changes nothing settles nothing and unsettles nothing
  pub only_same : {old new : D} {file : List ℕ} → Goes clock image_at Same old new → Only clock image_at old file → Only clock image_at new file
  only_same goes only c left = ⊎_elim (λ was. only c was) (λ was. sym was.2 ∙ only was.0 was.1) (left_after c goes left)

  -- what is told of a settled disk
  pub told_is : {tells : D → Option (List ℕ)} {disk : D} {file bytes : List ℕ} → IsSettled tells clock image_at disk file → tells disk ≡ Some bytes → bytes ≡ file
  told_is settled told = let both = settled.told in cc

  -- a settled disk leaves what it tells, and nothing else
  pub only_told : {tells : D → Option (List ℕ)} {disk : D} {bytes : List ℕ} → IsSettled tells clock image_at disk bytes → IfTold (tells disk) (Only clock image_at disk)
  only_told settled file told c left =
      let is : file ≡ _ = told_is settled told in
      let was = settled.only c left in cc

  -- a call, and one after it that changes nothing
  pub goes_then : {step : List ℕ → List ℕ → Type 0} {old mid new : D} → clock old < clock mid → Goes clock image_at step old mid
      → Goes clock image_at Same mid new → Goes clock image_at step old new
  goes_then {step = step} {mid = mid} made first next = record {
    later = omega (arith, first.later, next.later);
    kept = λ m c le left. next.kept m c (omega (arith, first.later)) (first.kept m c le left);
    no_new = λ m c le left. first.no_new m c le (next.no_new m c (omega (arith, first.later)) left);
    from = λ m c gt le left. elim (cases_lt (clock mid) m) [
      | inl past ↦
          let last = next.from m c past le left in
          let was = first.from (clock mid) last.0 made (omega arith) last.1 in
          (was.0, was.1, subst (step was.0) last.2 was.2)
      | inr within ↦ first.from m c gt within (next.no_new m c within left)
    ];
  }

  -- each step of a call may be left through a call after it that changes nothing
  pub each_then : {step : List ℕ → List ℕ → Type 0} {old mid new : D} {end : ℕ} → clock old < clock mid → LeavesEach clock image_at step old mid (clock mid)
      → Goes clock image_at Same mid new → LeavesEach clock image_at Same mid new end → LeavesEach clock image_at step old new end
  each_then {mid = mid} made first goes next = record {
    each = λ m d c from to was is. elim (cases_lt (clock mid) m) [
      | inl past ↦ next.each m c c past to (first.each (clock mid) d c made (omega arith) was is) refl
      | inr within ↦ goes.kept m c within (first.each m d c from within was is)
    ];
  }
