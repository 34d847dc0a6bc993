-- The save from one store to the next.
use Rattle.std.proofs.Common.{◌≡◌, ◌≤◌, ◌<◌, ◌+◌, ◌⊎◌, ◌++◌, ◌∷◌, inl, inr, ℕ}
use Rattle.std.proofs.Common.{List, [], Option, Some, None, sym, ◌∙◌, ap, subst, arith}
use Rattle.std.specs.List.{Contains}
use Rattle.std.proofs.lemmas.Bool.{cases_lt, cases_eq}
use Rattle.std.proofs.lemmas.List.Elements.{Contains-push_cases}
use Rattle.log_writer.specs.declared.records.Tie.{Tie}
use Rattle.outside.specs.Disk.{Runs, Only}
use Rattle.wire_form.specs.declared.savepoint.Savepoint.{Savepoint}
use Rattle.log_writer.specs.Points.{sequence_of}
use Rattle.log_writer.specs.Newest.{names_one}
use Rattle.log_writer.specs.Save.{Names, NamesOldOrNew}
use Rattle.joint_crashes.specs.Story.{SaveTold}

-- a tie that says that it has ended says so of this savepoint, and of now
pub record IsNewest {D : Type 0} (clock : D → ℕ) (image_at : D → ℕ → List ℕ → Type 0) (k : ℕ) (p : Savepoint)
    (save : D) (tie : Tie) : Type 0 where
  pub sequence : tie.sequence ≡ k
  pub at_end : (end : ℕ) → tie.ended ≡ Some end → end ≡ clock save
  pub names : (end : ℕ) (c : List ℕ) → tie.ended ≡ Some end → image_at save (clock save) c → Names c (Some p)

-- a device names one savepoint or none
pub one_number : (point : ℕ → Option Savepoint) (j k : ℕ) (c : List ℕ) → sequence_of (point j) ≡ j
    → sequence_of (point k) ≡ k → Names c (point j) → Names c (point k) → j ≡ k
one_number point j k c at_j at_k first second = sym at_j
    ∙ ap sequence_of (names_one c (point j) (point k) first second) ∙ at_k

-- A store that was begun is one savepoint more, whether it ended or not: each tie is an older one, or says of the new
-- savepoint when it had ended.
pub save_step : {D : Type 0} {clock : D → ℕ} {image_at : D → ℕ → List ℕ → Type 0} {point : ℕ → Option Savepoint}
    {from low s : ℕ} {old new : D} {was now : List Tie} (p : Savepoint)
    → SaveTold clock image_at point from low s old was
    → point (s + 1) ≡ Some p → p.sequence ≡ s + 1
    → Runs clock image_at old new (NamesOldOrNew (point s) p)
    → ((tie : Tie) → Contains now tie → Contains was tie ⊎ IsNewest clock image_at (s + 1) p new tie)
    → SaveTold clock image_at point from low (s + 1) new now
save_step {clock = clock} {image_at = image_at} {point = point} {from = from} {low = low} {s = s} {old = old}
    {new = new} {was = was} {now = now} p told is sequence runs split =
    let numbered : (k : ℕ) → low ≤ k → k ≤ s + 1 → sequence_of (point k)
    ≡ k = λ k at_least at_most. elim (cases_eq k (s + 1)) [
      | inl last ↦ ap (λ j. sequence_of (point j)) last ∙ ap sequence_of is ∙ sequence ∙ sym last
      | inr other ↦ told.numbered k at_least (omega arith)
    ] in
    let ordered = told.ordered in
    let newest_is : (c : List ℕ) → Names c (Some p)
    → Names c (point (s + 1)) = λ c names. subst (λ x. Names c x) (sym is) names in
    let late : (m : ℕ) (c : List ℕ) → clock old < m → m ≤ clock new → image_at new m c → (k : ℕ) → low ≤ k
    → k ≤ s + 1 → Names c (point k) → s ≤ k = λ m c after come image k at_least at_most names.
    elim (runs.leaves m c after come image) [
      | inl old_is ↦ let same = one_number point k s c (numbered k at_least at_most)
          (numbered s ordered (omega arith)) names old_is in omega (arith, same)
      | inr new_is ↦ let same = one_number point k (s + 1) c (numbered k at_least at_most)
          (numbered (s + 1) (omega (arith, ordered)) (omega arith)) names (newest_is c new_is) in omega (arith, same)
    ] in
    record {
      ordered = omega (arith, ordered);
      began = omega (arith, told.began, runs.later);
      numbered = numbered;
      names = λ m c since come image. elim (cases_lt (clock old) m) [
        | inr before ↦ let was_is = told.names m c since before (runs.no_new m c before image) in
            (was_is.0, was_is.1, omega (arith, was_is.2), was_is.3)
        | inl after ↦ elim (runs.leaves m c after come image) [
          | inl old_is ↦ (s, ordered, omega arith, old_is)
          | inr new_is ↦ (s + 1, omega (arith, ordered), omega arith, newest_is c new_is)
        ]
      ];
      newest = λ tie has. elim (split tie has) [
        | inl older ↦ omega
            (arith, told.newest tie older)
        | inr this ↦ omega (arith, this.sequence)
      ];
      ended_time = λ tie end has ended. elim (split tie has) [
        | inl older ↦ omega (arith, told.ended_time tie end older ended, runs.later)
        | inr this ↦ omega (arith, this.at_end end ended)
      ];
      ended = λ tie end m c k has ended since past come image at_least at_most names. elim (split tie has) [
        | inl older ↦ elim (cases_lt (clock old) m) [
          | inr before ↦
              let was_image = runs.no_new m c before image in
              let was_is = told.names m c since before was_image in
              let at_most_k = told.ended tie end m c was_is.0 older ended since past before was_image was_is.1 was_is.2
              was_is.3 in
              let same = one_number point k was_is.0 c (numbered k at_least at_most)
              (numbered was_is.0 was_is.1 (omega (arith, was_is.2))) names was_is.3 in
              omega (arith, at_most_k, same)
          | inl after ↦ omega (arith, told.newest tie older, late m c after come image k at_least at_most names)
        ]
        | inr this ↦
            let here : m ≡ clock new = omega (arith, this.at_end end ended, past, come) in
            let new_is = this.names end c ended (subst (λ j. image_at new j c) here image) in
            let same = one_number point k (s + 1) c (numbered k at_least at_most)
            (numbered (s + 1) (omega (arith, ordered)) (omega arith)) names (newest_is c new_is) in
            omega (arith, this.sequence, same)
      ];
    }

-- the store answered that it is done
pub save_stored : {D : Type 0} {clock : D → ℕ} {image_at : D → ℕ → List ℕ → Type 0} {point : ℕ → Option Savepoint}
    {from low s : ℕ} {old new : D} {was now : List Tie} {file : List ℕ} (p : Savepoint) (t : ℕ)
    → SaveTold clock image_at point from low s old was
    → point (s + 1) ≡ Some p → p.sequence ≡ s + 1
    → Runs clock image_at old new (NamesOldOrNew (point s) p)
    → Only clock image_at new file → Names file (Some p)
    → now ≡ was ++ record { sequence = s + 1; snaps = t; ended = Some (clock new) } ∷ []
    → SaveTold clock image_at point from low (s + 1) new now
save_stored {was = was} {now = now} p t told is sequence runs only names ties = save_step {was = was}
    {now = now} p told is sequence runs
    (λ tie has. elim (Contains-push_cases was _ tie (subst (λ l. Contains l tie) ties has)) [
      | inl older ↦ inl older
      | inr this ↦ inr (record {
        sequence = sym (ap (λ (x : Tie). x.sequence) this);
        at_end = λ end ended. let e = ap (λ (x : Tie). x.ended) this in cc;
        names = λ end c ended image. subst (λ l. Names l (Some p)) (sym (only c image)) names;
      })
    ])

-- or it failed
pub save_failed : {D : Type 0} {clock : D → ℕ} {image_at : D → ℕ → List ℕ → Type 0} {point : ℕ → Option Savepoint}
    {from low s : ℕ} {old new : D} {was now : List Tie} (p : Savepoint) (t : ℕ)
    → SaveTold clock image_at point from low s old was
    → point (s + 1) ≡ Some p → p.sequence ≡ s + 1
    → Runs clock image_at old new (NamesOldOrNew (point s) p)
    → now ≡ was ++ record { sequence = s + 1; snaps = t; ended = None } ∷ []
    → SaveTold clock image_at point from low (s + 1) new now
save_failed {was = was} {now = now} p t told is sequence runs ties = save_step {was = was}
    {now = now} p told is sequence runs
    (λ tie has. elim (Contains-push_cases was _ tie (subst (λ l. Contains l tie) ties has)) [
      | inl older ↦ inl older
      | inr this ↦
          let never : None ≡ tie.ended = ap (λ (x : Tie). x.ended) this in
          inr (record {
            sequence = sym (ap (λ (x : Tie). x.sequence) this);
            at_end = λ end ended. absurd (cc (never, ended));
            names = λ end c ended image. absurd (cc (never, ended));
          })
    ])

-- before the first store
pub save_begun : {D : Type 0} {clock : D → ℕ} {image_at : D → ℕ → List ℕ → Type 0} {point : ℕ → Option Savepoint}
    {from s : ℕ} {save : D} (ties : List Tie)
    → ties ≡ [] → sequence_of (point s) ≡ s → from ≤ clock save
    → ((m : ℕ) (c : List ℕ) → from ≤ m → m ≤ clock save → image_at save m c → Names c (point s))
    → SaveTold clock image_at point from s s save ties
save_begun {clock = clock} {image_at = image_at} {point = point} {s = s} {save = save} ties none number came names =
    let no_tie : (tie : Tie) → Contains ties tie → ⊥ = λ tie has.
    let h = subst (λ l. Contains l tie) none has in omega (arith, h.1) in
    record {
      ordered = omega arith;
      began = came;
      numbered = λ k at_least at_most. let same : k ≡ s = omega arith in ap (λ j. sequence_of (point j)) same
          ∙ number ∙ sym same;
      names = λ m c since come image. (s, omega arith, omega arith, names m c since come image);
      newest = λ tie has. absurd (no_tie tie has);
      ended_time = λ tie end has ended. absurd (no_tie tie has);
      ended = λ tie end m c k has ended since past come image at_least at_most named. absurd (no_tie tie has);
    }
