-- All devices from one call to the next.
use Rattle.std.proofs.Common.{◌≡◌, ◌≢◌, ◌≤◌, ◌⊎◌, ◌++◌, ◌∷◌, inl, inr, ℕ}
use Rattle.std.proofs.Common.{List, [], Option, Some, length, sym, ◌∙◌, ap, subst, arith}
use Rattle.std.specs.List.{Contains}
use Rattle.std.proofs.lemmas.Bool.{cases_eq}
use Rattle.std.proofs.lemmas.Option.{same_Some}
use Rattle.std.proofs.lemmas.List.Elements.{Contains-push_cases, Contains-push, Contains-append_left}
use Rattle.outside.specs.declared.device.Device.TheVariants.{Bank}
use Rattle.log_writer.specs.declared.records.Tie.{Tie}
use Rattle.log_writer.specs.declared.records.Cut.{Cut}
use Rattle.outside.specs.Disk.{Shortened, Goes}
use Rattle.joint_crashes.specs.Images.{counted_of}
use Rattle.joint_crashes.specs.JointCrash.{Parts, Moments, HasCut}
use Rattle.joint_crashes.specs.Story.{Story, BankTold, IsTold}
use Rattle.joint_crashes.specs.Crashes.BankSteps.{bank_cut, bank_told_frame}

-- the devices and records, each by itself
abbrev pub parts : {D : Type 0} → D → D → (ℕ → Option D) → List Tie → List Cut → Parts D
parts save snaps banks ties cuts = record { save = save; snaps = snaps; banks = banks; ties = ties; cuts = cuts }

module _ {D : Type 0} {clock : D → ℕ} {image_at : D → ℕ → List ℕ → Type 0} {story : Story} {from : Moments}
    {low : ℕ} where
  -- A log file of which the newest savepoint counts nothing is cut.
  pub told_cut : {high : ℕ} {save snaps : D} {banks_was banks_now : ℕ → Option D} {ties : List Tie}
      {cuts_was cuts_now : List Cut} {old new : D} (n : ℕ)
      → IsTold clock image_at story from low high (parts save snaps banks_was ties cuts_was)
      → banks_was n ≡ Some old → banks_now n ≡ Some new
      → ((other : ℕ) → other ≢ n → banks_now other ≡ banks_was other)
      → story.counted high n ≡ []
      → (high ≤ low) ⊎ ((tie : Tie) × (end : ℕ) × Contains ties tie × (tie.sequence ≡ high) × (tie.ended ≡ Some end))
      → Goes clock image_at (Shortened 0) old new
      → cuts_now ≡ cuts_was ++ record { device = Bank n; at = clock old; after = high } ∷ []
      → IsTold clock image_at story from low high (parts save snaps banks_now ties cuts_now)
  told_cut {high = high} {banks_was = banks_was} {banks_now = banks_now} {cuts_was = cuts_was}
      {cuts_now = cuts_now} {old = old} {new = new} n told before after others none tie goes cuts =
      let this : Cut = record { device = Bank n; at = clock old; after = high } in
      let has_this : HasCut cuts_now (Bank n) (clock old) high = subst (λ l. Contains l this) (sym cuts)
      (Contains-push cuts_was this) in
      let keeps : (m b a : ℕ) → HasCut cuts_was (Bank m) b a
      → HasCut cuts_now (Bank m) b a = λ m b a has.
      subst (λ l. Contains l (record { device = Bank m; at = b; after = a })) (sym cuts)
      (Contains-append_left cuts_was _ _ has) in
      let splits : (m b a : ℕ) → HasCut cuts_now (Bank m) b a
      → HasCut cuts_was (Bank m) b a ⊎ (this ≡ record { device = Bank m; at = b; after = a }) = λ m b a has.
      Contains-push_cases cuts_was this _ (subst
      (λ l. Contains l (record { device = Bank m; at = b; after = a })) cuts has) in
      record {
        save = told.save;
        snaps = told.snaps;
        bank = λ m bank there. elim (cases_eq m n) [
          | inl same ↦
              let is : bank ≡ new = same_Some bank new (sym there ∙ ap banks_now same ∙ after) in
              subst (λ j. BankTold clock image_at (λ k. story.counted k j) (from.bank j) low high bank
              (HasCut cuts_now (Bank j))) (sym same)
              (subst (λ d. BankTold clock image_at (λ k. story.counted k n) (from.bank n) low high d
              (HasCut cuts_now (Bank n))) (sym is)
              (bank_cut (told.bank n old before) (keeps n) has_this none goes))
          | inr other ↦ bank_told_frame (keeps m) (told.bank m bank (sym (others m other) ∙ there))
        ];
        sized = λ m k bank there at_least at_most. elim (cases_eq m n) [
          | inl same ↦ subst (λ j. length (story.counted k j) ≡ counted_of (story.point k) j) (sym same)
              (told.sized n k old before at_least at_most)
          | inr other ↦ told.sized m k bank (sym (others m other) ∙ there) at_least at_most
        ];
        older = λ m b a has. elim (splits m b a has) [
          | inl first ↦ told.older m b a first
          | inr is ↦ omega (arith, ap (λ (c : Cut). c.after) is)
        ];
        allowed = λ m b a has. elim (splits m b a has) [
          | inl first ↦ told.allowed m b a first
          | inr is ↦
              let same : high ≡ a = ap (λ (c : Cut). c.after) is in
              elim tie [
                | inl first ↦ inl (omega (arith, same, first))
                | inr tied ↦ inr (tied.0, tied.1, tied.2, tied.3 ∙ same, tied.4)
              ]
        ];
      }
