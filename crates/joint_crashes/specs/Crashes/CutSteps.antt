-- One cut more.
use Rattle.std.proofs.Common.{◌≡◌, ◌≢◌, ◌<◌, ◌⊎◌, ◌++◌, ◌∷◌, inl, inr, ℕ}
use Rattle.std.proofs.Common.{List, [], Some, refl, sym, ◌∙◌, ap, subst, arith}
use Rattle.std.specs.List.{Contains}
use Rattle.std.proofs.lemmas.Bool.{cases_eq}
use Rattle.std.proofs.lemmas.Option.{same_Some}
use Rattle.std.proofs.lemmas.List.Elements.{Contains-push_cases, Contains-push, Contains-append_left}
use Rattle.outside.specs.declared.device.Device.TheVariants.{Bank}
use Rattle.log_writer.specs.declared.records.Cut.{Cut}
use Rattle.outside.specs.Disk.{Shortened, Goes, LeavesEach}
use Rattle.lists.specs.Fronts.{IsFront}
use Rattle.joint_crashes.specs.Story.{Lasts}
use Rattle.joint_crashes.specs.JointCrash.{Parts, Moments, HasCut}
use Rattle.joint_crashes.specs.Story.{Story, IsTold, BankOpen}
use Rattle.joint_crashes.specs.Cutting.{HadEnded, AreReady, ArePast, CutsLeave, AreCut}
use Rattle.joint_crashes.specs.Crashes.BankSteps.{bank_cut_open, bank_open_frame}
use Rattle.joint_crashes.specs.Crashes.ToldSteps.{told_cut}
use Rattle.joint_crashes.specs.Crashes.Instants.{lasts_none, lasts_goes, keeps_by, keeps_none, keeps_then}

-- the device and the moment of a cut are those of another
cut_bank : (m n at b high a : ℕ) → (let x : Cut = record { device = Bank n; at = at; after = high } in x) ≡ record
    { device = Bank m; at = b; after = a } → (m ≡ n) × (b ≡ at) × (a ≡ high)
cut_bank m n at b high a same =
    let device : Bank n ≡ Bank m = ap (λ (c : Cut). c.device) same in
    (cc device, sym (ap (λ (c : Cut). c.at) same), sym (ap (λ (c : Cut). c.after) same))

module _ {D : Type 0} {clock : D → ℕ} {image_at : D → ℕ → List ℕ → Type 0} {story : Story} {from : Moments}
    {low high : ℕ} where
  -- no cut so far
  pub cuts_none : {parts : Parts D} → IsTold clock image_at story from low high parts
      → AreReady clock image_at story high parts → ArePast clock image_at parts
      → AreCut clock image_at story from low high [] parts parts
  cuts_none told ready past = record {
    left = record { told = told; ready = ready; stays = keeps_none };
    past = past;
    empty = λ n bank has. absurd (omega (arith, has.1));
    others = λ n other. refl;
    open_others = λ n bank made other opened. opened;
  }

  -- this one was begun
  pub cut_begun : {first old new : Parts D} {was now : D} (n : ℕ)
      → CutsLeave clock image_at story from low high first old
      → old.banks n ≡ Some was → new.banks n ≡ Some now
      → ((other : ℕ) → other ≢ n → new.banks other ≡ old.banks other)
      → new.save ≡ old.save → new.snaps ≡ old.snaps → new.ties ≡ old.ties
      → new.cuts ≡ old.cuts ++ record { device = Bank n; at = clock was; after = high } ∷ []
      → story.counted high n ≡ [] → HadEnded old low high
      → Goes clock image_at (Shortened 0) was now
      → CutsLeave clock image_at story from low high first new
  cut_begun {first = first} {old = old} {new = new} {was = was}
      {now = now} n left before after others save snaps ties cuts none ended goes =
      let this : Cut = record { device = Bank n; at = clock was; after = high } in
      let splits : (m b a : ℕ) → HasCut new.cuts (Bank m) b a
      → HasCut old.cuts (Bank m) b a ⊎ ((m ≡ n) × (b ≡ clock was) × (a ≡ high)) = λ m b a has.
      elim (Contains-push_cases old.cuts this _ (subst
      (λ l. Contains l (record { device = Bank m; at = b; after = a })) cuts has)) [
        | inl older ↦ inl older
        | inr is ↦ inr (cut_bank m n (clock was) b high a is)
      ] in
      let cut = told_cut {save = old.save} {snaps = old.snaps} {banks_was = old.banks} {banks_now = new.banks}
      {ties = old.ties} {cuts_was = old.cuts}
      {cuts_now = new.cuts} n left.told before after others none ended goes cuts in
      record {
        told = subst (λ s. IsTold clock image_at story from low high
            (record { save = s; snaps = new.snaps; banks = new.banks; ties = new.ties; cuts = new.cuts })) (sym save)
            (subst (λ s. IsTold clock image_at story from low high
            (record { save = old.save; snaps = s; banks = new.banks; ties = new.ties; cuts = new.cuts }))
            (sym snaps)
            (subst (λ s. IsTold clock image_at story from low high
            (record { save = old.save; snaps = old.snaps; banks = new.banks; ties = s; cuts = new.cuts }))
            (sym ties) cut));
        ready = λ m bank there. elim (cases_eq m n) [
          | inl same ↦
              let is : bank ≡ now = same_Some bank now (sym there ∙ ap new.banks same ∙ after) in
              record {
                now = λ c image. subst (λ l. IsFront l c) (sym (ap (story.counted high) same ∙ none)) refl;
                past = λ b a has less. elim (splits m b a has) [
                  | inl older ↦ omega (
                    arith,
                    (left.ready n was before).past b a
                        (subst (λ j. HasCut old.cuts (Bank j) b a) same older) less,
                    goes.later,
                    ap clock is,
                  )
                  | inr this ↦ absurd (omega (arith, this.2, less))
                ];
              }
          | inr other ↦
              let ready = left.ready m bank (sym (others m other) ∙ there) in
              record {
                now = ready.now;
                past = λ b a has less.
                    elim (splits m b a has) [
                      | inl older ↦ ready.past b a older less
                      | inr this ↦ absurd
                          (other this.0)
                    ];
              }
        ];
        stays = keeps_then left.stays (keeps_by {s = high} {old = old} {new = new} left.told
            (subst (λ d. Lasts clock image_at old.save d) (sym save) lasts_none)
            (subst (λ d. Lasts clock image_at old.snaps d) (sym snaps) lasts_none)
            (λ m bank there. elim (cases_eq m n) [
              | inl same ↦ let is : bank ≡ now = same_Some bank now (sym there ∙ ap new.banks same ∙ after) in
                  (was, ap old.banks same ∙ before, subst (λ d. Lasts clock image_at was d) (sym is) (lasts_goes goes))
              | inr other ↦ (bank, sym (others m other) ∙ there, lasts_none)
            ])
            (λ tie has. inl (subst (λ l. Contains l tie) ties has))
            (λ m bank there b a has. elim (splits m b a has) [
              | inl older ↦ inl older
              | inr this ↦
                  let is : bank ≡ was = same_Some bank was (sym there ∙ ap old.banks this.0 ∙ before) in
                  inr (omega (arith, this.2), omega (arith, this.1, ap clock is))
            ]));
      }

  -- and it was done
  pub cut_done : {numbers : List ℕ} {first old new : Parts D} {was now : D} (n : ℕ)
      → AreCut clock image_at story from low high numbers first old
      → old.banks n ≡ Some was → new.banks n ≡ Some now
      → ((other : ℕ) → other ≢ n → new.banks other ≡ old.banks other)
      → new.save ≡ old.save → new.snaps ≡ old.snaps → new.ties ≡ old.ties
      → new.cuts ≡ old.cuts ++ record { device = Bank n; at = clock was; after = high } ∷ []
      → story.counted high n ≡ [] → HadEnded old low high
      → Goes clock image_at (Shortened 0) was now
      → LeavesEach clock image_at (Shortened 0) was now (clock now) → clock was < clock now → (file : List ℕ)
      → image_at was (clock was) file
      → AreCut clock image_at story from low high (numbers ++ n ∷ []) first new
  cut_done {numbers = numbers} {first = first} {old = old} {new = new} {was = was}
      {now = now} n so_far before after others save snaps ties cuts none ended goes each ticks file image =
      let this : Cut = record { device = Bank n; at = clock was; after = high } in
      let keeps : (m b a : ℕ) → HasCut old.cuts (Bank m) b a
      → HasCut new.cuts (Bank m) b a = λ m b a has.
      subst (λ l. Contains l (record { device = Bank m; at = b; after = a })) (sym cuts)
      (Contains-append_left old.cuts _ _ has) in
      let splits : (m b a : ℕ) → HasCut new.cuts (Bank m) b a
      → HasCut old.cuts (Bank m) b a ⊎ ((m ≡ n) × (b ≡ clock was) × (a ≡ high)) = λ m b a has.
      elim (Contains-push_cases old.cuts this _ (subst
      (λ l. Contains l (record { device = Bank m; at = b; after = a })) cuts has)) [
        | inl older ↦ inl older
        | inr is ↦ inr (cut_bank m n (clock was) b high a is)
      ] in
      let others_back : (m : ℕ) → m ≢ n → (b a : ℕ) → HasCut new.cuts (Bank m) b a
      → HasCut old.cuts (Bank m) b a = λ m other b a has.
      elim (splits m b a has) [ inl older ↦ older | inr is ↦ absurd (other is.0) ] in
      let here : BankOpen clock image_at (λ j. story.counted j n) (from.bank n) low high now
      (HasCut new.cuts (Bank n)) [] =
      bank_cut_open (so_far.past n was before)
      (λ b a has. elim (splits n b a has) [ inl older ↦ inl older | inr is ↦ inr (is.1, is.2) ])
      (subst (λ l. Contains l this) (sym cuts) (Contains-push old.cuts this)) none each ticks file image in
      let here_at : (m : ℕ) (bank : D) → m ≡ n → new.banks m ≡ Some bank
      → BankOpen clock image_at (λ j. story.counted j m) (from.bank m) low high bank
      (HasCut new.cuts (Bank m)) [] = λ m bank same there.
      subst (λ j. BankOpen clock image_at (λ k. story.counted k j) (from.bank j) low high bank
      (HasCut new.cuts (Bank j)) []) (sym same)
      (subst (λ d. BankOpen clock image_at (λ k. story.counted k n) (from.bank n) low high d
      (HasCut new.cuts (Bank n)) []) (same_Some now bank (sym after ∙ ap new.banks (sym same) ∙ there)) here) in
      record {
        left = cut_begun n so_far.left before after others save snaps ties cuts none ended goes;
        past = λ m bank there. elim (cases_eq m n) [
          | inl same ↦ (here_at m bank same there).past
          | inr other ↦ λ b a has. so_far.past m bank (sym (others m other) ∙ there) b a (others_back m other b a has)
        ];
        empty = λ m bank has there. elim (cases_eq m n) [
          | inl same ↦ here_at m bank same there
          | inr other ↦ elim (Contains-push_cases numbers n m has) [
            | inl before ↦ bank_open_frame (keeps m) (others_back m other)
                (so_far.empty m bank before (sym (others m other) ∙ there))
            | inr is ↦ absurd (other (sym is))
          ]
        ];
        others = λ m other.
            others m (λ same. other (subst (λ j. Contains (numbers ++ n ∷ []) j) (sym same) (Contains-push numbers n)))
            ∙ so_far.others m (λ has. other (Contains-append_left numbers (n ∷ []) m has));
        open_others = λ m bank made other opened.
            let is : m ≢ n = λ same. other (subst (λ j. Contains (numbers ++ n ∷ []) j) (sym same)
            (Contains-push numbers n)) in
            bank_open_frame (keeps m) (others_back m is)
            (so_far.open_others m bank made (λ has. other (Contains-append_left numbers (n ∷ []) m has)) opened);
      }
