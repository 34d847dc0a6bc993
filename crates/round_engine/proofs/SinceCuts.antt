-- Moments of marks over the cuts of a swap.
use Rattle.std.proofs.Common.{◌≡◌, ◌∙◌, ◌∷◌, inl, inr, sym, ap, subst, ℕ, List, [], Option, Some}
use Rattle.std.specs.Prelude.{IsSome, Result, ⊤}
use Rattle.std.specs.List.{Contains}
use Rattle.std.proofs.lemmas.Bool.{cases_eq}
use Rattle.std.proofs.lemmas.List.Elements.{Contains-append_left, Contains-push, Contains-push_cases}
use Rattle.std.proofs.lemmas.Option.{same_Some}
use Rattle.lists.specs.Elements.{in_head, in_tail}
use Rattle.log_writer.specs.Cuts.{bank_keeps_bank}
use Rattle.log_writer.specs.Vault.{disk_in}
use Rattle.log_writer.specs.declared.records.Cut.{Cut}
use Rattle.log_writer.specs.declared.vault.Vault.{Vault}
use Rattle.outside.specs.declared.device.Device.TheVariants.{Bank}
use Rattle.outside.specs.declared.device.Device.{Device}
use Rattle.outside.specs.declared.fault.Failed.{Failed}
use Rattle.joint_crashes.specs.Causal.{AreSince, BankSince, Since}
use Rattle.joint_crashes.specs.Crashes.CausalSteps.{since_cut, since_frame}
use Rattle.joint_crashes.specs.Crashes.VaultCuts.{still_there}
use Rattle.joint_crashes.specs.JointCrash.{HasCut, Moments, parts_of}
use Rattle.joint_crashes.specs.Story.{Story}
use Rattle.joint_crashes.specs.VaultReads.{some_of}
use Rattle.round_engine.specs.Swaps.{CutsBank, CutsBanks}

-- one device, one number
same_bank : (a b : ℕ) → ◌≡◌ {A = Device} (Bank a) (Bank b) → a ≡ b
same_bank a b is = cc

module _ {D : Type 0} (tells : D → Option (List ℕ)) (clock : D → ℕ) (image_at : D → ℕ → List ℕ
    → Type 0) (faults : D → ℕ)
    (story : Story) (since : Since) (from : Moments) (low high : ℕ) where
  -- a log file was cut of which the newest savepoint counts nothing
  one_since : (first : ℕ) {result : Result ⊤ Failed} (old new : Vault D)
      → CutsBank tells clock image_at faults high first result old new → IsSome (disk_in old (Bank first))
      → story.counted high first ≡ [] → AreSince clock image_at story since from low high (parts_of old)
      → AreSince clock image_at story since from low high (parts_of new)
  one_since first old new cut there none stood n bank here =
      let was = some_of (disk_in old (Bank first)) there in
      let added = cut.recorded was.0 was.1 in
      let pushed : Cut = record { device = Bank first; at = clock was.0; after = high } in
      let keeps : (m began at : ℕ) → HasCut old.cuts.items (Bank m) began at → HasCut new.cuts.items (Bank m) began at =
      λ m began at has. subst (λ l. HasCut l (Bank m) began at) (sym added)
      (Contains-append_left old.cuts.items (pushed ∷ []) (record { device = Bank m; at = began; after = at }) has) in
      elim (cases_eq n first) [
        | inl same ↦
            let now = cut.cut.cut was.0 was.1 in
            let is : now.0 ≡ bank = same_Some now.0 bank
            (sym now.1 ∙ subst (λ j. disk_in new (Bank j) ≡ Some bank) same here) in
            subst (λ j. BankSince clock image_at (λ k. story.counted k j) (λ k. since k j) (from.bank j) low high bank
            (HasCut new.cuts.items (Bank j))) (sym same)
            (subst (λ d. BankSince clock image_at (λ k. story.counted k first) (λ k. since k first)
            (from.bank first) low
            high d (HasCut new.cuts.items (Bank first))) is
            (since_cut (stood first was.0 was.1) (keeps first)
            (λ began at has. elim (Contains-push_cases old.cuts.items _ _
            (subst (λ l. HasCut l (Bank first) began at) added has)) [
              | inl older ↦ inl older
              | inr this ↦ inr (sym (ap (λ (c : Cut). c.at) this), sym (ap (λ (c : Cut). c.after) this))
            ])
            (subst (λ l. HasCut l (Bank first) (clock was.0) high) (sym added)
            (Contains-push old.cuts.items pushed)) none
            now.2.goes.moments))
        | inr other ↦
            since_frame (keeps n)
            (λ began at has. elim (Contains-push_cases old.cuts.items _ _
            (subst (λ l. HasCut l (Bank n) began at) added has)) [
              | inl older ↦ older
              | inr this ↦ absurd (other (sym (same_bank first n (ap (λ (c : Cut). c.device) this))))
            ])
            (stood n bank (sym (bank_keeps_bank n first other cut.cut) ∙ here))
      ]

  -- and so were some, one after another, up to one that failed
  pub cuts_since : (numbers : List ℕ) (failed : Option ℕ) (old new : Vault D)
      → CutsBanks tells clock image_at faults high numbers failed old new
      → ((n : ℕ) → Contains numbers n → IsSome (disk_in old (Bank n)))
      → ((n : ℕ) → Contains numbers n → story.counted high n ≡ [])
      → AreSince clock image_at story since from low high (parts_of old)
      → AreSince clock image_at story since from low high (parts_of new)
  cuts_since [] failed old new cuts there none stood =
      subst (λ v. AreSince clock image_at story since from low high (parts_of v)) (sym cuts.1) stood
  cuts_since (first ∷ more) failed old new cuts there none stood = elim cuts [
    | inl made ↦ cuts_since more failed made.0 new made.2
        (λ m has. still_there first m made.1.cut (there m (in_tail m first more has)))
        (λ m has. none m (in_tail m first more has))
        (one_since first old made.0 made.1 (there first (in_head first more)) (none first (in_head first more)) stood)
    | inr broke ↦ one_since first old new broke.2 (there first (in_head first more)) (none first
        (in_head first more)) stood
  ]
