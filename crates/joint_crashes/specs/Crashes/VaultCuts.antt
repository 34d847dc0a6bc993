-- A cut of a log file of a vault, by what the call ensures.
use Rattle.std.proofs.Common.{◌≡◌, ◌++◌, ◌∷◌, inl, inr, ℕ, true, List, []}
use Rattle.std.proofs.Common.{Option, Some, sym, ◌∙◌, ap, subst, arith}
use Rattle.std.specs.Prelude.{◌≤◌, IsSome, is_some, Result, Ok, Err, OnErr}
use Rattle.std.specs.List.{Contains}
use Rattle.std.proofs.lemmas.Bool.{cases_eq}
use Rattle.std.proofs.lemmas.Option.{same_Some}
use Rattle.std.proofs.lemmas.List.Elements.{Contains-push_cases}
use Rattle.outside.specs.declared.device.Device.TheVariants.{Bank}
use Rattle.log_writer.specs.declared.vault.Vault.{Vault}
use Rattle.outside.specs.Faults.{Rose}
use Rattle.log_writer.specs.Vault.{disk_in, CutsIn}
use Rattle.log_writer.specs.Cuts.{bank_keeps_snaps, bank_keeps_bank}
use Rattle.joint_crashes.specs.JointCrash.{Moments, parts_of}
use Rattle.joint_crashes.specs.Story.{Story}
use Rattle.joint_crashes.specs.Cutting.{FaultsLast, FaultsStand, HadEnded, AreToldIn, CutsLeave, AreCut}
use Rattle.joint_crashes.specs.Crashes.CutSteps.{cut_begun, cut_done}
use Rattle.joint_crashes.specs.VaultReads.{some_of}

module _ {D T E : Type 0} {tells : D → Option (List ℕ)} {clock : D → ℕ} {image_at : D → ℕ → List ℕ → Type 0}
    {faults : D → ℕ} {story : Story} {from : Moments} {low high : ℕ}
    (reads : (disk : D) (file : List ℕ) → tells disk ≡ Some file → image_at disk (clock disk) file) where
  pub vault_begun : {r : Result T E} (first : Vault D) {old new : Vault D} (n : ℕ)
      → CutsLeave clock image_at story from low high (parts_of first) (parts_of old)
      → IsSome (disk_in old (Bank n))
      → CutsIn tells clock image_at faults (Bank n) old new r
      → ((was : D) → disk_in old (Bank n) ≡ Some was → new.cuts.items ≡ old.cuts.items ++ record
      { device = Bank n; at = clock was; after = high } ∷ [])
      → new.save ≡ old.save → new.ties ≡ old.ties
      → story.counted high n ≡ [] → HadEnded (parts_of old) low high
      → CutsLeave clock image_at story from low high (parts_of first) (parts_of new)
  vault_begun first {old = old} {new = new} n left there cut recorded save ties none ended =
      let was = some_of (disk_in old (Bank n)) there in
      let now = cut.cut was.0 was.1 in
      cut_begun {first = parts_of first} {old = parts_of old}
      {new = parts_of new} n left was.1 now.1 (λ other differs. bank_keeps_bank other n differs cut) save
      (bank_keeps_snaps n cut) (ap (λ t. t.items) ties) (recorded was.0 was.1) none ended now.2.goes.moments

  pub vault_done : {x : T} {numbers : List ℕ} (first : Vault D) {old new : Vault D} (n : ℕ)
      → AreCut clock image_at story from low high numbers (parts_of first) (parts_of old)
      → IsSome (disk_in old (Bank n))
      → (let r : Result T E = Ok x in CutsIn tells clock image_at faults (Bank n) old new r)
      → ((was : D) → disk_in old (Bank n) ≡ Some was → new.cuts.items ≡ old.cuts.items ++ record
      { device = Bank n; at = clock was; after = high } ∷ [])
      → new.save ≡ old.save → new.ties ≡ old.ties
      → story.counted high n ≡ [] → HadEnded (parts_of old) low high
      → ((was : D) → disk_in old (Bank n) ≡ Some was → is_some (tells was) ≡ true)
      → AreCut clock image_at story from low high (numbers ++ n ∷ []) (parts_of first) (parts_of new)
  vault_done first {old = old} {new = new} n so_far there cut recorded save ties none ended tell =
      let was = some_of (disk_in old (Bank n)) there in
      let now = cut.cut was.0 was.1 in
      let file = some_of (tells was.0) (tell was.0 was.1) in
      cut_done {first = parts_of first} {old = parts_of old}
      {new = parts_of new} n so_far was.1 now.1 (λ other differs. bank_keeps_bank other n differs cut) save
      (bank_keeps_snaps n cut) (ap (λ t. t.items) ties) (recorded was.0 was.1) none ended
      now.2.goes.moments now.2.goes.each (omega (arith, now.2.goes.ticks.ok)) file.0 (reads was.0 file.0 file.1)

-- each log file that there was is there
pub still_there : {D T E : Type 0} {tells : D → Option (List ℕ)} {clock : D → ℕ}
    {image_at : D → ℕ → List ℕ → Type 0} {faults : D → ℕ} {r : Result T E} {old new : Vault D} (n m : ℕ)
    → CutsIn tells clock image_at faults (Bank n) old new r → IsSome (disk_in old (Bank m))
    → IsSome (disk_in new (Bank m))
still_there {old = old} {new = new} n m cut there = elim (cases_eq m n) [
  | inr other ↦ ap is_some (bank_keeps_bank m n other cut) ∙ there
  | inl same ↦
      let was = some_of (disk_in old (Bank n)) (subst (λ j. IsSome (disk_in old (Bank j))) same there) in
      let now = cut.cut was.0 was.1 in
      subst (λ j. IsSome (disk_in new (Bank j))) (sym same) (ap is_some now.1)
]

-- no log file's count of faults falls
pub later_cut : {D T E : Type 0} {tells : D → Option (List ℕ)} {clock : D → ℕ}
    {image_at : D → ℕ → List ℕ → Type 0} {faults : D → ℕ} {r : Result T E}
    {old new : Vault D} (first : Vault D) (n : ℕ)
    → FaultsLast faults first old → CutsIn tells clock image_at faults (Bank n) old new r
    → IsSome (disk_in old (Bank n)) → FaultsLast faults first new
later_cut {D} {faults = faults} {old = old} {new = new} first n last cut there m was now before after = elim
    (cases_eq m n) [
      | inr other ↦ last m was now before (sym (bank_keeps_bank m n other cut) ∙ after)
      | inl same ↦
          let mid = some_of (disk_in old (Bank n)) there in
          let end = cut.cut mid.0 mid.1 in
          let is_end : end.0 ≡ now = same_Some end.0 now
          (sym end.1 ∙ subst (λ j. disk_in new (Bank j) ≡ Some now) same after) in
          omega (
            arith,
            last n was mid.0 (subst (λ j. disk_in first (Bank j) ≡ Some was) same before) mid.1,
            end.2.goes.cause.later,
            ap faults is_end,
          )
    ]

-- nor does it rise where the cut was done
pub quiet_cut : {D T E : Type 0} {tells : D → Option (List ℕ)} {clock : D → ℕ} {image_at : D → ℕ → List ℕ → Type 0}
    {faults : D → ℕ} {x : T} {old new : Vault D} (first : Vault D) (n : ℕ)
    → FaultsStand faults first old
    → (let r : Result T E = Ok x in CutsIn tells clock image_at faults (Bank n) old new r)
    → IsSome (disk_in old (Bank n)) → FaultsStand faults first new
quiet_cut {D} {faults = faults} {old = old} {new = new} first n stand cut there m was now before after = elim
    (cases_eq m n) [
      | inr other ↦ stand m was now before (sym (bank_keeps_bank m n other cut) ∙ after)
      | inl same ↦
          let mid = some_of (disk_in old (Bank n)) there in
          let end = cut.cut mid.0 mid.1 in
          let is_end : end.0 ≡ now = same_Some end.0 now
          (sym end.1 ∙ subst (λ j. disk_in new (Bank j) ≡ Some now) same after) in
          ap faults (sym is_end) ∙ end.2.goes.cause.quiet
          ∙ stand n was mid.0 (subst (λ j. disk_in first (Bank j) ≡ Some was) same before) mid.1
    ]

-- and that of one rose whose cut failed
pub cut_rose : {D T E : Type 0} {tells : D → Option (List ℕ)} {clock : D → ℕ} {image_at : D → ℕ → List ℕ → Type 0}
    {faults : D → ℕ} {r : Result T E} {old new : Vault D} (first : Vault D) (n : ℕ) (fault : E)
    → r ≡ Err fault → FaultsLast faults first old → CutsIn tells clock image_at faults (Bank n) old new r
    → IsSome (disk_in old (Bank n))
    → (was now : D) → disk_in first (Bank n) ≡ Some was → disk_in new (Bank n) ≡ Some now
    → Rose (faults was) (faults now)
cut_rose {D} {faults = faults} {old = old} {new = new} first n fault is last cut there was now before after =
    let mid = some_of (disk_in old (Bank n)) there in
    let end = cut.cut mid.0 mid.1 in
    let is_end : end.0 ≡ now = same_Some end.0 now (sym end.1 ∙ after) in
    let rose : Rose (faults mid.0) (faults end.0) = subst
    (λ x. OnErr x (Rose (faults mid.0) (faults end.0))) is end.2.goes.cause.failed in
    let less : faults was ≤ faults mid.0 = last n was mid.0 before mid.1 in
    subst (λ d. Rose (faults was) (faults d)) is_end (omega (arith, rose, less))

-- and tells its bytes
pub still_told : {D T E : Type 0} {tells : D → Option (List ℕ)} {clock : D → ℕ}
    {image_at : D → ℕ → List ℕ → Type 0} {faults : D → ℕ} {r : Result T E}
    {old new : Vault D} (numbers : List ℕ) (n : ℕ)
    → Contains numbers n → IsSome (disk_in old (Bank n)) → CutsIn tells clock image_at faults (Bank n) old new r
    → AreToldIn tells numbers (parts_of old) → AreToldIn tells numbers (parts_of new)
still_told {tells = tells} {old = old} {new = new} numbers n has_n there cut tell m bank has is = elim (cases_eq m n) [
  | inr other ↦ tell m bank has (sym (bank_keeps_bank m n other cut) ∙ is)
  | inl same ↦
      let was = some_of (disk_in old (Bank n)) there in
      let now = cut.cut was.0 was.1 in
      let is_now : now.0 ≡ bank = same_Some now.0 bank
      (sym now.1 ∙ subst (λ j. disk_in new (Bank j) ≡ Some bank) same is) in
      ap (λ d. is_some (tells d)) (sym is_now) ∙ now.2.told ∙ tell n was.0 has_n was.1
]

-- a log file that was cut tells that it is empty
pub more_empty : {D T E : Type 0} {tells : D → Option (List ℕ)} {clock : D → ℕ}
    {image_at : D → ℕ → List ℕ → Type 0} {faults : D → ℕ} {x : T} {old new : Vault D} (cut_so_far : List ℕ) (n : ℕ)
    → IsSome (disk_in old (Bank n)) → (let r : Result T E = Ok x in CutsIn tells clock image_at faults
    (Bank n) old new r)
    → ((was : D) → disk_in old (Bank n) ≡ Some was → is_some (tells was) ≡ true)
    → ((m : ℕ) (bank : D) → Contains cut_so_far m → disk_in old (Bank m) ≡ Some bank → tells bank ≡ Some [])
    → (m : ℕ) (bank : D) → Contains (cut_so_far ++ n ∷ []) m → disk_in new (Bank m) ≡ Some bank → tells bank ≡ Some []
more_empty {tells = tells} {old = old} {new = new} cut_so_far n there cut tell empty m bank has is = elim
    (cases_eq m n) [
      | inl same ↦
          let was = some_of (disk_in old (Bank n)) there in
          let now = cut.cut was.0 was.1 in
          let file = some_of (tells was.0) (tell was.0 was.1) in
          let is_now : now.0 ≡ bank = same_Some now.0 bank
          (sym now.1 ∙ subst (λ j. disk_in new (Bank j) ≡ Some bank) same is) in
          subst (λ d. tells d ≡ Some []) is_now (now.2.cut file.0 file.1)
      | inr other ↦ elim (Contains-push_cases cut_so_far n m has) [
        | inl before ↦ empty m bank before (sym (bank_keeps_bank m n other cut) ∙ is)
        | inr same ↦ absurd (other (sym same))
      ]
    ]
