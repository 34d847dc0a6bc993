-- What a cut of a device of a vault did, as laws for those who use one.
use Rattle.std.specs.Prelude.{◌≡◌, ◌≢◌, ◌<◌, ◌≤◌, ℕ, ◌+◌, ◌*◌, ◌/◌, ◌%◌, ◌==◌, Bool, true, false, if◌then◌else◌, List, [], length, Option, Some, None, IsSome, is_some, slice_get, Result, refl}
use Rattle.std.proofs.Common.{inl, inr, sym, ◌∙◌, ap, arith}
use Rattle.std.proofs.lemmas.Option.{same_Some, slice_get_cases, slice_get_past}
use Rattle.outside.specs.declared.device.Device.{Device}
use Rattle.outside.specs.declared.device.Device.TheVariants.{Snaps, Bank}
use Rattle.log_writer.specs.declared.vault.Vault.{Vault}
use Rattle.log_writer.specs.Vault.{disk_in, IsWhole, CutsIn}

-- a list has an item at each index within it
some_within : {A : Type 0} (xs : List A) (i : ℕ) → i < length xs → IsSome (slice_get xs i)
some_within xs i within = elim (slice_get_cases xs i).1 [ inl there ↦ ap is_some there.2 | inr past ↦ absurd (omega (arith, past.0)) ]

-- and so has the one that is chosen of two
some_of_two : {A : Type 0} (first : Bool) (xs ys : List A) (i : ℕ) → i < length xs → i < length ys → IsSome (slice_get (if first then xs else ys) i)
some_of_two true xs ys i in_xs in_ys = some_within xs i in_xs
some_of_two false xs ys i in_xs in_ys = some_within ys i in_ys

-- past the end of both there is none
none_of_two : {A : Type 0} (first : Bool) (xs ys : List A) (i : ℕ) → length xs ≤ i → length ys ≤ i → slice_get (if first then xs else ys) i ≡ None
none_of_two true xs ys i past_xs past_ys = slice_get_past xs i past_xs
none_of_two false xs ys i past_xs past_ys = slice_get_past ys i past_ys

-- a whole vault has the banks 0 to 15
pub whole_bank : {D : Type 0} {vault : Vault D} → IsWhole vault → (n : ℕ) → n < 16 → IsSome (disk_in vault (Bank n))
whole_bank {vault = vault} whole n below =
    some_of_two (n % 2 == 0) vault.even.items vault.odd.items (n / 2) (omega (arith, whole.even)) (omega (arith, whole.odd))

-- and no more
pub whole_ends : {D : Type 0} {vault : Vault D} → IsWhole vault → (n : ℕ) → 16 ≤ n → disk_in vault (Bank n) ≡ None
whole_ends {vault = vault} whole n above =
    none_of_two (n % 2 == 0) vault.even.items vault.odd.items (n / 2) (omega (arith, whole.even)) (omega (arith, whole.odd))

-- a vault without log files has no bank
pub no_bank : {D : Type 0} (vault : Vault D) → vault.even.items ≡ [] → vault.odd.items ≡ [] → (n : ℕ) (bank : D)
    → disk_in vault (Bank n) ≡ Some bank → ⊥
no_bank vault even odd n bank there =
    let none : disk_in vault (Bank n) ≡ None = none_of_two (n % 2 == 0) vault.even.items vault.odd.items (n / 2)
    (omega (arith, ap length even)) (omega (arith, ap length odd)) in
    cc (there, none)

-- a worker's first bank
pub disk_in-even : {D : Type 0} (vault : Vault D) (w : ℕ) → disk_in vault (Bank (2 * w)) ≡ slice_get vault.even.items w
disk_in-even vault w =
    let rest : (2 * w) % 2 ≡ 0 = omega arith in
    let half : (2 * w) / 2 ≡ w = omega arith in
    rw (rest, half) refl

-- and its second
pub disk_in-odd : {D : Type 0} (vault : Vault D) (w : ℕ) → disk_in vault (Bank (2 * w + 1)) ≡ slice_get vault.odd.items w
disk_in-odd vault w =
    let rest : (2 * w + 1) % 2 ≡ 1 = omega arith in
    let half : (2 * w + 1) / 2 ≡ w = omega arith in
    rw (rest, half) refl

module _ {D T E : Type 0} {tells : D → Option (List ℕ)} {clock : D → ℕ} {image_at : D → ℕ → List ℕ → Type 0} {faults : D → ℕ} {device : Device} {old new : Vault D} {result : Result T E} where
  -- another device's disk is the one that it was
  pub keeps_disk : {was now : D} → CutsIn tells clock image_at faults device old new result
      → (other : Device) → other ≢ device
      → disk_in old other ≡ Some was → disk_in new other ≡ Some now → now ≡ was
  keeps_disk cut other differs before after = same_Some _ _ (sym after ∙ cut.others other differs ∙ before)

-- a vault stays whole
pub whole_cut : {D T E : Type 0} {tells : D → Option (List ℕ)} {clock : D → ℕ} {image_at : D → ℕ → List ℕ → Type 0} {faults : D → ℕ} {device : Device} {old new : Vault D} {result : Result T E}
    → CutsIn tells clock image_at faults device old new result → IsWhole old → IsWhole new
whole_cut cut whole = record { even = cut.even ∙ whole.even; odd = cut.odd ∙ whole.odd }

-- a bank is another device than the snapshots
snaps_not_bank : (n : ℕ) → Snaps ≢ Bank n
snaps_not_bank n same = cc

-- banks of two numbers are two
banks_differ : (m n : ℕ) → m ≢ n → Bank m ≢ Bank n
banks_differ m n differ same = differ cc

module _ {D T E : Type 0} {tells : D → Option (List ℕ)} {clock : D → ℕ} {image_at : D → ℕ → List ℕ → Type 0} {faults : D → ℕ} {old new : Vault D} {result : Result T E} where
  -- the snapshots stay where a bank is cut
  pub bank_keeps_snaps : (n : ℕ) → CutsIn tells clock image_at faults (Bank n) old new result → new.snaps ≡ old.snaps
  bank_keeps_snaps n cut = keeps_disk cut Snaps (snaps_not_bank n) refl refl

  -- and each other bank
  pub bank_keeps_bank : (m n : ℕ) → m ≢ n → CutsIn tells clock image_at faults (Bank n) old new result
      → disk_in new (Bank m) ≡ disk_in old (Bank m)
  bank_keeps_bank m n differ cut = cut.others (Bank m) (banks_differ m n differ)
