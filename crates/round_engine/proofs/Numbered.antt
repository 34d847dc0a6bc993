-- The numbers of the growing and of the closed log files, and where they stand in a vault.
use Rattle.std.proofs.Common.{◌≡◌, ◌+◌, ◌*◌, ◌<◌, ◌∙◌, ◌⊎◌, inl, inr, ap, refl, ℕ, length, true, false, cond, arith}
use Rattle.std.specs.Prelude.{◌%◌, ◌/◌, ◌==◌, slice_get}
use Rattle.std.proofs.lemmas.Bool.{cases_eq}
use Rattle.log_writer.specs.Cuts.{disk_in-even, disk_in-odd}
use Rattle.log_writer.specs.Vault.{IsWhole, disk_in}
use Rattle.outside.specs.declared.device.Device.TheVariants as devices
use Rattle.log_writer.specs.declared.vault.Vault.{Vault}
use Rattle.tx_script.specs.Causes.{file_of, log_of}
use Rattle.tx_script.specs.Run.{LogFiles}
use Rattle.worker_logs.specs.Saves.{closed_number, growing_number}
use Rattle.worker_logs.specs.declared.savepoints.Side.{Side}
use Rattle.worker_logs.specs.declared.savepoints.Side.TheVariants.{Even, Odd}
use Rattle.round_engine.specs.Ends.{is_closed}
use Rattle.round_engine.specs.Sides.{closed_in, growing_in, is_odd, other_side}

-- ---- where they stand

pub growing_at : {D : Type 0} (side : Side) (vault : Vault D) (w : ℕ)
    → disk_in vault (devices.Bank (growing_number side w)) ≡ slice_get (growing_in side vault) w
growing_at Even vault w = disk_in-even vault w
growing_at Odd vault w = disk_in-odd vault w

pub closed_at : {D : Type 0} (side : Side) (vault : Vault D) (w : ℕ)
    → disk_in vault (devices.Bank (closed_number side w)) ≡ slice_get (closed_in side vault) w
closed_at Even vault w = disk_in-odd vault w
closed_at Odd vault w = disk_in-even vault w

pub growing_many : {D : Type 0} (side : Side) (vault : Vault D) → IsWhole vault → length (growing_in side vault) ≡ 8
growing_many Even vault whole = whole.even
growing_many Odd vault whole = whole.odd

pub closed_many : {D : Type 0} (side : Side) (vault : Vault D) → IsWhole vault → length (closed_in side vault) ≡ 8
closed_many Even vault whole = whole.odd
closed_many Odd vault whole = whole.even

pub whole_of : {D : Type 0} (side : Side) (vault : Vault D) → length (growing_in side vault) ≡ 8
    → length (closed_in side vault) ≡ 8 → IsWhole vault
whole_of Even vault growing closed = record { even = growing; odd = closed }
whole_of Odd vault growing closed = record { even = closed; odd = growing }

-- ---- the other side

pub other_growing : (side : Side) (w : ℕ) → growing_number (other_side side) w ≡ closed_number side w
other_growing Even w = refl
other_growing Odd w = refl

pub other_closed : (side : Side) (w : ℕ) → closed_number (other_side side) w ≡ growing_number side w
other_closed Even w = refl
other_closed Odd w = refl

pub other_in : {D : Type 0} (side : Side) (vault : Vault D) → growing_in (other_side side) vault ≡ closed_in side vault
other_in Even vault = refl
other_in Odd vault = refl

pub other_closed_in : {D : Type 0} (side : Side) (vault : Vault D) → closed_in (other_side side) vault ≡ growing_in side vault
other_closed_in Even vault = refl
other_closed_in Odd vault = refl

-- ---- numbers that differ

pub same_growing : (side : Side) (v w : ℕ) → growing_number side v ≡ growing_number side w → v ≡ w
same_growing Even v w is = omega (arith, is)
same_growing Odd v w is = omega (arith, is)

pub same_closed : (side : Side) (v w : ℕ) → closed_number side v ≡ closed_number side w → v ≡ w
same_closed Even v w is = omega (arith, is)
same_closed Odd v w is = omega (arith, is)

pub grows_not_closed : (side : Side) (v w : ℕ) → growing_number side v ≡ closed_number side w → ⊥
grows_not_closed Even v w is = omega (arith, is)
grows_not_closed Odd v w is = omega (arith, is)

pub growing_least : (side : Side) (v w : ℕ) → v < w → growing_number side v < growing_number side w
growing_least Even v w less = omega (arith, less)
growing_least Odd v w less = omega (arith, less)

-- each number is that of a growing or of a closed one
pub numbered : (side : Side) (n : ℕ) → ((w : ℕ) × (n ≡ growing_number side w)) ⊎ ((w : ℕ) × (n ≡ closed_number side w))
numbered Even n = elim (cases_eq (n % 2) 0) [
  | inl even ↦ inl (n / 2, omega (arith, even))
  | inr odd ↦ inr (n / 2, omega (arith, odd))
]
numbered Odd n = elim (cases_eq (n % 2) 0) [
  | inl even ↦ inr (n / 2, omega (arith, even))
  | inr odd ↦ inl (n / 2, omega (arith, odd))
]

-- ---- by the log files that a run tells

pub log_of_is : (side : Side) (files : LogFiles) (w : ℕ) → files.odd ≡ is_odd side
    → log_of files w ≡ devices.Bank (growing_number side w)
log_of_is Even files w is = ap (λ b. file_of b w) is
log_of_is Odd files w is = ap (λ b. file_of b w) is

even_rest : (w : ℕ) → (2 * w) % 2 ≡ 0
even_rest w = omega arith

odd_rest : (w : ℕ) → (2 * w + 1) % 2 ≡ 1
odd_rest w = omega arith

pub grows_is : (side : Side) (files : LogFiles) (w : ℕ) → files.odd ≡ is_odd side
    → is_closed files (devices.Bank (growing_number side w)) ≡ false
grows_is Even files w is = ap (λ b. (2 * w) % 2 == cond b 0 1) is ∙ ap (λ r. r == 1) (even_rest w)
grows_is Odd files w is = ap (λ b. (2 * w + 1) % 2 == cond b 0 1) is ∙ ap (λ r. r == 0) (odd_rest w)

pub closed_is : (side : Side) (files : LogFiles) (w : ℕ) → files.odd ≡ is_odd side
    → is_closed files (devices.Bank (closed_number side w)) ≡ true
closed_is Even files w is = ap (λ b. (2 * w + 1) % 2 == cond b 0 1) is ∙ ap (λ r. r == 1) (odd_rest w)
closed_is Odd files w is = ap (λ b. (2 * w) % 2 == cond b 0 1) is ∙ ap (λ r. r == 0) (even_rest w)
