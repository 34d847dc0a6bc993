-- Bytes of each log file by its number, from those of the growing and of the closed ones.
use Rattle.std.proofs.Common.{◌≡◌, ◌∙◌, ◌<◌, ◌⊎◌, inl, inr, sym, ap, refl, ℕ}
use Rattle.std.proofs.Common.{List, Some, arith}
use Rattle.lists.specs.Elements.{at_below}
use Rattle.log_writer.specs.Vault.{IsWhole, disk_in}
use Rattle.outside.specs.declared.device.Device.TheVariants.{Bank}
use Rattle.log_writer.specs.declared.vault.Vault.{Vault}
use Rattle.worker_logs.specs.Saves.{closed_number, growing_number}
use Rattle.worker_logs.specs.declared.savepoints.Side.{Side}
use Rattle.round_engine.specs.Sides.{closed_in, growing_in}
use Rattle.round_engine.proofs.Numbered.{closed_at, closed_many, growing_at, growing_many, grows_not_closed, numbered}
use Rattle.round_engine.proofs.Numbered.{same_closed, same_growing}

-- ---- bytes of each log file by its number

abbrev OfNumber : Side → ℕ → Type 0
OfNumber side n = ((w : ℕ) × (n ≡ growing_number side w)) ⊎ ((w : ℕ) × (n ≡ closed_number side w))

pub by_number : (side : Side) (n : ℕ) → OfNumber side n → (ℕ → List ℕ) → (ℕ → List ℕ) → List ℕ
by_number side n at durable closed = elim at [
  | inl grows ↦ durable grows.0
  | inr shut ↦ closed shut.0
]

-- a growing one's and a closed one's
unfoldable pub of_side : Side → (ℕ → List ℕ) → (ℕ → List ℕ) → ℕ → List ℕ
of_side side durable closed n = by_number side n (numbered side n) durable closed

grows_by : (side : Side) (n w : ℕ) (at : OfNumber side n) (durable closed : ℕ → List ℕ) → n ≡ growing_number side w
    → by_number side n at durable closed ≡ durable w
unfolding by_number
grows_by side n w (inl grows) durable closed is = ap durable (same_growing side grows.0 w (sym grows.1 ∙ is))
grows_by side n w (inr shut) durable closed is = absurd (grows_not_closed side w shut.0 (sym is ∙ shut.1))

shut_by : (side : Side) (n w : ℕ) (at : OfNumber side n) (durable closed : ℕ → List ℕ) → n ≡ closed_number side w
    → by_number side n at durable closed ≡ closed w
unfolding by_number
shut_by side n w (inl grows) durable closed is = absurd (grows_not_closed side grows.0 w (sym grows.1 ∙ is))
shut_by side n w (inr shut) durable closed is = ap closed (same_closed side shut.0 w (sym shut.1 ∙ is))

pub side_growing : (side : Side) (durable closed : ℕ → List ℕ) (w : ℕ)
    → of_side side durable closed (growing_number side w) ≡ durable w
unfolding of_side
side_growing side durable closed w = grows_by side (growing_number side w) w (numbered side (growing_number side w))
    durable closed refl

pub side_closed : (side : Side) (durable closed : ℕ → List ℕ) (w : ℕ)
    → of_side side durable closed (closed_number side w) ≡ closed w
unfolding of_side
side_closed side durable closed w = shut_by side (closed_number side w) w (numbered side (closed_number side w))
    durable closed refl

-- a log file of a vault is one of eight growing or of eight closed ones
pub growing_below : {D : Type 0} (side : Side) (vault : Vault D) → IsWhole vault → (w : ℕ) (bank : D)
    → disk_in vault (Bank (growing_number side w)) ≡ Some bank → w < 8
growing_below side vault whole w bank there =
    let within = at_below (growing_in side vault) w bank (sym (growing_at side vault w) ∙ there) in
    omega (arith, within, growing_many side vault whole)

pub closed_below : {D : Type 0} (side : Side) (vault : Vault D) → IsWhole vault → (w : ℕ) (bank : D)
    → disk_in vault (Bank (closed_number side w)) ≡ Some bank → w < 8
closed_below side vault whole w bank there =
    let within = at_below (closed_in side vault) w bank (sym (closed_at side vault w) ∙ there) in
    omega (arith, within, closed_many side vault whole)
