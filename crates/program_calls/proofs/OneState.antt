-- A state is told by what it has at each key.
use Rattle.std.proofs.Common.{◌≡◌, ℕ, ap}
use Rattle.std.specs.Cmp.{IsTotalOrder, nat_cmp_total}
use Rattle.std.specs.Ordering.{nat_cmp}
use Rattle.std.specs.FinMap.{IsAntisymmetric, get, same_map}
use Rattle.std.proofs.lemmas.Cmp.{on_total, then_total}
use Rattle.std.proofs.lemmas.Map.Lookups.{exact_pairs, exact_unsigned}
use Rattle.serial_model.specs.Keys.{key_cmp}
use Rattle.serial_model.specs.State.{State}
use Rattle.serial_model.specs.declared.key.Key.{Key}

keys_total : IsTotalOrder key_cmp
keys_total = then_total (on_total (λ (k : Key). k.storage) nat_cmp_total) (on_total (λ (k : Key). k.key) nat_cmp_total)

exact_keys : IsAntisymmetric key_cmp
exact_keys a b h =
    ap (λ (p : ℕ × ℕ). record { storage = p.0; key = p.1 })
    (exact_pairs nat_cmp nat_cmp exact_unsigned exact_unsigned (a.storage, a.key) (b.storage, b.key) h)

-- two states that have the same at each key are one
pub one_state : (s t : State) → ((key : Key) → get s key ≡ get t key) → s ≡ t
one_state s t same = same_map keys_total exact_keys s t same
