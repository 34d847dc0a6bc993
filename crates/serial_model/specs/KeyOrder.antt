-- The order of keys is total, and keys that compare alike are one.
use Rattle.std.proofs.Common.{◌≡◌, ℕ, true, ap}
use Rattle.std.specs.Cmp.{IsTotalOrder, nat_cmp_total, Equal-is}
use Rattle.std.specs.Ordering.{nat_cmp, eq_by_cmp}
use Rattle.std.specs.FinMap.{IsAntisymmetric}
use Rattle.std.proofs.lemmas.Cmp.{on_total, then_total}
use Rattle.std.proofs.lemmas.Map.Lookups.{exact_pairs, exact_unsigned}
use Rattle.serial_model.specs.Keys.{key_cmp}
use Rattle.serial_model.specs.declared.key.Key.{Key}

-- the order of keys is total
pub keys_total : IsTotalOrder key_cmp
keys_total = then_total (on_total (λ (k : Key). k.storage) nat_cmp_total) (on_total (λ (k : Key). k.key) nat_cmp_total)

-- keys that compare alike are one
pub exact_keys : IsAntisymmetric key_cmp
exact_keys a b h =
    ap (λ (p : ℕ × ℕ). record { storage = p.0; key = p.1 })
    (exact_pairs nat_cmp nat_cmp exact_unsigned exact_unsigned (a.storage, a.key) (b.storage, b.key) h)

-- a key that the map takes for another is that one
pub same_by_test : (q k : Key) → eq_by_cmp key_cmp q k ≡ true → q ≡ k
same_by_test q k hit = exact_keys q k ((Equal-is (key_cmp q k)).0 hit)
