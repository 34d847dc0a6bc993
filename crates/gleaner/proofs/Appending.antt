-- Pages that are added.
use Rattle.std.proofs.Common.{◌≡◌, true, ℕ, Option, Some, None, refl}
use Rattle.std.specs.Prelude.{is_some}
use Rattle.snapshot_store.specs.declared.store.StoreFault.{StoreFault}
use Rattle.snapshot_store.specs.declared.store.StoreFault.TheVariants.{Device, Limit, Short}

pub only_failed : (f : StoreFault) → ((at : ℕ) → f ≡ Short at → ⊥) → ((n : ℕ) → f ≡ Limit n → ⊥) → f ≡ Device
only_failed Device short limit = refl
only_failed (Short at) short limit = absurd (short at refl)
only_failed (Limit n) short limit = absurd (limit n refl)

pub some_of : {X : Type 0} (o : Option X) → is_some o ≡ true → (x : X) × (o ≡ Some x)
some_of None is = absurd cc
some_of (Some x) is = (x, refl)
