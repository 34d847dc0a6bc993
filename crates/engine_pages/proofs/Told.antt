-- What holds of a step whatever it finds may be told with the rest.
use Rattle.std.proofs.Common.{◌≡◌, ℕ}
use Rattle.atomic_table.specs.Table.{State, Me, Allows}
use Rattle.engine_pages.specs.declared.view.View.{View}

pub told_with : {A : Type 0} {holds : State (Unit {0}) View → Type 0} {slots id : ℕ} {me : Me (Unit {0}) View} {i : ℕ}
    (f : ℕ → ℕ) (then : ℕ → Me (Unit {0}) View → Type 0) → A
    → Allows holds slots id me i f (λ n now. (now.1 ≡ me.1) × then n now)
    → Allows holds slots id me i f (λ n now. (now.1 ≡ me.1) × (A × then n now))
told_with f then has allows s shows homes seat small =
    let r = allows s shows homes seat small in
    (r.0, r.1, r.2, r.3, (r.4.0, (has, r.4.1)))
