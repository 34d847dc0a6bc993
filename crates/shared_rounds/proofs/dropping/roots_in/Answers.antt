-- One root more is read.
use Rattle.std.proofs.Common.{◌≡◌, ◌∙◌, sym, ap, refl, ℕ, zero, suc, ◌+◌, ◌*◌, ◌%◌, ◌^◌, ◌<◌, List, [], ◌∷◌, get_or, length, arith}
use Rattle.std.proofs.Common.{inl, inr}
use Rattle.std.specs.Prelude.{slice_set}
use Rattle.std.proofs.lemmas.Bool.{cases_eq}
use Rattle.shared_rounds.proofs.dropping.roots_in.Goals as goal

set_here : (xs : List ℕ) (i x : ℕ) → i < length xs → get_or (slice_set xs i x) i 0 ≡ x
set_here [] i x less = absurd (omega (arith, less))
set_here (y ∷ xs) zero x less = refl
set_here (y ∷ xs) (suc i) x less = set_here xs i x (omega (arith, less))

set_below : (xs : List ℕ) (i k x : ℕ) → k < i → get_or (slice_set xs i x) k 0 ≡ get_or xs k 0
set_below [] zero k x less = refl
set_below [] (suc i) k x less = refl
set_below (y ∷ xs) zero k x less = absurd (omega (arith, less))
set_below (y ∷ xs) (suc i) zero x less = refl
set_below (y ∷ xs) (suc i) (suc k) x less = set_below xs i k x (omega (arith, less))

set_long : (xs : List ℕ) (i x : ℕ) → length (slice_set xs i x) ≡ length xs
set_long [] zero x = refl
set_long [] (suc i) x = refl
set_long (y ∷ xs) zero x = refl
set_long (y ∷ xs) (suc i) x = ap suc (set_long xs i x)

pub loop-i-preserved : goal.loop-i-preserved
loop-i-preserved c =
    let xs : List ℕ = c.loop-i.roots in
    let i : ℕ = c.loop-i.i in
    let x : ℕ = get_or c.args.catalogue.now (18 + 3 * i) 0 % 2 ^ 32 in
    let inv = c.loop-i.invariant in
    let low : i < length xs = let size = inv.long in omega (arith, size, c.loop-i-test.true) in
    record {
      long = set_long xs i x ∙ inv.long;
      each = λ k less. elim (cases_eq k i) [
        | inl same ↦
            ap (λ n. get_or (slice_set xs i x) n 0) same
            ∙ (set_here xs i x low ∙ ap (λ n. get_or c.args.catalogue.now (18 + 3 * n) 0 % 2 ^ 32) (sym same))
        | inr other ↦
            let below : k < i = omega (arith, less, other) in
            set_below xs i k x below ∙ inv.each k below
      ];
    }
