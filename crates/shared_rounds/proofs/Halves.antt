-- What holds element by element of two lists and two others holds of both behind one another.
use Rattle.std.proofs.Common.{◌≡◌, ℕ, zero, suc, ◌<◌, List, [], ◌∷◌, ◌++◌, length, arith}
use Rattle.std.specs.Prelude.{slice_index_or}

module _ {A : Type 0} where
  -- element by element
  pub both_go : (R : A → A → Type 0) (d : A) (xs ys us vs : List A) → length us ≡ length xs
      → ((k : ℕ) → k < length xs → R (slice_index_or xs k d) (slice_index_or us k d))
      → ((k : ℕ) → k < length ys → R (slice_index_or ys k d) (slice_index_or vs k d))
      → (k : ℕ) → k < length (xs ++ ys) → R (slice_index_or (xs ++ ys) k d) (slice_index_or (us ++ vs) k d)
  both_go R d [] ys [] vs same front back k less = back k less
  both_go R d [] ys (u ∷ us) vs same front back k less = absurd (omega arith)
  both_go R d (x ∷ xs) ys [] vs same front back k less = absurd (omega arith)
  both_go R d (x ∷ xs) ys (u ∷ us) vs same front back zero less = front zero (omega arith)
  both_go R d (x ∷ xs) ys (u ∷ us) vs same front back (suc k) less =
      both_go R d xs ys us vs (omega arith) (λ j below. front (suc j) (omega arith)) back k (omega arith)
