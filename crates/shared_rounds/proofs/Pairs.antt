-- Entries with the attempts that are theirs, one for one, where each attempt has its worker's seat.
use Rattle.std.proofs.Common.{◌≡◌, ℕ, zero, suc, ◌<◌, arith, length, get_or, set, List, [], ◌∷◌, ◌++◌, refl, ap}
use Rattle.std.specs.Prelude.{⊤}
use Rattle.std.specs.List.{swap}
use Rattle.std.specs.List.Sorted.{IsPermutation}
use Rattle.std.proofs.lemmas.List.Sorted.{IsPermutation-keeps, IsPermutation-refl, length_permutation}
use Rattle.serial_model.specs.History.{Entry}
use Rattle.serial_model.specs.declared.decl.Decl.{Decl}
use Rattle.commit_core.specs.declared.attempt.Attempt.{Attempt}
use Rattle.serial_bridge.specs.Transaction.{AreAttemptsOf, IsAttemptOf}

-- the attempt is that of the entry, on the seat of its worker
abbrev pub IsPair : List Decl → Entry → Attempt → Type 0
IsPair decls e a = IsAttemptOf decls e a × (a.seat ≡ suc e.worker)

abbrev pub ArePairs : List Decl → List Entry → List Attempt → Type 0
ArePairs decls [] [] = ⊤
ArePairs decls [] (a ∷ attempts) = ⊥
ArePairs decls (e ∷ entries) [] = ⊥
ArePairs decls (e ∷ entries) (a ∷ attempts) = IsPair decls e a × ArePairs decls entries attempts

pub pairs_attempts : (decls : List Decl) (es : List Entry) (xs : List Attempt) → ArePairs decls es xs
    → AreAttemptsOf decls es xs
pairs_attempts decls [] [] are = tt
pairs_attempts decls [] (x ∷ xs) are = absurd are
pairs_attempts decls (e ∷ es) [] are = absurd are
pairs_attempts decls (e ∷ es) (x ∷ xs) are = (are.0.0, pairs_attempts decls es xs are.1)

-- two rows of pairs, one behind the other
pub pairs_append : (decls : List Decl) (es fs : List Entry) (xs ys : List Attempt) → ArePairs decls es xs
    → ArePairs decls fs ys → ArePairs decls (es ++ fs) (xs ++ ys)
pairs_append decls [] fs [] ys first next = next
pairs_append decls [] fs (x ∷ xs) ys first next = absurd first
pairs_append decls (e ∷ es) fs [] ys first next = absurd first
pairs_append decls (e ∷ es) fs (x ∷ xs) ys first next = (first.0, pairs_append decls es fs xs ys first.1 next)

at_pair : (decls : List Decl) (es : List Entry) (xs : List Attempt) (i : ℕ) (e : Entry) (a : Attempt)
    → ArePairs decls es xs → i < length xs → IsPair decls (get_or es i e) (get_or xs i a)
at_pair decls [] [] i e a are less = absurd (omega arith)
at_pair decls [] (x ∷ xs) i e a are less = absurd are
at_pair decls (f ∷ es) [] i e a are less = absurd are
at_pair decls (f ∷ es) (x ∷ xs) zero e a are less = are.0
at_pair decls (f ∷ es) (x ∷ xs) (suc i) e a are less = at_pair decls es xs i e a are.1 (omega arith)

set_pair : (decls : List Decl) (es : List Entry) (xs : List Attempt) (i : ℕ) (e : Entry) (a : Attempt)
    → ArePairs decls es xs → IsPair decls e a → ArePairs decls (set es i e) (set xs i a)
set_pair decls [] [] i e a are one = are
set_pair decls [] (x ∷ xs) i e a are one = absurd are
set_pair decls (f ∷ es) [] i e a are one = absurd are
set_pair decls (f ∷ es) (x ∷ xs) zero e a are one = (one, are.1)
set_pair decls (f ∷ es) (x ∷ xs) (suc i) e a are one = (are.0, set_pair decls es xs i e a are.1 one)

swap_pair : (decls : List Decl) (es : List Entry) (xs : List Attempt) (i j : ℕ) → ArePairs decls es xs
    → i < length xs → j < length xs → ArePairs decls (swap es i j) (swap xs i j)
swap_pair decls [] [] i j are p q = are
swap_pair decls [] (x ∷ xs) i j are p q = absurd are
swap_pair decls (f ∷ es) [] i j are p q = absurd are
swap_pair decls (f ∷ es) (x ∷ xs) i j are p q =
    set_pair decls (set (f ∷ es) i (get_or (f ∷ es) j f)) (set (x ∷ xs) i (get_or (x ∷ xs) j x)) j
    (get_or (f ∷ es) i f) (get_or (x ∷ xs) i x)
    (set_pair decls (f ∷ es) (x ∷ xs) i (get_or (f ∷ es) j f) (get_or (x ∷ xs) j x) are
    (at_pair decls (f ∷ es) (x ∷ xs) j f x are q))
    (at_pair decls (f ∷ es) (x ∷ xs) i f x are p)

pair_count : (decls : List Decl) (es : List Entry) (xs : List Attempt) → ArePairs decls es xs
    → length es ≡ length xs
pair_count decls [] [] are = refl
pair_count decls [] (x ∷ xs) are = absurd are
pair_count decls (f ∷ es) [] are = absurd are
pair_count decls (f ∷ es) (x ∷ xs) are = ap suc (pair_count decls es xs are.1)

-- Attempts in another order are those of the entries in that order.
pub pairs_permuted : (decls : List Decl) (es : List Entry) (xs ys : List Attempt) → ArePairs decls es xs
    → IsPermutation xs ys → (fs : List Entry) × IsPermutation es fs × ArePairs decls fs ys
pairs_permuted decls es xs ys are moved =
    IsPermutation-keeps xs (λ l. (fs : List Entry) × IsPermutation es fs × ArePairs decls fs l)
    (es, IsPermutation-refl es, are) (λ l i j p q h.
    let long : length h.0 ≡ length l = pair_count decls h.0 l h.2 in
    let same : length h.0 ≡ length es = length_permutation es h.0 h.1 in (
      swap h.0 i j,
      record {
        moves = (i, j) ∷ h.1.moves;
        below = (omega arith, omega arith, h.1.below);
        is = ap (λ (k : List Entry). swap k i j) h.1.is;
      },
      swap_pair decls h.0 l i j h.2 p q,
    )) ys moved
