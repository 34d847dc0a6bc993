-- What tests of words tell.
use Rattle.std.proofs.Common.{◌≡◌, ◌≢◌, ◌⊎◌, inr, ℕ, zero, suc, ◌/◌, ◌%◌, ◌^◌, ◌<◌, ◌≤◌, Bool, true, false, true≢false, eqb, eq-eqb, eqb-true}
use Rattle.std.proofs.Common.{ltb, ltb-true, ltb-false, leb, refl, sym, ◌∙◌, arith, Some}
use Rattle.std.specs.Prelude.{MatchBool}
use Rattle.std.proofs.lemmas.Bool.Decides.{nat_tests}
use Rattle.tree_drops.specs.declared.stored.Stored.{Stored}
use Rattle.tree_drops.specs.Leaves.{found_of, IsLike, IsOtherValue, IsUnlike, IsValue}

positive : (n : ℕ) → (n ≡ 0 → ⊥) → 0 < n
positive zero some = absurd (some refl)
positive (suc n) some = omega arith

pub not_equal : (a b : ℕ) → eqb a b ≡ false → a ≢ b
not_equal a b e same = true≢false (sym (eq-eqb a b same) ∙ e)

-- a header's word is that of a leaf
pub leaf_test : (page header : ℕ) → (page ≡ 0 → ⊥)
    → MatchBool (eqb ((header / 2 ^ 8) % 2 ^ 8) 1) ((page ≡ 0) ⊎ ((header / 2 ^ 8) % 2 ^ 8 ≡ 1))
    ((0 < page) × ((header / 2 ^ 8) % 2 ^ 8 ≢ 1))
leaf_test page header some = by_test (eqb ((header / 2 ^ 8) % 2 ^ 8) 1) refl
  where
    by_test : (c : Bool) → eqb ((header / 2 ^ 8) % 2 ^ 8) 1 ≡ c
        → MatchBool c ((page ≡ 0) ⊎ ((header / 2 ^ 8) % 2 ^ 8 ≡ 1)) ((0 < page) × ((header / 2 ^ 8) % 2 ^ 8 ≢ 1))
    by_test true e = inr (eqb-true ((header / 2 ^ 8) % 2 ^ 8) 1 e)
    by_test false e = (positive page some, not_equal ((header / 2 ^ 8) % 2 ^ 8) 1 e)

-- an absence is of an epoch up to this one
pub old_test : (epoch word : ℕ) → 2 ^ 61 ≤ word
    → MatchBool (leb ((word % 2 ^ 60) / 2 ^ 40) epoch) ((2 ^ 61 ≤ word) × ((word % 2 ^ 60) / 2 ^ 40 ≤ epoch))
    ((word < 2 ^ 61) ⊎ (epoch < (word % 2 ^ 60) / 2 ^ 40))
old_test epoch word high = by_test (leb ((word % 2 ^ 60) / 2 ^ 40) epoch) refl
  where
    by_test : (c : Bool) → leb ((word % 2 ^ 60) / 2 ^ 40) epoch ≡ c
        → MatchBool c ((2 ^ 61 ≤ word) × ((word % 2 ^ 60) / 2 ^ 40 ≤ epoch)) ((word < 2 ^ 61) ⊎ (epoch < (word % 2 ^ 60) / 2 ^ 40))
    by_test true e = (high, (let most : (word % 2 ^ 60) / 2 ^ 40 ≤ epoch = grind (arith, nat_tests) in most))
    by_test false e = inr (let more : epoch < (word % 2 ^ 60) / 2 ^ 40 = grind (arith, nat_tests) in more)

-- a word is that of the snapshot's record, and has no bit above its number
pub like_test : (s : Stored) (epoch word : ℕ) → word ≡ s.number
    → MatchBool (ltb word (2 ^ 60)) (IsLike (Some (found_of s)) epoch word) (IsUnlike (Some (found_of s)) epoch word)
like_test s epoch word same = by_test (ltb word (2 ^ 60)) refl
  where
    by_test : (c : Bool) → ltb word (2 ^ 60) ≡ c
        → MatchBool c (IsLike (Some (found_of s)) epoch word) (IsUnlike (Some (found_of s)) epoch word)
    by_test true e = (same, ltb-true word (2 ^ 60) e)
    by_test false e = inr (ltb-false word (2 ^ 60) e)

pub value_test : (s : Stored) (value : ℕ)
    → MatchBool (eqb value s.value) (IsValue (Some (found_of s)) value) (IsOtherValue (Some (found_of s)) value)
value_test s value = by_test (eqb value s.value) refl
  where
    by_test : (c : Bool) → eqb value s.value ≡ c
        → MatchBool c (IsValue (Some (found_of s)) value) (IsOtherValue (Some (found_of s)) value)
    by_test true e = eqb-true value s.value e
    by_test false e = not_equal value s.value e
