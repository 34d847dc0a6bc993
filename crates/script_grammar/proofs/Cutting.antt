-- Cutting a text at the first byte of a kind.
use Rattle.std.proofs.Common.{◌≡◌, ℕ, ◌+◌, ◌-◌, ◌≤◌, Bool, true, false, cond, ltb, [], ◌∷◌, length, take, drop, Some, None, refl, ap, ◌∙◌, arith, length-drop}
use Rattle.std.specs.Prelude.{◌==◌}
use Rattle.std.specs.List.{slice_split, position, position_or_len, All}
use Rattle.std.proofs.Math.Seq.{take-length}
use Rattle.std.proofs.lemmas.Bool.{ltb-true, ltb-false}
use Rattle.std.proofs.lemmas.List.Splits.{slice_split_first, slice_split_none}
use Rattle.std.proofs.lemmas.List.Sums.{fails_before_first}
use Rattle.script_grammar.specs.Script.{Bytes}

-- the answer of a choice that is some place
chosen_Some : (b : Bool) (n end : ℕ) → cond b (Some n) None ≡ Some end → (b ≡ true) × (n ≡ end)
chosen_Some true n end e = (refl, cc)
chosen_Some false n end e = absurd cc

-- the answer of a choice that is none
chosen_None : (b : Bool) (n : ℕ) → cond b (Some n) None ≡ None → b ≡ false
chosen_None true n e = absurd cc
chosen_None false n e = refl

-- what is behind a place
behind : (bs : Bytes) (end : ℕ) → take (length bs - (end + 1)) (drop (end + 1) bs) ≡ drop (end + 1) bs
behind bs end =
    let len : length bs - (end + 1) ≡ length (drop (end + 1) bs) = omega (arith, length-drop (end + 1) bs) in
    ap (λ (n : ℕ). take n (drop (end + 1) bs)) len ∙ take-length (drop (end + 1) bs)

-- at the first such byte the parts are what is before it, and those of what is behind it
pub cut_at : (c : ℕ) (bs : Bytes) (end : ℕ) → position (λ b. b == c) bs ≡ Some end
    → slice_split (λ b. b == c) bs ≡ take end bs ∷ slice_split (λ b. b == c) (take (length bs - (end + 1)) (drop (end + 1) bs))
cut_at c bs end e =
    let at = chosen_Some (ltb (position_or_len (λ b. b == c) bs) (length bs)) (position_or_len (λ b. b == c) bs) end e in
    slice_split_first (λ b. b == c) bs 0 (ltb-true _ _ at.0) ∙ rw (at.1, behind bs end) refl

-- without such a byte its place is past the end
past : (c : ℕ) (bs : Bytes) → position (λ b. b == c) bs ≡ None → length bs ≤ position_or_len (λ b. b == c) bs
past c bs e = ltb-false _ _ (chosen_None (ltb (position_or_len (λ b. b == c) bs) (length bs)) (position_or_len (λ b. b == c) bs) e)

-- without such a byte there is one part
pub uncut : (c : ℕ) (bs : Bytes) → position (λ b. b == c) bs ≡ None → slice_split (λ b. b == c) bs ≡ bs ∷ []
uncut c bs e =
    let far = past c bs e in
    let none : All (λ b. (b == c) ≡ false) bs = λ k d lt. fails_before_first (λ b. b == c) bs k d (omega arith) in
    slice_split_none (λ b. b == c) bs none
