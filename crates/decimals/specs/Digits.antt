-- Digits, by the test of a byte and by value; digits at the front of a text.
use Rattle.std.proofs.Common.{◌≡◌, ℕ, suc, ◌⊎◌, inl, inr, subst, ◌<◌, Bool, true, false, List, [], ◌∷◌, take, refl, sym, ap, ◌∙◌, arith}
use Rattle.std.specs.Int.{IsInRange}
use Rattle.std.specs.Char.{digit_value, is_ascii_digit}
use Rattle.std.specs.Str.Parse.{AllDigits}
use Rattle.std.specs.List.{list_all}
use Rattle.std.proofs.lemmas.Bool.{and_parts, and_from}
use Rattle.std.proofs.lemmas.Bool.Decides.{nat_tests}
use Rattle.std.proofs.lemmas.Str.{digit_value_digit}
use Rattle.std.proofs.lemmas.Str.Parse.{digit_from_value}
use Rattle.decimals.specs.Numbers.{digits_len}

-- a test passes or does not
pub cases_on : (b : Bool) → (b ≡ true) ⊎ (b ≡ false)
cases_on true = inl refl
cases_on false = inr refl

-- a byte that passes the test of digits is one from 48 to 57
digit_in : (b : ℕ) → is_ascii_digit b ≡ true → IsInRange 48 57 b
digit_in b e = grind (arith, nat_tests)

-- a byte with the value of a digit passes the test
pub is_digit : (b : ℕ) → digit_value b < 10 → is_ascii_digit b ≡ true
is_digit b lt = let h = digit_from_value b lt in grind (arith, nat_tests)

-- a byte that passes the test has the value of a digit
digit_below : (b : ℕ) → is_ascii_digit b ≡ true → digit_value b < 10
digit_below b e = let h = digit_in b e in omega (arith, digit_value_digit b h)

-- one digit more at the front
len-cons_yes : (b : ℕ) (bs : List ℕ) → is_ascii_digit b ≡ true → digits_len (b ∷ bs) ≡ suc (digits_len bs)
len-cons_yes b bs e = rw e (omega arith)

-- no digit at the front
len-cons_no : (b : ℕ) (bs : List ℕ) → is_ascii_digit b ≡ false → digits_len (b ∷ bs) ≡ 0
len-cons_no b bs e = rw e refl

-- the digits at the front
abbrev pub digits_at : List ℕ → List ℕ
digits_at bs = take (digits_len bs) bs

-- the front grows by a digit
digits_at-cons_yes : (b : ℕ) (bs : List ℕ) → is_ascii_digit b ≡ true → digits_at (b ∷ bs) ≡ b ∷ digits_at bs
digits_at-cons_yes b bs e = ap (λ (k : ℕ). take k (b ∷ bs)) (len-cons_yes b bs e)

-- no digit at the front, no front
digits_at-cons_no : (b : ℕ) (bs : List ℕ) → is_ascii_digit b ≡ false → digits_at (b ∷ bs) ≡ []
digits_at-cons_no b bs e = ap (λ (k : ℕ). take k (b ∷ bs)) (len-cons_no b bs e)

-- all of the front are digits
pub AllDigits-digits_at : (bs : List ℕ) → AllDigits 10 (digits_at bs)
AllDigits-digits_at [] = tt
AllDigits-digits_at (b ∷ bs) =
    elim (cases_on (is_ascii_digit b)) [
      | inl digit ↦ subst (AllDigits 10) (sym (digits_at-cons_yes b bs digit)) (digit_below b digit, AllDigits-digits_at bs)
      | inr other ↦ subst (AllDigits 10) (sym (digits_at-cons_no b bs other)) tt
    ]

-- bytes that all pass the test are their own front
all_at : (ds : List ℕ) → list_all is_ascii_digit ds ≡ true → digits_at ds ≡ ds
all_at [] e = refl
all_at (d ∷ ds) e =
    let both = and_parts (is_ascii_digit d) (list_all is_ascii_digit ds) e in
    digits_at-cons_yes d ds both.0 ∙ ap (λ (xs : List ℕ). d ∷ xs) (all_at ds both.1)

-- bytes that all pass the test are digits
pub AllDigits-all : (ds : List ℕ) → list_all is_ascii_digit ds ≡ true → AllDigits 10 ds
AllDigits-all ds e = subst (AllDigits 10) (all_at ds e) (AllDigits-digits_at ds)

-- digits all pass the test
pub all_digits : (ds : List ℕ) → AllDigits 10 ds → list_all is_ascii_digit ds ≡ true
all_digits [] all = refl
all_digits (d ∷ ds) all = and_from (is_ascii_digit d) (list_all is_ascii_digit ds) (is_digit d all.0) (all_digits ds all.1)
