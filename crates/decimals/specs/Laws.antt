-- A text that is read as a number is how the number is written, and what is so written is read again.
use Rattle.std.proofs.Common.{◌≡◌, ◌⊎◌, ◌↔◌, inl, inr, ℕ, zero, suc, ◌^◌, ◌<◌, Bool, true, false, cond, ltb, List, [], ◌∷◌, length, get_or, Option, Some, None, refl, sym, ap, ◌∙◌, arith}
use Rattle.std.specs.Prelude.{option_map}
use Rattle.std.specs.Fmt.{decimal}
use Rattle.std.specs.Char.{is_ascii_digit}
use Rattle.std.specs.List.{list_all}
use Rattle.std.specs.Str.Parse.{AllDigits, digits_value}
use Rattle.std.proofs.lemmas.Bool.{ltb-true, lt-ltb, eqb-false, ne_eqb}
use Rattle.std.proofs.lemmas.Fmt.{decimal-digits_value, digits_decimal, digits_value-decimal, decimal_digit, decimal_nonempty, first_decimal}
use Rattle.std.proofs.lemmas.Str.Parse.{IsNumeralModel, numerals_by_value, tells_digits}
use Rattle.decimals.specs.Numbers.{is_misspelled, value_of, digits_number, number_of}
use Rattle.decimals.specs.Digits.{AllDigits-all, all_digits}

-- a choice that finds something passed its test
chosen : {A : Type 0} (b : Bool) (o : Option A) (y : A) → cond b o None ≡ Some y → (b ≡ true) × (o ≡ Some y)
chosen true o y e = (refl, e)
chosen false o y e = absurd cc

-- the same of one value
test_some : {A : Type 0} (b : Bool) (x y : A) → cond b (Some x) None ≡ Some y → (b ≡ true) × (x ≡ y)
test_some true x y e = (refl, cc)
test_some false x y e = absurd cc

-- a choice that finds something where the test fails
not_test_some : {A : Type 0} (b : Bool) (o : Option A) (y : A) → cond b None o ≡ Some y → (b ≡ false) × (o ≡ Some y)
not_test_some true o y e = absurd cc
not_test_some false o y e = (refl, e)

-- what is found of something comes of it
mapped : {A B : Type 0} (f : A → B) (o : Option A) (y : B) → option_map f o ≡ Some y → (x : A) × (o ≡ Some x) × (f x ≡ y)
mapped f (Some x) y e = (x, refl, cc)
mapped f None y e = absurd cc

-- values are those of std
pub own : IsNumeralModel (AllDigits 10) (digits_value 10)
own = numerals_by_value (AllDigits 10) tells_digits

-- digits that are not misspelled are some, and a zero first is alone
spelled : (ds : List ℕ) → is_misspelled ds ≡ false → (0 < length ds) × (get_or ds 0 0 ≡ 48 → length ds ≡ 1)
spelled [] e = absurd cc
spelled (b ∷ []) e = (omega arith, λ _. refl)
spelled (b ∷ c ∷ ds) e = (omega arith, λ same. absurd (eqb-false b 48 e same))

-- digits that do not begin with a zero, or are one, are not misspelled
well_spelled : (ds : List ℕ) → 0 < length ds → (48 < get_or ds 0 0) ⊎ (length ds ≡ 1) → is_misspelled ds ≡ false
well_spelled [] some first = absurd (omega arith)
well_spelled (b ∷ []) some first = refl
well_spelled (b ∷ c ∷ ds) some (inl above) = ne_eqb b 48 (λ same. omega arith)
well_spelled (b ∷ c ∷ ds) some (inr one) = absurd (omega arith)

-- a written number is not misspelled
decimal_well_spelled : (n : ℕ) → n < 2 ^ 64 → is_misspelled (decimal n) ≡ false
decimal_well_spelled zero lt = well_spelled (decimal 0) (decimal_nonempty 0 lt) (inr (ap (λ (ds : List ℕ). length ds) (decimal_digit 0 (omega arith))))
decimal_well_spelled (suc n) lt = well_spelled (decimal (suc n)) (decimal_nonempty (suc n) lt) (inl (first_decimal (suc n) (omega arith) lt))

-- a value that is found is that of the digits
value_of_takes : (ds : List ℕ) (n : ℕ) → value_of ds ≡ Some n → (digits_value 10 ds < 2 ^ 64) × (digits_value 10 ds ≡ n)
unfolding value_of
value_of_takes ds n e =
    let t = test_some (ltb (digits_value 10 ds) (2 ^ 64)) (digits_value 10 ds) n e in
    (ltb-true _ _ t.0, t.1)

-- digits of a number are how it is written
pub digits_number_takes : (ds : List ℕ) (n : ℕ) → AllDigits 10 ds → digits_number ds ≡ Some n → (ds ≡ decimal n) × (n < 2 ^ 64)
unfolding digits_number
digits_number_takes ds n all e =
    let t = not_test_some (is_misspelled ds) (value_of ds) n e in
    let v = value_of_takes ds n t.1 in
    let s = spelled ds t.0 in
    (sym (decimal-digits_value own ds all s.0 s.1 v.0) ∙ ap decimal v.1, omega (arith, v.0, v.1))

-- a written number is found
pub digits_number_again : (n : ℕ) → n < 2 ^ 64 → digits_number (decimal n) ≡ Some n
unfolding digits_number value_of
digits_number_again n lt = rw (decimal_well_spelled n lt, digits_value-decimal own n lt, lt-ltb n (2 ^ 64) lt) refl

-- bytes that are read as a number are how it is written
pub number_of_takes : (bytes : List ℕ) (n : ℕ) → number_of bytes ≡ Some n → (bytes ≡ decimal n) × (n < 2 ^ 64)
unfolding number_of
number_of_takes bytes n e =
    let t = chosen (list_all is_ascii_digit bytes) (digits_number bytes) n e in
    digits_number_takes bytes n (AllDigits-all bytes t.0) t.1

-- a written number is read
pub number_of_again : (n : ℕ) → n < 2 ^ 64 → number_of (decimal n) ≡ Some n
unfolding number_of
number_of_again n lt = rw (all_digits (decimal n) (digits_decimal own n lt), digits_number_again n lt) refl

-- bytes are read as a number exactly where they are its text
pub exactly_number : (r : Option ℕ) (bytes : List ℕ) → r ≡ number_of bytes → (n : ℕ) → n < 2 ^ 64 → (r ≡ Some n) ↔ (bytes ≡ decimal n)
exactly_number r bytes is n lt =
    (λ found. (number_of_takes bytes n (sym is ∙ found)).0, λ text. is ∙ ap number_of text ∙ number_of_again n lt)
