-- The value of digits, one after another.
use Rattle.std.proofs.Common.{◌≡◌, ℕ, ◌+◌, ◌-◌, ◌*◌, ◌^◌, ◌<◌, ◌≤◌, List, length, take, get_or, Some, None, refl, sym, ap, ◌∙◌, arith}
use Rattle.std.specs.Int.{IsInRange}
use Rattle.std.specs.Char.{digit_value}
use Rattle.std.specs.Str.Parse.{AllDigits, digits_value}
use Rattle.std.proofs.lemmas.Bool.{le-ltb, lt-ltb}
use Rattle.std.proofs.Math.Seq.{take-length}
use Rattle.std.proofs.lemmas.Str.{digit_value_digit}
use Rattle.std.proofs.lemmas.Str.Parse.{digit_at, digits_value-take-le}
use Rattle.std.proofs.lemmas.Int.Digits.{digits_value_more}
use Rattle.decimals.specs.Numbers.{value_of}

-- a digit is 48 or more
pub digit_from_48 : (ds : List ℕ) (i : ℕ) → AllDigits 10 ds → i < length ds → 48 ≤ get_or ds i 0
digit_from_48 ds i all lt = let h = digit_at ds i all lt in omega arith

-- the value of a digit
digit_is : (c : ℕ) → IsInRange 48 57 c → digit_value c ≡ c - 48
digit_is c h = omega (arith, digit_value_digit c h)

-- the value with one digit more
pub value_more : (ds : List ℕ) (i : ℕ) → AllDigits 10 ds → i < length ds
    → digits_value 10 (take (i + 1) ds) ≡ digits_value 10 (take i ds) * 10 + (get_or ds i 0 - 48)
value_more ds i all lt =
    digits_value_more 10 ds i lt ∙ ap (λ (d : ℕ). digits_value 10 (take i ds) * 10 + d) (digit_is (get_or ds i 0) (digit_at ds i all lt))

-- where a front is too great, the whole is
pub too_great : (ds : List ℕ) (i : ℕ) → 2 ^ 64 ≤ digits_value 10 (take (i + 1) ds) → value_of ds ≡ None
unfolding value_of
too_great ds i great =
    let le : digits_value 10 (take (i + 1) ds) ≤ digits_value 10 ds = digits_value-take-le 10 ds (i + 1) (omega arith) in
    rw (le-ltb (digits_value 10 ds) (2 ^ 64) (omega arith)) refl

-- a value that was counted up to the end is the value of all digits
pub is_value : (ds : List ℕ) (i v : ℕ) → i ≡ length ds → v ≡ digits_value 10 (take i ds) → v < 2 ^ 64 → value_of ds ≡ Some v
unfolding value_of
is_value ds i v all e lt =
    let same : digits_value 10 ds ≡ v = ap (digits_value 10) (sym (ap (λ (k : ℕ). take k ds) all ∙ take-length ds)) ∙ sym e in
    rw (lt-ltb (digits_value 10 ds) (2 ^ 64) (omega arith)) (ap Some same)
