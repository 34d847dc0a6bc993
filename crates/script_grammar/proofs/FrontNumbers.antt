-- Digits, one after another from a place on, are a number's text.
use Rattle.std.proofs.Common.{◌≡◌, ℕ, ◌+◌, ◌*◌, ◌^◌, ◌<◌, [], ◌∷◌, ◌++◌, length, drop, get_or, refl, sym, ap, subst, ◌∙◌, append_assoc, arith}
use Rattle.std.specs.Int.{IsInRange}
use Rattle.std.specs.Fmt.{decimal}
use Rattle.std.specs.Char.{digit_value}
use Rattle.std.specs.Str.Parse.{AllDigits, digits_value}
use Rattle.std.proofs.lemmas.Fmt.{decimal-digits_value, decimal_digit}
use Rattle.std.proofs.lemmas.Int.Digits.{digits_value_push}
use Rattle.std.proofs.lemmas.List.{drop_more}
use Rattle.std.proofs.lemmas.Str.{digit_value_digit}
use Rattle.decimals.specs.Laws.{own}
use Rattle.script_grammar.specs.Script.{Bytes}
use Rattle.script_grammar.specs.Front.{IsDigitAt, AreDigits, IsNumberAt, IsIdAt}

-- the value of a digit's byte
value_of_digit : (d : ℕ) → d < 10 → digit_value (48 + d) ≡ d
value_of_digit d below = omega (arith, digit_value_digit (48 + d) (let h : IsInRange 48 57 (48 + d) = (omega arith, omega arith) in h))

-- the first digit alone
pub first_digit : (bytes : Bytes) (start first : ℕ) → 0 < first → first < 10 → IsDigitAt bytes start first → AreDigits bytes start (start + 1) first
first_digit bytes start first some below is =
    let digit = value_of_digit first below in
    let none : digits_value 10 [] ≡ 0 = refl in
    let one : digits_value 10 ((48 + first) ∷ []) ≡ digits_value 10 [] * 10 + digit_value (48 + first) = digits_value_push 10 [] (48 + first) in
    record {
      digits = (48 + first) ∷ [];
      text = is;
      are = (omega (arith, digit), tt);
      value_is = omega (arith, digit, none, one);
      head = omega arith;
    }

-- a digit more at the end
digits_push : (ds : Bytes) (d : ℕ) → AllDigits 10 ds → d < 10 → AllDigits 10 (ds ++ (48 + d) ∷ [])
digits_push [] d all below = (omega (arith, value_of_digit d below), tt)
digits_push (x ∷ ds) d all below = (all.0, digits_push ds d all.1 below)

-- the first of some bytes is so also with one more
head_push : (ds : Bytes) (b : ℕ) → 48 < get_or ds 0 0 → 48 < get_or (ds ++ b ∷ []) 0 0
head_push [] b head = absurd (let h : 48 < 0 = head in omega arith)
head_push (d ∷ ds) b head = head

-- some digit is there
some_digit : (ds : Bytes) → 48 < get_or ds 0 0 → 0 < length ds
some_digit [] head = absurd (let h : 48 < 0 = head in omega arith)
some_digit (d ∷ ds) head = omega arith

-- one more digit
pub more_digits : (bytes : Bytes) (start at value digit : ℕ) → AreDigits bytes start at value → digit < 10 → IsDigitAt bytes at digit → AreDigits bytes start (at + 1) (value * 10 + digit)
more_digits bytes start at value digit so_far below is =
    let ds : Bytes = so_far.digits in
    record {
      digits = ds ++ (48 + digit) ∷ [];
      text = so_far.text ∙ ap (λ (r : Bytes). ds ++ r) is ∙ sym (append_assoc ds ((48 + digit) ∷ []) (drop (at + 1) bytes));
      are = digits_push ds digit so_far.are below;
      value_is = sym (digits_value_push 10 ds (48 + digit) ∙ ap (λ (d : ℕ). digits_value 10 ds * 10 + d) (value_of_digit digit below) ∙ ap (λ (v : ℕ). v * 10 + digit) (sym so_far.value_is));
      head = head_push ds (48 + digit) so_far.head;
    }

-- digits that begin with none of 0 are how their value is written
pub digits_end : (bytes : Bytes) (start at value : ℕ) → AreDigits bytes start at value → value < 2 ^ 64 → drop start bytes ≡ decimal value ++ drop at bytes
digits_end bytes start at value so_far below =
    let ds : Bytes = so_far.digits in
    let head = so_far.head in
    let written : decimal (digits_value 10 ds) ≡ ds =
    decimal-digits_value own ds so_far.are (some_digit ds head) (λ zero_first. absurd (omega (arith, head))) (omega (arith, so_far.value_is)) in
    so_far.text ∙ ap (λ (r : Bytes). r ++ drop at bytes) (sym written ∙ ap decimal (sym so_far.value_is))

-- a number of several digits
pub number_end : (bytes : Bytes) (start at value : ℕ) → AreDigits bytes start at value → value < 2 ^ 64 → at < start + 20 → IsNumberAt bytes start value at
number_end bytes start at value so_far below near = record { text = digits_end bytes start at value so_far below; near = near }

-- a number of one digit
pub number_one : (bytes : Bytes) (start digit : ℕ) → digit < 10 → IsDigitAt bytes start digit → IsNumberAt bytes start digit (start + 1)
number_one bytes start digit below is = record {
  text = is ∙ ap (λ (r : Bytes). r ++ drop (start + 1) bytes) (sym (decimal_digit digit below));
  near = omega arith;
}

-- a number and a space behind it
pub id_end : (bytes : Bytes) (start id end : ℕ) → IsNumberAt bytes start id end → end < length bytes → get_or bytes end 0 ≡ 32 → end + 1 < start + 20 → IsIdAt bytes start id (end + 1)
id_end bytes start id end is lt space near = record {
  text = is.text ∙ ap (λ (r : Bytes). decimal id ++ r) (drop_more bytes end 0 lt ∙ ap (λ (b : ℕ). b ∷ drop (end + 1) bytes) space);
  near = near;
}

-- an id of one digit and a space behind it
pub id_one : (bytes : Bytes) (start digit : ℕ) → digit < 10 → IsDigitAt bytes start digit → start + 1 < length bytes → get_or bytes (start + 1) 0 ≡ 32 → IsIdAt bytes start digit (start + 2)
id_one bytes start digit below is lt space =
    let next : start + 1 + 1 ≡ start + 2 = omega arith in
    subst (λ (n : ℕ). IsIdAt bytes start digit n) next (id_end bytes start digit (start + 1) (number_one bytes start digit below is) lt space (omega arith))

-- a number of two digits, and what it is with more
pub two_digits : (bytes : Bytes) (start first second : ℕ) → 0 < first → first < 10 → IsDigitAt bytes start first → second < 10 → IsDigitAt bytes (start + 1) second
    → AreDigits bytes start (start + 2) (first * 10 + second)
two_digits bytes start first second some below is below' is' =
    let next : start + 1 + 1 ≡ start + 2 = omega arith in
    subst (λ (n : ℕ). AreDigits bytes start n (first * 10 + second)) next (more_digits bytes start (start + 1) first second (first_digit bytes start first some below is) below' is')

-- a digit more, at a place that is told from the start on
pub digit_more : (bytes : Bytes) (start count value digit : ℕ) → AreDigits bytes start (start + count) value → digit < 10 → IsDigitAt bytes (start + count) digit
    → AreDigits bytes start (start + (count + 1)) (value * 10 + digit)
digit_more bytes start count value digit so_far below is =
    let next : start + count + 1 ≡ start + (count + 1) = omega arith in
    subst (λ (n : ℕ). AreDigits bytes start n (value * 10 + digit)) next (more_digits bytes start (start + count) value digit so_far below is)
