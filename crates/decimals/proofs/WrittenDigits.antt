-- The digits of a number, from the last to the first.
use Rattle.std.proofs.Common.{◌≡◌, ◌≢◌, ◌∙◌, sym, ap, ap₂, ℕ, zero, suc, ◌+◌, ◌-◌, ◌*◌, ◌/◌, ◌%◌, ◌<◌, ◌≤◌, ◌^◌, List, ◌∷◌, drop, length, arith, eqb, cond, false, add-one, pow-suc, mod-lt, eq-eqb, lit<, lit≤, length-set}
use Rattle.std.specs.Fmt.{decimal, digit_glyph, digits, digits_onto}
use Rattle.std.specs.Prelude.{slice_set}
use Rattle.std.proofs.lemmas.Bool.{lt-ltb}
use Rattle.std.proofs.lemmas.Bool.Decides.{nat_tests}
use Rattle.std.proofs.lemmas.List.{drop-set, drop_all}

-- The digits from start on, with those of what is left before them, are the number's. Std's `decimal` takes up to 64
-- digits, so it has room for some more than the array has.
pub record DigitsSoFar (size more n rest start : ℕ) (bytes : List ℕ) : Type 0 where
  pub array : length bytes ≡ size
  pub some_room : 0 < start
  pub in_room : start ≤ size
  pub fits : rest < 10 ^ start
  pub told : digits_onto (more + start) 10 false rest (drop start bytes) ≡ decimal n

-- numbers below 2 ^ 64 have at most 20 digits
pub in_20_digits : (n : ℕ) → n < 2 ^ 64 → n < 10 ^ 20
in_20_digits n h = let most : 2 ^ 64 ≤ 10 ^ 20 = lit≤ tt in omega arith

-- numbers below 2 ^ 128 have at most 39 digits
pub in_39_digits : (n : ℕ) → n < 2 ^ 128 → n < 10 ^ 39
in_39_digits n h = let most : 2 ^ 128 ≤ 10 ^ 39 = lit≤ tt in omega arith

pub no_digit_yet : (size more n : ℕ) (bytes : List ℕ) → 0 < size → more + size ≡ 64 → n < 10 ^ size → length bytes ≡ size
    → DigitsSoFar size more n n size bytes
unfolding digits
no_digit_yet size more n bytes some all small len = record {
  array = len;
  some_room = some;
  in_room = omega arith;
  fits = small;
  told = ap₂ (λ (fuel : ℕ) (after : List ℕ). digits_onto fuel 10 false n after) all (drop_all size bytes (omega arith));
}

glyph : (d : ℕ) → d < 10 → digit_glyph false d ≡ 48 + d
glyph d h = ap (λ b. cond b (48 + d) (87 + d)) (lt-ltb d 10 h)

-- one more digit
one_digit : (fuel rest : ℕ) (acc : List ℕ)
    → digits_onto (suc fuel) 10 false rest acc ≡ cond (eqb (rest / 10) 0) ((48 + rest % 10) ∷ acc) (digits_onto fuel 10 false (rest / 10) ((48 + rest % 10) ∷ acc))
one_digit fuel rest acc = ap (λ d. cond (eqb (rest / 10) 0) (d ∷ acc) (digits_onto fuel 10 false (rest / 10) (d ∷ acc))) (glyph (rest % 10) (mod-lt rest (lit< tt)))

told_at : (size more n rest start : ℕ) (bytes : List ℕ) → length bytes ≡ size → start < size
    → digits_onto (more + (start + 1)) 10 false rest (drop (start + 1) bytes) ≡ decimal n
    → cond (eqb (rest / 10) 0) (drop start (slice_set bytes start (48 + rest % 10))) (digits_onto (more + start) 10 false (rest / 10) (drop start (slice_set bytes start (48 + rest % 10)))) ≡ decimal n
told_at size more n rest start bytes len small told =
    let one : more + (start + 1) ≡ suc (more + start) = omega arith in
    ap (λ (x : List ℕ). cond (eqb (rest / 10) 0) x (digits_onto (more + start) 10 false (rest / 10) x)) (drop-set bytes start (48 + rest % 10) (omega arith))
    ∙ sym (one_digit (more + start) rest (drop (start + 1) bytes)) ∙ ap (λ fuel. digits_onto fuel 10 false rest (drop (start + 1) bytes)) (sym one) ∙ told

before_start : (size more n rest start : ℕ) (bytes : List ℕ) → DigitsSoFar size more n rest start bytes
    → digits_onto (more + (start - 1 + 1)) 10 false rest (drop (start - 1 + 1) bytes) ≡ decimal n
before_start size more n rest start bytes so =
    let same : start - 1 + 1 ≡ start = omega (arith, so.some_room) in
    ap (λ k. digits_onto (more + k) 10 false rest (drop k bytes)) same ∙ so.told

pub last_digit : (size more n rest start : ℕ) (bytes : List ℕ) → DigitsSoFar size more n rest start bytes → rest / 10 ≡ 0
    → drop (start - 1) (slice_set bytes (start - 1) (48 + rest % 10)) ≡ decimal n
last_digit size more n rest start bytes so is =
    let d : List ℕ = drop (start - 1) (slice_set bytes (start - 1) (48 + rest % 10)) in
    sym (ap (λ b. cond b d (digits_onto (more + (start - 1)) 10 false (rest / 10) d)) (eq-eqb (rest / 10) 0 is))
    ∙ told_at size more n rest (start - 1) bytes so.array (omega (arith, so.some_room, so.in_room)) (before_start size more n rest start bytes so)

not_none : (a : ℕ) → a ≢ 0 → eqb a 0 ≡ false
not_none a h = grind (arith, nat_tests)

power : (k : ℕ) → 10 ^ (k + 1) ≡ 10 ^ k * 10
power k = rw add-one (pow-suc 10 k)

fits_before : (rest start : ℕ) → 0 < start → rest < 10 ^ start → rest / 10 < 10 ^ (start - 1)
fits_before rest start some h =
    let same : start - 1 + 1 ≡ start = omega arith in
    let e : 10 ^ (start - 1 + 1) ≡ 10 ^ start = ap (λ k. 10 ^ k) same in
    omega (arith, power (start - 1))

-- what is left of a number with a digit still to come needs room
room_left : (rest start : ℕ) → rest / 10 ≢ 0 → rest / 10 < 10 ^ start → 0 < start
room_left rest zero more h = absurd (more (omega arith))
room_left rest (suc start) more h = omega arith

pub next_digit : (size more n rest start : ℕ) (bytes : List ℕ) → DigitsSoFar size more n rest start bytes → rest / 10 ≢ 0
    → DigitsSoFar size more n (rest / 10) (start - 1) (slice_set bytes (start - 1) (48 + rest % 10))
next_digit size more n rest start bytes so others =
    let d : List ℕ = drop (start - 1) (slice_set bytes (start - 1) (48 + rest % 10)) in
    let fits : rest / 10 < 10 ^ (start - 1) = fits_before rest start so.some_room so.fits in
    record {
      array = simp length-set so.array;
      some_room = room_left rest (start - 1) others fits;
      in_room = omega (arith, so.in_room);
      fits = fits;
      told = sym (ap (λ b. cond b d (digits_onto (more + (start - 1)) 10 false (rest / 10) d)) (not_none (rest / 10) others))
          ∙ told_at size more n rest (start - 1) bytes so.array (omega (arith, so.some_room, so.in_room)) (before_start size more n rest start bytes so);
    }
