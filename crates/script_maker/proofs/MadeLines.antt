-- The text of a line: that of its transaction, short, and without a newline in it.
use Rattle.std.proofs.Common.{◌≡◌, ◌∙◌, sym, ap, refl, ℕ, ◌+◌, ◌*◌, ◌%◌, ◌<◌, ◌≤◌, ◌^◌, ◌==◌, false, [], ◌∷◌, ◌++◌, length, arith, append_assoc, append-nil, length-append}
use Rattle.std.specs.Prelude.{codes, decimal}
use Rattle.std.specs.List.{AllByRecursion}
use Rattle.std.specs.Fmt.{digits}
use Rattle.std.specs.Char.{digit_value}
use Rattle.std.specs.Str.Parse.{AllDigits}
use Rattle.std.proofs.lemmas.Bool.{ne_eqb}
use Rattle.std.proofs.lemmas.Fmt.{decimal_is_IsNumeral, length-decimal-le}
use Rattle.std.proofs.lemmas.Str.Parse.{digit_from_value}
use Rattle.lists.specs.Each.{all_append}
use Rattle.script_grammar.specs.Script.{Bytes, line_text as spelled_line}
use Rattle.script_maker.specs.Generator.{draw, line_text}
use Rattle.script_maker.specs.Made.{transaction}

-- ---- bytes that are no newline

abbrev pub IsNoNewline : ℕ → Type 0
IsNoNewline b = (b == 10) ≡ false

abbrev pub IsOneLine : Bytes → Type 0
IsOneLine bytes = AllByRecursion IsNoNewline bytes

digit_is_none : (b : ℕ) → digit_value b < 10 → IsNoNewline b
digit_is_none b h = let d = digit_from_value b h in ne_eqb b 10 (λ same. omega arith)

digits_are_none : (bytes : Bytes) → AllDigits 10 bytes → IsOneLine bytes
digits_are_none [] all = tt
digits_are_none (b ∷ bytes) all = (digit_is_none b all.0, digits_are_none bytes all.1)

decimal_is_one_line : (n : ℕ) → n < 2 ^ 64 → IsOneLine (decimal n)
decimal_is_one_line n h = digits_are_none (decimal n) (decimal_is_IsNumeral n h).0.1

-- ---- a line without its newline

abbrev pub body : ℕ → ℕ → ℕ → Bytes
body worker array_key tree_key =
    decimal worker ++ codes " a 1 " ++ decimal array_key ++ codes " 1; a 2 " ++ decimal tree_key ++ codes " 1"

pub line_is_body : (worker array_key tree_key : ℕ) → line_text worker array_key tree_key ≡ body worker array_key tree_key ++ 10 ∷ []
line_is_body worker array_key tree_key =
    sym (append_assoc (decimal worker ++ codes " a 1 " ++ decimal array_key ++ codes " 1; a 2 " ++ decimal tree_key) (codes " 1") (10 ∷ []))

below : (n most : ℕ) → n < most → most < 2 ^ 64 → n < 2 ^ 64
below n most h small = omega arith

pub body_is_one_line : (worker array_key tree_key : ℕ) → worker < 2 ^ 64 → array_key < 2 ^ 64 → tree_key < 2 ^ 64 → IsOneLine (body worker array_key tree_key)
body_is_one_line worker array_key tree_key w a t =
    let first = decimal worker ++ codes " a 1 " in
    let second = first ++ decimal array_key in
    let third = second ++ codes " 1; a 2 " in
    let fourth = third ++ decimal tree_key in
    all_append IsNoNewline fourth (codes " 1")
    (all_append IsNoNewline third (decimal tree_key)
    (all_append IsNoNewline second (codes " 1; a 2 ")
    (all_append IsNoNewline first (decimal array_key)
    (all_append IsNoNewline (decimal worker) (codes " a 1 ") (decimal_is_one_line worker w) (refl, (refl, (refl, (refl, (refl, tt))))))
    (decimal_is_one_line array_key a))
    (refl, (refl, (refl, (refl, (refl, (refl, (refl, (refl, tt)))))))))
    (decimal_is_one_line tree_key t))
    (refl, (refl, tt))

short_decimal : (n : ℕ) → n < 1024 → length (decimal n) ≤ 4
short_decimal n h =
    let most : 1024 ≤ 10 ^ 4 = omega arith in
    length-decimal-le 4 n (omega arith) (omega arith) (omega arith)

pub length-body : (worker array_key tree_key : ℕ) → worker < 1024 → array_key < 1024 → tree_key < 1024
    → (0 < length (body worker array_key tree_key)) × (length (body worker array_key tree_key) ≤ 31)
length-body worker array_key tree_key w a t =
    let first = decimal worker ++ codes " a 1 " in
    let second = first ++ decimal array_key in
    let third = second ++ codes " 1; a 2 " in
    let fourth = third ++ decimal tree_key in
    let l1 = length-append (decimal worker) (codes " a 1 ") in
    let l2 = length-append first (decimal array_key) in
    let l3 = length-append second (codes " 1; a 2 ") in
    let l4 = length-append third (decimal tree_key) in
    let l5 = length-append fourth (codes " 1") in
    let d1 = short_decimal worker w in
    let d2 = short_decimal array_key a in
    let d3 = short_decimal tree_key t in
    (omega arith, omega arith)

-- ---- the same, as the grammar spells it

one_digit : decimal 1 ≡ codes "1"
unfolding digits
one_digit = refl

two_digit : decimal 2 ≡ codes "2"
unfolding digits
two_digit = refl

-- pieces of two operations in a row
spelled : (w a b one two : Bytes) → one ≡ codes "1" → two ≡ codes "2"
    → (w ++ codes " ") ++ ((((codes "a " ++ ((one ++ codes " ") ++ a)) ++ codes " ") ++ one)
    ++ ((codes "; " ++ (((codes "a " ++ ((two ++ codes " ") ++ b)) ++ codes " ") ++ one)) ++ []))
    ≡ ((((w ++ codes " a 1 ") ++ a) ++ codes " 1; a 2 ") ++ b) ++ codes " 1"
spelled w a b one two e f =
    let y : Bytes = codes "; a 2 " ++ (((b ++ codes " ") ++ codes "1") ++ []) in
    let z : Bytes = codes "a 1 " ++ (((a ++ codes " ") ++ codes "1") ++ y) in
    let second : ((b ++ codes " ") ++ codes "1") ++ [] ≡ b ++ codes " 1" = append-nil ((b ++ codes " ") ++ codes "1") ∙ append_assoc b (codes " ") (codes "1") in
    let first : ((a ++ codes " ") ++ codes "1") ++ y ≡ a ++ (codes " 1; a 2 " ++ (b ++ codes " 1")) =
    append_assoc (a ++ codes " ") (codes "1") y ∙ append_assoc a (codes " ") (codes "1" ++ y) ∙ ap (λ t. a ++ (codes " 1; a 2 " ++ t)) second in
    let left : (w ++ codes " ") ++ z ≡ w ++ (codes " a 1 " ++ (a ++ (codes " 1; a 2 " ++ (b ++ codes " 1")))) =
    append_assoc w (codes " ") z ∙ ap (λ t. w ++ (codes " a 1 " ++ t)) first in
    let right : ((((w ++ codes " a 1 ") ++ a) ++ codes " 1; a 2 ") ++ b) ++ codes " 1" ≡ w ++ (codes " a 1 " ++ (a ++ (codes " 1; a 2 " ++ (b ++ codes " 1")))) =
    append_assoc (((w ++ codes " a 1 ") ++ a) ++ codes " 1; a 2 ") b (codes " 1")
    ∙ append_assoc ((w ++ codes " a 1 ") ++ a) (codes " 1; a 2 ") (b ++ codes " 1")
    ∙ append_assoc (w ++ codes " a 1 ") a (codes " 1; a 2 " ++ (b ++ codes " 1"))
    ∙ append_assoc w (codes " a 1 ") (a ++ (codes " 1; a 2 " ++ (b ++ codes " 1"))) in
    rw (e, f) (left ∙ sym right)

pub spelled_is_body : (seed workers line : ℕ)
    → spelled_line (transaction seed workers line) ≡ body (line % workers) (draw seed (2 * line) % 1024) (draw seed (2 * line + 1) % 512)
spelled_is_body seed workers line =
    spelled (decimal (line % workers)) (decimal (draw seed (2 * line) % 1024)) (decimal (draw seed (2 * line + 1) % 512)) (decimal 1) (decimal 2) one_digit two_digit
