-- The texts of numbers.
use Rattle.std.proofs.Common.{◌≡◌, ◌∙◌, ap, cond, ℕ, ◌<◌, ◌≤◌, ◌^◌, Bool, true, false, ◌&&◌, ◌==◌, [], ◌∷◌, Option, Some, None, arith, nat_le, refl}
use Rattle.std.specs.Prelude.{decimal, option_and_then}
use Rattle.std.specs.Str.Parse.{IsNumeral}
use Rattle.std.proofs.lemmas.Str.Parse.{digit_from_value}
use Rattle.std.proofs.lemmas.Fmt.{decimal_is_IsNumeral}
use Rattle.std.proofs.lemmas.Bool.{le-leb, ne_eqb}
use Rattle.clap.specs.Walk.{Text}
use Rattle.decimals.specs.Numbers.{number_of}
use Rattle.decimals.specs.Laws.{number_of_again}
use Rattle.command_line.specs.Options.{within}
use Rattle.command_line.specs.declared.number.Range.{Range}

-- a choice whose tests both pass
picks : (a b : Bool) (o : Option ℕ) → a ≡ true → b ≡ true → cond (a && b) o None ≡ o
picks a b o ea eb = rw (ea, eb) refl

-- the first byte of a number is no hyphen
pub record Begins (text : Text) : Type 0 where
  pub first : ℕ
  pub more : Text
  pub is : text ≡ first ∷ more
  pub no_hyphen : (first == 45) ≡ false

begins_of : (text : Text) → IsNumeral 10 text → Begins text
begins_of [] h = let some : 0 < 0 = h.0 in absurd (omega arith)
begins_of (d ∷ ds) h = record {
  first = d;
  more = ds;
  is = refl;
  no_hyphen = ne_eqb _ _ (λ e. omega (arith, digit_from_value d h.1.0));
}

pub begins : (n : ℕ) → n < 2 ^ 64 → Begins (decimal n)
begins n h = begins_of (decimal n) (decimal_is_IsNumeral n h).0

-- a number in its range is read as it is
within_range : (range : Range) (n : ℕ) → range.least ≤ n → n ≤ range.most → within range n ≡ Some n
within_range range n low high =
    picks (nat_le range.least n) (nat_le n range.most) (Some n) (le-leb range.least n low) (le-leb n range.most high)

pub number_in_range : (range : Range) (n : ℕ) → range.least ≤ n → n ≤ range.most → n < 2 ^ 64
    → option_and_then (within range) (number_of (decimal n)) ≡ Some n
number_in_range range n low high h = ap (option_and_then (within range)) (number_of_again n h) ∙ within_range range n low high
