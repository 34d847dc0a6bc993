-- How a number is read from its decimal text.
use Rattle.std.specs.Prelude.{ℕ, ◌^◌, ◌==◌, Bool, true, false, List, [], ◌∷◌, take, drop, nat_lt, if◌then◌else◌, Option, Some, None, option_map}
use Rattle.std.specs.Char.{is_ascii_digit}
use Rattle.std.specs.List.{prefix_len, list_all}
use Rattle.std.specs.Str.Parse.{digits_value}

-- no digit at all, or a zero (48) before others
abbrev pub is_misspelled : List ℕ → Bool
is_misspelled [] = true
is_misspelled (digit ∷ []) = false
is_misspelled (digit ∷ next ∷ digits) = digit == 48

-- the value of digits, if it is below 2 ^ 64
unfoldable pub value_of : List ℕ → Option ℕ
value_of digits = if nat_lt (digits_value 10 digits) (2 ^ 64) then Some (digits_value 10 digits) else None

-- the number that digits spell
unfoldable pub digits_number : List ℕ → Option ℕ
digits_number digits = if is_misspelled digits then None else value_of digits

-- the number that bytes spell: digits alone, no zero before others, at most 2 ^ 64 - 1
unfoldable pub number_of : List ℕ → Option ℕ
number_of bytes = if list_all is_ascii_digit bytes then digits_number bytes else None

-- how many digits stand at the front
abbrev pub digits_len : List ℕ → ℕ
digits_len bytes = prefix_len is_ascii_digit bytes

-- the number that the digits at the front spell, and the bytes behind them
unfoldable pub number_at : List ℕ → Option (ℕ × List ℕ)
number_at bytes = option_map (λ n. (n, drop (digits_len bytes) bytes)) (digits_number (take (digits_len bytes) bytes))
