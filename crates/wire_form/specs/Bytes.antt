-- Words as bytes, and parts that end in zeros.
use Rattle.std.specs.Prelude.{ℕ, ◌-◌, List, ◌++◌, length, replicate}
use Rattle.std.specs.List.{flat_map}
use Rattle.std.specs.Int.{w64, to_be_bytes}

-- the eight bytes of a word, the greatest first
unfoldable pub bytes_of_word : ℕ → List ℕ
bytes_of_word word = to_be_bytes w64 word

-- the bytes of words, one after another
abbrev pub bytes_of : List ℕ → List ℕ
bytes_of words = flat_map bytes_of_word words

-- a part of n places: what stands there, and then nothing but zeros
abbrev pub padded : ℕ → List ℕ → List ℕ
padded n xs = xs ++ replicate (n - length xs) 0
