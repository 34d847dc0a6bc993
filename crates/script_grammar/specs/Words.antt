-- How a line of a script falls into words, numbers and operations.
use Rattle.std.specs.Prelude.{ℕ, ◌==◌, ◌&&◌, ◌||◌, Bool, true, false, List, [], ◌∷◌, drop, codes, slice_get, Option, Some, None, is_none}
use Rattle.std.specs.Char.{is_ascii_digit}
use Rattle.std.specs.List.{list_any, slice_split, before_first, after_first}
use Rattle.std.specs.Cmp.Lexicographic.{pointwise}
use Rattle.decimals.specs.Numbers.{number_of}
use Rattle.script_grammar.specs.Script.{Bytes}

infixl 10 ◌>>=◌
-- what comes of what is found, if anything is
abbrev pub ◌>>=◌ : {A B : Type 0} → Option A → (A → Option B) → Option B
(Some x) >>= f = f x
None >>= f = None

-- what is found passes the test; where nothing is found, nothing does
abbrev pub passes : {A : Type 0} → (A → Bool) → Option A → Bool
passes test None = false
passes test (Some x) = test x

-- ---- words

-- words are parted by spaces
abbrev pub is_space : ℕ → Bool
is_space b = b == 32

-- the words between single spaces; two spaces in a row have an empty one between them
abbrev pub words : Bytes → List Bytes
words bytes = slice_split (λ b. b == 32) bytes

-- the number that the word of this index is, if there is one and it is a number
abbrev pub number_in : List Bytes → ℕ → Option ℕ
number_in ws index = slice_get ws index >>= number_of

-- the word of this index is there, and no number
abbrev pub is_no_number : List Bytes → ℕ → Bool
is_no_number ws index = passes (λ word. is_none (number_of word)) (slice_get ws index)

-- the bytes are this word
abbrev pub is_word : Bytes → Bytes → Bool
is_word word bytes = pointwise (λ x y. x == y) bytes word

-- the word is one of the letters
abbrev pub is_letter : Bytes → Bytes → Bool
is_letter letters [] = false
is_letter letters (b ∷ []) = list_any (λ c. c == b) letters
is_letter letters (b ∷ c ∷ bytes) = false

-- ---- parts

-- a space stands at the front
abbrev pub begins_space : Bytes → Bool
begins_space [] = false
begins_space (b ∷ bytes) = b == 32

-- a semicolon and a space stand at the front
abbrev pub begins_separator : Bytes → Bool
begins_separator [] = false
begins_separator (b ∷ bytes) = (b == 59) && begins_space bytes

-- a byte before parts that begin a text, or a semicolon that parts it, before a space
abbrev pub before_parts : Bool → ℕ → List Bytes → List Bytes
before_parts is_separator b [] = (b ∷ []) ∷ []
before_parts true b (part ∷ parts) = [] ∷ drop 1 part ∷ parts
before_parts false b (part ∷ parts) = (b ∷ part) ∷ parts

-- the parts between semicolons that a space follows
abbrev pub parts : Bytes → List Bytes
parts [] = [] ∷ []
parts (b ∷ bytes) = before_parts (begins_separator (b ∷ bytes)) b (parts bytes)

-- ---- lines

-- a worker's line begins with a digit
abbrev pub is_worker_line : Bytes → Bool
is_worker_line [] = false
is_worker_line (b ∷ bytes) = is_ascii_digit b

-- what stands before the first space of a worker's line, where its worker belongs
abbrev pub worker_word : Bytes → Bytes
worker_word line = before_first is_space line

-- the parts of what stands behind it, where its operations belong
abbrev pub op_parts : Bytes → List Bytes
op_parts line = parts (after_first is_space line)

-- the line is one of the maintenance thread
abbrev pub is_keeper_line : Bytes → Bool
is_keeper_line line =
    is_word (codes "k epoch") line || (is_word (codes "k save") line
    || (is_word (codes "k glean") line || is_word (codes "k drop") line))

-- the line ends a round
abbrev pub is_join : Bytes → Bool
is_join line = is_word (codes "join") line
