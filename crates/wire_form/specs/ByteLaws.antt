-- Words and their bytes, as laws for those who use them.
use Rattle.std.proofs.Common.{◌≡◌, ℕ, zero, suc, ◌+◌, ◌-◌, ◌*◌, ◌^◌, ◌<◌, ◌≤◌, List, [], ◌∷◌, ◌++◌, length, get_or, inl, inr, take, drop, replicate, refl, sym, ap, ◌∙◌, arith}
use Rattle.std.specs.List.{AllByRecursion}
use Rattle.std.specs.Int.{w64, from_be_bytes}
use Rattle.std.proofs.lemmas.Nat.{be_bytes_8, from_be_bytes-to_be_bytes_8}
use Rattle.std.proofs.lemmas.Bool.{cases_lt}
use Rattle.std.proofs.lemmas.List.{take-append-drop, nil_from_length, get_or-take, get_or-drop, get_or_past, length-drop, length-append, length-take, length-replicate}
use Rattle.lists.specs.Fronts.{same_parts}
use Rattle.wire_form.specs.Bytes.{bytes_of_word, bytes_of, padded}

-- a word has eight bytes
pub length-bytes_of_word : (word : ℕ) → length (bytes_of_word word) ≡ 8
unfolding bytes_of_word
length-bytes_of_word word = refl

-- two words with the same bytes are one
pub same_word : (a b : ℕ) → a < 2 ^ 64 → b < 2 ^ 64 → bytes_of_word a ≡ bytes_of_word b → a ≡ b
unfolding bytes_of_word
same_word a b p q e =
    sym (from_be_bytes-to_be_bytes_8 a p) ∙ ap (from_be_bytes w64) e ∙ from_be_bytes-to_be_bytes_8 b q

-- words have eight times as many bytes
pub length-bytes_of : (words : List ℕ) → length (bytes_of words) ≡ 8 * length words
length-bytes_of [] = refl
length-bytes_of (w ∷ ws) =
    omega (arith, length-append (bytes_of_word w) (bytes_of ws), length-bytes_of_word w, length-bytes_of ws)

-- two lists of words with the same bytes are one
pub same_words : (xs ys : List ℕ) → AllByRecursion (λ w. w < 2 ^ 64) xs → AllByRecursion (λ w. w < 2 ^ 64) ys
    → bytes_of xs ≡ bytes_of ys → xs ≡ ys
same_words [] [] p q e = refl
same_words [] (y ∷ ys) p q e = absurd (omega (arith, ap length e, length-bytes_of (y ∷ ys)))
same_words (x ∷ xs) [] p q e = absurd (omega (arith, ap length e, length-bytes_of (x ∷ xs)))
same_words (x ∷ xs) (y ∷ ys) p q e =
    let parts =
    same_parts (bytes_of_word x) (bytes_of_word y) (bytes_of xs) (bytes_of ys)
    (length-bytes_of_word x ∙ sym (length-bytes_of_word y)) e in
    let first : x ≡ y = same_word x y p.0 q.0 parts.0 in
    let rest : xs ≡ ys = same_words xs ys p.1 q.1 parts.1 in
    cc

-- a padded part is as long as it is to be
pub length-padded : (n : ℕ) (xs : List ℕ) → length xs ≤ n → length (padded n xs) ≡ n
length-padded n xs le =
    omega (arith, length-append xs (replicate (n - length xs) 0), length-replicate {A = ℕ} (n - length xs) 0)

-- ---- bytes as words

-- a front of bytes has bytes alone
pub part_fits : (n : ℕ) (bytes : List ℕ) → ((i : ℕ) → get_or bytes i 0 < 256) → (i : ℕ)
    → get_or (take n bytes) i 0 < 256
part_fits n bytes fits i =
    elim (cases_lt i n) [
      | inl lt ↦ rw (get_or-take n bytes i 0 lt) (fits i)
      | inr le ↦ rw (get_or_past (take n bytes) i 0 (omega (arith, length-take n bytes))) (omega arith)
    ]

word_of : (bytes : List ℕ) → length bytes ≡ 8 → ((i : ℕ) → get_or bytes i 0 < 256)
    → (w : ℕ) × (w < 2 ^ 64) × (bytes_of_word w ≡ bytes)
unfolding bytes_of_word
word_of bytes len fits =
    let below : from_be_bytes w64 bytes < 2 ^ 64 =
    omega (arith, fits 0, fits 1, fits 2, fits 3, fits 4, fits 5, fits 6, fits 7) in
    (from_be_bytes w64 bytes, below, be_bytes_8 bytes (from_be_bytes w64 bytes) len fits refl)

-- eight times as many bytes are so many words
pub words_of : (n : ℕ) (bytes : List ℕ) → length bytes ≡ 8 * n → ((i : ℕ) → get_or bytes i 0 < 256)
    → (words : List ℕ) × (length words ≡ n) × AllByRecursion (λ w. w < 2 ^ 64) words × (bytes ≡ bytes_of words)
words_of zero bytes len fits = ([], refl, tt, nil_from_length bytes (omega arith))
words_of (suc n) bytes len fits =
    let first = word_of (take 8 bytes) (omega (arith, length-take 8 bytes)) (part_fits 8 bytes fits) in
    let rest = words_of n (drop 8 bytes) (omega (arith, length-drop 8 bytes)) (λ i. rw get_or-drop (fits (8 + i))) in
    let whole : bytes ≡ bytes_of_word first.0 ++ bytes_of rest.0 =
    sym (take-append-drop 8 bytes) ∙ ap (λ t. t ++ drop 8 bytes) (sym first.2)
    ∙ ap (λ t. bytes_of_word first.0 ++ t) rest.3 in
    (first.0 ∷ rest.0, ap suc rest.1, (first.1, rest.2), whole)
