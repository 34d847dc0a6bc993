-- Savepoints and their words.
use Rattle.std.proofs.Common.{◌≡◌, ℕ, ◌/◌, ◌%◌, ◌^◌, ◌<◌, true, eqb, List, [], ◌∷◌, ◌++◌, length, get_or, take, drop, refl, sym, ap, ◌∙◌, arith, lit<, lit≤}
use Rattle.std.specs.List.{AllByRecursion}
use Rattle.std.proofs.lemmas.List.{take_at, take_all, length-drop, drop_at, drop_all, append-nil, take-append-drop}
use Rattle.std.proofs.lemmas.Bool.{eq-eqb}
use lib.Pointwise.{pointwise}
use borrow.Rule.Slice.PartMut.{put_mid}
use Rattle.lists.specs.Each.{all_below}
use Rattle.wire_form.specs.Bytes.{bytes_of_word, bytes_of, padded}
use Rattle.wire_form.specs.declared.savepoint.Savepoint.{Savepoint}
use Rattle.wire_form.specs.Savepoint.{IsSavepoint, StandsAt, IsSavepointOf, magic, body_words, place_bytes, valid_byte}
use Rattle.wire_form.specs.Items.{IsSpelled}
use Rattle.wire_form.specs.ByteLaws.{same_word, same_words, length-padded}
use Rattle.wire_form.proofs.ByteLemmas.{head_and_rest, all_padded}

abbrev point_of : ℕ → ℕ → ℕ → ℕ → List ℕ → Savepoint
point_of s e c n ls = record { sequence = s; epoch = e; catalogue = c; count = n; lengths = ls }

-- the fields that are taken from words are those of the savepoint that has these words
pub same_point : (u : Savepoint) (words : List ℕ) (s e c n : ℕ) (ls : List ℕ) → IsSavepoint u → body_words u ≡ words
    → s ≡ get_or words 1 0 → e ≡ get_or words 2 0 / 2 ^ 0 % 2 ^ 32 → c ≡ get_or words 3 0 / 2 ^ 0 % 2 ^ 32 → n ≡ get_or words 4 0 / 2 ^ 0 % 2 ^ 32 → ls ≡ take 16 (drop 5 words)
    → u ≡ point_of s e c n ls
same_point u words s e c n ls is h ps pe pc pn pl =
    let hs : u.sequence ≡ get_or words 1 0 = ap (λ w. get_or w 1 0) h in
    let he : u.epoch ≡ get_or words 2 0 = ap (λ w. get_or w 2 0) h in
    let hc : u.catalogue ≡ get_or words 3 0 = ap (λ w. get_or w 3 0) h in
    let hn : u.count ≡ get_or words 4 0 = ap (λ w. get_or w 4 0) h in
    let es : u.sequence ≡ s = cc in
    let ee : u.epoch ≡ e = omega (arith, is.epoch) in
    let ec : u.catalogue ≡ c = omega (arith, is.count, is.newest) in
    let en : u.count ≡ n = omega (arith, is.count) in
    let front : take 16 (drop 5 (body_words u)) ≡ u.lengths = take_at u.lengths _ 16 is.banks in
    let el : u.lengths ≡ ls = sym front ∙ ap (λ w. take 16 (drop 5 w)) h ∙ sym pl in
    ap (λ x. point_of x u.epoch u.catalogue u.count u.lengths) es ∙ ap (λ x. point_of s x u.catalogue u.count u.lengths) ee
    ∙ ap (λ x. point_of s e x u.count u.lengths) ec ∙ ap (λ x. point_of s e c x u.lengths) en ∙ ap (point_of s e c n) el

-- the word of an open place is its valid byte and seven zeros
pub open_word : bytes_of_word 0xA500_0000_0000_0000 ≡ padded 8 (valid_byte ∷ [])
unfolding bytes_of_word
open_word = refl

-- an open place is that word, and then the body
pub place_written : (to mid part body : List ℕ) → length to ≡ 512 → mid ≡ bytes_of (0xA500_0000_0000_0000 ∷ []) ++ drop 8 to → part ≡ bytes_of body → put_mid 8 504 mid part ≡ padded 8 (valid_byte ∷ []) ++ bytes_of body
place_written to mid part body long here there =
    let head : bytes_of (0xA500_0000_0000_0000 ∷ []) ≡ padded 8 (valid_byte ∷ []) = append-nil (bytes_of_word 0xA500_0000_0000_0000) ∙ open_word in
    let nothing : drop 512 to ≡ [] = drop_all 512 to (omega arith) in
    head_and_rest to mid part (bytes_of body) (padded 8 (valid_byte ∷ [])) 8 504 512 refl refl (here ∙ ap (λ t. t ++ drop 8 to) head) there
    ∙ ap (λ t. (padded 8 (valid_byte ∷ []) ++ bytes_of body) ++ t) nothing ∙ append-nil (padded 8 (valid_byte ∷ []) ++ bytes_of body)

-- equal lists pass the test
pub equal_to_itself : (xs : List ℕ) → pointwise eqb xs xs ≡ true
equal_to_itself [] = refl
equal_to_itself (x ∷ xs) = rw (eq-eqb x x refl) (equal_to_itself xs)

pub length-body : (s : Savepoint) → length s.lengths ≡ 16 → length (body_words s) ≡ 63
length-body s banks = length-padded 63 (magic 1 ∷ s.sequence ∷ s.epoch ∷ s.catalogue ∷ s.count ∷ s.lengths) (omega arith)

body_fits : (s : Savepoint) → IsSavepoint s → AllByRecursion (λ w. w < 2 ^ 64) (body_words s)
body_fits s is =
    let lengths : AllByRecursion (λ w. w < 2 ^ 64) s.lengths = all_below (2 ^ 40) (2 ^ 64) (lit≤ tt) s.lengths is.lengths in
    all_padded (λ w. w < 2 ^ 64) 63 (magic 1 ∷ s.sequence ∷ s.epoch ∷ s.catalogue ∷ s.count ∷ s.lengths) (lit< tt)
    (lit< tt, (omega (arith, is.last), (omega (arith, is.epoch), (omega (arith, is.newest, is.count), (omega (arith, is.count), lengths)))))

-- the first word of an open place
pub same_gate : (u : Savepoint) (bytes : List ℕ) (word : ℕ) → word < 2 ^ 64 → bytes_of_word word ≡ take 8 bytes → place_bytes u ≡ bytes → word ≡ 0xA500_0000_0000_0000
same_gate u bytes word fits here e =
    same_word word 0xA500_0000_0000_0000 fits (lit< tt) (here ∙ ap (take 8) (sym e) ∙ take_at (padded 8 (valid_byte ∷ [])) (bytes_of (body_words u)) 8 refl ∙ sym open_word)

-- all that stands behind it
pub behind_gate : (bytes words : List ℕ) → length bytes ≡ 512 → take 504 (drop 8 bytes) ≡ bytes_of words → drop 8 bytes ≡ bytes_of words
behind_gate bytes words long e = sym (take_all 504 (drop 8 bytes) (omega (arith, length-drop 8 bytes))) ∙ e

-- the words behind it are the body
pub same_body : (u : Savepoint) (bytes words : List ℕ) → AllByRecursion (λ w. w < 2 ^ 64) words → drop 8 bytes ≡ bytes_of words → IsSavepoint u → place_bytes u ≡ bytes → body_words u ≡ words
same_body u bytes words fits here is e =
    same_words (body_words u) words (body_fits u is) fits (sym (drop_at (padded 8 (valid_byte ∷ [])) (bytes_of (body_words u)) 8 refl) ∙ ap (drop 8) e ∙ here)

-- what was read is a place that is open
pub place_read : (place : ℕ) (bytes words : List ℕ) (word : ℕ) (s : Savepoint) → AllByRecursion (λ w. w < 2 ^ 64) words → bytes_of_word word ≡ take 8 bytes → word ≡ 0xA500_0000_0000_0000 → drop 8 bytes ≡ bytes_of words → IsSpelled IsSavepoint body_words words s → StandsAt place s
    → IsSpelled (IsSavepointOf place) place_bytes bytes s
place_read place bytes words word s fits first opened here found stands =
    let gate : padded 8 (valid_byte ∷ []) ≡ take 8 bytes = sym open_word ∙ ap bytes_of_word (sym opened) ∙ first in
    record {
      valid = record { point = found.valid; stands = stands };
      spelled = ap (λ t. padded 8 (valid_byte ∷ []) ++ bytes_of t) found.spelled ∙ ap (λ t. t ++ bytes_of words) gate ∙ ap (λ t. take 8 bytes ++ t) (sym here) ∙ take-append-drop 8 bytes;
      only = λ u is e. found.only u is.point (same_body u bytes words fits here is.point e);
    }
