-- The words of numbers' texts, and of keys'.
use Rattle.std.proofs.Common.{◌≡◌, ℕ, ◌^◌, ◌<◌, List, [], ◌∷◌, ◌++◌, refl, sym, ap, ◌∙◌, append_assoc, arith}
use Rattle.std.specs.Fmt.{decimal}
use Rattle.std.specs.List.{join_with_byte}
use Rattle.std.specs.Str.Parse.{AllDigits}
use Rattle.std.proofs.lemmas.Bool.{ne_eqb}
use Rattle.std.proofs.lemmas.Fmt.{digits_decimal}
use Rattle.std.proofs.lemmas.List.Splits.{join_with_byte-slice_split}
use Rattle.std.proofs.lemmas.Str.Parse.{digit_from_value}
use Rattle.decimals.specs.Laws.{own}
use Rattle.serial_model.specs.declared.key.Key.{Key}
use Rattle.script_grammar.specs.Script.{Bytes, key_text}
use Rattle.script_grammar.specs.Words.{words}

-- a key that has a spelling
pub record IsKey (k : Key) : Type 0 where
  pub storage : k.storage < 256
  pub key : k.key < 2 ^ 64

-- the words with single spaces between them are the text
pub words_join : (bs : Bytes) (ws : List Bytes) → words bs ≡ ws → bs ≡ join_with_byte 32 ws
words_join bs ws e = sym (join_with_byte-slice_split 32 bs) ∙ ap (join_with_byte 32) e

-- a written number is digits
pub digits_of : (n : ℕ) → n < 2 ^ 64 → AllDigits 10 (decimal n)
digits_of n lt = digits_decimal own n lt

-- digits before a space are a word
words_digits : (ds rest : Bytes) → AllDigits 10 ds → words (ds ++ (32 ∷ rest)) ≡ ds ∷ words rest
words_digits [] rest all = refl
words_digits (d ∷ ds) rest all =
    let h = digit_from_value d all.0 in
    rw (ne_eqb d 32 (λ same. omega arith), words_digits ds rest all.1) refl

-- digits alone are a word
pub words_last : (ds : Bytes) → AllDigits 10 ds → words ds ≡ ds ∷ []
words_last [] all = refl
words_last (d ∷ ds) all =
    let h = digit_from_value d all.0 in
    rw (ne_eqb d 32 (λ same. omega arith), words_last ds all.1) refl

-- two numbers
pub words_two : (n m : ℕ) → n < 2 ^ 64 → m < 2 ^ 64 → words (decimal n ++ (32 ∷ decimal m)) ≡ decimal n ∷ decimal m ∷ []
words_two n m lt small = words_digits (decimal n) (decimal m) (digits_of n lt) ∙ ap (λ (ws : List Bytes). decimal n ∷ ws) (words_last (decimal m) (digits_of m small))

-- the words of a key's text
pub words_key : (k : Key) → IsKey k → words (key_text k) ≡ decimal k.storage ∷ decimal k.key ∷ []
words_key k is =
    let small = is.storage in
    ap words (append_assoc (decimal k.storage) (32 ∷ []) (decimal k.key)) ∙ words_two k.storage k.key (omega arith) is.key

-- the same with a value behind it
pub words_value : (k : Key) (v : ℕ) → IsKey k → v < 2 ^ 64 → words ((key_text k ++ (32 ∷ [])) ++ decimal v) ≡ decimal k.storage ∷ decimal k.key ∷ decimal v ∷ []
words_value k v is lt =
    let small = is.storage in
    ap words (append_assoc (key_text k) (32 ∷ []) (decimal v) ∙ append_assoc (decimal k.storage ++ (32 ∷ [])) (decimal k.key) (32 ∷ decimal v) ∙ append_assoc (decimal k.storage) (32 ∷ []) (decimal k.key ++ (32 ∷ decimal v)))
    ∙ words_digits (decimal k.storage) (decimal k.key ++ (32 ∷ decimal v)) (digits_of k.storage (omega arith))
    ∙ ap (λ (ws : List Bytes). decimal k.storage ∷ ws) (words_two k.key v is.key lt)
