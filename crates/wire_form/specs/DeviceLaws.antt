-- A device has one list of words at most as each page, and keeps it as the device grows.
use Rattle.std.proofs.Common.{◌≡◌, ℕ, ◌+◌, ◌-◌, ◌*◌, ◌<◌, ◌≤◌, List, ◌++◌, length, get_or, take, drop, sym, ap, ◌∙◌, arith}
use Rattle.std.proofs.lemmas.List.{length-append, length-take-le, length-drop, get_or-drop, take-append-le, drop-append-le}
use Rattle.wire_form.specs.ByteLaws.{length-bytes_of, same_words, part_fits, words_of}
use Rattle.wire_form.specs.Device.{page_bytes, HasWords}

-- a page has 512 bytes
pub length-page_bytes : (number : ℕ) (device : List ℕ) → 1 ≤ number → 512 * number ≤ length device
    → length (page_bytes number device) ≡ 512
length-page_bytes number device first inside =
    length-take-le 512 (drop (512 * (number - 1)) device) (omega (arith, length-drop (512 * (number - 1)) device))

-- and 64 words
pub length-words : (device : List ℕ) (number : ℕ) (words : List ℕ) → HasWords device number words → length words ≡ 64
length-words device number words has =
    omega (arith, ap length has.spelled, length-page_bytes number device has.first has.inside, length-bytes_of words)

-- a page has one list of words at most
pub one_list_of_words : (device : List ℕ) (number : ℕ) (a b : List ℕ) → HasWords device number a
    → HasWords device number b → a ≡ b
one_list_of_words device number a b p q = same_words a b p.fit q.fit (sym p.spelled ∙ q.spelled)

-- each page of a device of bytes has words
pub some_words : (device : List ℕ) (number : ℕ) → 1 ≤ number → 512 * number ≤ length device
    → ((i : ℕ) → get_or device i 0 < 256) → (words : List ℕ) × HasWords device number words
some_words device number first inside bytes =
    let found =
    words_of 64 (page_bytes number device) (length-page_bytes number device first inside)
    (part_fits 512 (drop (512 * (number - 1)) device) (λ i. rw get_or-drop (bytes (512 * (number - 1) + i)))) in
    (found.0, record { first = first; inside = inside; fit = found.2; spelled = found.3 })

-- a page stays as it is where bytes are added behind all pages
pub words_stay : (device more : List ℕ) (number : ℕ) (words : List ℕ) → HasWords device number words
    → HasWords (device ++ more) number words
words_stay device more number words has = record {
  first = has.first;
  inside = omega (arith, has.inside, length-append device more);
  fit = has.fit;
  spelled = ap (take 512) (drop-append-le (512 * (number - 1)) device more (omega (arith, has.inside)))
      ∙ take-append-le 512 (drop (512 * (number - 1)) device) more
      (omega (arith, has.first, has.inside, length-drop (512 * (number - 1)) device))
      ∙ has.spelled;
}
