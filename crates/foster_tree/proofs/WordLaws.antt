-- Words of a leaf that is filled record by record.
use Rattle.std.proofs.Common.{◌≡◌, ◌≢◌, ℕ, zero, suc, ◌+◌, ◌*◌, ◌<◌, ◌≤◌, List, length, get_or, set, refl, sym, ap, ◌∙◌, arith}
use Rattle.std.proofs.Common.{Bool, true, false, eqb, eqb-true, eq-eqb, true≢false, subst}
use Rattle.std.proofs.lemmas.List.{length-set, get_or-set_other, get_or-set_same}
use Rattle.homes.specs.declared.places.Span.{Span}
use Rattle.tree_heads.specs.Headers.{open_word}
use Rattle.foster_tree.specs.declared.entries.Entry.{Entry}
use Rattle.foster_tree.specs.Filling.{no_entry, with_head, with_record, with_records}

-- ---- one record

pub long_set : (words : List ℕ) (i n : ℕ) → length words ≡ 64 → length (set words i n) ≡ 64
long_set words i n long = length-set words i n ∙ long

pub long_record : (words : List ℕ) (at : ℕ) (e : Entry) → length words ≡ 64 → length (with_record words at e) ≡ 64
long_record words at e long =
    long_set (set (set words at e.key) (at + 1) e.word) (at + 2) e.value
    (long_set (set words at e.key) (at + 1) e.word (long_set words at e.key long))

-- the key, the number's word and the value stand where they belong
pub record HasRecord (words : List ℕ) (at : ℕ) (e : Entry) : Type 0 where
  pub key : get_or words at 0 ≡ e.key
  pub word : get_or words (at + 1) 0 ≡ e.word
  pub value : get_or words (at + 2) 0 ≡ e.value

pub record_stands : (words : List ℕ) (at : ℕ) (e : Entry) → length words ≡ 64 → at + 2 < 64
    → HasRecord (with_record words at e) at e
record_stands words at e long less =
    let one : List ℕ = set words at e.key in
    let two : List ℕ = set (set words at e.key) (at + 1) e.word in
    let first : length (set words at e.key) ≡ 64 = long_set words at e.key long in
    let second : length (set (set words at e.key) (at + 1) e.word) ≡ 64 =
    long_set (set words at e.key) (at + 1) e.word first in
    record {
      key = get_or-set_other (set (set words at e.key) (at + 1) e.word) (at + 2) at e.value 0
          (λ same. absurd (omega (arith, same)))
          ∙ (get_or-set_other (set words at e.key) (at + 1) at e.word 0 (λ same. absurd (omega (arith, same)))
          ∙ get_or-set_same words at e.key 0 (omega (arith, long, less)));
      word = get_or-set_other (set (set words at e.key) (at + 1) e.word) (at + 2) (at + 1) e.value 0
          (λ same. absurd (omega (arith, same)))
          ∙ get_or-set_same (set words at e.key) (at + 1) e.word 0 (omega (arith, first, less));
      value = get_or-set_same (set (set words at e.key) (at + 1) e.word) (at + 2) e.value 0 (omega (arith, second, less));
    }

-- words below the record stay
pub record_below : (words : List ℕ) (at j : ℕ) (e : Entry) → j < at
    → get_or (with_record words at e) j 0 ≡ get_or words j 0
record_below words at j e below =
    get_or-set_other (set (set words at e.key) (at + 1) e.word) (at + 2) j e.value 0
    (λ same. absurd (omega (arith, same, below)))
    ∙ (get_or-set_other (set words at e.key) (at + 1) j e.word 0 (λ same. absurd (omega (arith, same, below)))
    ∙ get_or-set_other words at j e.key 0 (λ same. absurd (omega (arith, same, below))))

-- ---- the first ones of records

pub long_records : (words : List ℕ) (entries : List Entry) (n : ℕ) → length words ≡ 64
    → length (with_records words entries n) ≡ 64
long_records words entries zero long = long
long_records words entries (suc n) long =
    long_record (with_records words entries n) (16 + 3 * n) (get_or entries n no_entry)
    (long_records words entries n long)

pub records_below : (words : List ℕ) (entries : List Entry) (n j : ℕ) → j < 16
    → get_or (with_records words entries n) j 0 ≡ get_or words j 0
records_below words entries zero j below = refl
records_below words entries (suc n) j below =
    record_below (with_records words entries n) (16 + 3 * n) j (get_or entries n no_entry) (omega (arith, below))
    ∙ records_below words entries n j below

stand_further : (words : List ℕ) (at to : ℕ) (e d : Entry) → at + 2 < to → HasRecord words at d
    → HasRecord (with_record words to e) at d
stand_further words at to e d below was = record {
  key = record_below words to at e (omega (arith, below)) ∙ was.key;
  word = record_below words to (at + 1) e (omega (arith, below)) ∙ was.word;
  value = record_below words to (at + 2) e below ∙ was.value;
}

stand_step : (words : List ℕ) (entries : List Entry) (n i : ℕ) → length words ≡ 64 → n < 16 → i < suc n
    → (i < n → HasRecord (with_records words entries n) (16 + 3 * i) (get_or entries i no_entry)) → (b : Bool)
    → eqb i n ≡ b → HasRecord (with_records words entries (suc n)) (16 + 3 * i) (get_or entries i no_entry)
stand_step words entries n i long few less before true same =
    subst (λ (m : ℕ). HasRecord (with_records words entries (suc n)) (16 + 3 * m) (get_or entries m no_entry))
    (sym (eqb-true i n same))
    (record_stands (with_records words entries n) (16 + 3 * n) (get_or entries n no_entry)
    (long_records words entries n long) (omega (arith, few)))
stand_step words entries n i long few less before false other =
    let apart : i ≢ n = λ e. true≢false (sym (eq-eqb i n e) ∙ other) in
    let below : i < n = omega (arith, apart, less) in
    stand_further (with_records words entries n) (16 + 3 * i) (16 + 3 * n) (get_or entries n no_entry)
    (get_or entries i no_entry) (omega (arith, below)) (before below)

-- each of them stands there
pub records_stand : (words : List ℕ) (entries : List Entry) (n i : ℕ) → length words ≡ 64 → n ≤ 16 → i < n
    → HasRecord (with_records words entries n) (16 + 3 * i) (get_or entries i no_entry)
records_stand words entries zero i long few less = absurd (omega (arith, less))
records_stand words entries (suc n) i long few less =
    stand_step words entries n i long (omega (arith, few)) less
    (λ below. records_stand words entries n i long (omega (arith, few)) below) (eqb i n) refl

-- ---- the header and the fences

pub long_head : (sp : Span) (count : ℕ) (words : List ℕ) → length words ≡ 64 → length (with_head sp count words) ≡ 64
long_head sp count words long =
    long_set (set (set words 0 (open_word count)) 1 sp.low) 2 sp.high
    (long_set (set words 0 (open_word count)) 1 sp.low (long_set words 0 (open_word count) long))

-- they stand there
pub record HasHeadWords (words : List ℕ) (sp : Span) (count : ℕ) : Type 0 where
  pub header : get_or words 0 0 ≡ open_word count
  pub low : get_or words 1 0 ≡ sp.low
  pub high : get_or words 2 0 ≡ sp.high

pub head_stands : (sp : Span) (count : ℕ) (words : List ℕ) → length words ≡ 64
    → HasHeadWords (with_head sp count words) sp count
head_stands sp count words long =
    let first : length (set words 0 (open_word count)) ≡ 64 = long_set words 0 (open_word count) long in
    let second : length (set (set words 0 (open_word count)) 1 sp.low) ≡ 64 =
    long_set (set words 0 (open_word count)) 1 sp.low first in
    record {
      header = get_or-set_other (set (set words 0 (open_word count)) 1 sp.low) 2 0 sp.high 0
          (λ same. absurd (omega (arith, same)))
          ∙ (get_or-set_other (set words 0 (open_word count)) 1 0 sp.low 0 (λ same. absurd (omega (arith, same)))
          ∙ get_or-set_same words 0 (open_word count) 0 (omega (arith, long)));
      low = get_or-set_other (set (set words 0 (open_word count)) 1 sp.low) 2 1 sp.high 0
          (λ same. absurd (omega (arith, same)))
          ∙ get_or-set_same (set words 0 (open_word count)) 1 sp.low 0 (omega (arith, first));
      high = get_or-set_same (set (set words 0 (open_word count)) 1 sp.low) 2 sp.high 0 (omega (arith, second));
    }
