-- What a record's word tells of its version: a check compares words where the machine compares versions.
use Rattle.std.proofs.Common.{◌≡◌, ◌⊎◌, inl, inr, ℕ, ◌+◌, ◌^◌, ◌<◌, Bool, true, false, true≢false, eqb, ne_eqb}
use Rattle.std.proofs.Common.{eqb-true, eq-eqb, refl, sym, ap, ◌∙◌, subst, arith, Option, Some, None}
use Rattle.std.specs.Prelude.{is_some, ◌&&◌, ◌||◌}
use Rattle.std.proofs.lemmas.Bool.{and_from, and_left, false_from_ne_true}
use Rattle.std.proofs.lemmas.Bool.Decides.{nat_tests}
use mathlib.Core.Bool.{beq}
use Rattle.homes.specs.declared.places.Content.{Content}
use Rattle.homes.specs.declared.places.Holder.{Holder}
use Rattle.homes.specs.declared.places.Holder.TheVariants.{Free, Held, Dead}
use Rattle.wire_form.specs.Leaves.{tree_leaf}
use Rattle.wire_form.specs.Words.{absent_field, at_bit, number_word}
use Rattle.commit_core.specs.Keys.{same_number}
use Rattle.commit_core.specs.Lemmas.Keys.{same_number-self, same_number-true}
use Rattle.commit_core.specs.Parts.{is_version, version_of}
use Rattle.commit_core.specs.Places.{holder_is, is_open_to}
use Rattle.engine_pages.specs.Words.{IsSmall, lock_field}
use Rattle.page_records.specs.Attempts.{is_as_seen}
use Rattle.page_records.specs.Locks.{IsOpenWord, lock_bit}
use Rattle.page_records.proofs.Contents.{IsProper, small_word, one_number}

-- ---- a word and a version

beq_true : (a b : Bool) → a ≡ b → beq a b ≡ true
beq_true true true e = refl
beq_true true false e = absurd (true≢false e)
beq_true false true e = absurd (true≢false (sym e))
beq_true false false e = refl

-- two contents of one number both have a value, or neither has
both_valued : (q c : Content) → IsProper q → IsProper c → q.number ≡ c.number → is_some q.value ≡ is_some c.value
both_valued q c of on same = by_values q.value c.value refl refl
  where
    by_values : (a b : Option ℕ) → q.value ≡ a → c.value ≡ b → is_some a ≡ is_some b
    by_values None None x y = refl
    by_values None (Some j) x y =
        let none : c.value ≡ None = on.blank (sym same ∙ of.never x) in
        absurd (true≢false (ap (λ (o : Option ℕ). is_some o) (sym y ∙ none)))
    by_values (Some i) None x y =
        let none : q.value ≡ None = of.blank (same ∙ on.never y) in
        absurd (true≢false (ap (λ (o : Option ℕ). is_some o) (sym x ∙ none)))
    by_values (Some i) (Some j) x y = refl

-- so the version of an array's record is told by its number's word
pub version_word : (q c : Content) → IsSmall q.number → IsSmall c.number → IsProper q → IsProper c
    → is_version q (version_of c) ≡ eqb (number_word q.number) (number_word c.number)
version_word q c s t of on = by_test (eqb (number_word q.number) (number_word c.number)) refl
  where
    by_test : (b : Bool) → eqb (number_word q.number) (number_word c.number) ≡ b → is_version q (version_of c) ≡ b
    by_test true e =
        let same = one_number q.number c.number s t (eqb-true (number_word q.number) (number_word c.number) e) in
        and_from (same_number q.number c.number) (beq (is_some q.value) (is_some c.value))
        (subst (λ n. same_number q.number n ≡ true) same (same_number-self q.number))
        (beq_true (is_some q.value) (is_some c.value) (both_valued q c of on same))
    by_test false e =
        and_left (same_number q.number c.number) (beq (is_some q.value) (is_some c.value))
        (false_from_ne_true (same_number q.number c.number) (λ hit.
        true≢false (sym (eq-eqb (number_word q.number) (number_word c.number)
        (ap number_word (same_number-true q.number c.number hit))) ∙ e)))

and_false : (x : Bool) → (x && false) ≡ false
and_false true = refl
and_false false = refl

-- that of a tree's record by the number's word with the bit of absence
pub tree_version : (q c : Content) → IsSmall q.number → IsSmall c.number
    → is_version q (version_of c)
    ≡ eqb (number_word q.number + absent_field tree_leaf q.value) (number_word c.number + absent_field tree_leaf c.value)
tree_version q c s t = by_values q.value c.value
  where
    -- where both have a value, or neither
    alike : (field : ℕ) → (b : Bool) → beq b b ≡ true → (e : Bool)
        → eqb (number_word q.number + field) (number_word c.number + field) ≡ e
        → (same_number q.number c.number && beq b b) ≡ e
    alike field b both true e =
        let words : number_word q.number + field ≡ number_word c.number + field =
        eqb-true (number_word q.number + field) (number_word c.number + field) e in
        let one = one_number q.number c.number s t (omega (arith, words)) in
        and_from (same_number q.number c.number) (beq b b)
        (subst (λ n. same_number q.number n ≡ true) one (same_number-self q.number)) both
    alike field b both false e =
        and_left (same_number q.number c.number) (beq b b)
        (false_from_ne_true (same_number q.number c.number) (λ hit.
        true≢false (sym (eq-eqb (number_word q.number + field) (number_word c.number + field)
        (ap (λ n. number_word n + field) (same_number-true q.number c.number hit))) ∙ e)))

    by_values : (a b : Option ℕ) → (same_number q.number c.number && beq (is_some a) (is_some b))
        ≡ eqb (number_word q.number + absent_field tree_leaf a) (number_word c.number + absent_field tree_leaf b)
    by_values None None = alike (at_bit 61 1) false refl
        (eqb (number_word q.number + at_bit 61 1) (number_word c.number + at_bit 61 1)) refl
    by_values (Some i) (Some j) =
        alike 0 true refl (eqb (number_word q.number + 0) (number_word c.number + 0)) refl
    by_values None (Some j) =
        let low = small_word c.number t in
        and_false (same_number q.number c.number)
        ∙ sym (ne_eqb (number_word q.number + at_bit 61 1) (number_word c.number + 0) (λ z. absurd (omega (arith, z, low))))
    by_values (Some i) None =
        let low = small_word q.number s in
        and_false (same_number q.number c.number)
        ∙ sym (ne_eqb (number_word q.number + 0) (number_word c.number + at_bit 61 1) (λ z. absurd (omega (arith, z, low))))

-- ---- a word and a check

or_false : (x : Bool) → (x || false) ≡ x
or_false true = refl
or_false false = refl

-- a word with the lock bit isn't one without it
high_word : (n bit word : ℕ) → n < 2 ^ 60 → (bit ≡ 0) ⊎ (bit ≡ at_bit 61 1) → IsOpenWord word
    → (n + lock_bit) + bit ≡ word → ⊥
high_word n bit word few (inl none) (inl low) same = absurd (omega arith)
high_word n bit word few (inl none) (inr high) same = absurd (let from = high.0 in omega arith)
high_word n bit word few (inr set) (inl low) same = absurd (omega arith)
high_word n bit word few (inr set) (inr high) same = absurd (let to = high.1 in omega arith)

-- what the word tells is what the machine's check finds
pub word_tells : (p n bit word : ℕ) (same own : Bool) (h : Holder) → n < 2 ^ 60
    → (bit ≡ 0) ⊎ (bit ≡ at_bit 61 1) → IsOpenWord word → own ≡ holder_is p h
    → (is_open_to p h ≡ true → same ≡ eqb (n + bit) word)
    → (is_open_to p h && same) ≡ is_as_seen word own ((n + lock_field h) + bit)
word_tells p n bit word same own Free few one open-word mine version =
    let zero : (n + 0) + bit ≡ n + bit = omega arith in
    version refl
    ∙ sym (ap (is_as_seen word own) zero
    ∙ (ap (λ o. eqb (n + bit) word || (o && eqb (n + bit) (word + lock_bit))) mine ∙ or_false (eqb (n + bit) word)))
word_tells p n bit word same own (Held x) few one open-word mine version =
    let not_it : eqb ((n + lock_bit) + bit) word ≡ false =
    ne_eqb ((n + lock_bit) + bit) word (high_word n bit word few one open-word) in
    let locks : eqb ((n + lock_bit) + bit) (word + lock_bit) ≡ eqb (n + bit) word = grind (arith, nat_tests) in
    let right : is_as_seen word own ((n + lock_bit) + bit) ≡ (eqb x p && eqb (n + bit) word) =
    ap (λ y. y || (own && eqb ((n + lock_bit) + bit) (word + lock_bit))) not_it
    ∙ (ap (λ o. o && eqb ((n + lock_bit) + bit) (word + lock_bit)) mine ∙ ap (λ y. eqb x p && y) locks) in
    by_own (eqb x p) refl ∙ sym right
  where
    by_own : (b : Bool) → eqb x p ≡ b → (eqb x p && same) ≡ (eqb x p && eqb (n + bit) word)
    by_own true e = ap (λ y. eqb x p && y) (version e)
    by_own false e = and_left (eqb x p) same e ∙ sym (and_left (eqb x p) (eqb (n + bit) word) e)
word_tells p n bit word same own Dead few one open-word mine version =
    let not_it : eqb ((n + lock_bit) + bit) word ≡ false =
    ne_eqb ((n + lock_bit) + bit) word (high_word n bit word few one open-word) in
    sym (ap (λ y. y || (own && eqb ((n + lock_bit) + bit) (word + lock_bit))) not_it
    ∙ ap (λ o. o && eqb ((n + lock_bit) + bit) (word + lock_bit)) mine)
