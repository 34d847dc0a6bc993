-- The first reply among words, and what stands behind it.
use Rattle.std.proofs.Common.{◌≡◌, ℕ, ◌+◌, ◌-◌, ◌*◌, ◌^◌, ◌<◌, ◌≤◌, true, false, List, [], ◌∷◌, ◌++◌, length, take, drop}
use Rattle.std.proofs.Common.{refl, sym, ap, ◌∙◌, arith, inl, inr, length-append}
use Rattle.std.specs.Prelude.{slice_index, nat_lt}
use Rattle.std.proofs.lemmas.Bool.{cases_Bool}
use Rattle.serial_model.specs.ReplyWords.{AreReplyWords, AreRowWords, Begins, reply_words, replies_words, replies_of, replies_of-words, rows_words, rows_in}
use Rattle.serial_model.specs.ReplyWords.{length-rows_words, rows_in-words, taken_rows, dropped_rows}
use Rattle.serial_model.specs.declared.reply.Reply.{Reply}
use Rattle.serial_model.specs.declared.reply.Reply.TheVariants.{Value, Absent, Rows}

-- what stands first among words of replies, and the replies behind it
record FirstOf (mark : ℕ) (words : List ℕ) : Type 0 where
  reply : Reply
  others : List Reply
  spelled : mark ∷ words ≡ reply_words reply ++ replies_words others
  found : replies_of (mark ∷ words) ≡ reply ∷ others

-- there is a first reply
first_of : (mark : ℕ) (words : List ℕ) → AreReplyWords (mark ∷ words) → FirstOf mark words
first_of mark words are = by_replies (replies_of (mark ∷ words)) refl
  where
    by_replies : (replies : List Reply) → replies_of (mark ∷ words) ≡ replies → FirstOf mark words
    by_replies [] is = let none : [] ≡ mark ∷ words = ap replies_words (sym is) ∙ are in absurd cc
    by_replies (r ∷ rs) is = record { reply = r; others = rs; spelled = sym (ap replies_words (sym is) ∙ are); found = is }

-- words begin with the reply that is found first
begins_by : (words : List ℕ) (reply r : Reply) (others : List Reply) (rest : List ℕ) → replies_of words ≡ r ∷ others → r ≡ reply → replies_words others ≡ rest → Begins words reply rest
begins_by words reply r others rest found same behind =
    let are : AreReplyWords rest = ap replies_words (ap replies_of (sym behind) ∙ replies_of-words others) ∙ behind in
    let others_are : others ≡ replies_of rest = sym (replies_of-words others) ∙ ap replies_of behind in
    record {
      rest_are = are;
      first = found ∙ ap (λ (x : Reply). x ∷ others) same ∙ ap (λ (l : List Reply). reply ∷ l) others_are;
    }

-- how a small value is spelled
value_small : (v : ℕ) (rest : List ℕ) → nat_lt v (2 ^ 64 - 3) ≡ true → reply_words (Value v) ++ rest ≡ (v + 3) ∷ rest
unfolding reply_words
value_small v rest small = rw small refl

-- how a great value is spelled
value_great : (v : ℕ) (rest : List ℕ) → nat_lt v (2 ^ 64 - 3) ≡ false → reply_words (Value v) ++ rest ≡ 0 ∷ v ∷ rest
unfolding reply_words
value_great v rest great = rw great refl

-- lists that are one have the same head and the same rest
same_heads : (a b : ℕ) (xs ys : List ℕ) → a ∷ xs ≡ b ∷ ys → (a ≡ b) × (xs ≡ ys)
same_heads a b xs ys e = let head : a ≡ b = cc in let rest : xs ≡ ys = cc in (head, rest)

-- a word above the marks is a small value
small_is : (mark : ℕ) (words : List ℕ) (r : Reply) (others : List Reply) → 2 < mark → mark ∷ words ≡ reply_words r ++ replies_words others
    → (r ≡ Value (mark - 3)) × (replies_words others ≡ words)
unfolding reply_words
small_is mark words (Value v) others above e = elim (cases_Bool (nat_lt v (2 ^ 64 - 3))) [
  | inl small ↦
      let h = same_heads _ _ _ _ (e ∙ value_small v (replies_words others) small) in
      let same : v ≡ mark - 3 = omega (arith, h.0) in (ap (λ (n : ℕ). Value n) same, sym h.1)
  | inr great ↦ let h = same_heads _ _ _ _ (e ∙ value_great v (replies_words others) great) in absurd (omega (arith, h.0))
]
small_is mark words Absent others above e = let h = same_heads _ _ _ _ e in absurd (omega (arith, h.0))
small_is mark words (Rows rows) others above e = let h = same_heads _ _ _ _ e in absurd (omega (arith, h.0))

-- and so words begin with a small value
pub begins_small : (mark : ℕ) (words : List ℕ) → 2 < mark → AreReplyWords (mark ∷ words) → Begins (mark ∷ words) (Value (mark - 3)) words
begins_small mark words above are =
    let f = first_of mark words are in
    let is = small_is mark words f.reply f.others above f.spelled in
    begins_by (mark ∷ words) (Value (mark - 3)) f.reply f.others words f.found is.0 is.1

-- behind the mark 0 stands a great value
great_is : (words : List ℕ) (r : Reply) (others : List Reply) → 0 ∷ words ≡ reply_words r ++ replies_words others
    → (v : ℕ) × (r ≡ Value v) × (words ≡ v ∷ replies_words others)
unfolding reply_words
great_is words (Value v) others e = elim (cases_Bool (nat_lt v (2 ^ 64 - 3))) [
  | inl small ↦ let h = same_heads _ _ _ _ (e ∙ value_small v (replies_words others) small) in absurd (omega (arith, h.0))
  | inr great ↦ let h = same_heads _ _ _ _ (e ∙ value_great v (replies_words others) great) in (v, refl, h.1)
]
great_is words Absent others e = let h = same_heads _ _ _ _ e in absurd (omega (arith, h.0))
great_is words (Rows rows) others e = let h = same_heads _ _ _ _ e in absurd (omega (arith, h.0))

-- and so words begin with a great value
pub begins_great : (words : List ℕ) → AreReplyWords (0 ∷ words) → (0 < length words) × Begins (0 ∷ words) (Value (slice_index words 0)) (drop 1 words)
begins_great words are =
    let f = first_of 0 words are in
    let is = great_is words f.reply f.others f.spelled in
    let value : is.0 ≡ slice_index words 0 = sym (ap (λ (l : List ℕ). slice_index l 0) is.2) in (
      omega (arith, ap length is.2),
      begins_by (0 ∷ words) (Value (slice_index words 0)) f.reply f.others (drop 1 words) f.found
          (is.1 ∙ ap (λ (n : ℕ). Value n) value) (sym (ap (λ (l : List ℕ). drop 1 l) is.2)),
    )

-- the mark 1 is an absence
absent_is : (words : List ℕ) (r : Reply) (others : List Reply) → 1 ∷ words ≡ reply_words r ++ replies_words others
    → (r ≡ Absent) × (replies_words others ≡ words)
unfolding reply_words
absent_is words (Value v) others e = elim (cases_Bool (nat_lt v (2 ^ 64 - 3))) [
  | inl small ↦ let h = same_heads _ _ _ _ (e ∙ value_small v (replies_words others) small) in absurd (omega (arith, h.0))
  | inr great ↦ let h = same_heads _ _ _ _ (e ∙ value_great v (replies_words others) great) in absurd (omega (arith, h.0))
]
absent_is words Absent others e = let h = same_heads _ _ _ _ e in (refl, sym h.1)
absent_is words (Rows rows) others e = let h = same_heads _ _ _ _ e in absurd (omega (arith, h.0))

-- and so words begin with an absence
pub begins_absent : (words : List ℕ) → AreReplyWords (1 ∷ words) → Begins (1 ∷ words) Absent words
begins_absent words are =
    let f = first_of 1 words are in
    let is = absent_is words f.reply f.others f.spelled in
    begins_by (1 ∷ words) Absent f.reply f.others words f.found is.0 is.1

-- behind the mark 2 and a count stand so many rows
rows_are : (words : List ℕ) (r : Reply) (others : List Reply) → 2 ∷ words ≡ reply_words r ++ replies_words others
    → (rows : List (ℕ × ℕ)) × (r ≡ Rows rows) × (words ≡ length rows ∷ (rows_words rows ++ replies_words others))
unfolding reply_words
rows_are words (Value v) others e = elim (cases_Bool (nat_lt v (2 ^ 64 - 3))) [
  | inl small ↦ let h = same_heads _ _ _ _ (e ∙ value_small v (replies_words others) small) in absurd (omega (arith, h.0))
  | inr great ↦ let h = same_heads _ _ _ _ (e ∙ value_great v (replies_words others) great) in absurd (omega (arith, h.0))
]
rows_are words Absent others e = let h = same_heads _ _ _ _ e in absurd (omega (arith, h.0))
rows_are words (Rows rows) others e = let h = same_heads _ _ _ _ e in (rows, refl, h.1)

-- words of rows behind their count, and the words of replies behind these
pub record BeginsRows (words : List ℕ) : Type 0 where
  pub some : 0 < length words
  pub long : 2 * slice_index words 0 ≤ length (drop 1 words)
  pub rows : AreRowWords (take (2 * slice_index words 0) (drop 1 words))
  pub begins : Begins (2 ∷ words) (Rows (rows_in (take (2 * slice_index words 0) (drop 1 words)))) (drop (2 * slice_index words 0) (drop 1 words))

-- and so words begin with rows
pub begins_rows : (words : List ℕ) → AreReplyWords (2 ∷ words) → BeginsRows words
begins_rows words are =
    let f = first_of 2 words are in
    let is = rows_are words f.reply f.others f.spelled in
    let found : replies_of (2 ∷ words) ≡ Rows is.0 ∷ f.others = f.found ∙ ap (λ (x : Reply). x ∷ f.others) is.1 in
    rows_found words is.0 f.others is.2 found
  where
    rows_found : (words : List ℕ) (rows : List (ℕ × ℕ)) (others : List Reply) → words ≡ length rows ∷ (rows_words rows ++ replies_words others)
        → replies_of (2 ∷ words) ≡ Rows rows ∷ others → BeginsRows words
    rows_found words rows others is found =
        let count : slice_index words 0 ≡ length rows = ap (λ (l : List ℕ). slice_index l 0) is in
        let behind : drop 1 words ≡ rows_words rows ++ replies_words others = ap (λ (l : List ℕ). drop 1 l) is in
        let taken : take (2 * slice_index words 0) (drop 1 words) ≡ rows_words rows =
        ap (λ (n : ℕ). take (2 * n) (drop 1 words)) count ∙ ap (take (2 * length rows)) behind ∙ taken_rows rows (replies_words others) in
        let dropped : drop (2 * slice_index words 0) (drop 1 words) ≡ replies_words others =
        ap (λ (n : ℕ). drop (2 * n) (drop 1 words)) count ∙ ap (drop (2 * length rows)) behind ∙ dropped_rows rows (replies_words others) in
        let read : rows_in (take (2 * slice_index words 0) (drop 1 words)) ≡ rows = ap rows_in taken ∙ rows_in-words rows in
        record {
          some = omega (arith, ap length is);
          long = omega (arith, count, ap length behind, length-append (rows_words rows) (replies_words others), length-rows_words rows);
          rows = ap rows_words read ∙ sym taken;
          begins = begins_by (2 ∷ words) (Rows (rows_in (take (2 * slice_index words 0) (drop 1 words)))) (Rows rows) others
              (drop (2 * slice_index words 0) (drop 1 words)) found (ap (λ (l : List (ℕ × ℕ)). Rows l) (sym read)) (sym dropped);
        }
