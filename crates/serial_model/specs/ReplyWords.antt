-- Replies as words, one after another.
use Rattle.std.specs.Prelude.{◌≡◌, ℕ, zero, suc, ◌+◌, ◌-◌, ◌*◌, ◌^◌, ◌<◌, ◌≤◌, List, [], ◌∷◌, ◌++◌, length, take, drop, nat_lt, if◌then◌else◌}
use Rattle.std.specs.List.{flat_map}
use Rattle.std.proofs.Common.{refl, sym, ap, ◌∙◌, arith, inl, inr, length-append, append_assoc}
use Rattle.std.proofs.lemmas.Bool.{cases_Bool, lt-ltb, le-ltb}
use Rattle.std.proofs.lemmas.List.{take_at, drop_at}
use Rattle.serial_model.specs.declared.reply.Reply.{Reply}
use Rattle.serial_model.specs.declared.reply.Reply.TheVariants.{Value, Absent, Rows}

-- a row's words: its key and its value
abbrev pub row_words : ℕ × ℕ → List ℕ
row_words row = row.0 ∷ row.1 ∷ []

-- the words of rows, one after another
abbrev pub rows_words : List (ℕ × ℕ) → List ℕ
rows_words rows = flat_map row_words rows

-- A value that leaves room for the three marks is one word, and a greater one stands behind the mark 0. A key that
-- is not in the tree is the mark 1, and rows stand behind the mark 2 and their count.
unfoldable pub reply_words : Reply → List ℕ
reply_words (Value v) = if nat_lt v (2 ^ 64 - 3) then (v + 3) ∷ [] else 0 ∷ v ∷ []
reply_words Absent = 1 ∷ []
reply_words (Rows rows) = 2 ∷ length rows ∷ rows_words rows

-- the words of replies, one after another
abbrev pub replies_words : List Reply → List ℕ
replies_words replies = flat_map reply_words replies

-- the rows whose words these are
abbrev pub rows_in : List ℕ → List (ℕ × ℕ)
rows_in (key ∷ value ∷ words) = (key, value) ∷ rows_in words
rows_in _ = []

-- the replies that begin with this mark, by those that stand further behind
abbrev pub replies_behind : ℕ → List ℕ → (List ℕ → List Reply) → List Reply
replies_behind zero [] further = []
replies_behind zero (v ∷ words) further = Value v ∷ further words
replies_behind (suc zero) words further = Absent ∷ further words
replies_behind (suc (suc zero)) [] further = []
replies_behind (suc (suc zero)) (count ∷ words) further = Rows (rows_in (take (2 * count) words)) ∷ further (drop (2 * count) words)
replies_behind (suc (suc (suc v))) words further = Value v ∷ further words

-- so many replies at most
abbrev pub replies_up_to : ℕ → List ℕ → List Reply
replies_up_to zero words = []
replies_up_to (suc most) [] = []
replies_up_to (suc most) (mark ∷ words) = replies_behind mark words (replies_up_to most)

-- the replies whose words these are
unfoldable pub replies_of : List ℕ → List Reply
replies_of words = replies_up_to (length words) words

-- these are the words of some replies
abbrev pub AreReplyWords : List ℕ → Type 0
AreReplyWords words = replies_words (replies_of words) ≡ words

-- these are the words of some rows
abbrev pub AreRowWords : List ℕ → Type 0
AreRowWords words = rows_words (rows_in words) ≡ words

-- the words of replies, by the first of them and the words behind it
pub record Begins (words : List ℕ) (reply : Reply) (rest : List ℕ) : Type 0 where
  pub rest_are : AreReplyWords rest
  pub first : replies_of words ≡ reply ∷ replies_of rest

-- ---- laws

-- a row has two words
pub length-rows_words : (rows : List (ℕ × ℕ)) → length (rows_words rows) ≡ 2 * length rows
length-rows_words [] = refl
length-rows_words (row ∷ rows) = let rest = length-rows_words rows in omega arith

-- the words of rows are read as these rows
pub rows_in-words : (rows : List (ℕ × ℕ)) → rows_in (rows_words rows) ≡ rows
rows_in-words [] = refl
rows_in-words (row ∷ rows) = ap (λ (rest : List (ℕ × ℕ)). row ∷ rest) (rows_in-words rows)

-- the words of rows behind which something stands
pub taken_rows : (rows : List (ℕ × ℕ)) (rest : List ℕ) → take (2 * length rows) (rows_words rows ++ rest) ≡ rows_words rows
taken_rows rows rest = take_at (rows_words rows) rest (2 * length rows) (length-rows_words rows)

-- and what stands behind them
pub dropped_rows : (rows : List (ℕ × ℕ)) (rest : List ℕ) → drop (2 * length rows) (rows_words rows ++ rest) ≡ rest
dropped_rows rows rest = drop_at (rows_words rows) rest (2 * length rows) (length-rows_words rows)

-- a reply's words begin with a mark
has_mark : (reply : Reply) → 0 < length (reply_words reply)
unfolding reply_words
has_mark (Value v) = elim (cases_Bool (nat_lt v (2 ^ 64 - 3))) [ inl small ↦ rw small (omega arith) | inr great ↦ rw great (omega arith) ]
has_mark Absent = omega arith
has_mark (Rows rows) = omega arith

-- a reply is read at the front of words that are long enough for the rest
read_first : (most : ℕ) (reply : Reply) (rest : List ℕ) → replies_up_to (suc most) (reply_words reply ++ rest) ≡ reply ∷ replies_up_to most rest
unfolding reply_words
read_first most (Value v) rest =
    let three : v + 3 ≡ suc (suc (suc v)) = omega arith in
    elim (cases_Bool (nat_lt v (2 ^ 64 - 3))) [ inl small ↦ rw (small, three) refl | inr great ↦ rw great refl ]
read_first most Absent rest = refl
read_first most (Rows rows) rest =
    rw (taken_rows rows rest, dropped_rows rows rest, rows_in-words rows) refl

-- replies are read at the front of words that are long enough
read_again : (most : ℕ) (replies : List Reply) → length (replies_words replies) ≤ most → replies_up_to most (replies_words replies) ≡ replies
read_again zero [] enough = refl
read_again (suc most) [] enough = refl
read_again zero (reply ∷ replies) enough = absurd (omega (arith, has_mark reply, length-append (reply_words reply) (replies_words replies)))
read_again (suc most) (reply ∷ replies) enough =
    read_first most reply (replies_words replies)
    ∙ ap (λ (rest : List Reply). reply ∷ rest) (read_again most replies (omega (arith, has_mark reply, length-append (reply_words reply) (replies_words replies))))

-- the words of replies are read as these replies
pub replies_of-words : (replies : List Reply) → replies_of (replies_words replies) ≡ replies
unfolding replies_of
replies_of-words replies = read_again (length (replies_words replies)) replies (omega arith)

-- the words of replies are words of replies
pub are_words : (replies : List Reply) → AreReplyWords (replies_words replies)
are_words replies = ap replies_words (replies_of-words replies)

-- the words of more replies stand behind those of the first
pub replies_words-append : (xs ys : List Reply) → replies_words (xs ++ ys) ≡ replies_words xs ++ replies_words ys
replies_words-append [] ys = refl
replies_words-append (x ∷ xs) ys =
    ap (λ (rest : List ℕ). reply_words x ++ rest) (replies_words-append xs ys) ∙ sym (append_assoc (reply_words x) (replies_words xs) (replies_words ys))

-- words of replies, and those of more replies behind them
pub are_appended : (words : List ℕ) (more : List Reply) → AreReplyWords words
    → AreReplyWords (words ++ replies_words more) × (replies_of (words ++ replies_words more) ≡ replies_of words ++ more)
are_appended words more are =
    let spelled : words ++ replies_words more ≡ replies_words (replies_of words ++ more) =
    ap (λ (l : List ℕ). l ++ replies_words more) (sym are) ∙ sym (replies_words-append (replies_of words) more) in
    let read : replies_of (words ++ replies_words more) ≡ replies_of words ++ more = ap replies_of spelled ∙ replies_of-words (replies_of words ++ more) in
    (ap replies_words read ∙ sym spelled, read)

-- no more replies than words
pub few_replies : (replies : List Reply) → length replies ≤ length (replies_words replies)
few_replies [] = omega arith
few_replies (reply ∷ replies) =
    omega (arith, few_replies replies, has_mark reply, length-append (reply_words reply) (replies_words replies))

-- no words are no replies
pub replies_of-none : replies_of [] ≡ []
unfolding replies_of
replies_of-none = refl

-- and are their words
pub are_none : AreReplyWords []
are_none = ap replies_words replies_of-none

-- the words of a small value
pub words_small : (v : ℕ) → v < 2 ^ 64 - 3 → reply_words (Value v) ≡ (v + 3) ∷ []
unfolding reply_words
words_small v small = rw (lt-ltb v (2 ^ 64 - 3) small) refl

-- the same of a great value
pub words_great : (v : ℕ) → 2 ^ 64 - 3 ≤ v → reply_words (Value v) ≡ 0 ∷ v ∷ []
unfolding reply_words
words_great v great = rw (le-ltb v (2 ^ 64 - 3) great) refl
