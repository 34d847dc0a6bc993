-- The words of a line's replies.
use Rattle.std.proofs.Common.{◌≡◌, ℕ, ◌+◌, ◌-◌, ◌^◌, ◌≤◌, ◌<◌, List, [], ◌∷◌, ◌++◌, length, sym, ap, ◌∙◌, refl, subst}
use Rattle.std.proofs.Common.{◌*◌, arith, suc, take}
use Rattle.std.proofs.Common.{length-append, append_assoc}
use Rattle.std.proofs.lemmas.List.{append-nil, length-take-le}
use Rattle.serial_model.specs.declared.reply.Reply.{Reply}
use Rattle.serial_model.specs.declared.reply.Reply.TheVariants.{Absent, Rows, Value}
use Rattle.serial_model.specs.ReplyWords.{reply_words, replies_words, replies_of, AreReplyWords, are_appended}
use Rattle.serial_model.specs.ReplyWords.{are_none, length-rows_words, rows_words}
use Rattle.serial_model.specs.ReplyWords.{replies_of-none, words_small, words_great}
use Rattle.tx_runner.specs.Lines.{AreFewWords}

words_absent : reply_words Absent ≡ 1 ∷ []
unfolding reply_words
words_absent = refl

words_rows : (rows : List (ℕ × ℕ)) → reply_words (Rows rows) ≡ 2 ∷ length rows ∷ rows_words rows
unfolding reply_words
words_rows rows = refl

pub few_none : (words : List ℕ) → words ≡ [] → AreFewWords words
few_none words is = subst AreFewWords (sym is) record { are = are_none; few = omega arith }

pub none_of : (words : List ℕ) → words ≡ [] → replies_of words ≡ []
none_of words is = ap replies_of is ∙ replies_of-none

-- fewer than 16 replies leave room for the words of one more
pub has_room : (words : List ℕ) (replies : List Reply) → AreFewWords words → replies_of words ≡ replies
    → length replies < 16 → length words + 34 ≤ 544
has_room words replies few is less = omega (arith, few.few, ap length is)

-- one reply more, of so few words
pub one_more : (reply : Reply) (old new : List ℕ) → AreFewWords old → length (reply_words reply) ≤ 34
    → new ≡ old ++ reply_words reply → AreFewWords new × (replies_of new ≡ replies_of old ++ reply ∷ [])
one_more reply old new few most is =
    let words : replies_words (reply ∷ []) ≡ reply_words reply = append-nil (reply_words reply) in
    let whole : new ≡ old ++ replies_words (reply ∷ []) = is ∙ ap (λ l. old ++ l) (sym words) in
    let both = are_appended old (reply ∷ []) few.are in
    let now : replies_of new ≡ replies_of old ++ reply ∷ [] = ap replies_of whole ∙ both.1 in (
      record {
        are = subst AreReplyWords (sym whole) both.0;
        few = omega (
          arith,
          few.few,
          most,
          ap length now,
          length-append (replies_of old) (reply ∷ []),
          ap length is,
          length-append old (reply_words reply),
        );
      },
      now,
    )

-- a value in one word
pub small_more : (v : ℕ) (old new : List ℕ) → v < 2 ^ 64 - 3 → AreFewWords old → new ≡ old ++ (v + 3) ∷ []
    → AreFewWords new × (replies_of new ≡ replies_of old ++ Value v ∷ [])
small_more v old new small few is =
    let words = words_small v small in
    one_more (Value v) old new few (let count : length (reply_words (Value v)) ≡ 1 = ap length words in omega arith)
    (is ∙ ap (λ l. old ++ l) (sym words))

-- and in two
pub great_more : (v : ℕ) (old mid new : List ℕ) → 2 ^ 64 - 3 ≤ v → AreFewWords old → mid ≡ old ++ 0 ∷ []
    → new ≡ mid ++ v ∷ []
    → AreFewWords new × (replies_of new ≡ replies_of old ++ Value v ∷ [])
great_more v old mid new great few first second =
    let words = words_great v great in
    one_more (Value v) old new few (let count : length (reply_words (Value v)) ≡ 2 = ap length words in omega arith)
    (second ∙ (ap (λ l. l ++ v ∷ []) first ∙ (append_assoc old (0 ∷ []) (v ∷ []) ∙ ap (λ l. old ++ l) (sym words))))

-- a key that isn't there
pub absent_more : (old new : List ℕ) → AreFewWords old → new ≡ old ++ 1 ∷ []
    → AreFewWords new × (replies_of new ≡ replies_of old ++ Absent ∷ [])
absent_more old new few is =
    one_more Absent old new few (let count : length (reply_words Absent) ≡ 1 = ap length words_absent in omega arith)
    (is ∙ ap (λ l. old ++ l) (sym words_absent))

-- and rows
pub rows_more : (rows : List (ℕ × ℕ)) (old mid counted new : List ℕ) → length rows ≤ 16 → AreFewWords old
    → mid ≡ old ++ 2 ∷ [] → counted ≡ mid ++ length rows ∷ [] → new ≡ counted ++ rows_words rows
    → AreFewWords new × (replies_of new ≡ replies_of old ++ Rows rows ∷ [])
rows_more rows old mid counted new few_rows few first second third =
    let words = words_rows rows in
    one_more (Rows rows) old new few
    (let count : length (reply_words (Rows rows)) ≡ suc (suc (length (rows_words rows))) = ap length words in
    omega (arith, count, length-rows_words rows, few_rows))
    (third ∙ (ap (λ l. l ++ rows_words rows) (second ∙ (ap (λ l. l ++ length rows ∷ []) first
    ∙ append_assoc old (2 ∷ []) (length rows ∷ [])))
    ∙ (append_assoc old (2 ∷ length rows ∷ []) (rows_words rows) ∙ ap (λ l. old ++ l) (sym words))))

short_take : {X : Type 0} (n : ℕ) (xs : List X) → n ≤ length xs → length (take n xs) ≡ n
short_take n xs within = length-take-le n xs within

-- while rows are put behind the words there is room for the next one
pub row_room : (words old : List ℕ) (rows : List (ℕ × ℕ)) (index : ℕ) → words ≡ old ++ rows_words (take index rows)
    → index < length rows → length old + 2 * length rows ≤ 544 → length words + 2 ≤ 544
row_room words old rows index is less room =
    omega (
      arith,
      ap length is,
      length-append old (rows_words (take index rows)),
      length-rows_words (take index rows),
      short_take index rows (omega (arith, less)),
      less,
      room,
    )

-- a word more is one more
pub word_more : (word : ℕ) (old new : List ℕ) → new ≡ old ++ word ∷ [] → length new ≡ length old + 1
word_more word old new is = ap length is ∙ length-append old (word ∷ [])
