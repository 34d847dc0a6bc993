-- A reply of rows that is written word after word.
use Rattle.std.proofs.Common.{◌≡◌, ◌∙◌, ap, sym, refl, ℕ, ◌+◌, ◌*◌, ◌<◌, ◌≤◌, List, [], ◌∷◌, ◌++◌, length, take, set, get_or, append_assoc, arith, length-set}
use Rattle.std.proofs.lemmas.List.{take_more, take_more_set, append-nil, take_all}
use Rattle.std.proofs.lemmas.List.Concat.{flat_map-append}
use Rattle.serial_model.specs.ReplyWords.{reply_words, row_words, rows_words}
use Rattle.serial_model.specs.declared.reply.Reply.TheVariants.{Rows}

-- the mark, the count and the first rows stand at the front of 34 words
pub record WrittenSoFar (rows : List (ℕ × ℕ)) (done end : ℕ) (words : List ℕ) : Type 0 where
  pub room : length words ≡ 34
  pub reached : end ≡ 2 + 2 * done
  pub front : take end words ≡ 2 ∷ length rows ∷ rows_words (take done rows)

pub none_written : (rows : List (ℕ × ℕ)) (words : List ℕ) → length words ≡ 34 → WrittenSoFar rows 0 2 (set (set words 0 2) 1 (length rows))
none_written rows [] room = absurd (omega (arith, room))
none_written rows (a ∷ []) room = absurd (omega (arith, room))
none_written rows (a ∷ b ∷ words) room = record { room = room; reached = refl; front = refl }

-- one word more at the front
word_more : (words : List ℕ) (end k : ℕ) → end < length words → take (end + 1) (set words end k) ≡ take end words ++ k ∷ []
word_more words end k lt = take_more_set words end k lt

pub row_written : (rows : List (ℕ × ℕ)) (done end : ℕ) (words : List ℕ) (row d : ℕ × ℕ) → length rows ≤ 16 → done < length rows → row ≡ get_or rows done d
    → WrittenSoFar rows done end words → WrittenSoFar rows (done + 1) (end + 2) (set (set words end row.0) (end + 1) row.1)
row_written rows done end words row d few lt is so =
    let first : take (end + 1) (set words end row.0) ≡ take end words ++ row.0 ∷ [] = word_more words end row.0 (omega (arith, so.room, so.reached)) in
    let wide : length (set words end row.0) ≡ length words = length-set words end row.0 in
    let second : take (end + 1 + 1) (set (set words end row.0) (end + 1) row.1) ≡ take (end + 1) (set words end row.0) ++ row.1 ∷ [] =
    word_more (set words end row.0) (end + 1) row.1 (omega (arith, so.room, so.reached, wide)) in
    let two : end + 1 + 1 ≡ end + 2 = omega arith in
    let both : take (end + 2) (set (set words end row.0) (end + 1) row.1) ≡ take end words ++ row_words row =
    ap (λ (n : ℕ). take n (set (set words end row.0) (end + 1) row.1)) (sym two) ∙ second ∙ ap (λ (l : List ℕ). l ++ row.1 ∷ []) first
    ∙ append_assoc (take end words) (row.0 ∷ []) (row.1 ∷ []) in
    let more : rows_words (take (done + 1) rows) ≡ rows_words (take done rows) ++ row_words row =
    ap rows_words (take_more rows done d lt ∙ ap (λ (r : ℕ × ℕ). take done rows ++ r ∷ []) (sym is))
    ∙ flat_map-append row_words (take done rows) (row ∷ []) ∙ ap (λ (l : List ℕ). rows_words (take done rows) ++ l) (append-nil (row_words row)) in
    record {
      room = length-set (set words end row.0) (end + 1) row.1 ∙ wide ∙ so.room;
      reached = omega (arith, so.reached);
      front = both ∙ ap (λ (l : List ℕ). l ++ row_words row) so.front ∙ ap (λ (l : List ℕ). 2 ∷ length rows ∷ l) (sym more);
    }

pub all_written : (rows : List (ℕ × ℕ)) (done end : ℕ) (words : List ℕ) → done ≡ length rows → WrittenSoFar rows done end words → take end words ≡ reply_words (Rows rows)
unfolding reply_words
all_written rows done end words all so =
    so.front ∙ ap (λ (l : List (ℕ × ℕ)). 2 ∷ length rows ∷ rows_words l) (take_all done rows (omega (arith, all)))
