-- How many lines each worker has.
use Rattle.std.proofs.Common.{◌≡◌, ◌∙◌, sym, ap, refl, ℕ, zero, suc, ◌+◌, ◌*◌, ◌<◌, ◌≤◌, Bool, true, false, cond}
use Rattle.std.proofs.Common.{List, [], ◌∷◌, ◌++◌, length, take, get_or, arith, inl, inr, ◌⊎◌, Option, None, Some}
use Rattle.std.specs.Prelude.{◌==◌, filter_map, slice_get}
use Rattle.std.specs.List.{AllByRecursion}
use Rattle.std.specs.Option.{option_map}
use Rattle.std.proofs.lemmas.Option.{same_Some}
use Rattle.script_grammar.specs.Script.{Keeper, Line, Round, Worker, ops_of_worker, worker_of}
use Rattle.serial_model.specs.declared.decl.Decl.{Decl}
use Rattle.serial_model.specs.declared.op.Op.{Op}
use Rattle.script_grammar.specs.ReplyRoom.{most_words, words_asked}
use Rattle.script_grammar.proofs.ReplyLaws.{most_by}
use Rattle.tx_script.specs.Room.{RoomState, all_words}
use Rattle.tx_script.specs.Run.{CanRun, CanRunLine}
use Rattle.shared_rounds.specs.Rooms.{AreRooms, counts_for, spaces_for}

-- the lines of a worker among these
abbrev pub lines_in : ℕ → List Line → List (List Op)
lines_in worker lines = filter_map (ops_of_worker worker) lines

pub lines_few : (worker : ℕ) (lines : List Line) → length (lines_in worker lines) ≤ length lines
lines_few worker [] = omega arith
lines_few worker (line ∷ lines) = by_line (ops_of_worker worker line) refl (lines_few worker lines)
  where
    by_line : (o : Option (List Op)) → ops_of_worker worker line ≡ o
        → length (lines_in worker lines) ≤ length lines
        → length (lines_in worker (line ∷ lines)) ≤ length (line ∷ lines)
    by_line None is rest = rw is (omega (arith, rest))
    by_line (Some ops) is rest = rw is (omega (arith, rest))

short_take : (i : ℕ) (lines : List Line) → length (take i lines) ≤ length lines
short_take zero lines = omega arith
short_take (suc i) [] = omega arith
short_take (suc i) (line ∷ lines) = omega (arith, short_take i lines)

-- nor among the first ones
pub lines_upto : (worker i : ℕ) (lines : List Line) → length (lines_in worker (take i lines)) ≤ length lines
lines_upto worker i lines =
    let few = lines_few worker (take i lines) in
    let short = short_take i lines in
    omega (arith, few, short)

one_line : (worker : ℕ) (line : Line) → length (lines_in worker (line ∷ [])) ≡ counts_for (worker_of line) worker
one_line worker (Worker other ops) = by_test (other == worker) refl
  where
    by_test : (b : Bool) → (other == worker) ≡ b
        → length (lines_in worker (Worker other ops ∷ [])) ≡ cond (other == worker) 1 0
    by_test true is = rw is refl
    by_test false is = rw is refl
one_line worker (Keeper line) = refl

more_lines : (worker : ℕ) (line : Line) (lines : List Line)
    → length (lines_in worker (line ∷ lines)) ≡ length (lines_in worker (line ∷ [])) + length (lines_in worker lines)
more_lines worker line lines = by_line (ops_of_worker worker line) refl
  where
    by_line : (o : Option (List Op)) → ops_of_worker worker line ≡ o
        → length (lines_in worker (line ∷ lines))
        ≡ length (lines_in worker (line ∷ [])) + length (lines_in worker lines)
    by_line None is = rw is (omega arith)
    by_line (Some ops) is = rw is (omega arith)

counts_more : (worker i : ℕ) (lines : List Line) (owner : Option ℕ)
    → option_map worker_of (slice_get lines i) ≡ Some owner
    → length (lines_in worker (take (suc i) lines)) ≡ length (lines_in worker (take i lines)) + counts_for owner worker
counts_more worker i [] owner is = absurd (cc)
counts_more worker zero (line ∷ lines) owner is =
    let same : worker_of line ≡ owner = same_Some (worker_of line) owner is in
    one_line worker line ∙ ap (λ o. counts_for o worker) same ∙ omega arith
counts_more worker (suc i) (line ∷ lines) owner is =
    omega (
      arith,
      more_lines worker line (take (suc i) lines),
      more_lines worker line (take i lines),
      counts_more worker i lines owner is,
    )

-- one line more
pub counts_next : (worker i : ℕ) (lines : List Line) (owner : Option ℕ)
    → option_map worker_of (slice_get lines i) ≡ Some owner
    → length (lines_in worker (take (i + 1) lines)) ≡ length (lines_in worker (take i lines)) + counts_for owner worker
counts_next worker i lines owner is =
    let next : i + 1 ≡ suc i = omega arith in
    ap (λ n. length (lines_in worker (take n lines))) next ∙ counts_more worker i lines owner is

-- ---- words of their replies

one_words : (worker : ℕ) (line : Line)
    → all_words (lines_in worker (line ∷ [])) ≡ spaces_for (words_asked line) worker
one_words worker (Worker other ops) = by_test (other == worker) refl
  where
    by_test : (b : Bool) → (other == worker) ≡ b
        → all_words (lines_in worker (Worker other ops ∷ [])) ≡ cond (other == worker) (most_words ops) 0
    by_test true is = rw is (omega arith)
    by_test false is = rw is refl
one_words worker (Keeper line) = refl

more_words : (worker : ℕ) (line : Line) (lines : List Line)
    → all_words (lines_in worker (line ∷ lines)) ≡ all_words (lines_in worker (line ∷ [])) + all_words (lines_in worker lines)
more_words worker line lines = by_line (ops_of_worker worker line) refl
  where
    by_line : (o : Option (List Op)) → ops_of_worker worker line ≡ o
        → all_words (lines_in worker (line ∷ lines))
        ≡ all_words (lines_in worker (line ∷ [])) + all_words (lines_in worker lines)
    by_line None is = rw is (omega arith)
    by_line (Some ops) is = rw is (omega arith)

words_more : (worker i : ℕ) (lines : List Line) (asked : Option (ℕ × ℕ))
    → option_map words_asked (slice_get lines i) ≡ Some asked
    → all_words (lines_in worker (take (suc i) lines))
    ≡ all_words (lines_in worker (take i lines)) + spaces_for asked worker
words_more worker i [] asked is = absurd cc
words_more worker zero (x ∷ lines) asked is =
    let same : words_asked x ≡ asked = same_Some (words_asked x) asked is in
    one_words worker x ∙ ap (λ (o : Option (ℕ × ℕ)). spaces_for o worker) same ∙ omega arith
words_more worker (suc i) (x ∷ lines) asked is =
    omega (
      arith,
      more_words worker x (take (suc i) lines),
      more_words worker x (take i lines),
      words_more worker i lines asked is,
    )

-- one line more
pub words_next : (worker i : ℕ) (lines : List Line) (asked : Option (ℕ × ℕ))
    → option_map words_asked (slice_get lines i) ≡ Some asked
    → all_words (lines_in worker (take (i + 1) lines))
    ≡ all_words (lines_in worker (take i lines)) + spaces_for asked worker
words_next worker i lines asked is =
    let next : i + 1 ≡ suc i = omega arith in
    ap (λ n. all_words (lines_in worker (take n lines))) next ∙ words_more worker i lines asked is

-- lines of 16 operations at most have 544 words each at most
pub words_upto : (decls : List Decl) (worker : ℕ) (lines : List Line) → AllByRecursion (CanRunLine decls) lines
    → all_words (lines_in worker lines) ≤ 544 * length lines
words_upto decls worker [] all = omega arith
words_upto decls worker (line ∷ lines) all =
    let rest = words_upto decls worker lines all.1 in
    let one = line_words decls worker line all.0 in
    omega (arith, rest, one, more_words worker line lines, one_words worker line)
  where
    line_words : (decls : List Decl) (worker : ℕ) (line : Line) → CanRunLine decls line
        → spaces_for (words_asked line) worker ≤ 544
    line_words decls worker (Worker other ops) can = by_test (other == worker)
      where
        by_test : (b : Bool) → cond b (most_words ops) 0 ≤ 544
        by_test true = let most = most_by ops in let few = can.few in omega (arith, most, few)
        by_test false = omega arith
    line_words decls worker (Keeper line) can = omega arith

take_can : (decls : List Decl) (i : ℕ) (lines : List Line) → AllByRecursion (CanRunLine decls) lines
    → AllByRecursion (CanRunLine decls) (take i lines)
take_can decls zero lines all = tt
take_can decls (suc i) [] all = tt
take_can decls (suc i) (line ∷ lines) all = (all.0, take_can decls i lines all.1)

-- the words of its first lines are few
pub words_so_far : (decls : List Decl) (worker i : ℕ) (round : Round) → CanRun decls round
    → all_words (lines_in worker (take i round.lines)) ≤ 544 * 65536
words_so_far decls worker i round can =
    let most = words_upto decls worker (take i round.lines) (take_can decls i round.lines can.lines) in
    let short = short_take i round.lines in
    let few = can.few_lines in
    omega (arith, most, short, few)

-- what stands at a place of a list with one more at its end
at_push : {X : Type 0} (xs : List X) (x : X) (i : ℕ) (y : X) → slice_get (xs ++ x ∷ []) i ≡ Some y
    → (slice_get xs i ≡ Some y) ⊎ ((i ≡ length xs) × (x ≡ y))
at_push [] x zero y is = inr (refl, same_Some x y is)
at_push [] x (suc i) y is = absurd cc
at_push (z ∷ xs) x zero y is = inl is
at_push (z ∷ xs) x (suc i) y is = elim (at_push xs x i y is) [
  | inl front ↦ inl front
  | inr last ↦ inr (ap suc last.0, last.1)
]

-- one room more
pub rooms_push : (counts spaces : List ℕ) (rest : List RoomState) (room : RoomState) → AreRooms counts spaces rest
    → room.told ≡ [] → room.left ≡ get_or counts (length rest) 0 → room.space ≡ get_or spaces (length rest) 0
    → AreRooms counts spaces (rest ++ room ∷ [])
rooms_push counts spaces rest room are told left space = λ worker r is. elim (at_push rest room worker r is) [
  | inl front ↦ are worker r front
  | inr last ↦ (
    ap (λ (x : RoomState). x.told) (sym last.1) ∙ told,
    ap (λ (x : RoomState). x.left) (sym last.1) ∙ left ∙ ap (λ n. get_or counts n 0) (sym last.0),
    ap (λ (x : RoomState). x.space) (sym last.1) ∙ space ∙ ap (λ n. get_or spaces n 0) (sym last.0),
  )
]
