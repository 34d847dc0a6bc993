-- The lines of a worker among those of a round.
use Rattle.std.proofs.Common.{◌≡◌, ◌∙◌, ap, sym, subst, refl, ℕ, zero, suc, ◌+◌, eqb, List, [], ◌∷◌, ◌++◌, take, Option}
use Rattle.std.proofs.Common.{Some, None, inl, inr, length, length-append, arith, ◌<◌, ◌≤◌}
use Rattle.std.specs.Prelude.{drop}
use Rattle.std.specs.List.{filter_map, slice_get}
use Rattle.std.specs.Option.{option_map}
use Rattle.std.proofs.lemmas.Bool.{cases_Bool, cases_order, eqb-true}
use Rattle.std.proofs.lemmas.List.{append-nil, take-append-drop, take_all, take_more}
use Rattle.std.proofs.lemmas.List.Elements.{filter_map-append}
use Rattle.std.proofs.lemmas.Option.{slice_get_within, get_or_from_slice_get}
use Rattle.lists.specs.Each.{all_at}
use Rattle.serial_model.specs.declared.decl.Decl.{Decl}
use Rattle.serial_model.specs.declared.op.Op.{Op}
use Rattle.script_grammar.specs.Script.{Line, Worker, Keeper, Round, ops_of_worker}
use Rattle.tx_script.specs.Room.{all_words, most_words}
use Rattle.tx_script.specs.Run.{CanRun, CanRunLine, CanRunOps}

-- the operations of these lines that are the worker's
abbrev pub ops_of : ℕ → List Line → List (List Op)
ops_of worker lines = filter_map (ops_of_worker worker) lines

ops_of-append : (worker : ℕ) (xs ys : List Line) → ops_of worker (xs ++ ys) ≡ ops_of worker xs ++ ops_of worker ys
ops_of-append worker xs ys = filter_map-append (ops_of_worker worker) xs ys

-- ---- one line more

-- what the worker has of a line
abbrev ops_from : Option (List Op) → List (List Op)
ops_from None = []
ops_from (Some ops) = ops ∷ []

of_line : (worker : ℕ) (line : Line) (o : Option (List Op)) → ops_of_worker worker line ≡ o
    → ops_of worker (line ∷ []) ≡ ops_from o
of_line worker line None is = rw is refl
of_line worker line (Some ops) is = rw is refl

take_line : (lines : List Line) (i : ℕ) (line : Line) → slice_get lines i ≡ Some line
    → take (i + 1) lines ≡ take i lines ++ line ∷ []
take_line lines i line at =
    take_more lines i line (slice_get_within lines i line at)
    ∙ ap (λ x. take i lines ++ x ∷ []) (get_or_from_slice_get lines i line line at)

take_one : (worker : ℕ) (lines : List Line) (i : ℕ) (line : Line) (o : Option (List Op))
    → slice_get lines i ≡ Some line → ops_of_worker worker line ≡ o
    → ops_of worker (take (i + 1) lines) ≡ ops_of worker (take i lines) ++ ops_from o
take_one worker lines i line o at is =
    ap (ops_of worker) (take_line lines i line at) ∙ ops_of-append worker (take i lines) (line ∷ [])
    ∙ ap (λ x. ops_of worker (take i lines) ++ x) (of_line worker line o is)

-- the line at an index has these operations of the worker, or none
abbrev pub HasOps : ℕ → List Line → ℕ → Option (List Op) → Type 0
HasOps worker lines i o = option_map (ops_of_worker worker) (slice_get lines i) ≡ Some o

-- the line there
line_at : (worker : ℕ) (lines : List Line) (i : ℕ) (o : Option (List Op)) → HasOps worker lines i o
    → (line : Line) × (slice_get lines i ≡ Some line) × (ops_of_worker worker line ≡ o)
line_at worker [] i o has = absurd cc
line_at worker (line ∷ lines) zero o has = (line, refl, cc)
line_at worker (line ∷ lines) (suc i) o has = line_at worker lines i o has

pub take_mine : (worker : ℕ) (lines : List Line) (i : ℕ) (ops : List Op) → HasOps worker lines i (Some ops)
    → ops_of worker (take (i + 1) lines) ≡ ops_of worker (take i lines) ++ ops ∷ []
take_mine worker lines i ops has =
    let at = line_at worker lines i (Some ops) has in take_one worker lines i at.0 (Some ops) at.1 at.2

pub take_other : (worker : ℕ) (lines : List Line) (i : ℕ) → HasOps worker lines i None
    → ops_of worker (take (i + 1) lines) ≡ ops_of worker (take i lines)
take_other worker lines i has =
    let at = line_at worker lines i None has in
    take_one worker lines i at.0 None at.1 at.2 ∙ append-nil (ops_of worker (take i lines))

-- the worker has fewer lines before one of its lines than in all
pub few_of : (worker i : ℕ) (lines : List Line) (ops : List Op) → HasOps worker lines i (Some ops)
    → length (ops_of worker (take i lines)) < length (ops_of worker lines)
few_of worker i lines ops has =
    let upto = ops_of worker (take i lines) in
    let past = ops_of worker (drop (i + 1) lines) in
    let all : (upto ++ ops ∷ []) ++ past ≡ ops_of worker lines =
    ap (λ l. l ++ past) (sym (take_mine worker lines i ops has))
    ∙ sym (ops_of-append worker (take (i + 1) lines) (drop (i + 1) lines))
    ∙ ap (ops_of worker) (take-append-drop (i + 1) lines) in
    omega (arith, ap length all, length-append (upto ++ ops ∷ []) past, length-append upto (ops ∷ []))

-- where these are as many as all of them, they are all
pub whole_of : (worker i : ℕ) (lines : List Line)
    → length (ops_of worker lines) ≤ length (ops_of worker (take i lines))
    → ops_of worker (take i lines) ≡ ops_of worker lines
whole_of worker i lines most =
    let upto = ops_of worker (take i lines) in
    let past = ops_of worker (drop i lines) in
    let all : upto ++ past ≡ ops_of worker lines =
    sym (ops_of-append worker (take i lines) (drop i lines)) ∙ ap (ops_of worker) (take-append-drop i lines) in
    let none : past ≡ [] = nothing past (omega (arith, most, ap length all, length-append upto past)) in
    sym (append-nil upto) ∙ ap (λ l. upto ++ l) (sym none) ∙ all
  where
    nothing : (xs : List (List Op)) → length xs ≡ 0 → xs ≡ []
    nothing [] is = refl
    nothing (x ∷ xs) is = absurd (omega (arith, is))

-- where these are fewer, lines are left
pub within_of : (worker i : ℕ) (lines : List Line)
    → length (ops_of worker (take i lines)) < length (ops_of worker lines) → i < length lines
within_of worker i lines fewer = elim (cases_order i (length lines)) [
  | inl same ↦ absurd (past (omega (arith, same)))
  | inr order ↦ elim order [
    | inl less ↦ less
    | inr more ↦ absurd (past (omega (arith, more)))
  ]
]
  where
    past : length lines ≤ i → ⊥
    past all = omega (arith, fewer, ap (λ l. length (ops_of worker l)) (take_all i lines all))

-- a worker's line more
pub count_more : (worker i count : ℕ) (lines : List Line) (ops : List Op) → HasOps worker lines i (Some ops)
    → count ≡ length (ops_of worker (take i lines)) → count + 1 ≡ length (ops_of worker (take (i + 1) lines))
count_more worker i count lines ops has is =
    ap (λ n. n + 1) is ∙ sym (length-append (ops_of worker (take i lines)) (ops ∷ []))
    ∙ sym (ap length (take_mine worker lines i ops has))

-- ---- words of replies

all_words-append : (xs ys : List (List Op)) → all_words (xs ++ ys) ≡ all_words xs + all_words ys
all_words-append [] ys = omega arith
all_words-append (ops ∷ xs) ys = omega (arith, all_words-append xs ys)

-- those of a worker's line more
pub words_more : (worker i : ℕ) (lines : List Line) (ops : List Op) → HasOps worker lines i (Some ops)
    → all_words (ops_of worker (take (i + 1) lines)) ≡ all_words (ops_of worker (take i lines)) + most_words ops
words_more worker i lines ops has =
    ap all_words (take_mine worker lines i ops has)
    ∙ (all_words-append (ops_of worker (take i lines)) (ops ∷ []) ∙ omega arith)

-- they are among those of all its lines
pub words_within : (worker i : ℕ) (lines : List Line) (ops : List Op) → HasOps worker lines i (Some ops)
    → all_words (ops_of worker (take i lines)) + most_words ops ≤ all_words (ops_of worker lines)
words_within worker i lines ops has =
    let past = ops_of worker (drop (i + 1) lines) in
    let all : ops_of worker (take (i + 1) lines) ++ past ≡ ops_of worker lines =
    sym (ops_of-append worker (take (i + 1) lines) (drop (i + 1) lines))
    ∙ ap (ops_of worker) (take-append-drop (i + 1) lines) in
    omega (
      arith,
      ap all_words all,
      all_words-append (ops_of worker (take (i + 1) lines)) past,
      words_more worker i lines ops has,
    )

-- ---- what can be run of the worker's line

runnable : (decls : List Decl) (worker : ℕ) (line : Line) (ops : List Op) → CanRunLine decls line
    → ops_of_worker worker line ≡ Some ops → CanRunOps decls worker ops
runnable decls worker (Keeper line) ops can is = absurd cc
runnable decls worker (Worker other os) ops can is = elim (cases_Bool (eqb other worker)) [
  | inl is_mine ↦
      let same : os ≡ ops = cc in
      let mine : other ≡ worker = eqb-true other worker is_mine in
      subst (λ w. CanRunOps decls w ops) mine (subst (CanRunOps decls other) same can)
  | inr is_other ↦ absurd cc
]

pub runnable_at : (decls : List Decl) (worker : ℕ) (round : Round) (i : ℕ) (ops : List Op) → CanRun decls round
    → HasOps worker round.lines i (Some ops) → CanRunOps decls worker ops
runnable_at decls worker round i ops can has =
    let at = line_at worker round.lines i (Some ops) has in
    runnable decls worker at.0 ops (all_at (CanRunLine decls) round.lines i at.0 can.lines at.1) at.2
