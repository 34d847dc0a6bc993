-- Loops over lines and over the ends of logs.
use Rattle.std.proofs.Common.{◌≡◌, ◌≢◌, ◌∙◌, ◌≤◌, ◌+◌, ◌++◌, ◌∷◌, sym, ap, refl, ℕ, zero, suc, List, [], length}
use Rattle.std.proofs.Common.{take, drop, Option, Some, None, arith, length-append}
use Rattle.std.specs.Prelude.{slice_get}
use Rattle.std.specs.List.{filter_map}
use Rattle.std.specs.Option.{option_map}
use Rattle.std.proofs.lemmas.Bool.{ne_eqb}
use Rattle.std.proofs.lemmas.List.{append-nil, take-append-drop}
use Rattle.std.proofs.lemmas.List.Elements.{filter_map-append}
use Rattle.script_grammar.specs.Script.{Line, Worker, Keeper, keeper_line_of, worker_of}
use Rattle.script_grammar.specs.declared.lines.KeeperLine.{KeeperLine}
use Rattle.round_engine.proofs.Fronts.{ops_of, take_line, ops_of-append}

-- ---- lines

-- a line of the maintenance thread more
pub keepers_more : (lines : List Line) (i : ℕ) (line : Line) → slice_get lines i ≡ Some line
    → filter_map keeper_line_of (take (i + 1) lines)
    ≡ filter_map keeper_line_of (take i lines) ++ filter_map keeper_line_of (line ∷ [])
keepers_more lines i line at =
    ap (filter_map keeper_line_of) (take_line lines i line at) ∙ filter_map-append keeper_line_of (take i lines) (line ∷ [])

-- the line at an index, by whose it is
pub line_there : (lines : List Line) (i : ℕ) (o : Option ℕ) → option_map worker_of (slice_get lines i) ≡ Some o
    → (line : Line) × (slice_get lines i ≡ Some line) × (worker_of line ≡ o)
line_there [] i o is = absurd cc
line_there (line ∷ lines) zero o is = (line, refl, cc)
line_there (line ∷ lines) (suc i) o is = line_there lines i o is

pub not_keeper : (line : Line) (worker : ℕ) → worker_of line ≡ Some worker → filter_map keeper_line_of (line ∷ []) ≡ []
not_keeper (Worker other ops) worker is = refl
not_keeper (Keeper line) worker is = absurd cc

pub is_keeper : (line : Line) → worker_of line ≡ None → length (filter_map keeper_line_of (line ∷ [])) ≡ 1
is_keeper (Worker other ops) is = absurd cc
is_keeper (Keeper line) is = refl

-- whose the line is tells whether it is the maintenance thread's
pub keeper_none : (lines : List Line) (i worker : ℕ) → option_map worker_of (slice_get lines i) ≡ Some (Some worker)
    → filter_map keeper_line_of (take (i + 1) lines) ≡ filter_map keeper_line_of (take i lines)
keeper_none lines i worker is = let at = line_there lines i (Some worker) is in
    keepers_more lines i at.0 at.1 ∙ ap (λ l. filter_map keeper_line_of (take i lines) ++ l) (not_keeper at.0 worker at.2)
    ∙ append-nil (filter_map keeper_line_of (take i lines))

pub keeper_one : (lines : List Line) (i : ℕ) → option_map worker_of (slice_get lines i) ≡ Some None
    → length (filter_map keeper_line_of (take (i + 1) lines)) ≡ length (filter_map keeper_line_of (take i lines)) + 1
keeper_one lines i is = let at = line_there lines i None is in
    ap length (keepers_more lines i at.0 at.1)
    ∙ length-append (filter_map keeper_line_of (take i lines)) (filter_map keeper_line_of (at.0 ∷ []))
    ∙ ap (λ n. length (filter_map keeper_line_of (take i lines)) + n) (is_keeper at.0 at.2)

pub not_his : (line : Line) (worker : ℕ) → worker_of line ≢ Some worker → ops_of worker (line ∷ []) ≡ []
not_his (Worker other ops) worker apart = rw (ne_eqb other worker (λ same. apart (ap Some same))) refl
not_his (Keeper line) worker apart = refl

-- a line of another's is none of the worker's
pub other_worker : (lines : List Line) (i worker : ℕ) (o : Option ℕ) → option_map worker_of (slice_get lines i) ≡ Some o
    → o ≢ Some worker → ops_of worker (take (i + 1) lines) ≡ ops_of worker (take i lines)
other_worker lines i worker o is apart = let at = line_there lines i o is in
    ap (ops_of worker) (take_line lines i at.0 at.1) ∙ ops_of-append worker (take i lines) (at.0 ∷ [])
    ∙ ap (λ l. ops_of worker (take i lines) ++ l) (not_his at.0 worker (λ his. apart (sym at.2 ∙ his)))
    ∙ append-nil (ops_of worker (take i lines))

-- ---- what the maintenance thread is asked

pub keeper_there : (lines : List Line) (i : ℕ) (o : Option KeeperLine) → option_map keeper_line_of (slice_get lines i) ≡ Some o
    → (line : Line) × (slice_get lines i ≡ Some line) × (keeper_line_of line ≡ o)
keeper_there [] i o is = absurd cc
keeper_there (line ∷ lines) zero o is = (line, refl, cc)
keeper_there (line ∷ lines) (suc i) o is = keeper_there lines i o is

pub asked_one : (line : Line) (asked : KeeperLine) → keeper_line_of line ≡ Some asked
    → filter_map keeper_line_of (line ∷ []) ≡ asked ∷ []
asked_one (Worker other ops) asked is = absurd cc
asked_one (Keeper line) asked is = let same : line ≡ asked = cc in ap (λ l. l ∷ []) same

pub asked_none : (line : Line) → keeper_line_of line ≡ None → filter_map keeper_line_of (line ∷ []) ≡ []
asked_none (Worker other ops) is = refl
asked_none (Keeper line) is = absurd cc

pub keeper_at : (lines : List Line) (i : ℕ) (line : KeeperLine) → option_map keeper_line_of (slice_get lines i) ≡ Some (Some line)
    → filter_map keeper_line_of (take (i + 1) lines) ≡ filter_map keeper_line_of (take i lines) ++ line ∷ []
keeper_at lines i line is = let at = keeper_there lines i (Some line) is in
    keepers_more lines i at.0 at.1 ∙ ap (λ l. filter_map keeper_line_of (take i lines) ++ l) (asked_one at.0 line at.2)

pub keeper_not : (lines : List Line) (i : ℕ) → option_map keeper_line_of (slice_get lines i) ≡ Some None
    → filter_map keeper_line_of (take (i + 1) lines) ≡ filter_map keeper_line_of (take i lines)
keeper_not lines i is = let at = keeper_there lines i None is in
    keepers_more lines i at.0 at.1 ∙ ap (λ l. filter_map keeper_line_of (take i lines) ++ l) (asked_none at.0 at.2)
    ∙ append-nil (filter_map keeper_line_of (take i lines))

-- those among some first lines are at most all
pub keepers_within : (lines : List Line) (n : ℕ)
    → length (filter_map keeper_line_of (take n lines)) ≤ length (filter_map keeper_line_of lines)
keepers_within lines n =
    let parts = filter_map-append keeper_line_of (take n lines) (drop n lines) in
    let whole = ap (filter_map keeper_line_of) (take-append-drop n lines) in
    omega (
      arith,
      ap length parts,
      ap length whole,
      length-append (filter_map keeper_line_of (take n lines)) (filter_map keeper_line_of (drop n lines)),
    )

pub keepers_fewer : (lines : List Line) (i : ℕ) (line : KeeperLine)
    → option_map keeper_line_of (slice_get lines i) ≡ Some (Some line)
    → length (filter_map keeper_line_of (take i lines)) + 1 ≤ length (filter_map keeper_line_of lines)
keepers_fewer lines i line is =
    let more : length (filter_map keeper_line_of (take (i + 1) lines)) ≡ length (filter_map keeper_line_of (take i lines)) + 1 =
    ap length (keeper_at lines i line is) ∙ length-append (filter_map keeper_line_of (take i lines)) (line ∷ []) in
    omega (arith, more, keepers_within lines (i + 1))
