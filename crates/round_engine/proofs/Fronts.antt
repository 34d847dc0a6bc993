-- Lines of a worker among those of a round, and the round of the lines that were run.
use Rattle.std.proofs.Common.{◌≡◌, ◌≢◌, ◌∙◌, ap, subst, refl, ℕ, zero, suc, ◌+◌, ◌<◌, List, [], ◌∷◌}
use Rattle.std.proofs.Common.{◌++◌, map, take, Some, arith, eq-eqb}
use Rattle.std.specs.List.{filter_map, slice_get}
use Rattle.std.proofs.lemmas.Bool.{ne_eqb}
use Rattle.std.proofs.lemmas.List.{append-nil, take_more}
use Rattle.std.proofs.lemmas.List.Elements.{filter_map-append}
use Rattle.std.proofs.lemmas.Option.{slice_get_within, get_or_from_slice_get}
use Rattle.serial_model.specs.declared.op.Op.{Op}
use Rattle.script_grammar.specs.Script.{Line, Worker, keeper_line_of}
use Rattle.script_grammar.specs.Script.{ops_of_worker}
use Rattle.round_engine.specs.Shares.{Share}

-- the operations of these lines that are the worker's
abbrev pub ops_of : ℕ → List Line → List (List Op)
ops_of worker lines = filter_map (ops_of_worker worker) lines

pub ops_of-append : (worker : ℕ) (xs ys : List Line) → ops_of worker (xs ++ ys) ≡ ops_of worker xs ++ ops_of worker ys
ops_of-append worker xs ys = filter_map-append (ops_of_worker worker) xs ys

-- ---- what a worker runs

pub ops_of-same : (worker : ℕ) (lines : List (List Op)) → ops_of worker (map (Worker worker) lines) ≡ lines
ops_of-same worker [] = refl
ops_of-same worker (ops ∷ lines) = rw (eq-eqb worker worker refl) (ap (λ x. ops ∷ x) (ops_of-same worker lines))

pub ops_of-other : (worker other : ℕ) (lines : List (List Op)) → other ≢ worker
    → ops_of worker (map (Worker other) lines) ≡ []
ops_of-other worker other [] ne = refl
ops_of-other worker other (ops ∷ lines) ne = rw (ne_eqb other worker ne) (ops_of-other worker other lines ne)

pub no_keeper : (worker : ℕ) (lines : List (List Op)) → filter_map keeper_line_of (map (Worker worker) lines) ≡ []
no_keeper worker [] = refl
no_keeper worker (ops ∷ lines) = no_keeper worker lines

-- ---- one line more

pub take_line : (lines : List Line) (i : ℕ) (line : Line) → slice_get lines i ≡ Some line
    → take (i + 1) lines ≡ take i lines ++ line ∷ []
take_line lines i line at =
    take_more lines i line (slice_get_within lines i line at)
    ∙ ap (λ x. take i lines ++ x ∷ []) (get_or_from_slice_get lines i line line at)

-- ---- the round of what was run

-- the lines that the workers from this one on ran
abbrev pub lines_from : ℕ → List Share → List Line
lines_from worker [] = []
lines_from worker (p ∷ shares) = map (Worker worker) p.lines ++ lines_from (worker + 1) shares

-- what the worker with this share ran
abbrev pub ran_at : List Share → ℕ → List (List Op)
ran_at [] n = []
ran_at (p ∷ shares) zero = p.lines
ran_at (p ∷ shares) (suc n) = ran_at shares n

pub none_of : (worker v : ℕ) (shares : List Share) → v < worker → ops_of v (lines_from worker shares) ≡ []
none_of worker v [] less = refl
none_of worker v (p ∷ shares) less =
    ops_of-append v (map (Worker worker) p.lines) (lines_from (worker + 1) shares)
    ∙ ap (λ x. x ++ ops_of v (lines_from (worker + 1) shares)) (ops_of-other v worker p.lines (omega arith))
    ∙ none_of (worker + 1) v shares (omega arith)

pub ran_of : (worker n v : ℕ) (shares : List Share) → worker + n ≡ v → ops_of v (lines_from worker shares) ≡ ran_at shares n
ran_of worker n v [] is = refl
ran_of worker zero v (p ∷ shares) is =
    let here : worker ≡ v = omega arith in
    ops_of-append v (map (Worker worker) p.lines) (lines_from (worker + 1) shares)
    ∙ ap (λ x. x ++ ops_of v (lines_from (worker + 1) shares))
    (subst (λ w. ops_of w (map (Worker worker) p.lines) ≡ p.lines) here (ops_of-same worker p.lines))
    ∙ ap (λ x. p.lines ++ x) (none_of (worker + 1) v shares (omega arith)) ∙ append-nil p.lines
ran_of worker (suc n) v (p ∷ shares) is =
    ops_of-append v (map (Worker worker) p.lines) (lines_from (worker + 1) shares)
    ∙ ap (λ x. x ++ ops_of v (lines_from (worker + 1) shares)) (ops_of-other v worker p.lines (omega arith))
    ∙ ran_of (worker + 1) n v shares (omega arith)

pub no_keepers : (worker : ℕ) (shares : List Share) → filter_map keeper_line_of (lines_from worker shares) ≡ []
no_keepers worker [] = refl
no_keepers worker (p ∷ shares) =
    filter_map-append keeper_line_of (map (Worker worker) p.lines) (lines_from (worker + 1) shares)
    ∙ ap (λ x. x ++ filter_map keeper_line_of (lines_from (worker + 1) shares)) (no_keeper worker p.lines)
    ∙ no_keepers (worker + 1) shares
