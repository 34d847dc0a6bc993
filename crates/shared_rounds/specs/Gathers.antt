-- Whose commits a round's are: those of the history that threads share.
use Rattle.std.proofs.Common.{◌≡◌, ◌∙◌, ◌++◌, ◌∷◌, refl, sym, ap, subst, ℕ, suc, List, [], map}
use Rattle.std.specs.List.Sorted.{IsPermutation}
use Rattle.std.proofs.lemmas.List.{map-append}
use Rattle.std.proofs.lemmas.List.Sorted.{IsPermutation-append, IsPermutation-refl}
use Rattle.serial_model.specs.declared.decl.Decl.{Decl}
use Rattle.serial_model.specs.History.{Entry}
use Rattle.script_grammar.specs.Script.{Round, worker_lines}
use Rattle.commit_core.specs.declared.attempt.Attempt.{Attempt}
use Rattle.serial_bridge.specs.Transaction.{AreAttemptsOf}
use Rattle.tx_script.specs.Run.{entries_of_workers}
use Rattle.tx_script.specs.declared.outcome.Outcome.{Outcome}

-- two rows of attempts, behind one another
attempts_append : (decls : List Decl) (es fs : List Entry) (xs ys : List Attempt) → AreAttemptsOf decls es xs
    → AreAttemptsOf decls fs ys → AreAttemptsOf decls (es ++ fs) (xs ++ ys)
attempts_append decls [] fs [] ys are more = more
attempts_append decls [] fs (x ∷ xs) ys are more = absurd are
attempts_append decls (e ∷ es) fs [] ys are more = absurd are
attempts_append decls (e ∷ es) fs (x ∷ xs) ys are more = (are.0, attempts_append decls es fs xs ys are.1 more)

-- The attempts that count now are those that counted before, and then those of the commits that are told of the round's
-- lines, one for one (`told`, in the order of the commits): each has the number that is told, the line's operations run
-- over what it read to the verdict and the replies that are told, and it writes what they wrote. Each is on the seat of
-- its line's worker (worker 0 has seat 1, as seat 0 is the keeper's).
pub record HasGathered (decls : List Decl) (round : Round) (outcomes : List (List Outcome)) (was now : List Attempt)
    : Type 0 where
  pub new : List Attempt
  pub all : now ≡ was ++ new
  pub told : List Attempt
  pub same : IsPermutation told new
  pub are : (index : ℕ) → AreAttemptsOf decls (entries_of_workers index 0 outcomes (worker_lines round)) told
  pub seats : (index : ℕ) → map (λ (e : Entry). suc e.worker) (entries_of_workers index 0 outcomes (worker_lines round))
      ≡ map (λ (a : Attempt). a.seat) told

-- The commits, in this order, are those of a history that threads share: attempts that count, one for one, each on the
-- seat of its commit's worker.
pub record ComeFrom (decls : List Decl) (commits : List Entry) (mine : List Attempt) : Type 0 where
  pub told : List Attempt
  pub same : IsPermutation told mine
  pub are : AreAttemptsOf decls commits told
  pub seats : map (λ (e : Entry). suc e.worker) commits ≡ map (λ (a : Attempt). a.seat) told

-- There is such a history.
abbrev pub ComeFromOne : List Decl → List Entry → Type 0
ComeFromOne decls commits = (mine : List Attempt) × ComeFrom decls commits mine

-- No commit came from one to which none came.
pub none_come : (decls : List Decl) → ComeFrom decls [] []
none_come decls = record { told = []; same = IsPermutation-refl []; are = tt; seats = refl }

-- Those of one round more come from the history that it left.
pub comes_more : (decls : List Decl) (index : ℕ) (round : Round) (outcomes : List (List Outcome)) (commits : List Entry)
    (was now : List Attempt) → ComeFrom decls commits was → HasGathered decls round outcomes was now
    → ComeFrom decls (commits ++ entries_of_workers index 0 outcomes (worker_lines round)) now
comes_more decls index round outcomes commits was now c g = record {
  told = c.told ++ g.told;
  same = subst (IsPermutation (c.told ++ g.told)) (sym g.all)
      (IsPermutation-append c.told was g.told g.new c.same g.same);
  are = attempts_append decls commits (entries_of_workers index 0 outcomes (worker_lines round)) c.told g.told c.are
      (g.are index);
  seats = map-append (λ (e : Entry). suc e.worker) commits (entries_of_workers index 0 outcomes (worker_lines round))
      ∙ ap (λ (l : List ℕ). l ++ map (λ (e : Entry). suc e.worker)
      (entries_of_workers index 0 outcomes (worker_lines round)))
      c.seats
      ∙ ap (λ (l : List ℕ). map (λ (a : Attempt). a.seat) c.told ++ l) (g.seats index)
      ∙ sym (map-append (λ (a : Attempt). a.seat) c.told g.told);
}
