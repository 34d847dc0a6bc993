-- What the log of a worker has of a serial run, told by the attempts that are its transactions.
use Rattle.std.proofs.Common.{◌≡◌, ◌==◌, ℕ, Bool, true, false, cond, List, [], ◌∷◌, ◌++◌, Option, Some, None, refl}
use Rattle.std.proofs.Common.{sym, subst}
use Rattle.std.specs.Prelude.{option_to_list, MatchBool}
use Rattle.std.specs.List.{AllByRecursion, Contains}
use Rattle.std.specs.FinMap.{get}
use Rattle.lists.specs.Elements.{in_head, in_none}
use Rattle.serial_model.specs.declared.decl.Decl.{Decl}
use Rattle.serial_model.specs.declared.key.Key.{Key}
use Rattle.serial_model.specs.declared.number.Change.{Change}
use Rattle.serial_model.specs.declared.number.Commit.{Commit}
use Rattle.serial_model.specs.Keys.{IsKeyBelow}
use Rattle.serial_model.specs.State.{State}
use Rattle.serial_model.specs.History.{Entry, state_after}
use Rattle.serial_model.specs.WriteSet.{write_set}
use Rattle.wire_form.specs.Items.{Rises}
use Rattle.commit_core.specs.declared.attempt.Attempt.{Attempt}
use Rattle.serial_bridge.specs.Transaction.{AreAttemptsOf}
use Rattle.serial_bridge.specs.WriteSets.{keys_of, WriteAlong, WritesItsSet}
use Rattle.worker_cells.specs.Below.{rising_counts}
use Rattle.worker_logs.specs.Changes.{IsLogged}
use Rattle.shared_rounds.specs.Changes.{AreLogged}

-- what a log gets of an attempt with these writes
abbrev pub logged_as : Attempt → List Change → Option Commit
logged_as a [] = None
logged_as a (c ∷ more) = Some (record { number = a.number; changes = c ∷ more })

-- what the log of the worker gets of attempts, which are those of the entries
abbrev pub logged_by : ℕ → List Entry → List Attempt → List Commit
logged_by worker [] attempts = []
logged_by worker (e ∷ entries) [] = []
logged_by worker (e ∷ entries) (a ∷ attempts) =
    option_to_list (cond (e.worker == worker) (logged_as a a.writes) None) ++ logged_by worker entries attempts

-- the keys of each attempt's writes rise
abbrev pub AllRise : List Attempt → Type 0
AllRise attempts = AllByRecursion (λ (a : Attempt). Rises IsKeyBelow (keys_of a.writes)) attempts

none_there : (keys : List Key) → ((k : Key) → Contains keys k → ⊥) → keys ≡ []
none_there [] none = refl
none_there (k ∷ keys) none = absurd (none k (in_head k keys))

is_logged : (decls : List Decl) (s : State) (e : Entry) (a : Attempt) → WritesItsSet decls s e a → e.number ≡ a.number
    → (writes : List Change) → a.writes ≡ writes → Rises IsKeyBelow (keys_of writes)
    → IsLogged decls s e.ops e.number (logged_as a writes)
is_logged decls s e a set same [] is rises =
    none_there (write_set decls s e.ops)
    (λ k has. in_none k (subst (λ (l : List Change). Contains (keys_of l) k) is (set.all k has)))
is_logged decls s e a set same (c ∷ more) is rises =
    let each = subst (λ (l : List Change). AllByRecursion (Contains (write_set decls s e.ops))
    (keys_of l)) is set.each in
    let rising = subst (λ (l : List Change). Rises IsKeyBelow (keys_of l)) (sym is) rises in (
      (λ none. in_none c.key (subst (λ (l : List Key). Contains l c.key) none each.0)),
      sym same,
      record {
        keys = record {
          rising = rises;
          each = each;
          all = λ k has. subst (λ (l : List Change). Contains (keys_of l) k) is (set.all k has);
        };
        values = subst (λ (l : List Change). AllByRecursion (λ (d : Change). d.value ≡ get
            (state_after decls s e) d.key) l) is
            (set.values (rising_counts a.writes rising));
      },
    )

-- A serial run whose attempts write their write sets is logged as these attempts' writes.
pub logged_along : (decls : List Decl) (worker : ℕ) (s : State) (entries : List Entry) (attempts : List Attempt)
    → AreAttemptsOf decls entries attempts → WriteAlong decls s entries attempts → AllRise attempts
    → AreLogged decls worker s entries (logged_by worker entries attempts)
logged_along decls worker s [] [] are along rise = refl
logged_along decls worker s [] (a ∷ attempts) are along rise = absurd are
logged_along decls worker s (e ∷ entries) [] are along rise = absurd are
logged_along decls worker s (e ∷ entries) (a ∷ attempts) are along rise = (
  cond (e.worker == worker) (logged_as a a.writes) None,
  logged_by worker entries attempts,
  refl,
  by_worker (e.worker == worker),
  logged_along decls worker (state_after decls s e) entries attempts are.1 along.1 rise.1,
)
  where
    by_worker : (b : Bool) → MatchBool b (IsLogged decls s e.ops e.number (cond b (logged_as a a.writes) None))
        (cond b (logged_as a a.writes) None ≡ None)
    by_worker true = is_logged decls s e a along.0 are.0.number a.writes refl rise.0
    by_worker false = refl
