-- What the state after attempts has at a key.
use Rattle.std.proofs.Common.{◌≡◌, ◌∙◌, sym, ap, refl, ℕ, Bool, true, false, cond, List, [], ◌∷◌, ◌++◌, Option, Some}
use Rattle.std.proofs.Common.{None}
use Rattle.std.specs.Prelude.{unwrap_or}
use Rattle.std.specs.Option.{option_or}
use Rattle.std.specs.FinMap.{get, same_map}
use Rattle.serial_model.specs.KeyOrder.{keys_total, exact_keys}
use Rattle.serial_model.specs.State.{State}
use Rattle.serial_model.specs.declared.key.Key.{Key}
use Rattle.serial_model.specs.declared.number.Change.{Change}
use Rattle.commit_core.specs.declared.attempt.Attempt.{Attempt}
use Rattle.homes.specs.declared.places.Content.{Content}
use Rattle.serial_model.specs.declared.decl.Decl.{Decl}
use Rattle.serial_model.specs.History.{Entry, state_after_all}
use Rattle.commit_core.specs.Keys.{same_key, written}
use Rattle.serial_bridge.specs.Bridge.{RunsSerially, last_written}
use Rattle.serial_bridge.specs.Laws.{IsOver}
use Rattle.serial_bridge.specs.WriteLaws.{written-cons}
use Rattle.shared_rounds.specs.Contents.{after_changes, after_commits}
pub use Rattle.shared_rounds.specs.OpenedLaws.{key_test, opened_is, value_put}

-- attempts behind others
pub commits_append : (s : State) (xs ys : List Attempt)
    → after_commits s (xs ++ ys) ≡ after_commits (after_commits s xs) ys
commits_append s [] ys = refl
commits_append s (x ∷ xs) ys = commits_append (after_changes s x.writes) xs ys

-- two states that have the same at each key are one
pub same_state : (s t : State) → ((q : Key) → get s q ≡ get t q) → s ≡ t
same_state s t h = same_map keys_total exact_keys s t h

-- changes of an attempt: of each key the first one counts
pub changes_over : (s : State) (changes : List Change) → IsOver s changes (after_changes s changes)
changes_over s [] = λ q. refl
changes_over s (c ∷ changes) = λ q.
    value_put (after_changes s changes) c.key c.value q ∙ by_test (same_key c.key q) q (changes_over s changes q)
    ∙ ap (λ o. unwrap_or o (get s q)) (sym (written-cons c changes q))
  where
    by_test : (b : Bool) (q : Key) → get (after_changes s changes) q ≡ unwrap_or (written q changes) (get s q)
        → cond b c.value (get (after_changes s changes) q)
        ≡ unwrap_or (cond b (Some c.value) (written q changes)) (get s q)
    by_test true q rest = refl
    by_test false q rest = rest

pub either_way : (x y : Option (Option ℕ)) (z : Option ℕ) → unwrap_or x (unwrap_or y z) ≡ unwrap_or (option_or x y) z
either_way (Some v) y z = refl
either_way None y z = refl

-- what the last of the attempts wrote at a key, else what was there
pub commits_over : (attempts : List Attempt) (s : State) (q : Key)
    → get (after_commits s attempts) q ≡ unwrap_or (last_written attempts q) (get s q)
commits_over [] s q = refl
commits_over (a ∷ more) s q =
    commits_over more (after_changes s a.writes) q
    ∙ ap (unwrap_or (last_written more q)) (changes_over s a.writes q)
    ∙ either_way (last_written more q) (written q a.writes) (get s q)

-- a serial run leaves what its attempts leave
pub run_leaves : (decls : List Decl) (s : State) (entries : List Entry) (attempts : List Attempt)
    (contents : Key → Content) → RunsSerially decls s entries attempts contents
    → after_commits s attempts ≡ state_after_all decls s entries
run_leaves decls s entries attempts contents runs =
    same_state (after_commits s attempts) (state_after_all decls s entries)
    (λ q. commits_over attempts s q ∙ sym (runs.changes q))
