-- What attempts leave of a state.
use Rattle.std.specs.Prelude.{List, [], ◌∷◌, ℕ, Option, Some, None}
use Rattle.std.specs.FinMap.{insert, remove}
use Rattle.serial_model.specs.State.{State}
use Rattle.serial_model.specs.declared.key.Key.{Key}
use Rattle.serial_model.specs.declared.number.Change.{Change}
use Rattle.commit_core.specs.declared.attempt.Attempt.{Attempt}

-- the state with this value at the key, or none
abbrev pub with_value : State → Key → Option ℕ → State
with_value s k (Some value) = insert s k value
with_value s k None = remove s k

-- the state after the changes of an attempt, of which the first one at a key counts
abbrev pub after_changes : State → List Change → State
after_changes s [] = s
after_changes s (c ∷ changes) = with_value (after_changes s changes) c.key c.value

-- the state after the attempts, in order
abbrev pub after_commits : State → List Attempt → State
after_commits s [] = s
after_commits s (a ∷ more) = after_commits (after_changes s a.writes) more
