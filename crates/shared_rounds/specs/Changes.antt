-- What the logs have of the commits of a run.
use Rattle.std.specs.Prelude.{◌≡◌, ◌==◌, ℕ, List, [], ◌∷◌, ◌++◌, MatchBool, Option, None, option_to_list}
use Rattle.serial_model.specs.History.{Entry, state_after}
use Rattle.serial_model.specs.State.{State}
use Rattle.serial_model.specs.declared.decl.Decl.{Decl}
use Rattle.serial_model.specs.declared.number.Commit.{Commit}
use Rattle.worker_logs.specs.Changes.{IsLogged}

-- What the log of a worker has of a serial run from the state: its own commits that changed something, in the order of
-- the run.
abbrev pub AreLogged : List Decl → ℕ → State → List Entry → List Commit → Type 0
AreLogged decls worker s [] commits = commits ≡ []
AreLogged decls worker s (e ∷ es) commits = (first : Option Commit) × (rest : List Commit)
    × (commits ≡ option_to_list first ++ rest)
    × MatchBool (e.worker == worker) (IsLogged decls s e.ops e.number first) (first ≡ None)
    × AreLogged decls worker (state_after decls s e) es rest
