-- What a worker's mark says.
use Rattle.std.specs.Prelude.{◌≡◌, ◌≤◌, ◌<◌, ℕ, List, length, take, drop}
use Rattle.std.specs.List.{AllByRecursion}
use Rattle.serial_model.specs.declared.number.Commit.{Commit}
use Rattle.wire_form.specs.LogFile.{lines_bytes}

-- a commit of a later epoch
abbrev pub IsAbove : ℕ → Commit → Type 0
IsAbove epoch c = epoch < c.number.epoch

-- Of the commits that a worker logged since the last swap, the first so many bytes are whole lines, and each
-- commit behind them has a later epoch.
pub record Marks (commits : List Commit) (epoch size : ℕ) : Type 0 where
  pub front : ℕ
  pub within : front ≤ length commits
  pub counted : size ≤ length (lines_bytes commits)
  pub lines : lines_bytes (take front commits) ≡ take size (lines_bytes commits)
  pub rest : AllByRecursion (IsAbove epoch) (drop front commits)
