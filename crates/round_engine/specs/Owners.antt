-- Whose lines a round has: which workers have one, and how many are the maintenance thread's.
use Rattle.std.specs.Prelude.{◌≡◌, ◌≢◌, ◌<◌, ◌+◌, ℕ, List, Option, Some, None, length, slice_get, true}
use Rattle.std.specs.List.{filter_map}
use Rattle.script_grammar.specs.Script.{Line, keeper_line_of, ops_of_worker}
use Rattle.round_engine.specs.Workers.{is_busy}
use Rattle.round_engine.specs.declared.owners.Owners.{Owners}

-- so it is of these lines
pub record AreOwners (lines : List Line) (owners : Owners) : Type 0 where
  pub workers : length owners.busy ≡ 8
  pub busy : (worker : ℕ) → worker < 8
      → slice_get owners.busy worker ≡ Some (is_busy (filter_map (ops_of_worker worker) lines))
  pub keeper : owners.keeper ≡ length (filter_map keeper_line_of lines)

-- A line more is a worker's, if there is such a worker.
pub record AddsWorker (worker : ℕ) (old new : Owners) : Type 0 where
  pub mine : worker < 8 → slice_get new.busy worker ≡ Some true
  pub others : (other : ℕ) → other ≢ worker → slice_get new.busy other ≡ slice_get old.busy other
  pub workers : length new.busy ≡ length old.busy
  pub keeper : new.keeper ≡ old.keeper

-- It is this worker's, or the maintenance thread's.
abbrev pub AddsOwner : Option ℕ → Owners → Owners → Type 0
AddsOwner (Some worker) old new = AddsWorker worker old new
AddsOwner None old new = new ≡ record old { keeper = old.keeper + 1 }
