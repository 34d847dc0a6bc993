use Rattle.std.proofs.Common.{◌≡◌, ℕ, ◌+◌, ◌≤◌, ◌-◌, List, length}
use Rattle.tx_sets.specs.declared.writes.Write.{Write}
use Rattle.engine_pages.specs.declared.engine.Engine.{Engine}
use Rattle.engine_pages.specs.Passes.{Pass, view, IsPassOf}
use Rattle.page_commit.specs.Places.{spot_for}
use Rattle.page_commit.proofs.OpenLaws.{IsUnlocking}
use Rattle.page_commit.proofs.locking.unlock_all.Given as goal

-- the first `done` locks are opened
pub record IsUnlockingAll (engine : Engine) (old new : Pass) (writes : List Write) (found : List ℕ) (done : ℕ) : Type 0
  where
    pub of : IsPassOf engine new
    pub count : done ≤ length writes
    pub steps : (view new).steps ≡ (view old).steps + done
    pub so : IsUnlocking writes found (view old) (view new) done

abbrev pub invariant-loop-done : goal.invariant-loop-done
invariant-loop-done l = IsUnlockingAll l.engine l.fn.pass l.pass l.writes l.found l.done

abbrev pub decreases-loop-done : goal.decreases-loop-done
decreases-loop-done l = length l.writes - l.done

-- The place of the record, by its word and the kind of its storage.
abbrev pub ghosts-open_again_as : goal.ghosts-open_again_as
ghosts-open_again_as a = record { key = a.key; spot = spot_for (view a.pass.now).layout a.key a.at }
