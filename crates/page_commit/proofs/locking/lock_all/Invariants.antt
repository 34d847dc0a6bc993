use Rattle.std.proofs.Common.{◌≡◌, ℕ, ◌+◌, ◌*◌, ◌≤◌, ◌-◌, List, length, take}
use Rattle.tx_sets.specs.declared.reads.ReadEntry.{ReadEntry}
use Rattle.tx_sets.specs.declared.writes.Write.{Write}
use Rattle.engine_pages.specs.declared.engine.Engine.{Engine}
use Rattle.engine_pages.specs.Passes.{Pass, view, IsPassOf}
use Rattle.page_commit.specs.Steps.{AreAsRead, HasLocked, StaysAside}
use Rattle.page_commit.proofs.locking.lock_all.Given as goal

-- the first `done` records are locked
pub record IsLockingAll
    (engine : Engine) (old new : Pass) (reads : List ReadEntry) (writes : List Write) (found : List ℕ) (done : ℕ)
    : Type 0 where
  pub of : IsPassOf engine new
  pub count : done ≤ length writes
  pub locked : HasLocked (take done writes) found (view old) (view new)
  pub read : AreAsRead reads (take done writes) found
  pub steps : (view new).steps ≡ (view old).steps + 2 * done
  pub aside : StaysAside (take done writes) (view old) (view new)

abbrev pub invariant-loop-done : goal.invariant-loop-done
invariant-loop-done l = IsLockingAll l.engine l.fn.pass l.pass l.reads l.writes l.found l.done

abbrev pub decreases-loop-done : goal.decreases-loop-done
decreases-loop-done l = length l.writes - l.done
