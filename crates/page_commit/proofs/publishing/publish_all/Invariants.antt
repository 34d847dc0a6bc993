use Rattle.std.proofs.Common.{◌≡◌, ℕ, ◌+◌, ◌*◌, ◌≤◌, ◌-◌, List, length}
use Rattle.tx_sets.specs.declared.writes.Write.{Write}
use Rattle.engine_pages.specs.declared.engine.Engine.{Engine}
use Rattle.engine_pages.specs.Passes.{Pass, view, IsPassOf}
use Rattle.page_commit.specs.Places.{spot_for}
use Rattle.page_commit.specs.Steps.{HasDecided}
use Rattle.page_commit.proofs.PutLaws.{IsPublishing}
use Rattle.page_commit.proofs.publishing.publish_all.Given as goal

-- the first `done` writes are put and opened
pub record IsPublishingAll (engine : Engine) (old new : Pass) (writes : List Write) (number done : ℕ) : Type 0 where
  pub of : IsPassOf engine new
  pub count : done ≤ length writes
  pub steps : (view new).steps ≡ (view old).steps + 2 * done
  pub so : (found : List ℕ) → HasDecided writes found number (view old)
      → IsPublishing writes found (view old) (view new) done

abbrev pub invariant-loop-done : goal.invariant-loop-done
invariant-loop-done l = IsPublishingAll l.engine l.fn.pass l.pass l.writes l.number l.done

abbrev pub decreases-loop-done : goal.decreases-loop-done
decreases-loop-done l = length l.writes - l.done

-- The place of the record, by its word and the kind of its storage.
abbrev pub ghosts-put_as : goal.ghosts-put_as
ghosts-put_as a = record { key = a.key; spot = spot_for (view a.pass.now).layout a.key a.at }

abbrev pub ghosts-open_anew_as : goal.ghosts-open_anew_as
ghosts-open_anew_as a = record { key = a.key; spot = spot_for (view a.pass.now).layout a.key a.at }
