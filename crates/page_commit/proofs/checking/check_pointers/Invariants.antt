use Rattle.std.proofs.Common.{◌≡◌, ℕ, ◌+◌, ◌≤◌, ◌-◌, List, length}
use Rattle.tx_sets.specs.declared.seen.Seen.{Seen}
use Rattle.tx_sets.specs.declared.sets.Sets.{Sets}
use Rattle.engine_pages.specs.declared.engine.Engine.{Engine}
use Rattle.engine_pages.specs.declared.view.View.{View}
use Rattle.engine_pages.specs.Passes.{Pass, view, IsPassOf}
use Rattle.page_commit.specs.Places.{ground, pointer_for}
use Rattle.page_commit.specs.Steps.{HasCheckedSome, HasTried}
use Rattle.page_commit.proofs.checking.check_pointers.Given as goal

-- the first `done` pointers are checked, behind all records
pub record IsCheckingPointers
    (engine : Engine) (old new : Pass) (sets : Sets) (pointers : List Seen) (done : ℕ) : Type 0 where
  pub of : IsPassOf engine new
  pub count : done ≤ length pointers
  pub steps : (view new).steps ≡ (view old).steps + done
  pub so : (v : View) → HasTried sets v → HasCheckedSome sets (length sets.reads) 0 v (view old)
      → HasCheckedSome sets (length sets.reads) done v (view new)

abbrev pub invariant-loop-done : goal.invariant-loop-done
invariant-loop-done l = IsCheckingPointers l.engine l.fn.pass l.pass l.sets l.pointers l.done

abbrev pub decreases-loop-done : goal.decreases-loop-done
decreases-loop-done l = length l.pointers - l.done

-- The place of the pointer, as the pass knows it.
abbrev pub ghosts-check_pointer : goal.ghosts-check_pointer
ghosts-check_pointer a = record { at = pointer_for (ground (view a.pass.now)) a.at; word = a.word }
