use Rattle.std.proofs.Common.{◌≡◌, ℕ, ◌+◌, ◌≤◌, ◌-◌, List, length}
use Rattle.tx_sets.specs.declared.seen.Seen.{Seen}
use Rattle.tx_sets.specs.declared.sets.Sets.{Sets}
use Rattle.engine_pages.specs.declared.engine.Engine.{Engine}
use Rattle.engine_pages.specs.declared.view.View.{View}
use Rattle.engine_pages.specs.Passes.{Pass, view, IsPassOf}
use Rattle.page_commit.specs.Steps.{HasCheckedAll, HasCheckedSome, HasTried}
use Rattle.page_commit.proofs.checking.check_headers.Given as goal

-- the first `done` headers are checked, behind all records and pointers
pub record IsCheckingHeaders
    (engine : Engine) (old new : Pass) (sets : Sets) (headers : List Seen) (done : ℕ) : Type 0 where
  pub of : IsPassOf engine new
  pub count : done ≤ length headers
  pub steps : (view new).steps ≡ (view old).steps + done
  pub so : (v : View) → HasTried sets v → HasCheckedSome sets (length sets.reads) (length sets.pointers) v (view old)
      → HasCheckedAll sets done v (view new)

abbrev pub invariant-loop-done : goal.invariant-loop-done
invariant-loop-done l = IsCheckingHeaders l.engine l.fn.pass l.pass l.sets l.headers l.done

abbrev pub decreases-loop-done : goal.decreases-loop-done
decreases-loop-done l = length l.headers - l.done
