use Rattle.std.proofs.Common.{◌≡◌, ℕ, ◌+◌, ◌≤◌, ◌-◌, List, length}
use Rattle.tx_sets.specs.declared.reads.ReadEntry.{ReadEntry}
use Rattle.tx_sets.specs.declared.sets.Sets.{Sets}
use Rattle.engine_pages.specs.declared.engine.Engine.{Engine}
use Rattle.engine_pages.specs.Passes.{Pass, view, IsPassOf}
use Rattle.page_commit.specs.Places.{spot_for}
use Rattle.page_commit.specs.Steps.{HasCheckedSome}
use Rattle.page_commit.proofs.checking.check_records.Given as goal

-- the first `done` records are checked
pub record IsCheckingRecords
    (engine : Engine) (old new : Pass) (sets : Sets) (reads : List ReadEntry) (done : ℕ) : Type 0 where
  pub of : IsPassOf engine new
  pub count : done ≤ length reads
  pub steps : (view new).steps ≡ (view old).steps + done
  pub so : HasCheckedSome sets done 0 (view old) (view new)

abbrev pub invariant-loop-done : goal.invariant-loop-done
invariant-loop-done l = IsCheckingRecords l.engine l.fn.pass l.pass l.sets l.reads l.done

abbrev pub decreases-loop-done : goal.decreases-loop-done
decreases-loop-done l = length l.reads - l.done

-- The place of the record, by its word and the kind of its storage.
abbrev pub ghosts-check_as : goal.ghosts-check_as
ghosts-check_as a = record {
  key = a.key;
  spot = spot_for (view a.pass.now).layout a.key a.at;
  word = a.word;
  own = a.own;
}
