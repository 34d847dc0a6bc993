use Rattle.std.proofs.Common.{◌≡◌, ℕ, List, length}
use Rattle.serial_model.specs.declared.key.Key.{Key}
use Rattle.homes.specs.declared.places.Span.{Span}
use Rattle.engine_pages.specs.declared.engine.Engine.{Engine}
use Rattle.engine_pages.specs.Passes.{Pass, view, IsPassOf}
use Rattle.foster_tree.specs.declared.entries.Entry.{Entry}
use Rattle.foster_tree.specs.Locking.{CanLockRecords, HasLockedSome}
use Rattle.foster_tree.proofs.locking.lock_records.Given as goal

-- the first records are locked, so many
pub record HasLockedUp (engine : Engine) (old new : Pass) (slot : ℕ) (span : Span) (entries : List Entry) (index : ℕ)
    : Type 0 where
  pub of : IsPassOf engine new
  pub long : length entries ≡ 17
  pub locked : (keys : List Key) → CanLockRecords (view old) slot span keys
      → HasLockedSome slot keys entries index (view old) (view new)

abbrev pub invariant-loop-index : goal.invariant-loop-index
invariant-loop-index l = HasLockedUp l.engine l.fn.pass l.pass l.slot l.span l.entries l.index
