use Rattle.std.proofs.Common.{◌≡◌, ◌≢◌, ℕ, ◌+◌, ◌<◌, ◌≤◌, List}
use Rattle.std.specs.List.{Contains}
use Rattle.serial_model.specs.declared.key.Key.{Key}
use Rattle.homes.specs.declared.places.Span.{Span}
use Rattle.wire_form.specs.Leaves.{tree_leaf, word_in}
use Rattle.engine_pages.specs.declared.engine.Engine.{Engine}
use Rattle.engine_pages.specs.declared.view.Read.{Read}
use Rattle.engine_pages.specs.declared.view.View.{View}
use Rattle.engine_pages.specs.Layout.{page_at}
use Rattle.engine_pages.specs.Passes.{Pass, view, IsPassOf}
use Rattle.foster_tree.specs.declared.entries.Entry.{Entry}
use Rattle.foster_tree.specs.Locking.{AreLocked, CanLockRecords, WorkedIn}
use Rattle.foster_tree.proofs.locking.open_records.Given as goal

-- the records behind the first ones are open again
pub record HasOpenedDown
    (engine : Engine) (old new : Pass) (slot : ℕ) (span : Span) (entries : List Entry) (count left : ℕ)
    : Type 0 where
  pub of : IsPassOf engine new
  pub within : left ≤ count
  pub worked : WorkedIn slot (view old) (view new)
  pub touched : (view new).touched ≡ (view old).touched
  pub layout : (view new).layout ≡ (view old).layout
  pub steps : (view new).steps + left ≡ (view old).steps + count
  pub last : (view new).last ≡ (view old).last
  pub still : (r : Read) → Contains (view old).reads r
      → ((i : ℕ) → i < count → r.word ≢ page_at (view old).layout.slots slot (word_in tree_leaf i))
      → Contains (view new).reads r
  pub locked : (keys : List Key) (from : View) → CanLockRecords from slot span keys
      → AreLocked slot keys entries count from (view old) → AreLocked slot keys entries left from (view new)

abbrev pub invariant-loop-left : goal.invariant-loop-left
invariant-loop-left l = HasOpenedDown l.engine l.fn.pass l.pass l.slot l.span l.entries l.count l.left

abbrev pub decreases-loop-left : goal.decreases-loop-left
decreases-loop-left l = l.left
