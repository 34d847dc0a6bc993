-- What a glean leaves of the pages and of the closed log files, whatever it answers, and why it is refused.
use Rattle.std.specs.Prelude.{◌≡◌, ◌≢◌, ◌<◌, ◌+◌, ◌*◌, ◌++◌, ℕ, List, Option, Some, Result, Err, OnOk, OnErr, length}
use Rattle.std.specs.Prelude.{is_some, slice_get, false, true}
use Rattle.lists.specs.declared.memory.OrMemory.{OrMemory}
use Rattle.lists.specs.declared.memory.OrMemory.TheVariants as or
use Rattle.outside.specs.Reads.{OnlyReads}
use Rattle.outside.specs.declared.device.Device.{Device}
use Rattle.outside.specs.declared.device.Device.TheVariants.{Snaps, Bank}
use Rattle.serial_model.specs.declared.decl.Decl.{Decl}
use Rattle.wire_form.specs.declared.page.Page.{Page}
use Rattle.snapshot_store.specs.Content.{words_of}
use Rattle.snapshot_store.specs.Store.{StoreState, HoldsPages, KeepsFront}
use Rattle.gleaner.specs.Glean.{bank_of, FailsBeside, IsDamagedFile, DeviceFailed, WouldBeDeep, WouldBeMany}
use Rattle.gleaner.specs.declared.closed.Closed.{Closed}
use Rattle.gleaner.specs.declared.closed.Newest.{Newest}
use Rattle.gleaner.specs.declared.gleaning.GleanFault.{GleanFault}
use Rattle.gleaner.specs.declared.gleaning.GleanFault.TheVariants as faults
use Rattle.gleaner.specs.declared.gleaning.Gleaned.{Gleaned}

-- The pages only grow, and each image of their device begins with what was durable of them. Once a snapshot was added,
-- or nothing was to be done, the store is sound and the device begins with its pages. A refusal leaves both as they
-- were, but where the device of the snapshots failed: then the store isn't sound any more, and only then its count of
-- faults rose.
pub record LeavesPages {D : Type 0} (tells : D → Option (List ℕ)) (clock : D → ℕ) (image_at : D → ℕ → List ℕ → Type 0)
    (count : D → ℕ) (answer : Result Gleaned (OrMemory GleanFault)) (store_was store : StoreState) (was is : D)
    : Type 0 where
  pub grows : (more : List Page) × (store.pages ≡ store_was.pages ++ more)
  pub front : KeepsFront clock image_at (512 * length store_was.pages) was is
  pub told : is_some (tells is) ≡ is_some (tells was)
  pub sound : OnOk answer (store.sound ≡ true)
  pub holds : OnOk answer (HoldsPages tells is store.pages)
  pub kept : OnErr answer (answer ≢ Err (or.Fault (faults.Device Snaps)) → (is ≡ was) × (store ≡ store_was))
  pub unsound : answer ≡ Err (or.Fault (faults.Device Snaps)) → store.sound ≡ false
  pub quiet : answer ≢ Err (or.Fault (faults.Device Snaps)) → count is ≡ count was

-- The closed log files are only read, and no count of faults rose but that of the one that is told, and of the one that
-- failed beside it.
pub record LeavesFiles {D : Type 0} (tells : D → Option (List ℕ)) (clock : D → ℕ) (image_at : D → ℕ → List ℕ → Type 0)
    (count : D → ℕ) (closed : Closed) (answer : Result Gleaned (OrMemory GleanFault)) (beside : Option Device)
    (files_was files : List D) : Type 0 where
  pub many : length files ≡ length files_was
  pub reads : (worker : ℕ) (was is : D) → slice_get files_was worker ≡ Some was → slice_get files worker ≡ Some is
      → OnlyReads tells clock image_at count was is
  pub quiet : (worker : ℕ) (was is : D) → slice_get files_was worker ≡ Some was → slice_get files worker ≡ Some is
      → answer ≢ Err (or.Fault (faults.Device (Bank (bank_of closed.odd worker))))
      → beside ≢ Some (Bank (bank_of closed.odd worker)) → count is ≡ count was

-- Why no snapshot was made: damage, at a byte of a closed log file; a device, whose count of faults rose; a page that
-- would stand below 32 others; more pages than are let in, and how many. A closed log file may have failed beside what
-- is told: that of a lower one, or want of memory.
pub record RefusesGlean {D : Type 0} (tells : D → Option (List ℕ)) (count : D → ℕ) (store_was : StoreState)
    (decls : List Decl) (newest : Newest) (closed : Closed) (room : ℕ) (snaps_was snaps : D) (files_was files : List D)
    (answer : Result Gleaned (OrMemory GleanFault)) (beside : Option Device) : Type 0 where
  pub damaged : (device : Device) (at : ℕ) → answer ≡ Err (or.Fault (faults.Damaged device at))
      → IsDamagedFile tells closed decls newest.epoch files_was device at
  pub device : (device : Device) → answer ≡ Err (or.Fault (faults.Device device))
      → DeviceFailed count closed snaps_was snaps files_was files device
  pub deep : answer ≡ Err (or.Fault faults.Deep)
      → WouldBeDeep tells (words_of store_was.pages) decls newest closed files_was
  pub limit : (have new most : ℕ) → answer ≡ Err (or.Fault (faults.Limit have new most))
      → (have ≡ length store_was.pages) × (most ≡ room) × (room < have + new)
      × WouldBeMany tells (words_of store_was.pages) decls newest closed files_was new
  pub also : (device : Device) → beside ≡ Some device → FailsBeside count closed files_was files answer device

-- one item of a list changed at most
pub record ChangesAt {X : Type 0} (at : ℕ) (old new : List X) : Type 0 where
  pub others : (other : ℕ) → other ≢ at → slice_get new other ≡ slice_get old other
  pub many : length new ≡ length old
