-- What the counted bytes of the closed log files make of the newest snapshot.
use Rattle.std.specs.Prelude.{◌≡◌, ◌≤◌, ◌<◌, ◌+◌, ◌*◌, ◌^◌, ◌++◌, ◌==◌, ℕ, Bool, List, get_or, length, slice_get}
use Rattle.std.specs.Prelude.{flat_map, if◌then◌else◌, Option, Some, Result, Err, ⊤}
use Rattle.std.specs.List.{AllByRecursion, list_all}
use Rattle.outside.specs.Disk.{IfTold}
use Rattle.outside.specs.Faults.{Rose}
use Rattle.outside.specs.declared.device.Device.{Device}
use Rattle.outside.specs.declared.device.Device.TheVariants.{Save, Snaps, Bank}
use Rattle.serial_model.specs.Numbers.{last_epoch}
use Rattle.serial_model.specs.declared.decl.Decl.{Decl}
use Rattle.wire_form.specs.Pages.{Contents, decls_of}
use Rattle.wire_form.specs.declared.bucket.Bucket.{Bucket}
use Rattle.wire_form.specs.declared.bucket.Entry.{Entry}
use Rattle.snapshot_store.specs.Content.{CatalogueAt, deepest, SnapshotStands}
use Rattle.log_mapper.specs.Mapped.{AreMapped, AreMappedLines, IsDamaged}
use Rattle.log_reducer.specs.Reduced.{AreLast, all_logged}
use Rattle.root_composer.specs.Composition.{CanCompose, IsComposed, IsTooDeep, WouldCompose}
use Rattle.root_composer.specs.Composition.{level_count, new_count}
use Rattle.gleaner.specs.declared.closed.Closed.{Closed}
use Rattle.gleaner.specs.declared.closed.Newest.{Newest}
use Rattle.lists.specs.declared.memory.OrMemory.{OrMemory}
use Rattle.lists.specs.declared.memory.OrMemory.TheVariants as or
use Rattle.gleaner.specs.declared.gleaning.GleanFault.{GleanFault}
use Rattle.gleaner.specs.declared.gleaning.Gleaned.{Gleaned}
use Rattle.gleaner.specs.declared.gleaning.GleanFault.TheVariants as faults

-- no bytes count
abbrev pub none_counted : List ℕ → Bool
none_counted lengths = list_all (λ n. n == 0) lengths

-- the number of a worker's closed log file
abbrev pub bank_of : Bool → ℕ → ℕ
bank_of odd worker = if odd then 2 * worker + 1 else 2 * worker

-- ---- the closed log files

module _ {D : Type 0} (tells : D → Option (List ℕ)) where
  -- Buckets of a worker's closed log file: of its counted bytes, where it tells its bytes, and of lines of these
  -- storages in any case, with the entries above the newest snapshot's epoch, up to that at which it was closed.
  pub record IsMappedFile (closed : Closed) (decls : List Decl) (after worker : ℕ) (file : D)
      (buckets : List Bucket) : Type 0 where
    pub told : IfTold (tells file) (λ bytes. AreMapped (bank_of closed.odd worker) (get_or closed.lengths worker 0)
        decls after closed.epoch bytes buckets)
    pub bytes : List ℕ
    pub lines : AreMappedLines (bank_of closed.odd worker) decls after closed.epoch bytes buckets

  -- the buckets of the first so many workers' closed log files, one after another
  pub record AreMappedFiles (closed : Closed) (decls : List Decl) (after count : ℕ) (files : List D)
      (buckets : List Bucket) : Type 0 where
    pub parts : List (List Bucket)
    pub many : length parts ≡ count
    pub all : buckets ≡ flat_map (λ part. part) parts
    pub each : (worker : ℕ) (file : D) (part : List Bucket) → slice_get files worker ≡ Some file
        → slice_get parts worker ≡ Some part → IsMappedFile closed decls after worker file part

  -- A closed log file's counted bytes are no lines of these storages from this byte on, where it tells its bytes.
  abbrev pub IsDamagedOf : Closed → List Decl → List D → ℕ → Device → ℕ → Type 0
  IsDamagedOf closed decls files worker device at = (file : D) × (slice_get files worker ≡ Some file)
      × (device ≡ Bank (bank_of closed.odd worker))
      × IfTold (tells file) (λ bytes. IsDamaged (get_or closed.lengths worker 0) decls bytes at)

  -- and the files of the workers before it are whole lines
  pub record IsDamagedFile (closed : Closed) (decls : List Decl) (after : ℕ) (files : List D) (device : Device) (at : ℕ)
      : Type 0 where
    pub worker : ℕ
    pub damaged : IsDamagedOf closed decls files worker device at
    pub buckets : List Bucket
    pub before : AreMappedFiles closed decls after worker files buckets

-- a closed log file failed
abbrev pub FailedOf : {D : Type 0} → (D → ℕ) → Closed → List D → List D → ℕ → Device → Type 0
FailedOf {D} faults closed old new worker device = (was : D) × (is : D) × (slice_get old worker ≡ Some was)
    × (slice_get new worker ≡ Some is) × (device ≡ Bank (bank_of closed.odd worker)) × Rose (faults was) (faults is)

-- some one of them did
abbrev pub HasFailed : {D : Type 0} → (D → ℕ) → Closed → List D → List D → Device → Type 0
HasFailed faults closed old new device = (worker : ℕ) × FailedOf faults closed old new worker device

-- or the snapshots did
abbrev pub DeviceFailed : {D : Type 0} → (D → ℕ) → Closed → D → D → List D → List D → Device → Type 0
DeviceFailed faults closed snaps_old snaps_new old new Save = ⊥
DeviceFailed faults closed snaps_old snaps_new old new Snaps = Rose (faults snaps_old) (faults snaps_new)
DeviceFailed faults closed snaps_old snaps_new old new (Bank number) = HasFailed faults closed old new (Bank number)

-- the told device is a log file with a lower number than the one that failed beside it
abbrev pub IsLower : Device → Device → Type 0
IsLower (Bank number) (Bank beside) = number < beside
IsLower _ _ = ⊥

-- what is told where a log file failed beside it: a lower log file, or want of memory
abbrev pub IsToldBefore : Result Gleaned (OrMemory GleanFault) → Device → Type 0
IsToldBefore (Err (or.Fault (faults.Device device))) beside = IsLower device beside
IsToldBefore (Err (or.Fault (faults.Damaged device at))) beside = IsLower device beside
IsToldBefore (Err or.Memory) beside = ⊤
IsToldBefore _ beside = ⊥

-- a closed log file failed beside what is told
abbrev pub FailsBeside : {D : Type 0} → (D → ℕ) → Closed → List D → List D → Result Gleaned (OrMemory GleanFault) → Device
    → Type 0
FailsBeside count closed old new answer device = HasFailed count closed old new device × IsToldBefore answer device

-- reading a log file refuses nothing else
abbrev pub IsReadFault : GleanFault → Type 0
IsReadFault (faults.Device device) = ⊤
IsReadFault (faults.Damaged device at) = ⊤
IsReadFault _ = ⊥

-- ---- the new snapshot

-- The newest snapshot stands, and has these storages; the closed log files were closed at a later epoch.
pub record CanGlean (pages : List (List ℕ)) (decls : List Decl) (newest : Newest) (closed : Closed)
    (contents : Contents) : Type 0 where
  pub stands : SnapshotStands pages newest.page contents
  pub decls_are : decls ≡ decls_of contents
  pub epoch_is : newest.epoch ≡ contents.epoch
  pub later : contents.epoch < closed.epoch
  pub last : closed.epoch < last_epoch
  pub counted : AllByRecursion (λ n. n < 2 ^ 40) closed.lengths

-- the last entries of the buckets may be composed over the newest snapshot
pub record CanReduce (pages : List (List ℕ)) (newest : Newest) (buckets : List Bucket) (epoch : ℕ) (contents : Contents)
    : Type 0 where
  pub can : (run : List Entry) → AreLast (all_logged buckets) run → CanCompose pages newest.page contents run epoch

-- These pages are those of a snapshot of this epoch, whose content is the newest one's under the last entries of the
-- buckets; none of them stands too deep.
pub record Composes (pages : List (List ℕ)) (newest : Newest) (buckets : List Bucket) (epoch : ℕ)
    (made : List (List ℕ)) (new : ℕ) : Type 0 where
  pub run : List Entry
  pub last : AreLast (all_logged buckets) run
  pub contents : Contents
  pub can : CanCompose pages newest.page contents run epoch
  pub composed : IsComposed run epoch newest.page contents pages made
  pub count : length made ≡ new
  pub new_is : new ≡ new_count run contents pages
  pub levels : level_count run contents pages ≤ deepest

-- one of them would stand too deep
pub record ComposesDeep (pages : List (List ℕ)) (newest : Newest) (buckets : List Bucket) : Type 0 where
  pub run : List Entry
  pub last : AreLast (all_logged buckets) run
  pub contents : Contents
  pub here : CatalogueAt pages newest.page contents
  pub made : List (List ℕ)
  pub deep : IsTooDeep run contents pages made

-- they would be so many
pub record ComposesMany (pages : List (List ℕ)) (newest : Newest) (buckets : List Bucket) (epoch new : ℕ) : Type 0 where
  pub run : List Entry
  pub last : AreLast (all_logged buckets) run
  pub contents : Contents
  pub here : CatalogueAt pages newest.page contents
  pub would : WouldCompose run epoch newest.page contents pages new

module _ {D : Type 0} (tells : D → Option (List ℕ)) where
  -- So many pages were added, within what is let in: those of a snapshot of the epoch at which the log files were
  -- closed, whose content is the newest one's under the last entry of each key that their counted bytes have.
  pub record IsGleaned (pages : List (List ℕ)) (decls : List Decl) (newest : Newest) (closed : Closed) (files : List D)
      (now : List (List ℕ)) (new room : ℕ) : Type 0 where
    pub buckets : List Bucket
    pub mapped : AreMappedFiles tells closed decls newest.epoch 8 files buckets
    pub made : List (List ℕ)
    pub added : now ≡ pages ++ made
    pub composes : Composes pages newest buckets closed.epoch made new
    pub within : length pages + new ≤ room

  -- a page of it would stand below 32 others
  pub record WouldBeDeep (pages : List (List ℕ)) (decls : List Decl) (newest : Newest) (closed : Closed)
      (files : List D) : Type 0 where
    pub buckets : List Bucket
    pub mapped : AreMappedFiles tells closed decls newest.epoch 8 files buckets
    pub deep : ComposesDeep pages newest buckets

  -- it would have so many pages
  pub record WouldBeMany (pages : List (List ℕ)) (decls : List Decl) (newest : Newest) (closed : Closed)
      (files : List D) (new : ℕ) : Type 0 where
    pub buckets : List Bucket
    pub mapped : AreMappedFiles tells closed decls newest.epoch 8 files buckets
    pub many : ComposesMany pages newest buckets closed.epoch new
