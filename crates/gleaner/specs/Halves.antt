-- What each of two mappers makes and leaves of its half of the closed log files.
use Rattle.std.specs.Prelude.{◌≡◌, ◌≢◌, ◌≤◌, ◌<◌, ◌+◌, ◌^◌, ℕ, List, length, slice_get}
use Rattle.std.specs.Prelude.{flat_map, get_or, Option, Some, None, Result, Ok, Err, OnOk}
use Rattle.std.specs.List.{AllByRecursion}
use Rattle.lists.specs.declared.memory.OrMemory.{OrMemory}
use Rattle.lists.specs.declared.memory.OrMemory.TheVariants as or
use Rattle.outside.specs.Disk.{IfTold}
use Rattle.outside.specs.Faults.{Rose}
use Rattle.outside.specs.Reads.{OnlyReads}
use Rattle.outside.specs.declared.device.Device.{Device}
use Rattle.outside.specs.declared.device.Device.TheVariants.{Bank}
use Rattle.serial_model.specs.declared.decl.Decl.{Decl}
use Rattle.wire_form.specs.declared.bucket.Bucket.{Bucket}
use Rattle.log_mapper.specs.Mapped.{IsDamaged}
use Rattle.bucket_queues.specs.Threads.{fault_in}
use Rattle.gleaner.specs.Glean.{bank_of, FailsBeside, HasFailed, IsDamagedFile, IsMappedFile, IsReadFault}
use Rattle.gleaner.specs.declared.closed.Closed.{Closed}
use Rattle.gleaner.specs.declared.gleaning.GleanFault.{GleanFault}
use Rattle.gleaner.specs.declared.gleaning.GleanFault.TheVariants as faults

-- a half is that of the workers from 0 or from 4 on
pub record IsHalf {D : Type 0} (closed : Closed) (first : ℕ) (files : List D) : Type 0 where
  pub workers : first ≤ 4
  pub many : length files ≡ 4
  pub counted : AllByRecursion (λ n. n < 2 ^ 40) closed.lengths

module _ {D : Type 0} (tells : D → Option (List ℕ)) where
  -- the buckets of so many closed log files of the workers from this one on, one after another
  pub record AreMappedFrom (closed : Closed) (decls : List Decl) (after first count : ℕ) (files : List D)
      (buckets : List Bucket) : Type 0 where
    pub parts : List (List Bucket)
    pub many : length parts ≡ count
    pub all : buckets ≡ flat_map (λ part. part) parts
    pub each : (at : ℕ) (file : D) (part : List Bucket) → slice_get files at ≡ Some file → slice_get parts at ≡ Some part
        → IsMappedFile tells closed decls after (first + at) file part

  -- A closed log file of the half is out of its format from this byte on, and those before it are whole lines.
  pub record IsDamagedFrom (closed : Closed) (decls : List Decl) (after first : ℕ) (files : List D) (device : Device)
      (place : ℕ) : Type 0 where
    pub at : ℕ
    pub file : D
    pub there : slice_get files at ≡ Some file
    pub device_is : device ≡ Bank (bank_of closed.odd (first + at))
    pub damaged : IfTold (tells file) (λ bytes. IsDamaged (get_or closed.lengths (first + at) 0) decls bytes place)
    pub buckets : List Bucket
    pub before : AreMappedFrom closed decls after first at files buckets

-- a closed log file of the half failed
pub record HasFailedFrom {D : Type 0} (count : D → ℕ) (closed : Closed) (first : ℕ) (old new : List D) (device : Device)
    : Type 0 where
  pub at : ℕ
  pub was : D
  pub is : D
  pub there : slice_get old at ≡ Some was
  pub there_now : slice_get new at ≡ Some is
  pub device_is : device ≡ Bank (bank_of closed.odd (first + at))
  pub rose : Rose (count was) (count is)

-- Whatever a mapper answers, by its fault, if it is one: its log files were only read, and no count of faults rose but
-- that of the device that it tells.
pub record LeavesHalf {D : Type 0} (tells : D → Option (List ℕ)) (clock : D → ℕ) (image_at : D → ℕ → List ℕ → Type 0)
    (count : D → ℕ) (closed : Closed) (decls : List Decl) (after first : ℕ) (old new : List D) (fault : Option GleanFault)
    : Type 0 where
  pub many : length new ≡ length old
  pub reads : (at : ℕ) (was is : D) → slice_get old at ≡ Some was → slice_get new at ≡ Some is
      → OnlyReads tells clock image_at count was is
  pub quiet : (at : ℕ) (was is : D) → slice_get old at ≡ Some was → slice_get new at ≡ Some is
      → fault ≢ Some (faults.Device (Bank (bank_of closed.odd (first + at)))) → count is ≡ count was
  pub damaged : (device : Device) (place : ℕ) → fault ≡ Some (faults.Damaged device place)
      → IsDamagedFrom tells closed decls after first old device place
  pub device : (device : Device) → fault ≡ Some (faults.Device device) → HasFailedFrom count closed first old new device
  pub only : (f : GleanFault) → fault ≡ Some f → IsReadFault f

-- ---- both halves

-- the fault that is answered, or else want of memory
abbrev pub fault_or_memory : Result (Unit {0}) (OrMemory GleanFault) → OrMemory GleanFault
fault_or_memory (Err fault) = fault
fault_or_memory (Ok _) = or.Memory

-- the device that is answered as failed, if one is
abbrev pub failed_in : Result (Unit {0}) (OrMemory GleanFault) → Option Device
failed_in (Err (or.Fault (faults.Device device))) = Some device
failed_in _ = None

-- what is told of two mappers' answers: the lower one's, if it refused
abbrev pub told_of : Result (Unit {0}) (OrMemory GleanFault) → Result (Unit {0}) (OrMemory GleanFault) → OrMemory GleanFault
told_of (Err fault) high = fault
told_of (Ok _) high = fault_or_memory high

-- and which log file of the higher one's failed beside it
abbrev pub beside_of : Result (Unit {0}) (OrMemory GleanFault) → Result (Unit {0}) (OrMemory GleanFault) → Option Device
beside_of (Err fault) high = failed_in high
beside_of (Ok _) high = None

-- so two mappers answered of their halves
pub record RefusesHalves {D : Type 0} (tells : D → Option (List ℕ)) (clock : D → ℕ) (image_at : D → ℕ → List ℕ → Type 0)
    (count : D → ℕ) (closed : Closed) (decls : List Decl) (after : ℕ) (front_was front back_was back : List D)
    (fault : OrMemory GleanFault) (beside : Option Device) : Type 0 where
  pub low : Result (Unit {0}) (OrMemory GleanFault)
  pub high : Result (Unit {0}) (OrMemory GleanFault)
  pub fault_is : fault ≡ told_of low high
  pub beside_is : beside ≡ beside_of low high
  pub low_leaves : LeavesHalf tells clock image_at count closed decls after 0 front_was front (fault_in low)
  pub high_leaves : LeavesHalf tells clock image_at count closed decls after 4 back_was back (fault_in high)
  pub before : OnOk low ((buckets : List Bucket) × AreMappedFrom tells closed decls after 0 4 front_was buckets)

-- Why no run was made of the closed log files: the fault of the lowest of them that has one, and the one that failed
-- beside it, if one did. Those before a damaged one are whole lines. No other count of faults rose.
pub record RefusesFiles {D : Type 0} (tells : D → Option (List ℕ)) (count : D → ℕ) (closed : Closed) (decls : List Decl)
    (after : ℕ) (old new : List D) (fault : OrMemory GleanFault) (beside : Option Device) : Type 0 where
  pub damaged : (device : Device) (place : ℕ) → fault ≡ or.Fault (faults.Damaged device place)
      → IsDamagedFile tells closed decls after old device place
  pub device : (device : Device) → fault ≡ or.Fault (faults.Device device) → HasFailed count closed old new device
  pub only : (f : GleanFault) → fault ≡ or.Fault f → IsReadFault f
  pub beside_failed : (device : Device) → beside ≡ Some device → FailsBeside count closed old new (Err fault) device
  pub quiet : (worker : ℕ) (was is : D) → slice_get old worker ≡ Some was → slice_get new worker ≡ Some is
      → fault ≢ or.Fault (faults.Device (Bank (bank_of closed.odd worker)))
      → beside ≢ Some (Bank (bank_of closed.odd worker)) → count is ≡ count was
