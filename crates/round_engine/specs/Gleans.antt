-- What the gleans of a round find and leave.
use Rattle.std.specs.Prelude.{◌≡◌, ◌≢◌, ◌*◌, ◌≤◌, ◌<◌, ◌+◌, ◌^◌, ◌++◌, ◌||◌, ℕ, Bool, List, length, not, replicate}
use Rattle.std.specs.Prelude.{Option, Some, None, option_to_list, true}
use Rattle.std.specs.Prelude.{false, is_some, slice_get, OnErr, OnOk, Result, Ok, Err}
use Rattle.std.specs.List.{AllByRecursion, Contains}
use Rattle.lists.specs.declared.memory.OrMemory.{OrMemory}
use Rattle.lists.specs.declared.memory.OrMemory.TheVariants as or
use Rattle.outside.specs.Disk.{IfTold}
use Rattle.outside.specs.Faults.{Rose}
use Rattle.outside.specs.Fronts.{AllBegin}
use Rattle.outside.specs.Reads.{OnlyReads}
use Rattle.outside.specs.declared.device.Device.{Device}
use Rattle.outside.specs.declared.device.Device.TheVariants.{Bank, Snaps}
use Rattle.log_writer.specs.declared.vault.Vault.{Vault}
use Rattle.wire_form.specs.Pages.{Contents, decls_of}
use Rattle.wire_form.specs.declared.page.Page.{Page}
use Rattle.lists.specs.Fronts.{IsFront}
use Rattle.snapshot_store.specs.Content.{CatalogueAt, SnapshotStands, words_of}
use Rattle.snapshot_store.specs.Store.{bytes_of_pages, HoldsPages, IsWhole, KeepsFront, StoreState}
use Rattle.serial_model.specs.declared.decl.Decl.{Decl}
use Rattle.gleaner.specs.Glean.{bank_of, DeviceFailed, FailsBeside, IsDamagedFile, IsGleaned, IsToldBefore}
use Rattle.gleaner.specs.Glean.{none_counted}
use Rattle.gleaner.specs.Glean.{WouldBeDeep, WouldBeMany}
use Rattle.gleaner.specs.declared.closed.Closed.{Closed}
use Rattle.gleaner.specs.declared.closed.Newest.{Newest}
use Rattle.gleaner.specs.declared.gleaning.GleanFault.{GleanFault}
use Rattle.gleaner.specs.declared.gleaning.GleanFault.TheVariants as refusals
use Rattle.gleaner.specs.declared.gleaning.Gleaned.{Gleaned}
use Rattle.gleaner.specs.declared.gleaning.Gleaned.TheVariants.{Empty, Snap}
use Rattle.tx_script.specs.Causes.{some_counted}
use Rattle.tx_script.specs.declared.answer.Answer.{Answer}
use Rattle.tx_script.specs.declared.answer.Answer.TheVariants as answers
use Rattle.worker_logs.specs.Saves.{closed_number}
use Rattle.round_engine.specs.Sides.{closed_in, growing_in, is_odd}
use Rattle.round_engine.specs.Saves.{beside_at_end}
use Rattle.round_engine.specs.Standing.{beside_of, HasSnapshot, RuntimeState, Standing, StandsOn}

-- ---- what a glean goes by

-- the closed log files of a runtime
abbrev pub closed_of : RuntimeState → Closed
closed_of r = record { odd = not (is_odd r.side); lengths = r.counted; epoch = r.closed_at }

-- its newest snapshot, whose catalogue has these contents
abbrev pub newest_in : RuntimeState → Contents → Newest
newest_in r contents = record { page = length r.store.pages; epoch = contents.epoch }

-- the last page is the newest catalogue
pub record IsNewest (r : RuntimeState) (contents : Contents) : Type 0 where
  pub here : CatalogueAt (words_of r.store.pages) (length r.store.pages) contents

module _ {D : Type 0} (tells : D → Option (List ℕ)) where
  -- So many pages of a snapshot were added, of the epoch at which the log files were closed: it has the newest one's
  -- content under the last entry of each key that their counted bytes have. All pages are whole ones of words of 64
  -- bits.
  pub record AddsSnapshot (r : RuntimeState) (vault : Vault D) (now : StoreState) (new : ℕ) : Type 0 where
    pub contents : Contents
    pub newest : IsNewest r contents
    pub gleaned : IsGleaned tells (words_of r.store.pages) r.stands.decls (newest_in r contents) (closed_of r)
        (closed_in r.side vault) (words_of now.pages) new r.room
    pub whole : AllByRecursion IsWhole now.pages
    pub fit : AllByRecursion (AllByRecursion (λ w. w < 2 ^ 64)) (words_of now.pages)

  -- that snapshot would come to so many pages
  pub record ComesTo (r : RuntimeState) (vault : Vault D) (new : ℕ) : Type 0 where
    pub contents : Contents
    pub newest : IsNewest r contents
    pub many : WouldBeMany tells (words_of r.store.pages) r.stands.decls (newest_in r contents) (closed_of r)
        (closed_in r.side vault) new

  -- or a page of it would stand too deep
  pub record ComesTooDeep (r : RuntimeState) (vault : Vault D) : Type 0 where
    pub contents : Contents
    pub newest : IsNewest r contents
    pub deep : WouldBeDeep tells (words_of r.store.pages) r.stands.decls (newest_in r contents) (closed_of r)
        (closed_in r.side vault)

  -- A closed log file isn't in its format from this byte on, and those of the workers before it are.
  pub record FindsDamage (r : RuntimeState) (vault : Vault D) (device : Device) (at : ℕ) : Type 0 where
    pub contents : Contents
    pub newest : IsNewest r contents
    pub damaged : IsDamagedFile tells (closed_of r) r.stands.decls contents.epoch (closed_in r.side vault) device at

  -- what a glean found that the next snapshot comes to: so many pages, or none where one would stand too deep
  abbrev pub IsFound : RuntimeState → Vault D → Option ℕ → Type 0
  IsFound r vault (Some new) = ComesTo r vault new
  IsFound r vault None = ComesTooDeep r vault

-- ---- what it leaves

-- nothing of the runtime changed but its pages, which are published to the engine, and what counts of the closed log
-- files
pub record GleansAlone (old new : RuntimeState) : Type 0 where
  pub stands : new.stands ≡ record old.stands { pages = new.stands.pages }
  pub save : new.save ≡ old.save
  pub room : new.room ≡ old.room
  pub side : new.side ≡ old.side
  pub closed_at : new.closed_at ≡ old.closed_at
  pub logs : new.logs ≡ old.logs
  pub down : new.down ≡ old.down

module _ {D : Type 0} (tells : D → Option (List ℕ)) (clock : D → ℕ) (image_at : D → ℕ → List ℕ → Type 0)
    (faults : D → ℕ) where
  -- Whatever gleans answered: the closed log files were only read, no image lost what was durable of the pages, and the
  -- growing log files are as they were.
  pub record GleansOver (r : RuntimeState) (before now : Vault D) : Type 0 where
    pub growing : growing_in r.side now ≡ growing_in r.side before
    pub cuts : now.cuts.items ≡ before.cuts.items
    pub front : KeepsFront clock image_at (512 * length r.store.pages) before.snaps now.snaps
    pub told : is_some (tells now.snaps) ≡ is_some (tells before.snaps)
    pub many : length (closed_in r.side now) ≡ length (closed_in r.side before)
    pub reads : (worker : ℕ) (was is : D) → slice_get (closed_in r.side before) worker ≡ Some was
        → slice_get (closed_in r.side now) worker ≡ Some is → OnlyReads tells clock image_at faults was is

  -- No count of faults rose, but those of these devices.
  pub record GleansQuietly (r : RuntimeState) (failed : List Device) (before now : Vault D) : Type 0 where
    pub snaps : (Contains failed Snaps → ⊥) → faults now.snaps ≡ faults before.snaps
    pub files : (worker : ℕ) (was is : D) → slice_get (closed_in r.side before) worker ≡ Some was
        → slice_get (closed_in r.side now) worker ≡ Some is
        → (Contains failed (Bank (closed_number r.side worker)) → ⊥) → faults is ≡ faults was

  -- this device failed: that of the snapshots, or a closed log file
  abbrev pub FailsIn : RuntimeState → Device → Vault D → Vault D → Type 0
  FailsIn r Snaps before now = Rose (faults before.snaps) (faults now.snaps)
  FailsIn r device before now = (worker : ℕ) × (was : D) × (is : D) × (worker < 8)
      × (device ≡ Bank (closed_number r.side worker))
      × (slice_get (closed_in r.side before) worker ≡ Some was) × (slice_get (closed_in r.side now) worker ≡ Some is)
      × Rose (faults was) (faults is)

-- the pages, the snapshots and what counts are as they were
pub record AddsNothing {D : Type 0} (old new : RuntimeState) (before now : Vault D) : Type 0 where
  pub store : new.store ≡ old.store
  pub counted : new.counted ≡ old.counted
  pub snaps : now.snaps ≡ before.snaps

-- A snapshot was added: nothing of the closed log files counts any more, and each image begins with all pages.
pub record AddsPages {D : Type 0} (tells : D → Option (List ℕ)) (clock : D → ℕ) (image_at : D → ℕ → List ℕ → Type 0)
    (old new : RuntimeState) (before now : Vault D) (count : ℕ) : Type 0 where
  pub adds : AddsSnapshot tells old before new.store count
  pub found : ComesTo tells old before count
  pub counted : new.counted ≡ replicate 8 0
  pub sound : new.store.sound ≡ true
  pub holds : HoldsPages tells now.snaps new.store.pages
  pub durable : IfTold (tells before.snaps) (λ _.
      AllBegin (image_at now.snaps (clock now.snaps)) (bytes_of_pages new.store.pages))

-- which device a glean tells as failed
abbrev pub device_of_glean : Result Gleaned (OrMemory GleanFault) → Option Device
device_of_glean (Err (or.Fault (refusals.Device device))) = Some device
device_of_glean _ = None

-- and all that failed: the closed log file beside it, too
abbrev pub devices_of_glean : Result Gleaned (OrMemory GleanFault) → Option Device → List Device
devices_of_glean result beside = option_to_list (device_of_glean result) ++ option_to_list beside

-- the pages that the engine has behind a glean: those of the store, where a snapshot was made
abbrev pub pages_after : Result Gleaned (OrMemory GleanFault) → List (List ℕ) → List (List ℕ) → List (List ℕ)
pages_after (Ok (Snap epoch count)) pages made = made
pages_after _ pages made = pages

module _ {D : Type 0} (tells : D → Option (List ℕ)) (clock : D → ℕ) (image_at : D → ℕ → List ℕ → Type 0)
    (faults : D → ℕ) where
  -- What a glean answers where bytes of the closed log files count: a snapshot of the epoch at which they were closed;
  -- or why none was made, and then nothing was added. If the snapshots failed their store isn't sound any more.
  abbrev pub AnswersGlean : RuntimeState → RuntimeState → Vault D → Vault D → Result Gleaned (OrMemory GleanFault)
      → Type 0
  AnswersGlean old new before now (Ok Empty) = ⊥
  AnswersGlean old new before now (Ok (Snap epoch count)) = (epoch ≡ old.closed_at)
      × AddsPages tells clock image_at old new before now count
  AnswersGlean old new before now (Err (or.Fault (refusals.Device Snaps))) =
      Rose (faults before.snaps) (faults now.snaps) × (new.store.sound ≡ false) × (new.counted ≡ old.counted)
  AnswersGlean old new before now (Err (or.Fault (refusals.Device device))) =
      FailsIn tells clock image_at faults old device before now × AddsNothing old new before now
  AnswersGlean old new before now (Err (or.Fault (refusals.Damaged device at))) =
      FindsDamage tells old before device at × AddsNothing old new before now
  AnswersGlean old new before now (Err (or.Fault refusals.Deep)) =
      ComesTooDeep tells old before × AddsNothing old new before now
  AnswersGlean old new before now (Err (or.Fault (refusals.Limit have count room))) =
      (have ≡ length old.store.pages) × (room ≡ old.room) × (old.room < length old.store.pages + count)
      × ComesTo tells old before count × AddsNothing old new before now
  AnswersGlean old new before now (Err or.Memory) = AddsNothing old new before now

  -- A closed log file failed beside what is told: that of a lower one, or want of memory.
  pub record AlsoFails (r : RuntimeState) (before now : Vault D) (result : Result Gleaned (OrMemory GleanFault))
      (device : Device) : Type 0 where
    pub fails : FailsIn tells clock image_at faults r device before now
    pub later : IsToldBefore result device

  -- A glean: nothing is done exactly where no byte of the closed log files counts.
  pub record Gleans (old new : RuntimeState) (before now : Vault D) (result : Result Gleaned (OrMemory GleanFault))
      (beside : Option Device) : Type 0 where
    pub alone : GleansAlone old new
    pub sized : length (bytes_of_pages old.store.pages) ≤ 512 * length old.store.pages
    pub grows : (more : List Page) × (new.store.pages ≡ old.store.pages ++ more)
    pub pages : new.stands.pages ≡ pages_after result old.stands.pages (words_of new.store.pages)
    pub save : now.save ≡ before.save
    pub ties : now.ties ≡ before.ties
    pub cuts : now.cuts ≡ before.cuts
    pub over : GleansOver tells clock image_at faults old before now
    pub also : (device : Device) → beside ≡ Some device → AlsoFails old before now result device
    pub quietly : GleansQuietly tells clock image_at faults old (devices_of_glean result beside) before now
    pub none : some_counted old.counted ≡ false → (result ≡ Ok Empty) × AddsNothing old new before now
        × (closed_in old.side now ≡ closed_in old.side before)
    pub answers : some_counted old.counted ≡ true → AnswersGlean old new before now result

-- what counts of the closed log files behind it
abbrev pub counted_after : Result Gleaned (OrMemory GleanFault) → List ℕ → List ℕ
counted_after (Ok (Snap epoch count)) counted = replicate 8 0
counted_after _ counted = counted

-- a snapshot was made
abbrev pub has_made : Result Gleaned (OrMemory GleanFault) → Bool
has_made (Ok (Snap epoch count)) = true
has_made _ = false

-- Pages of a store may be published to an engine: those that it has are the first of them, the last one is the catalogue
-- of a snapshot that stands, over the engine's storages, and it has room for them.
pub record CanPublish (pages : List Page) (s : Standing) : Type 0 where
  pub front : IsFront s.pages (words_of pages)
  pub contents : Contents
  pub stands : SnapshotStands (words_of pages) (length pages) contents
  pub decls : decls_of contents ≡ s.decls
  pub room : length pages ≤ s.resident

-- a device that failed ends the run
abbrev pub ended_if : Bool → RuntimeState → RuntimeState
ended_if failed r = record r { stands = record r.stands { ended = r.stands.ended || failed }; down = r.down || failed }

-- A glean that is asked for by itself.
pub record GleansAsked {D : Type 0} (tells : D → Option (List ℕ)) (clock : D → ℕ) (image_at : D → ℕ → List ℕ → Type 0)
    (faults : D → ℕ) (old new : RuntimeState) (before now : Vault D) (result : Result Gleaned (OrMemory GleanFault))
    (beside : Option Device) : Type 0 where
  pub gleaned : RuntimeState
  pub gleans : Gleans tells clock image_at faults old gleaned before now result beside
  pub new_is : new ≡ ended_if (is_some (device_of_glean result) || is_some beside) gleaned
  pub stands : StandsOn tells clock image_at new now

-- What a glean over these log files, pages and snapshots left, as gleaner says it.
pub record GleansFiles {D : Type 0} (tells : D → Option (List ℕ)) (clock : D → ℕ) (image_at : D → ℕ → List ℕ → Type 0)
    (faults : D → ℕ) (decls : List Decl) (newest : Newest) (closed : Closed) (room : ℕ) (store_was store : StoreState)
    (snaps_was snaps : D) (files_was files : List D) (result : Result Gleaned (OrMemory GleanFault))
    (beside : Option Device) : Type 0 where
  pub none : none_counted closed.lengths ≡ true → (result ≡ Ok Empty) × (snaps ≡ snaps_was) × (files ≡ files_was)
      × (store ≡ store_was)
  pub some : none_counted closed.lengths ≡ false → result ≢ Ok Empty
  pub gleaned : (epoch new : ℕ) → result ≡ Ok (Snap epoch new) → (epoch ≡ closed.epoch)
      × IsGleaned tells (words_of store_was.pages) decls newest closed files_was (words_of store.pages) new room
  pub durable : OnOk result (IfTold (tells snaps_was) (λ _. none_counted closed.lengths ≢ true
      → AllBegin (image_at snaps (clock snaps)) (bytes_of_pages store.pages)))
  pub sound : OnOk result (store.sound ≡ true)
  pub holds : OnOk result (HoldsPages tells snaps store.pages)
  pub damaged : (device : Device) (at : ℕ) → result ≡ Err (or.Fault (refusals.Damaged device at))
      → IsDamagedFile tells closed decls newest.epoch files_was device at
  pub device : (device : Device) → result ≡ Err (or.Fault (refusals.Device device))
      → DeviceFailed faults closed snaps_was snaps files_was files device
  pub deep : result ≡ Err (or.Fault refusals.Deep)
      → WouldBeDeep tells (words_of store_was.pages) decls newest closed files_was
  pub limit : (have new most : ℕ) → result ≡ Err (or.Fault (refusals.Limit have new most))
      → (have ≡ length store_was.pages) × (most ≡ room) × (room < have + new)
      × WouldBeMany tells (words_of store_was.pages) decls newest closed files_was new
  pub kept : OnErr result (result ≢ Err (or.Fault (refusals.Device Snaps)) → (snaps ≡ snaps_was) × (store ≡ store_was))
  pub unsound : result ≡ Err (or.Fault (refusals.Device Snaps)) → store.sound ≡ false
  pub grows : (more : List Page) × (store.pages ≡ store_was.pages ++ more)
  pub front : KeepsFront clock image_at (512 * length store_was.pages) snaps_was snaps
  pub told : is_some (tells snaps) ≡ is_some (tells snaps_was)
  pub also : (device : Device) → beside ≡ Some device → FailsBeside faults closed files_was files result device
  pub quiet_snaps : result ≢ Err (or.Fault (refusals.Device Snaps)) → faults snaps ≡ faults snaps_was
  pub quiet_files : (worker : ℕ) (was is : D) → slice_get files_was worker ≡ Some was → slice_get files worker ≡ Some is
      → result ≢ Err (or.Fault (refusals.Device (Bank (bank_of closed.odd worker))))
      → beside ≢ Some (Bank (bank_of closed.odd worker)) → faults is ≡ faults was
  pub reads : (worker : ℕ) (was is : D) → slice_get files_was worker ≡ Some was → slice_get files worker ≡ Some is
      → OnlyReads tells clock image_at faults was is
  pub many : length files ≡ length files_was
  pub sized : length (bytes_of_pages store_was.pages) ≤ 512 * length store_was.pages
  pub whole : AllByRecursion IsWhole store.pages
  pub fit : AllByRecursion (AllByRecursion (λ w. w < 2 ^ 64)) (words_of store.pages)

-- ---- the gleans of a round

-- What gleans of a round found and made, that were answered so, from this runtime and vault on: each number of pages
-- that was found; of a snapshot that is told, its pages, and else, unless the snapshots failed, the pages as they were;
-- and the damage, just where it is told.
pub record RoundGleans {D : Type 0} (tells : D → Option (List ℕ)) (said : List Answer) (gleans : List (Option ℕ))
    (damaged : Option (Device × ℕ)) (old new : RuntimeState) (before now : Vault D) : Type 0 where
  pub told : is_some (tells now.snaps) ≡ is_some (tells before.snaps)
  pub found : (what : Option ℕ) → Contains gleans what → IsFound tells old before what
  pub made : (epoch count : ℕ) → Contains said (answers.Snap epoch count) → AddsSnapshot tells old before new.store
      count
  pub kept : ((epoch count : ℕ) → Contains said (answers.Snap epoch count) → ⊥) → new.store.sound ≡ true
      → (new.store ≡ old.store) × (now.snaps ≡ before.snaps)
  pub damage : (device : Device) (at : ℕ) → damaged ≡ Some (device, at) → FindsDamage tells old before device at
  pub undamaged : (Contains said answers.Damaged → ⊥) → damaged ≡ None
  pub many : new.store.sound ≡ true → length new.store.pages ≡ (beside_at_end (beside_of old) said).count

-- What gleans of a round leave besides, in which these devices failed: what counts of the closed log files, a
-- newest snapshot that stands, and the devices.
pub record LeaveGleans {D : Type 0} (tells : D → Option (List ℕ)) (clock : D → ℕ) (image_at : D → ℕ → List ℕ → Type 0)
    (faults : D → ℕ) (said : List Answer) (broken : List Device) (old new : RuntimeState) (before now : Vault D)
    : Type 0 where
  pub room : new.room ≡ old.room
  pub side : new.side ≡ old.side
  pub closed_at : new.closed_at ≡ old.closed_at
  pub counted : new.counted ≡ (beside_at_end (beside_of old) said).closed
  pub grows : (more : List Page) × (new.store.pages ≡ old.store.pages ++ more)
  pub sound : (Contains broken Snaps → ⊥) → old.store.sound ≡ true → new.store.sound ≡ true
  pub snapshot : (old.store.sound ≡ true → HasSnapshot tells old before.snaps) → new.store.sound ≡ true
      → HasSnapshot tells new now.snaps
  pub over : GleansOver tells clock image_at faults old before now
  pub quietly : GleansQuietly tells clock image_at faults old broken before now
  pub fails : (device : Device) → Contains broken device → FailsIn tells clock image_at faults old device before now
