-- What a round leaves of the crashes of all devices. Each joint crash of moments since some moments finds a savepoint
-- that it could find as the round began, or one that was stored in it, with all that it counts; a stop as it returns is
-- a joint crash, and none is lost.
use Rattle.std.specs.Prelude.{◌≡◌, ◌<◌, ◌≤◌, ◌+◌, ◌++◌, ℕ, List, Option, None, Some, is_some, length}
use Rattle.std.specs.Prelude.{map, slice_get, take, true}
use Rattle.std.specs.List.{AllByRecursion}
use Rattle.lists.specs.Fronts.{IsFront}
use Rattle.outside.specs.Fronts.{AllBegin}
use Rattle.log_writer.specs.Vault.{disk_in}
use Rattle.outside.specs.declared.device.Device.TheVariants.{Bank}
use Rattle.log_writer.specs.declared.vault.Vault.{Vault}
use Rattle.serial_model.specs.declared.number.Commit.{Commit}
use Rattle.wire_form.specs.LogFile.{lines_bytes}
use Rattle.wire_form.specs.declared.clock.Mark.{Mark}
use Rattle.log_writer.specs.Points.{point_of, sequence_of}
use Rattle.log_writer.specs.declared.saved.Saved.{Saved}
use Rattle.snapshot_store.specs.Store.{bytes_of_pages, StoreState}
use Rattle.worker_logs.specs.Saves.{CountsOf, closed_number, growing_number}
use Rattle.worker_logs.specs.Rows.{NeverFall}
use Rattle.worker_logs.specs.Shown.{IsShownSince, Stood}
use Rattle.worker_logs.specs.declared.savepoints.Side.{Side}
use Rattle.shared_rounds.specs.Shares.{shown_epochs}
use Rattle.joint_crashes.specs.Causal.{AreSince, Since}
use Rattle.joint_crashes.specs.Images.{Images, counted_of, epoch_of}
use Rattle.joint_crashes.specs.JointCrash.{CrashesNow, HasCut, IsJointCrash, IsSince, KeepsCrashes, Moments, Parts}
use Rattle.joint_crashes.specs.JointCrash.{parts_of}
use Rattle.joint_crashes.specs.Story.{BankOpen, BankReady, IsTold, StandsFor, Story}
use Rattle.tx_script.specs.Run.{Ran}
use Rattle.round_engine.specs.Ends.{comes_to_swap, swaps}
use Rattle.round_engine.specs.Logs.{AreClosedFiles, AreLogs, IsFirstAt}
use Rattle.round_engine.specs.Saves.{GoesOnWith}
use Rattle.round_engine.specs.Standing.{RuntimeState}
use Rattle.round_engine.specs.Swaps.{behind_swap, since_swap}

-- up to a sequence the one story is the other
pub record IsSameUpTo (last : ℕ) (story after : Story) : Type 0 where
  pub point : (k : ℕ) → k ≤ last → after.point k ≡ story.point k
  pub pages : (k : ℕ) → k ≤ last → after.pages k ≡ story.pages k
  pub counted : (k n : ℕ) → k ≤ last → after.counted k n ≡ story.counted k n

-- the bytes of so many of these pages
abbrev pub front_of : StoreState → ℕ → List ℕ
front_of store n = bytes_of_pages (take n store.pages)

module _ {D : Type 0} (clock : D → ℕ) (image_at : D → ℕ → List ℕ → Type 0) where
  -- A closed log file since its last cut: these bytes became durable of it; no more than they are alike in all images
  -- of a moment.
  pub record BankShut (counted : ℕ → List ℕ) (from low high : ℕ) (bank : D) (IsCut : ℕ → ℕ → Type 0)
      (made : List ℕ) : Type 0 where
    pub past : (began after : ℕ) → IsCut began after → began < clock bank
    pub now : AllBegin (image_at bank (clock bank)) made
    pub agrees : (m : ℕ) → from ≤ m → m ≤ clock bank → ((began after : ℕ) → IsCut began after → began < m)
        → (c : List ℕ) → image_at bank m c → (front : List ℕ) → length front ≤ length made
        → AllBegin (image_at bank m) front → IsFront front made
    pub counts : (k : ℕ) → low ≤ k → k ≤ high → ((began after : ℕ) → IsCut began after → after ≤ k)
        → IsFront (counted k) made

  -- Each cut of a log file was begun by now, and a stop now that finds a savepoint, from the newest of these cuts on,
  -- finds what it counts of the log file. So it is after reads too.
  pub record StaysReady (story : Story) (low high : ℕ) (parts : Parts D) : Type 0 where
    pub come : (n : ℕ) (bank : D) → parts.banks n ≡ Some bank → (began after : ℕ)
        → HasCut parts.cuts (Bank n) began after → began ≤ clock bank
    pub ready : (n : ℕ) (bank : D) → parts.banks n ≡ Some bank → (k : ℕ) → low ≤ k → k ≤ high
        → ((began after : ℕ) → HasCut parts.cuts (Bank n) began after → after ≤ k)
        → BankReady clock image_at (λ j. story.counted j n) k bank (HasCut parts.cuts (Bank n))

module _ {D : Type 0} (tells : D → Option (List ℕ)) (clock : D → ℕ) (image_at : D → ℕ → List ℕ → Type 0) where
  -- What is known as a runtime stands on its vault, since some moments: each joint crash finds one of the savepoints of
  -- these sequences, up to its newest; these bytes are durable of the growing and of the closed log files since their
  -- last cuts, which are the lines of these commits; and the pages are durable.
  pub record KnowsBefore (story : Story) (from : Moments) (low : ℕ) (commits gone : ℕ → List Commit)
      (durable closed : ℕ → List ℕ) (r : RuntimeState) (vault : Vault D) : Type 0 where
    pub told : IsTold clock image_at story from low (sequence_of r.save.newest) (parts_of vault)
    pub growing : (w : ℕ) (bank : D) → w < 8 → disk_in vault (Bank (growing_number r.side w)) ≡ Some bank
        → BankOpen clock image_at (λ k. story.counted k (growing_number r.side w))
        (from.bank (growing_number r.side w)) low (sequence_of r.save.newest) bank
        (HasCut vault.cuts.items (Bank (growing_number r.side w))) (durable w)
    pub shut : (w : ℕ) (bank : D) → w < 8 → disk_in vault (Bank (closed_number r.side w)) ≡ Some bank
        → BankShut clock image_at (λ k. story.counted k (closed_number r.side w))
        (from.bank (closed_number r.side w)) low (sequence_of r.save.newest) bank
        (HasCut vault.cuts.items (Bank (closed_number r.side w))) (closed w)
    pub newest_is : story.point (sequence_of r.save.newest) ≡ r.save.newest
    pub tells_save : is_some (tells vault.save) ≡ true
    pub tells_snaps : is_some (tells vault.snaps) ≡ true
    pub logs : AreLogs tells clock image_at commits durable r vault
    pub files : AreClosedFiles tells clock image_at gone closed r vault
    pub pages : (k : ℕ) → low ≤ k → k ≤ sequence_of r.save.newest
        → IsFront (story.pages k) (bytes_of_pages r.store.pages)
    pub pages_durable : AllBegin (image_at vault.snaps (clock vault.snaps)) (bytes_of_pages r.store.pages)

  -- What a round leaves of the moments of marks that were known. What its saves stored, one after another behind the
  -- newest savepoint of before, is counted from the moments of the marks on that they saw: of each worker that at the
  -- place that is told among those that its log showed. Of the growing log files each savepoint counts just what that
  -- mark does; where no places are told, as of the join's save, it counts from the round's end on. The closed log files
  -- are counted from the begin on.
  pub record LeavesSince (story : Story) (from : Moments) (low last count : ℕ) (known : Since) (shown : ℕ → List Stood)
      (side : Side) (ran : Ran) (before now : Vault D) : Type 0 where
    pub since : Since
    pub same : (k n : ℕ) → k ≤ last → since k n ≡ known k n
    pub stood : AreSince clock image_at story since from low (last + count) (parts_of now)
    pub marked : (k w place : ℕ) (places : List ℕ) (m : Stood) → k < count
        → slice_get ran.beside.seen k ≡ Some places → slice_get places w ≡ Some place
        → slice_get (shown w) place ≡ Some m
        → (since (last + 1 + k) (growing_number side w) ≡ m.since)
        × (counted_of (story.point (last + 1 + k)) (growing_number side w) ≡ m.mark.length)
    pub behind : (k w : ℕ) (bank : D) → slice_get ran.beside.seen k ≡ None
        → disk_in now (Bank (growing_number side w)) ≡ Some bank
        → since (last + 1 + k) (growing_number side w) ≡ clock bank
    pub shut : (k w : ℕ) (bank : D) → disk_in before (Bank (closed_number side w)) ≡ Some bank
        → since (last + 1 + k) (closed_number side w) ≡ clock bank

  -- What a round leaves of that, which logged so many commits more, and began to store these savepoints, one after
  -- another.
  pub record LeavesCrashes (story : Story) (from : Moments) (low : ℕ) (commits more gone : ℕ → List Commit)
      (was closed : ℕ → List ℕ) (begun : List Saved) (ran : Ran) (old new : RuntimeState) (before now : Vault D)
      : Type 0 where
    pub after : Story
    pub durable : ℕ → List ℕ
    pub same : IsSameUpTo (sequence_of old.save.newest) story after
    pub goes_on : GoesOnWith after old.save.newest (front_of new.store) begun
    pub rise : NeverFall (epoch_of old.save.newest) (map (λ (s : Saved). s.epoch) begun)
    pub told : IsTold clock image_at after from low (sequence_of old.save.newest + length begun) (parts_of now)
    pub stays : StaysReady clock image_at after low (sequence_of old.save.newest + length begun) (parts_of now)
    pub instant : CrashesNow clock image_at (parts_of now)
    pub keeps : KeepsCrashes clock image_at from (parts_of before) (parts_of now)
    -- What each of them counts are whole lines, behind which no commit has an epoch up to its own; it is durable, as
    -- are no other lines than those of these commits.
    pub counts : (k : ℕ) (saved : Saved) → slice_get begun k ≡ Some saved
        → CountsOf old.side (λ w. commits w ++ more w) gone durable closed
        (Some (point_of (sequence_of old.save.newest + 1 + k) saved))
    pub begins : (w : ℕ) → w < 8 → IsFront (durable w) (lines_bytes (commits w ++ more w))
    pub fronts : (k w : ℕ) → sequence_of old.save.newest < k → k ≤ sequence_of old.save.newest + length begun → w < 8
        → IsFront (after.counted k (growing_number old.side w)) (durable w)
        × IsFront (after.counted k (closed_number old.side w)) (closed w)
    -- The moments of marks go on, whatever was known of them. Others were shown these marks of the workers, of the
    -- epochs that are told: each is one that its log had, and since its moment every image of the log file begins with
    -- what it counts; at the moment itself no image has more of what is durable, unless it is the round's begin.
    pub marks : ℕ → List Mark
    pub shown : ℕ → List Stood
    pub shown_are : (w : ℕ) (epochs : List (Option ℕ)) → slice_get ran.beside.marks w ≡ Some epochs
        → shown_epochs (shown w) ≡ epochs
    pub moments : (w : ℕ) (bank_was bank : D) → w < 8
        → disk_in before (Bank (growing_number old.side w)) ≡ Some bank_was
        → disk_in now (Bank (growing_number old.side w)) ≡ Some bank → IsFirstAt (clock bank_was) (shown w)
        × AllByRecursion (IsShownSince clock image_at (durable w) (clock bank_was) bank (marks w)) (shown w)
    pub since : (known : Since)
        → AreSince clock image_at story known from low (sequence_of old.save.newest) (parts_of before)
        → LeavesSince after from low (sequence_of old.save.newest) (length begun) known shown old.side ran before
        now
    -- From its return on each of them stands for the epoch that was made durable, or for a later one.
    pub covers : (epoch : ℕ) → ran.printed.durable ≡ Some epoch → (at : Moments) (left : Images) → IsSince from at
        → IsJointCrash clock image_at (parts_of now) at left → clock now.save ≤ at.save
        → (k : ℕ) × StandsFor clock image_at after (parts_of now) left k × (epoch ≤ epoch_of (after.point k))
    -- So it is known as the next round begins, unless a store, a sync of pages or a cut of the swap failed.
    pub next : sequence_of new.save.newest ≡ sequence_of old.save.newest + length begun → new.store.sound ≡ true
        → (comes_to_swap ran ≡ true → swaps ran ≡ true)
        → KnowsBefore after from low (since_swap (swaps ran) (λ w. commits w ++ more w))
        (behind_swap (swaps ran) (λ w. commits w ++ more w) gone) (since_swap (swaps ran) durable)
        (behind_swap (swaps ran) durable closed) new now

  -- A round leaves that of whatever was known.
  abbrev pub CarriesCrashes : (ℕ → List Commit) → List Saved → Ran → RuntimeState → RuntimeState → Vault D → Vault D
      → Type 0
  CarriesCrashes more begun ran old new before now = (story : Story) (from : Moments) (low : ℕ)
      (commits gone : ℕ → List Commit) (was closed : ℕ → List ℕ)
      → KnowsBefore story from low commits gone was closed old before
      → LeavesCrashes story from low commits more gone was closed begun ran old new before now
