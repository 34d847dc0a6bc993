-- What the vault keeps of a run: as the call returns, and where its devices stop.
use Rattle.std.specs.Prelude.{◌≡◌, ◌⊎◌, ◌+◌, ◌≤◌, ℕ, List, [], length, fold, flat_map, slice_get, Some}
use Rattle.std.specs.FinMap.{get}
use Rattle.std.specs.List.{Contains}
use Rattle.outside.specs.Disk.{Only}
use Rattle.log_writer.specs.declared.records.Tie.{Tie}
use Rattle.log_writer.specs.declared.vault.Vault.{Vault}
use Rattle.outside.specs.declared.device.Device.TheVariants.{Save}
use Rattle.log_writer.specs.Records.{AddsTies}
use Rattle.serial_model.specs.History.{Entry, as_of}
use Rattle.serial_model.specs.State.{State}
use Rattle.serial_model.specs.declared.decl.Decl.{Decl}
use Rattle.serial_model.specs.declared.key.Key.{Key}
use Rattle.script_grammar.specs.Script.{Bytes}
use Rattle.joint_crashes.specs.Images.{Images}
use Rattle.joint_crashes.specs.JointCrash.{parts_of, IsJointCrash, IsNow, IsSince, Moments}
use Rattle.recovery_core.specs.Recoverable.{IsReading, IsRecoverable, Reading}
use Rattle.joint_crashes.specs.Resting.{AreTold, IsResting, StopsNow}
use Rattle.joint_crashes.specs.VaultReads.{VaultOnlyReads}
use Rattle.tx_script.specs.Run.{Ran}
use Rattle.program_calls.specs.Beginning.{HasStorages, Opening}
use Rattle.program_calls.specs.RoundCauses.{saved_in}
use Rattle.program_calls.specs.Snapshots.{EachSnapshot}
use Rattle.program_calls.specs.Vaults.{NoneFailed, Vaults, vaults_of}
use Rattle.program_calls.specs.declared.ending.Ending.{Ending}
use Rattle.program_calls.specs.declared.ending.Ending.TheVariants.{Finished}

-- ---- as the call returns

-- the last epoch that these rounds saved, else the one that was saved before them
abbrev pub last_saved : ℕ → List Ran → ℕ
last_saved saved rans = fold (λ _ epoch. epoch) saved (flat_map saved_in rans)

-- The vault stands for the last epoch that was saved, and the state as of that epoch: from the state that it stood for
-- as the call began, after these commits up to that epoch.
abbrev pub StandsThrough : {D : Type 0} → Vaults D → List Decl → List Entry → List Ran → Type 0
StandsThrough v decls commits rans = (found now : Images) (epoch : ℕ) (state : State)
    → AreTold v.tells (parts_of v.was) found → AreTold v.tells (parts_of v.is) now → IsRecoverable found epoch state
    → IsRecoverable now (last_saved epoch rans) (as_of decls state commits (last_saved epoch rans))

-- The vault has the storages that were declared.
abbrev pub HasDeclared : {D : Type 0} → Vaults D → List Decl → Type 0
HasDeclared v decls = (found now : Images)
    → AreTold v.tells (parts_of v.was) found → AreTold v.tells (parts_of v.is) now → HasStorages now decls

-- no device failed, or all was done
abbrev pub IsSound : {D : Type 0} → Vaults D → Ending → Type 0
IsSound v ending = NoneFailed v ⊎ (ending ≡ Finished)

-- The snapshots that the vault has, beside those that it had and what it stood for as the call began: each above the
-- saved epoch is as these commits up to its epoch leave the state, each other one is as it was.
abbrev pub HasEachSnapshot : {D : Type 0} → Vaults D → List Decl → List Entry → Type 0
HasEachSnapshot v decls commits = (found now : Images) (epoch : ℕ) (state : State) (reading : Reading)
    → AreTold v.tells (parts_of v.was) found → AreTold v.tells (parts_of v.is) now
    → (before : IsRecoverable found epoch state) → IsReading now reading
    → EachSnapshot before.reading reading epoch state decls commits

-- The store of this sequence has ended, and from then on each stop leaves this epoch or a later one.
pub record IsCovered {D : Type 0} (v : Vaults D) (from : Moments) (sequence epoch : ℕ) : Type 0 where
  pub tie : Tie
  pub end : ℕ
  pub has : Contains v.is.ties.items tie
  pub of_store : tie.sequence ≡ sequence
  pub ended : tie.ended ≡ Some end
  pub covers : (at : Moments) (left : Images) (later : ℕ) (state : State) → IsSince from at
      → IsJointCrash v.clock v.image_at (parts_of v.is) at left → end ≤ at.save → IsRecoverable left later state
      → epoch ≤ later

-- The ties that are recorded behind these rounds are those of the call, one for each store that was begun: by the
-- settling, which made one at most and led to this sequence; by each save that the rounds tell; and one that failed, if
-- the save device failed in a round. Their sequences rise by one, so none is told twice.
pub record RecordsOf (sequence : ℕ) (rans : List Ran) (recorded : List Tie) : Type 0 where
  pub first : ℕ
  pub settling : ℕ
  pub failed : ℕ
  pub at_most : settling ≤ 1
  pub meets : first + settling ≡ sequence
  pub one : failed ≤ 1
  pub fails : failed ≡ 1 → (ran : Ran) × Contains rans ran × Contains ran.beside.devices Save
  pub ties : AddsTies first (settling + length (flat_map saved_in rans) + failed) [] recorded

-- What a stop of all devices leaves, whichever moments since these it meets, as their ties and cuts allow them
-- together: an epoch from this one on, and the state as of it, after the commits up to it. Each snapshot, beside those
-- that were read before, is as these commits up to its epoch leave the state. Behind rounds just the stores of the call
-- are recorded. Once the store of an epoch that was saved has ended, no stop leaves an earlier one; the first of these
-- stores has the sequence behind this one. A stop as the call returns is such a stop, where rounds were run, and else
-- where a stop was one as the call began. Where no device failed, and the save has one image as the call returns,
-- nothing that counts is pending: the next run may begin.
pub record StandsAtStops {D : Type 0} (v : Vaults D) (decls : List Decl) (commits : List Entry) (sequence : ℕ)
    (rans : List Ran) (from : Moments) (was : Reading) (epoch : ℕ) (state : State) : Type 0 where
  pub leaves : (at : Moments) (left : Images) → IsSince from at
      → IsJointCrash v.clock v.image_at (parts_of v.is) at left → (later : ℕ) × (epoch ≤ later)
      × IsRecoverable left later (as_of decls state commits later)
  pub snapshots : (at : Moments) (left : Images) (now : Reading) → IsSince from at
      → IsJointCrash v.clock v.image_at (parts_of v.is) at left → IsReading left now
      → EachSnapshot was now epoch state decls commits
  pub recorded : (rans ≡ [] → ⊥) → RecordsOf sequence rans v.is.ties.items
  pub covers : (i saved : ℕ) → slice_get (flat_map saved_in rans) i ≡ Some saved
      → IsCovered v from (sequence + 1 + i) saved
  pub instant : StopsNow v.clock v.image_at (parts_of v.was) ⊎ (rans ≡ [] → ⊥)
      → StopsNow v.clock v.image_at (parts_of v.is)
  pub rests : NoneFailed v → (file : Bytes) → v.image_at v.is.save (v.clock v.is.save) file
      → Only v.clock v.image_at v.is.save file → IsResting v.clock v.image_at (parts_of v.is)

-- So it is at each stop since the call began, where nothing that counts was pending then: whatever ended the call, also
-- where devices failed, memory was wanted, or the sink failed.
abbrev pub StandsWhenStopped : {D : Type 0} → Vaults D → List Decl → List Entry → Opening → List Ran → Type 0
StandsWhenStopped v decls commits opening rans = (found : Images) (from : Moments) (epoch : ℕ) (state : State)
    → AreTold v.tells (parts_of v.was) found → (before : IsRecoverable found epoch state)
    → IsResting v.clock v.image_at (parts_of v.was) → IsNow v.clock v.image_at (parts_of v.was) from
    → StandsAtStops v decls commits opening.sequence rans from before.reading epoch state

-- So it is too while the devices are only read from then on, up to any moment.
abbrev pub StandsThroughReads : {D : Type 0} → Vaults D → List Decl → List Entry → Opening → List Ran → Type 0
StandsThroughReads {D} v decls commits opening rans =
    (later : Vault D) → VaultOnlyReads v.tells v.clock v.image_at v.faults v.is later
    → StandsWhenStopped (vaults_of v.tells v.clock v.image_at v.faults v.was later) decls commits opening rans

-- What the vault keeps, where no device failed, and where all was done: then of all commits; and what it keeps where
-- the devices stop, at any moments of the call, and behind its rounds also of later reads.
pub record KeepsRun {D : Type 0} (v : Vaults D) (decls : List Decl) (commits : List Entry) (opening : Opening)
    (t : State) (rans : List Ran) (ending : Ending) : Type 0 where
  pub stands : IsSound v ending → StandsThrough v decls commits rans
  pub snapshots : IsSound v ending → HasEachSnapshot v decls commits
  pub declared : (rans ≡ [] → ⊥) → IsSound v ending → HasDeclared v decls
  pub whole : ending ≡ Finished
      → as_of decls opening.state commits (last_saved opening.saved rans) ≡ t
  pub stops : StandsWhenStopped v decls commits opening rans
  pub through_reads : (rans ≡ [] → ⊥) → StandsThroughReads v decls commits opening rans

-- ---- where the devices stop

-- As a call begins, nothing that counts is pending on its vault: these are the images that its devices tell, the
-- moments at which it begins, and the epoch and the state that the vault stands for.
pub record AtRest {D : Type 0} (v : Vaults D) : Type 0 where
  pub found : Images
  pub from : Moments
  pub epoch : ℕ
  pub state : State
  pub told : AreTold v.tells (parts_of v.was) found
  pub rests : IsResting v.clock v.image_at (parts_of v.was)
  pub kept : IsRecoverable found epoch state
  pub now : IsNow v.clock v.image_at (parts_of v.was) from

-- A stop of all devices, at moments since these, may leave these images, as the ties and cuts of the call allow it.
pub record MayLeave {D : Type 0} (v : Vaults D) (from at : Moments) (left : Images) : Type 0 where
  pub since : IsSince from at
  pub crash : IsJointCrash v.clock v.image_at (parts_of v.is) at left

-- The images stand for this epoch, and for the state as of it after these commits; and for nothing else.
pub record IsRunThrough (left : Images) (decls : List Decl) (state : State) (commits : List Entry) (epoch : ℕ)
    : Type 0 where
  pub is : IsRecoverable left epoch (as_of decls state commits epoch)
  pub alone : (other : ℕ) (s : State) → IsRecoverable left other s
      → (other ≡ epoch) × ((key : Key) → get s key ≡ get (as_of decls state commits epoch) key)
