-- What a call comes to that tells something of its vault: of what the devices stand for, of their snapshots, or of one
-- of these, told as text; or why this can't be told.
use Rattle.std.specs.Prelude.{◌≡◌, ◌≢◌, ◌⊎◌, ℕ, List, [], ◌∷◌, ◌++◌, Option, codes, decimal, flat_map, reverse, ⊤}
use Rattle.std.specs.List.{AllByRecursion, Contains}
use Rattle.std.specs.Io.KnownBytes.{Appends}
use Rattle.outside.specs.declared.device.Device.{Device}
use Rattle.outside.specs.declared.device.Device.TheVariants.{Snaps as SnapsDevice}
use Rattle.log_writer.specs.declared.vault.Vault.{Vault}
use Rattle.serial_model.specs.State.{State}
use Rattle.wire_form.specs.Pages.{Contents, decls_of}
use Rattle.snapshot_store.specs.Content.{RootStands}
use Rattle.recovery_core.specs.Catalogues.{marks_of, newest_decls}
use Rattle.recovery_core.specs.Damage.{FirstBad, IsDamagedIn, IsReadBefore}
use Rattle.joint_crashes.specs.Images.{Images, epoch_of}
use Rattle.joint_crashes.specs.JointCrash.{parts_of}
use Rattle.recovery_core.specs.Recoverable.{Reading, IsReading, IsStateOf}
use Rattle.recovery_core.specs.Recovered.{catalogue_of}
use Rattle.joint_crashes.specs.Resting.{AreTold}
use Rattle.recovery_core.specs.Snapshots.{RootBreaksAt}
use Rattle.joint_crashes.specs.VaultReads.{AreQuiet, RoseIn}
use Rattle.recovery_core.specs.declared.chain.SnapshotMark.{SnapshotMark}
use Rattle.script_grammar.specs.Script.{Bytes}
use Rattle.tx_script.specs.StateText.{state_text}
use Rattle.command_line.specs.declared.command.Command.{Command}
use Rattle.command_line.specs.declared.command.Command.TheVariants.{Dump, Snaps, Snap}
use Rattle.program_calls.specs.declared.ending.Ending.{Ending}
use Rattle.program_calls.specs.declared.ending.Ending.TheVariants.{Finished, NoDevice, Damaged, NoMemory, NoSnapshot}
use Rattle.program_calls.specs.Ending.{damaged_text, last_line, no_snapshot_text, status_of}
use Rattle.program_calls.specs.Snapshots.{HasContent}

-- These commands tell something of the vault.
abbrev pub IsListing : Command → Type 0
IsListing Dump = ⊤
IsListing Snaps = ⊤
IsListing (Snap epoch) = ⊤
IsListing _ = ⊥

-- ---- what there is to tell

-- the epochs of the snapshots, and the pages of their catalogues, the oldest first
abbrev pub snapshots_in : Reading → List SnapshotMark
snapshots_in reading = reverse (marks_of (catalogue_of reading.point) reading.catalogues)

-- the line of a snapshot
abbrev pub snapshot_line : SnapshotMark → Bytes
snapshot_line mark = codes "snap " ++ decimal mark.epoch ++ codes " at " ++ decimal mark.page ++ 10 ∷ []

-- a line for each snapshot
abbrev pub snapshots_text : List SnapshotMark → Bytes
snapshots_text marks = flat_map snapshot_line marks

-- this is the catalogue of a snapshot of this epoch
pub record IsOfEpoch (reading : Reading) (epoch : ℕ) (catalogue : Contents) : Type 0 where
  pub has : Contains reading.catalogues catalogue
  pub epoch_is : catalogue.epoch ≡ epoch

-- no snapshot is of this epoch
abbrev pub HasNone : Reading → ℕ → Type 0
HasNone reading epoch = (catalogue : Contents) → IsOfEpoch reading epoch catalogue → ⊥

-- The snapshot of this epoch has this state.
pub record IsSnapshotOf (reading : Reading) (epoch : ℕ) (state : State) : Type 0 where
  pub catalogue : Contents
  pub is : IsOfEpoch reading epoch catalogue
  pub content : HasContent reading catalogue state

-- What a command tells of devices that say this: of what they stand for the epoch and the state; of the snapshots a
-- line each; of the snapshot of an epoch the epoch and the state.
abbrev pub Lists : Command → Reading → Bytes → Type 0
Lists Dump reading text = (state : State) × IsStateOf reading state
    × (text ≡ state_text (epoch_of reading.point) (newest_decls reading.catalogues) state)
Lists Snaps reading text = text ≡ snapshots_text (snapshots_in reading)
Lists (Snap epoch) reading text = (state : State) × (snapshot : IsSnapshotOf reading epoch state)
    × (text ≡ state_text epoch (decls_of snapshot.catalogue) state)
Lists _ reading text = ⊥

-- ---- damage

-- Of the pages that the roots of the snapshot of this epoch lead to the first one that isn't right begins at this byte.
pub record BreaksAtEpoch (reading : Reading) (epoch at : ℕ) : Type 0 where
  pub catalogue : Contents
  pub is : IsOfEpoch reading epoch catalogue
  pub first : FirstBad (RootStands reading.pages) (RootBreaksAt reading.pages at) catalogue.storages

-- The devices say something, and their snapshot of this epoch breaks at this byte.
abbrev pub HasBroken : Images → ℕ → ℕ → Type 0
HasBroken found epoch at = (reading : Reading) × IsReading found reading × BreaksAtEpoch reading epoch at

-- What a command has to read of the devices isn't in its format, from this byte of this device on: what is read of any
-- vault; or else, for one snapshot, the pages of that one.
abbrev pub IsDamagedFor : Command → Images → Device → ℕ → Type 0
IsDamagedFor (Snap epoch) found SnapsDevice at = IsDamagedIn found SnapsDevice at ⊎ HasBroken found epoch at
IsDamagedFor command found device at = IsDamagedIn found device at

-- ---- what is told of devices that tell their bytes

-- the text is what the command tells of what they say
abbrev pub TellsListing : {D : Type 0} → Command → (D → Option Bytes) → Vault D → Bytes → Type 0
TellsListing command tells vault text = (found : Images) → AreTold tells (parts_of vault) found
    → (reading : Reading) × IsReading found reading × Lists command reading text

-- they say something, and no snapshot is of this epoch
abbrev pub TellsNone : {D : Type 0} → (D → Option Bytes) → Vault D → ℕ → Type 0
TellsNone tells vault epoch = (found : Images) → AreTold tells (parts_of vault) found
    → (reading : Reading) × IsReading found reading × HasNone reading epoch

-- what the command has to read isn't in its format
abbrev pub TellsDamage : {D : Type 0} → Command → (D → Option Bytes) → Vault D → Device → ℕ → Type 0
TellsDamage command tells vault device at =
    (found : Images) → AreTold tells (parts_of vault) found → IsDamagedFor command found device at

-- what is read before this device is in its format
abbrev pub TellsBefore : {D : Type 0} → (D → Option Bytes) → Vault D → Device → Type 0
TellsBefore tells vault device =
    (found : Images) → AreTold tells (parts_of vault) found → IsReadBefore found device

-- ---- how such a call ends

-- How it may end, and what it prints before its last line: its text, where no device failed; that no snapshot is of the
-- epoch that it names; damage; the fault of a device, whose count rose, with what is read before it in its format; and
-- memory may be wanted at any time.
abbrev pub ListingComes : {D : Type 0} → Command → (D → Option Bytes) → (D → ℕ) → Vault D → Vault D → Bytes → Ending
    → Type 0
ListingComes command tells faults was is text Finished = AreQuiet faults was is × TellsListing command tells was text
ListingComes command tells faults was is text (NoSnapshot epoch) =
    (text ≡ []) × (command ≡ Snap epoch) × AreQuiet faults was is × TellsNone tells was epoch
ListingComes command tells faults was is text (Damaged device at) =
    (text ≡ []) × TellsDamage command tells was device at
ListingComes command tells faults was is text (NoDevice device) =
    (text ≡ []) × RoseIn faults device was is × TellsBefore tells was device
ListingComes command tells faults was is text NoMemory = text ≡ []
ListingComes command tells faults was is text _ = ⊥

-- The command came to an ending that may come so, with its text; and this is shown of both.
pub record Listed {D : Type 0} (command : Command) (tells : D → Option Bytes) (faults : D → ℕ) (was is : Vault D)
    (Shows : Bytes → Ending → Type 0) : Type 0 where
  pub text : Bytes
  pub ending : Ending
  pub comes : ListingComes command tells faults was is text ending
  pub shown : Shows text ending

-- ---- where nothing fails

-- Neither the sink nor a device failed, and memory was there.
pub record IsUndisturbed (status : ℕ) : Type 0 where
  pub sink : status ≢ 4
  pub device : status ≢ 5
  pub memory : status ≢ 8

-- What the call tells of devices that have these bytes: status 0 with what the command tells of what they say, 9 where
-- it names an epoch of which no snapshot is, or 6 with where they are damaged.
pub record TellsAll (command : Command) (found : Images) (held holds : Option Bytes) (status : ℕ) : Type 0 where
  pub told : (reading : Reading) (text : Bytes) → IsReading found reading → Lists command reading text
      → (status ≡ 0) × Appends held holds text
  pub none : (epoch : ℕ) (reading : Reading) → command ≡ Snap epoch → IsReading found reading → HasNone reading epoch
      → (status ≡ 9) × Appends held holds (no_snapshot_text epoch)
  pub damaged : (device : Device) (at : ℕ) → IsDamagedFor command found device at
      → (status ≡ 6) × Appends held holds (damaged_text device at)
