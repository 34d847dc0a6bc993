-- Where a run begins, and what must stand before its first round.
use Rattle.std.specs.Prelude.{◌≡◌, ◌↔◌, ◌⊎◌, ◌+◌, ◌<◌, ◌≤◌, ℕ, List, map, Option, Some, None, IfSome, IsSome, ⊤}
use Rattle.std.specs.List.{Contains}
use Rattle.std.specs.List.Sorted.{IsNonDecreasingBy, IsPermutation}
use Rattle.std.specs.Option.{option_map}
use Rattle.serial_model.specs.Keys.{IsKeyBelow, id_of}
use Rattle.serial_model.specs.State.{State}
use Rattle.serial_model.specs.declared.decl.Decl.{Decl}
use Rattle.serial_model.specs.declared.key.Key.{Key}
use Rattle.wire_form.specs.Items.{Rises}
use Rattle.wire_form.specs.Pages.{Contents}
use Rattle.wire_form.specs.declared.bucket.Entry.{Entry}
use Rattle.wire_form.specs.declared.savepoint.Savepoint.{Savepoint}
use Rattle.log_writer.specs.Points.{saved_of, sequence_of}
use Rattle.snapshot_store.specs.Content.{CatalogueAt, deepest}
use Rattle.root_composer.specs.Composition.{IsTooDeep, WouldCompose, level_count, new_count}
use Rattle.recovery_core.specs.Catalogues.{newest_decls}
use Rattle.joint_crashes.specs.Images.{Images, count_of, epoch_of}
use Rattle.recovery_core.specs.LogEntries.{last_of}
use Rattle.recovery_core.specs.Recoverable.{IsReading, IsStateOf, Reading, counting}
use Rattle.checkpoints.specs.Settled.{stores_due}
use Rattle.tx_script.specs.Causes.{last_sequence}
use Rattle.round_engine.specs.declared.report.LimitName.{LimitName}
use Rattle.round_engine.specs.declared.report.LimitName.TheVariants.{Snap, Height, Sequence}
use Rattle.program_calls.specs.Vaults.{HoldsOf, Vaults}

-- Where a run begins: the state as of the epoch that was saved, and the sequence of the newest savepoint.
pub record Opening : Type 0 where
  pub state : State
  pub saved : ℕ
  pub sequence : ℕ

-- the same storages, in any order
abbrev pub SameDecls : List Decl → List Decl → Type 0
SameDecls decls others = (decl : Decl) → Contains decls decl ↔ Contains others decl

-- so many savepoints are due without a new snapshot: the first one of all, or one that counts nothing of the log files,
-- where the newest counts something
abbrev pub stored_first : Option Savepoint → ℕ
stored_first point = stores_due (option_map saved_of point)

-- The devices say something, and they are fresh or have the storages that are declared.
pub record HasStorages (found : Images) (decls : List Decl) : Type 0 where
  pub reading : Reading
  pub is : IsReading found reading
  pub same : IfSome reading.point (λ _. SameDecls decls (newest_decls reading.catalogues))

-- the log files have no entry that counts
abbrev pub HasNoEntries : Reading → Type 0
HasNoEntries reading = (key : Key) → last_of key (counting reading) ≡ None

-- The last entries that count, one for each key, in the order of the keys.
pub record AreLast (reading : Reading) (run : List Entry) : Type 0 where
  pub rising : Rises IsKeyBelow (map (λ (e : Entry). e.key) run)
  pub each : (e : Entry) → Contains run e → last_of e.key (counting reading) ≡ Some e
  pub all : (key : Key) (e : Entry) → last_of key (counting reading) ≡ Some e → Contains run e

-- Log entries count above the newest snapshot, whose catalogue says this: a new one is due, with the last of them.
pub record IsSnapshotDue (reading : Reading) (point : Savepoint) (run : List Entry) (contents : Contents) : Type 0 where
  pub point_is : reading.point ≡ Some point
  pub some : HasNoEntries reading → ⊥
  pub last : AreLast reading run
  pub here : CatalogueAt reading.pages point.catalogue contents

-- a new snapshot is due whose pages are within what is let in, and none of them stands too deep
pub record FitsIn (snap : ℕ) (reading : Reading) : Type 0 where
  pub point : Savepoint
  pub run : List Entry
  pub contents : Contents
  pub due : IsSnapshotDue reading point run contents
  pub levels : level_count run contents reading.pages ≤ deepest
  pub pages : point.count + new_count run contents reading.pages ≤ snap

-- a new snapshot is due of which a page would stand below 32 others
pub record IsDeep (reading : Reading) : Type 0 where
  pub point : Savepoint
  pub run : List Entry
  pub contents : Contents
  pub due : IsSnapshotDue reading point run contents
  pub made : List (List ℕ)
  pub deep : IsTooDeep run contents reading.pages made

-- a new snapshot is due of which none would, and its pages with those that count are more than are let in
pub record IsTooMany (snap : ℕ) (reading : Reading) : Type 0 where
  pub point : Savepoint
  pub run : List Entry
  pub contents : Contents
  pub due : IsSnapshotDue reading point run contents
  pub new : ℕ
  pub would : WouldCompose run point.epoch point.catalogue contents reading.pages new
  pub more : snap < point.count + new

-- the pages are within what is let in: those that count, or with them those of a new snapshot that is due
abbrev pub HasRoom : ℕ → Reading → Type 0
HasRoom snap reading = (HasNoEntries reading × (count_of reading.point ≤ snap)) ⊎ FitsIn snap reading

-- so many savepoints are stored before the first round: one that names a new snapshot, or what is due without one
abbrev pub StoresFirst : Reading → ℕ → Type 0
StoresFirst reading stored = (HasNoEntries reading × (stored ≡ stored_first reading.point))
    ⊎ ((HasNoEntries reading → ⊥) × (stored ≡ 1))

-- The reading lets a run begin: there is room for the pages, and where a savepoint is due a sequence is left for it.
pub record IsClear (snap : ℕ) (reading : Reading) : Type 0 where
  pub room : HasRoom snap reading
  pub sequence : StoresFirst reading 1 → sequence_of reading.point ≡ last_sequence → ⊥

-- the newest savepoint's sequence as the first round begins
abbrev pub BeginsAfter : Reading → ℕ → Type 0
BeginsAfter reading sequence = (stored : ℕ) × StoresFirst reading stored
    × (sequence ≡ sequence_of reading.point + stored)

-- A run over these storages may begin on what the devices say, and this is where it begins.
pub record MayBegin (snap : ℕ) (decls : List Decl) (opening : Opening) (found : Images) : Type 0 where
  pub has : HasStorages found decls
  pub clear : IsClear snap has.reading
  pub state : IsStateOf has.reading opening.state
  pub saved : opening.saved ≡ epoch_of has.reading.point
  pub sequence : BeginsAfter has.reading opening.sequence

-- the limits that may keep a run from beginning
abbrev pub IsBefore : LimitName → Type 0
IsBefore Snap = ⊤
IsBefore Height = ⊤
IsBefore Sequence = ⊤
IsBefore _ = ⊥

-- The limit that keeps a run from beginning: of the height, or else of the pages, or else of the savepoints, where one
-- is due and the newest has the last sequence.
abbrev pub IsLimitAt : ℕ → Reading → LimitName → Type 0
IsLimitAt snap reading Height = IsDeep reading
IsLimitAt snap reading Snap = (HasNoEntries reading × (snap < count_of reading.point)) ⊎ IsTooMany snap reading
IsLimitAt snap reading Sequence = HasRoom snap reading × StoresFirst reading 1
    × (sequence_of reading.point ≡ last_sequence)
IsLimitAt snap reading _ = ⊥

-- the devices have the storages that are declared, and stand at this limit
pub record StandsAtLimit (snap : ℕ) (decls : List Decl) (name : LimitName) (found : Images) : Type 0 where
  pub has : HasStorages found decls
  pub limit : IsLimitAt snap has.reading name

-- the devices aren't fresh, and have these storages
pub record HasKept (kept : List Decl) (found : Images) : Type 0 where
  pub reading : Reading
  pub is : IsReading found reading
  pub saved : IsSome reading.point
  pub kept_are : kept ≡ newest_decls reading.catalogues

-- The vault keeps other storages than are declared: what is told are the declared ones, in order of their ids, and
-- those that it keeps, as its catalogue has them.
pub record HasOtherShape {D : Type 0} (v : Vaults D) (decls declared kept : List Decl) : Type 0 where
  pub declared_are : IsPermutation decls declared
  pub in_order : IsNonDecreasingBy id_of declared
  pub other : SameDecls decls kept → ⊥
  pub kept_are : HoldsOf v (HasKept kept)
