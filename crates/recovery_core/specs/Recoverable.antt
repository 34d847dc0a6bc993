-- The recoverable state: the saved epoch, and the newest snapshot under the log entries that count. It is told by the
-- bytes of all devices and the grammars of their formats alone.
use Rattle.std.specs.Prelude.{◌≡◌, ℕ, ◌+◌, List, [], Option, Some, None, filter}
use Rattle.std.specs.List.{AllByRecursion}
use Rattle.std.specs.FinMap.{get}
use Rattle.serial_model.specs.State.{State}
use Rattle.serial_model.specs.declared.key.Key.{Key}
use Rattle.serial_model.specs.declared.number.Commit.{Commit}
use Rattle.wire_form.specs.Pages.{Contents}
use Rattle.wire_form.specs.declared.bucket.Entry.{Entry}
use Rattle.wire_form.specs.declared.savepoint.Savepoint.{Savepoint}
use Rattle.log_writer.specs.Save.{Names}
use Rattle.snapshot_store.specs.Content.{record_in, value_at}
use Rattle.joint_crashes.specs.Images.{Images, epoch_of}
use Rattle.recovery_core.specs.Catalogues.{HasPages, AreCatalogues, newest_epoch, newest_storages, newest_decls}
use Rattle.recovery_core.specs.SnapshotPages.{RootStandsUpTo}
use Rattle.recovery_core.specs.LogEntries.{AreCounted, logged, counts, last_of}

-- What the bytes of all devices say: the newest savepoint, or none, and what it counts: the words of the pages, the
-- catalogues from the newest back, and the lines of each log file.
pub record Reading : Type 0 where
  pub point : Option Savepoint
  pub pages : List (List ℕ)
  pub catalogues : List Contents
  pub lines : List (List Commit)

-- The pages that a savepoint counts are there, and in their grammar: the catalogues, of which none has an epoch above
-- the
-- saved one, and all pages of the newest snapshot.
pub record ReadsPages (snaps : List ℕ) (p : Savepoint) (pages : List (List ℕ))
    (catalogues : List Contents) : Type 0 where
  pub has : HasPages snaps p.count pages
  pub chain : AreCatalogues pages (p.epoch + 1) None p.catalogue catalogues
  pub stands : AllByRecursion (RootStandsUpTo (newest_epoch catalogues) pages) (newest_storages catalogues)

-- all that a savepoint counts is there, and in its grammar
pub record ReadsSaved (found : Images) (p : Savepoint) (reading : Reading) : Type 0 where
  pub snapshot : ReadsPages found.snaps p reading.pages reading.catalogues
  pub files : AreCounted (newest_decls reading.catalogues) p found.bank reading.lines

-- of a fresh database nothing counts, whatever its devices hold
pub record ReadsFresh (reading : Reading) : Type 0 where
  pub pages : reading.pages ≡ []
  pub catalogues : reading.catalogues ≡ []
  pub lines : reading.lines ≡ []

-- what is read besides the savepoint, or where there is none
abbrev pub ReadsBy : Images → Option Savepoint → Reading → Type 0
ReadsBy found None reading = ReadsFresh reading
ReadsBy found (Some p) reading = ReadsSaved found p reading

-- the devices say this
pub record IsReading (found : Images) (reading : Reading) : Type 0 where
  pub names : Names found.save reading.point
  pub counts : ReadsBy found reading.point reading

-- the entries that count, the lowest log file first
abbrev pub counting : Reading → List Entry
counting reading = filter (counts (newest_epoch reading.catalogues) (epoch_of reading.point)) (logged reading.lines)

-- the last entry's value, or none where it removed the key; without an entry what the snapshot has
abbrev pub value_over : Option Entry → Option ℕ → Option ℕ
value_over None snapshot = snapshot
value_over (Some e) snapshot = e.value

-- what the newest snapshot has at a key
abbrev pub snapshot_value : Reading → Key → Option ℕ
snapshot_value reading key = value_at (record_in reading.pages) (newest_storages reading.catalogues) key

-- the value of a key, if it has one
abbrev pub value_of_key : Reading → Key → Option ℕ
value_of_key reading key = value_over (last_of key (counting reading)) (snapshot_value reading key)

-- the state has at each key what is read of it
abbrev pub IsStateOf : Reading → State → Type 0
IsStateOf reading state = (key : Key) → get state key ≡ value_of_key reading key

-- The devices stand for this epoch and this state: a database without a savepoint for epoch 0 and the empty state.
pub record IsRecoverable (found : Images) (epoch : ℕ) (state : State) : Type 0 where
  pub reading : Reading
  pub is : IsReading found reading
  pub epoch_is : epoch ≡ epoch_of reading.point
  pub state_is : IsStateOf reading state
