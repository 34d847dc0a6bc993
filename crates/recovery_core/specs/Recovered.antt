-- What recovery gives of a database.
use Rattle.std.specs.Prelude.{◌≡◌, ◌<◌, ℕ, ◌+◌, List, [], Option, Some, None, IfSome, true, map, reverse, length}
use Rattle.std.specs.Option.{option_map}
use Rattle.std.specs.FinMap.{get}
use Rattle.std.specs.List.{AllByRecursion}
use Rattle.serial_model.specs.Keys.{id_of}
use Rattle.serial_model.specs.declared.key.Key.{Key}
use Rattle.wire_form.specs.Items.{Rises}
use Rattle.wire_form.specs.Pages.{Contents}
use Rattle.wire_form.specs.declared.savepoint.Savepoint.{Savepoint}
use Rattle.log_writer.specs.Points.{IsSaved, saved_of}
use Rattle.log_writer.specs.declared.saved.Saved.{Saved}
use Rattle.snapshot_store.specs.Content.{words_of, record_in, value_at}
use Rattle.recovery_core.specs.declared.recovered.Recovered.{Recovered}
use Rattle.joint_crashes.specs.Images.{Images, epoch_of}
use Rattle.recovery_core.specs.Catalogues.{AreCatalogues, newest_epoch, newest_storages, newest_decls, marks_of}
use Rattle.recovery_core.specs.EntriesRun.{AllMayCount}
use Rattle.recovery_core.specs.LogEntries.{last_of}
use Rattle.recovery_core.specs.Recoverable.{Reading, IsReading, IsStateOf, IsRecoverable, counting, value_over}
use Rattle.recovery_core.specs.SnapshotPages.{RootStandsUpTo}

-- the page number of the newest catalogue; it is 0 where there is none
abbrev pub catalogue_of : Option Savepoint → ℕ
catalogue_of None = 0
catalogue_of (Some p) = p.catalogue

-- What was recovered is what these bytes of the devices stand for: saved epoch and state, with the savepoint, the
-- storages,
-- the pages that count, the catalogues, the oldest first, and of each key the last entry that counts.
pub record Recovers (found : Images) (r : Recovered) : Type 0 where
  pub reading : Reading
  pub is : IsReading found reading
  pub epoch : r.epoch ≡ epoch_of reading.point
  pub state : IsStateOf reading r.state
  pub point : r.save.newest ≡ reading.point
  pub decls : r.decls ≡ newest_decls reading.catalogues
  pub pages : words_of r.store.pages ≡ reading.pages
  pub catalogues : r.catalogues ≡ reverse (marks_of (catalogue_of reading.point) reading.catalogues)
  pub entries : (key : Key) → get r.entries key ≡ last_of key (counting reading)

-- the saved epoch; it is 0 where nothing was saved
abbrev pub saved_epoch : Option Saved → ℕ
saved_epoch None = 0
saved_epoch (Some s) = s.epoch

-- so many pages count
abbrev pub saved_count : Option Saved → ℕ
saved_count None = 0
saved_count (Some s) = s.count

-- In the pages that a savepoint counts the catalogues stand, from the newest back, and all pages of the newest
-- snapshot, in which no record is of a later epoch than the snapshot. The storages that are given are that snapshot's,
-- and each last entry is of one of them, with an epoch above it. The state is what these pages have, under those
-- entries.
pub record SnapshotsStand (r : Recovered) (s : Saved) : Type 0 where
  pub catalogues : List Contents
  pub chain : AreCatalogues (words_of r.store.pages) (s.epoch + 1) None s.catalogue catalogues
  pub stands : AllByRecursion (RootStandsUpTo (newest_epoch catalogues) (words_of r.store.pages))
      (newest_storages catalogues)
  pub decls : r.decls ≡ newest_decls catalogues
  pub marks : r.catalogues ≡ reverse (marks_of s.catalogue catalogues)
  pub entries : AllMayCount r.decls (newest_epoch catalogues) s.epoch r.entries
  pub state : (key : Key) → get r.state key
      ≡ value_over (get r.entries key) (value_at (record_in (words_of r.store.pages)) (newest_storages catalogues) key)

-- and without a savepoint there is no catalogue, no entry counts, and no key has a value
abbrev pub HasSnapshots : Recovered → Option Saved → Type 0
HasSnapshots r None = (r.catalogues ≡ []) × ((key : Key) → get r.entries key ≡ None)
    × ((key : Key) → get r.state key ≡ None)
HasSnapshots r (Some s) = SnapshotsStand r s

-- Whatever the devices tell: what is given of the savepoint is what it says, it is in its ranges, both stores are up,
-- the epoch is the saved one, as many pages are given as count, the storages are in order of their ids, and the
-- snapshots stand, with the state.
pub record IsUp (r : Recovered) : Type 0 where
  pub saved : r.saved ≡ option_map saved_of r.save.newest
  pub ranges : IfSome r.saved IsSaved
  pub up : r.save.down ≡ None
  pub sound : r.store.sound ≡ true
  pub epoch : r.epoch ≡ saved_epoch r.saved
  pub count : length r.store.pages ≡ saved_count r.saved
  pub rising : Rises ◌<◌ (map id_of r.decls)
  pub snapshots : HasSnapshots r r.saved

-- in particular epoch and state are those that the devices stand for
abbrev pub recovers_state : (found : Images) (r : Recovered) → Recovers found r → IsRecoverable found r.epoch r.state
recovers_state found r is = record { reading = is.reading; is = is.is; epoch_is = is.epoch; state_is = is.state }
