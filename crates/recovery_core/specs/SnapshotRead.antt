-- What is read of the pages that a savepoint counts.
use Rattle.std.specs.Prelude.{◌≡◌, ◌⊎◌, ℕ, ◌+◌, List, None, reverse}
use Rattle.std.specs.List.{AllByRecursion}
use Rattle.std.specs.FinMap.{get}
use Rattle.serial_model.specs.declared.key.Key.{Key}
use Rattle.wire_form.specs.Pages.{Contents}
use Rattle.snapshot_store.specs.Content.{words_of, record_in, value_at}
use Rattle.recovery_core.specs.declared.newest.Snapshot.{Snapshot}
use Rattle.recovery_core.specs.Catalogues.{AreCatalogues, newest_epoch, newest_storages, newest_decls, marks_of}
use Rattle.recovery_core.specs.Damage.{FirstBad, CataloguesBreak, RootBreaks}
use Rattle.recovery_core.specs.SnapshotPages.{RootStandsUpTo}

-- what stands in the pages from the catalogue with this number on, for a savepoint of this epoch
pub record IsSnapshotOf (epoch number : ℕ) (cs : List Contents) (s : Snapshot) : Type 0 where
  pub chain : AreCatalogues (words_of s.store.pages) (epoch + 1) None number cs
  pub stands : AllByRecursion (RootStandsUpTo (newest_epoch cs) (words_of s.store.pages)) (newest_storages cs)
  pub epoch_is : s.epoch ≡ newest_epoch cs
  pub decls_are : s.decls ≡ newest_decls cs
  pub marks_are : s.catalogues ≡ reverse (marks_of number cs)
  pub state_is : (key : Key) → get s.state key ≡ value_at (record_in (words_of s.store.pages)) (newest_storages cs) key

-- some catalogues are right, and the next one isn't
pub record NoChain (epoch number : ℕ) (pages : List (List ℕ)) (at : ℕ) : Type 0 where
  pub front : List Contents
  pub breaks : CataloguesBreak pages (epoch + 1) None number front at

-- the catalogues are right, and the newest one's pages are not
pub record NoPages (epoch number : ℕ) (pages : List (List ℕ)) (at : ℕ) : Type 0 where
  pub catalogues : List Contents
  pub chain : AreCatalogues pages (epoch + 1) None number catalogues
  pub first : FirstBad (RootStandsUpTo (newest_epoch catalogues) pages) (RootBreaks (newest_epoch catalogues) pages at)
      (newest_storages catalogues)

-- one of the pages isn't right, and the first such begins at this byte
abbrev pub SnapshotBreaks : ℕ → ℕ → List (List ℕ) → ℕ → Type 0
SnapshotBreaks epoch number pages at = NoChain epoch number pages at ⊎ NoPages epoch number pages at
