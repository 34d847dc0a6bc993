-- Where the devices are not in their grammars: the first byte of the first part that isn't, in the order in which they
-- are read: save, length of the snapshots, catalogues from the newest back, pages of the newest snapshot, log files.
use Rattle.std.specs.Prelude.{◌≡◌, ◌⊎◌, ℕ, ◌+◌, ◌-◌, ◌*◌, ◌<◌, ◌≤◌, zero, suc, List, [], ◌∷◌, Option, Some}
use Rattle.std.specs.Prelude.{None, length, ⊤}
use Rattle.outside.specs.declared.device.Device.{Device}
use Rattle.outside.specs.declared.device.Device.TheVariants.{Save, Snaps, Bank}
use Rattle.serial_model.specs.declared.decl.Decl.{Decl}
use Rattle.serial_model.specs.declared.number.Commit.{Commit}
use Rattle.wire_form.specs.declared.records.Stored.{Stored}
use Rattle.wire_form.specs.Pages.{Contents, decls_of}
use Rattle.wire_form.specs.declared.savepoint.Savepoint.{Savepoint}
use Rattle.log_mapper.specs.Mapped.{IsDamaged as IsDamagedFile}
use Rattle.log_writer.specs.Save.{Names, IsDamaged}
use Rattle.snapshot_store.specs.declared.place.PagePlace.{PagePlace}
use Rattle.snapshot_store.specs.Places.{Format, words_at, places_below, StandsTo}
use Rattle.snapshot_store.specs.Content.{deepest, root_place, format_of}
use Rattle.joint_crashes.specs.Images.{Images, counted_of}
use Rattle.recovery_core.specs.Catalogues.{HasPages, IsCatalogueBelow, AreCatalogues, newest_epoch}
use Rattle.recovery_core.specs.Catalogues.{newest_storages, newest_decls}
use Rattle.recovery_core.specs.SnapshotPages.{IsPageUpTo, RootStandsUpTo}
use Rattle.recovery_core.specs.LogEntries.{IsCountedFile}
use Rattle.recovery_core.specs.Recoverable.{ReadsPages}

-- a page's first byte on the device
abbrev pub first_byte : ℕ → ℕ
first_byte number = 512 * (number - 1)

-- the first of some things that is bad, behind good ones
abbrev pub FirstBad : {X : Type 0} → (X → Type 0) → (X → Type 0) → List X → Type 0
FirstBad Good Bad [] = ⊥
FirstBad Good Bad (x ∷ xs) = Bad x ⊎ (Good x × FirstBad Good Bad xs)

-- Behind these catalogues the next page should be one and isn't, and it begins at this byte.
abbrev pub CataloguesBreak : List (List ℕ) → ℕ → Option (List Decl) → ℕ → List Contents → ℕ → Type 0
CataloguesBreak pages limit declared number [] at =
    (1 ≤ number) × (at ≡ first_byte number) × ((c : Contents) → IsCatalogueBelow pages limit declared number c → ⊥)
CataloguesBreak pages limit declared number (c ∷ cs) at =
    (1 ≤ number) × IsCatalogueBelow pages limit declared number c
    × CataloguesBreak pages c.epoch (Some (decls_of c)) c.previous cs at

-- The first page that isn't right for its place begins at this byte, each page before those below it, from left to
-- right; a page below so many others is none.
abbrev pub BreaksTo : Format → (PagePlace → List ℕ → Type 0) → List (List ℕ) → ℕ → ℕ → PagePlace → Type 0
BreaksTo F Is pages at zero p = at ≡ first_byte p.number
BreaksTo F Is pages at (suc d) p =
    ((Is p (words_at pages p) → ⊥) × (at ≡ first_byte p.number))
    ⊎ (Is p (words_at pages p) × FirstBad (StandsTo F Is pages d) (BreaksTo F Is pages at d) (places_below F pages p))

-- the first page that isn't right, of what a storage's root leads to
abbrev pub RootBreaks : ℕ → List (List ℕ) → ℕ → Stored → Type 0
RootBreaks epoch pages at s =
    BreaksTo (format_of s.decl) (IsPageUpTo epoch s.decl) pages at deepest (root_place s.decl s.root)

-- The counted bytes of a log file are not all there, and it ends at this byte, or they are no whole lines of these
-- storages with numbers that rise, from this byte on.
abbrev pub FileBreaks : List Decl → ℕ → List ℕ → ℕ → Type 0
FileBreaks decls count bytes at = IsDamagedFile count decls bytes at

-- the log file of this number breaks at this byte, and those before it are lines
pub record FilesBreak (decls : List Decl) (p : Savepoint) (bank : ℕ → List ℕ) (n at : ℕ) : Type 0 where
  pub file : n < 16
  pub before : (m : ℕ) → m < n → (lines : List Commit) × IsCountedFile decls (counted_of (Some p) m) (bank m) lines
  pub breaks : FileBreaks decls (counted_of (Some p) n) (bank n) at

-- the catalogues are right, and the newest one's pages are not
pub record PagesBreak (snaps : List ℕ) (p : Savepoint) (at : ℕ) : Type 0 where
  pub pages : List (List ℕ)
  pub catalogues : List Contents
  pub has : HasPages snaps p.count pages
  pub chain : AreCatalogues pages (p.epoch + 1) None p.catalogue catalogues
  pub first : FirstBad (RootStandsUpTo (newest_epoch catalogues) pages) (RootBreaks (newest_epoch catalogues) pages at)
      (newest_storages catalogues)

-- some catalogues are right, and the next one isn't
pub record ChainBreaks (snaps : List ℕ) (p : Savepoint) (at : ℕ) : Type 0 where
  pub pages : List (List ℕ)
  pub front : List Contents
  pub has : HasPages snaps p.count pages
  pub breaks : CataloguesBreak pages (p.epoch + 1) None p.catalogue front at

-- what is read before the log files is right, and one of them is not
pub record LogsBreak (found : Images) (p : Savepoint) (n at : ℕ) : Type 0 where
  pub pages : List (List ℕ)
  pub catalogues : List Contents
  pub snapshot : ReadsPages found.snaps p pages catalogues
  pub files : FilesBreak (newest_decls catalogues) p found.bank n at

-- the snapshots are shorter than the pages that count, or one of these isn't right
abbrev pub SnapsBreak : List ℕ → Savepoint → ℕ → Type 0
SnapsBreak snaps p at =
    ((length snaps < 512 * p.count) × (at ≡ length snaps)) ⊎ (ChainBreaks snaps p at ⊎ PagesBreak snaps p at)

-- The devices are damaged: this is the device and the byte that is told of it.
abbrev pub IsDamagedIn : Images → Device → ℕ → Type 0
IsDamagedIn found Save at = IsDamaged found.save at
IsDamagedIn found Snaps at = (p : Savepoint) × Names found.save (Some p) × SnapsBreak found.snaps p at
IsDamagedIn found (Bank n) at = (p : Savepoint) × Names found.save (Some p) × LogsBreak found p n at

-- ---- what is read before a device

-- the log files before this one are lines, of their counted bytes
pub record FilesReadBefore (decls : List Decl) (p : Savepoint) (bank : ℕ → List ℕ) (n : ℕ) : Type 0 where
  pub file : n < 16
  pub before : (m : ℕ) → m < n → (lines : List Commit) × IsCountedFile decls (counted_of (Some p) m) (bank m) lines

-- the snapshots are right, and so are the log files before this one
pub record LogsReadBefore (found : Images) (p : Savepoint) (n : ℕ) : Type 0 where
  pub pages : List (List ℕ)
  pub catalogues : List Contents
  pub snapshot : ReadsPages found.snaps p pages catalogues
  pub files : FilesReadBefore (newest_decls catalogues) p found.bank n

-- All that is read before this device is in its format: nothing before the save, the save before the snapshots, also
-- where it names no savepoint.
abbrev pub IsReadBefore : Images → Device → Type 0
IsReadBefore found Save = ⊤
IsReadBefore found Snaps = (point : Option Savepoint) × Names found.save point
IsReadBefore found (Bank n) = (p : Savepoint) × Names found.save (Some p) × LogsReadBefore found p n
