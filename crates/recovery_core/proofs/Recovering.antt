-- From what is read of the parts of a database to what it recovers to.
use Rattle.std.proofs.Common.{◌≡◌, inl, inr, ℕ, ◌+◌, ◌<◌, List, [], ◌∷◌, Option, Some, None, length, map}
use Rattle.std.proofs.Common.{filter, reverse, refl, sym, ap, subst, ◌∙◌}
use Rattle.std.specs.FinMap.{get, empty, get-empty}
use Rattle.std.specs.List.{AllByRecursion}
use Rattle.std.specs.Option.{option_map}
use Rattle.std.proofs.lemmas.List.{nil_from_length, length-map}
use Rattle.std.proofs.lemmas.Option.{same_Some}
use Rattle.outside.specs.declared.device.Device.{Device}
use Rattle.outside.specs.declared.device.Device.TheVariants.{Save, Snaps, Bank}
use Rattle.serial_model.specs.Keys.{id_of, key_cmp}
use Rattle.serial_model.specs.State.{State}
use Rattle.serial_model.specs.declared.decl.Decl.{Decl}
use Rattle.serial_model.specs.declared.key.Key.{Key}
use Rattle.serial_model.specs.declared.number.Commit.{Commit}
use Rattle.wire_form.specs.Items.{Rises}
use Rattle.wire_form.specs.Pages.{Contents, stored_id, stored_decl}
use Rattle.wire_form.specs.declared.records.Stored.{Stored}
use Rattle.wire_form.specs.declared.savepoint.Savepoint.{Savepoint}
use Rattle.log_writer.specs.Points.{saved_of}
use Rattle.log_writer.specs.Save.{Names}
use Rattle.log_writer.specs.declared.saved.Saved.{Saved}
use Rattle.snapshot_store.specs.Content.{words_of, record_in, value_at}
use Rattle.recovery_core.specs.declared.recovered.Recovered.{Recovered}
use Rattle.recovery_core.specs.declared.newest.Snapshot.{Snapshot}
use Rattle.recovery_core.specs.Catalogues.{HasPages, AreCatalogues, newest_epoch, newest_decls, marks_of}
use Rattle.recovery_core.specs.Damage.{FirstBad, RootBreaks, SnapsBreak, FilesBreak, IsDamagedIn}
use Rattle.recovery_core.specs.Damage.{FilesReadBefore, IsReadBefore}
use Rattle.recovery_core.specs.EntriesLast.{EntryMap, PutsLast}
use Rattle.joint_crashes.specs.Images.{Images}
use Rattle.recovery_core.specs.LogEntries.{AreCounted, counts, logged, last_of}
use Rattle.recovery_core.specs.Recoverable.{ReadsPages, value_over}
use Rattle.recovery_core.specs.Recovered.{Recovers}
use Rattle.recovery_core.specs.SnapshotPages.{RootStandsUpTo}
use Rattle.recovery_core.specs.SnapshotRead.{IsSnapshotOf, SnapshotBreaks}

-- ---- the savepoint

-- what a savepoint says is said by one
pub says_some : (point : Option Savepoint) (saved : Saved) → Some saved ≡ option_map saved_of point
    → (p : Savepoint) × (point ≡ Some p) × (saved ≡ saved_of p)
says_some None saved same = absurd (cc same)
says_some (Some p) saved same = (p, refl, same_Some saved (saved_of p) same)

-- and nothing by none
pub says_none : (point : Option Savepoint) → None ≡ option_map saved_of point → point ≡ None
says_none None same = refl
says_none (Some p) same = absurd (cc same)

-- ---- the snapshot

-- the catalogues and the pages that were read are a snapshot
pub snapshot_is : (epoch number of_newest : ℕ) (newest : Contents) (older : List Contents) (storages : List Stored)
    (s : Snapshot) → storages ≡ newest.storages
    → of_newest ≡ newest.epoch → s.epoch ≡ of_newest
    → AreCatalogues (words_of s.store.pages) (epoch + 1) None number (newest ∷ older) → s.catalogues
    ≡ reverse (marks_of number (newest ∷ older))
    → AllByRecursion (RootStandsUpTo of_newest (words_of s.store.pages)) storages → s.decls ≡ map stored_decl storages
    → ((key : Key) → get s.state key ≡ value_at (record_in (words_of s.store.pages)) storages key)
    → IsSnapshotOf epoch number (newest ∷ older) s
snapshot_is epoch number of_newest newest older storages s same of_is epoch_is chain marks stands decls state =
    record {
      chain = chain;
      stands = subst (λ k. AllByRecursion (RootStandsUpTo k (words_of s.store.pages)) newest.storages) of_is
          (subst (AllByRecursion (RootStandsUpTo of_newest (words_of s.store.pages))) same stands);
      epoch_is = epoch_is ∙ of_is;
      decls_are = decls ∙ ap (map stored_decl) same;
      marks_are = marks;
      state_is = λ key. state key ∙ ap (λ l. value_at (record_in (words_of s.store.pages)) l key) same;
    }

-- where the newest one's pages aren't right, there is none
pub no_snapshot : (epoch number of_newest : ℕ) (newest : Contents) (older : List Contents) (storages : List Stored)
    (pages : List (List ℕ)) (at : ℕ) → storages ≡ newest.storages
    → of_newest ≡ newest.epoch → AreCatalogues pages (epoch + 1) None number (newest ∷ older)
    → FirstBad (RootStandsUpTo of_newest pages) (RootBreaks of_newest pages at) storages
    → SnapshotBreaks epoch number pages at
no_snapshot epoch number of_newest newest older storages pages at same of_is chain bad = inr (record {
  catalogues = newest ∷ older;
  chain = chain;
  first = subst (λ k. FirstBad (RootStandsUpTo k pages) (RootBreaks k pages at) newest.storages) of_is
      (subst (FirstBad (RootStandsUpTo of_newest pages) (RootBreaks of_newest pages at)) same bad);
})

-- where they are not, the snapshots break
pub snaps_break : (file : List ℕ) (saved : Saved) (p : Savepoint) (pages : List (List ℕ)) (at : ℕ) → saved ≡ saved_of p
    → HasPages file saved.count pages
    → SnapshotBreaks saved.epoch saved.catalogue pages at → SnapsBreak file p at
snaps_break file saved p pages at same has breaks =
    let has_p = subst (λ (s : Saved). HasPages file s.count pages) same has in
    elim (subst (λ (s : Saved). SnapshotBreaks s.epoch s.catalogue pages at) same breaks) [
      | inl chain ↦ inr (inl (record { pages = pages; front = chain.front; has = has_p; breaks = chain.breaks }))
      | inr below ↦ inr (inr
          (record {
            pages = pages;
            catalogues = below.catalogues;
            has = has_p;
            chain = below.chain;
            first = below.first;
          }))
    ]

-- a savepoint's pages and what stands in them
pub reads_pages : (file : List ℕ) (saved : Saved) (p : Savepoint) (cs : List Contents) (s : Snapshot) → saved
    ≡ saved_of p
    → IsSnapshotOf saved.epoch saved.catalogue cs s → HasPages file saved.count (words_of s.store.pages)
    → ReadsPages file p (words_of s.store.pages) cs
reads_pages file saved p cs s same is has = record {
  has = subst (λ (x : Saved). HasPages file x.count (words_of s.store.pages)) same has;
  chain = subst (λ (x : Saved). AreCatalogues (words_of s.store.pages) (x.epoch + 1) None x.catalogue cs) same
      is.chain;
  stands = is.stands;
}

ids_of : (storages : List Stored) → map id_of (map stored_decl storages) ≡ map stored_id storages
ids_of [] = refl
ids_of (s ∷ ss) = ap (λ l. stored_id s ∷ l) (ids_of ss)

-- the ids of declared storages rise
pub ids_rise : (pages : List (List ℕ)) (limit : ℕ) (declared : Option (List Decl)) (number : ℕ) (cs : List Contents)
    → AreCatalogues pages limit declared number cs
    → Rises ◌<◌ (map id_of (newest_decls cs))
ids_rise pages limit declared number [] chain = tt
ids_rise pages limit declared number (c ∷ cs) chain =
    subst (Rises ◌<◌) (sym (ids_of c.storages)) chain.1.here.catalogue.rising

-- ---- damage

-- the snapshots are damaged where they break
pub damaged_snaps : (found : Images) (point : Option Savepoint) (p : Savepoint) (device : Device) (at : ℕ) → point
    ≡ Some p → device ≡ Snaps
    → Names found.save point → SnapsBreak found.snaps p at → IsDamagedIn found device at
damaged_snaps found point p device at point_is device_is names breaks =
    subst (λ d. IsDamagedIn found d at) (sym device_is) (p, subst (Names found.save) point_is names, breaks)

-- and a log file where it does
pub damaged_file : (found : Images) (point : Option Savepoint) (p : Savepoint) (device : Device) (n at : ℕ)
    (pages : List (List ℕ)) (cs : List Contents) (decls : List Decl)
    → point ≡ Some p → device ≡ Bank n → Names found.save point → ReadsPages found.snaps p pages cs → decls
    ≡ newest_decls cs
    → FilesBreak decls p found.bank n at → IsDamagedIn found device at
damaged_file found point p device n at pages cs decls point_is device_is names snapshot same breaks =
    subst (λ d. IsDamagedIn found d at) (sym device_is) (
      p,
      subst (Names found.save) point_is names,
      record {
        pages = pages;
        catalogues = cs;
        snapshot = snapshot;
        files = subst (λ l. FilesBreak l p found.bank n at) same breaks;
      },
    )

-- ---- what is read before a device that failed

pub before_save : (found : Images) (device : Device) → device ≡ Save → IsReadBefore found device
before_save found device is = subst (IsReadBefore found) (sym is) tt

pub before_snaps : (found : Images) (point : Option Savepoint) (device : Device) → device ≡ Snaps → Names found.save point
    → IsReadBefore found device
before_snaps found point device is names = subst (IsReadBefore found) (sym is) (point, names)

pub before_file : (found : Images) (point : Option Savepoint) (p : Savepoint) (device : Device) (n : ℕ)
    (pages : List (List ℕ)) (cs : List Contents) (decls : List Decl)
    → point ≡ Some p → device ≡ Bank n → Names found.save point → ReadsPages found.snaps p pages cs → decls
    ≡ newest_decls cs
    → FilesReadBefore decls p found.bank n → IsReadBefore found device
before_file found point p device n pages cs decls point_is device_is names snapshot same before =
    subst (IsReadBefore found) (sym device_is) (
      p,
      subst (Names found.save) point_is names,
      record {
        pages = pages;
        catalogues = cs;
        snapshot = snapshot;
        files = subst (λ l. FilesReadBefore l p found.bank n) same before;
      },
    )

-- ---- all parts

-- a fresh database recovers to nothing
pub fresh_recovers : (found : Images) (r : Recovered) → Names found.save None → r.save.newest ≡ None → r.epoch ≡ 0
    → r.state ≡ empty → r.decls ≡ []
    → length r.store.pages ≡ 0 → r.catalogues ≡ [] → r.entries ≡ empty → Recovers found r
fresh_recovers found r names point epoch state decls pages catalogues entries = record {
  reading = record { point = None; pages = []; catalogues = []; lines = [] };
  is = record { names = names; counts = record { pages = refl; catalogues = refl; lines = refl } };
  epoch = epoch;
  state = λ key. ap (λ (s : State). get s key) state ∙ get-empty key_cmp key;
  point = point;
  decls = decls;
  pages = nil_from_length (words_of r.store.pages) (length-map r.store.pages (λ p. p.words) ∙ pages);
  catalogues = catalogues;
  entries = λ key. ap (λ (m : EntryMap). get m key) entries ∙ get-empty key_cmp key;
}

-- a database with a savepoint recovers to what its snapshot and its log files have
pub saved_recovers : (found : Images) (r : Recovered) (point : Option Savepoint) (p : Savepoint) (saved : Saved)
    (s : Snapshot) (state : State) (cs : List Contents) (lines : List (List Commit))
    → point ≡ Some p → saved ≡ saved_of p → Names found.save point
    → IsSnapshotOf saved.epoch saved.catalogue cs s → HasPages found.snaps saved.count (words_of s.store.pages)
    → AreCounted s.decls p found.bank lines
    → ((key : Key) → get r.entries key ≡ last_of key (filter (counts s.epoch saved.epoch) (logged lines)))
    → s.state ≡ state → PutsLast r.entries state r.state
    → r.save.newest ≡ point → r.epoch ≡ saved.epoch → r.decls ≡ s.decls → r.store ≡ s.store → r.catalogues
    ≡ s.catalogues
    → Recovers found r
saved_recovers found r point p saved s state cs lines point_is same names is has counted lasts state_was puts newest
    epoch decls store marks =
    let snapshot = reads_pages found.snaps saved p cs s same is has in
    let of_p : IsSnapshotOf p.epoch p.catalogue cs s =
    subst (λ (x : Saved). IsSnapshotOf x.epoch x.catalogue cs s) same is in
    let epoch_p : saved.epoch ≡ p.epoch = ap (λ (x : Saved). x.epoch) same in
    let entries : (key : Key) → get r.entries key
    ≡ last_of key (filter (counts (newest_epoch cs) p.epoch) (logged lines)) =
    λ key. lasts key ∙ ap (λ e. last_of key (filter (counts e saved.epoch) (logged lines))) is.epoch_is
    ∙ ap (λ e. last_of key (filter (counts (newest_epoch cs) e) (logged lines))) epoch_p in
    record {
      reading = record { point = Some p; pages = words_of s.store.pages; catalogues = cs; lines = lines };
      is = record {
        names = subst (Names found.save) point_is names;
        counts = record {
          snapshot = snapshot;
          files = subst (λ l. AreCounted l p found.bank lines) is.decls_are counted;
        };
      };
      epoch = epoch ∙ epoch_p;
      state = λ key. puts key ∙ ap (λ e. value_over e (get state key)) (entries key)
          ∙ ap (value_over (last_of key (filter (counts (newest_epoch cs) p.epoch) (logged lines))))
          (ap (λ (x : State). get x key) (sym state_was) ∙ is.state_is key);
      point = newest ∙ point_is;
      decls = decls ∙ is.decls_are;
      pages = ap (λ x. words_of x.pages) store;
      catalogues = marks ∙ of_p.marks_are;
      entries = entries;
    }
