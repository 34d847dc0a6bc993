-- Devices that name the savepoint behind a composition stand for the epoch and the state that were recovered.
use Rattle.std.proofs.Common.{◌≡◌, ℕ, ◌+◌, ◌*◌, ◌^◌, ◌<◌, ◌≤◌, List, ◌∷◌, ◌++◌, Option, Some, None, refl, sym, ap}
use Rattle.std.proofs.Common.{subst, ◌∙◌, length, take, arith}
use Rattle.std.specs.FinMap.{get}
use Rattle.std.specs.List.{AllByRecursion}
use Rattle.std.specs.Option.{option_map}
use Rattle.std.proofs.lemmas.List.{length-append, length-map}
use Rattle.lists.specs.Fronts.{IsFront}
use Rattle.serial_model.specs.declared.key.Key.{Key}
use Rattle.wire_form.specs.Pages.{Contents, decls_of}
use Rattle.wire_form.specs.declared.bucket.Entry.{Entry}
use Rattle.wire_form.specs.declared.page.Page.{Page}
use Rattle.wire_form.specs.declared.savepoint.Savepoint.{Savepoint}
use Rattle.log_writer.specs.Points.{saved_of}
use Rattle.log_writer.specs.Save.{Names}
use Rattle.log_writer.specs.declared.saved.Saved.{Saved}
use Rattle.snapshot_store.specs.Content.{deepest, words_of, record_in, value_at}
use Rattle.snapshot_store.specs.Store.{IsWhole, bytes_of_pages}
use Rattle.root_composer.specs.Composition.{next_contents}
use Rattle.root_composer.specs.Storages.{change_for}
use Rattle.recovery_core.specs.Catalogues.{HasPages, AreCatalogues, newest_epoch, newest_storages, newest_decls}
use Rattle.joint_crashes.specs.Images.{Images, counted_of}
use Rattle.recovery_core.specs.Recoverable.{Reading, IsReading, ReadsSaved, ReadsBy, value_over}
use Rattle.recovery_core.specs.RecoverableLaws.{one_chain}
use Rattle.recovery_core.specs.Recovered.{Recovers, SnapshotsStand}
use Rattle.checkpoints.specs.SettledLaws.{no_log, counts_nothing}
use Rattle.recovery_core.specs.SnapshotPages.{RootStandsUpTo}
use Rattle.recovery_core.specs.SnapshotsKept.{StandsAsRead}
use Rattle.recovery_core.specs.StoredPages.{whole_size, has_pages}
use Rattle.recovery_core.specs.declared.recovered.Recovered.{Recovered}
use Rattle.checkpoints.specs.Due.{IsNextOf}
use Rattle.checkpoints.specs.SettleLaws.{point_says}
use Rattle.checkpoints.specs.NextReading.{roots_early, same_storages, chain-append, chain_below, newest_is}
use Rattle.checkpoints.specs.Overlays.{get-overlay, change_is, comes_from}
use Rattle.checkpoints.proofs.SnapshotsSettled.{one_more_snapshot}

-- what a savepoint says that names a new snapshot of this epoch, whose pages are these
pub record NamesNext (epoch : ℕ) (all : List Page) (q : Savepoint) : Type 0 where
  pub epoch_is : q.epoch ≡ epoch
  pub catalogue : q.catalogue ≡ length all
  pub count : q.count ≡ length all
  pub nothing : (n : ℕ) → counted_of (Some q) n ≡ 0

-- What is known of a new snapshot: what was recovered, the pages that were made, and all pages of the store.
pub record IsNext (r : Recovered) (p : Saved) (made : List (List ℕ)) (all : List Page) : Type 0 where
  pub stand : SnapshotsStand r p
  pub some : 1 ≤ p.catalogue
  pub epoch : r.epoch ≡ p.epoch
  pub next : IsNextOf r p made
  pub words : words_of all ≡ words_of r.store.pages ++ made
  pub whole : AllByRecursion IsWhole all
  pub fit : AllByRecursion (AllByRecursion (λ w. w < 2 ^ 64)) (words_of all)

-- what is read
abbrev pub next_reading : Savepoint → List (List ℕ) → Contents → List Contents → Reading
next_reading q pages c cs = record { point = Some q; pages = pages; catalogues = c ∷ cs; lines = no_log }

module _ (r : Recovered) (p : Saved) (made : List (List ℕ)) (all : List Page) (is : IsNext r p made all) where
  abbrev old : List (List ℕ)
  old = words_of r.store.pages

  -- the new catalogue
  abbrev pub newest : Contents
  newest = next_contents r.epoch p.catalogue is.next.composed.storages

  -- so many pages are there
  pub all_pages : length all ≡ length old + length made
  all_pages = sym (length-map all (λ (x : Page). x.words)) ∙ ap length is.words ∙ length-append old made

  -- the catalogues from the new one back
  chain : (limit : ℕ) → r.epoch < limit
      → AreCatalogues (old ++ made) limit None (length old + length made) (newest ∷ is.stand.catalogues)
  chain limit below =
      let front = newest_is old (p.epoch + 1) p.catalogue is.stand.catalogues is.next.contents is.some is.stand.chain
      is.next.due.here in
      let epoch : newest_epoch is.stand.catalogues ≡ is.next.contents.epoch = ap newest_epoch front.1 in
      let decls : decls_of newest ≡ newest_decls is.stand.catalogues =
      same_storages is.next.run old (old ++ made) deepest is.next.contents.storages is.next.composed.storages
      is.next.composed.each ∙ sym (ap newest_decls front.1) in
      let here = is.next.composed.stands.here in
      let some : p.catalogue ≤ length old = is.next.due.here.there in (
        omega (arith, is.some, some),
        record {
          here = here;
          epoch = below;
          decls = tt;
          first = λ none. absurd (omega (arith, none, is.some));
        },
        chain_below (old ++ made) (p.epoch + 1) r.epoch p.catalogue (decls_of newest) is.stand.catalogues is.some
            (chain-append old made (p.epoch + 1) None p.catalogue is.stand.catalogues is.stand.chain)
            (omega (arith, epoch, is.next.can.later)) decls,
      )

  -- all pages of the new snapshot, with no number above its epoch
  pub roots : AllByRecursion (RootStandsUpTo r.epoch (old ++ made)) newest.storages
  roots =
      let front = newest_is old (p.epoch + 1) p.catalogue is.stand.catalogues is.next.contents is.some is.stand.chain
      is.next.due.here in
      let later = is.next.can.later in
      let stands = subst (λ cs. AllByRecursion (RootStandsUpTo (newest_epoch cs) old) (newest_storages cs)) front.1
      is.stand.stands in
      roots_early is.next.run (decls_of is.next.contents) old (old ++ made) is.next.contents.epoch r.epoch
      (omega (arith, later)) is.next.can.entries is.next.contents.storages is.next.composed.storages
      is.next.composed.each stands

  -- devices that name the savepoint and begin with the pages say this
  pub next_reads : (q : Savepoint) (other : Images) → NamesNext r.epoch all q → Names other.save (Some q)
      → IsFront (bytes_of_pages all) other.snaps
      → IsReading other (next_reading q (words_of all) newest is.stand.catalogues)
  next_reads q other says names front =
      let size : length (bytes_of_pages all) ≡ 512 * length all = whole_size all is.whole in
      let bytes : bytes_of_pages all ≡ take (512 * length all) other.snaps =
      sym front ∙ ap (λ n. take n other.snaps) size in
      let has = has_pages all (length all) other.snaps is.whole is.fit refl bytes in
      record {
        names = names;
        counts = record {
          snapshot = record {
            has = subst (λ n. HasPages other.snaps n (words_of all)) (sym says.count) has;
            chain = subst (λ n. AreCatalogues (words_of all) (q.epoch + 1) None n (newest ∷ is.stand.catalogues))
                (sym all_pages ∙ sym says.catalogue)
                (subst (λ ws. AreCatalogues ws (q.epoch + 1) None (length old + length made)
                (newest ∷ is.stand.catalogues)) (sym is.words)
                (chain (q.epoch + 1) (omega (arith, says.epoch_is))));
            stands = subst (λ ws. AllByRecursion (RootStandsUpTo r.epoch ws) newest.storages) (sym is.words) roots;
          };
          files = counts_nothing (decls_of newest) q other.bank says.nothing;
        };
      }

  -- the new snapshot has the state that was recovered
  pub next_state : (key : Key) → get r.state key ≡ value_at (record_in (words_of all)) newest.storages key
  next_state key =
      let front = newest_is old (p.epoch + 1) p.catalogue is.stand.catalogues is.next.contents is.some is.stand.chain
      is.next.due.here in
      let run = is.next.run in
      let was : Key → Option ℕ = λ k. value_at (record_in old) is.next.contents.storages k in
      let own = λ (k : Key) (e : Entry) (at : get r.entries k ≡ Some e). (is.stand.entries k e at).0 in
      let snapshot : (k : Key) → value_at (record_in old) (newest_storages is.stand.catalogues) k ≡ was k =
      λ k. ap (λ cs. value_at (record_in old) (newest_storages cs) k) front.1 in
      let now : (k : Key) → get r.state k ≡ value_over (change_for run k) (was k) =
      λ k. is.stand.state k
      ∙ ap (λ e. value_over e (value_at (record_in old) (newest_storages is.stand.catalogues) k))
      (sym (change_is r.entries run is.next.due.run_is own k))
      ∙ ap (value_over (change_for run k)) (snapshot k) in
      let before = comes_from was run r.state now in
      now key
      ∙ ap (value_over (change_for run key)) (sym (before.1 key))
      ∙ sym (get-overlay before.0 run key)
      ∙ is.next.composed.content before.0 before.1 key
      ∙ ap (λ ws. value_at (record_in ws) newest.storages key) (sym is.words)

  -- so they stand for what was recovered, with one snapshot more
  pub next_recovers : (q : Savepoint) (found other : Images) → (recovers : Recovers found r) → r.saved ≡ Some p
      → r.saved ≡ option_map saved_of r.save.newest → NamesNext r.epoch all q → Names other.save (Some q)
      → IsFront (bytes_of_pages all) other.snaps → StandsAsRead recovers.reading other r.epoch r.state
  next_recovers q found other recovers saved from says names front =
      let was = recovers.reading in
      let point = point_says r.save.newest p (sym saved ∙ from) in
      let reads : ReadsSaved found point.0 was =
      subst (λ x. ReadsBy found x was) (sym recovers.point ∙ point.1) recovers.is.counts in
      let number : p.catalogue ≡ point.0.catalogue = ap (λ (x : Saved). x.catalogue) point.2 in
      let limit : p.epoch ≡ point.0.epoch = ap (λ (x : Saved). x.epoch) point.2 in
      let chain_was = reads.snapshot.chain in
      let same : is.stand.catalogues ≡ was.catalogues = one_chain was.pages (point.0.epoch + 1) None point.0.catalogue
      is.stand.catalogues was.catalogues
      (subst (λ ws. AreCatalogues ws (point.0.epoch + 1) None point.0.catalogue is.stand.catalogues) recovers.pages
      (subst (λ n. AreCatalogues old (point.0.epoch + 1) None n is.stand.catalogues) number
      (subst (λ n. AreCatalogues old (n + 1) None p.catalogue is.stand.catalogues) limit is.stand.chain))) chain_was in
      record {
        is = record {
          reading = next_reading q (words_of all) newest is.stand.catalogues;
          is = next_reads q other says names front;
          epoch_is = sym says.epoch_is;
          state_is = next_state;
        };
        keeps = one_more_snapshot was (next_reading q (words_of all) newest is.stand.catalogues) r.epoch r.state newest
            made (point.0.epoch + 1) point.0.catalogue chain_was
            (is.words ∙ ap (λ ws. ws ++ made) recovers.pages) (ap (λ cs. newest ∷ cs) same) refl
            next_state;
      }

  -- the storages stay
  pub next_decls : r.decls ≡ decls_of newest
  next_decls =
      let front = newest_is old (p.epoch + 1) p.catalogue is.stand.catalogues is.next.contents is.some is.stand.chain
      is.next.due.here in
      is.stand.decls ∙ ap newest_decls front.1
      ∙ sym (same_storages is.next.run old (old ++ made) deepest is.next.contents.storages
      is.next.composed.storages is.next.composed.each)
