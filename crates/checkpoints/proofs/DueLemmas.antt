-- What was recovered can be composed, where log entries count.
use Rattle.std.proofs.Common.{◌≡◌, ℕ, ◌+◌, ◌<◌, ◌≤◌, List, [], ◌∷◌, Option, Some, None, refl, ap, subst, ◌∙◌, arith}
use Rattle.std.specs.Prelude.{IfSome, IsTrue, length}
use Rattle.std.specs.FinMap.{get}
use Rattle.std.specs.List.{AllByRecursion, Contains}
use Rattle.lists.specs.Each.{all_weaker}
use Rattle.lists.specs.Elements.{in_none, in_head, in_tail}
use Rattle.serial_model.specs.declared.decl.Decl.{Decl}
use Rattle.wire_form.specs.LogFile.{has_place_for}
use Rattle.wire_form.specs.Pages.{Contents, decls_of}
use Rattle.wire_form.specs.declared.bucket.Entry.{Entry}
use Rattle.log_writer.specs.Points.{IsSaved}
use Rattle.log_writer.specs.declared.saved.Saved.{Saved}
use Rattle.snapshot_store.specs.Content.{deepest, root_place, words_of, RootStands, CatalogueAt}
use Rattle.root_composer.specs.Composition.{CanCompose, IsEntryOf}
use Rattle.recovery_core.specs.Catalogues.{AreCatalogues, newest_epoch, newest_storages, newest_decls}
use Rattle.recovery_core.specs.EntriesRun.{IsRunOf, AllMayCount, AreOfTheirKeys}
use Rattle.recovery_core.specs.Recovered.{IsUp, HasSnapshots, SnapshotsStand, saved_epoch, saved_count}
use Rattle.recovery_core.specs.SnapshotPages.{RootStandsUpTo}
use Rattle.recovery_core.specs.declared.recovered.Recovered.{Recovered}
use Rattle.checkpoints.specs.Due.{NoneCount, SomeCount, IsDue}
use Rattle.checkpoints.specs.Bounded.{stands_plain}

-- what holds of each that a list has holds of all
all_of : {X : Type 0} (P : X → Type 0) (xs : List X) → ((x : X) → Contains xs x → P x) → AllByRecursion P xs
all_of P [] each = tt
all_of P (x ∷ xs) each = (each x (in_head x xs), all_of P xs (λ y has. each y (in_tail y x xs has)))

-- catalogues from a page on have a newest one
pub newest_of : (pages : List (List ℕ)) (limit number : ℕ) (cs : List Contents) → 1 ≤ number
    → AreCatalogues pages limit None number cs
    → (c : Contents) × (rest : List Contents) × (cs ≡ c ∷ rest) × CatalogueAt pages number c
newest_of pages limit number [] some chain = absurd (omega (arith, some, chain))
newest_of pages limit number (c ∷ cs) some chain = (c, cs, refl, chain.1.here)

-- an empty run is one of no entries
none_in : (r : Recovered) → IsRunOf r.entries [] → NoneCount r
none_in r is key = by_entry (get r.entries key) refl
  where
    by_entry : (o : Option Entry) → get r.entries key ≡ o → get r.entries key ≡ None
    by_entry None at = at
    by_entry (Some e) at = absurd (in_none e (is.all key e at))

-- the saved epoch is above the newest snapshot's, where entries count
later_than : (decls : List Decl) (from to : ℕ) (r : Recovered) (run : List Entry) → IsRunOf r.entries run → SomeCount r
    → AllMayCount decls from to r.entries → from < to
later_than decls from to r [] is some count = absurd (some (none_in r is))
later_than decls from to r (e ∷ es) is some count =
    let may = (count e.key e (is.each e (in_head e es))).1 in omega (arith, may.above, may.within)

pub stand_of : (r : Recovered) (p : Saved) → IsUp r → r.saved ≡ Some p → SnapshotsStand r p
stand_of r p up says = subst (HasSnapshots r) says up.snapshots

pub ranges_of : (r : Recovered) (p : Saved) → IsUp r → r.saved ≡ Some p → IsSaved p
ranges_of r p up says = subst (λ o. IfSome o IsSaved) says up.ranges

pub own_keys : (r : Recovered) (p : Saved) → IsUp r → r.saved ≡ Some p → AreOfTheirKeys r.entries
own_keys r p up says key e at = ((stand_of r p up says).entries key e at).0

-- the last entries can be composed over the newest snapshot
pub can_compose : (r : Recovered) (p : Saved) (run : List Entry) → IsUp r → r.saved ≡ Some p → SomeCount r
    → IsRunOf r.entries run
    → (contents : Contents) × IsDue r p run contents
    × CanCompose (words_of r.store.pages) p.catalogue contents run r.epoch
can_compose r p run up says some is =
    let stand = stand_of r p up says in
    let ranges = ranges_of r p up says in
    let pages = words_of r.store.pages in
    let newest = newest_of pages (p.epoch + 1) p.catalogue stand.catalogues ranges.catalogue stand.chain in
    let c = newest.0 in
    let epoch : r.epoch ≡ p.epoch = up.epoch ∙ ap saved_epoch says in
    let first : newest_epoch stand.catalogues ≡ c.epoch = ap newest_epoch newest.2 in
    let decls : r.decls ≡ decls_of c = stand.decls ∙ ap newest_decls newest.2 in
    let stands : AllByRecursion (RootStandsUpTo c.epoch pages) c.storages =
    subst (λ cs. AllByRecursion (RootStandsUpTo (newest_epoch cs) pages) (newest_storages cs)) newest.2
    stand.stands in (
      c,
      record { some = some; run_is = is; here = newest.3 },
      record {
        stands = record {
          here = newest.3;
          roots = all_weaker (RootStandsUpTo c.epoch pages) (RootStands pages)
              (λ s. stands_plain c.epoch s.decl pages deepest (root_place s.decl s.root)) c.storages stands;
        };
        entries = all_of (IsEntryOf (decls_of c) r.epoch) run (λ e has.
            let may = (stand.entries e.key e (is.each e has)).1 in
            record {
              place = subst (λ ds. IsTrue (has_place_for ds e.key e.value)) decls may.place;
              number = may.number;
              epoch_is = omega (arith, may.within, epoch);
            });
        rising = is.rising;
        later = omega (
          arith,
          later_than r.decls (newest_epoch stand.catalogues) p.epoch r run is some stand.entries,
          first,
          epoch,
        );
        last = omega (arith, ranges.epoch, epoch);
      },
    )

-- the newest catalogue says one thing
pub pages_counted : (r : Recovered) (p : Saved) → IsUp r → r.saved ≡ Some p → length r.store.pages ≡ p.count
pages_counted r p up says = up.count ∙ ap saved_count says
