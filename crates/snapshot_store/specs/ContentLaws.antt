-- A snapshot has the same content, whatever pages are added behind, as laws for those who add some.
use Rattle.std.specs.Prelude.{◌≡◌, ℕ, ◌==◌, List, [], ◌∷◌, ◌++◌, Option, None, nat_le, cond}
use Rattle.std.proofs.Common.{refl, sym, ap, ◌∙◌, arith}
use Rattle.std.specs.List.{AllByRecursion}
use Rattle.std.proofs.lemmas.List.{length-append}
use Rattle.lists.specs.Each.{all_weaker}
use Rattle.serial_model.specs.Keys.{id_of}
use Rattle.serial_model.specs.State.{State}
use Rattle.serial_model.specs.declared.key.Key.{Key}
use Rattle.wire_form.specs.declared.records.Stored.{Stored}
use Rattle.wire_form.specs.Pages.{Contents}
use Rattle.snapshot_store.specs.Places.{Found}
use Rattle.snapshot_store.specs.Content.{deepest, root_place, format_of, IsPageOf, record_in, value_of, value_at}
use Rattle.snapshot_store.specs.Content.{RootStands, CatalogueAt, SnapshotStands, IsSnapshotContent}
use Rattle.snapshot_store.specs.StandLaws.{page-append, find-append, stands-append}

-- a root stands
pub root_stands-append : (pages more : List (List ℕ)) (s : Stored) → RootStands pages s → RootStands (pages ++ more) s
root_stands-append pages more s stands =
    stands-append (format_of s.decl) (IsPageOf s.decl) pages more deepest deepest (root_place s.decl s.root) stands
    (omega arith)

-- and each record is found
pub record_in-append : (pages more : List (List ℕ)) (s : Stored) (key : ℕ) → RootStands pages s
    → record_in (pages ++ more) s key ≡ record_in pages s key
record_in-append pages more s key stands =
    ap (λ o. cond (nat_le key (root_place s.decl s.root).high) o None)
    (find-append (format_of s.decl) (IsPageOf s.decl) pages more deepest deepest key (root_place s.decl s.root)
    stands (omega arith))

-- a value is that of one of the storages
value_at-same : (f g : Stored → ℕ → Option Found) (ss : List Stored) (key : Key)
    → AllByRecursion (λ s. f s key.key ≡ g s key.key) ss → value_at f ss key ≡ value_at g ss key
value_at-same f g [] key all = refl
value_at-same f g (s ∷ ss) key all =
    ap (λ o. cond (id_of s.decl == key.storage) (value_of o) (value_at f ss key)) all.0
    ∙ ap (λ o. cond (id_of s.decl == key.storage) (value_of (g s key.key)) o) (value_at-same f g ss key all.1)

-- a catalogue stays where it is
pub catalogue-append : (pages more : List (List ℕ)) (number : ℕ) (contents : Contents)
    → CatalogueAt pages number contents → CatalogueAt (pages ++ more) number contents
catalogue-append pages more number contents here = record {
  there = omega (arith, here.there, length-append pages more);
  catalogue = here.catalogue;
  words = page-append pages more number here.there ∙ here.words;
}

-- a snapshot stands
pub snapshot_stands-append : (pages more : List (List ℕ)) (number : ℕ) (contents : Contents)
    → SnapshotStands pages number contents → SnapshotStands (pages ++ more) number contents
snapshot_stands-append pages more number contents stands = record {
  here = catalogue-append pages more number contents stands.here;
  roots = all_weaker (RootStands pages) (RootStands (pages ++ more)) (root_stands-append pages more)
      contents.storages stands.roots;
}

-- and has the same content
pub content-append : (pages more : List (List ℕ)) (number : ℕ) (contents : Contents) (state : State)
    → SnapshotStands pages number contents
    → IsSnapshotContent pages number contents state → IsSnapshotContent (pages ++ more) number contents state
content-append pages more number contents state stands content = record {
  here = catalogue-append pages more number contents content.here;
  content = λ key.
      content.content key
      ∙ sym (value_at-same (record_in (pages ++ more)) (record_in pages) contents.storages key
      (all_weaker (RootStands pages) (λ s. record_in (pages ++ more) s key.key ≡ record_in pages s key.key)
      (λ s root. record_in-append pages more s key.key root) contents.storages stands.roots));
}
