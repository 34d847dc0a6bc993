-- What `compose` has read and made, for the catalogue's contents.
use Rattle.std.proofs.Common.{◌≡◌, ℕ, ◌+◌, ◌-◌, ◌<◌, ◌≤◌, ◌^◌, List, [], ◌∷◌, ◌++◌, length, Some, refl, sym, ap, subst, ◌∙◌, arith}
use Rattle.std.specs.Prelude.{slice_get}
use Rattle.std.specs.List.{AllByRecursion}
use Rattle.std.proofs.lemmas.List.{length-append, length-map}
use Rattle.lists.specs.Each.{all_weaker}
use Rattle.root_composer.specs.declared.fault.ComposeFault.{ComposeFault}
use Rattle.wire_form.specs.declared.page.Page.{Page}
use Rattle.wire_form.specs.declared.bucket.Entry.{Entry}
use Rattle.wire_form.specs.declared.records.Stored.{Stored}
use Rattle.wire_form.specs.Pages.{Contents, IsCatalogue, catalogue_words}
use Rattle.snapshot_store.specs.Content.{deepest, words_of, CatalogueAt}
use Rattle.root_composer.specs.Storages.{compose_storages, with_roots, StoragesMade, StoragesDeep}
use Rattle.root_composer.specs.Composition.{CanCompose, WouldCompose, next_contents, new_count, level_count}
use Rattle.snapshot_store.specs.ReadLaws.{page_at}
use Rattle.root_composer.proofs.ReadyLemmas.{ready}
use Rattle.root_composer.proofs.Compositions.{right_at, snapshot_made, length-with_roots}

-- the catalogue's page has its words
pub catalogue_read : (pages : List Page) (number : ℕ) (contents : Contents) (p : Page) → CatalogueAt (words_of pages) number contents → slice_get pages (number - 1) ≡ Some p → p.words ≡ catalogue_words contents
catalogue_read pages number contents p at is = sym (page_at pages number p (omega (arith, at.catalogue.previous)) is) ∙ at.words

-- what was made of these storages and entries is what is made of those
pub made_of : (run slice : List Entry) (old : List (List ℕ)) (ss read : List Stored) (made : List (List ℕ)) (roots : List ℕ) → slice ≡ run → read ≡ ss → StoragesMade slice old read made roots → StoragesMade run old ss made roots
made_of run slice old ss read made roots same_run same all =
    subst (λ (l : List Stored). StoragesMade run old l made roots) same (subst (λ (r : List Entry). StoragesMade r old read made roots) same_run all)

-- what was made of the storages that were read is made of the catalogue's
pub record ReadAndMade (pages : List (List ℕ)) (contents : Contents) (run : List Entry) (read : List Stored) (made : List (List ℕ)) (roots : List ℕ) : Type 0 where
  pub same : read ≡ contents.storages
  pub all : StoragesMade run pages contents.storages made roots

pub read_and_made : (pages : List Page) (number : ℕ) (contents : Contents) (run slice : List Entry) (epoch : ℕ) (p : Page) (stored read : List Stored) (made : List (List ℕ)) (roots : List ℕ)
    → CanCompose (words_of pages) number contents run epoch → slice_get pages (number - 1) ≡ Some p → slice ≡ run → read ≡ stored
    → ((others : Contents) → IsCatalogue number others → p.words ≡ catalogue_words others → stored ≡ others.storages)
    → StoragesMade slice (words_of pages) read made roots → ReadAndMade (words_of pages) contents run read made roots
read_and_made pages number contents run slice epoch p stored read made roots can here same_run value storages all =
    let same : read ≡ contents.storages = value ∙ storages contents can.stands.here.catalogue (catalogue_read pages number contents p can.stands.here here) in
    record { same = same; all = made_of run slice (words_of pages) contents.storages read made roots same_run same all }

-- the new roots
pub record RootsFit (ss : List Stored) (most : ℕ) (roots : List ℕ) : Type 0 where
  pub each : AllByRecursion (λ n. n ≤ most) roots
  pub count : length roots ≡ length ss

numbers_of : (most : ℕ) (ss : List Stored) (ns : List ℕ) → length ns ≡ length ss → AllByRecursion (λ t. t.root ≤ most) (with_roots ss ns) → AllByRecursion (λ n. n ≤ most) ns
numbers_of most [] [] e all = tt
numbers_of most [] (n ∷ ns) e all = absurd (omega (arith, e))
numbers_of most (s ∷ ss) [] e all = absurd (omega (arith, e))
numbers_of most (s ∷ ss) (n ∷ ns) e all = (all.0, numbers_of most ss ns (omega (arith, e)) all.1)

pub roots_fit : (pages : List (List ℕ)) (number : ℕ) (contents : Contents) (run : List Entry) (epoch : ℕ) (made : List (List ℕ)) (roots : List ℕ) → CanCompose pages number contents run epoch
    → StoragesMade run pages contents.storages made roots → RootsFit contents.storages (length pages + length made) roots
roots_fit pages number contents run epoch made roots can all =
    let right = right_at run pages contents.storages (ready pages number contents run epoch can) in
    let m = compose_storages run pages contents.storages (length pages) in
    let count = right.count in
    let each = numbers_of (length pages + length m.pages) contents.storages m.numbers count right.below in
    let same : length pages + length m.pages ≡ length pages + length made = omega (arith, ap length all.pages) in
    record {
      each = subst (λ (l : List ℕ). AllByRecursion (λ n. n ≤ length pages + length made) l) (sym all.numbers) (subst (λ (k : ℕ). AllByRecursion (λ n. n ≤ k) m.numbers) same each);
      count = ap length all.numbers ∙ count;
    }

pub small_roots : (ss : List Stored) (most : ℕ) (roots : List ℕ) → most < 2 ^ 32 → RootsFit ss most roots → AllByRecursion (λ n. n < 2 ^ 32) roots
small_roots ss most roots small fit = all_weaker (λ n. n ≤ most) (λ n. n < 2 ^ 32) (λ n h. omega arith) roots fit.each

pub few_pages : (pages : List Page) (made : List (List ℕ)) (have count room : ℕ) → have ≡ length pages → count ≡ length made → have + (count + 1) ≤ room → room ≤ 65536 → length (words_of pages) + length made < 2 ^ 32
few_pages pages made have count room h c fits small = omega (arith, h, c, fits, small, length-map pages (λ (q : Page). q.words))

-- the storages with their new roots
pub rooted : (ss read again stored : List Stored) (roots slice : List ℕ) → read ≡ ss → again ≡ read → slice ≡ roots → stored ≡ with_roots again slice → stored ≡ with_roots ss roots
rooted ss read again stored roots slice same twice whole is = is ∙ ap (λ l. with_roots l slice) (twice ∙ same) ∙ ap (with_roots ss) whole

pub few_rooted : (ss stored : List Stored) (most : ℕ) (roots : List ℕ) → RootsFit ss most roots → length ss ≤ 16 → stored ≡ with_roots ss roots → length stored ≤ 16
few_rooted ss stored most roots fit few is = omega (arith, few, ap length is, length-with_roots ss roots fit.count)

-- so many pages would be made
pub would_compose : (pages : List (List ℕ)) (number : ℕ) (contents : Contents) (run : List Entry) (epoch : ℕ) (made : List (List ℕ)) (roots : List ℕ) (new : ℕ) → CanCompose pages number contents run epoch
    → StoragesMade run pages contents.storages made roots → new ≡ length made + 1 → WouldCompose run epoch number contents pages new
would_compose pages number contents run epoch made roots new can all count =
    let w : List ℕ = catalogue_words (next_contents epoch number (with_roots contents.storages roots)) in (
      omega (arith, count, ap length all.pages),
      all.levels,
      (
        made ++ w ∷ [],
        snapshot_made pages number contents run epoch made roots w can all refl,
        omega (arith, count, length-append made (w ∷ [])),
      ),
    )

-- how many pages were made
pub counted : (pages : List (List ℕ)) (contents : Contents) (run : List Entry) (made : List (List ℕ)) (roots : List ℕ) (new : List Page) (w : List ℕ) → StoragesMade run pages contents.storages made roots → words_of new ≡ made ++ w ∷ []
    → (length new ≡ new_count run contents pages) × (level_count run contents pages ≤ deepest)
counted pages contents run made roots new w all is =
    (omega (arith, ap length is, length-map new (λ (q : Page). q.words), length-append made (w ∷ []), ap length all.pages), all.levels)

-- what would be too deep of these storages and entries would be so of those
pub deep_of : (pages : List Page) (number : ℕ) (contents : Contents) (run slice : List Entry) (epoch : ℕ) (p : Page) (stored read : List Stored) (fault : ComposeFault)
    → CanCompose (words_of pages) number contents run epoch → slice_get pages (number - 1) ≡ Some p → slice ≡ run → read ≡ stored
    → ((others : Contents) → IsCatalogue number others → p.words ≡ catalogue_words others → stored ≡ others.storages)
    → StoragesDeep slice (words_of pages) read fault → StoragesDeep run (words_of pages) contents.storages fault
deep_of pages number contents run slice epoch p stored read fault can here same_run value storages deep =
    let same : read ≡ contents.storages = value ∙ storages contents can.stands.here.catalogue (catalogue_read pages number contents p can.stands.here here) in
    subst (λ (l : List Stored). StoragesDeep run (words_of pages) l fault) same (subst (λ (r : List Entry). StoragesDeep r (words_of pages) read fault) same_run deep)
