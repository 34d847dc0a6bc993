-- The pages that are made for all storages, and their catalogue, are a composed snapshot.
use Rattle.std.proofs.Common.{◌≡◌, ℕ, ◌+◌, ◌<◌, ◌≤◌, suc, List, [], ◌∷◌, ◌++◌, length, map, refl, sym, ap, subst, ◌∙◌, arith, append-nil}
use Rattle.std.specs.List.{AllByRecursion}
use Rattle.std.proofs.lemmas.List.{length-append}
use Rattle.lists.specs.Each.{all_weaker}
use Rattle.wire_form.specs.declared.bucket.Entry.{Entry}
use Rattle.wire_form.specs.declared.records.Stored.{Stored}
use Rattle.wire_form.specs.Items.{Rises}
use Rattle.wire_form.specs.Pages.{IsStored, stored_id, Contents, IsCatalogue, catalogue_words}
use Rattle.snapshot_store.specs.Places.{page}
use Rattle.snapshot_store.specs.Content.{deepest, record_in, RootStands}
use Rattle.root_composer.specs.Composed.{numbered}
use Rattle.root_composer.specs.Composer.{AllMade}
use Rattle.root_composer.specs.Storages.{AreComposed, newer_of, compose_storages, with_roots, IsReady, IsWithin, StoragesMade}
use Rattle.root_composer.specs.Composition.{CanCompose, IsComposed, IsTooDeep, next_contents}
use Rattle.root_composer.proofs.MadeLemmas.{page_there, numbered-append}
use Rattle.root_composer.proofs.ContentLaw.{content_overlaid}
use Rattle.root_composer.proofs.StoragesLaw.{AllRight, storages_right, each_overlaid, roots_there, roots_stand}
use Rattle.root_composer.proofs.ReadyLemmas.{ready, no_change}

-- ---- storages with other roots

pub length-with_roots : (ss : List Stored) (ns : List ℕ) → length ns ≡ length ss → length (with_roots ss ns) ≡ length ss
length-with_roots [] ns e = refl
length-with_roots (s ∷ ss) [] e = absurd (omega (arith, e))
length-with_roots (s ∷ ss) (n ∷ ns) e = ap suc (length-with_roots ss ns (omega (arith, e)))

ids-with_roots : (ss : List Stored) (ns : List ℕ) → length ns ≡ length ss → map stored_id (with_roots ss ns) ≡ map stored_id ss
ids-with_roots [] ns e = refl
ids-with_roots (s ∷ ss) [] e = absurd (omega (arith, e))
ids-with_roots (s ∷ ss) (n ∷ ns) e = ap (λ l. stored_id s ∷ l) (ids-with_roots ss ns (omega (arith, e)))

stored-with_roots : (number old : ℕ) (ss : List Stored) (ns : List ℕ) → AllByRecursion (IsStored old) ss → AllByRecursion (λ t. t.root < number) (with_roots ss ns) → AllByRecursion (IsStored number) (with_roots ss ns)
stored-with_roots number old [] ns all below = tt
stored-with_roots number old (s ∷ ss) [] all below = tt
stored-with_roots number old (s ∷ ss) (n ∷ ns) all below = (record { decl = all.0.decl; root = below.0 }, stored-with_roots number old ss ns all.1 below.1)

-- ---- all of it

-- the roots that were made name pages below the catalogue
roots_below : (run : List Entry) (pages : List (List ℕ)) (d : ℕ) (ss : List Stored) (m : AllMade) → AllRight run pages [] [] d ss m → AllByRecursion (λ t. t.root ≤ length pages + length m.pages) (with_roots ss m.numbers)
roots_below run pages d ss m right =
    let same : (pages ++ []) ++ (m.pages ++ []) ≡ pages ++ m.pages = ap (λ l. l ++ (m.pages ++ [])) (append-nil pages) ∙ ap (λ l. pages ++ l) (append-nil m.pages) in
    all_weaker (λ t. t.root ≤ length ((pages ++ []) ++ (m.pages ++ []))) (λ t. t.root ≤ length pages + length m.pages) (λ t h. omega (arith, h, ap length same, length-append pages m.pages)) (with_roots ss m.numbers)
    (roots_there run pages ((pages ++ []) ++ (m.pages ++ [])) d ss (with_roots ss m.numbers) right.each)

-- the same for any pages that come later
pub record RightAt (run : List Entry) (pages : List (List ℕ)) (ss : List Stored) (m : AllMade) : Type 0 where
  pub below : AllByRecursion (λ t. t.root ≤ length pages + length m.pages) (with_roots ss m.numbers)
  pub right : (later : List (List ℕ)) (d : ℕ) → m.levels ≤ d → AllRight run pages [] later d ss m
  pub count : length m.numbers ≡ length ss

pub right_at : (run : List Entry) (pages : List (List ℕ)) (ss : List Stored) → AllByRecursion (IsReady run pages) ss → RightAt run pages ss (compose_storages run pages ss (length pages))
right_at run pages ss all =
    let same : length pages ≡ length (pages ++ []) = ap length (sym (append-nil pages)) in
    let m : AllMade = compose_storages run pages ss (length pages) in
    let least = storages_right run pages ss [] (length pages) [] m.levels same all (omega arith) in
    record {
      below = roots_below run pages m.levels ss (compose_storages run pages ss (length pages)) least;
      right = λ (later : List (List ℕ)) (d : ℕ) le. storages_right run pages ss [] (length pages) later d same all le;
      count = least.count;
    }

-- the catalogue, behind the pages that were made
new_catalogue : (pages : List (List ℕ)) (number : ℕ) (contents : Contents) (run : List Entry) (epoch : ℕ) (m : AllMade) → CanCompose pages number contents run epoch → RightAt run pages contents.storages m
    → IsCatalogue (suc (length pages + length m.pages)) (next_contents epoch number (with_roots contents.storages m.numbers))
new_catalogue pages number contents run epoch m can right =
    let was = can.stands.here.catalogue in
    let count = right.count in
    record {
      epoch = can.last;
      previous = omega (arith, can.stands.here.there);
      most = omega (arith, length-with_roots contents.storages m.numbers count, was.most);
      each = stored-with_roots (suc (length pages + length m.pages)) number contents.storages m.numbers was.each
          (all_weaker (λ t. t.root ≤ length pages + length m.pages) (λ t. t.root < suc (length pages + length m.pages)) (λ t h. omega (arith, h)) (with_roots contents.storages m.numbers) right.below);
      rising = subst (λ l. Rises ◌<◌ l) (sym (ids-with_roots contents.storages m.numbers count)) was.rising;
    }

made_with : (pages : List (List ℕ)) (number : ℕ) (contents : Contents) (run : List Entry) (epoch : ℕ) (m : AllMade) (w : List ℕ) → CanCompose pages number contents run epoch → RightAt run pages contents.storages m
    → m.levels ≤ deepest → AllByRecursion (IsWithin run) contents.storages → w ≡ catalogue_words (next_contents epoch number (with_roots contents.storages m.numbers)) → IsComposed run epoch number contents pages (m.pages ++ w ∷ [])
made_with pages number contents run epoch m w can right le within is =
    let all = right.right (w ∷ []) deepest le in
    let same : (pages ++ []) ++ (m.pages ++ (w ∷ [])) ≡ pages ++ (m.pages ++ w ∷ []) = ap (λ l. l ++ (m.pages ++ w ∷ [])) (append-nil pages) in
    let none : length (pages ++ []) ≡ length pages = ap length (append-nil pages) in
    let count : length pages + length (m.pages ++ w ∷ []) ≡ suc (length pages + length m.pages) = omega (arith, length-append m.pages (w ∷ [])) in
    let last : length pages + length (m.pages ++ w ∷ []) ≡ length pages + 1 + length m.pages = omega (arith, count) in
    let each = subst (λ (x : List (List ℕ)). AreComposed run pages x deepest contents.storages (with_roots contents.storages m.numbers)) same all.each in
    let order : newer_of (pages ++ (m.pages ++ w ∷ [])) (length pages) deepest (with_roots contents.storages m.numbers) ≡ numbered (length pages + 1) m.pages =
    ap (λ x. newer_of x (length pages) deepest (with_roots contents.storages m.numbers)) (sym same) ∙ all.order ∙ ap (λ k. numbered (k + 1) m.pages) none in
    let words : page (pages ++ (m.pages ++ w ∷ [])) (suc (length pages + length m.pages)) ≡ w =
    ap (λ l. page (pages ++ l) (suc (length pages + length m.pages))) (sym (append-nil (m.pages ++ w ∷ []))) ∙ page_there pages m.pages [] w in
    record {
      storages = with_roots contents.storages m.numbers;
      each = each;
      order =
          ap (λ t. t ++ (length pages + length (m.pages ++ w ∷ [])) ∷ []) order
          ∙ ap (λ k. numbered (length pages + 1) m.pages ++ k ∷ []) last
          ∙ sym (numbered-append (length pages + 1) m.pages (w ∷ []));
      stands = record {
        here = record {
          there = omega (arith, length-append pages (m.pages ++ w ∷ []));
          catalogue = subst (λ (k : ℕ). IsCatalogue k (next_contents epoch number (with_roots contents.storages m.numbers))) (sym count) (new_catalogue pages number contents run epoch m can right);
          words = ap (page (pages ++ (m.pages ++ w ∷ []))) count ∙ words ∙ is;
        };
        roots = roots_stand run pages (pages ++ (m.pages ++ w ∷ [])) contents.storages (with_roots contents.storages m.numbers) each;
      };
      content = λ state content. content_overlaid run (record_in pages) (record_in (pages ++ (m.pages ++ w ∷ []))) contents.storages (with_roots contents.storages m.numbers) state
          (each_overlaid run pages (pages ++ (m.pages ++ w ∷ [])) contents.storages (with_roots contents.storages m.numbers) within each)
          (λ key none. no_change epoch contents.storages run key can.entries none) content;
    }

-- what the code made
pub snapshot_made : (pages : List (List ℕ)) (number : ℕ) (contents : Contents) (run : List Entry) (epoch : ℕ) (made : List (List ℕ)) (roots w : List ℕ) → CanCompose pages number contents run epoch
    → StoragesMade run pages contents.storages made roots
    → w ≡ catalogue_words (next_contents epoch number (with_roots contents.storages roots)) → IsComposed run epoch number contents pages (made ++ w ∷ [])
snapshot_made pages number contents run epoch made roots w can all is =
    let m : AllMade = compose_storages run pages contents.storages (length pages) in
    let right = right_at run pages contents.storages (ready pages number contents run epoch can) in
    let words = is ∙ ap (λ ns. catalogue_words (next_contents epoch number (with_roots contents.storages ns))) all.numbers in
    subst (λ (x : List (List ℕ)). IsComposed run epoch number contents pages (x ++ w ∷ [])) (sym all.pages) (made_with pages number contents run epoch m w can right all.levels all.within words)

-- what would be made, were more pages let stand one below another
pub snapshot_deep : (pages : List (List ℕ)) (number : ℕ) (contents : Contents) (run : List Entry) (epoch : ℕ) → CanCompose pages number contents run epoch
    → deepest < (compose_storages run pages contents.storages (length pages)).levels → (made : List (List ℕ)) × IsTooDeep run contents pages made
snapshot_deep pages number contents run epoch can deep =
    let m : AllMade = compose_storages run pages contents.storages (length pages) in
    let right = right_at run pages contents.storages (ready pages number contents run epoch can) in
    let all = right.right [] m.levels (omega arith) in
    let ts : List Stored = with_roots contents.storages m.numbers in
    let same : (pages ++ []) ++ (m.pages ++ []) ≡ pages ++ m.pages = ap (λ l. l ++ (m.pages ++ [])) (append-nil pages) ∙ ap (λ l. pages ++ l) (append-nil m.pages) in
    let none : length (pages ++ []) ≡ length pages = ap length (append-nil pages) in (
      m.pages,
      record {
        storages = ts;
        depth = m.levels;
        each = subst (λ (x : List (List ℕ)). AreComposed run pages x m.levels contents.storages ts) same all.each;
        order = ap (λ x. newer_of x (length pages) m.levels ts) (sym same) ∙ all.order ∙ ap (λ k. numbered (k + 1) m.pages) none;
        deep = λ stand.
            let least : m.levels ≤ deepest = all.least (subst (λ (x : List (List ℕ)). AllByRecursion (RootStands x) ts) (sym same) stand) in
            omega (arith, least, deep);
        levels = deep;
      },
    )
