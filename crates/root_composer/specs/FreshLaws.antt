-- The first snapshot of one storage, without pages: it stands.
use Rattle.std.proofs.Common.{◌≡◌, ℕ, ◌+◌, ◌-◌, ◌*◌, ◌/◌, ◌^◌, ◌<◌, ◌≤◌, zero, suc, true}
use Rattle.std.proofs.Common.{false, List, [], ◌∷◌, ◌++◌, length, refl, sym, ap, subst, ◌∙◌, arith, leb}
use Rattle.std.specs.Prelude.{cond}
use Rattle.std.specs.List.{AllByRecursion}
use Rattle.std.proofs.lemmas.Bool.Decides.{nat_tests}
use Rattle.serial_model.specs.Decls.{IsDecl}
use Rattle.serial_model.specs.declared.decl.Decl.{Decl}
use Rattle.serial_model.specs.declared.decl.Decl.TheVariants.{Array, Tree}
use Rattle.wire_form.specs.declared.page.Page.{Page}
use Rattle.wire_form.specs.Pages.{Contents, IsCatalogue, catalogue_words}
use Rattle.snapshot_store.specs.declared.place.PagePlace.{PagePlace}
use Rattle.snapshot_store.specs.Places.{StandsTo, Cover, Tiles}
use Rattle.snapshot_store.specs.ArrayPages.{fan, leaf_room, span_of, row, array_below}
use Rattle.snapshot_store.specs.TreePages.{tree_format, IsTreePage}
use Rattle.snapshot_store.specs.Content.{deepest, last_index, words_of, RootStands}
use Rattle.snapshot_store.specs.ReadLaws.{deepest_is, fan_is, room_is}
use Rattle.root_composer.specs.ArrayCode.{ArrayStands}
use Rattle.root_composer.specs.Newest.{IsNewest}

-- ---- tests of numbers

-- a greater number is not at most a smaller one
pub too_wide : (a b : ℕ) → b < a → leb a b ≡ false
too_wide a b h = grind (arith, nat_tests)

-- a number is at most each that is none below it
pub fits : (a b : ℕ) → a ≤ b → leb a b ≡ true
fits a b h = grind (arith, nat_tests)

-- ---- the first

-- what its catalogue says
abbrev pub no_pages : Decl → Contents
no_pages d = record { epoch = 0; previous = 0; storages = record { decl = d; root = 0 } ∷ [] }

is_catalogue : (d : Decl) → IsDecl d → IsCatalogue 1 (no_pages d)
is_catalogue d is = record {
  epoch = omega arith;
  previous = omega arith;
  most = omega arith;
  each = (record { decl = is; root = omega arith }, tt);
  rising = (tt, tt);
}

no_tree : (pages : List (List ℕ)) (d high : ℕ) → StandsTo tree_format IsTreePage pages (suc d) (record { number = 0; low = 0; high = high })
no_tree pages d high = record {
  there = omega arith;
  right = record { none = λ e. refl; page = λ h. absurd (omega (arith, h)) };
  tiles = tt;
  below = tt;
}

-- a range of an array for which no page stands
abbrev no_page : ℕ → ℕ → PagePlace
no_page low span = record { number = 0; low = low; high = low + (span - 1) }

span_is : (low span : ℕ) → 0 < span → span_of low (low + (span - 1)) ≡ span
span_is low span some = omega arith

no_leaf : (size : ℕ) (pages : List (List ℕ)) (d low : ℕ) → ArrayStands size pages (suc d) (no_page low 32)
no_leaf size pages d low =
    let narrow : span_of low (low + (32 - 1)) ≤ leaf_room = omega (arith, room_is) in
    let leaf : array_below [] low (low + (32 - 1)) ≡ [] =
    ap (λ b. cond b [] (row [] (span_of low (low + (32 - 1)) / fan) low fan)) (fits (span_of low (low + (32 - 1))) leaf_room narrow) in
    record {
      there = omega arith;
      right = record { none = λ e. refl; page = λ h. absurd (omega (arith, h)) };
      tiles = subst (Tiles low (low + (32 - 1))) (sym leaf) tt;
      below = subst (AllByRecursion (ArrayStands size pages d)) (sym leaf) tt;
    }

empty_row : (P : PagePlace → Type 0) (part low n : ℕ) → ((at : ℕ) → P (no_page at part)) → AllByRecursion P (row [] part low n)
empty_row P part low zero each = tt
empty_row P part low (suc n) each = (each low, empty_row P part (low + part) n each)

-- so many parts of a length
abbrev parts : ℕ → ℕ → ℕ
parts part zero = 0
parts part (suc n) = part + parts part n

covered : (part low high n : ℕ) → 0 < part → low + parts part n ≡ high + 1 → Cover low high (row [] part low n)
covered part low high zero some end = omega (arith, end)
covered part low high (suc n) some end =
    let next : low + part ≡ low + (part - 1) + 1 = omega arith in
    let rest : low + (part + parts part n) ≡ high + 1 = end in
    (refl, omega arith, omega (arith, rest), subst (λ (x : ℕ). Cover x high (row [] part (low + part) n)) next (covered part (low + part) high n some (omega (arith, rest))))

tiled : (part low high n : ℕ) → 0 < n → Cover low high (row [] part low n) → Tiles low high (row [] part low n)
tiled part low high zero some cover = absurd (omega (arith, some))
tiled part low high (suc n) some cover = cover

no_inner : (size : ℕ) (pages : List (List ℕ)) (d low span part : ℕ) → 32 < span → 0 < part → span ≡ 64 * part → span / 64 ≡ part → ((at : ℕ) → ArrayStands size pages d (no_page at part)) → ArrayStands size pages (suc d) (no_page low span)
no_inner size pages d low span part wide some whole part_is each =
    let is = span_is low span (omega (arith, wide)) in
    let more : leaf_room < span_of low (low + (span - 1)) = omega (arith, room_is, wide, is) in
    let each_part : span_of low (low + (span - 1)) / fan ≡ part = ap (λ x. x / fan) is ∙ ap (λ k. span / k) fan_is ∙ part_is in
    let below : array_below [] low (low + (span - 1)) ≡ row [] part low fan =
    ap (λ b. cond b [] (row [] (span_of low (low + (span - 1)) / fan) low fan)) (too_wide (span_of low (low + (span - 1))) leaf_room more)
    ∙ ap (λ k. row [] k low fan) each_part in
    let end : low + parts part 64 ≡ low + (span - 1) + 1 = omega (arith, whole, wide) in
    let all : low + parts part fan ≡ low + (span - 1) + 1 = ap (λ k. low + parts part k) fan_is ∙ end in
    record {
      there = omega arith;
      right = record { none = λ e. refl; page = λ h. absurd (omega (arith, h)) };
      tiles = subst (Tiles low (low + (span - 1))) (sym below) (tiled part low (low + (span - 1)) fan (omega (arith, fan_is)) (covered part low (low + (span - 1)) fan some all));
      below = subst (AllByRecursion (ArrayStands size pages d)) (sym below) (empty_row (ArrayStands size pages d) part low fan each);
    }

no_array : (size : ℕ) (pages : List (List ℕ)) (d : ℕ) → ArrayStands size pages (suc (suc (suc d))) (record { number = 0; low = 0; high = last_index size })
no_array size pages d =
    let leaves = no_inner size pages (suc d) 0 2048 32 (omega arith) (omega arith) refl refl (no_leaf size pages d) in
    let inners = no_inner size pages (suc (suc d)) 0 131072 2048 (omega arith) (omega arith) refl refl
    (λ at. no_inner size pages (suc d) at 2048 32 (omega arith) (omega arith) refl refl (no_leaf size pages d)) in
    elim (leb size 32) as (λ b. ArrayStands size pages (suc (suc (suc d))) (record { number = 0; low = 0; high = cond {A = ℕ} b 31 (cond {A = ℕ} (leb size 2048) 2047 131071) })) [
      | true ↦ no_leaf size pages (suc (suc d)) 0
      | false ↦ elim (leb size 2048) as (λ b. ArrayStands size pages (suc (suc (suc d))) (record { number = 0; low = 0; high = cond {A = ℕ} b 2047 131071 })) [
        | true ↦ no_inner size pages (suc (suc d)) 0 2048 32 (omega arith) (omega arith) refl refl (no_leaf size pages (suc d))
        | false ↦ inners
      ]
    ]

no_root : (pages : List (List ℕ)) (d : Decl) → RootStands pages (record { decl = d; root = 0 })
no_root pages (Array id size) =
    let some : 32 ≡ deepest = sym deepest_is in
    subst (λ (k : ℕ). ArrayStands size pages k (record { number = 0; low = 0; high = last_index size })) some (no_array size pages 29)
no_root pages (Tree id) =
    let some : 32 ≡ deepest = sym deepest_is in
    subst (λ (k : ℕ). StandsTo tree_format IsTreePage pages k (record { number = 0; low = 0; high = 2 ^ 64 - 1 })) some (no_tree pages 31 (2 ^ 64 - 1))

-- a store whose only page is the catalogue of a storage without pages
pub first_stands : (old new : List Page) (p : Page) (d : Decl) → IsDecl d → length old ≡ 0 → new ≡ old ++ p ∷ [] → p.words ≡ catalogue_words (no_pages d) → IsNewest d 0 (words_of new)
first_stands [] new p d is none same words =
    let only : words_of new ≡ catalogue_words (no_pages d) ∷ [] = ap words_of same ∙ ap (λ w. w ∷ []) words in
    subst (IsNewest d 0) (sym only) (
      no_pages d,
      record {
        here = record { there = omega arith; catalogue = is_catalogue d is; words = refl };
        roots = (no_root (catalogue_words (no_pages d) ∷ []) d, tt);
      },
      refl,
      refl,
    )
first_stands (q ∷ qs) new p d is none same words = absurd (omega (arith, none))
