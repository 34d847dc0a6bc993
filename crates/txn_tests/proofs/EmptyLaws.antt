-- The root of an array without a page stands, whatever its size, and so does a tree's.
use Rattle.std.proofs.Common.{◌≡◌, ℕ, zero, suc, ◌+◌, ◌-◌, ◌/◌, ◌≤◌, true, false, List, [], refl, sym, subst, arith}
use Rattle.std.specs.Prelude.{nat_le, cond}
use Rattle.std.specs.List.{AllByRecursion}
use Rattle.std.proofs.lemmas.Bool.Decides.{nat_tests}
use Rattle.serial_model.specs.declared.decl.Decl.TheVariants.{Array, Tree}
use Rattle.snapshot_store.specs.declared.place.PagePlace.{PagePlace}
use Rattle.snapshot_store.specs.ArrayPages.{fan, leaf_room, row, array_below, array_format, IsArrayPage}
use Rattle.snapshot_store.specs.Content.{deepest, root_place, RootStands}
use Rattle.snapshot_store.specs.Places.{Cover, StandsTo, Tiles}
use Rattle.engine_rule.specs.Reading.{led_places}

-- a place without a page
abbrev no_page : ℕ → ℕ → PagePlace
no_page low high = record { number = 0; low = low; high = high }

-- so many parts in a row, from one index on, end just before another
abbrev Ends : ℕ → ℕ → ℕ → ℕ → Type 0
Ends part low zero high = low ≡ high + 1
Ends part low (suc n) high = Ends part (low + part) n high

ends_above : (part low n high : ℕ) → Ends part low n high → low ≤ high + 1
ends_above part low zero high ends = omega (arith, ends)
ends_above part low (suc n) high ends = omega (arith, ends_above part (low + part) n high ends)

-- places without pages, in a row, have no gap
rows_cover : (part : ℕ) → 1 ≤ part → (n low high : ℕ) → Ends part low (suc n) high
    → Cover low high (row [] part low (suc n))
rows_cover part some zero low high ends =
    (refl, omega (arith, some), omega (arith, some, ends), omega (arith, some, ends))
rows_cover part some (suc n) low high ends =
    let above = ends_above part (low + part) (suc n) high ends in
    let next : low + part ≡ low + (part - 1) + 1 = omega (arith, some) in (
      refl,
      omega (arith, some),
      omega (arith, some, above),
      subst (λ k. Cover k high (row [] part (low + part) (suc n))) next
          (rows_cover part some n (low + part) high ends),
    )

rows_all : (P : PagePlace → Type 0) (part : ℕ) → ((low : ℕ) → P (no_page low (low + (part - 1)))) → (n low : ℕ)
    → AllByRecursion P (row [] part low n)
rows_all P part each zero low = tt
rows_all P part each (suc n) low = (each low, rows_all P part each n (low + part))

-- what is below a leaf, and below an interior page of either height
leaf_below : (low : ℕ) → array_below [] low (low + 31) ≡ []
unfolding leaf_room
leaf_below low =
    let small : nat_le (low + 31 + 1 - low) 32 ≡ true = grind (arith, nat_tests) in
    rw small refl

middle_below : (low : ℕ) → array_below [] low (low + 2047) ≡ row [] 32 low 64
unfolding leaf_room fan
middle_below low =
    let large : nat_le (low + 2047 + 1 - low) 32 ≡ false = grind (arith, nat_tests) in
    let part : (low + 2047 + 1 - low) / 64 ≡ 32 = omega arith in
    rw (large, part) (refl {a = row [] 32 low 64})

top_below : (low : ℕ) → array_below [] low (low + 131071) ≡ row [] 2048 low 64
unfolding leaf_room fan
top_below low =
    let large : nat_le (low + 131071 + 1 - low) 32 ≡ false = grind (arith, nat_tests) in
    let part : (low + 131071 + 1 - low) / 64 ≡ 2048 = omega arith in
    rw (large, part) (refl {a = row [] 2048 low 64})

module _ (size : ℕ) where
  right : (low high : ℕ) → IsArrayPage size (no_page low high) []
  right low high = record { none = λ _. refl; page = λ some. absurd (omega (arith, some)) }

  leaf_stands : (d low : ℕ) → StandsTo array_format (IsArrayPage size) [] (suc d) (no_page low (low + 31))
  leaf_stands d low = record {
    there = omega arith;
    right = right low (low + 31);
    tiles = subst (Tiles low (low + 31)) (sym (leaf_below low)) tt;
    below = subst (AllByRecursion (StandsTo array_format (IsArrayPage size) [] d)) (sym (leaf_below low)) tt;
  }

  middle_stands : (d low : ℕ) → StandsTo array_format (IsArrayPage size) [] (suc (suc d)) (no_page low (low + 2047))
  middle_stands d low = record {
    there = omega arith;
    right = right low (low + 2047);
    tiles = subst (Tiles low (low + 2047)) (sym (middle_below low))
        (rows_cover 32 (omega arith) 63 low (low + 2047) (omega arith));
    below = subst (AllByRecursion (StandsTo array_format (IsArrayPage size) [] (suc d))) (sym (middle_below low))
        (rows_all (StandsTo array_format (IsArrayPage size) [] (suc d)) 32 (leaf_stands d) 64 low);
  }

  top_stands : (d low : ℕ)
      → StandsTo array_format (IsArrayPage size) [] (suc (suc (suc d))) (no_page low (low + 131071))
  top_stands d low = record {
    there = omega arith;
    right = right low (low + 131071);
    tiles = subst (Tiles low (low + 131071)) (sym (top_below low))
        (rows_cover 2048 (omega arith) 63 low (low + 131071) (omega arith));
    below = subst (AllByRecursion (StandsTo array_format (IsArrayPage size) [] (suc (suc d)))) (sym (top_below low))
        (rows_all (StandsTo array_format (IsArrayPage size) [] (suc (suc d))) 2048 (middle_stands d) 64 low);
  }

pub root_stands : (size : ℕ) → RootStands [] (record { decl = Array 1 size; root = 0 })
unfolding deepest
root_stands size =
    elim (nat_le size 32) as
    (λ b. StandsTo array_format (IsArrayPage size) [] 32
    (no_page 0 (cond b 31 (cond (nat_le size 2048) 2047 131071)))) [
      | true ↦ leaf_stands size 31 0
      | false ↦ elim (nat_le size 2048) as
          (λ b. StandsTo array_format (IsArrayPage size) [] 32 (no_page 0 (cond b 2047 131071))) [
            | true ↦ middle_stands size 30 0
            | false ↦ top_stands size 29 0
          ]
    ]

-- it leads to no page
pub no_leads : (size d : ℕ) → led_places (Array 1 size) [] d (root_place (Array 1 size) 0) ≡ []
no_leads size zero = refl
no_leads size (suc d) = refl

-- ---- a tree

pub tree_stands : RootStands [] (record { decl = Tree 2; root = 0 })
unfolding deepest
tree_stands = record {
  there = omega arith;
  right = record { none = λ _. refl; page = λ some. absurd (omega (arith, some)) };
  tiles = tt;
  below = tt;
}

pub tree_leads : (d : ℕ) → led_places (Tree 2) [] d (root_place (Tree 2) 0) ≡ []
tree_leads zero = refl
tree_leads (suc d) = refl
