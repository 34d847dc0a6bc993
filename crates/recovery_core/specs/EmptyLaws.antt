-- A storage without pages stands, and has no record.
use Rattle.std.specs.Prelude.{◌≡◌, ℕ, zero, suc, ◌+◌, ◌-◌, ◌/◌, ◌≤◌, Bool, true, false, List, [], Option, None}
use Rattle.std.specs.Prelude.{nat_le, cond}
use Rattle.std.proofs.Common.{refl, sym, ap, ◌∙◌, subst, arith}
use Rattle.std.specs.List.{AllByRecursion}
use Rattle.std.proofs.lemmas.Bool.Decides.{nat_tests}
use Rattle.serial_model.specs.declared.decl.Decl.{Decl}
use Rattle.serial_model.specs.declared.decl.Decl.TheVariants.{Array, Tree}
use Rattle.snapshot_store.specs.declared.place.PagePlace.{PagePlace}
use Rattle.snapshot_store.specs.Places.{Found, at_key, find, here_or_below, Cover, Tiles, StandsTo}
use Rattle.snapshot_store.specs.ArrayPages.{fan, leaf_room, row, array_below, array_format}
use Rattle.snapshot_store.specs.Content.{deepest, last_index, record_in}
use Rattle.recovery_core.specs.SnapshotPages.{IsPageUpTo, RootStandsUpTo}

-- a place without a page
abbrev pub no_page : ℕ → ℕ → PagePlace
no_page low high = record { number = 0; low = low; high = high }

-- so many parts in a row, from one index on, end just before another
abbrev Ends : ℕ → ℕ → ℕ → ℕ → Type 0
Ends part low zero high = low ≡ high + 1
Ends part low (suc n) high = Ends part (low + part) n high

ends_above : (part low n high : ℕ) → Ends part low n high → low ≤ high + 1
ends_above part low zero high ends = omega (arith, ends)
ends_above part low (suc n) high ends = omega (arith, ends_above part (low + part) n high ends)

-- places without pages, in a row, have no gap
rows_cover : (part : ℕ) → 1 ≤ part → (n low high : ℕ) → Ends part low (suc n) high
    → Cover low high (row [] part low (suc n))
rows_cover part some zero low high ends =
    (refl, omega (arith, some), omega (arith, some, ends), omega (arith, some, ends))
rows_cover part some (suc n) low high ends =
    let above = ends_above part (low + part) (suc n) high ends in
    let next : low + part ≡ low + (part - 1) + 1 = omega (arith, some) in (
      refl,
      omega (arith, some),
      omega (arith, some, above),
      subst (λ k. Cover k high (row [] part (low + part) (suc n))) next
          (rows_cover part some n (low + part) high ends),
    )

rows_all : (P : PagePlace → Type 0) (part : ℕ) → ((low : ℕ) → P (no_page low (low + (part - 1)))) → (n low : ℕ)
    → AllByRecursion P (row [] part low n)
rows_all P part each zero low = tt
rows_all P part each (suc n) low = (each low, rows_all P part each n (low + part))

rows_find : (key part : ℕ) (f : PagePlace → Option Found) → ((low : ℕ) → f (no_page low (low + (part - 1))) ≡ None)
    → (n low : ℕ) → at_key key f (row [] part low n) ≡ None
rows_find key part f each zero low = refl
rows_find key part f each (suc n) low =
    elim (nat_le key (low + (part - 1))) as
    (λ b. cond b (f (no_page low (low + (part - 1)))) (at_key key f (row [] part (low + part) n)) ≡ None) [
      | true ↦ each low
      | false ↦ rows_find key part f each n (low + part)
    ]

-- what is below a leaf, and below an interior page of either height
leaf_below : (low : ℕ) → array_below [] low (low + 31) ≡ []
unfolding leaf_room
leaf_below low =
    let small : nat_le (low + 31 + 1 - low) 32 ≡ true = grind (arith, nat_tests) in
    rw small refl

middle_below : (low : ℕ) → array_below [] low (low + 2047) ≡ row [] 32 low 64
unfolding leaf_room fan
middle_below low =
    let large : nat_le (low + 2047 + 1 - low) 32 ≡ false = grind (arith, nat_tests) in
    let part : (low + 2047 + 1 - low) / 64 ≡ 32 = omega arith in
    rw (large, part) (refl {a = row [] 32 low 64})

top_below : (low : ℕ) → array_below [] low (low + 131071) ≡ row [] 2048 low 64
unfolding leaf_room fan
top_below low =
    let large : nat_le (low + 131071 + 1 - low) 32 ≡ false = grind (arith, nat_tests) in
    let part : (low + 131071 + 1 - low) / 64 ≡ 2048 = omega arith in
    rw (large, part) (refl {a = row [] 2048 low 64})

module _ (pages : List (List ℕ)) (epoch id size : ℕ) where
  right : (low high : ℕ) → IsPageUpTo epoch (Array id size) (no_page low high) []
  right low high = record {
    page = record { none = λ _. refl; page = λ some. absurd (omega (arith, some)) };
    numbers = λ leaf key from to. tt;
  }

  pub leaf_stands : (d low : ℕ)
      → StandsTo array_format (IsPageUpTo epoch (Array id size)) pages (suc d) (no_page low (low + 31))
  leaf_stands d low = record {
    there = omega arith;
    right = right low (low + 31);
    tiles = subst (Tiles low (low + 31)) (sym (leaf_below low)) tt;
    below = subst (AllByRecursion (StandsTo array_format (IsPageUpTo epoch (Array id size)) pages d))
        (sym (leaf_below low)) tt;
  }

  pub middle_stands : (d low : ℕ)
      → StandsTo array_format (IsPageUpTo epoch (Array id size)) pages (suc (suc d)) (no_page low (low + 2047))
  middle_stands d low = record {
    there = omega arith;
    right = right low (low + 2047);
    tiles = subst (Tiles low (low + 2047)) (sym (middle_below low))
        (rows_cover 32 (omega arith) 63 low (low + 2047) (omega arith));
    below = subst (AllByRecursion (StandsTo array_format (IsPageUpTo epoch (Array id size)) pages (suc d)))
        (sym (middle_below low))
        (rows_all (StandsTo array_format (IsPageUpTo epoch (Array id size)) pages (suc d)) 32 (leaf_stands d) 64 low);
  }

  pub top_stands : (d low : ℕ)
      → StandsTo array_format (IsPageUpTo epoch (Array id size)) pages (suc (suc (suc d))) (no_page low (low + 131071))
  top_stands d low = record {
    there = omega arith;
    right = right low (low + 131071);
    tiles = subst (Tiles low (low + 131071)) (sym (top_below low))
        (rows_cover 2048 (omega arith) 63 low (low + 131071) (omega arith));
    below = subst (AllByRecursion (StandsTo array_format (IsPageUpTo epoch (Array id size)) pages (suc (suc d))))
        (sym (top_below low))
        (rows_all (StandsTo array_format (IsPageUpTo epoch (Array id size)) pages (suc (suc d))) 2048
        (middle_stands d) 64 low);
  }

module _ (pages : List (List ℕ)) (key : ℕ) where
  pub leaf_finds : (d low : ℕ) → find array_format pages (suc d) key (no_page low (low + 31)) ≡ None
  leaf_finds d low = ap
      (here_or_below None (at_key key (find array_format pages d key) (array_below [] low (low + 31))))
      (leaf_below low)

  pub middle_finds : (d low : ℕ) → find array_format pages (suc (suc d)) key (no_page low (low + 2047)) ≡ None
  middle_finds d low =
      ap (λ qs. here_or_below None (at_key key (find array_format pages (suc d) key) qs) qs) (middle_below low)
      ∙ rows_find key 32 (find array_format pages (suc d) key) (leaf_finds d) 64 low

  pub top_finds : (d low : ℕ) → find array_format pages (suc (suc (suc d))) key (no_page low (low + 131071)) ≡ None
  top_finds d low =
      ap (λ qs. here_or_below None (at_key key (find array_format pages (suc (suc d)) key) qs) qs) (top_below low)
      ∙ rows_find key 2048 (find array_format pages (suc (suc d)) key) (middle_finds d) 64 low

-- the root of a storage without pages stands
pub empty_stands : (pages : List (List ℕ)) (epoch : ℕ) (d : Decl)
    → RootStandsUpTo epoch pages (record { decl = d; root = 0 })
unfolding deepest
empty_stands pages epoch (Array id size) =
    elim (nat_le size 32) as
    (λ b. StandsTo array_format (IsPageUpTo epoch (Array id size)) pages 32
    (no_page 0 (cond b 31 (cond (nat_le size 2048) 2047 131071)))) [
      | true ↦ leaf_stands pages epoch id size 31 0
      | false ↦ elim (nat_le size 2048) as
          (λ b. StandsTo array_format (IsPageUpTo epoch (Array id size)) pages 32 (no_page 0 (cond b 2047 131071))) [
            | true ↦ middle_stands pages epoch id size 30 0
            | false ↦ top_stands pages epoch id size 29 0
          ]
    ]
empty_stands pages epoch (Tree id) = record {
  there = omega arith;
  right = record {
    page = record { none = λ _. refl; page = λ some. absurd (omega (arith, some)) };
    numbers = λ leaf key from to. tt;
  };
  tiles = tt;
  below = tt;
}

-- and has no record
pub empty_record : (pages : List (List ℕ)) (d : Decl) (key : ℕ) → record_in pages (record { decl = d; root = 0 }) key
    ≡ None
unfolding deepest
empty_record pages (Array id size) key =
    none_if (nat_le key (last_index size)) (find array_format pages 32 key (no_page 0 (last_index size)))
    (elim (nat_le size 32) as
    (λ b. find array_format pages 32 key (no_page 0 (cond b 31 (cond (nat_le size 2048) 2047 131071))) ≡ None) [
      | true ↦ leaf_finds pages key 31 0
      | false ↦ elim (nat_le size 2048) as
          (λ b. find array_format pages 32 key (no_page 0 (cond b 2047 131071)) ≡ None) [
            | true ↦ middle_finds pages key 30 0
            | false ↦ top_finds pages key 29 0
          ]
    ])
  where
    none_if : (b : Bool) (found : Option Found) → found ≡ None → cond b found None ≡ None
    none_if true found none = none
    none_if false found none = refl
empty_record pages (Tree id) key =
    elim (nat_le key 18446744073709551615) as
    (λ b. ◌≡◌ {A = Option Found} (cond b None None) None) [ true ↦ refl | false ↦ refl ]
