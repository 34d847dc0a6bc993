-- The way down an array's pages.
use Rattle.std.proofs.Common.{◌≡◌, ℕ, ◌+◌, ◌-◌, ◌*◌, ◌/◌, ◌<◌, ◌≤◌, zero, suc, true, false, List, [], length, get_or}
use Rattle.std.proofs.Common.{drop, cond, Option, refl, sym, ap, ◌∙◌, subst, arith}
use Rattle.std.specs.Prelude.{nat_le}
use Rattle.std.specs.List.{AllByRecursion}
use Rattle.std.proofs.lemmas.Bool.Decides.{nat_tests}
use Rattle.std.proofs.lemmas.Grind.{get_or_after_one}
use Rattle.std.proofs.lemmas.List.{append-nil}
use Rattle.snapshot_store.specs.declared.place.PagePlace.{PagePlace}
use Rattle.snapshot_store.specs.Places.{Found, page, at_key, find, here_or_below, StandsTo}
use Rattle.snapshot_store.specs.ArrayPages.{fan, leaf_room, row, array_below, array_found, array_look, array_format}
use Rattle.snapshot_store.specs.ArrayPages.{IsArrayPage}
use Rattle.snapshot_store.specs.Content.{deepest}
use Rattle.snapshot_store.specs.StandLaws.{stands-append}
use Rattle.array_pages.specs.Snapshots.{StandsAbove}

pub deepest_is : deepest ≡ suc (suc (suc 29))
unfolding deepest
deepest_is = refl

fan_is : fan ≡ suc 63
unfolding fan
fan_is = refl

le_yes : (a b : ℕ) → a ≤ b → nat_le a b ≡ true
le_yes a b h = grind (arith, nat_tests)

le_no : (a b : ℕ) → b < a → nat_le a b ≡ false
le_no a b h = grind (arith, nat_tests)

-- ---- places in a row

-- the i-th place of a row
abbrev pub child : List ℕ → ℕ → ℕ → ℕ → PagePlace
child words part low i = record { number = get_or words i 0; low = low + i * part; high = low + i * part + (part - 1) }

same_place : (n m a b c d : ℕ) → n ≡ m → a ≡ b → c ≡ d
    → (let p : PagePlace = record { number = n; low = a; high = c } in p) ≡
    (let q : PagePlace = record { number = m; low = b; high = d } in q)
same_place n m a b c d number low high =
    ap (λ (x : ℕ). let p : PagePlace = record { number = x; low = a; high = c } in p) number
    ∙ (ap (λ (x : ℕ). let p : PagePlace = record { number = m; low = x; high = c } in p) low
    ∙ ap (λ (x : ℕ). let p : PagePlace = record { number = m; low = b; high = x } in p) high)

next_child : (words : List ℕ) (part low i : ℕ) → child (drop 1 words) part (low + part) i ≡ child words part low (suc i)
next_child words part low i =
    let more : suc i * part ≡ part + i * part = omega arith in
    same_place (get_or (drop 1 words) i 0) (get_or words (suc i) 0) (low + part + i * part) (low + suc i * part)
    (low + part + i * part + (part - 1)) (low + suc i * part + (part - 1))
    (get_or_after_one words i 0 ∙ ap (λ j. get_or words j 0) (let e : 1 + i ≡ suc i = omega arith in e))
    (omega (arith, more)) (omega (arith, more))

-- what is looked for at a key is looked for at the place that has it
at_row : (f : PagePlace → Option Found) (n : ℕ) (words : List ℕ) (part low i key : ℕ) → 1 ≤ part → i < n
    → low + i * part ≤ key → key < low + i * part + part
    → at_key key f (row words part low n) ≡ f (child words part low i)
at_row f zero words part low i key some less from to = absurd (omega arith)
at_row f (suc n) words part low zero key some less from to =
    ap (λ b. cond b (f (record { number = get_or words 0 0; low = low; high = low + (part - 1) }))
    (at_key key f (row (drop 1 words) part (low + part) n))) (le_yes key (low + (part - 1)) (omega (arith, some, to)))
    ∙ ap f (same_place (get_or words 0 0) (get_or words 0 0) low (low + 0 * part) (low + (part - 1))
    (low + 0 * part + (part - 1)) refl (omega arith) (omega arith))
at_row f (suc n) words part low (suc i) key some less from to =
    let more : suc i * part ≡ part + i * part = omega arith in
    ap (λ b. cond b (f (record { number = get_or words 0 0; low = low; high = low + (part - 1) }))
    (at_key key f (row (drop 1 words) part (low + part) n)))
    (le_no key (low + (part - 1)) (omega (arith, some, more, from)))
    ∙ (at_row f n (drop 1 words) part (low + part) i key some (omega (arith, less)) (omega (arith, more, from))
    (omega (arith, more, to)) ∙ ap f (next_child words part low i))

-- and what holds of all of them holds of it
in_row : (P : PagePlace → Type 0) (n : ℕ) (words : List ℕ) (part low i : ℕ) → i < n
    → AllByRecursion P (row words part low n)
    → P (child words part low i)
in_row P zero words part low i less all = absurd (omega arith)
in_row P (suc n) words part low zero less all =
    subst P (same_place (get_or words 0 0) (get_or words 0 0) low (low + 0 * part) (low + (part - 1))
    (low + 0 * part + (part - 1)) refl (omega arith) (omega arith)) all.0
in_row P (suc n) words part low (suc i) less all =
    subst P (next_child words part low i) (in_row P n (drop 1 words) part (low + part) i (omega (arith, less)) all.1)

-- ---- one page down

below_leaf : (words : List ℕ) (low high : ℕ) → high ≡ low + 31 → array_below words low high ≡ []
unfolding leaf_room
below_leaf words low high e = rw (le_yes (high + 1 - low) 32 (omega arith)) refl

below_inner : (words : List ℕ) (low high part : ℕ) → 1 ≤ part → high + 1 ≡ low + 64 * part → 32 < 64 * part
    → array_below words low high ≡ row words part low (suc 63)
unfolding leaf_room
below_inner words low high part some ends wide =
    let same : (high + 1 - low) / fan ≡ part = ap (λ k. (high + 1 - low) / k) fan_is ∙ omega (arith, ends) in
    rw (le_no (high + 1 - low) 32 (omega (arith, ends, wide)))
    (ap (λ n. row words n low fan) same ∙ ap (row words part low) fan_is)

-- a leaf's record
pub leaf_find : (pages : List (List ℕ)) (d key number low : ℕ)
    → find array_format pages (suc d) key (record { number = number; low = low; high = low + 31 })
    ≡ array_look (page pages number) low key
leaf_find pages d key number low =
    ap (λ qs. here_or_below (array_look (page pages number) low key) (at_key key (find array_format pages d key) qs) qs)
    (below_leaf (page pages number) low (low + 31) refl)

-- the record is looked for below
pub inner_find : (pages : List (List ℕ)) (d key number low high part i : ℕ) → 1 ≤ part → high + 1 ≡ low + 64 * part
    → 32 < 64 * part → i < 64 → low + i * part ≤ key → key < low + i * part + part
    → find array_format pages (suc d) key (record { number = number; low = low; high = high })
    ≡ find array_format pages d key (child (page pages number) part low i)
inner_find pages d key number low high part i some ends wide less from to =
    ap (λ qs. here_or_below (array_look (page pages number) low key) (at_key key (find array_format pages d key) qs) qs)
    (below_inner (page pages number) low high part some ends wide)
    ∙ at_row (find array_format pages d key) (suc 63) (page pages number) part low i key some less from to

-- and what is below stands
pub inner_stands : (pages : List (List ℕ)) (size d number low high part i : ℕ) → 1 ≤ part → high + 1 ≡ low + 64 * part
    → 32 < 64 * part → i < 64
    → StandsTo array_format (IsArrayPage size) pages (suc d) (record { number = number; low = low; high = high })
    → StandsTo array_format (IsArrayPage size) pages d (child (page pages number) part low i)
inner_stands pages size d number low high part i some ends wide less stands =
    in_row (StandsTo array_format (IsArrayPage size) pages d) (suc 63) (page pages number) part low i less
    (subst (AllByRecursion (StandsTo array_format (IsArrayPage size) pages d))
    (below_inner (page pages number) low high part some ends wide) stands.below)

-- its page is there
pub stands_there : (pages : List (List ℕ)) (size d : ℕ) (p : PagePlace)
    → StandsTo array_format (IsArrayPage size) pages (suc d) p → p.number ≤ length pages
stands_there pages size d p stands = stands.there

-- ---- records

pub leaf_record : (pages : List (List ℕ)) (number low index a b : ℕ)
    → a ≡ get_or (page pages number) (2 * (index - low)) 0 → b ≡ get_or (page pages number) (2 * (index - low) + 1) 0
    → (d : ℕ) → array_found a b ≡ find array_format pages (suc d) index
    (record { number = number; low = low; high = low + 31 })
leaf_record pages number low index a b first second d =
    ap (λ n. array_found n b) first
    ∙ (ap (array_found (get_or (page pages number) (2 * (index - low)) 0)) second
    ∙ sym (leaf_find pages d index number low))

pub middle_record : (pages : List (List ℕ)) (number low index leaf : ℕ) (f : Option Found) → low ≤ index
    → index < low + 2048
    → leaf ≡ get_or (page pages number) ((index - low) / 32) 0
    → ((d : ℕ) → f ≡ find array_format pages (suc d) index
    (record { number = leaf; low = low + (index - low) / 32 * 32; high = low + (index - low) / 32 * 32 + 31 }))
    → (d : ℕ) → f ≡ find array_format pages (suc (suc d)) index
    (record { number = number; low = low; high = low + 2047 })
middle_record pages number low index leaf f from to is below d =
    let i = (index - low) / 32 in
    below d
    ∙ (ap (λ n. find array_format pages (suc d) index
    (record { number = n; low = low + i * 32; high = low + i * 32 + 31 })) is
    ∙ sym (inner_find pages (suc d) index number low (low + 2047) 32 i (omega arith) (omega arith) (omega arith)
    (omega (arith, to)) (omega (arith, from)) (omega (arith, from))))

-- the page of a leaf below a page over leaves is there; below none there is none
pub middle_there : (pages : List (List ℕ)) (number low index leaf : ℕ) → index < low + 2048
    → StandsAbove pages 1 number low → leaf ≡ get_or (page pages number) ((index - low) / 32) 0 → leaf ≤ length pages
middle_there pages zero low index leaf to stands is = omega (arith, is)
middle_there pages (suc n) low index leaf to stands is =
    let i = (index - low) / 32 in
    let st = stands (omega arith) in
    let s = inner_stands pages st.1 (suc st.0) (suc n) low (low + 2047) 32 i (omega arith) (omega arith) (omega arith)
    (omega (arith, to)) st.2 in
    let there = stands_there pages st.1 st.0 (child (page pages (suc n)) 32 low i) s in omega (arith, is, there)

-- a place from the first index on
from_zero : (n m i : ℕ) → n ≡ m
    → (let p : PagePlace = record { number = n; low = 0 + i * 2048; high = 0 + i * 2048 + 2047 } in p)
    ≡ (let q : PagePlace = record { number = m; low = i * 2048; high = i * 2048 + 2047 } in q)
from_zero n m i is =
    same_place n m (0 + i * 2048) (i * 2048) (0 + i * 2048 + 2047) (i * 2048 + 2047) is (omega arith) (omega arith)

pub top_record : (pages : List (List ℕ)) (number index middle : ℕ) (f : Option Found) → index < 131072
    → middle ≡ get_or (page pages number) (index / 2048) 0
    → ((d : ℕ) → f ≡ find array_format pages (suc (suc d)) index
    (record { number = middle; low = index / 2048 * 2048; high = index / 2048 * 2048 + 2047 }))
    → (d : ℕ) → f ≡ find array_format pages (suc (suc (suc d))) index
    (record { number = number; low = 0; high = 131071 })
top_record pages number index middle f to is below d =
    let i = index / 2048 in
    below d
    ∙ (ap (find array_format pages (suc (suc d)) index)
    (sym (from_zero (get_or (page pages number) i 0) middle i (sym is)))
    ∙ sym (inner_find pages (suc (suc d)) index number 0 131071 2048 i (omega arith) (omega arith) (omega arith)
    (omega (arith, to)) (omega arith) (omega arith)))

-- what is below a page over such pages stands, and is there
pub top_stands : (pages : List (List ℕ)) (number index middle : ℕ) → index < 131072 → StandsAbove pages 2 number 0
    → middle ≡ get_or (page pages number) (index / 2048) 0
    → StandsAbove pages 1 middle (index / 2048 * 2048) × (middle ≤ length pages)
top_stands pages zero index middle to stands is = (λ some. absurd (omega (arith, is, some)), omega (arith, is))
top_stands pages (suc n) index middle to stands is =
    let i = index / 2048 in
    let st = stands (omega arith) in
    let s = inner_stands pages st.1 (suc (suc st.0)) (suc n) 0 131071 2048 i (omega arith) (omega arith) (omega arith)
    (omega (arith, to)) st.2 in
    let there = stands_there pages st.1 (suc st.0) (child (page pages (suc n)) 2048 0 i) s in (
      λ some. (
        st.0,
        st.1,
        subst (StandsTo array_format (IsArrayPage st.1) pages (suc (suc st.0)))
            (from_zero (get_or (page pages (suc n)) i 0) middle i (sym is)) s,
      ),
      omega (arith, is, there),
    )

-- ---- from a pointer

-- what stands to some depth stands to the greatest
pub stands_deep : (size depth : ℕ) (pages : List (List ℕ)) (p : PagePlace) → depth ≤ deepest
    → StandsTo array_format (IsArrayPage size) pages depth p
    → StandsTo array_format (IsArrayPage size) pages (suc (suc (suc 29))) p
stands_deep size depth pages p most stands =
    subst (λ (ps : List (List ℕ)). StandsTo array_format (IsArrayPage size) ps (suc (suc (suc 29))) p)
    (append-nil pages)
    (stands-append array_format (IsArrayPage size) pages [] depth (suc (suc (suc 29))) p stands
    (let is = deepest_is in omega (arith, most, is)))

-- what is found so many pages down is what is found below the pointer
pub found_deep : (pages : List (List ℕ)) (index number low high : ℕ) (f : Option Found)
    → f ≡ find array_format pages (suc (suc (suc 29))) index (record { number = number; low = low; high = high })
    → f ≡ find array_format pages deepest index (record { number = number; low = low; high = high })
found_deep pages index number low high f is =
    is ∙ ap (λ (d : ℕ). find array_format pages d index (record { number = number; low = low; high = high }))
    (sym deepest_is)
