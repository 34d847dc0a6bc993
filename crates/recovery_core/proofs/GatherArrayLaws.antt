-- Arrays: what the page of a place is, and the places below it.
use Rattle.std.proofs.Common.{◌≡◌, ℕ, ◌+◌, ◌-◌, ◌*◌, ◌/◌, ◌^◌, ◌<◌, ◌≤◌, zero, suc, true, false, List, [], ◌∷◌}
use Rattle.std.proofs.Common.{◌++◌, length, get_or, drop, replicate, Some, None, refl, sym, ap, subst, ◌∙◌}
use Rattle.std.proofs.Common.{arith, inl, inr}
use Rattle.std.specs.Prelude.{cond, min, ◌==◌, IfSome}
use Rattle.std.specs.Int.{div_ceil}
use Rattle.std.specs.List.{AllByRecursion}
use Rattle.std.proofs.lemmas.List.{drop_more}
use Rattle.std.proofs.lemmas.Bool.{cases_eq}
use Rattle.serial_model.specs.declared.decl.Decl.TheVariants.{Array}
use Rattle.serial_model.specs.State.{State}
use Rattle.wire_form.specs.declared.page.PageKind.TheVariants.{ArrayLeaf, ArrayInner}
use Rattle.wire_form.specs.Pages.{IsChild, HasKind}
use Rattle.snapshot_store.specs.declared.place.PagePlace.{PagePlace}
use Rattle.snapshot_store.specs.Places.{Found, find, Cover, words_at, places_below, StandsTo}
use Rattle.snapshot_store.specs.ArrayPages.{fan, leaf_room, row, array_below, array_found, array_look}
use Rattle.snapshot_store.specs.ArrayPages.{IsLevel, array_format, array_kind}
use Rattle.snapshot_store.specs.ReadLaws.{fan_is}
use Rattle.recovery_core.specs.Damage.{first_byte, BreaksTo}
use Rattle.recovery_core.specs.SnapshotPages.{epoch_in, IsPageUpTo}
use Rattle.recovery_core.specs.EmptyLaws.{no_page, leaf_stands, middle_stands, top_stands, leaf_finds}
use Rattle.recovery_core.specs.EmptyLaws.{middle_finds, top_finds}
use Rattle.recovery_core.specs.Gather.{Puts, is_from, array_records, found_at, Gathered, Gathers}
use Rattle.recovery_core.proofs.GatherLaws.{le_yes, le_no, eq_no, no_found, puts_none, puts_same, gathers_begin}
use Rattle.recovery_core.proofs.GatherLaws.{gathers_more, gathers_break, inner_gathered, leaf_gathered}
use Rattle.recovery_core.proofs.GatherLaws.{breaks_here, breaks_below}

-- ---- the kind of a page

pub kind_leaf : (size low high used : ℕ) → high - low + 1 ≤ 32 → low ≤ high → used ≡ min (size - low) 32
    → ArrayLeaf used ≡ array_kind size low high
unfolding leaf_room
kind_leaf size low high used narrow some e = rw (le_yes (high + 1 - low) 32 (omega arith))
    (ap ArrayLeaf (omega arith))

pub kind_inner : (size low high used : ℕ) → 32 < high - low + 1 → low ≤ high
    → used ≡ min (div_ceil (size - low) ((high - low + 1) / 64)) 64 → ArrayInner used ≡ array_kind size low high
unfolding leaf_room fan
kind_inner size low high used wide some e =
    let same : (high - low + 1) / 64 ≡ (high + 1 - low) / 64 = ap (λ n. n / 64) (omega arith) in
    let part : used ≡ min (div_ceil (size - low) ((high + 1 - low) / 64)) 64 = e
    ∙ ap (λ n. min (div_ceil (size - low) n) 64) same in
    rw (le_no (high + 1 - low) 32 (omega arith)) (ap ArrayInner (omega arith))

-- ---- ranges

pub level_up : (d low high : ℕ) → IsLevel d low high → IsLevel 3 low high
level_up d low high (inl x) = inl (omega arith, x.1)
level_up d low high (inr (inl x)) = inr (inl (omega arith, x.1))
level_up d low high (inr (inr x)) = inr (inr (omega arith, x.1))

pub level_some : (d low high : ℕ) → IsLevel d low high → (1 ≤ d) × (low ≤ high)
level_some d low high (inl x) = (x.0, omega (arith, x.1))
level_some d low high (inr (inl x)) = (omega (arith, x.0), omega (arith, x.1))
level_some d low high (inr (inr x)) = (omega (arith, x.0), omega (arith, x.1))

-- a narrow range is a leaf's
pub level_leaf : (d low high : ℕ) → IsLevel d low high → high - low < 32 → high ≡ low + 31
level_leaf d low high (inl x) narrow = x.1
level_leaf d low high (inr (inl x)) narrow = absurd (omega (arith, x.1))
level_leaf d low high (inr (inr x)) narrow = absurd (omega (arith, x.1))

-- the parts of a wide one
pub level_inner : (d low high : ℕ) → IsLevel d low high → 32 ≤ high - low
    → (low + 64 * ((high - low + 1) / 64) ≡ high + 1) × (1 ≤ (high - low + 1) / 64) ×
    ((at : ℕ) → IsLevel (d - 1) at (at + ((high - low + 1) / 64 - 1)))
level_inner d low high (inl x) wide = absurd (omega (arith, x.1))
level_inner d low high (inr (inl x)) wide =
    let part : (high - low + 1) / 64 ≡ 32 = omega (arith, x.1) in
    (omega (arith, x.1), omega arith, λ at. inl (omega (arith, x.0), omega arith))
level_inner d low high (inr (inr x)) wide =
    let part : (high - low + 1) / 64 ≡ 2048 = omega (arith, x.1) in
    (omega (arith, x.1), omega arith, λ at. inr (inl (omega (arith, x.0), omega arith)))

-- ---- the places below a page

pub below_leaf : (words : List ℕ) (low high : ℕ) → high ≡ low + 31 → array_below words low high ≡ []
unfolding leaf_room
below_leaf words low high e = rw (le_yes (high + 1 - low) 32 (omega arith)) refl

pub below_inner : (words : List ℕ) (low high : ℕ) → 32 ≤ high - low
    → array_below words low high ≡ row words ((high - low + 1) / 64) low fan
unfolding leaf_room
below_inner words low high wide =
    let same : (high + 1 - low) / fan ≡ (high - low + 1) / 64 = ap (λ k. (high + 1 - low) / k) fan_is
    ∙ ap (λ n. n / 64) (omega arith) in
    rw (le_no (high + 1 - low) 32 (omega arith)) (ap (λ part. row words part low fan) same)

length-row : (words : List ℕ) (part low n : ℕ) → length (row words part low n) ≡ n
length-row words part low zero = refl
length-row words part low (suc n) = ap suc (length-row (drop 1 words) part (low + part) n)

pub some_places : (words : List ℕ) (part low : ℕ) → 0 < length (row words part low fan)
some_places words part low = omega (arith, fan_is, length-row words part low fan)

-- equal parts have no gap
cover_row : (words : List ℕ) (part : ℕ) → 1 ≤ part → (n low high : ℕ) → low + suc n * part ≡ high + 1
    → Cover low high (row words part low (suc n))
cover_row words part some zero low high ends =
    (refl, omega (arith, some), omega (arith, some, ends), omega (arith, some, ends))
cover_row words part some (suc n) low high ends =
    let one : suc (suc n) * part ≡ part + suc n * part = omega arith in
    let more : suc n * part ≡ part + n * part = omega arith in
    let next : low + part ≡ low + (part - 1) + 1 = omega (arith, some) in (
      refl,
      omega (arith, some),
      omega (arith, some, ends),
      subst
          (λ k. Cover k high (row (drop 1 words) part (low + part) (suc n))) next
          (cover_row (drop 1 words) part some n (low + part) high (omega (arith, ends))),
    )

pub cover_places : (words : List ℕ) (part low high : ℕ) → 1 ≤ part → low + 64 * part ≡ high + 1
    → Cover low high (row words part low fan)
cover_places words part low high some ends =
    let count : 64 ≡ fan = sym fan_is in
    subst (λ n. Cover low high (row words part low n)) count (cover_row words part some 63 low high ends)

-- the places from one on are that one and those behind it
pub row_more : (words : List ℕ) (part at i : ℕ) → i < length words → i < fan
    → row (drop i words) part at (fan - i)
    ≡ (record { number = get_or words i 0; low = at; high = at + (part - 1) }) ∷ row (drop (i + 1) words) part
    (at + part) (fan - (i + 1))
row_more words part at i short more =
    let left : fan - i ≡ suc (fan - (i + 1)) = omega arith in
    ap (λ k. row (drop i words) part at k) left
    ∙ ap (λ ws. row ws part at (suc (fan - (i + 1)))) (drop_more words i 0 short)

-- ---- what is right

pub is_up_to_kind : (epoch id size : ℕ) (p : PagePlace) (words : List ℕ) → 0 < p.number
    → IsPageUpTo epoch (Array id size) p words → HasKind (array_kind size p.low p.high) p.number words
is_up_to_kind epoch id size p words some right = right.page.page some

-- an interior page has no records
pub inner_right : (epoch id size : ℕ) (p : PagePlace) (words : List ℕ) → 0 < p.number
    → HasKind (array_kind size p.low p.high) p.number words → 32 ≤ p.high - p.low
    → IsPageUpTo epoch (Array id size) p words
inner_right epoch id size p words some kind wide = record {
  page = record { none = λ zero. absurd (omega (arith, zero, some)); page = λ more. kind };
  numbers = λ leaf. absurd (omega (
    arith,
    fan_is,
    ap length leaf,
    ap length (below_inner words p.low p.high wide),
    length-row words ((p.high - p.low + 1) / 64) p.low fan,
  ));
}

-- the epoch of what is found
found_epoch : (number value epoch : ℕ) → number / 2 ^ 40 ≤ epoch
    → IfSome (array_found number value) (λ found. epoch_in found.number ≤ epoch)
found_epoch number value epoch h =
    elim (number == 0) as
    (λ b. IfSome (cond b None (Some (record { number = number; value = value })))
    (λ (found : Found). epoch_in found.number ≤ epoch)) [ true ↦ tt | false ↦ h ]

epoch_found : (number value epoch : ℕ) → IfSome (array_found number value) (λ found. epoch_in found.number ≤ epoch)
    → number / 2 ^ 40 ≤ epoch
epoch_found number value epoch h = elim (cases_eq number 0) [
  | inl never ↦ omega (arith, never)
  | inr some ↦ rw (eq_no number 0 some) at h
]

pub leaf_right : (epoch id size : ℕ) (p : PagePlace) (words : List ℕ) → 0 < p.number
    → HasKind (array_kind size p.low p.high) p.number words → p.high ≡ p.low + 31
    → ((i : ℕ) → i < 32 → get_or words (2 * i) 0 / 2 ^ 40 ≤ epoch) → IsPageUpTo epoch (Array id size) p words
leaf_right epoch id size p words some kind leaf numbers = record {
  page = record { none = λ zero. absurd (omega (arith, zero, some)); page = λ more. kind };
  numbers = λ _ key from to. found_epoch (get_or words (2 * (key - p.low)) 0)
      (get_or words (2 * (key - p.low) + 1) 0) epoch (numbers (key - p.low) (omega (arith, leaf)));
}

pub leaf_numbers : (epoch id size : ℕ) (p : PagePlace) (words : List ℕ) → p.high ≡ p.low + 31
    → IsPageUpTo epoch (Array id size) p words → (i : ℕ) → i < 32 → get_or words (2 * i) 0 / 2 ^ 40 ≤ epoch
leaf_numbers epoch id size p words leaf right i below =
    let found = right.numbers (below_leaf words p.low p.high leaf) (p.low + i) (omega arith) (omega (arith, leaf)) in
    let index : p.low + i - p.low ≡ i = omega arith in
    epoch_found (get_or words (2 * i) 0) (get_or words (2 * i + 1) 0) epoch
    (subst (λ k. IfSome (array_found (get_or words (2 * k) 0) (get_or words (2 * k + 1) 0))
    (λ found. epoch_in found.number ≤ epoch)) index found)

-- ---- pointers

zeros_at : (n i : ℕ) → ◌≡◌ {A = ℕ} (get_or (replicate n 0) i 0) 0
zeros_at zero i = refl
zeros_at (suc n) zero = refl
zeros_at (suc n) (suc i) = zeros_at n i

pointer_at : (number : ℕ) (pointers : List ℕ) (n i : ℕ) → AllByRecursion (IsChild 0 number) pointers → 0 < number
    → get_or (pointers ++ replicate n 0) i 0 < number
pointer_at number [] n i all some = omega (arith, zeros_at n i, some)
pointer_at number (p ∷ ps) n zero all some = all.0.1
pointer_at number (p ∷ ps) n (suc i) all some = pointer_at number ps n i all.1 some

-- pointers go down
pub child_below : (epoch id size : ℕ) (p : PagePlace) (words : List ℕ) (i : ℕ) → 0 < p.number → 32 ≤ p.high - p.low
    → IsPageUpTo epoch (Array id size) p words → get_or words i 0 < p.number
unfolding leaf_room
child_below epoch id size p words i some wide right =
    let kind = rw (le_no (p.high + 1 - p.low) 32 (omega arith)) at (right.page.page some) in
    subst (λ ws. get_or ws i 0 < p.number) (sym kind.2)
    (pointer_at p.number kind.0 (64 - length kind.0) i kind.1.each some)

-- ---- a place without a page

module _ (pages : List (List ℕ)) (epoch id size : ℕ) where
  abbrev Right : PagePlace → List ℕ → Type 0
  Right = IsPageUpTo epoch (Array id size)

  abbrev Stand : ℕ → PagePlace → Type 0
  Stand d p = StandsTo array_format Right pages d p

  abbrev Whole : ℕ → PagePlace → State → State → Type 0
  Whole d p old now = Gathered array_format Right pages d id p old now

  abbrev Broken : ℕ → ℕ → PagePlace → Type 0
  Broken n d p = BreaksTo array_format Right pages n d p

  empty_stands_at : (d low high : ℕ) → IsLevel d low high → Stand d (no_page low high)
  empty_stands_at d low high (inl x) =
      let deep : suc (d - 1) ≡ d = omega (arith, x.0) in
      subst (λ k. Stand k (no_page low high)) deep
      (subst (λ h. Stand (suc (d - 1)) (no_page low h)) (sym x.1) (leaf_stands pages epoch id size (d - 1) low))
  empty_stands_at d low high (inr (inl x)) =
      let deep : suc (suc (d - 2)) ≡ d = omega (arith, x.0) in
      subst (λ k. Stand k (no_page low high)) deep
      (subst (λ h. Stand (suc (suc (d - 2))) (no_page low h)) (sym x.1)
      (middle_stands pages epoch id size (d - 2) low))
  empty_stands_at d low high (inr (inr x)) =
      let deep : suc (suc (suc (d - 3))) ≡ d = omega (arith, x.0) in
      subst (λ k. Stand k (no_page low high)) deep
      (subst (λ h. Stand (suc (suc (suc (d - 3)))) (no_page low h)) (sym x.1)
      (top_stands pages epoch id size (d - 3) low))

  empty_finds_at : (d low high key : ℕ) → IsLevel d low high → find array_format pages d key (no_page low high) ≡ None
  empty_finds_at d low high key (inl x) =
      let deep : suc (d - 1) ≡ d = omega (arith, x.0) in
      subst (λ k. find array_format pages k key (no_page low high) ≡ None) deep
      (subst (λ h. find array_format pages (suc (d - 1)) key (no_page low h) ≡ None) (sym x.1)
      (leaf_finds pages key (d - 1) low))
  empty_finds_at d low high key (inr (inl x)) =
      let deep : suc (suc (d - 2)) ≡ d = omega (arith, x.0) in
      subst (λ k. find array_format pages k key (no_page low high) ≡ None) deep
      (subst (λ h. find array_format pages (suc (suc (d - 2))) key (no_page low h) ≡ None) (sym x.1)
      (middle_finds pages key (d - 2) low))
  empty_finds_at d low high key (inr (inr x)) =
      let deep : suc (suc (suc (d - 3))) ≡ d = omega (arith, x.0) in
      subst (λ k. find array_format pages k key (no_page low high) ≡ None) deep
      (subst (λ h. find array_format pages (suc (suc (suc (d - 3)))) key (no_page low h) ≡ None) (sym x.1)
      (top_finds pages key (d - 3) low))

  -- nothing is put
  pub empty_gathered : (d : ℕ) (p : PagePlace) (s : State) → p.number ≡ 0 → IsLevel d p.low p.high → Whole d p s s
  empty_gathered d p s none level =
      let same : no_page p.low p.high ≡ p = ap (λ n. record { number = n; low = p.low; high = p.high }) (sym none) in
      subst (λ q. Whole d q s s) same
      (record {
        stands = empty_stands_at d p.low p.high level;
        puts = puts_none (found_at array_format pages d id (no_page p.low p.high)) s
            (λ key. ap (λ o. cond (is_from id p.low (p.high + 1) key) o None)
            (empty_finds_at d p.low p.high key.key level) ∙ no_found (is_from id p.low (p.high + 1) key));
      })

  -- ---- as the code has it

  -- a leaf whose records were put
  pub leaf_put : (d : ℕ) (p : PagePlace) (words : List ℕ) (old now : State) → IsLevel d p.low p.high
      → p.number ≤ length pages → p.high - p.low < 32 → words ≡ words_at pages p
      → Right p words → Puts (array_records words id p.low (p.low + 32)) old now → Whole d p old now
  leaf_put d p words old now level there narrow is right puts =
      let leaf = level_leaf d p.low p.high level narrow in
      let deep : suc (d - 1) ≡ d = omega (arith, (level_some d p.low p.high level).0) in
      let end : p.low + 32 ≡ p.high + 1 = omega (arith, leaf) in
      subst (λ k. Whole k p old now) deep
      (leaf_gathered array_format Right pages (d - 1) id p old now there (subst (Right p) is right)
      (below_leaf (words_at pages p) p.low p.high leaf)
      (puts_same (array_records words id p.low (p.low + 32))
      (λ key. cond (is_from id p.low (p.high + 1) key) (array_look (words_at pages p) p.low key.key) None) old now
      (λ key. ap (λ e. array_records words id p.low e key) end
      ∙ ap (λ ws. array_records ws id p.low (p.high + 1) key) is) puts))

  -- what the loop over the children keeps
  abbrev pub ArrayGathers : ℕ → PagePlace → ℕ → List ℕ → State → ℕ → ℕ → State → Type 0
  ArrayGathers d p part words old at i now =
      Gathers array_format Right pages d id p.low p.high (row words part p.low fan) old at
      (row (drop i words) part at (fan - i)) now

  pub array_begins : (d : ℕ) (p : PagePlace) (part : ℕ) (words : List ℕ) (s : State) → 1 ≤ part
      → p.low + 64 * part ≡ p.high + 1 → ArrayGathers d p part words s p.low 0 s
  array_begins d p part words s some ends =
      let all : fan ≡ fan - 0 = omega arith in
      subst (λ n. Gathers array_format Right pages d id p.low p.high (row words part p.low fan) s p.low
      (row words part p.low n) s) all
      (gathers_begin array_format Right pages d id p.low p.high (row words part p.low fan) s
      (cover_places words part p.low p.high some ends))

  array_next : (d : ℕ) (p : PagePlace) (part : ℕ) (words : List ℕ) (old : State) (at i : ℕ) (now : State)
      → i < length words → i < 64 → ArrayGathers d p part words old at i now
      → Gathers array_format Right pages d id p.low p.high (row words part p.low fan) old at
      ((record { number = get_or words i 0; low = at; high = at + (part - 1) }) ∷ row (drop (i + 1) words) part
      (at + part) (fan - (i + 1))) now
  array_next d p part words old at i now short more g =
      subst (λ qs. Gathers array_format Right pages d id p.low p.high (row words part p.low fan) old at qs now)
      (row_more words part at i short (omega (arith, fan_is))) g

  -- the next child is within the range
  pub array_within : (d : ℕ) (p : PagePlace) (part : ℕ) (words : List ℕ) (old : State) (at i : ℕ) (now : State)
      → i < length words → i < 64 → ArrayGathers d p part words old at i now → at + (part - 1) ≤ p.high
  array_within d p part words old at i now short more g =
      (array_next d p part words old at i now short more g).tiles.2

  pub array_more : (d : ℕ) (p : PagePlace) (part : ℕ) (words : List ℕ) (old : State) (at i : ℕ) (now new : State)
      → 1 ≤ part → i < length words → i < 64 → ArrayGathers d p part words old at i now
      → Whole d (record { number = get_or words i 0; low = at; high = at + (part - 1) }) now new
      → ArrayGathers d p part words old (at + part) (i + 1) new
  array_more d p part words old at i now new some short more g one =
      let next : at + (part - 1) + 1 ≡ at + part = omega (arith, some) in
      subst (λ k. Gathers array_format Right pages d id p.low p.high (row words part p.low fan) old k
      (row (drop (i + 1) words) part (at + part) (fan - (i + 1))) new) next
      (gathers_more array_format Right pages d id p.low p.high (row words part p.low fan) old at
      (record { number = get_or words i 0; low = at; high = at + (part - 1) })
      (row (drop (i + 1) words) part (at + part) (fan - (i + 1))) now new
      (array_next d p part words old at i now short more g) one)

  -- a child that breaks
  pub array_break : (d : ℕ) (p : PagePlace) (part : ℕ) (words : List ℕ) (old : State) (at i : ℕ) (now : State) (n : ℕ)
      → 1 ≤ d → part ≡ (p.high - p.low + 1) / 64 → 32 ≤ p.high - p.low → i < length words → i < 64
      → words ≡ words_at pages p
      → Right p words → ArrayGathers (d - 1) p part words old at i now
      → Broken n (d - 1) (record { number = get_or words i 0; low = at; high = at + (part - 1) }) → Broken n d p
  array_break d p part words old at i now n deep part_is wide short more is right g breaks =
      let below : places_below array_format pages p ≡ row words part p.low fan =
      ap (λ ws. array_below ws p.low p.high) (sym is) ∙ below_inner words p.low p.high wide
      ∙ ap (λ k. row words k p.low fan) (sym part_is) in
      let deep_is : suc (d - 1) ≡ d = omega (arith, deep) in
      subst (λ k. Broken n k p) deep_is
      (breaks_below array_format Right pages (d - 1) id p (row words part p.low fan) n
      (subst (Right p) is right) below
      (gathers_break array_format Right pages (d - 1) id p.low p.high (row words part p.low fan) old at
      (record { number = get_or words i 0; low = at; high = at + (part - 1) })
      (row (drop (i + 1) words) part (at + part) (fan - (i + 1))) now n
      (array_next (d - 1) p part words old at i now short more g) breaks))

  -- a page that isn't right
  pub array_wrong : (d : ℕ) (p : PagePlace) (words : List ℕ) (n : ℕ) → 1 ≤ d → words ≡ words_at pages p
      → (Right p words → ⊥) → n ≡ first_byte p.number
      → Broken n d p
  array_wrong d p words n deep is wrong at =
      let deep_is : suc (d - 1) ≡ d = omega (arith, deep) in
      subst (λ k. Broken n k p) deep_is
      (breaks_here array_format Right pages (d - 1) id p n (λ right. wrong (subst (Right p) (sym is) right)) at)

  -- all children
  pub array_end : (d : ℕ) (p : PagePlace) (part : ℕ) (words : List ℕ) (old : State) (at i : ℕ) (now : State) → 1 ≤ d
      → part ≡ (p.high - p.low + 1) / 64 → 32 ≤ p.high - p.low → 1 ≤ part → p.low + 64 * part ≡ p.high + 1 → i ≡ 64
      → p.number ≤ length pages → words ≡ words_at pages p → Right p words
      → ArrayGathers (d - 1) p part words old at i now → Whole d p old now
  array_end d p part words old at i now deep part_is wide some ends all there is right g =
      let below : places_below array_format pages p ≡ row words part p.low fan =
      ap (λ ws. array_below ws p.low p.high) (sym is) ∙ below_inner words p.low p.high wide
      ∙ ap (λ k. row words k p.low fan) (sym part_is) in
      let deep_is : suc (d - 1) ≡ d = omega (arith, deep) in
      let none : fan - i ≡ 0 = omega (arith, fan_is) in
      subst (λ k. Whole k p old now) deep_is
      (inner_gathered array_format Right pages (d - 1) id p (row words part p.low fan) old at now there
      (subst (Right p) is right) below
      (some_places words part p.low) (cover_places words part p.low p.high some ends)
      (subst (λ k. Gathers array_format Right pages (d - 1) id p.low p.high (row words part p.low fan) old at
      (row (drop i words) part at k) now) none g))
