-- The keys of pages on the way to a key, and where the words stand that lead there.
use Rattle.std.proofs.Common.{◌≡◌, inl, inr, ℕ, ◌+◌, ◌-◌, ◌*◌, ◌/◌, ◌%◌, ◌<◌, ◌≤◌, Bool, true, false, cond, List, length}
use Rattle.std.proofs.Common.{refl, sym, ap, ◌∙◌, arith}
use Rattle.std.specs.Prelude.{nat_le, nat_lt}
use Rattle.std.specs.List.{Contains}
use Rattle.std.proofs.lemmas.Bool.Decides.{nat_tests}
use Rattle.serial_model.specs.declared.decl.Decl.{Decl}
use Rattle.serial_model.specs.declared.key.Key.{Key}
use Rattle.homes.specs.declared.places.At.TheVariants.{Root, In}
use Rattle.homes.specs.declared.places.Span.{Span}
use Rattle.homes.specs.Homes.{in_span}
use Rattle.homes.specs.Laws.{in_span-from}
use Rattle.snapshot_store.specs.Content.{last_index}
use Rattle.engine_pages.specs.declared.layout.Layout.{Layout}
use Rattle.engine_pages.specs.declared.view.View.{View}
use Rattle.engine_pages.specs.Layout.{page_at, words_of}
use Rattle.engine_pages.specs.Pages.{child_span, is_array, is_leaf_span, root_span}
use Rattle.engine_pages.specs.Pointers.{IsArrayPointerAt}
use Rattle.engine_pages.specs.Records.{IsRecordAt}
use Rattle.array_pages.specs.Spans.{keys_above, IsArrayAt, IsOver}
use Rattle.array_pages.specs.Walks.{IsWayPlace}
use Rattle.array_pages.proofs.DeclLaws.{root_at_span}

below : (a b : ℕ) → a < b → nat_lt a b ≡ true
below a b h = grind (arith, nat_tests)

not_below : (a b : ℕ) → b ≤ a → nat_lt a b ≡ false
not_below a b h = grind (arith, nat_tests)

le_yes : (a b : ℕ) → a ≤ b → nat_le a b ≡ true
le_yes a b h = grind (arith, nat_tests)

le_no : (a b : ℕ) → b < a → nat_le a b ≡ false
le_no a b h = grind (arith, nat_tests)

-- ---- which are leaves

pub leaf_is : (sp : Span) → sp.high ≡ sp.low + 31 → is_leaf_span sp ≡ true
leaf_is sp exact = below sp.high (sp.low + 32) (omega (arith, exact))

pub inner_is : (sp : Span) → sp.low + 32 ≤ sp.high → is_leaf_span sp ≡ false
inner_is sp wide = not_below sp.high (sp.low + 32) (omega (arith, wide))

pub middle_is : (k : Key) (low : ℕ) → is_leaf_span (keys_above k 1 low) ≡ false
middle_is k low = inner_is (keys_above k 1 low) (omega arith)

pub top_is : (k : Key) (low : ℕ) → is_leaf_span (keys_above k 2 low) ≡ false
top_is k low = inner_is (keys_above k 2 low) (omega arith)

-- ---- one level down

-- so many keys, each child of which has s
abbrev part_of : Key → ℕ → ℕ → ℕ → Span
part_of k low j s = record { storage = k.storage; low = low + j * s; high = (low + j * s) + (s - 1) }

pub child_middle : (k : Key) (low j : ℕ) → child_span (keys_above k 1 low) j ≡ keys_above k 0 (low + j * 32)
child_middle k low j = let size : ((low + 2047 + 1) - low) / 64 ≡ 32 = omega arith in ap (part_of k low j) size

pub child_top : (k : Key) (j : ℕ) → child_span (keys_above k 2 0) j ≡ keys_above k 1 (j * 2048)
child_top k j =
    let start : 0 + j * 2048 ≡ j * 2048 = omega arith in ap (λ (l : ℕ). keys_above k 1 l) start

pub part_leaf : (k : Key) (low : ℕ) → IsOver k 1 low → (k.key - low) / 32 < 64
part_leaf k low over = let to = over.to in omega (arith, to)

pub over_leaf : (k : Key) (low : ℕ) → IsOver k 1 low → IsOver k 0 (low + (k.key - low) / 32 * 32)
over_leaf k low over =
    let from = over.from in record { from = omega (arith, from); to = omega (arith, from) }

pub low_leaf : (k : Key) (low : ℕ) → IsOver k 1 low → low + 2048 ≤ 131072
    → (low + (k.key - low) / 32 * 32) + 32 ≤ 131072
low_leaf k low over few = let to = over.to in omega (arith, to, few)

pub part_middle : (k : Key) → IsOver k 2 0 → k.key / 2048 < 64
part_middle k over = let to = over.to in omega (arith, to)

pub over_middle : (k : Key) → IsOver k 2 0 → IsOver k 1 (k.key / 2048 * 2048)
over_middle k over = record { from = omega arith; to = omega arith }

pub low_middle : (k : Key) → IsOver k 2 0 → k.key / 2048 * 2048 + 2048 ≤ 131072
low_middle k over = let to = over.to in omega (arith, to)

-- ---- the root

last_small : (size : ℕ) → size ≤ 32 → last_index size ≡ 31
last_small size small = ap (λ (b : Bool). cond b 31 (cond (nat_le size 2048) 2047 131071)) (le_yes size 32 small)

last_middle : (size : ℕ) → 32 < size → size ≤ 2048 → last_index size ≡ 2047
last_middle size more few =
    ap (λ (b : Bool). cond b 31 (cond (nat_le size 2048) 2047 131071)) (le_no size 32 more)
    ∙ ap (λ (b : Bool). cond b 2047 131071) (le_yes size 2048 few)

last_large : (size : ℕ) → 2048 < size → last_index size ≡ 131071
last_large size more =
    ap (λ (b : Bool). cond b 31 (cond (nat_le size 2048) 2047 131071)) (le_no size 32 (omega (arith, more)))
    ∙ ap (λ (b : Bool). cond b 2047 131071) (le_no size 2048 more)

-- the keys from the first one on, to this one
abbrev keys_to : Key → ℕ → Span
keys_to k last = record { storage = k.storage; low = 0; high = last }

pub root_small : (decls : List Decl) (k : Key) (root size : ℕ) → IsArrayAt decls k.storage root size → size ≤ 32
    → root_span decls root ≡ keys_above k 0 0
root_small decls k root size at small =
    root_at_span decls k.storage root size at ∙ ap (keys_to k) (last_small size small)

pub root_middle : (decls : List Decl) (k : Key) (root size : ℕ) → IsArrayAt decls k.storage root size → 32 < size
    → size ≤ 2048 → root_span decls root ≡ keys_above k 1 0
root_middle decls k root size at more few =
    root_at_span decls k.storage root size at ∙ ap (keys_to k) (last_middle size more few)

pub root_large : (decls : List Decl) (k : Key) (root size : ℕ) → IsArrayAt decls k.storage root size → 2048 < size
    → root_span decls root ≡ keys_above k 2 0
root_large decls k root size at more =
    root_at_span decls k.storage root size at ∙ ap (keys_to k) (last_large size more)

pub over_small : (k : Key) (size : ℕ) → k.key < size → size ≤ 32 → IsOver k 0 0
over_small k size less few = record { from = omega arith; to = omega (arith, less, few) }

pub over_medium : (k : Key) (size : ℕ) → k.key < size → size ≤ 2048 → IsOver k 1 0
over_medium k size less few = record { from = omega arith; to = omega (arith, less, few) }

pub over_large : (k : Key) (size : ℕ) → k.key < size → size ≤ 131072 → IsOver k 2 0
over_large k size less few = record { from = omega arith; to = omega (arith, less, few) }

pub root_pointer : (v : View) (root : ℕ) (span : Span) → root < length v.layout.decls
    → root_span v.layout.decls root ≡ span → IsArrayPointerAt v (Root root) span (10 + root)
root_pointer v root span less is = (less, sym is, refl)

pub root_word : (l : Layout) (root : ℕ) → root < 16 → 10 + root < words_of l
root_word l root few = omega (arith, few)

-- ---- on the way to the key

pub over_in : (k : Key) (height low : ℕ) → IsOver k height low → in_span (keys_above k height low) k ≡ true
over_in k height low over =
    in_span-from (keys_above k height low) k refl over.from (let to = over.to in omega (arith, to))

pub root_on : (l : Layout) (k : Key) (root : ℕ) (span : Span) → root < length l.decls → root_span l.decls root ≡ span
    → in_span span k ≡ true → IsWayPlace l k (10 + root)
root_on l k root span less is over =
    record { stands = inl (root, less, ap (λ (s : Span). in_span s k) is ∙ over, refl) }

pub leaf_on : (l : Layout) (k : Key) (t low at : ℕ) → t < l.slots → IsOver k 1 low → low % 2048 ≡ 0
    → at ≡ page_at l.slots t ((k.key - low) / 32) → IsWayPlace l k at
leaf_on l k t low at there over whole word =
    let from = over.from in
    let to : k.key < low + 2048 = over.to in
    let part : (k.key - low) / 32 ≡ k.key % 2048 / 32 = omega (arith, from, to, whole) in
    record { stands = inr (t, (k.key - low) / 32, there, inl part, word) }

pub middle_on : (l : Layout) (k : Key) (t at : ℕ) → t < l.slots → at ≡ page_at l.slots t (k.key / 2048)
    → IsWayPlace l k at
middle_on l k t at there word = record { stands = inr (t, k.key / 2048, there, inr refl, word) }

pub whole_middle : (k : Key) → k.key / 2048 * 2048 % 2048 ≡ 0
whole_middle k = omega arith

-- ---- in a page that is held

pub child_pointer : (v : View) (sp child : Span) (t j at : ℕ) → Contains v.ways (record { slot = t; span = sp })
    → is_array v.layout.decls sp.storage ≡ true → is_leaf_span sp ≡ false → j < 64 → child_span sp j ≡ child
    → at ≡ page_at v.layout.slots t j → IsArrayPointerAt v (In (record { slot = t; index = j })) child at
child_pointer v sp child t j at has kind inner less span word = record {
  way = record { slot = t; span = sp };
  has = has;
  slot = refl;
  kind = kind;
  inner = inner;
  index = less;
  span = sym span;
  word = word;
}

pub page_word : (l : Layout) (t i : ℕ) → t < l.slots → i < 64 → page_at l.slots t i < words_of l
page_word l t i less few = omega (arith, less, few)

pub record_at : (v : View) (k : Key) (t low at : ℕ) → Contains v.ways (record { slot = t; span = keys_above k 0 low })
    → t < v.layout.slots → is_array v.layout.decls k.storage ≡ true → IsOver k 0 low
    → at ≡ page_at v.layout.slots t (2 * (k.key - low)) → IsRecordAt v k (record { slot = t; index = k.key - low }) at
record_at v k t low at has there kind over word = record {
  way = record { slot = t; span = keys_above k 0 low };
  has = has;
  slot = refl;
  there = there;
  kind = kind;
  leaf = leaf_is (keys_above k 0 low) refl;
  index = let to = over.to in omega (arith, to);
  key =
      let from = over.from in
      let sum : k.key ≡ low + (k.key - low) = omega (arith, from) in
      ap (λ (i : ℕ). let q : Key = record { storage = k.storage; key = i } in q) sum;
  word = word;
}
