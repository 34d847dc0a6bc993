-- Arrays: leaves and interior pages are written as their format asks.
use Rattle.std.proofs.Common.{◌≡◌, ◌≢◌, ℕ, ◌+◌, ◌-◌, ◌*◌, ◌/◌, ◌<◌, ◌≤◌, zero, suc, true, false, List, [], ◌∷◌, ◌++◌, length, get_or, set, take, drop, replicate, Option, Some, None, refl, sym, ap, subst, ◌∙◌, arith, inl, inr, eqb, leb}
use Rattle.std.specs.Prelude.{cond, min, ◌||◌}
use Rattle.std.specs.List.{AllByRecursion, flat_map}
use Rattle.std.proofs.lemmas.List.{length-append, length-replicate, length-set, length-take-le, get_or-drop, get_or_past, get_or-set_same, get_or-set_other, take-append-drop, ext_get_or, append-nil, length-drop}
use Rattle.std.proofs.lemmas.Grind.{div_ceil_times}
use Rattle.std.proofs.Math.Nat.{mul-le-mul_right}
use Rattle.std.proofs.lemmas.Bool.{cases_lt, cases_eq}
use Rattle.lists.specs.Each.{all_take}
use Rattle.std.proofs.lemmas.Bool.Decides.{nat_tests}
use Rattle.wire_form.specs.declared.records.ArrayRecord.{ArrayRecord}
use Rattle.wire_form.specs.declared.page.PageKind.TheVariants.{ArrayLeaf, ArrayInner}
use Rattle.serial_model.specs.declared.number.Number.{Number}
use Rattle.serial_model.specs.Numbers.{IsNumber}
use Rattle.wire_form.specs.Words.{number_word}
use Rattle.wire_form.specs.ItemLaws.{length-items}
use Rattle.wire_form.specs.Pages.{IsChild, IsArrayRecord, array_record_words, array_leaf_words, HasKind}
use Rattle.snapshot_store.specs.declared.place.PagePlace.{PagePlace}
use Rattle.snapshot_store.specs.Places.{words_at, places_below, Cover, Tiles, StandsTo, moved}
use Rattle.snapshot_store.specs.ArrayPages.{fan, leaf_room, span_of, row, array_below, array_found, array_look, array_format, parts_of, array_kind, IsArrayPage}
use Rattle.root_composer.specs.declared.last.Last.{Last}
use Rattle.root_composer.specs.Overlaid.{touches, entry_for, is_between, overlaid}
use Rattle.root_composer.specs.Composed.{IsMade, EachWith, all_moved}
use Rattle.root_composer.specs.Composer.{MayName, IsLawful}
use Rattle.root_composer.specs.ArrayWriter.{filled, put, put_all, IsPut, AnyShape, array_writer}
use Rattle.snapshot_store.specs.ReadLaws.{fan_is, room_is}
use Rattle.root_composer.specs.FreshLaws.{fits, too_wide}
use Rattle.root_composer.proofs.MadeLemmas.{leaf_made}
use Rattle.root_composer.proofs.OverlayLemmas.{touched_range}

-- no number's word is 0
some_number : (n : Number) → IsNumber n → 0 < number_word n
some_number n is = omega (arith, is.some_draw)

put_number_some : (size : ℕ) (e : Last) → IsPut size e → 0 < e.number
put_number_some size e is = omega (arith, is.number.2, some_number is.number.0 is.number.1)

zeros_at : (n i : ℕ) → ◌≡◌ {A = ℕ} (get_or (replicate n 0) i 0) 0
zeros_at zero i = refl
zeros_at (suc n) zero = refl
zeros_at (suc n) (suc i) = zeros_at n i

pub filled_at : (words : List ℕ) (n i : ℕ) → ◌≡◌ {A = ℕ} (get_or (words ++ replicate n 0) i 0) (get_or words i 0)
filled_at [] n i = zeros_at n i
filled_at (w ∷ ws) n zero = refl
filled_at (w ∷ ws) n (suc i) = filled_at ws n i

length-filled : (words : List ℕ) → length words ≤ fan → length (filled words) ≡ fan
length-filled words h = omega (arith, length-append words (replicate (fan - length words) 0), length-replicate {A = ℕ} (fan - length words) 0)

-- ---- a record that is put

length-put : (i number : ℕ) (o : Option ℕ) (ws : List ℕ) → length (put i number o ws) ≡ length ws
length-put i number None ws = refl
length-put i number (Some v) ws = length-set (set ws (2 * i) number) (2 * i + 1) v ∙ length-set ws (2 * i) number

put_number : (i number v : ℕ) (ws : List ℕ) → 2 * i + 1 < length ws → get_or (put i number (Some v) ws) (2 * i) 0 ≡ number
put_number i number v ws h =
    let ne : 2 * i ≢ 2 * i + 1 = omega arith in
    let lt : 2 * i < length ws = omega arith in
    get_or-set_other (set ws (2 * i) number) (2 * i + 1) (2 * i) v 0 ne ∙ get_or-set_same ws (2 * i) number 0 lt

put_value : (i number v : ℕ) (ws : List ℕ) → 2 * i + 1 < length ws → get_or (put i number (Some v) ws) (2 * i + 1) 0 ≡ v
put_value i number v ws h = get_or-set_same (set ws (2 * i) number) (2 * i + 1) v 0 (omega (arith, length-set ws (2 * i) number))

put_other : (i j number : ℕ) (o : Option ℕ) (ws : List ℕ) → j ≢ 2 * i → j ≢ 2 * i + 1 → get_or (put i number o ws) j 0 ≡ get_or ws j 0
put_other i j number None ws a b = refl
put_other i j number (Some v) ws a b = get_or-set_other (set ws (2 * i) number) (2 * i + 1) j v 0 b ∙ get_or-set_other ws (2 * i) j number 0 a

length-put_all : (low high : ℕ) (run : List Last) (ws : List ℕ) → length (put_all low high run ws) ≡ length ws
length-put_all low high [] ws = refl
length-put_all low high (e ∷ es) ws =
    elim (is_between low high e.key) as (λ b. length (cond b (put (e.key - low) e.number e.value (put_all low high es ws)) (put_all low high es ws)) ≡ length ws) [
      | true ↦ length-put (e.key - low) e.number e.value (put_all low high es ws) ∙ length-put_all low high es ws
      | false ↦ length-put_all low high es ws
    ]

between : (low high k : ℕ) → low ≤ k → k ≤ high → is_between low high k ≡ true
between low high k p q = grind (arith, nat_tests)

same_key : (a b : ℕ) → a ≡ b → eqb a b ≡ true
same_key a b e = grind (arith, nat_tests)

other_key : (a b : ℕ) → a ≢ b → eqb a b ≡ false
other_key a b e = grind (arith, nat_tests)

lower : (low high k : ℕ) → is_between low high k ≡ true → low ≤ k
lower low high k e = grind (arith, nat_tests)

some_found : (number v : ℕ) → 0 < number → array_found number v ≡ Some (record { number = number; value = v })
some_found number v h = rw (other_key number 0 (omega arith)) refl

-- what a leaf has under the run
look_put_all : (size low high k : ℕ) (run : List Last) (ws : List ℕ) → AllByRecursion (IsPut size) run → 2 * (high - low) + 1 < length ws → low ≤ k → k ≤ high
    → array_look (put_all low high run ws) low k ≡ overlaid (array_look ws low k) (entry_for run k)
look_put_all size low high k [] ws all len p q = refl
look_put_all size low high k (e ∷ es) ws all len p q =
    let rest : List ℕ = put_all low high es ws in
    let still : array_look (put_all low high es ws) low k ≡ overlaid (array_look ws low k) (entry_for es k) = look_put_all size low high k es ws all.1 len p q in
    elim (cases_eq e.key k) [
      | inl same ↦
          let value = all.0.value in
          let at : 2 * (k - low) + 1 < length rest = omega (arith, length-put_all low high es ws) in
          let index : e.key - low ≡ k - low = ap (λ x. x - low) same in
          rw (
            same_key e.key k same,
            between low high e.key (omega arith) (omega arith),
            value.1,
            index,
            put_number (k - low) e.number value.0 rest at,
            put_value (k - low) e.number value.0 rest at,
          )
          (some_found e.number value.0 (put_number_some size e all.0))
      | inr other ↦
          rw (other_key e.key k other)
          (elim (is_between low high e.key) as (λ b. is_between low high e.key ≡ b → array_look (cond b (put (e.key - low) e.number e.value rest) rest) low k ≡ overlaid (array_look ws low k) (entry_for es k)) [
            | true ↦ λ t.
                let above = lower low high e.key t in
                rw (
                  put_other (e.key - low) (2 * (k - low)) e.number e.value rest (omega arith) (omega arith),
                  put_other (e.key - low) (2 * (k - low) + 1) e.number e.value rest (omega arith) (omega arith),
                ) still
            | false ↦ λ t. still
          ] refl)
    ]

-- ---- a leaf's records

-- a record at an index, put into the words of records
put_words : (rs : List ArrayRecord) (zs : List ℕ) (i number v : ℕ) (r : ArrayRecord) → i < length rs → array_record_words r ≡ number ∷ v ∷ []
    → put i number (Some v) (flat_map array_record_words rs ++ zs) ≡ flat_map array_record_words (set rs i r) ++ zs
put_words [] zs i number v r h e = absurd (omega (arith, h))
put_words (x ∷ xs) zs zero number v r h e = ap (λ l. l ++ flat_map array_record_words xs ++ zs) (sym e)
put_words (x ∷ xs) zs (suc i) number v r h e =
    let two : 2 * suc i ≡ suc (suc (2 * i)) = omega arith in
    let odd : 2 * suc i + 1 ≡ suc (suc (2 * i + 1)) = omega arith in
    ap (λ k. set (set (flat_map array_record_words (x ∷ xs) ++ zs) k number) (2 * suc i + 1) v) two
    ∙ ap (λ k. set (set (flat_map array_record_words (x ∷ xs) ++ zs) (suc (suc (2 * i))) number) k v) odd
    ∙ ap (λ l. array_record_words x ++ l) (put_words xs zs i number v r (omega (arith, h)) e)

-- the words are those of so many records
abbrev AreRecords : ℕ → List ℕ → Type 0
AreRecords used words = (rs : List ArrayRecord) × (length rs ≡ used) × AllByRecursion IsArrayRecord rs × (words ≡ array_leaf_words rs)

all_set : {X : Type 0} (P : X → Type 0) (xs : List X) (i : ℕ) (x : X) → AllByRecursion P xs → P x → AllByRecursion P (set xs i x)
all_set P [] i x all is = tt
all_set P (y ∷ ys) zero x all is = (is, all.1)
all_set P (y ∷ ys) (suc i) x all is = (all.0, all_set P ys i x all.1 is)

length-record_words : (rs : List ArrayRecord) → length (flat_map array_record_words rs) ≡ 2 * length rs
length-record_words rs = length-items array_record_words 2 (λ _. refl) rs

-- one more record
put_record : (used i number v : ℕ) (n : Number) (words : List ℕ) → IsNumber n → number ≡ number_word n → i < used → AreRecords used words → AreRecords used (put i number (Some v) words)
put_record used i number v n words is e h are =
    let rs = are.0 in
    let r : ArrayRecord = record { number = Some n; value = v } in
    let same : length (flat_map array_record_words rs) ≡ length (flat_map array_record_words (set rs i r)) = omega (arith, length-record_words rs, length-record_words (set rs i r), length-set rs i r) in
    let word : array_record_words r ≡ number ∷ v ∷ [] = ap (λ k. k ∷ v ∷ []) (sym e) in (
      set rs i r,
      length-set rs i r ∙ are.1,
      all_set IsArrayRecord rs i r are.2 (record { number = is; never = tt }),
      ap (put i number (Some v)) are.3
          ∙ put_words rs (replicate (64 - length (flat_map array_record_words rs)) 0) i number v r (omega (arith, h, are.1)) word
          ∙ ap (λ k. flat_map array_record_words (set rs i r) ++ replicate (64 - k) 0) same,
    )

-- all records of a run
put_records : (size used low high : ℕ) (run : List Last) (words : List ℕ) → AllByRecursion (IsPut size) run → ((key : ℕ) → low ≤ key → key ≤ high → key < size → key - low < used)
    → AreRecords used words → AreRecords used (put_all low high run words)
put_records size used low high [] words all fits are = are
put_records size used low high (e ∷ es) words all fits are =
    let rest = put_records size used low high es words all.1 fits are in
    elim (is_between low high e.key) as (λ b. is_between low high e.key ≡ b → AreRecords used (cond b (put (e.key - low) e.number e.value (put_all low high es words)) (put_all low high es words))) [
      | true ↦ λ t.
          let range = in_range low high e.key t in
          let value = all.0.value in
          let number = all.0.number in
          subst (λ (o : Option ℕ). AreRecords used (put (e.key - low) e.number o (put_all low high es words))) (sym value.1)
          (put_record used (e.key - low) e.number value.0 number.0 (put_all low high es words) number.1 number.2 (fits e.key range.0 range.1 all.0.key) rest)
      | false ↦ λ t. rest
    ] refl
  where
    in_range : (low high k : ℕ) → is_between low high k ≡ true → (low ≤ k) × (k ≤ high)
    in_range low high k e = grind (arith, nat_tests)

-- a leaf that was never written
never : ArrayRecord
never = record { number = None; value = 0 }

zeros_of : (n m : ℕ) → n ≡ 2 * m → flat_map array_record_words (replicate m never) ≡ replicate n 0
unfolding never
zeros_of n zero e = sym (ap (λ k. replicate k 0) (let z : n ≡ 0 = omega arith in z))
zeros_of n (suc m) e =
    let two : n ≡ suc (suc (2 * m)) = omega arith in
    ap (λ l. 0 ∷ 0 ∷ l) (zeros_of (2 * m) m refl) ∙ sym (ap (λ k. replicate k 0) two)

zeros_more : (n m : ℕ) → replicate n 0 ++ replicate m 0 ≡ replicate (n + m) (let z : ℕ = 0 in z)
zeros_more zero m = ap (λ k. replicate k 0) (let z : m ≡ 0 + m = omega arith in z)
zeros_more (suc n) m = ap (λ l. 0 ∷ l) (zeros_more n m) ∙ ap (λ k. replicate k 0) (let z : suc (n + m) ≡ suc n + m = omega arith in z)

all_never : (m : ℕ) → AllByRecursion IsArrayRecord (replicate m never)
unfolding never
all_never zero = tt
all_never (suc m) = (record { number = tt; never = refl }, all_never m)

no_records : (used : ℕ) → used ≤ 32 → AreRecords used (filled [])
no_records used h =
    let size = length-replicate used never in
    let words : flat_map array_record_words (replicate used never) ≡ replicate (2 * used) 0 = zeros_of (2 * used) used refl in
    let length_is : length (flat_map array_record_words (replicate used never)) ≡ 2 * used = omega (arith, length-record_words (replicate used never), size) in
    let whole : fan - 0 ≡ 2 * used + (64 - 2 * used) = omega (arith, fan_is) in (
      replicate used never,
      size,
      all_never used,
      ap (λ k. replicate k 0) whole
          ∙ sym (zeros_more (2 * used) (64 - 2 * used))
          ∙ ap (λ l. l ++ replicate (64 - 2 * used) 0) (sym words)
          ∙ ap (λ k. flat_map array_record_words (replicate used never) ++ replicate (64 - k) 0) (sym length_is),
    )

length-leaf : (rs : List ArrayRecord) → length rs ≤ 32 → length (array_leaf_words rs) ≡ 64
length-leaf rs h = omega (arith, length-append (flat_map array_record_words rs) (replicate (64 - length (flat_map array_record_words rs)) 0), length-record_words rs, length-replicate {A = ℕ} (64 - length (flat_map array_record_words rs)) 0)

-- what is whole needs no more zeros
filled_whole : (words : List ℕ) → length words ≡ 64 → filled words ≡ words
filled_whole words h =
    let none : fan - length words ≡ 0 = omega (arith, fan_is) in
    ap (λ k. words ++ replicate k 0) none ∙ append-nil words

-- ---- places in a row

row_empty : (words : List ℕ) (span low n : ℕ) → row words span low n ≡ [] → n ≡ 0
row_empty words span low zero e = refl
row_empty words span low (suc n) e = absurd (cc)

row_moved : (R : PagePlace → ℕ → Type 0) (words : List ℕ) (span low n : ℕ) (ns : List ℕ) → EachWith R (row words span low n) ns → row ns span low n ≡ all_moved (row words span low n) ns
row_moved R words span low zero ns all = refl
row_moved R words span low (suc n) [] all = absurd all
row_moved R words span low (suc n) (m ∷ ms) all = ap (λ t. (record { number = m; low = low; high = low + (span - 1) }) ∷ t) (row_moved R (drop 1 words) span (low + span) n ms all.1)

row_length : (R : PagePlace → ℕ → Type 0) (words : List ℕ) (span low n : ℕ) (ns : List ℕ) → EachWith R (row words span low n) ns → length ns ≡ n
row_length R words span low zero [] all = refl
row_length R words span low zero (m ∷ ms) all = absurd all
row_length R words span low (suc n) [] all = absurd all
row_length R words span low (suc n) (m ∷ ms) all = ap suc (row_length R (drop 1 words) span (low + span) n ms all.1)

-- the place at an index, with its number
row_at : (R : PagePlace → ℕ → Type 0) (words : List ℕ) (span low n : ℕ) (ns : List ℕ) → EachWith R (row words span low n) ns
    → (i at : ℕ) → i < n → at ≡ low + i * span → R (record { number = get_or words i 0; low = at; high = at + (span - 1) }) (get_or ns i 0)
row_at R words span low zero ns all i at h e = absurd (omega (arith, h))
row_at R words span low (suc n) [] all i at h e = absurd all
row_at R words span low (suc n) (m ∷ ms) all zero at h e =
    let same : low ≡ at = omega arith in
    subst (λ (x : ℕ). R (record { number = get_or words 0 0; low = x; high = x + (span - 1) }) m) same all.0
row_at R words span low (suc n) (m ∷ ms) all (suc i) at h e =
    let next : get_or (drop 1 words) i 0 ≡ get_or words (suc i) 0 = get_or-drop 1 words i 0 ∙ ap (λ k. get_or words k 0) (omega arith) in
    subst (λ (x : ℕ). R (record { number = x; low = at; high = at + (span - 1) }) (get_or ms i 0)) next
    (row_at R (drop 1 words) span (low + span) n ms all.1 i at (omega arith) (omega arith))

-- no entry lies at or past the size
no_touch : (size low high : ℕ) (run : List Last) → AllByRecursion (IsPut size) run → size ≤ low → touches run low high ≡ false
no_touch size low high [] all h = refl
no_touch size low high (e ∷ es) all h =
    let out : is_between low high e.key ≡ false = too_low low high e.key (omega (arith, all.0.key)) in
    rw out (no_touch size low high es all.1 h)
  where
    too_low : (low high k : ℕ) → k < low → is_between low high k ≡ false
    too_low low high k h = grind (arith, nat_tests)

-- ---- arrays are lawful

leaf_kind : (size low high : ℕ) → span_of low high ≤ leaf_room → array_kind size low high ≡ ArrayLeaf (min leaf_room (size - low))
leaf_kind size low high narrow = ap (λ b. cond b (ArrayLeaf (min leaf_room (size - low))) (ArrayInner (min fan (parts_of (size - low) (span_of low high / fan))))) (fits (span_of low high) leaf_room narrow)

inner_kind : (size low high : ℕ) → leaf_room < span_of low high → array_kind size low high ≡ ArrayInner (min fan (parts_of (size - low) (span_of low high / fan)))
inner_kind size low high wide = ap (λ b. cond b (ArrayLeaf (min leaf_room (size - low))) (ArrayInner (min fan (parts_of (size - low) (span_of low high / fan))))) (too_wide (span_of low high) leaf_room wide)

-- a range with an entry of an array begins below its size
touched_below : (size low high : ℕ) (run : List Last) → AllByRecursion (IsPut size) run → touches run low high ≡ true → low < size
touched_below size low high [] all e = absurd (cc)
touched_below size low high (x ∷ xs) all e =
    elim (is_between low high x.key) as (λ b. is_between low high x.key ≡ b → (b || touches xs low high) ≡ true → low < size) [
      | true ↦ λ t h. let above = lower low high x.key t in omega (arith, all.0.key)
      | false ↦ λ t h. touched_below size low high xs all.1 h
    ] refl e

-- the records of a leaf that is there, or of none
old_records : (size : ℕ) (p : PagePlace) (ws : List ℕ) → span_of p.low p.high ≤ leaf_room → IsArrayPage size p ws → AreRecords (min leaf_room (size - p.low)) (filled ws)
old_records size p ws narrow is =
    elim (cases_lt 0 p.number) [
      | inl more ↦
          let page = subst (λ k. HasKind k p.number ws) (leaf_kind size p.low p.high narrow) (is.page more) in
          let size_is : length ws ≡ 64 = ap length page.2 ∙ length-leaf page.0 (omega (arith, page.1.count, room_is)) in
          (page.0, page.1.count, page.1.each, filled_whole ws size_is ∙ page.2)
      | inr none ↦
          subst (λ (l : List ℕ). AreRecords (min leaf_room (size - p.low)) (filled l)) (sym (is.none (omega arith)))
          (no_records (min leaf_room (size - p.low)) (omega (arith, room_is)))
    ]

length-old : (size : ℕ) (p : PagePlace) (ws : List ℕ) → IsArrayPage size p ws → length ws ≤ fan
length-old size p ws is =
    elim (cases_lt 0 p.number) [
      | inr none ↦ omega (arith, ap length (is.none (omega arith)))
      | inl more ↦
          elim (cases_lt leaf_room (span_of p.low p.high)) [
            | inl wide ↦
                let page = subst (λ k. HasKind k p.number ws) (inner_kind size p.low p.high wide) (is.page more) in
                omega (arith, ap length page.2, length-append page.0 (replicate (64 - length page.0) 0), length-replicate {A = ℕ} (64 - length page.0) 0, page.1.count, page.1.most, fan_is)
            | inr narrow ↦
                let page = subst (λ k. HasKind k p.number ws) (leaf_kind size p.low p.high narrow) (is.page more) in
                omega (arith, ap length page.2, length-leaf page.0 (omega (arith, page.1.count, room_is)), fan_is)
          ]
    ]

array_leaf_right : (size : ℕ) (run : List Last) (p : PagePlace) (ws : List ℕ) (number : ℕ) → AllByRecursion (IsPut size) run → touches run p.low p.high ≡ true → span_of p.low p.high ≤ leaf_room
    → IsArrayPage size p ws → IsArrayPage size (moved p (suc number)) (put_all p.low p.high run (filled ws))
array_leaf_right size run p ws number puts touched narrow is = record {
  none = λ e. absurd (omega (arith, e));
  page = λ _.
      let used : ℕ = min leaf_room (size - p.low) in
      let begun : p.low < size = touched_below size p.low p.high run puts touched in
      let are = put_records size (min leaf_room (size - p.low)) p.low p.high run (filled ws) puts (λ key a b c. omega (arith, narrow)) (old_records size p ws narrow is) in
      subst (λ k. HasKind k (suc number) (put_all p.low p.high run (filled ws))) (sym (leaf_kind size p.low p.high narrow))
      (are.0, record { some = omega (arith, room_is, begun); most = omega (arith, room_is); count = are.1; each = are.2 }, are.3);
}

-- numbers of pages below this one
each_below : (run : List Last) (have number : ℕ) (qs : List PagePlace) (ns : List ℕ) → EachWith (MayName run have number) qs ns → AllByRecursion (IsChild 0 number) ns
each_below run have number [] [] all = tt
each_below run have number [] (n ∷ ns) all = absurd all
each_below run have number (q ∷ qs) [] all = absurd all
each_below run have number (q ∷ qs) (n ∷ ns) all = ((omega arith, all.0.0), each_below run have number qs ns all.1)

-- equal parts of a range that is covered are not empty
pub some_part : (words : List ℕ) (part low high k : ℕ) → 2 ≤ k → Cover low high (row words part low k) → 0 < part
some_part words part low high zero h c = absurd (omega (arith, h))
some_part words part low high (suc zero) h c = absurd (omega (arith, h))
some_part words part low high (suc (suc k)) h c = omega (arith, c.3.0)

pub cover_of : (low high : ℕ) (ws : List ℕ) (part k : ℕ) → 0 < k → Tiles low high (row ws part low k) → Cover low high (row ws part low k)
cover_of low high ws part zero h t = absurd (omega (arith, h))
cover_of low high ws part (suc k) h t = t

-- past the parts that a size needs there is no key of it
past_parts : (rest part i : ℕ) → 0 < part → parts_of rest part ≤ i → rest ≤ i * part
past_parts rest part i some h =
    let whole = (div_ceil_times rest part some).0 in
    let more : parts_of rest part * part ≤ i * part = mul-le-mul_right part h in
    omega (arith, whole, more)

-- and a size that goes on needs a part
needs_part : (rest part : ℕ) → 0 < part → 0 < rest → 1 ≤ parts_of rest part
needs_part rest part some more =
    elim (cases_lt 0 (parts_of rest part)) [
      | inl lt ↦ lt
      | inr none ↦
          let is : parts_of rest part ≡ 0 = omega arith in
          let whole : rest ≤ parts_of rest part * part = (div_ceil_times rest part some).0 in
          let zero_is : parts_of rest part * part ≡ 0 * part = ap (λ k. k * part) is in
          absurd (omega (arith, whole, zero_is))
    ]

-- words that end in zeros are a list and zeros
ends_in_zeros : (ns : List ℕ) (used n : ℕ) → length ns ≡ n → used ≤ n → ((i : ℕ) → used ≤ i → get_or ns i 0 ≡ 0) → ns ≡ take used ns ++ replicate (n - length (take used ns)) 0
ends_in_zeros ns used n size within zeros =
    let front : length (take used ns) ≡ used = length-take-le used ns (omega arith) in
    let tail : drop used ns ≡ replicate (n - length (take used ns)) 0 =
    same_numbers (drop used ns) (replicate (n - length (take used ns)) 0) (omega (arith, length-drop used ns, length-replicate {A = ℕ} (n - length (take used ns)) 0, front))
    (λ k. get_or-drop used ns k 0 ∙ zeros (used + k) (omega arith) ∙ sym (zeros_at (n - length (take used ns)) k)) in
    sym (take-append-drop used ns) ∙ ap (λ l. take used ns ++ l) tail
  where
    same_numbers : (xs ys : List ℕ) → length xs ≡ length ys → ((k : ℕ) → get_or xs k 0 ≡ get_or ys k 0) → xs ≡ ys
    same_numbers xs ys size all = ext_get_or 0 xs ys size (λ i h. all i)

array_inner_right : (size have : ℕ) (run : List Last) (p : PagePlace) (ws : List ℕ) (number : ℕ) (ns : List ℕ) → AllByRecursion (IsPut size) run → touches run p.low p.high ≡ true → leaf_room < span_of p.low p.high
    → IsArrayPage size p ws → Cover p.low p.high (row ws (span_of p.low p.high / fan) p.low fan)
    → EachWith (MayName run have number) (row ws (span_of p.low p.high / fan) p.low fan) ns → IsArrayPage size (moved p number) ns
array_inner_right size have run p ws number ns puts touched wide is cover all = record {
  none = λ e. let first = row_at (MayName run have number) ws (span_of p.low p.high / fan) p.low fan ns all 0 p.low (omega (arith, fan_is)) (omega arith) in absurd (omega (arith, e, first.0));
  page = λ _.
      let used : ℕ = min fan (parts_of (size - p.low) (span_of p.low p.high / fan)) in
      let some : 0 < span_of p.low p.high / fan = some_part ws (span_of p.low p.high / fan) p.low p.high fan (omega (arith, fan_is)) cover in
      let begun : p.low < size = touched_below size p.low p.high run puts touched in
      let needed = needs_part (size - p.low) (span_of p.low p.high / fan) some (omega arith) in
      let long = row_length (MayName run have number) ws (span_of p.low p.high / fan) p.low fan ns all in
      let count : length (take (min fan (parts_of (size - p.low) (span_of p.low p.high / fan))) ns) ≡ min fan (parts_of (size - p.low) (span_of p.low p.high / fan)) = length-take-le (min fan (parts_of (size - p.low) (span_of p.low p.high / fan))) ns (omega arith) in
      subst (λ k. HasKind k number ns) (sym (inner_kind size p.low p.high wide)) (
        take (min fan (parts_of (size - p.low) (span_of p.low p.high / fan))) ns,
        record {
          some = omega (arith, fan_is, needed);
          most = omega (arith, fan_is);
          count = count;
          each = all_take (IsChild 0 number) (min fan (parts_of (size - p.low) (span_of p.low p.high / fan))) ns (each_below run have number (row ws (span_of p.low p.high / fan) p.low fan) ns all);
        },
        ends_in_zeros ns (min fan (parts_of (size - p.low) (span_of p.low p.high / fan))) 64 (omega (arith, long, fan_is)) (omega (arith, fan_is)) (past some),
      );
}
  where
    was : (i : ℕ) → min fan (parts_of (size - p.low) (span_of p.low p.high / fan)) ≤ i → get_or ws i 0 ≡ 0
    was i h =
        elim (cases_lt 0 p.number) [
          | inl more ↦
              let page = subst (λ k. HasKind k p.number ws) (inner_kind size p.low p.high wide) (is.page more) in
              ap (λ l. get_or l i 0) page.2 ∙ filled_at page.0 (64 - length page.0) i ∙ get_or_past page.0 i 0 (omega (arith, page.1.count))
          | inr none ↦ ap (λ l. get_or l i 0) (is.none (omega arith))
        ]

    past : 0 < span_of p.low p.high / fan → (i : ℕ) → min fan (parts_of (size - p.low) (span_of p.low p.high / fan)) ≤ i → get_or ns i 0 ≡ 0
    past some i h =
        elim (cases_lt i fan) [
          | inl lt ↦
              let beyond : size - p.low ≤ i * (span_of p.low p.high / fan) = past_parts (size - p.low) (span_of p.low p.high / fan) i some (omega arith) in
              let at = row_at (MayName run have number) ws (span_of p.low p.high / fan) p.low fan ns all i (p.low + i * (span_of p.low p.high / fan)) lt refl in
              at.1.kept (no_touch size (p.low + i * (span_of p.low p.high / fan)) (p.low + i * (span_of p.low p.high / fan) + (span_of p.low p.high / fan - 1)) run puts (omega arith)) ∙ was i h
          | inr ge ↦ get_or_past ns i 0 (omega (arith, row_length (MayName run have number) ws (span_of p.low p.high / fan) p.low fan ns all))
        ]

look_filled : (low key : ℕ) (ws : List ℕ) → array_look (filled ws) low key ≡ array_look ws low key
look_filled low key ws = rw (filled_at ws (fan - length ws) (2 * (key - low)), filled_at ws (fan - length ws) (2 * (key - low) + 1)) refl

narrow_where : (low high : ℕ) (ws : List ℕ) → array_below ws low high ≡ [] → span_of low high ≤ leaf_room
narrow_where low high ws e =
    elim (cases_lt leaf_room (span_of low high)) [
      | inl wide ↦
          let zero_fan = row_empty ws (span_of low high / fan) low fan (ap (λ b. cond b [] (row ws (span_of low high / fan) low fan)) (sym (too_wide (span_of low high) leaf_room wide)) ∙ e) in
          absurd (omega (arith, zero_fan, fan_is))
      | inr narrow ↦ narrow
    ]

leaf_below : (low high : ℕ) (ws : List ℕ) → span_of low high ≤ leaf_room → array_below ws low high ≡ []
leaf_below low high ws narrow = ap (λ b. cond b [] (row ws (span_of low high / fan) low fan)) (fits (span_of low high) leaf_room narrow)

pub inner_below : (low high : ℕ) (ws : List ℕ) → leaf_room < span_of low high → array_below ws low high ≡ row ws (span_of low high / fan) low fan
inner_below low high ws wide = ap (λ b. cond b [] (row ws (span_of low high / fan) low fan)) (too_wide (span_of low high) leaf_room wide)

pub arrays_lawful : (size : ℕ) (run : List Last) (old : List (List ℕ)) → AllByRecursion (IsPut size) run → IsLawful array_format (IsArrayPage size) AnyShape array_writer run old
arrays_lawful size run old puts = record { leaf = leaf; below = below; right = right }
  where
    leaf : (siblings : List (List ℕ)) (depth : ℕ) (p : PagePlace) → StandsTo array_format (IsArrayPage size) old (suc depth) p → touches run p.low p.high ≡ true → places_below array_format old p ≡ []
        → IsMade array_format (IsArrayPage size) AnyShape run old (old ++ siblings) (put_all p.low p.high run (filled (words_at old p)) ∷ []) (suc depth) 1 p (suc (length (old ++ siblings)))
    leaf siblings depth p s t none =
        let narrow : span_of p.low p.high ≤ leaf_room = narrow_where p.low p.high (words_at old p) none in
        let some : p.low ≤ p.high = touched_range run p.low p.high t in
        let long : length (filled (words_at old p)) ≡ fan = length-filled (words_at old p) (length-old size p (words_at old p) s.right) in
        leaf_made array_format (IsArrayPage size) AnyShape run old (old ++ siblings) depth (put_all p.low p.high run (filled (words_at old p))) p
        (omega (arith, length-append old siblings)) t none
        (leaf_below p.low p.high (put_all p.low p.high run (filled (words_at old p))) narrow)
        (λ key a b. look_put_all size p.low p.high key run (filled (words_at old p)) puts (omega (arith, long, narrow, fan_is, room_is)) a b
        ∙ ap (λ f. overlaid f (entry_for run key)) (look_filled p.low key (words_at old p)))
        (array_leaf_right size run p (words_at old p) (length (old ++ siblings)) puts t narrow s.right) (λ later. tt)

    below : (w : List ℕ) (p : PagePlace) (number : ℕ) (ns : List ℕ) → IsArrayPage size p w → EachWith (MayName run (length old) number) (array_below w p.low p.high) ns
        → array_below ns p.low p.high ≡ all_moved (array_below w p.low p.high) ns
    below w p number ns is =
        elim (leb (span_of p.low p.high) leaf_room) as (λ b. EachWith (MayName run (length old) number) (cond b [] (row w (span_of p.low p.high / fan) p.low fan)) ns
        → cond b [] (row ns (span_of p.low p.high / fan) p.low fan) ≡ all_moved (cond b [] (row w (span_of p.low p.high / fan) p.low fan)) ns) [
          | true ↦ λ all. refl
          | false ↦ λ all. row_moved (MayName run (length old) number) w (span_of p.low p.high / fan) p.low fan ns all
        ]

    right : (w : List ℕ) (p : PagePlace) (number : ℕ) (q : PagePlace) (qs : List PagePlace) (ns : List ℕ) → IsArrayPage size p w → Tiles p.low p.high (array_below w p.low p.high) → touches run p.low p.high ≡ true
        → array_below w p.low p.high ≡ q ∷ qs → EachWith (MayName run (length old) number) (array_below w p.low p.high) ns → IsArrayPage size (moved p number) ns
    right w p number q qs ns is tiles t e all =
        elim (cases_lt leaf_room (span_of p.low p.high)) [
          | inl wide ↦
              let same = inner_below p.low p.high w wide in
              array_inner_right size (length old) run p w number ns puts t wide is
              (cover_of p.low p.high w (span_of p.low p.high / fan) fan (omega (arith, fan_is)) (subst (Tiles p.low p.high) same tiles))
              (subst (λ (l : List PagePlace). EachWith (MayName run (length old) number) l ns) same all)
          | inr narrow ↦ let gone : [] ≡ q ∷ qs = sym (leaf_below p.low p.high w narrow) ∙ e in absurd (cc)
        ]
