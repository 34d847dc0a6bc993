-- Tree pages as they are read: a leaf has each key once, in its range; and its children stand one behind another.
use Rattle.std.proofs.Common.{◌≡◌, ℕ, zero, suc, ◌+◌, ◌-◌, ◌*◌, ◌/◌, ◌%◌, ◌<◌, ◌≤◌, Bool, true, false, not, eqb, cond, ◌&&◌, ◌||◌, ◌⊎◌, inl, inr, List, [], ◌∷◌, ◌++◌, append_assoc, length, get_or, take, drop, replicate, map, refl, sym, ap, ◌∙◌, arith, Option, Some, None}
use Rattle.std.proofs.lemmas.Bool.{and_from, cases_Bool, cond-true, cond-false, false_from_ne_true, leb-true}
use Rattle.std.proofs.lemmas.Bool.Decides.{nat_tests}
use Rattle.std.proofs.lemmas.List.{drop_all, drop_more, get_or-drop, get_or-take}
use Rattle.std.specs.List.{flat_map, list_any, AllByRecursion}
use Rattle.std.specs.Prelude.{nat_le}
use Rattle.serial_model.specs.declared.key.Key.{Key}
use Rattle.serial_model.specs.declared.number.Number.{Number}
use Rattle.homes.specs.declared.places.Content.{Content}
use Rattle.homes.specs.declared.places.Span.{Span}
use Rattle.homes.specs.Homes.{same_key, in_span}
use Rattle.homes.specs.Laws.{same_key-true, in_span-from}
use Rattle.drop_core.specs.Event.{are_entries_of}
use Rattle.wire_form.specs.declared.records.TreeRecord.{TreeRecord}
use Rattle.wire_form.specs.Items.{RisesAfter}
use Rattle.wire_form.specs.Words.{number_word}
use Rattle.wire_form.specs.Pages.{IsTreeRecord, Children, tree_record_words, record_key, device_header, tree_leaf_words, tree_inner_words}
use Rattle.snapshot_store.specs.declared.place.PagePlace.{PagePlace}
use Rattle.snapshot_store.specs.TreePages.{Record, Node, Leaf, Inner, records_at, count_of, node_of, children, records_of, IsTreePage}
use Rattle.wire_form.specs.Words.{number_in}
use Rattle.engine_rule.specs.Reading.{span_of, entry_for, tree_entries, child_count}

-- ---- a leaf's records

-- a record as it is read
abbrev as_read : TreeRecord → Record
as_read r = record { key = r.key; found = record { number = number_word r.number; value = r.value } }

header_is : (kind n : ℕ) → device_header kind n ≡ kind * 256 + n
header_is kind n = omega arith

records_back : (rs : List TreeRecord) (rest : List ℕ) → records_at (length rs) (flat_map tree_record_words rs ++ rest) ≡ map as_read rs
records_back [] rest = refl
records_back (r ∷ rs) rest = ap (λ t. as_read r ∷ t) (records_back rs rest)

leaf_back : (low high : ℕ) (rs : List TreeRecord) → length rs ≤ 16 → node_of (tree_leaf_words low high rs) ≡ Leaf (map as_read rs)
leaf_back low high rs short =
    let kind : device_header 1 (length rs) / 256 ≡ 1 = omega (arith, header_is 1 (length rs), short) in
    let count : device_header 1 (length rs) % 256 ≡ length rs = omega (arith, header_is 1 (length rs), short) in
    rw (kind, count) (ap Leaf (records_back rs (replicate (48 - length (flat_map tree_record_words rs)) 0)))

inner_back : (low high : ℕ) (c : Children) → length c.pointers ≤ 30 → records_of (node_of (tree_inner_words low high c)) ≡ []
inner_back low high c most =
    let kind : device_header 2 (length c.pointers) / 256 ≡ 2 = omega (arith, header_is 2 (length c.pointers), most) in
    rw kind refl

module _ (id : ℕ) where
  abbrev key_of : ℕ → Key
  key_of k = record { storage = id; key = k }

  apart : (a b : ℕ) → a < b → same_key (key_of b) (key_of a) ≡ false
  apart a b less = false_from_ne_true (same_key (key_of b) (key_of a)) (λ e. other (ap (λ (q : Key). q.key) (same_key-true (key_of b) (key_of a) e)))
    where
      other : b ≡ a → ⊥
      other e = omega (arith, e, less)

  none_later : (k : ℕ) (rs : List TreeRecord) → RisesAfter ◌<◌ (Some k) (map record_key rs)
      → list_any (λ e. same_key e.0 (key_of k)) (tree_entries id (map as_read rs)) ≡ false
  none_later k [] rise = refl
  none_later k (r ∷ rs) rise =
      let first = apart k r.key rise.0 in
      ap (λ (b : Bool). b || list_any (λ e. same_key e.0 (key_of k)) (tree_entries id (map as_read rs))) first
      ∙ none_later k rs (from_lower rs rise.1)
    where
      from_lower : (xs : List TreeRecord) → RisesAfter ◌<◌ (Some r.key) (map record_key xs) → RisesAfter ◌<◌ (Some k) (map record_key xs)
      from_lower [] up = tt
      from_lower (x ∷ xs) up = (omega (arith, rise.0, up.0), up.1)

  records_right : (p : PagePlace) (last : Option ℕ) (rs : List TreeRecord) → AllByRecursion (IsTreeRecord p.low p.high) rs → RisesAfter ◌<◌ last (map record_key rs)
      → are_entries_of (span_of id p) (tree_entries id (map as_read rs)) ≡ true
  records_right p last [] all rise = refl
  records_right p last (r ∷ rs) all rise =
      let span : Span = span_of id p in
      let others : List (Key × Content) = tree_entries id (map as_read rs) in
      let new : Bool = not (list_any (λ f. same_key f.0 (key_of r.key)) others) in
      and_from (in_span span (key_of r.key)) (true && (new && are_entries_of span others))
      (in_span-from span (key_of r.key) refl all.0.from_low all.0.to_high)
      (and_from new (are_entries_of span others) (ap not (none_later r.key rs rise.1)) (records_right p (Some r.key) rs all.1 rise.1))

  -- a tree's page has entries of its keys alone, each once
  pub tree_right : (p : PagePlace) (words : List ℕ) → 0 < p.number → IsTreePage p words
      → are_entries_of (span_of id p) (tree_entries id (records_of (node_of words))) ≡ true
  tree_right p words some right = elim (right.page some) [
    | inl leaf ↦
        ap (λ (l : List Record). are_entries_of (span_of id p) (tree_entries id l))
        (ap (λ (ws : List ℕ). records_of (node_of ws)) leaf.2 ∙ ap records_of (leaf_back p.low p.high leaf.0 leaf.1.most))
        ∙ records_right p None leaf.0 leaf.1.each leaf.1.rising
    | inr inner ↦
        ap (λ (l : List Record). are_entries_of (span_of id p) (tree_entries id l))
        (ap (λ (ws : List ℕ). records_of (node_of ws)) inner.2 ∙ inner_back p.low p.high inner.0 inner.1.most)
  ]

-- ---- records one by one

-- the record with this index
abbrev record_at : List ℕ → ℕ → Record
record_at ws i = record { key = get_or ws (3 * i) 0; found = record { number = get_or ws (1 + 3 * i) 0; value = get_or ws (2 + 3 * i) 0 } }

abbrev record_with : ℕ → ℕ → ℕ → Record
record_with key number value = record { key = key; found = record { number = number; value = value } }

record_behind : (ws : List ℕ) (i : ℕ) → record_at (drop 3 ws) i ≡ record_at ws (suc i)
record_behind ws i =
    let first : 3 + 3 * i ≡ 3 * suc i = omega arith in
    let second : 3 + (1 + 3 * i) ≡ 1 + 3 * suc i = omega arith in
    let third : 3 + (2 + 3 * i) ≡ 2 + 3 * suc i = omega arith in
    ap (λ k. record_with k (get_or (drop 3 ws) (1 + 3 * i) 0) (get_or (drop 3 ws) (2 + 3 * i) 0)) (get_or-drop 3 ws (3 * i) 0 ∙ ap (λ n. get_or ws n 0) first)
    ∙ ap (λ k. record_with (get_or ws (3 * suc i) 0) k (get_or (drop 3 ws) (2 + 3 * i) 0)) (get_or-drop 3 ws (1 + 3 * i) 0 ∙ ap (λ n. get_or ws n 0) second)
    ∙ ap (record_with (get_or ws (3 * suc i) 0) (get_or ws (1 + 3 * suc i) 0)) (get_or-drop 3 ws (2 + 3 * i) 0 ∙ ap (λ n. get_or ws n 0) third)

records_more : (i : ℕ) (ws : List ℕ) → records_at (i + 1) ws ≡ records_at i ws ++ record_at ws i ∷ []
records_more zero ws = refl
records_more (suc i) ws =
    let next : suc i + 1 ≡ suc (i + 1) = omega arith in
    ap (λ n. records_at n ws) next
    ∙ ap (λ l. record_at ws 0 ∷ l) (records_more i (drop 3 ws) ∙ ap (λ r. records_at i (drop 3 ws) ++ r ∷ []) (record_behind ws i))

entries_more : (id : ℕ) (rs : List Record) (r : Record) → tree_entries id (rs ++ r ∷ []) ≡ tree_entries id rs ++ entry_for (record { storage = id; key = r.key }) r.found ∷ []
entries_more id [] r = refl
entries_more id (x ∷ rs) r = ap (λ l. entry_for (record { storage = id; key = x.key }) x.found ∷ l) (entries_more id rs r)

-- an entry from its words
abbrev pub entry_with : ℕ → ℕ → ℕ → ℕ → Key × Content
entry_with id key number value = (record { storage = id; key = key }, record { number = number_in number; value = Some value })

abbrev pub entry_having : ℕ → ℕ → Number → ℕ → Key × Content
entry_having id key n value = (record { storage = id; key = key }, record { number = n; value = Some value })

pub entry_pushed : (id : ℕ) (words : List ℕ) (i : ℕ) (entries new : List (Key × Content)) (key number value : ℕ) (n : Number) → n ≡ number_in number
    → new ≡ entries ++ entry_having id key n value ∷ []
    → key ≡ get_or words (16 + 3 * i) 0 → number ≡ get_or words (17 + 3 * i) 0 → value ≡ get_or words (18 + 3 * i) 0
    → entries ≡ tree_entries id (records_at i (drop 16 words)) → new ≡ tree_entries id (records_at (i + 1) (drop 16 words))
entry_pushed id words i entries new key number value n n_is pushed key_is number_is value_is so_far =
    let second : 17 + 3 * i ≡ 16 + (1 + 3 * i) = omega arith in
    let third : 18 + 3 * i ≡ 16 + (2 + 3 * i) = omega arith in
    let one : key ≡ get_or (drop 16 words) (3 * i) 0 = key_is ∙ sym (get_or-drop 16 words (3 * i) 0) in
    let two : number ≡ get_or (drop 16 words) (1 + 3 * i) 0 = number_is ∙ ap (λ n. get_or words n 0) second ∙ sym (get_or-drop 16 words (1 + 3 * i) 0) in
    let three : value ≡ get_or (drop 16 words) (2 + 3 * i) 0 = value_is ∙ ap (λ n. get_or words n 0) third ∙ sym (get_or-drop 16 words (2 + 3 * i) 0) in
    pushed
    ∙ ap (λ m. entries ++ entry_having id key m value ∷ []) n_is
    ∙ ap (λ l. l ++ entry_with id key number value ∷ []) so_far
    ∙ ap (λ k. tree_entries id (records_at i (drop 16 words)) ++ entry_with id k number value ∷ []) one
    ∙ ap (λ k. tree_entries id (records_at i (drop 16 words)) ++ entry_with id (get_or (drop 16 words) (3 * i) 0) k value ∷ []) two
    ∙ ap (λ k. tree_entries id (records_at i (drop 16 words)) ++ entry_with id (get_or (drop 16 words) (3 * i) 0) (get_or (drop 16 words) (1 + 3 * i) 0) k ∷ []) three
    ∙ sym (entries_more id (records_at i (drop 16 words)) (record_at (drop 16 words) i))
    ∙ ap (tree_entries id) (sym (records_more i (drop 16 words)))

abbrev inner_node : List ℕ → Node
inner_node ws = Inner (take (count_of ws - 1) (drop 34 ws)) (take (count_of ws) (drop 4 ws))

abbrev leaf_node : List ℕ → Node
leaf_node ws = Leaf (records_at (count_of ws) (drop 16 ws))

node_inner : (words : List ℕ) → eqb (get_or words 0 0 / 256) 2 ≡ true → node_of words ≡ inner_node words
node_inner words e = cond-true (eqb (get_or words 0 0 / 256) 2) (inner_node words) (leaf_node words) e

-- ---- children one by one

in_take : (n : ℕ) (xs : List ℕ) (i : ℕ) → i < n → i < length xs → i < length (take n xs)
in_take zero xs i less there = absurd (omega (arith, less))
in_take (suc n) [] i less there = absurd (omega (arith, there))
in_take (suc n) (x ∷ xs) zero less there = omega arith
in_take (suc n) (x ∷ xs) (suc i) less there = let more = in_take n xs i (omega (arith, less)) (omega (arith, there)) in omega (arith, more)

in_drop : (n : ℕ) (xs : List ℕ) (i : ℕ) → n + i < length xs → i < length (drop n xs)
in_drop zero xs i there = omega (arith, there)
in_drop (suc n) [] i there = absurd (omega (arith, there))
in_drop (suc n) (x ∷ xs) i there = in_drop n xs i (omega (arith, there))

take_short : (n : ℕ) (xs : List ℕ) → length (take n xs) ≤ n
take_short zero xs = omega arith
take_short (suc n) [] = omega arith
take_short (suc n) (x ∷ xs) = let more = take_short n xs in omega (arith, more)

take_few : (n : ℕ) (xs : List ℕ) → length (take n xs) ≤ length xs
take_few zero xs = omega arith
take_few (suc n) [] = omega arith
take_few (suc n) (x ∷ xs) = let more = take_few n xs in omega (arith, more)

drop_few : (n : ℕ) (xs : List ℕ) (m : ℕ) → length xs ≤ n + m → length (drop n xs) ≤ m
drop_few zero xs m most = omega (arith, most)
drop_few (suc n) [] m most = omega arith
drop_few (suc n) (x ∷ xs) m most = drop_few n xs m (omega (arith, most))

abbrev pub separators : List ℕ → List ℕ
separators w = take (count_of w - 1) (drop 34 w)

abbrev pub numbers : List ℕ → List ℕ
numbers w = take (count_of w) (drop 4 w)

abbrev pub child_at : ℕ → ℕ → ℕ → PagePlace
child_at number low high = record { number = number; low = low; high = high }

-- the children from this index on
abbrev pub children_from : List ℕ → ℕ → ℕ → ℕ → List PagePlace
children_from w low high i = children low high (drop i (separators w)) (drop i (numbers w))

-- so many children, if any
pub record HasCount (w : List ℕ) (n : ℕ) : Type 0 where
  pub node : node_of w ≡ inner_node w
  pub most : n ≤ count_of w
  pub few : n ≤ 31
  pub cases : (n ≡ count_of w) ⊎ (n ≡ 31)

many_above : (n : ℕ) → nat_le n 31 ≡ false → 31 < n
many_above n e = grind (arith, nat_tests)

few_below : (m n : ℕ) → nat_le m 31 ≡ true → n ≡ m → n ≤ 31
few_below m n e is = let most = leb-true m 31 e in omega (arith, most, is)

pub has_count : (w : List ℕ) (n : ℕ) → n ≡ child_count w → (n ≡ 0 → ⊥) → HasCount w n
has_count w n is some = elim (cases_Bool (eqb (get_or w 0 0 / 256) 2)) [
  | inl inner ↦
      let at : n ≡ cond (nat_le (count_of w) 31) (count_of w) 31 =
      is ∙ cond-true (eqb (get_or w 0 0 / 256) 2) (cond (nat_le (count_of w) 31) (count_of w) 31) 0 inner in
      elim (cases_Bool (nat_le (count_of w) 31)) [
        | inl few ↦
            let all : n ≡ count_of w = at ∙ cond-true (nat_le (count_of w) 31) (count_of w) 31 few in
            record { node = node_inner w inner; most = omega (arith, all); few = few_below (count_of w) n few all; cases = inl all }
        | inr many ↦
            let cut : n ≡ 31 = at ∙ cond-false (nat_le (count_of w) 31) (count_of w) 31 many in
            let more : 31 < count_of w = many_above (count_of w) many in
            record { node = node_inner w inner; most = omega (arith, cut, more); few = omega (arith, cut); cases = inr cut }
      ]
  | inr leaf ↦ absurd (some (is ∙ cond-false (eqb (get_or w 0 0 / 256) 2) (cond (nat_le (count_of w) 31) (count_of w) 31) 0 leaf))
]

module _ (w : List ℕ) (long : length w ≡ 64) (n : ℕ) (has : HasCount w n) where
  low_count : (i : ℕ) → i < n → (i < count_of w) × (4 + i < length w)
  low_count i less =
      let most = has.most in
      let few = has.few in
      (omega (arith, less, most), omega (arith, less, few, long))

  number_more : (i : ℕ) → i < n → drop i (numbers w) ≡ get_or w (4 + i) 0 ∷ drop (i + 1) (numbers w)
  number_more i less =
      let there = low_count i less in
      drop_more (numbers w) i 0 (in_take (count_of w) (drop 4 w) i there.0 (in_drop 4 w i there.1))
      ∙ ap (λ k. k ∷ drop (i + 1) (numbers w)) (get_or-take (count_of w) (drop 4 w) i 0 there.0 ∙ get_or-drop 4 w i 0)

  separator_more : (i : ℕ) → i + 1 < n → drop i (separators w) ≡ get_or w (34 + i) 0 ∷ drop (i + 1) (separators w)
  separator_more i less =
      let most = has.most in
      let few = has.few in
      drop_more (separators w) i 0 (in_take (count_of w - 1) (drop 34 w) i (omega (arith, less, most)) (in_drop 34 w i (omega (arith, less, few, long))))
      ∙ ap (λ k. k ∷ drop (i + 1) (separators w)) (get_or-take (count_of w - 1) (drop 34 w) i 0 (omega (arith, less, most)) ∙ get_or-drop 34 w i 0)

  separator_none : (i : ℕ) → i + 1 ≡ n → drop i (separators w) ≡ []
  separator_none i last = drop_all i (separators w) (elim has.cases [
    | inl all ↦ let short = take_short (count_of w - 1) (drop 34 w) in omega (arith, short, all, last)
    | inr cut ↦
        let few = take_few (count_of w - 1) (drop 34 w) in
        let room = drop_few 34 w 30 (omega (arith, long)) in
        omega (arith, few, room, cut, last)
  ])

  -- one child more, with a separator behind it
  pub child_step : (low high i : ℕ) → i + 1 < n
      → children_from w low high i ≡ child_at (get_or w (4 + i) 0) low (get_or w (34 + i) 0 - 1) ∷ children_from w (get_or w (34 + i) 0) high (i + 1)
  child_step low high i less =
      ap (λ ss. children low high ss (drop i (numbers w))) (separator_more i less)
      ∙ ap (λ ns. children low high (get_or w (34 + i) 0 ∷ drop (i + 1) (separators w)) ns) (number_more i (omega (arith, less)))

  -- the last one
  pub child_last : (low high i : ℕ) → i + 1 ≡ n → children_from w low high i ≡ child_at (get_or w (4 + i) 0) low high ∷ []
  child_last low high i last =
      ap (λ ss. children low high ss (drop i (numbers w))) (separator_none i last)
      ∙ ap (λ ns. children low high [] ns) (number_more i (omega (arith, last)))

  -- one child more was put
  pub child_pushed : (low high i : ℕ) (places new : List PagePlace) (number separator top : ℕ) (all : List PagePlace) → i + 1 < n → number ≡ get_or w (4 + i) 0
      → separator ≡ get_or w (34 + i) 0 → top ≡ separator - 1 → new ≡ places ++ child_at number low top ∷ [] → places ++ children_from w low high i ≡ all
      → new ++ children_from w separator high (i + 1) ≡ all
  child_pushed low high i places new number separator top all less number_is separator_is top_is new_is so_far =
      ap (λ l. l ++ children_from w separator high (i + 1)) new_is
      ∙ append_assoc places (child_at number low top ∷ []) (children_from w separator high (i + 1))
      ∙ ap (λ m. places ++ child_at m low top ∷ children_from w separator high (i + 1)) number_is
      ∙ ap (λ m. places ++ child_at (get_or w (4 + i) 0) low m ∷ children_from w separator high (i + 1)) (top_is ∙ ap (λ m. m - 1) separator_is)
      ∙ ap (λ m. places ++ child_at (get_or w (4 + i) 0) low (get_or w (34 + i) 0 - 1) ∷ children_from w m high (i + 1)) separator_is
      ∙ ap (λ l. places ++ l) (sym (child_step low high i less))
      ∙ so_far

  -- and the last one
  pub children_done : (low high i : ℕ) (places new : List PagePlace) (number : ℕ) (all : List PagePlace) → i + 1 ≡ n → number ≡ get_or w (4 + i) 0
      → new ≡ places ++ child_at number low high ∷ [] → places ++ children_from w low high i ≡ all → new ≡ all
  children_done low high i places new number all last number_is new_is so_far =
      new_is ∙ ap (λ m. places ++ child_at m low high ∷ []) number_is
      ∙ ap (λ l. places ++ l) (sym (child_last low high i last))
      ∙ so_far
