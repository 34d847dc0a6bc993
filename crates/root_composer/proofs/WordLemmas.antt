-- The words of pages as code writes and reads them.
use Rattle.std.proofs.Common.{◌≡◌, ℕ, ◌+◌, ◌-◌, ◌*◌, ◌/◌, ◌%◌, ◌<◌, ◌≤◌, zero, suc, false, List, [], ◌∷◌, ◌++◌, length, get_or, set, map, take, drop, replicate, refl, sym, ap, ◌∙◌, arith, append_assoc, append-nil, eqb}
use lib.Seq.{paste}
use Rattle.std.specs.List.{flat_map}
use Rattle.std.proofs.lemmas.List.{length-append, length-replicate, get_or-drop, get_or_append_left, get_or-append_right, get_or-replicate, drop-drop, drop-replicate, replicate-append-replicate, take_at, drop_at, take_more, take_all, drop_more, drop_all}
use Rattle.std.proofs.lemmas.List.Edits.{paste_none, paste_more, paste_all}
use Rattle.wire_form.specs.Bytes.{padded}
use Rattle.wire_form.specs.ByteLaws.{length-padded}
use Rattle.wire_form.specs.ItemLaws.{length-items}
use Rattle.wire_form.specs.Pages.{device_header}
use Rattle.snapshot_store.specs.TreePages.{records_at, count_of}
use Rattle.root_composer.specs.declared.row.Row.{Row}
use Rattle.root_composer.specs.Rows.{row_of, rows_of, rows_below, rows_from, put_list, rows_behind, merged}
use Rattle.root_composer.specs.declared.last.Last.{Last}
use Rattle.root_composer.specs.Build.{row_words, leaf_words, inner_words, run_lengths}
use Rattle.root_composer.proofs.TreePageLemmas.{header_is}
use Rattle.root_composer.proofs.RowLemmas.{less, not_less}

-- ---- writing

pub leaf_written : (h low high : ℕ) (to : List ℕ) (rows : List Row) → h ≡ 256 + length rows → length rows ≤ 16 → to ≡ flat_map row_words rows ++ drop (3 * length rows) (replicate 48 0)
    → padded 16 (h ∷ low ∷ high ∷ []) ++ (to ++ []) ≡ leaf_words low high rows
leaf_written h low high to rows head few spelled =
    let long : length (flat_map row_words rows) ≡ 3 * length rows = length-items row_words 3 (λ _. refl) rows in
    let zeros : drop (3 * length rows) (replicate 48 0) ≡ replicate (48 - length (flat_map row_words rows)) 0 =
    drop-replicate (3 * length rows) 48 0 ∙ ap (λ n. replicate (48 - n) 0) (sym long) in
    let body : to ++ [] ≡ padded 48 (flat_map row_words rows) = append-nil to ∙ spelled ∙ ap (λ t. flat_map row_words rows ++ t) zeros in
    let is : h ≡ device_header 1 (length rows) = omega (arith, head, header_is 1 (length rows)) in
    ap (λ a. padded 16 (a ∷ low ∷ high ∷ []) ++ (to ++ [])) is ∙ ap (λ t. padded 16 (device_header 1 (length rows) ∷ low ∷ high ∷ []) ++ t) body

-- words over others, from a place on, of which n are put
abbrev pub pasted : List ℕ → ℕ → List ℕ → ℕ → List ℕ
pasted words at list n = paste words at list n

pub pasted_none : (words : List ℕ) (at : ℕ) (list : List ℕ) → words ≡ pasted words at list 0
pasted_none words at list = paste_none words at list

pub pasted_more : (words now : List ℕ) (at : ℕ) (list : List ℕ) (i : ℕ) → at + i < length words → i < length list → now ≡ pasted words at list i → set now (at + i) (get_or list i 0) ≡ pasted words at list (i + 1)
pasted_more words now at list i fits here so_far = ap (λ (l : List ℕ). set l (at + i) (get_or list i 0)) so_far ∙ paste_more words at list i 0 fits here

pub pasted_all : (words : List ℕ) (at : ℕ) (list : List ℕ) (n : ℕ) → n ≡ length list → pasted words at list n ≡ take at words ++ (list ++ drop (at + length list) words)
pasted_all words at list n e = paste_all words at list n e ∙ ap (λ k. take at words ++ (list ++ drop (at + k) words)) e

-- the first four words of an interior page
abbrev pub head_words : ℕ → ℕ → ℕ → List ℕ
head_words h low high = h ∷ low ∷ high ∷ 0 ∷ []

-- numbers in place of others, before the separators
pub numbers_put : (h low high : ℕ) (rest ns : List ℕ) (w : List ℕ) → w ≡ take 4 (head_words h low high ++ rest) ++ (ns ++ drop (4 + length ns) (head_words h low high ++ rest))
    → w ≡ head_words h low high ++ (ns ++ drop (length ns) rest)
numbers_put h low high rest ns w is = is ∙ ap (λ l. head_words h low high ++ (ns ++ l)) (sym (drop-drop (length ns) 4 (head_words h low high ++ rest)))

zeros_behind : (ns : List ℕ) → length ns ≤ 30 → ns ++ drop (length ns) (replicate 60 0) ≡ padded 30 ns ++ replicate 30 0
zeros_behind ns few =
    let left : 60 - length ns ≡ (30 - length ns) + 30 = omega arith in
    ap (λ l. ns ++ l) (drop-replicate (length ns) 60 0 ∙ ap (λ n. replicate n 0) left ∙ sym (replicate-append-replicate (30 - length ns) 30 0))
    ∙ sym (append_assoc ns (replicate (30 - length ns) 0) (replicate 30 0))

pub inner_written : (h low high : ℕ) (first then_numbers then_separators ns ss : List ℕ) → h ≡ 512 + length ns → length ns ≤ 30 → length ss ≤ 30
    → first ≡ head_words h low high ++ replicate 60 0
    → then_numbers ≡ take 4 first ++ (ns ++ drop (4 + length ns) first) → then_separators ≡ take 34 then_numbers ++ (ss ++ drop (34 + length ss) then_numbers)
    → then_separators ≡ inner_words low high ss ns
inner_written h low high first then_numbers then_separators ns ss head few_numbers few begin numbers separators =
    let H : List ℕ = head_words h low high in
    let same : then_numbers ≡ H ++ (padded 30 ns ++ replicate 30 0) =
    numbers_put h low high (replicate 60 0) ns then_numbers (numbers ∙ ap (λ (f : List ℕ). take 4 f ++ (ns ++ drop (4 + length ns) f)) begin) ∙ ap (λ l. H ++ l) (zeros_behind ns few_numbers) in
    let long : length (padded 30 ns) ≡ 30 = length-padded 30 ns few_numbers in
    let front : take 34 (H ++ (padded 30 ns ++ replicate 30 0)) ≡ H ++ padded 30 ns = ap (λ l. H ++ l) (take_at (padded 30 ns) (replicate 30 0) 30 long) in
    let back : drop (34 + length ss) (H ++ (padded 30 ns ++ replicate 30 0)) ≡ replicate (30 - length ss) 0 =
    sym (drop-drop (length ss) 34 (H ++ (padded 30 ns ++ replicate 30 0)))
    ∙ ap (drop (length ss)) (drop_at (padded 30 ns) (replicate 30 0) 30 long) ∙ drop-replicate (length ss) 30 0 in
    let is : h ≡ device_header 2 (length ns) = omega (arith, head, header_is 2 (length ns)) in
    separators
    ∙ ap (λ (l : List ℕ). take 34 l ++ (ss ++ drop (34 + length ss) l)) same
    ∙ ap (λ l. l ++ (ss ++ drop (34 + length ss) (H ++ (padded 30 ns ++ replicate 30 0)))) front
    ∙ ap (λ l. (H ++ padded 30 ns) ++ (ss ++ l)) back
    ∙ append_assoc H (padded 30 ns) (padded 30 ss)
    ∙ ap (λ (a : ℕ). head_words a low high ++ (padded 30 ns ++ padded 30 ss)) is

-- an interior page's words with other numbers
pub numbers_written : (low high : ℕ) (words w old ns ss : List ℕ) → words ≡ inner_words low high ss old → length ns ≡ length old → length old ≤ 30
    → w ≡ take 4 words ++ (ns ++ drop (4 + length ns) words) → w ≡ inner_words low high ss ns
numbers_written low high words w old ns ss was same few is =
    let h : ℕ = device_header 2 (length old) in
    let put : w ≡ head_words h low high ++ (ns ++ drop (length ns) (padded 30 old ++ padded 30 ss)) =
    numbers_put h low high (padded 30 old ++ padded 30 ss) ns w (is ∙ ap (λ (l : List ℕ). take 4 l ++ (ns ++ drop (4 + length ns) l)) was) in
    let left : drop (length ns) (padded 30 old ++ padded 30 ss) ≡ replicate (30 - length ns) 0 ++ padded 30 ss =
    ap (drop (length ns)) (append_assoc old (replicate (30 - length old) 0) (padded 30 ss))
    ∙ drop_at old (replicate (30 - length old) 0 ++ padded 30 ss) (length ns) (sym same)
    ∙ ap (λ n. replicate (30 - n) 0 ++ padded 30 ss) (sym same) in
    put
    ∙ ap (λ l. head_words h low high ++ (ns ++ l)) left
    ∙ ap (λ l. head_words h low high ++ l) (sym (append_assoc ns (replicate (30 - length ns) 0) (padded 30 ss)))
    ∙ ap (λ n. head_words (device_header 2 n) low high ++ (padded 30 ns ++ padded 30 ss)) (sym same)

-- ---- reading

-- a row from its parts
abbrev pub row_with : ℕ → ℕ → ℕ → Row
row_with key number value = record { key = key; number = number; value = value }

-- a row by its first word's place
abbrev row_at : List ℕ → ℕ → Row
row_at ws i = record { key = get_or ws (3 * i) 0; number = get_or ws (1 + 3 * i) 0; value = get_or ws (2 + 3 * i) 0 }

row_behind_at : (ws : List ℕ) (i : ℕ) → row_at (drop 3 ws) i ≡ row_at ws (suc i)
row_behind_at ws i =
    let first : 3 + 3 * i ≡ 3 * suc i = omega arith in
    let second : 3 + (1 + 3 * i) ≡ 1 + 3 * suc i = omega arith in
    let third : 3 + (2 + 3 * i) ≡ 2 + 3 * suc i = omega arith in
    ap (λ k. row_with k (get_or (drop 3 ws) (1 + 3 * i) 0) (get_or (drop 3 ws) (2 + 3 * i) 0)) (get_or-drop 3 ws (3 * i) 0 ∙ ap (λ n. get_or ws n 0) first)
    ∙ ap (λ k. row_with (get_or ws (3 * suc i) 0) k (get_or (drop 3 ws) (2 + 3 * i) 0)) (get_or-drop 3 ws (1 + 3 * i) 0 ∙ ap (λ n. get_or ws n 0) second)
    ∙ ap (row_with (get_or ws (3 * suc i) 0) (get_or ws (1 + 3 * suc i) 0)) (get_or-drop 3 ws (2 + 3 * i) 0 ∙ ap (λ n. get_or ws n 0) third)

rows_more : (i : ℕ) (ws : List ℕ) → map row_of (records_at (i + 1) ws) ≡ map row_of (records_at i ws) ++ row_at ws i ∷ []
rows_more zero ws = refl
rows_more (suc i) ws =
    let next : suc i + 1 ≡ suc (i + 1) = omega arith in
    ap (λ n. map row_of (records_at n ws)) next
    ∙ ap (λ l. row_at ws 0 ∷ l) (rows_more i (drop 3 ws) ∙ ap (λ r. map row_of (records_at i (drop 3 ws)) ++ r ∷ []) (row_behind_at ws i))

pub row_pushed : (words : List ℕ) (i : ℕ) (rows new : List Row) → new ≡ rows ++ row_with (get_or words (16 + 3 * i) 0) (get_or words (17 + 3 * i) 0) (get_or words (18 + 3 * i) 0) ∷ []
    → rows ≡ map row_of (records_at i (drop 16 words)) → new ≡ map row_of (records_at (i + 1) (drop 16 words))
row_pushed words i rows new pushed so_far =
    let second : 16 + (1 + 3 * i) ≡ 17 + 3 * i = omega arith in
    let third : 16 + (2 + 3 * i) ≡ 18 + 3 * i = omega arith in
    pushed
    ∙ ap (λ l. l ++ row_with (get_or words (16 + 3 * i) 0) (get_or words (17 + 3 * i) 0) (get_or words (18 + 3 * i) 0) ∷ []) so_far
    ∙ ap (λ k. map row_of (records_at i (drop 16 words)) ++ row_with k (get_or words (17 + 3 * i) 0) (get_or words (18 + 3 * i) 0) ∷ []) (sym (get_or-drop 16 words (3 * i) 0))
    ∙ ap (λ k. map row_of (records_at i (drop 16 words)) ++ row_with (get_or (drop 16 words) (3 * i) 0) k (get_or words (18 + 3 * i) 0) ∷ []) (ap (λ n. get_or words n 0) (sym second) ∙ sym (get_or-drop 16 words (1 + 3 * i) 0))
    ∙ ap (λ k. map row_of (records_at i (drop 16 words)) ++ row_with (get_or (drop 16 words) (3 * i) 0) (get_or (drop 16 words) (1 + 3 * i) 0) k ∷ []) (ap (λ n. get_or words n 0) (sym third) ∙ sym (get_or-drop 16 words (2 + 3 * i) 0))
    ∙ sym (rows_more i (drop 16 words))

pub rows_read : (words : List ℕ) (i : ℕ) (rows : List Row) → i ≡ count_of words → eqb (get_or words 0 0 / 256) 2 ≡ false → rows ≡ map row_of (records_at i (drop 16 words)) → rows ≡ rows_of words
rows_read words i rows end leaf so_far = rw leaf (so_far ∙ ap (λ n. map row_of (records_at n (drop 16 words))) end)

-- ---- rows under entries

-- what is left to add, with what was added, is all
pub below_pushed : (key i : ℕ) (d : Row) (rows all new goal : List Row) → i < length rows → (get_or rows i d).key < key → new ≡ all ++ get_or rows i d ∷ [] → all ++ rows_below key (drop i rows) ≡ goal → new ++ rows_below key (drop (i + 1) rows) ≡ goal
below_pushed key i d rows all new goal here lt pushed so_far =
    ap (λ l. l ++ rows_below key (drop (i + 1) rows)) pushed
    ∙ append_assoc all (get_or rows i d ∷ []) (rows_below key (drop (i + 1) rows))
    ∙ ap (λ l. all ++ l) (sym (below_more key i d rows here lt))
    ∙ so_far
  where
    below_more : (key i : ℕ) (d : Row) (rows : List Row) → i < length rows → (get_or rows i d).key < key → rows_below key (drop i rows) ≡ get_or rows i d ∷ rows_below key (drop (i + 1) rows)
    below_more key i d rows here lt = ap (rows_below key) (drop_more rows i d here) ∙ rw (less (get_or rows i d).key key lt) refl

pub from_passed : (key i : ℕ) (d : Row) (rows goal : List Row) → i < length rows → (get_or rows i d).key < key → rows_from key (drop i rows) ≡ goal → rows_from key (drop (i + 1) rows) ≡ goal
from_passed key i d rows goal here lt so_far = sym (ap (rows_from key) (drop_more rows i d here) ∙ rw (less (get_or rows i d).key key lt) refl) ∙ so_far

-- a row that isn't below
pub below_ends : (key i : ℕ) (d : Row) (rows all goal : List Row) → i < length rows → key ≤ (get_or rows i d).key → all ++ rows_below key (drop i rows) ≡ goal → all ≡ goal
below_ends key i d rows all goal here ge so_far =
    sym (append-nil all) ∙ ap (λ l. all ++ l) (sym (ap (rows_below key) (drop_more rows i d here) ∙ rw (not_less (get_or rows i d).key key ge) refl)) ∙ so_far

pub from_ends : (key i : ℕ) (d : Row) (rows goal : List Row) → i < length rows → key ≤ (get_or rows i d).key → rows_from key (drop i rows) ≡ goal → drop i rows ≡ goal
from_ends key i d rows goal here ge so_far =
    drop_more rows i d here ∙ sym (ap (rows_from key) (drop_more rows i d here) ∙ rw (not_less (get_or rows i d).key key ge) refl) ∙ so_far

-- no row is left
pub below_none : (key i : ℕ) (rows all goal : List Row) → length rows ≤ i → all ++ rows_below key (drop i rows) ≡ goal → all ≡ goal
below_none key i rows all goal end so_far = sym (append-nil all) ∙ ap (λ (l : List Row). all ++ rows_below key l) (sym (drop_all i rows end)) ∙ so_far

pub from_none : (key i j : ℕ) (rows goal : List Row) → length rows ≤ i → length rows ≤ j → rows_from key (drop i rows) ≡ goal → drop j rows ≡ goal
from_none key i j rows goal end past so_far = drop_all j rows past ∙ ap (rows_from key) (sym (drop_all i rows end)) ∙ so_far

-- one more entry is merged
pub entry_merged : (rows : List Row) (run : List Last) (i : ℕ) (d : Last) (at next behind : ℕ) (all below new goal : List Row) → i < length run
    → below ≡ all ++ rows_below (get_or run i d).key (drop at rows) → drop next rows ≡ rows_from (get_or run i d).key (drop at rows)
    → new ≡ below ++ put_list (get_or run i d).key (get_or run i d).number (get_or run i d).value → drop behind rows ≡ rows_behind (get_or run i d).key (drop next rows)
    → all ++ merged (drop i run) (drop at rows) ≡ goal → new ++ merged (drop (i + 1) run) (drop behind rows) ≡ goal
entry_merged rows run i d at next behind all below new goal here below_is next_is new_is behind_is so_far =
    let e : Last = get_or run i d in
    let rest : List Row = rows_behind e.key (rows_from e.key (drop at rows)) in
    let left : drop behind rows ≡ rest = behind_is ∙ ap (rows_behind e.key) next_is in
    let put : List Row = put_list e.key e.number e.value in
    ap (λ l. l ++ merged (drop (i + 1) run) (drop behind rows)) (new_is ∙ ap (λ l. l ++ put) below_is)
    ∙ ap (λ (l : List Row). ((all ++ rows_below e.key (drop at rows)) ++ put) ++ merged (drop (i + 1) run) l) left
    ∙ append_assoc (all ++ rows_below e.key (drop at rows)) put (merged (drop (i + 1) run) rest)
    ∙ append_assoc all (rows_below e.key (drop at rows)) (put ++ merged (drop (i + 1) run) rest)
    ∙ ap (λ (l : List Last). all ++ merged l (drop at rows)) (sym (drop_more run i d here))
    ∙ so_far

pub all_merged : (rows rest : List Row) (run : List Last) (i at : ℕ) (all new goal : List Row) → length run ≤ i → rest ≡ drop at rows → new ≡ all ++ rest → all ++ merged (drop i run) (drop at rows) ≡ goal → new ≡ goal
all_merged rows rest run i at all new goal end is new_is so_far =
    new_is ∙ ap (λ l. all ++ l) is ∙ ap (λ (l : List Last). all ++ merged l (drop at rows)) (sym (drop_all i run end)) ∙ so_far

-- ---- lengths of runs

pub length_front : (m c i : ℕ) → i < c → i < m % c → get_or (run_lengths m c) i 0 ≡ m / c + 1
length_front m c i within more =
    get_or_append_left (replicate (m % c) (m / c + 1)) (replicate (c - m % c) (m / c)) 0 i (omega (arith, length-replicate {A = ℕ} (m % c) (m / c + 1)))
    ∙ get_or-replicate (m % c) i (m / c + 1) 0 more

pub length_back : (m c i : ℕ) → i < c → m % c ≤ i → get_or (run_lengths m c) i 0 ≡ m / c
length_back m c i within behind =
    get_or-append_right (replicate (m % c) (m / c + 1)) (replicate (c - m % c) (m / c)) (m % c) i 0 (length-replicate {A = ℕ} (m % c) (m / c + 1)) behind
    ∙ get_or-replicate (c - m % c) (i - m % c) (m / c) 0 (omega arith)

length-run_lengths : (m c : ℕ) → 0 < c → length (run_lengths m c) ≡ c
length-run_lengths m c some =
    omega (arith, length-append (replicate (m % c) (m / c + 1)) (replicate (c - m % c) (m / c)), length-replicate {A = ℕ} (m % c) (m / c + 1), length-replicate {A = ℕ} (c - m % c) (m / c))

pub length_pushed : (m c i n : ℕ) (lengths new : List ℕ) → i < c → new ≡ lengths ++ n ∷ [] → n ≡ get_or (run_lengths m c) i 0 → lengths ≡ take i (run_lengths m c) → new ≡ take (i + 1) (run_lengths m c)
length_pushed m c i n lengths new within pushed is so_far =
    pushed ∙ ap (λ l. l ++ n ∷ []) so_far ∙ ap (λ k. take i (run_lengths m c) ++ k ∷ []) is
    ∙ sym (take_more (run_lengths m c) i 0 (omega (arith, length-run_lengths m c (omega arith))))

pub all_lengths : (m c i : ℕ) (lengths : List ℕ) → 0 < c → i ≡ c → lengths ≡ take i (run_lengths m c) → lengths ≡ run_lengths m c
all_lengths m c i lengths some end so_far = so_far ∙ take_all i (run_lengths m c) (omega (arith, end, length-run_lengths m c some))
