-- What is read at an index of a page.
use Rattle.std.proofs.Common.{◌≡◌, ℕ, zero, suc, ◌+◌, ◌-◌, ◌*◌, ◌<◌, ◌≤◌, List, [], ◌∷◌, ◌++◌, length, get_or, take, drop, replicate, Option, Some, None, refl, sym, ap, ◌∙◌, append_assoc, arith}
use Rattle.std.specs.List.{flat_map, AllByRecursion, slice_get}
use Rattle.std.proofs.lemmas.List.{take_at, drop_at, drop-drop, get_or-drop, get_or_append_left}
use Rattle.lists.specs.Each.{all_at}
use Rattle.wire_form.specs.Bytes.{padded}
use Rattle.wire_form.specs.Pages.{Children, tree_inner_words}
use Rattle.wire_form.specs.Ranges.{child_ranges}
use Rattle.wire_form.specs.Items.{Reads}
use Rattle.wire_form.specs.ByteLaws.{length-padded}

-- the item at an index of a list of items, and its spelling
pub item_at : {X : Type 0} (spell : X → List ℕ) (w : ℕ) → ((x : X) → length (spell x) ≡ w) → (xs : List X) (i : ℕ) (rest : List ℕ) → i < length xs → (x : X) × (slice_get xs i ≡ Some x) × (take w (drop (w * i) (flat_map spell xs ++ rest)) ≡ spell x)
item_at spell w wide [] i rest lt = absurd (omega arith)
item_at spell w wide (x ∷ xs) zero rest lt =
    let start : w * 0 ≡ 0 = omega arith in
    (x, refl, ap (λ n. take w (drop n ((spell x ++ flat_map spell xs) ++ rest))) start ∙ ap (take w) (append_assoc (spell x) (flat_map spell xs) rest) ∙ take_at (spell x) (flat_map spell xs ++ rest) w (wide x))
item_at spell w wide (x ∷ xs) (suc i) rest lt =
    let all : List ℕ = (spell x ++ flat_map spell xs) ++ rest in
    let next = item_at spell w wide xs i rest (omega arith) in
    let step : w * suc i ≡ w + w * i = omega arith in
    let past : drop w all ≡ flat_map spell xs ++ rest = ap (drop w) (append_assoc (spell x) (flat_map spell xs) rest) ∙ drop_at (spell x) (flat_map spell xs ++ rest) w (wide x) in
    (next.0, next.1, ap (λ n. take w (drop n all)) step ∙ ap (take w) (sym (drop-drop (w * i) w all)) ∙ ap (λ t. take w (drop (w * i) t)) past ∙ next.2)

-- what spells an item is read as it
pub reads_it : {X : Type 0} (Is : X → Type 0) (spell : X → List ℕ) (written : List ℕ) (x : X) (r : Option X) → Is x → spell x ≡ written → Reads Is spell written r → r ≡ Some x
reads_it Is spell written x None is e h = absurd (h.1 x is e)
reads_it Is spell written x (Some y) is e h = ap Some (sym (h.0.only x is e))

-- what is read at an index is the item there
pub found_at : {X : Type 0} (Is : X → Type 0) (spell : X → List ℕ) (w : ℕ) → ((x : X) → length (spell x) ≡ w) → (base i : ℕ) (words rest item : List ℕ) (xs : List X) (r : Option X) → drop base words ≡ flat_map spell xs ++ rest → AllByRecursion Is xs → i < length xs → item ≡ take w (drop (base + w * i) words)
    → Reads Is spell item r → r ≡ slice_get xs i
found_at Is spell w wide base i words rest item xs r whole each lt here h =
    let found = item_at spell w wide xs i rest lt in
    let written : item ≡ spell found.0 = here ∙ ap (take w) (sym (drop-drop (w * i) base words)) ∙ ap (λ t. take w (drop (w * i) t)) whole ∙ found.2 in
    reads_it Is spell item found.0 r (all_at Is xs i found.0 each found.1) (sym written) h ∙ sym found.1

-- the word at an index of a list that stands at a place
pub place_of : (base i at : ℕ) (words rest xs : List ℕ) → base + i ≡ at → drop base words ≡ xs ++ rest → i < length xs → get_or words at 0 ≡ get_or xs i 0
place_of base i at words rest xs sum whole lt =
    ap (λ n. get_or words n 0) (sym sum) ∙ sym (get_or-drop base words i 0) ∙ ap (λ t. get_or t i 0) whole ∙ get_or_append_left xs rest 0 i lt

-- a part of a slice, by other words for its ends
pub cut : (w n a b : ℕ) (words : List ℕ) → n ≡ w → a ≡ b → take n (drop a words) ≡ take w (drop b words)
cut w n a b words p q = ap (λ k. take k (drop a words)) p ∙ ap (λ k. take w (drop k words)) q

-- where the separators of a tree's interior page stand
pub separators_stand : (low high : ℕ) (c : Children) (words : List ℕ) → words ≡ tree_inner_words low high c → length c.pointers ≤ 30 → drop 34 words ≡ c.separators ++ replicate (30 - length c.separators) 0
separators_stand low high c words e most =
    sym (drop-drop 30 4 words) ∙ ap (λ t. drop 30 (drop 4 t)) e ∙ drop_at (padded 30 c.pointers) (padded 30 c.separators) 30 (length-padded 30 c.pointers most)

-- ---- ranges of children

abbrev some_pair : ℕ → ℕ → Option (ℕ × ℕ)
some_pair a b = Some (a, b)

pair_is : (a b c d : ℕ) → a ≡ c → b ≡ d → some_pair c d ≡ some_pair a b
pair_is a b c d e f = ap (λ x. some_pair x d) (sym e) ∙ ap (some_pair a) (sym f)

-- the range at an index begins at the low fence or the separator in front, and ends at the high fence or below the separator behind
pub range_at : (low high : ℕ) (separators : List ℕ) (i first last : ℕ) → i ≤ length separators → (i ≡ 0 → first ≡ low) → ((j : ℕ) → i ≡ suc j → first ≡ get_or separators j 0)
    → (i < length separators → last ≡ get_or separators i 0 - 1) → (length separators ≤ i → last ≡ high) → slice_get (child_ranges low high separators) i ≡ Some (first, last)
range_at low high [] zero first last le a b c d = pair_is first last low high (a refl) (d (omega arith))
range_at low high [] (suc i) first last le a b c d = absurd (omega arith)
range_at low high (s ∷ ss) zero first last le a b c d = pair_is first last low (s - 1) (a refl) (c (omega arith))
range_at low high (s ∷ ss) (suc i) first last le a b c d =
    range_at s high ss i first last (omega arith) (λ e. b 0 (ap suc e)) (λ j e. b (suc j) (ap suc e)) (λ lt. c (omega arith)) (λ ge. d (omega arith))
