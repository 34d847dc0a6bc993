-- Pages and their parts.
use Rattle.std.proofs.Common.{◌≡◌, ℕ, ◌+◌, ◌-◌, ◌^◌, ◌<◌, ◌≤◌, ◌≢◌, List, [], ◌∷◌, ◌++◌, length, get_or, map, take, drop, Option, Some, None, refl, sym, ap, ◌∙◌, arith, lit≤}
use Rattle.std.specs.Prelude.{IfSome}
use Rattle.serial_model.specs.declared.number.Number.{Number}
use Rattle.wire_form.specs.declared.records.ArrayRecord.{ArrayRecord}
use Rattle.serial_model.specs.Numbers.{IsNumber}
use Rattle.wire_form.specs.Words.{number_word, number_field}
use Rattle.wire_form.specs.Pages.{IsArrayRecord, array_record_words, IsTreeRecord, tree_record_words, record_key, device_header, IsChild, IsSeparator, IsStored, stored_words, stored_id, HasKind}
use Rattle.wire_form.specs.declared.page.PageKind.TheVariants.{ArrayLeaf, TreeLeaf, TreeInner, Catalogue}
use Rattle.wire_form.specs.Bytes.{padded}
use Rattle.wire_form.specs.Items.{AnyOrder, Rises}
use Rattle.wire_form.proofs.ItemLemmas.{any_rises, rejoined}
use Rattle.std.specs.List.{flat_map, AllByRecursion}
use Rattle.std.proofs.lemmas.List.{take_at, drop_at, length-take, length-drop}
use Rattle.wire_form.specs.Parts.{itself, IsPaddedList, HasChildren, HasItems}
use Rattle.wire_form.specs.ByteLaws.{length-padded}

-- where a word is neither 0 nor a number's, no record of an array has it
no_number : (o : Option Number) (word : ℕ) → word ≢ 0 → ((n : Number) → IsNumber n → number_word n ≡ word → ⊥) → IfSome o IsNumber → number_field o ≡ word → ⊥
no_number None word some none is e = some (sym e)
no_number (Some n) word some none is e = none n is e

pub no_array_record : (x : ArrayRecord) (word value : ℕ) → word ≢ 0 → ((n : Number) → IsNumber n → number_word n ≡ word → ⊥) → IsArrayRecord x → array_record_words x ≡ word ∷ value ∷ [] → ⊥
no_array_record x word value some none is e = no_number x.number word some none is.number (ap (λ ws. get_or ws 0 0) e)

-- ---- the leaf of an array

pub array_leaf_forth : (used : ℕ) (words : List ℕ) → length words ≡ 64 → HasKind (ArrayLeaf used) 0 words → HasItems IsArrayRecord array_record_words itself AnyOrder used words
array_leaf_forth used words len (records, is, e) =
    (records, is.count, is.each, any_rises None (map itself records), e ∙ ap (λ n. padded n (flat_map array_record_words records)) (sym len))

pub array_leaf_back : (used : ℕ) (words : List ℕ) → length words ≡ 64 → 1 ≤ used → used ≤ 32 → HasItems IsArrayRecord array_record_words itself AnyOrder used words → HasKind (ArrayLeaf used) 0 words
array_leaf_back used words len some most (records, count, each, rising, e) =
    (records, record { some = some; most = most; count = count; each = each }, e ∙ ap (λ n. padded n (flat_map array_record_words records)) len)

-- ---- a head and a body

-- what words of two parts have in their first h places and behind them
pub two_parts : (h : ℕ) (words head body xs bs : List ℕ) → length xs ≤ h → head ≡ take h words → body ≡ drop h words → words ≡ padded h xs ++ bs → (head ≡ padded h xs) × (body ≡ bs)
two_parts h words head body xs bs fits f b e =
    let len : length (padded h xs) ≡ h = length-padded h xs fits in
    (f ∙ ap (take h) e ∙ take_at (padded h xs) bs h len, b ∙ ap (drop h) e ∙ drop_at (padded h xs) bs h len)

pub from_two : (h : ℕ) (words head body xs bs : List ℕ) → head ≡ take h words → body ≡ drop h words → head ≡ padded h xs → body ≡ bs → words ≡ padded h xs ++ bs
from_two h words head body xs bs f b p q = rejoined h words head body f b ∙ ap (λ t. t ++ body) p ∙ ap (λ t. padded h xs ++ t) q

-- ---- the leaf of a tree

abbrev LeafParts : ℕ → ℕ → List ℕ → List ℕ → Type 0
LeafParts low high head body =
    (n : ℕ) × (n ≤ 16) × (get_or head 0 0 ≡ 256 + n) × (head ≡ padded (length head) (get_or head 0 0 ∷ low ∷ high ∷ [])) × HasItems (IsTreeRecord low high) tree_record_words record_key ◌<◌ n body

pub tree_leaf_forth : (low high : ℕ) (words head body : List ℕ) → length words ≡ 64 → head ≡ take 16 words → body ≡ drop 16 words → HasKind (TreeLeaf low high) 0 words → LeafParts low high head body
tree_leaf_forth low high words head body len f b (records, is, e) =
    let h : ℕ = device_header 1 (length records) in
    let parts = two_parts 16 words head body (h ∷ low ∷ high ∷ []) (padded 48 (flat_map tree_record_words records)) (lit≤ tt) f b e in
    let lh : length head ≡ 16 = ap length parts.0 in
    let lb : length body ≡ 48 = omega (arith, ap length b, length-drop 16 words) in
    let first : get_or head 0 0 ≡ h = ap (λ t. get_or t 0 0) parts.0 in
    let whole : head ≡ padded (length head) (get_or head 0 0 ∷ low ∷ high ∷ []) = parts.0 ∙ ap (λ x. padded 16 (x ∷ low ∷ high ∷ [])) (sym first) ∙ ap (λ n. padded n (get_or head 0 0 ∷ low ∷ high ∷ [])) (sym lh) in
    (length records, is.most, omega (arith, first), whole, (records, refl, is.each, is.rising, parts.1 ∙ ap (λ n. padded n (flat_map tree_record_words records)) (sym lb)))

pub tree_leaf_back : (low high : ℕ) (words head body : List ℕ) → length words ≡ 64 → head ≡ take 16 words → body ≡ drop 16 words → LeafParts low high head body → HasKind (TreeLeaf low high) 0 words
tree_leaf_back low high words head body len f b (n, most, first, whole, (records, count, each, rising, e)) =
    let lh : length head ≡ 16 = omega (arith, ap length f, length-take 16 words) in
    let lb : length body ≡ 48 = omega (arith, ap length b, length-drop 16 words) in
    let h : get_or head 0 0 ≡ device_header 1 (length records) = omega (arith, first, count) in
    let first_part : head ≡ padded 16 (device_header 1 (length records) ∷ low ∷ high ∷ []) = whole ∙ ap (λ m. padded m (get_or head 0 0 ∷ low ∷ high ∷ [])) lh ∙ ap (λ x. padded 16 (x ∷ low ∷ high ∷ [])) h in
    let second_part : body ≡ padded 48 (flat_map tree_record_words records) = e ∙ ap (λ m. padded m (flat_map tree_record_words records)) lb in
    (records, record { most = omega (arith, most, count); each = each; rising = rising }, from_two 16 words head body (device_header 1 (length records) ∷ low ∷ high ∷ []) (padded 48 (flat_map tree_record_words records)) f b first_part second_part)

-- ---- an interior page of a tree

pub children_forth : (low high number count : ℕ) (words first second : List ℕ) → length words ≡ 60 → count ≤ 30 → first ≡ take 30 words → second ≡ drop 30 words → HasChildren low high number count words
    → IsPaddedList (λ xs. AllByRecursion (IsChild 1 number) xs) count first × IsPaddedList (λ xs. AllByRecursion (IsSeparator low high) xs × Rises ◌<◌ xs) (count - 1) second
children_forth low high number count words first second len most f b (c, pointers, separators, each, within, rising, e) =
    let parts = two_parts 30 words first second c.pointers (padded 30 c.separators) (omega arith) f b e in
    let l1 : length first ≡ 30 = omega (arith, ap length f, length-take 30 words) in
    let l2 : length second ≡ 30 = omega (arith, ap length b, length-drop 30 words) in
    ((c.pointers, pointers, each, parts.0 ∙ ap (λ n. padded n c.pointers) (sym l1)), (c.separators, omega arith, (within, rising), parts.1 ∙ ap (λ n. padded n c.separators) (sym l2)))

pub children_back : (low high number count : ℕ) (words first second : List ℕ) → length words ≡ 60 → 2 ≤ count → first ≡ take 30 words → second ≡ drop 30 words
    → IsPaddedList (λ xs. AllByRecursion (IsChild 1 number) xs) count first → IsPaddedList (λ xs. AllByRecursion (IsSeparator low high) xs × Rises ◌<◌ xs) (count - 1) second → HasChildren low high number count words
children_back low high number count words first second len some f b (ps, pn, each, pe) (ss, sn, between, se) =
    let l1 : length first ≡ 30 = omega (arith, ap length f, length-take 30 words) in
    let l2 : length second ≡ 30 = omega (arith, ap length b, length-drop 30 words) in
    (record { pointers = ps; separators = ss }, pn, omega arith, each, between.0, between.1, from_two 30 words first second ps (padded 30 ss) f b (pe ∙ ap (λ n. padded n ps) l1) (se ∙ ap (λ n. padded n ss) l2))

abbrev InnerParts : ℕ → ℕ → ℕ → List ℕ → List ℕ → Type 0
InnerParts low high number head body =
    (n : ℕ) × (n ≤ 30) × (get_or head 0 0 ≡ 512 + n) × (2 ≤ n) × (head ≡ padded (length head) (get_or head 0 0 ∷ low ∷ high ∷ [])) × HasChildren low high number n body

pub tree_inner_forth : (low high number : ℕ) (words head body : List ℕ) → head ≡ take 4 words → body ≡ drop 4 words → HasKind (TreeInner low high) number words → InnerParts low high number head body
tree_inner_forth low high number words head body f b (c, is, e) =
    let h : ℕ = device_header 2 (length c.pointers) in
    let parts = two_parts 4 words head body (h ∷ low ∷ high ∷ []) (padded 30 c.pointers ++ padded 30 c.separators) (lit≤ tt) f b e in
    let lh : length head ≡ 4 = ap length parts.0 in
    let first : get_or head 0 0 ≡ h = ap (λ t. get_or t 0 0) parts.0 in
    let whole : head ≡ padded (length head) (get_or head 0 0 ∷ low ∷ high ∷ []) = parts.0 ∙ ap (λ x. padded 4 (x ∷ low ∷ high ∷ [])) (sym first) ∙ ap (λ n. padded n (get_or head 0 0 ∷ low ∷ high ∷ [])) (sym lh) in
    (length c.pointers, is.most, omega (arith, first), is.some, whole, (c, refl, is.between, is.each, is.within, is.rising, parts.1))

pub tree_inner_back : (low high number : ℕ) (words head body : List ℕ) → length words ≡ 64 → head ≡ take 4 words → body ≡ drop 4 words → InnerParts low high number head body → HasKind (TreeInner low high) number words
tree_inner_back low high number words head body len f b (n, most, first, some, whole, (c, pointers, separators, each, within, rising, e)) =
    let lh : length head ≡ 4 = omega (arith, ap length f, length-take 4 words) in
    let h : get_or head 0 0 ≡ device_header 2 (length c.pointers) = omega (arith, first, pointers) in
    let first_part : head ≡ padded 4 (device_header 2 (length c.pointers) ∷ low ∷ high ∷ []) = whole ∙ ap (λ m. padded m (get_or head 0 0 ∷ low ∷ high ∷ [])) lh ∙ ap (λ x. padded 4 (x ∷ low ∷ high ∷ [])) h in
    (c, record { some = omega arith; most = omega arith; between = separators ∙ sym pointers; each = each; within = within; rising = rising }, from_two 4 words head body (device_header 2 (length c.pointers) ∷ low ∷ high ∷ []) (padded 30 c.pointers ++ padded 30 c.separators) f b first_part e)

-- ---- a catalogue

abbrev CatalogueParts : ℕ → List ℕ → List ℕ → Type 0
CatalogueParts number head body =
    (n : ℕ) × (n ≤ 16) × (get_or head 0 0 ≡ 0x4341_5400_0000_0000 + n) × (get_or head 1 0 < 2 ^ 20 - 2) × (get_or head 2 0 < number) × (head ≡ padded (length head) (get_or head 0 0 ∷ get_or head 1 0 ∷ get_or head 2 0 ∷ []))
    × HasItems (IsStored number) stored_words stored_id ◌<◌ n body

pub catalogue_forth : (number : ℕ) (words head body : List ℕ) → length words ≡ 64 → head ≡ take 16 words → body ≡ drop 16 words → HasKind Catalogue number words → CatalogueParts number head body
catalogue_forth number words head body len f b (c, is, e) =
    let h : ℕ = 0x4341_5400_0000_0000 + length c.storages in
    let parts = two_parts 16 words head body (h ∷ c.epoch ∷ c.previous ∷ []) (padded 48 (flat_map stored_words c.storages)) (lit≤ tt) f b e in
    let lh : length head ≡ 16 = ap length parts.0 in
    let lb : length body ≡ 48 = omega (arith, ap length b, length-drop 16 words) in
    let w0 : get_or head 0 0 ≡ h = ap (λ t. get_or t 0 0) parts.0 in
    let w1 : get_or head 1 0 ≡ c.epoch = ap (λ t. get_or t 1 0) parts.0 in
    let w2 : get_or head 2 0 ≡ c.previous = ap (λ t. get_or t 2 0) parts.0 in
    let whole : head ≡ padded (length head) (get_or head 0 0 ∷ get_or head 1 0 ∷ get_or head 2 0 ∷ []) = parts.0 ∙ ap (λ x. padded 16 (x ∷ c.epoch ∷ c.previous ∷ [])) (sym w0) ∙ ap (λ x. padded 16 (get_or head 0 0 ∷ x ∷ c.previous ∷ [])) (sym w1) ∙ ap (λ x. padded 16 (get_or head 0 0 ∷ get_or head 1 0 ∷ x ∷ [])) (sym w2) ∙ ap (λ n. padded n (get_or head 0 0 ∷ get_or head 1 0 ∷ get_or head 2 0 ∷ [])) (sym lh) in
    (length c.storages, is.most, w0, omega (arith, w1, is.epoch), omega (arith, w2, is.previous), whole, (c.storages, refl, is.each, is.rising, parts.1 ∙ ap (λ n. padded n (flat_map stored_words c.storages)) (sym lb)))

pub catalogue_back : (number : ℕ) (words head body : List ℕ) → length words ≡ 64 → head ≡ take 16 words → body ≡ drop 16 words → CatalogueParts number head body → HasKind Catalogue number words
catalogue_back number words head body len f b (n, most, first, epoch, previous, whole, (storages, count, each, rising, e)) =
    let lh : length head ≡ 16 = omega (arith, ap length f, length-take 16 words) in
    let lb : length body ≡ 48 = omega (arith, ap length b, length-drop 16 words) in
    let h : get_or head 0 0 ≡ 0x4341_5400_0000_0000 + length storages = first ∙ ap (λ k. 0x4341_5400_0000_0000 + k) (sym count) in
    let first_part : head ≡ padded 16 ((0x4341_5400_0000_0000 + length storages) ∷ get_or head 1 0 ∷ get_or head 2 0 ∷ []) = whole ∙ ap (λ m. padded m (get_or head 0 0 ∷ get_or head 1 0 ∷ get_or head 2 0 ∷ [])) lh ∙ ap (λ x. padded 16 (x ∷ get_or head 1 0 ∷ get_or head 2 0 ∷ [])) h in
    let second_part : body ≡ padded 48 (flat_map stored_words storages) = e ∙ ap (λ m. padded m (flat_map stored_words storages)) lb in (
      record { epoch = get_or head 1 0; previous = get_or head 2 0; storages = storages },
      record { epoch = epoch; previous = previous; most = omega (arith, most, count); each = each; rising = rising },
      from_two 16 words head body ((0x4341_5400_0000_0000 + length storages) ∷ get_or head 1 0 ∷ get_or head 2 0 ∷ []) (padded 48 (flat_map stored_words storages)) f b first_part second_part,
    )
