-- The words of a tree's leaf in a snapshot: what the draft of its copy asks.
use Rattle.std.proofs.Common.{◌≡◌, ℕ, zero, suc, ◌+◌, ◌-◌, ◌*◌, List, [], ◌∷◌, ◌++◌, length, replicate, get_or, refl, sym}
use Rattle.std.proofs.Common.{ap, ◌∙◌, subst, arith, Some}
use Rattle.std.specs.List.{flat_map, slice_get}
use Rattle.std.proofs.lemmas.List.{get_or-append-add}
use Rattle.wire_form.specs.declared.records.TreeRecord.{TreeRecord}
use Rattle.wire_form.specs.Bytes.{padded}
use Rattle.wire_form.specs.Pages.{device_header, tree_leaf_words, tree_record_words}
use Rattle.wire_form.specs.Words.{number_word}
use Rattle.tree_heads.specs.Headers.{open_word}
use Rattle.foster_tree.specs.declared.entries.Entry.{Entry}
use Rattle.foster_tree.proofs.WordLaws.{HasRecord}

-- a record as an entry
abbrev pub entry_of : TreeRecord → Entry
entry_of r = record { key = r.key; word = number_word r.number; value = r.value }

three : (i : ℕ) → 3 * suc i ≡ suc (suc (suc (3 * i)))
three i = omega arith

one_in : (i : ℕ) → suc (suc (suc (3 * i))) + 1 ≡ suc (suc (suc (3 * i + 1)))
one_in i = omega arith

two_in : (i : ℕ) → suc (suc (suc (3 * i))) + 2 ≡ suc (suc (suc (3 * i + 2)))
two_in i = omega arith

-- behind one more record
record_later : (r : TreeRecord) (words : List ℕ) (i : ℕ) (e : Entry) → HasRecord words (3 * i) e
    → HasRecord (tree_record_words r ++ words) (3 * suc i) e
record_later r words i e has = subst (λ (n : ℕ). HasRecord (tree_record_words r ++ words) n e) (sym (three i)) record {
  key = has.key;
  word = ap (λ (n : ℕ). get_or (tree_record_words r ++ words) n 0) (one_in i) ∙ has.word;
  value = ap (λ (n : ℕ). get_or (tree_record_words r ++ words) n 0) (two_in i) ∙ has.value;
}

-- the records' words
pub records_words : (rs : List TreeRecord) (rest : List ℕ) (i : ℕ) (r : TreeRecord) → slice_get rs i ≡ Some r
    → HasRecord (flat_map tree_record_words rs ++ rest) (3 * i) (entry_of r)
records_words [] rest i r at = cc
records_words (x ∷ rs) rest zero r at =
    let same : x ≡ r = cc in
    subst (λ (y : TreeRecord). HasRecord (tree_record_words x ++ (flat_map tree_record_words rs ++ rest)) 0 (entry_of y)) same
    record { key = refl; word = refl; value = refl }
records_words (x ∷ rs) rest (suc i) r at =
    record_later x (flat_map tree_record_words rs ++ rest) i (entry_of r) (records_words rs rest i r at)

-- ---- the page

-- the words before the records
abbrev front : ℕ → ℕ → ℕ → List ℕ
front low high count = padded 16 (device_header 1 count ∷ low ∷ high ∷ [])

behind_front : (low high count j : ℕ) (back : List ℕ) → get_or (front low high count ++ back) (16 + j) 0 ≡ get_or back j 0
behind_front low high count j back = get_or-append-add (front low high count) back j 0

sums : (i j : ℕ) → (16 + i) + j ≡ 16 + (i + j)
sums i j = omega arith

-- a record of the page
pub leaf_record : (low high : ℕ) (rs : List TreeRecord) (i : ℕ) (r : TreeRecord) → slice_get rs i ≡ Some r
    → HasRecord (tree_leaf_words low high rs) (16 + 3 * i) (entry_of r)
leaf_record low high rs i r at =
    let back : List ℕ = padded 48 (flat_map tree_record_words rs) in
    let has = records_words rs (replicate (48 - length (flat_map tree_record_words rs)) 0) i r at in record {
      key = behind_front low high (length rs) (3 * i) (padded 48 (flat_map tree_record_words rs)) ∙ has.key;
      word = ap (λ (n : ℕ). get_or (tree_leaf_words low high rs) n 0) (sums (3 * i) 1)
          ∙ (behind_front low high (length rs) (3 * i + 1) (padded 48 (flat_map tree_record_words rs)) ∙ has.word);
      value = ap (λ (n : ℕ). get_or (tree_leaf_words low high rs) n 0) (sums (3 * i) 2)
          ∙ (behind_front low high (length rs) (3 * i + 2) (padded 48 (flat_map tree_record_words rs)) ∙ has.value);
    }

-- its header
pub leaf_head : (n : ℕ) → device_header 1 n ≡ open_word n
leaf_head n = omega arith
