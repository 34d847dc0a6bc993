-- The records of a tree's page have numbers: none has that of a record which was never written.
use Rattle.std.proofs.Common.{◌≡◌, ℕ, zero, suc, ◌+◌, ◌-◌, ◌*◌, ◌/◌, ◌%◌, ◌^◌, ◌<◌, ◌≤◌, inl, inr, List, [], ◌∷◌, ◌++◌}
use Rattle.std.proofs.Common.{length, map, replicate, refl, sym, ap, ◌∙◌, subst, arith}
use Rattle.std.specs.List.{flat_map, AllByRecursion}
use Rattle.serial_model.specs.declared.decl.Decl.{Decl}
use Rattle.serial_model.specs.declared.number.Number.{Number}
use Rattle.serial_model.specs.Numbers.{IsNumber}
use Rattle.wire_form.specs.declared.records.TreeRecord.{TreeRecord}
use Rattle.wire_form.specs.Pages.{Children, IsTreeRecord, device_header, tree_inner_words, tree_leaf_words}
use Rattle.wire_form.specs.Pages.{tree_record_words}
use Rattle.wire_form.specs.Words.{number_in, number_word}
use Rattle.snapshot_store.specs.declared.place.PagePlace.{PagePlace}
use Rattle.snapshot_store.specs.Content.{IsPageOf}
use Rattle.snapshot_store.specs.Places.{words_at}
use Rattle.snapshot_store.specs.TreePages.{IsTreePage, Leaf, Record, node_of, records_at, records_of}
use Rattle.commit_core.specs.Keys.{opening_number}
use Rattle.engine_rule.proofs.ReadNames.{Stand}

-- a record as it is read
abbrev as_read : TreeRecord → Record
as_read r = record { key = r.key; found = record { number = number_word r.number; value = r.value } }

-- the record's number is no number of a record which was never written
abbrev pub HasNumber : Record → Type 0
HasNumber r = number_in r.found.number ≡ opening_number → ⊥

header_is : (kind n : ℕ) → device_header kind n ≡ kind * 256 + n
header_is kind n = omega arith

records_back : (rs : List TreeRecord) (rest : List ℕ)
    → records_at (length rs) (flat_map tree_record_words rs ++ rest) ≡ map as_read rs
records_back [] rest = refl
records_back (r ∷ rs) rest = ap (λ t. as_read r ∷ t) (records_back rs rest)

leaf_back : (low high : ℕ) (rs : List TreeRecord) → length rs ≤ 16
    → node_of (tree_leaf_words low high rs) ≡ Leaf (map as_read rs)
leaf_back low high rs short =
    let kind : device_header 1 (length rs) / 256 ≡ 1 = omega (arith, header_is 1 (length rs), short) in
    let count : device_header 1 (length rs) % 256 ≡ length rs = omega (arith, header_is 1 (length rs), short) in
    rw (kind, count) (ap Leaf (records_back rs (replicate (48 - length (flat_map tree_record_words rs)) 0)))

inner_back : (low high : ℕ) (c : Children) → length c.pointers ≤ 30 → records_of (node_of (tree_inner_words low high c)) ≡ []
inner_back low high c most =
    let kind : device_header 2 (length c.pointers) / 256 ≡ 2 = omega (arith, header_is 2 (length c.pointers), most) in
    rw kind refl

has_number : (n : Number) → IsNumber n → number_in (number_word n) ≡ opening_number → ⊥
has_number n is same =
    let epoch : number_word n / 2 ^ 40 ≡ 0 = ap (λ (x : Number). x.epoch) same in
    let some = is.some_epoch in absurd (omega (arith, epoch, some))

numbered : (low high : ℕ) (rs : List TreeRecord) → AllByRecursion (IsTreeRecord low high) rs
    → AllByRecursion HasNumber (map as_read rs)
numbered low high [] all = tt
numbered low high (r ∷ rs) all = (has_number r.number all.0.number, numbered low high rs all.1)

pub tree_numbered : (p : PagePlace) (words : List ℕ) → 0 < p.number → IsTreePage p words
    → AllByRecursion HasNumber (records_of (node_of words))
tree_numbered p words some right = elim (right.page some) [
  | inl leaf ↦
      subst (AllByRecursion HasNumber)
      (sym (ap (λ (ws : List ℕ). records_of (node_of ws)) leaf.2
      ∙ ap records_of (leaf_back p.low p.high leaf.0 leaf.1.most)))
      (numbered p.low p.high leaf.0 leaf.1.each)
  | inr inner ↦
      subst (AllByRecursion HasNumber)
      (sym (ap (λ (ws : List ℕ). records_of (node_of ws)) inner.2 ∙ inner_back p.low p.high inner.0 inner.1.most)) tt
]

-- a page that stands is right for its place
pub stands_right : (pages : List (List ℕ)) (decl : Decl) (depth : ℕ) (p : PagePlace) → Stand pages decl depth p
    → IsPageOf decl p (words_at pages p)
stands_right pages decl zero p stands = absurd stands
stands_right pages decl (suc depth) p stands = stands.right
