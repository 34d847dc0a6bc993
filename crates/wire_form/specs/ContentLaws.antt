-- What a page has in it is told by its words.
use Rattle.std.proofs.Common.{◌≡◌, ◌≢◌, ℕ, ◌-◌, ◌<◌, List, [], ◌∷◌, length, get_or, drop, map, replicate, Option, Some, None, refl, sym, ap, ◌∙◌, arith, lit<}
use Rattle.std.specs.Prelude.{IfSome}
use Rattle.std.specs.List.{flat_map, AllByRecursion}
use Rattle.std.proofs.lemmas.List.{length-map}
use Rattle.lists.specs.Each.{AreDistinct}
use Rattle.serial_model.specs.Keys.{id_of}
use Rattle.lists.specs.Fronts.{same_parts}
use Rattle.serial_model.specs.declared.decl.Decl.{Decl}
use Rattle.serial_model.specs.declared.decl.Decl.TheVariants.{Array, Tree}
use Rattle.serial_model.specs.declared.number.Number.{Number}
use Rattle.wire_form.specs.declared.records.ArrayRecord.{ArrayRecord}
use Rattle.wire_form.specs.declared.records.TreeRecord.{TreeRecord}
use Rattle.wire_form.specs.declared.records.Stored.{Stored}
use Rattle.serial_model.specs.Numbers.{IsNumber}
use Rattle.wire_form.specs.Words.{number_field}
use Rattle.wire_form.specs.Bytes.{padded}
use Rattle.serial_model.specs.Decls.{IsDecl, AreDecls}
use Rattle.wire_form.specs.Pages.{IsArrayRecord, array_record_words, IsArrayLeaf, array_leaf_words, IsArrayInner, array_inner_words, IsTreeRecord, tree_record_words, IsTreeLeaf, tree_leaf_words, Children, IsTreeInner, tree_inner_words, storage_head, storage_size, IsStored, stored_words, stored_id, stored_decl, Contents, IsCatalogue, decls_of, catalogue_words}
use Rattle.wire_form.specs.Items.{RisesAfter}
use Rattle.wire_form.specs.RangeLaws.{rises_above}
use Rattle.wire_form.specs.ByteLaws.{length-padded}
use Rattle.wire_form.specs.ItemLaws.{same_items, length-items}
use Rattle.wire_form.specs.LineLaws.{same_number_word}

-- an array's record from its parts
abbrev array_record_of : Option Number → ℕ → ArrayRecord
array_record_of n v = record { number = n; value = v }

-- a tree's record from its parts
abbrev tree_record_of : ℕ → Number → ℕ → TreeRecord
tree_record_of k n v = record { key = k; number = n; value = v }

-- a storage of a catalogue from its parts
abbrev stored_of : Decl → ℕ → Stored
stored_of d r = record { decl = d; root = r }

-- the children of a page from their parts
abbrev children_of : List ℕ → List ℕ → Children
children_of ps ss = record { pointers = ps; separators = ss }

-- what a catalogue says, from its parts
abbrev contents_of : ℕ → ℕ → List Stored → Contents
contents_of e p ss = record { epoch = e; previous = p; storages = ss }

same_number_field : (a b : Option Number) → IfSome a IsNumber → IfSome b IsNumber → number_field a ≡ number_field b
    → a ≡ b
same_number_field None None p q e = refl
same_number_field None (Some b) p q e = absurd (omega (arith, q.some_draw))
same_number_field (Some a) None p q e = absurd (omega (arith, p.some_draw))
same_number_field (Some a) (Some b) p q e = ap Some (same_number_word a b p q e)

same_array_record : (a b : ArrayRecord) → IsArrayRecord a → IsArrayRecord b
    → array_record_words a ≡ array_record_words b → a ≡ b
same_array_record a b p q e =
    let number = same_number_field a.number b.number p.number q.number (ap (λ t. get_or t 0 0) e) in
    ap (λ n. array_record_of n a.value) number ∙ ap (array_record_of b.number) (ap (λ t. get_or t 1 0) e)

same_tree_record : (low high : ℕ) (a b : TreeRecord) → IsTreeRecord low high a → IsTreeRecord low high b
    → tree_record_words a ≡ tree_record_words b → a ≡ b
same_tree_record low high a b p q e =
    let number = same_number_word a.number b.number p.number q.number (ap (λ t. get_or t 1 0) e) in
    ap (λ k. tree_record_of k a.number a.value) (ap (λ t. get_or t 0 0) e)
    ∙ ap (λ n. tree_record_of b.key n a.value) number
    ∙ ap (tree_record_of b.key b.number) (ap (λ t. get_or t 2 0) e)

same_decl : (a b : Decl) → IsDecl a → IsDecl b → storage_head a ≡ storage_head b → storage_size a ≡ storage_size b
    → a ≡ b
same_decl (Array i m) (Array j n) p q e f = let id : i ≡ j = omega arith in ap (λ k. Array k m) id ∙ ap (Array j) f
same_decl (Array i m) (Tree j) p q e f = absurd (omega (arith, p.0, q))
same_decl (Tree i) (Array j n) p q e f = absurd (omega (arith, p, q.0))
same_decl (Tree i) (Tree j) p q e f = let id : i ≡ j = omega arith in ap Tree id

same_stored : (number : ℕ) (a b : Stored) → IsStored number a → IsStored number b → stored_words a ≡ stored_words b
    → a ≡ b
same_stored number a b p q e =
    let decl = same_decl a.decl b.decl p.decl q.decl (ap (λ t. get_or t 0 0) e) (ap (λ t. get_or t 1 0) e) in
    ap (λ d. stored_of d a.root) decl ∙ ap (stored_of b.decl) (ap (λ t. get_or t 2 0) e)

-- lists of one length with zeros after them
same_padded : (n : ℕ) (xs ys : List ℕ) → length xs ≡ length ys → padded n xs ≡ padded n ys → xs ≡ ys
same_padded n xs ys len e = (same_parts xs ys (replicate (n - length xs) 0) (replicate (n - length ys) 0) len e).0

-- leaves of arrays with the same words have the same records
pub one_array_leaf : (used : ℕ) (a b : List ArrayRecord) → IsArrayLeaf used a → IsArrayLeaf used b
    → array_leaf_words a ≡ array_leaf_words b → a ≡ b
one_array_leaf used a b p q e =
    let len : length (flat_map array_record_words a) ≡ length (flat_map array_record_words b) =
    omega
    (arith, length-items array_record_words 2 (λ _. refl) a, length-items array_record_words 2 (λ _. refl) b, p.count, q.count)
    in
    same_items IsArrayRecord array_record_words 2 (lit< tt) (λ _. refl) same_array_record a b p.each q.each
    (same_padded 64 (flat_map array_record_words a) (flat_map array_record_words b) len e)

-- interior pages of arrays with the same words have the same pointers
pub one_array_inner : (used number : ℕ) (a b : List ℕ) → IsArrayInner used number a → IsArrayInner used number b
    → array_inner_words a ≡ array_inner_words b → a ≡ b
one_array_inner used number a b p q e = same_padded 64 a b (p.count ∙ sym q.count) e

-- leaves of trees with the same words have the same records
pub one_tree_leaf : (low high : ℕ) (a b : List TreeRecord) → IsTreeLeaf low high a → IsTreeLeaf low high b
    → tree_leaf_words low high a ≡ tree_leaf_words low high b → a ≡ b
one_tree_leaf low high a b p q e =
    let count : length a ≡ length b = omega (arith, ap (λ t. get_or t 0 0) e) in
    let len : length (flat_map tree_record_words a) ≡ length (flat_map tree_record_words b) =
    omega
    (arith, length-items tree_record_words 3 (λ _. refl) a, length-items tree_record_words 3 (λ _. refl) b, count)
    in
    same_items (IsTreeRecord low high) tree_record_words 3 (lit< tt) (λ _. refl) (same_tree_record low high) a b
    p.each q.each
    (same_padded 48 (flat_map tree_record_words a) (flat_map tree_record_words b) len (ap (drop 16) e))

-- interior pages of trees with the same words have the same children
pub one_tree_inner : (low high number : ℕ) (a b : Children) → IsTreeInner low high number a
    → IsTreeInner low high number b → tree_inner_words low high a ≡ tree_inner_words low high b → a ≡ b
one_tree_inner low high number a b p q e =
    let count : length a.pointers ≡ length b.pointers = omega (arith, ap (λ t. get_or t 0 0) e) in
    let both =
    same_parts (padded 30 a.pointers) (padded 30 b.pointers) (padded 30 a.separators) (padded 30 b.separators)
    (length-padded 30 a.pointers p.most ∙ sym (length-padded 30 b.pointers q.most)) (ap (drop 4) e) in
    let pointers : a.pointers ≡ b.pointers = same_padded 30 a.pointers b.pointers count both.0 in
    let separators : a.separators ≡ b.separators =
    same_padded 30 a.separators b.separators (omega (arith, p.between, q.between)) both.1 in
    ap (λ ps. children_of ps a.separators) pointers ∙ ap (children_of b.pointers) separators

-- catalogues with the same words say the same
pub one_catalogue : (number : ℕ) (a b : Contents) → IsCatalogue number a → IsCatalogue number b
    → catalogue_words a ≡ catalogue_words b → a ≡ b
one_catalogue number a b p q e =
    let count : length a.storages ≡ length b.storages = omega (arith, ap (λ t. get_or t 0 0) e) in
    let len : length (flat_map stored_words a.storages) ≡ length (flat_map stored_words b.storages) =
    omega
    (arith, length-items stored_words 3 (λ _. refl) a.storages, length-items stored_words 3 (λ _. refl) b.storages, count)
    in
    let storages =
    same_items (IsStored number) stored_words 3 (lit< tt) (λ _. refl) (same_stored number) a.storages b.storages
    p.each q.each
    (same_padded 48 (flat_map stored_words a.storages) (flat_map stored_words b.storages) len (ap (drop 16) e)) in
    ap (λ x. contents_of x a.previous a.storages) (ap (λ t. get_or t 1 0) e)
    ∙ ap (λ x. contents_of b.epoch x a.storages) (ap (λ t. get_or t 2 0) e)
    ∙ ap (contents_of b.epoch b.previous) storages

-- ---- a catalogue's storages

-- numbers that rise after one are above it
above : (x : ℕ) (xs : List ℕ) → RisesAfter ◌<◌ (Some x) xs → AllByRecursion (λ y. x < y) xs
above x [] rising = tt
above x (y ∷ ys) rising = (rising.0, rises_above x y ys rising.0 rising.1)

-- storages with ids that rise are declarations with distinct ids
distinct_ids : (last : Option ℕ) (storages : List Stored) → RisesAfter ◌<◌ last (map stored_id storages)
    → AreDistinct (map id_of (map stored_decl storages))
distinct_ids last [] rising = tt
distinct_ids last (s ∷ ss) rising = (
  same_ids (stored_id s) ss (above (stored_id s) (map stored_id ss) rising.1),
  distinct_ids (Some (stored_id s)) ss rising.1,
)
  where
    same_ids : (x : ℕ) (rest : List Stored) → AllByRecursion (λ y. x < y) (map stored_id rest)
        → AllByRecursion (λ y. x ≢ y) (map id_of (map stored_decl rest))
    same_ids x [] all = tt
    same_ids x (r ∷ rs) all = (λ same. omega (arith, all.0), same_ids x rs all.1)

-- and each is one
each_decl : (number : ℕ) (storages : List Stored) → AllByRecursion (IsStored number) storages
    → AllByRecursion IsDecl (map stored_decl storages)
each_decl number [] all = tt
each_decl number (s ∷ ss) all = (all.0.decl, each_decl number ss all.1)

-- a catalogue declares storages of a database
pub declares : (number : ℕ) (c : Contents) → IsCatalogue number c → AreDecls (decls_of c)
declares number c is = record {
  few = omega (arith, is.most, length-map c.storages stored_decl);
  each = each_decl number c.storages is.each;
  distinct = distinct_ids None c.storages is.rising;
}
