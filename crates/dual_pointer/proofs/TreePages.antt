-- What the machine has of a snapshot page of a tree, as its words say it.
use Rattle.std.proofs.Common.{◌≡◌, inl, inr, ℕ, zero, suc, ◌<◌, ◌≤◌, Bool, true, false, true≢false, cond}
use Rattle.std.proofs.Common.{not, List, [], ◌∷◌, refl, sym, ap, ◌∙◌, arith, Option, Some}
use Rattle.std.specs.Prelude.{◌&&◌, ◌||◌, is_some, map}
use Rattle.std.specs.List.{list_all, list_any, slice_get}
use Rattle.std.proofs.lemmas.Bool.{and_from, and_parts, cases_Bool}
use Rattle.serial_model.specs.declared.decl.Decl.{Decl}
use Rattle.serial_model.specs.declared.decl.Decl.TheVariants.{Array, Tree}
use Rattle.serial_model.specs.declared.key.Key.{Key}
use Rattle.serial_model.specs.Decls.{AreDecls}
use Rattle.serial_model.specs.Keys.{id_of}
use Rattle.homes.specs.declared.places.Content.{Content}
use Rattle.homes.specs.declared.places.Home.{Home}
use Rattle.homes.specs.declared.places.Home.TheVariants.{InPage, Nowhere}
use Rattle.homes.specs.declared.places.Span.{Span}
use Rattle.homes.specs.Homes.{has_key, in_span, same_home, same_key}
use Rattle.homes.specs.Laws.{same_key-self, same_key-true}
use Rattle.snapshot_store.specs.declared.place.PagePlace.{PagePlace}
use Rattle.snapshot_store.specs.Places.{page as page_words}
use Rattle.snapshot_store.specs.TreePages.{Record}
use Rattle.drop_core.specs.declared.table.SnapPage.TheVariants.{Entries}
use Rattle.drop_core.specs.declared.table.Table.{Table}
use Rattle.drop_core.specs.Event.{are_entries_of, each_once, is_leaf_for, is_leaf_page, is_left_in, is_right, leaves_none_out}
use Rattle.drop_core.specs.Sound.{PublishedAreRight}
use Rattle.drop_core.specs.Table.{entry_home, snap_home, snap_of}
use Rattle.engine_rule.specs.Pairs.{page_content}
use Rattle.engine_rule.specs.Reading.{entry_for, name_of, page_from, span_of, tree_entries}
use Rattle.engine_pages.specs.Pages.{is_tree, is_tree_kind}
use Rattle.engine_pages.specs.Resident.{Published, ArePages, IsNamed, place_for, tree_below}
use Rattle.engine_pages.proofs.PointerLaws.{named_entry}
use Rattle.dual_pointer.specs.Installs.{contents_in, keys_in, tree_records}
use Rattle.dual_pointer.proofs.Moves.{pass_all}
use Rattle.dual_pointer.proofs.Names.{decl_found}
use Rattle.dual_pointer.proofs.SnapWords.{home_step, home_zero}

-- ---- the page of a tree that has a name

-- The page with this number stands for these keys of a tree, and has this name there.
pub record IsTreeEntry (xs : List (Decl × PagePlace)) (sp : Span) (number name : ℕ) : Type 0 where
  pub index : ℕ
  pub at : slice_get xs index ≡ Some (Tree sp.storage, place_for sp number)
  pub is : name ≡ suc index

tree_of : (e : Decl) → is_tree_kind (Some e) ≡ true → e ≡ Tree (id_of e)
tree_of (Array id size) kind = absurd (true≢false (sym kind))
tree_of (Tree id) kind = refl

pub tree_entry : (decls : List Decl) (r : Published) (d : Table) (sp : Span) (number name : ℕ) → AreDecls decls
    → ArePages decls r d → IsNamed r.places sp number name → is_tree decls sp.storage ≡ true → 0 < number
    → IsTreeEntry r.places sp number name
tree_entry decls r d sp number name declared h named tree some =
    let e = named_entry r.places sp number name named some in
    let stands = h.stand e.index (e.decl, place_for sp number) e.at in
    let kind : is_tree_kind (Some e.decl) ≡ true =
    sym (ap is_tree_kind (decl_found decls e.decl declared.distinct stands.declared))
    ∙ (ap (is_tree decls) e.storage ∙ tree) in
    let decl : e.decl ≡ Tree sp.storage =
    tree_of e.decl kind ∙ ap (λ (i : ℕ). let z : Decl = Tree i in z) e.storage in record {
      index = e.index;
      at = e.at ∙ ap (λ (y : Decl). let o : Option (Decl × PagePlace) = Some (y, place_for sp number) in o) decl;
      is = e.is;
    }

-- ---- entries

-- the keys of entries
abbrev pub keys_of : List (Key × Content) → List Key
keys_of entries = map (λ e. e.0) entries

-- what they have
abbrev pub contents_of : List (Key × Content) → List Content
contents_of entries = map (λ e. e.1) entries

pub keys_read : (sp : Span) (records : List Record) → keys_of (tree_entries sp.storage records) ≡ keys_in sp records
keys_read sp [] = refl
keys_read sp (r ∷ records) =
    ap (λ (ks : List Key). record { storage = sp.storage; key = r.key } ∷ ks) (keys_read sp records)

pub contents_read : (sp : Span) (records : List Record)
    → contents_of (tree_entries sp.storage records) ≡ contents_in records
contents_read sp [] = refl
contents_read sp (r ∷ records) =
    ap (λ (cs : List Content). (entry_for (record { storage = sp.storage; key = r.key }) r.found).1 ∷ cs)
    (contents_read sp records)

-- a key is among those of entries where one of them is of it
any_key : (entries : List (Key × Content)) (k : Key)
    → has_key (keys_of entries) k ≡ list_any (λ f. same_key f.0 k) entries
any_key [] k = refl
any_key (e ∷ entries) k = ap (λ (c : Bool). same_key e.0 k || c) (any_key entries k)

-- entries of a span have keys that are there once each
once_of : (sp : Span) (entries : List (Key × Content)) → are_entries_of sp entries ≡ true
    → each_once (keys_of entries) ≡ true
once_of sp [] right = refl
once_of sp (e ∷ entries) right =
    let one = and_parts (in_span sp e.0) _ right in
    let two = and_parts (is_some (e.1).value) _ one.1 in
    let three = and_parts (not (list_any (λ f. same_key f.0 e.0) entries)) (are_entries_of sp entries) two.1 in
    and_from (not (has_key (keys_of entries) e.0)) (each_once (keys_of entries))
    (ap not (any_key entries e.0) ∙ three.0) (once_of sp entries three.1)

all_of : (sp : Span) (entries : List (Key × Content)) → are_entries_of sp entries ≡ true
    → list_all (λ k. in_span sp k) (keys_of entries) ≡ true
all_of sp [] right = refl
all_of sp (e ∷ entries) right =
    let one = and_parts (in_span sp e.0) _ right in
    let two = and_parts (is_some (e.1).value) _ one.1 in
    let three = and_parts (not (list_any (λ f. same_key f.0 e.0) entries)) (are_entries_of sp entries) two.1 in
    and_from (in_span sp e.0) (list_all (λ k. in_span sp k) (keys_of entries)) one.0 (all_of sp entries three.1)

-- a key of the list is in the span
pub within_of : (sp : Span) (keys : List Key) (i : ℕ) (k : Key) → list_all (λ k. in_span sp k) keys ≡ true
    → slice_get keys i ≡ Some k → in_span sp k ≡ true
within_of sp [] i k all is = absurd (cc)
within_of sp (x ∷ keys) zero k all is =
    let same : x ≡ k = cc in
    ap (in_span sp) (sym same) ∙ (and_parts (in_span sp x) (list_all (λ k. in_span sp k) keys) all).0
within_of sp (x ∷ keys) (suc i) k all is =
    within_of sp keys i k (and_parts (in_span sp x) (list_all (λ k. in_span sp k) keys) all).1 is

-- a key that none of the entries is of has no home by them
none_of : (name : ℕ) (entries : List (Key × Content)) (k : Key) → has_key (keys_of entries) k ≡ false
    → entry_home name entries k ≡ Nowhere
none_of name [] k none = refl
none_of name (e ∷ entries) k none =
    let parts = or_false (same_key e.0 k) (has_key (keys_of entries) k) none in
    ap (λ (c : Bool). let h : Home = cond c (InPage name e.1) (entry_home name entries k) in h) parts.0
    ∙ none_of name entries k parts.1
  where
    or_false : (a c : Bool) → (a || c) ≡ false → (a ≡ false) × (c ≡ false)
    or_false true c e = absurd (true≢false e)
    or_false false c e = (refl, e)

-- and each has what its entry says
content_of : (name : ℕ) (entries : List (Key × Content)) (i : ℕ) (k : Key) (c : Content)
    → each_once (keys_of entries) ≡ true → slice_get (keys_of entries) i ≡ Some k
    → slice_get (contents_of entries) i ≡ Some c → entry_home name entries k ≡ InPage name c
content_of name [] i k c once is has = absurd (cc)
content_of name (e ∷ entries) zero k c once is has =
    let key : e.0 ≡ k = cc in
    let content : e.1 ≡ c = cc in
    ap (λ (b : Bool). let h : Home = cond b (InPage name e.1) (entry_home name entries k) in h)
    (ap (λ (z : Key). same_key e.0 z) (sym key) ∙ same_key-self e.0)
    ∙ ap (λ (z : Content). let h : Home = InPage name z in h) content
content_of name (e ∷ entries) (suc i) k c once is has =
    let parts = and_parts (not (has_key (keys_of entries) e.0)) (each_once (keys_of entries)) once in
    ap (λ (b : Bool). let h : Home = cond b (InPage name e.1) (entry_home name entries k) in h)
    (miss (same_key e.0 k) refl parts.0)
    ∙ content_of name entries i k c parts.1 is has
  where
    has_at : (keys : List Key) (i : ℕ) → slice_get keys i ≡ Some k → has_key keys k ≡ true
    has_at [] i is = absurd (cc)
    has_at (x ∷ keys) zero is =
        let same : x ≡ k = cc in
        ap (λ (c : Bool). c || has_key keys k) (ap (λ (z : Key). same_key x z) (sym same) ∙ same_key-self x)
    has_at (x ∷ keys) (suc i) is = or_yes (same_key x k) (has_at keys i is)
      where
        or_yes : (a : Bool) {b : Bool} → b ≡ true → (a || b) ≡ true
        or_yes true e = refl
        or_yes false e = e

    miss : (b : Bool) → same_key e.0 k ≡ b → not (has_key (keys_of entries) e.0) ≡ true → b ≡ false
    miss false hit none = refl
    miss true hit none =
        let there : has_key (keys_of entries) e.0 ≡ true =
        ap (has_key (keys_of entries)) (same_key-true e.0 k hit) ∙ has_at (keys_of entries) i is in
        absurd (true≢false (sym none ∙ ap not there))

-- ---- a leaf of the machine

-- The page with this name is a leaf with these entries of these keys, or none.
pub record IsTreeLeaf (d : Table) (name : ℕ) (sp : Span) (records : List Record) : Type 0 where
  pub leaf : is_leaf_page (snap_of d name) ≡ true
  pub right : are_entries_of sp (tree_entries sp.storage records) ≡ true
  pub home : (k : Key) → snap_home d name k ≡ entry_home name (tree_entries sp.storage records) k

pub tree_leaf_is : (decls : List Decl) (r : Published) (d : Table) (sp : Span) (number name : ℕ) → AreDecls decls
    → ArePages decls r d → PublishedAreRight (snap_of d) d.published → IsNamed r.places sp number name
    → name ≤ d.published → is_tree decls sp.storage ≡ true → tree_below r.pages sp number ≡ []
    → IsTreeLeaf d name sp (tree_records r.pages number)
tree_leaf_is decls r d sp number name declared h published named most tree leaf = by_number number refl
  where
    by_number : (n : ℕ) → number ≡ n → IsTreeLeaf d name sp (tree_records r.pages number)
    by_number zero e =
        let none : name ≡ 0 = named.is ∙ ap (λ n. name_of r.places named.decl (place_for sp n)) e in
        let bare : tree_records r.pages number ≡ [] = ap (λ n. tree_records r.pages n) e in record {
          leaf = ap (λ i. is_leaf_page (snap_of d i)) none ∙ ap is_leaf_page h.none;
          right = ap (λ (rs : List Record). are_entries_of sp (tree_entries sp.storage rs)) bare;
          home = λ k.
              ap (λ i. snap_home d i k) none
              ∙ (home_zero d k
              ∙ sym (ap (λ (rs : List Record). entry_home name (tree_entries sp.storage rs) k) bare));
        }
    by_number (suc n) e =
        let p = place_for sp number in
        let records : List Record = tree_records r.pages number in
        let there = tree_entry decls r d sp number name declared h named tree (omega (arith, e)) in
        let page : snap_of d (suc there.index) ≡ Entries (span_of sp.storage p) (tree_entries sp.storage records) =
        h.says there.index (Tree sp.storage, p) there.at
        ∙ ap (λ (below : List PagePlace). page_from r.places (Tree sp.storage) (page_words r.pages number) p below) leaf in
        let right : is_right (snap_of d) (snap_of d (suc there.index)) ≡ true =
        published.right (suc there.index) (omega arith) (let is = there.is in omega arith) in record {
          leaf = ap (λ i. is_leaf_page (snap_of d i)) there.is ∙ ap is_leaf_page page;
          right = sym (ap (is_right (snap_of d)) page) ∙ right;
          home = λ k.
              ap (λ i. snap_home d i k) there.is
              ∙ (home_step d there.index (span_of sp.storage p) (tree_entries sp.storage records) k page
              ∙ ap (λ i. entry_home i (tree_entries sp.storage records) k) (sym there.is));
        }

-- ---- the tests of an install

module _ (d : Table) (name : ℕ) (sp : Span) (records : List Record) (is : IsTreeLeaf d name sp records) where
  abbrev pub keys : List Key
  keys = keys_in sp records

  same_keys : keys_of (tree_entries sp.storage records) ≡ keys
  same_keys = keys_read sp records

  pub keys_once : each_once keys ≡ true
  keys_once = ap each_once (sym same_keys) ∙ once_of sp (tree_entries sp.storage records) is.right

  pub keys_within : list_all (λ k. in_span sp k) keys ≡ true
  keys_within =
      ap (λ (ks : List Key). list_all (λ k. in_span sp k) ks) (sym same_keys)
      ∙ all_of sp (tree_entries sp.storage records) is.right

  -- a key that isn't in the leaf has no home by the page
  left_out : (k : Key) → is_left_in d name sp keys k ≡ true
  left_out k = elim (cases_Bool (has_key keys k)) [
    | inl has ↦
        ap (λ (c : Bool). not (in_span sp k) || (c || same_home (snap_home d name k) Nowhere)) has
        ∙ or_yes (not (in_span sp k))
    | inr none ↦
        let nowhere : snap_home d name k ≡ Nowhere =
        is.home k
        ∙ none_of name (tree_entries sp.storage records) k (ap (λ (ks : List Key). has_key ks k) same_keys ∙ none) in
        ap (λ (h : Home). not (in_span sp k) || (has_key keys k || same_home h Nowhere)) nowhere
        ∙ (ap (λ (c : Bool). not (in_span sp k) || c) (or_yes (has_key keys k)) ∙ or_yes (not (in_span sp k)))
  ]
    where
      or_yes : (c : Bool) → (c || true) ≡ true
      or_yes true = refl
      or_yes false = refl

  pub leaf_for : is_leaf_for d name sp keys ≡ true
  leaf_for =
      and_from (each_once keys) (list_all (λ k. in_span sp k) keys && leaves_none_out d name sp keys) keys_once
      (and_from (list_all (λ k. in_span sp k) keys) (leaves_none_out d name sp keys) keys_within
      (pass_all (is_left_in d name sp keys) (λ k. left_out k) d.snaps))

  -- what the page has for a key is the content with its index
  pub content_says : (i : ℕ) (k : Key) (c : Content) → slice_get keys i ≡ Some k
      → slice_get (contents_in records) i ≡ Some c → page_content (snap_home d name k) ≡ c
  content_says i k c at has =
      ap page_content (is.home k ∙ content_of name (tree_entries sp.storage records) i k c
      (once_of sp (tree_entries sp.storage records) is.right)
      (ap (λ (ks : List Key). slice_get ks i) same_keys ∙ at)
      (ap (λ (cs : List Content). slice_get cs i) (contents_read sp records) ∙ has))
