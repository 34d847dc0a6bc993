-- A leaf of a tree in a snapshot: its records, and what a copy of it shows.
use Rattle.std.proofs.Common.{◌≡◌, ◌≢◌, ◌⊎◌, inl, inr, ℕ, zero, suc, ◌+◌, ◌-◌, ◌*◌, ◌/◌, ◌%◌, ◌<◌, ◌≤◌, Bool, true, false, true≢false}
use Rattle.std.proofs.Common.{List, [], ◌∷◌, ◌++◌, length, get_or, map, replicate, refl, sym, ap, ◌∙◌, subst, arith, Some}
use Rattle.std.specs.Prelude.{not, ◌&&◌}
use Rattle.std.specs.List.{AllByRecursion, flat_map, slice_get}
use Rattle.std.proofs.lemmas.Bool.{or_cases}
use Rattle.std.proofs.lemmas.List.{length-map}
use Rattle.serial_model.specs.declared.decl.Decl.{Decl}
use Rattle.serial_model.specs.declared.key.Key.{Key}
use Rattle.serial_model.specs.Decls.{AreDecls}
use Rattle.homes.specs.declared.places.Content.{Content}
use Rattle.homes.specs.declared.places.Holder.TheVariants.{Free}
use Rattle.homes.specs.declared.places.Span.{Span}
use Rattle.homes.specs.Homes.{has_key, in_span, same_key}
use Rattle.homes.specs.Laws.{in_span-from, same_key-true}
use Rattle.wire_form.specs.declared.page.PageKind.TheVariants.{TreeInner, TreeLeaf}
use Rattle.wire_form.specs.declared.records.TreeRecord.{TreeRecord}
use Rattle.wire_form.specs.Items.{Rises, RisesAfter}
use Rattle.wire_form.specs.Pages.{HasKind, IsTreeRecord, device_header, record_key, tree_leaf_words, tree_record_words}
use Rattle.wire_form.specs.Words.{number_in, number_word}
use Rattle.snapshot_store.specs.Content.{format_of, IsPageOf}
use Rattle.snapshot_store.specs.Places.{StandsTo, page as page_words}
use Rattle.snapshot_store.specs.TreePages.{IsTreePage, Leaf, Node, Record, node_below, node_of, records_at, records_of, tree_format}
use Rattle.drop_core.specs.Event.{each_once}
use Rattle.engine_pages.specs.Pages.{is_tree}
use Rattle.engine_pages.specs.Pointers.{StandsFor}
use Rattle.engine_pages.specs.Resident.{place_for, tree_below}
use Rattle.engine_pages.specs.Words.{IsSmall, ShowsKeyed}
use Rattle.dual_pointer.specs.Installs.{contents_in, keys_in, tree_records}
use Rattle.tree_heads.specs.Headers.{open_word}
use Rattle.tree_walks.proofs.DeclLaws.{tree_of}
use Rattle.tree_walks.specs.Snapshots.{read_so}
use Rattle.foster_tree.proofs.LockLaws.{number_said}
use Rattle.foster_tree.proofs.FillLaws.{at_map}
use Rattle.tree_making.proofs.SnapLaws.{leaf_head, leaf_record}

-- ---- which page it is

above_zero : (pages : List (List ℕ)) (sp : Span) (n d : ℕ) → 0 < n → StandsTo tree_format IsTreePage pages d (place_for sp n)
    → HasKind (TreeLeaf sp.low sp.high) n (page_words pages n) ⊎ HasKind (TreeInner sp.low sp.high) n (page_words pages n)
above_zero pages sp n zero some stands = absurd stands
above_zero pages sp n (suc d) some stands = (stands.right).page some

-- a page that stands for keys of a tree is a leaf or an interior one
pub kind_at : (decls : List Decl) (pages : List (List ℕ)) (sp : Span) (n : ℕ) → AreDecls decls
    → is_tree decls sp.storage ≡ true → 0 < n → StandsFor decls pages sp n
    → HasKind (TreeLeaf sp.low sp.high) n (page_words pages n) ⊎ HasKind (TreeInner sp.low sp.high) n (page_words pages n)
kind_at decls pages sp n declared tree some s =
    let is = tree_of decls s.0 sp.storage declared (s.2).declared s.1 tree in
    above_zero pages sp n (s.2).depth some
    (subst (λ (d : Decl). StandsTo (format_of d) (IsPageOf d) pages (s.2).depth (place_for sp n)) is.1 (s.2).stands)

header_is : (kind n : ℕ) → device_header kind n ≡ kind * 256 + n
header_is kind n = omega arith

-- a leaf's records, where its header isn't an interior page's
pub leaf_at : (pages : List (List ℕ)) (sp : Span) (n header : ℕ) → header ≡ get_or (page_words pages n) 0 0
    → header / 256 ≢ 2
    → HasKind (TreeLeaf sp.low sp.high) n (page_words pages n) ⊎ HasKind (TreeInner sp.low sp.high) n (page_words pages n)
    → HasKind (TreeLeaf sp.low sp.high) n (page_words pages n)
leaf_at pages sp n header word other kind = elim kind [
  | inl leaf ↦ leaf
  | inr inner ↦
      let few = inner.1.most in
      let is : header ≡ device_header 2 (length (inner.0).pointers) = word ∙ ap (λ (q : List ℕ). get_or q 0 0) inner.2 in
      let long = header_is 2 (length (inner.0).pointers) in
      absurd (other (omega (arith, is, few, long)))
]

-- ---- its records as they are read

records_back : (rs : List TreeRecord) (rest : List ℕ)
    → records_at (length rs) (flat_map tree_record_words rs ++ rest) ≡ map read_so rs
records_back [] rest = refl
records_back (r ∷ rs) rest = ap (λ t. read_so r ∷ t) (records_back rs rest)

leaf_back : (low high : ℕ) (rs : List TreeRecord) → length rs ≤ 16
    → node_of (tree_leaf_words low high rs) ≡ Leaf (map read_so rs)
leaf_back low high rs short =
    let kind : device_header 1 (length rs) / 256 ≡ 1 = omega (arith, header_is 1 (length rs), short) in
    let count : device_header 1 (length rs) % 256 ≡ length rs = omega (arith, header_is 1 (length rs), short) in
    rw (kind, count) (ap Leaf (records_back rs (replicate (48 - length (flat_map tree_record_words rs)) 0)))

-- the key of a record, and what it stands for
abbrev pub key_so : Span → TreeRecord → Key
key_so sp r = record { storage = sp.storage; key = r.key }

abbrev pub content_so : TreeRecord → Content
content_so r = record { number = number_in (number_word r.number); value = Some r.value }

keys_back : (sp : Span) (rs : List TreeRecord) → keys_in sp (map read_so rs) ≡ map (key_so sp) rs
keys_back sp [] = refl
keys_back sp (r ∷ rs) = ap (λ (l : List Key). key_so sp r ∷ l) (keys_back sp rs)

contents_back : (rs : List TreeRecord) → contents_in (map read_so rs) ≡ map content_so rs
contents_back [] = refl
contents_back (r ∷ rs) = ap (λ (l : List Content). content_so r ∷ l) (contents_back rs)

-- ---- each of another key of the span

span_key : (sp : Span) (r : TreeRecord) → IsTreeRecord sp.low sp.high r → in_span sp (key_so sp r) ≡ true
span_key sp r is = in_span-from sp (key_so sp r) refl is.from_low is.to_high

inside_of : (sp : Span) (rs : List TreeRecord) (k : Key) → AllByRecursion (IsTreeRecord sp.low sp.high) rs
    → has_key (map (key_so sp) rs) k ≡ true → in_span sp k ≡ true
inside_of sp [] k all has = absurd (true≢false (sym has))
inside_of sp (r ∷ rs) k all has = elim (or_cases (same_key (key_so sp r) k) (has_key (map (key_so sp) rs) k) has) [
  | inl hit ↦ subst (λ (q : Key). in_span sp q ≡ true) (same_key-true (key_so sp r) k hit) (span_key sp r all.0)
  | inr more ↦ inside_of sp rs k all.1 more
]

-- a key among those that rise after another one is above it
above_last : (sp : Span) (x : ℕ) (rs : List TreeRecord) (k : Key) → RisesAfter ◌<◌ (Some x) (map record_key rs)
    → has_key (map (key_so sp) rs) k ≡ true → x < k.key
above_last sp x [] k rises has = absurd (true≢false (sym has))
above_last sp x (r ∷ rs) k rises has = elim (or_cases (same_key (key_so sp r) k) (has_key (map (key_so sp) rs) k) has) [
  | inl hit ↦ subst (λ (q : Key). x < q.key) (same_key-true (key_so sp r) k hit) rises.0
  | inr more ↦
      let first : x < r.key = rises.0 in
      let next = above_last sp r.key rs k rises.1 more in omega (arith, first, next)
]

none_again : (sp : Span) (r : TreeRecord) (rs : List TreeRecord) → RisesAfter ◌<◌ (Some r.key) (map record_key rs) → (b : Bool)
    → has_key (map (key_so sp) rs) (key_so sp r) ≡ b → not b ≡ true
none_again sp r rs rises true has =
    let less : r.key < r.key = above_last sp r.key rs (key_so sp r) rises has in absurd (omega (arith, less))
none_again sp r rs rises false none = refl

both : (a b : Bool) → a ≡ true → b ≡ true → (a && b) ≡ true
both a b first second = ap (λ (c : Bool). c && b) first ∙ second

once_after : (sp : Span) (x : ℕ) (rs : List TreeRecord) → RisesAfter ◌<◌ (Some x) (map record_key rs)
    → each_once (map (key_so sp) rs) ≡ true
once_after sp x [] rises = refl
once_after sp x (r ∷ rs) rises =
    both (not (has_key (map (key_so sp) rs) (key_so sp r))) (each_once (map (key_so sp) rs))
    (none_again sp r rs rises.1 (has_key (map (key_so sp) rs) (key_so sp r)) refl) (once_after sp r.key rs rises.1)

once_of : (sp : Span) (rs : List TreeRecord) → Rises ◌<◌ (map record_key rs) → each_once (map (key_so sp) rs) ≡ true
once_of sp [] rises = refl
once_of sp (r ∷ rs) rises =
    both (not (has_key (map (key_so sp) rs) (key_so sp r))) (each_once (map (key_so sp) rs))
    (none_again sp r rs rises.1 (has_key (map (key_so sp) rs) (key_so sp r)) refl) (once_after sp r.key rs rises.1)

-- ---- what a copy of it shows

each_in : (low high : ℕ) (rs : List TreeRecord) (i : ℕ) (d : TreeRecord) → AllByRecursion (IsTreeRecord low high) rs
    → i < length rs → IsTreeRecord low high (get_or rs i d)
each_in low high [] i d all less = absurd (omega (arith, less))
each_in low high (r ∷ rs) zero d all less = all.0
each_in low high (r ∷ rs) (suc i) d all less = each_in low high rs i d all.1 (omega (arith, less))

there : (rs : List TreeRecord) (n : ℕ) (d : TreeRecord) → n < length rs → slice_get rs n ≡ Some (get_or rs n d)
there [] n d less = absurd (omega (arith, less))
there (r ∷ rs) zero d less = refl
there (r ∷ rs) (suc n) d less = there rs n d (omega (arith, less))

-- stands for a record where there is none
abbrev no_record : TreeRecord
no_record = record { key = 0; number = record { epoch = 0; draw = 0 }; value = 0 }

number_back : (m : ℕ) → m ≡ number_word (number_in m)
number_back m = omega arith

plus_none : (m : ℕ) → m ≡ (m + 0) + 0
plus_none m = omega arith

module _ (pages : List (List ℕ)) (sp : Span) (n : ℕ) (words : List ℕ)
    (leaf : HasKind (TreeLeaf sp.low sp.high) n (page_words pages n))
    (copied : (i : ℕ) → i < 64 → get_or words i 0 ≡ get_or (page_words pages n) i 0) where
  abbrev rs : List TreeRecord
  rs = leaf.0

  -- its records
  pub records_are : tree_records pages n ≡ map read_so rs
  records_are =
      ap (λ (q : List ℕ). records_of (node_of q)) leaf.2
      ∙ ap (λ (x : Node). records_of x) (leaf_back sp.low sp.high rs leaf.1.most)

  pub keys_are : keys_in sp (tree_records pages n) ≡ map (key_so sp) rs
  keys_are = ap (λ (l : List Record). keys_in sp l) records_are ∙ keys_back sp rs

  pub contents_are : contents_in (tree_records pages n) ≡ map content_so rs
  contents_are = ap (λ (l : List Record). contents_in l) records_are ∙ contents_back rs

  -- nothing is below it
  pub none_below : tree_below pages sp n ≡ []
  none_below =
      ap (λ (q : List ℕ). node_below sp.low sp.high (node_of q)) leaf.2
      ∙ ap (λ (x : Node). node_below sp.low sp.high x) (leaf_back sp.low sp.high rs leaf.1.most)

  word_at : (i : ℕ) → i < 64 → get_or words i 0 ≡ get_or (tree_leaf_words sp.low sp.high rs) i 0
  word_at i less = copied i less ∙ ap (λ (q : List ℕ). get_or q i 0) leaf.2

  pub header_so : get_or words 0 0 ≡ open_word (length (map (key_so sp) rs))
  header_so =
      word_at 0 (omega arith)
      ∙ (leaf_head (length rs) ∙ ap (λ (m : ℕ). open_word m) (sym (length-map rs (key_so sp))))

  pub low_so : get_or words 1 0 ≡ sp.low
  low_so = word_at 1 (omega arith)

  pub high_so : get_or words 2 0 ≡ sp.high
  high_so = word_at 2 (omega arith)

  pub few_so : length (map (key_so sp) rs) ≤ 16
  few_so = let most = leaf.1.most in let same = length-map rs (key_so sp) in omega (arith, most, same)

  pub once_so : each_once (map (key_so sp) rs) ≡ true
  once_so = once_of sp rs leaf.1.rising

  pub inside_so : (k : Key) → has_key (map (key_so sp) rs) k ≡ true → in_span sp k ≡ true
  inside_so k has = inside_of sp rs k leaf.1.each has

  pub each_so : length (map content_so rs) ≡ length (map (key_so sp) rs)
  each_so = length-map rs content_so ∙ sym (length-map rs (key_so sp))

  shows : (i : ℕ) → i < length rs
      → ShowsKeyed words (16 + 3 * i) (λ q m. ⊥) (key_so sp (get_or rs i no_record))
      (record { content = content_so (get_or rs i no_record); holder = Free })
  shows i less =
      let most = leaf.1.most in
      let has = leaf_record sp.low sp.high rs i (get_or rs i no_record) (there rs i no_record less) in
      let number = (each_in sp.low sp.high rs i no_record leaf.1.each less).number in
      let small : IsSmall (get_or rs i no_record).number = record { draw = number.most_draw; epoch = number.most_epoch } in
      record {
        key = word_at (16 + 3 * i) (omega (arith, less, most)) ∙ has.key;
        absent = 0;
        word = word_at ((16 + 3 * i) + 1) (omega (arith, less, most))
            ∙ (has.word ∙ (number_back (number_word (get_or rs i no_record).number)
            ∙ plus_none (number_word (number_in (number_word (get_or rs i no_record).number)))));
        bit = inl refl;
        value = word_at ((16 + 3 * i) + 2) (omega (arith, less, most)) ∙ has.value;
        small = subst IsSmall
            (number_said (number_word (get_or rs i no_record).number) (get_or rs i no_record).number small refl) small;
      }

  pub records_so : (i : ℕ) (k : Key) (c : Content) → slice_get (map (key_so sp) rs) i ≡ Some k
      → slice_get (map content_so rs) i ≡ Some c
      → ShowsKeyed words (16 + 3 * i) (λ q m. ⊥) k (record { content = c; holder = Free })
  records_so i k c key content =
      let a = at_map (key_so sp) rs i no_record k key in
      let b = at_map content_so rs i no_record c content in
      subst (λ (z : Key). ShowsKeyed words (16 + 3 * i) (λ q m. ⊥) z (record { content = c; holder = Free })) a.1
      (subst (λ (z : Content). ShowsKeyed words (16 + 3 * i) (λ q m. ⊥) (key_so sp (get_or rs i no_record))
      (record { content = z; holder = Free })) b.1 (shows i a.0))
