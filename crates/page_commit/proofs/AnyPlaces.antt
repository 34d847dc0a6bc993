-- Where records of arrays and of trees stand: each word is of one key, and from its place and its key follows which record
-- it is of.
use Rattle.std.proofs.Common.{◌≡◌, ◌≢◌, inl, inr, ℕ, ◌+◌, ◌-◌, ◌*◌, ◌/◌, ◌%◌, ◌<◌, Bool, true, false, cond}
use Rattle.std.proofs.Common.{List, [], ◌∷◌, zero, suc, length, Some, refl, sym, ap, ◌∙◌, subst, arith}
use Rattle.std.specs.Prelude.{Contains, slice_get, ◌⊎◌}
use Rattle.lists.specs.Elements.{at_in, in_none}
use Rattle.serial_model.specs.declared.key.Key.{Key}
use Rattle.homes.specs.declared.places.Span.{Span}
use Rattle.homes.specs.declared.places.Spot.{Spot}
use Rattle.homes.specs.Homes.{in_span}
use Rattle.homes.specs.Laws.{in_span-parts}
use Rattle.wire_form.specs.Leaves.{tree_leaf, word_in}
use Rattle.engine_pages.specs.declared.view.Inner.{Inner}
use Rattle.engine_pages.specs.declared.view.View.{View}
use Rattle.engine_pages.specs.declared.view.Way.{Way}
use Rattle.engine_pages.specs.declared.engine.Engine.{Engine}
use Rattle.engine_pages.specs.declared.layout.Layout.{Layout}
use Rattle.engine_pages.specs.Passes.{Pass, view, IsPassOf}
use Rattle.engine_pages.specs.Agreement.{KnownAgree, TreesAgree}
use Rattle.engine_pages.specs.Layout.{page_at}
use Rattle.engine_pages.specs.Pages.{decl_of, is_array, is_tree}
use Rattle.page_records.specs.Ends.{IsLeafWordAt}
use Rattle.engine_pages.specs.Pointers.{WaysAgree, one_kind}
use Rattle.engine_pages.specs.Records.{IsAnyRecordAt, IsRecordAt, IsTreeRecordAt, IsTreeRecordIn}
use Rattle.engine_pages.specs.Steps.{seen_at}
use Rattle.tx_sets.specs.declared.sets.Sets.{Sets}
use Rattle.page_commit.specs.Live.{read_word, IsHeadIn, IsLive, IsTreeWordIn, StandsIn}
use Rattle.page_commit.specs.Places.{ground, slot_of, spot_at, spot_for, tree_spot, word_of, Ground, IsAnyKeyIn, IsKeyIn}
use Rattle.page_commit.specs.Places.{IsAnyKeyAt, IsPointerIn, IsTreeKeyIn}
use Rattle.page_commit.proofs.GrowLaws.{entry_at, no_value, record_stands, value_stands}
use Rattle.page_commit.proofs.GrowLaws.{KnowsMore}
use Rattle.page_commit.proofs.PlaceLaws.{key_array, no_pointer, one_key, one_place}

-- ---- a tree's record, by its word

-- the place of a tree's record follows from that of its word
pub tree_spot_of_word : (slots : ℕ) (x : Spot) (at : ℕ) → x.index < tree_leaf.room
    → at ≡ page_at slots x.slot (word_in tree_leaf x.index) → x ≡ tree_spot slots at
tree_spot_of_word slots x at few stands =
    let index : x.index < 16 = few in
    let word : at ≡ ((32 + slots) + 64 * x.slot) + (1 + (16 + 3 * x.index)) = stands in
    let slot : x.slot ≡ (at - (32 + slots)) / 64 = omega (arith, index, word) in
    let rest : (at - (32 + slots)) % 64 ≡ 17 + 3 * x.index = omega (arith, index, word) in
    let place : x.index ≡ ((at - (32 + slots)) % 64 - 17) / 3 = omega (arith, rest) in
    ap (λ (n : ℕ). let y : Spot = record { slot = n; index = x.index } in y) slot
    ∙ ap (λ (n : ℕ). let y : Spot = record { slot = (at - (32 + slots)) / 64; index = n } in y) place

pub tree_key_here : (v : View) (k : Key) (x : Spot) (at : ℕ) → (p : IsTreeRecordAt v k x at)
    → in_span p.way.span k ≡ true → IsTreeKeyIn (ground v) k at
tree_key_here v k x at p over =
    let spot : x ≡ tree_spot v.layout.slots at = tree_spot_of_word v.layout.slots x at p.index p.word in record {
      way = p.way;
      has = p.has;
      slot = p.slot ∙ ap (λ (y : Spot). y.slot) spot;
      leaf = p.leaf;
      knows = p.knows;
      same = p.same ∙ ap (λ (y : Spot). y.slot) spot;
      there = subst (λ (y : Spot). y.slot < v.layout.slots) spot p.there;
      index = subst (λ (y : Spot). y.index < tree_leaf.room) spot p.index;
      kind = p.kind;
      key = subst (λ (y : Spot). slice_get p.leaf.keys y.index ≡ Some k) spot p.key;
      word = p.word ∙ ap (λ (y : Spot). page_at v.layout.slots y.slot (word_in tree_leaf y.index)) spot;
      over = over;
    }

pub tree_record : (g : Ground) (k : Key) (at : ℕ) → IsTreeKeyIn g k at
    → IsTreeRecordIn g.layout.decls g.layout.slots g.ways g.known k (tree_spot g.layout.slots at) at
tree_record g k at p = record {
  way = p.way;
  has = p.has;
  slot = p.slot;
  leaf = p.leaf;
  knows = p.knows;
  same = p.same;
  there = p.there;
  index = p.index;
  kind = p.kind;
  key = p.key;
  word = p.word;
}

-- ---- kinds

-- the way into a tree's leaf is over keys of its storage
pub tree_storage : (g : Ground) (k : Key) (at : ℕ) → (p : IsTreeKeyIn g k at) → p.way.span.storage ≡ k.storage
tree_storage g k at p = sym (in_span-parts p.way.span k p.over).0

-- a way into an array's page isn't one into a tree's leaf
pub no_both : (g : Ground) (k : Key) (at : ℕ) (way : Way) → WaysAgree g.ways → (p : IsTreeKeyIn g k at)
    → Contains g.ways way → way.slot ≡ p.way.slot → is_array g.layout.decls way.span.storage ≡ true → ⊥
no_both g k at way agree p has slot array =
    let same = agree way p.way has p.has slot in
    one_kind (decl_of g.layout.decls k.storage)
    (subst (λ (s : ℕ). is_array g.layout.decls s ≡ true) (same.0 ∙ tree_storage g k at p) array) p.kind

pub tree_kind : (g : Ground) (k : Key) (at : ℕ) → IsTreeKeyIn g k at → is_array g.layout.decls k.storage ≡ false
tree_kind g k at p = by_test (is_array g.layout.decls k.storage) refl
  where
    by_test : (b : Bool) → is_array g.layout.decls k.storage ≡ b → is_array g.layout.decls k.storage ≡ false
    by_test true is = absurd (one_kind (decl_of g.layout.decls k.storage) is p.kind)
    by_test false is = is

-- ---- which record it is

pub array_spot : (g : Ground) (k : Key) (at : ℕ) → IsKeyIn g k at → spot_for g.layout k at ≡ spot_at g.layout.slots at
array_spot g k at p =
    ap (λ (b : Bool). cond b (spot_at g.layout.slots at) (tree_spot g.layout.slots at)) (key_array g k at p)

pub trees_spot : (g : Ground) (k : Key) (at : ℕ) → IsTreeKeyIn g k at
    → spot_for g.layout k at ≡ tree_spot g.layout.slots at
trees_spot g k at p =
    ap (λ (b : Bool). cond b (spot_at g.layout.slots at) (tree_spot g.layout.slots at)) (tree_kind g k at p)

pub any_spot : (v : View) (k : Key) (at : ℕ) → IsAnyKeyIn (ground v) k at → IsAnyRecordAt v k (spot_for v.layout k at) at
any_spot v k at (inl p) = inl (subst (λ (x : Spot). IsRecordAt v k x at) (sym (array_spot (ground v) k at p)) p)
any_spot v k at (inr p) =
    inr (subst (λ (x : Spot). IsTreeRecordAt v k x at) (sym (trees_spot (ground v) k at p)) (tree_record (ground v) k at p))

-- ---- one word, one key

pub any_one_key : (g : Ground) (k q : Key) (at : ℕ) → WaysAgree g.ways → KnownAgree g.known → IsAnyKeyIn g k at
    → IsAnyKeyIn g q at → k ≡ q
any_one_key g k q at agree known (inl a) (inl b) = one_key g k q at agree a b
any_one_key g k q at agree known (inl a) (inr b) =
    absurd (no_both g q at a.way agree b a.has (a.slot ∙ sym b.slot) a.kind)
any_one_key g k q at agree known (inr a) (inl b) =
    absurd (no_both g k at b.way agree a b.has (b.slot ∙ sym a.slot) b.kind)
any_one_key g k q at agree known (inr a) (inr b) =
    known a.leaf b.leaf a.knows b.knows (a.same ∙ sym b.same) (tree_spot g.layout.slots at).index k q a.key b.key

-- records at one place have one word
pub any_one_place : (g : Ground) (k q : Key) (at other : ℕ) → WaysAgree g.ways → IsAnyKeyIn g k at
    → IsAnyKeyIn g q other → spot_for g.layout k at ≡ spot_for g.layout q other → at ≡ other
any_one_place g k q at other agree (inl a) (inl b) same =
    one_place g k q at other a b (sym (array_spot g k at a) ∙ (same ∙ array_spot g q other b))
any_one_place g k q at other agree (inl a) (inr b) same =
    let spot : spot_at g.layout.slots at ≡ tree_spot g.layout.slots other =
    sym (array_spot g k at a) ∙ (same ∙ trees_spot g q other b) in
    absurd (no_both g q other a.way agree b a.has (a.slot ∙ (ap (λ (y : Spot). y.slot) spot ∙ sym b.slot)) a.kind)
any_one_place g k q at other agree (inr a) (inl b) same =
    let spot : tree_spot g.layout.slots at ≡ spot_at g.layout.slots other =
    sym (trees_spot g k at a) ∙ (same ∙ array_spot g q other b) in
    absurd (no_both g k at b.way agree a b.has (b.slot ∙ (ap (λ (y : Spot). y.slot) (sym spot) ∙ sym a.slot)) b.kind)
any_one_place g k q at other agree (inr a) (inr b) same =
    let spot : tree_spot g.layout.slots at ≡ tree_spot g.layout.slots other =
    sym (trees_spot g k at a) ∙ (same ∙ trees_spot g q other b) in
    a.word
    ∙ (ap (λ (x : Spot). page_at g.layout.slots x.slot (word_in tree_leaf x.index)) spot
    ∙ sym b.word)

none_at : (i : ℕ) (k : Key) → slice_get [] i ≡ Some k → ⊥
none_at i k is = in_none k (at_in [] i k is)

-- a record's word is no pointer's
pub any_no_pointer : (v : View) (k : Key) (sp : Span) (at : ℕ) → WaysAgree v.ways → TreesAgree v
    → IsAnyKeyIn (ground v) k at → IsPointerIn (ground v) sp at → ⊥
any_no_pointer v k sp at agree trees (inl a) p = no_pointer (ground v) k sp at agree a p
any_no_pointer v k sp at agree trees (inr a) (inl r) =
    let w : at
    ≡ ((32 + v.layout.slots) + 64 * ((at - (32 + v.layout.slots)) / 64))
    + (1 + (16 + 3 * (((at - (32 + v.layout.slots)) % 64 - 17) / 3))) = a.word in
    let few = r.few in let is : at ≡ 10 + r.root = r.word in absurd (omega (arith, w, few, is))
any_no_pointer v k sp at agree trees (inr a) (inr (inl c)) =
    no_both (ground v) k at c.way agree a c.has (c.slot ∙ sym a.slot) c.kind
any_no_pointer v k sp at agree trees (inr a) (inr (inr b)) =
    let none : a.leaf.keys ≡ [] = trees.apart a.leaf b.inner a.knows b.knows (a.same ∙ sym b.same) in
    none_at (tree_spot v.layout.slots at).index k
    (subst (λ (l : List Key). slice_get l (tree_spot v.layout.slots at).index ≡ Some k) none a.key)

-- ---- what stays, and where it stands

pub any_stands : (v : View) (k : Key) (at : ℕ) → IsAnyKeyIn (ground v) k at → StandsIn (ground v) at
any_stands v k at (inl p) = record_stands v k at p
any_stands v k at (inr p) = inr (p.way, p.has, sym p.slot, inr (inr (inr (k, at, p, inl refl))))

-- the value's word, too
pub any_value_stands : (v : View) (k : Key) (at : ℕ) → IsAnyKeyIn (ground v) k at → StandsIn (ground v) (at + 1)
any_value_stands v k at (inl p) = value_stands v k at p
any_value_stands v k at (inr p) =
    let index : ((at - (32 + v.layout.slots)) % 64 - 17) / 3 < 16 = p.index in
    let word : at
    ≡ ((32 + v.layout.slots) + 64 * ((at - (32 + v.layout.slots)) / 64))
    + (1 + (16 + 3 * (((at - (32 + v.layout.slots)) % 64 - 17) / 3))) = p.word in
    let same : (at + 1 - (32 + v.layout.slots)) / 64 ≡ (at - (32 + v.layout.slots)) / 64 = omega (arith, index, word) in
    inr (p.way, p.has, same ∙ sym p.slot, inr (inr (inr (k, at, p, inr refl))))

-- no record's word is another one's value
pub any_no_value : (v : View) (k q : Key) (at other : ℕ) → WaysAgree v.ways → IsAnyKeyIn (ground v) k at
    → IsAnyKeyIn (ground v) q other → other ≢ at + 1
any_no_value v k q at other agree (inl a) (inl b) = no_value v k q at other a b
any_no_value v k q at other agree (inl a) (inr b) = λ same.
    let one : at
    ≡ ((32 + v.layout.slots) + 64 * ((at - (32 + v.layout.slots)) / 64)) + 2 * (((at - (32 + v.layout.slots)) % 64) / 2) =
    a.word in
    let slot : (at - (32 + v.layout.slots)) / 64 ≡ (other - (32 + v.layout.slots)) / 64 = omega (arith, one, same) in
    no_both (ground v) q other a.way agree b a.has (a.slot ∙ (slot ∙ sym b.slot)) a.kind
any_no_value v k q at other agree (inr a) (inl b) = λ same.
    let index : ((at - (32 + v.layout.slots)) % 64 - 17) / 3 < 16 = a.index in
    let one : at
    ≡ ((32 + v.layout.slots) + 64 * ((at - (32 + v.layout.slots)) / 64))
    + (1 + (16 + 3 * (((at - (32 + v.layout.slots)) % 64 - 17) / 3))) = a.word in
    let slot : (at - (32 + v.layout.slots)) / 64 ≡ (other - (32 + v.layout.slots)) / 64 =
    omega (arith, index, one, same) in
    no_both (ground v) k at b.way agree a b.has (b.slot ∙ (sym slot ∙ sym a.slot)) b.kind
any_no_value v k q at other agree (inr a) (inr b) = λ same.
    let index : ((at - (32 + v.layout.slots)) % 64 - 17) / 3 < 16 = a.index in
    let further : ((other - (32 + v.layout.slots)) % 64 - 17) / 3 < 16 = b.index in
    let one : at
    ≡ ((32 + v.layout.slots) + 64 * ((at - (32 + v.layout.slots)) / 64))
    + (1 + (16 + 3 * (((at - (32 + v.layout.slots)) % 64 - 17) / 3))) = a.word in
    let two : other
    ≡ ((32 + v.layout.slots) + 64 * ((other - (32 + v.layout.slots)) / 64))
    + (1 + (16 + 3 * (((other - (32 + v.layout.slots)) % 64 - 17) / 3))) = b.word in
    absurd (omega (arith, index, further, one, two, same))

-- ---- words beside records

-- what stands before records, or in an interior page, is no record's word
pub head_apart : (v : View) (k : Key) (at : ℕ) → WaysAgree v.ways → TreesAgree v → IsAnyKeyIn (ground v) k at
    → IsHeadIn (ground v) at → ⊥
head_apart v k at agree trees (inl p) (inl low) =
    let word : at
    ≡ ((32 + v.layout.slots) + 64 * ((at - (32 + v.layout.slots)) / 64)) + 2 * (((at - (32 + v.layout.slots)) % 64) / 2) =
    p.word in
    absurd (omega (arith, low, word))
head_apart v k at agree trees (inl p) (inr h) =
    let same = agree p.way h.0 p.has h.1 (p.slot ∙ h.2) in
    one_kind (decl_of v.layout.decls h.0.span.storage)
    (subst (λ (s : ℕ). is_array v.layout.decls s ≡ true) same.0 p.kind) h.3
head_apart v k at agree trees (inr p) (inl low) =
    let word : at
    ≡ ((32 + v.layout.slots) + 64 * ((at - (32 + v.layout.slots)) / 64))
    + (1 + (16 + 3 * (((at - (32 + v.layout.slots)) % 64 - 17) / 3))) = p.word in
    absurd (omega (arith, low, word))
head_apart v k at agree trees (inr p) (inr h) = by_head h.4
  where
    by_head : (word_of v.layout.slots at < 16) ⊎ ((x : Inner) × Contains v.inners x × (x.slot ≡ h.0.slot)) → ⊥
    by_head (inl first) =
        let low : (at - (32 + v.layout.slots)) % 64 < 16 = first in
        let index : ((at - (32 + v.layout.slots)) % 64 - 17) / 3 < 16 = p.index in
        let word : at
        ≡ ((32 + v.layout.slots) + 64 * ((at - (32 + v.layout.slots)) / 64))
        + (1 + (16 + 3 * (((at - (32 + v.layout.slots)) % 64 - 17) / 3))) = p.word in
        absurd (omega (arith, low, index, word))
    by_head (inr inner) =
        let none : p.leaf.keys ≡ [] =
        trees.apart p.leaf inner.0 p.knows inner.1 (p.same ∙ (h.2 ∙ sym inner.2)) in
        none_at (tree_spot v.layout.slots at).index k
        (subst (λ (l : List Key). slice_get l (tree_spot v.layout.slots at).index ≡ Some k) none p.key)

pub head_stands : (v : View) (at : ℕ) → IsHeadIn (ground v) at → StandsIn (ground v) at
head_stands v at (inl low) = inl low
head_stands v at (inr h) = inr (h.0, h.1, h.2, inr (by_head h.4))
  where
    by_head : (word_of v.layout.slots at < tree_leaf.first)
        ⊎ ((x : Inner) × Contains v.inners x × (x.slot ≡ h.0.slot)) → IsTreeWordIn (ground v) h.0 at
    by_head (inl first) = inl first
    by_head (inr inner) = inr (inl inner)

-- ---- words that were met

-- of a tree's record that is known now and was read, the transaction had seen what it read
pub met_tree : (sets : Sets) (v w : View) (k : Key) (at n : ℕ) → IsLive sets v → KnowsMore v w → WaysAgree w.ways
    → IsTreeKeyIn (ground w) k at → read_word at sets.reads ≡ Some n → seen_at v.reads at ≡ Some n
met_tree sets v w k at n live more agree p is =
    let e = entry_at sets.reads at n is in
    by_place e.0.key (subst (IsAnyKeyAt v e.0.key) e.2 (live.parts.reads e.0 e.1).2.place)
  where
    by_place : (q : Key) → IsAnyKeyAt v q at → seen_at v.reads at ≡ Some n
    by_place q (inl a) = live.met.arrays q at a refl ∙ is
    by_place q (inr t) = live.met.trees q at n t refl is

-- ---- a word of a known leaf

below_length : (keys : List Key) (i : ℕ) (k : Key) → slice_get keys i ≡ Some k → i < length keys
below_length [] i k is = absurd (none_at i k is)
below_length (x ∷ keys) zero k is = omega arith
below_length (x ∷ keys) (suc i) k is = let rest = below_length keys i k is in omega (arith, rest)

-- the record's word is one of a known leaf
pub leaf_of : (v : View) (k : Key) (at : ℕ) → IsTreeKeyIn (ground v) k at
    → IsLeafWordAt v (slot_of v.layout.slots at) (word_in tree_leaf (tree_spot v.layout.slots at).index) at
leaf_of v k at p =
    let kind : is_tree v.layout.decls p.way.span.storage ≡ true =
    subst (λ (s : ℕ). is_tree v.layout.decls s ≡ true) (sym (tree_storage (ground v) k at p)) p.kind in
    let low : ((at - (32 + v.layout.slots)) % 64 - 17) / 3 < 16 = p.index in record {
      word = record {
        way = p.way;
        has = p.has;
        slot = p.slot;
        kind = kind;
        there = p.there;
        index = let less : 1 + (16 + 3 * (((at - (32 + v.layout.slots)) % 64 - 17) / 3)) < 64 = omega (arith, low) in less;
        word = p.word;
      };
      leaf = p.leaf;
      knows = p.knows;
      same = p.same;
      is = inr (
        (tree_spot v.layout.slots at).index,
        below_length p.leaf.keys (tree_spot v.layout.slots at).index k p.key,
        refl,
      );
    }

-- ---- the place that a call picks

-- it is the same in all passes of an engine
pub spot_same : (e : Engine) (p q : Pass) (k : Key) (at : ℕ) → IsPassOf e p → IsPassOf e q
    → spot_for (view p).layout k at ≡ spot_for (view q).layout k at
spot_same e p q k at of of' = ap (λ (l : Layout). spot_for l k at) (of.layout ∙ sym of'.layout)
