-- Words of records and pointers stand apart, each is of one key, and from its place follows what it is.
use Rattle.std.proofs.Common.{◌≡◌, ◌⊎◌, inl, inr, ℕ, ◌+◌, ◌-◌, ◌*◌, ◌≤◌, Bool, true, false, refl, eqb-true, eq-eqb}
use Rattle.std.proofs.Common.{true≢false, cond, sym, ap, ◌∙◌, subst, arith}
use Rattle.std.specs.Prelude.{nat_lt, Contains, ◌&&◌, ◌==◌}
use Rattle.std.proofs.lemmas.Bool.{and_from, and_parts}
use Rattle.std.proofs.lemmas.Bool.Decides.{nat_tests}
use Rattle.serial_model.specs.declared.key.Key.{Key}
use Rattle.homes.specs.declared.places.At.{At}
use Rattle.homes.specs.declared.places.At.TheVariants.{Root, In}
use Rattle.lists.specs.Elements.{any_in, any_is}
use Rattle.homes.specs.declared.places.Span.{Span}
use Rattle.homes.specs.declared.places.Spot.{Spot}
use Rattle.homes.specs.Homes.{same_key}
use Rattle.homes.specs.Laws.{same_key-self}
use Rattle.engine_pages.specs.declared.view.View.{View}
use Rattle.engine_pages.specs.declared.view.Way.{Way}
use Rattle.engine_pages.specs.Layout.{page_at}
use Rattle.engine_pages.specs.Pages.{decl_of, is_array, is_tree}
use Rattle.engine_pages.specs.Pointers.{one_kind, IsPointerAt, WaysAgree}
use Rattle.engine_pages.specs.declared.engine.Engine.{Engine}
use Rattle.engine_pages.specs.declared.layout.Layout.{Layout}
use Rattle.engine_pages.specs.Passes.{Pass, view, IsPassOf}
use Rattle.engine_pages.specs.Records.{IsRecordAt}
use Rattle.page_commit.specs.Places.{ground, is_array_page, pointer_for, pointer_index, slot_of, spot_at, word_of}
use Rattle.page_commit.specs.Places.{Ground, IsBranchIn, IsChildIn, IsKeyAt, IsKeyIn, IsPointerIn}
use Rattle.engine_pages.specs.Pages.{is_array}

-- ---- one word, one key

same_keys : (k q : Key) → k.storage ≡ q.storage → k.key ≡ q.key → k ≡ q
same_keys k q storage key =
    ap (λ (i : ℕ). let z : Key = record { storage = i; key = k.key } in z) storage
    ∙ ap (λ (i : ℕ). let z : Key = record { storage = q.storage; key = i } in z) key

pub one_key : (g : Ground) (k q : Key) (at : ℕ) → WaysAgree g.ways → IsKeyIn g k at → IsKeyIn g q at → k ≡ q
one_key g k q at agree a b =
    let same = agree a.way b.way a.has b.has (a.slot ∙ sym b.slot) in
    let i : ℕ = (spot_at g.layout.slots at).index in
    a.key
    ∙ (same_keys (record { storage = a.way.span.storage; key = a.way.span.low + i })
    (record { storage = b.way.span.storage; key = b.way.span.low + i }) same.0 (ap (λ n. n + i) same.1)
    ∙ sym b.key)

pub not_same : (k q : Key) → same_key k q ≡ false → k ≡ q → ⊥
not_same k q other same = true≢false (sym (same_key-self k) ∙ (ap (same_key k) same ∙ other))

-- records at one place have one word
pub one_place : (g : Ground) (k q : Key) (at other : ℕ) → IsKeyIn g k at → IsKeyIn g q other
    → spot_at g.layout.slots at ≡ spot_at g.layout.slots other → at ≡ other
one_place g k q at other a b same =
    let slots = g.layout.slots in
    a.word
    ∙ (ap (λ (x : Spot). page_at slots x.slot (2 * x.index)) same
    ∙ sym b.word)

-- ---- pages

-- a page of an array is told by any way into it
pub array_page : (g : Ground) (way : Way) → Contains g.ways way → is_array g.layout.decls way.span.storage ≡ true
    → is_array_page g way.slot ≡ true
array_page g way has array =
    any_in (λ (x : Way). (x.slot == way.slot) && is_array g.layout.decls x.span.storage) g.ways way has
    (and_from (way.slot == way.slot) (is_array g.layout.decls way.span.storage) (eq-eqb way.slot way.slot refl) array)

-- and a page of a tree is none
pub tree_page : (g : Ground) (way : Way) → WaysAgree g.ways → Contains g.ways way
    → is_tree g.layout.decls way.span.storage ≡ true → is_array_page g way.slot ≡ false
tree_page g way agree has tree = by_test (is_array_page g way.slot) refl
  where
    by_test : (b : Bool) → is_array_page g way.slot ≡ b → is_array_page g way.slot ≡ false
    by_test true is =
        let r = any_is (λ (x : Way). (x.slot == way.slot) && is_array g.layout.decls x.span.storage) g.ways is in
        let parts = and_parts (r.0.slot == way.slot) (is_array g.layout.decls r.0.span.storage) r.2 in
        let same = agree r.0 way r.1 has (eqb-true r.0.slot way.slot parts.0) in
        absurd (one_kind (decl_of g.layout.decls way.span.storage)
        (subst (λ (n : ℕ). is_array g.layout.decls n ≡ true) same.0 parts.1) tree)
    by_test false is = is

-- ---- pointers

-- a record's word is no pointer's
pub no_pointer : (g : Ground) (k : Key) (sp : Span) (at : ℕ) → WaysAgree g.ways → IsKeyIn g k at → IsPointerIn g sp at → ⊥
no_pointer g k sp at agree a (inl r) = let w = a.word in let few = r.few in let is = r.word in absurd (omega arith)
no_pointer g k sp at agree a (inr (inl c)) =
    let same = agree a.way c.way a.has c.has (a.slot ∙ sym c.slot) in true≢false (sym a.leaf ∙ (same.2 ∙ c.inner))
no_pointer g k sp at agree a (inr (inr b)) =
    let same = agree a.way b.way a.has b.has (a.slot ∙ sym b.slot) in
    one_kind (decl_of g.layout.decls b.way.span.storage)
    (subst (λ (n : ℕ). is_array g.layout.decls n ≡ true) same.0 a.kind) b.kind

-- the place of a pointer, by what it is
abbrev pub place_in : (g : Ground) (sp : Span) (at : ℕ) → IsPointerIn g sp at → At
place_in g sp at (inl r) = Root (at - 10)
place_in g sp at (inr (inl c)) = In (record { slot = slot_of g.layout.slots at; index = word_of g.layout.slots at })
place_in g sp at (inr (inr b)) =
    In (record { slot = slot_of g.layout.slots at; index = word_of g.layout.slots at - 4 })

-- behind the roots a pointer stands in a page, with this index
pub in_page : (g : Ground) (at : ℕ) (b : Bool) → nat_lt at 32 ≡ false → is_array_page g (slot_of g.layout.slots at) ≡ b
    → pointer_for g at ≡ In (record {
      slot = slot_of g.layout.slots at;
      index = cond b (word_of g.layout.slots at) (word_of g.layout.slots at - 4);
    })
in_page g at b high page =
    ap (λ (t : Bool). cond t (Root (at - 10))
    (In (record { slot = slot_of g.layout.slots at; index = pointer_index g at }))) high
    ∙ ap (λ (t : Bool). let z : At = In (record {
      slot = slot_of g.layout.slots at;
      index = cond t (word_of g.layout.slots at) (word_of g.layout.slots at - 4);
    }) in z) page

child_page : (g : Ground) (sp : Span) (at : ℕ) → IsChildIn g sp at → is_array_page g (slot_of g.layout.slots at) ≡ true
child_page g sp at c = subst (λ (n : ℕ). is_array_page g n ≡ true) c.slot (array_page g c.way c.has c.kind)

branch_page : (g : Ground) (sp : Span) (at : ℕ) → WaysAgree g.ways → IsBranchIn g sp at
    → is_array_page g (slot_of g.layout.slots at) ≡ false
branch_page g sp at agree b = subst (λ (n : ℕ). is_array_page g n ≡ false) b.slot (tree_page g b.way agree b.has b.kind)

-- where the word of a pointer stands tells its place
pub place_is : (g : Ground) (sp : Span) (at : ℕ) → WaysAgree g.ways → (p : IsPointerIn g sp at)
    → pointer_for g at ≡ place_in g sp at p
place_is g sp at agree (inl r) =
    let low : nat_lt at 32 ≡ true = let few = r.few in let is = r.word in grind (arith, nat_tests) in
    ap (λ (t : Bool). cond t (Root (at - 10))
    (In (record { slot = slot_of g.layout.slots at; index = pointer_index g at }))) low
place_is g sp at agree (inr (inl c)) =
    let high : nat_lt at 32 ≡ false = let is = c.word in grind (arith, nat_tests) in
    in_page g at true high (child_page g sp at c)
place_is g sp at agree (inr (inr b)) =
    let high : nat_lt at 32 ≡ false = let is = b.word in grind (arith, nat_tests) in
    in_page g at false high (branch_page g sp at agree b)

-- and its word is that of the pointer there
pub pointer_in_place : (v : View) (sp : Span) (at : ℕ) (p : IsPointerIn (ground v) sp at)
    → IsPointerAt v (place_in (ground v) sp at p) sp at
pointer_in_place v sp at (inl r) =
    let root : r.root ≡ at - 10 = let is = r.word in omega arith in
    subst (λ (i : ℕ). IsPointerAt v (Root i) sp at) root (r.there, r.span, r.word)
pointer_in_place v sp at (inr (inl c)) = inl record {
  way = c.way;
  has = c.has;
  slot = c.slot;
  kind = c.kind;
  inner = c.inner;
  index = omega arith;
  span = c.span;
  word = c.word;
}
pointer_in_place v sp at (inr (inr b)) =
    let behind : 4 ≤ word_of v.layout.slots at = b.behind in
    let word : word_of v.layout.slots at ≡ 4 + (word_of v.layout.slots at - 4) = omega (arith, behind) in inr record {
      way = b.way;
      has = b.has;
      slot = b.slot;
      kind = b.kind;
      inner = b.inner;
      knows = b.knows;
      same = b.same;
      index = b.index;
      span = b.span;
      word = b.word ∙ ap (λ (n : ℕ). page_at v.layout.slots (slot_of v.layout.slots at) n) word;
    }

pub pointer_there : (v : View) (sp : Span) (at : ℕ) → WaysAgree v.ways → IsPointerIn (ground v) sp at
    → IsPointerAt v (pointer_for (ground v) at) sp at
pointer_there v sp at agree p =
    subst (λ (x : At). IsPointerAt v x sp at) (sym (place_is (ground v) sp at agree p)) (pointer_in_place v sp at p)

-- the first word of a page that is a pointer's
abbrev first_of : Ground → ℕ → ℕ
first_of g t = cond (is_array_page g t) 0 4

-- a pointer's word is a root's, or stands in a page
abbrev StandsSo : Ground → ℕ → Type 0
StandsSo g n = ((pointer_for g n ≡ Root (n - 10)) × (10 ≤ n))
    ⊎ ((i : ℕ) × (pointer_for g n ≡ In (record { slot = slot_of g.layout.slots n; index = i }))
    × (n ≡ page_at g.layout.slots (slot_of g.layout.slots n) (i + first_of g (slot_of g.layout.slots n))))

stands_so : (g : Ground) (sp : Span) (n : ℕ) → WaysAgree g.ways → IsPointerIn g sp n → StandsSo g n
stands_so g sp n agree (inl r) =
    let ten : 10 ≤ n = let is = r.word in omega arith in inl (place_is g sp n agree (inl r), ten)
stands_so g sp n agree (inr (inl c)) =
    let first : first_of g (slot_of g.layout.slots n) ≡ 0 =
    ap (λ (t : Bool). let z : ℕ = cond t 0 4 in z) (child_page g sp n c) in
    let word : n ≡ ((32 + g.layout.slots) + 64 * slot_of g.layout.slots n) + word_of g.layout.slots n = c.word in
    inr (word_of g.layout.slots n, place_is g sp n agree (inr (inl c)), omega (arith, first, word))
stands_so g sp n agree (inr (inr b)) =
    let first : first_of g (slot_of g.layout.slots n) ≡ 4 =
    ap (λ (t : Bool). let z : ℕ = cond t 0 4 in z) (branch_page g sp n agree b) in
    let behind : 4 ≤ word_of g.layout.slots n = b.behind in
    let word : n ≡ ((32 + g.layout.slots) + 64 * slot_of g.layout.slots n) + word_of g.layout.slots n = b.word in
    inr (word_of g.layout.slots n - 4, place_is g sp n agree (inr (inr b)), omega (arith, first, behind, word))

-- pointers with one place have one word
pub one_pointer : (g : Ground) (sp tp : Span) (at other : ℕ) → WaysAgree g.ways → IsPointerIn g sp at
    → IsPointerIn g tp other → pointer_for g at ≡ pointer_for g other → at ≡ other
one_pointer g sp tp at other agree a b same = by_sides (stands_so g sp at agree a) (stands_so g tp other agree b)
  where
    roots : (i j : ℕ) → Root i ≡ Root j → i ≡ j
    roots i j e = cc

    spots : (x y : Spot) → In x ≡ In y → x ≡ y
    spots x y e = cc

    mixed : (i : ℕ) (y : Spot) → Root i ≡ In y → ⊥
    mixed i y e = absurd cc

    by_sides : StandsSo g at → StandsSo g other → at ≡ other
    by_sides (inl x) (inl y) =
        let index : at - 10 ≡ other - 10 = roots (at - 10) (other - 10) (sym x.0 ∙ (same ∙ y.0)) in
        let low = x.1 in
        let high = y.1 in omega (arith, index, low, high)
    by_sides (inl x) (inr y) =
        absurd (mixed (at - 10) (record { slot = slot_of g.layout.slots other; index = y.0 }) (sym x.0 ∙ (same ∙ y.1)))
    by_sides (inr x) (inl y) =
        absurd (mixed (other - 10) (record { slot = slot_of g.layout.slots at; index = x.0 })
        (sym y.0 ∙ (sym same ∙ x.1)))
    by_sides (inr x) (inr y) =
        let spot = spots (record { slot = slot_of g.layout.slots at; index = x.0 })
        (record { slot = slot_of g.layout.slots other; index = y.0 }) (sym x.1 ∙ (same ∙ y.1)) in
        x.2
        ∙ (ap (λ (z : Spot). page_at g.layout.slots z.slot (z.index + first_of g z.slot)) spot ∙ sym y.2)

-- the key is one of an array
pub key_array : (g : Ground) (k : Key) (at : ℕ) → IsKeyIn g k at → is_array g.layout.decls k.storage ≡ true
key_array g k at p = ap (λ (q : Key). is_array g.layout.decls q.storage) p.key ∙ p.kind

-- ---- the place that a call computes

-- it is that of the word, of as many slots as the pass has
pub spot_here : (e : Engine) (p : Pass) (at : ℕ) (x : Spot) → IsPassOf e p → x ≡ spot_at e.table.shared.key.slots at
    → x ≡ spot_at (view p).layout.slots at
spot_here e p at x of is = is ∙ ap (λ (l : Layout). spot_at l.slots at) (sym of.layout)

pub spot_is : (e : Engine) (p : Pass) (k : Key) (at : ℕ) (x : Spot) → IsPassOf e p → x ≡ spot_at e.table.shared.key.slots at
    → IsKeyAt (view p) k at → IsRecordAt (view p) k x at
spot_is e p k at x of is place = subst (λ (y : Spot). IsRecordAt (view p) k y at) (sym (spot_here e p at x of is)) place
