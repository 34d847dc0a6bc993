-- What a pass knows of words stays where it learns of more ways and pages.
use Rattle.std.proofs.Common.{◌⊎◌, ◌≡◌, ◌≢◌, inl, inr, ℕ, ◌+◌, ◌-◌, ◌*◌, ◌/◌, ◌%◌, ◌<◌, Bool, true, false, true≢false}
use Rattle.std.proofs.Common.{List, [], ◌∷◌, ◌++◌, refl, sym, ap, ◌∙◌, subst, arith, cond, Option, Some, None}
use Rattle.std.specs.Prelude.{Contains, ◌==◌, nat_lt}
use Rattle.std.specs.List.{find, AllByRecursion}
use Rattle.std.specs.Option.{option_map}
use Rattle.std.proofs.lemmas.Bool.{eqb-true, eq-eqb, ne_eqb}
use Rattle.std.proofs.lemmas.Bool.Decides.{nat_tests}
use Rattle.lists.specs.Elements.{any_in, in_head, in_tail}
use Rattle.lists.specs.Fronts.{IsFront}
use Rattle.serial_model.specs.declared.key.Key.{Key}
use Rattle.serial_model.specs.Decls.{AreDecls}
use Rattle.homes.specs.declared.places.At.{At}
use Rattle.homes.specs.declared.places.At.TheVariants.{Root, In}
use Rattle.homes.specs.declared.places.Span.{Span}
use Rattle.homes.specs.declared.places.Spot.{Spot}
use Rattle.homes.specs.Homes.{same_key}
use Rattle.homes.specs.Laws.{in_span-parts, same_key-self}
use Rattle.commit_core.specs.declared.part.Part.{Part}
use Rattle.tx_sets.specs.declared.reads.ReadEntry.{ReadEntry}
use Rattle.tx_sets.specs.declared.seen.Seen.{Seen}
use Rattle.tx_sets.specs.declared.sets.Sets.{Sets}
use Rattle.tx_sets.specs.declared.writes.Write.{Write}
use Rattle.tx_sets.specs.Entries.{has_read}
use Rattle.engine_pages.specs.declared.layout.Layout.{Layout}
use Rattle.engine_pages.specs.declared.view.Inner.{Inner}
use Rattle.engine_pages.specs.declared.view.Known.{Known}
use Rattle.engine_pages.specs.declared.view.Lead.{Lead}
use Rattle.engine_pages.specs.declared.view.View.{View}
use Rattle.engine_pages.specs.declared.view.Way.{Way}
use Rattle.wire_form.specs.Leaves.{tree_leaf}
use Rattle.engine_pages.specs.Layout.{page_at, words_of}
use Rattle.engine_pages.specs.Agreement.{TreesAgree}
use Rattle.engine_pages.specs.Pages.{child_span, decl_of, is_array, is_tree, part_between, root_span}
use Rattle.engine_pages.specs.Pointers.{one_kind, IsArrayPointerAt, StandsFor, WaysAgree}
use Rattle.engine_pages.specs.Records.{IsRecordAt, IsRecordIn}
use Rattle.engine_pages.specs.Steps.{seen_at}
use Rattle.dual_pointer.specs.Parts.{IsPointerPart, part_stays}
use Rattle.array_pages.specs.Walks.{HasWalked, IsPointersWord}
use Rattle.page_commit.specs.Places.{ground, is_array_page, pointer_for, pointer_index, slot_of, spot_at, spot_for}
use Rattle.page_commit.specs.Places.{word_of, Ground, IsAnyKeyIn, IsBranchIn, IsChildIn, IsKeyAt, IsPointerIn}
use Rattle.page_commit.specs.Places.{IsRootIn, IsTreeKeyIn}
use Rattle.page_commit.specs.Live.{below_in, read_word, IsLive, IsMetPointer, IsReadPart, IsTreeWordIn, IsWordOf}
use Rattle.page_commit.specs.Live.{IsWriteOf, StandsIn}
use Rattle.page_commit.proofs.BelowLaws.{below_longer, stands_longer}
use Rattle.page_commit.proofs.PlaceLaws.{array_page, in_page, one_key, place_in, place_is}

-- the pass knows of more ways, pages of trees, leads and pages
pub record KnowsMore (v w : View) : Type 0 where
  pub layout : w.layout ≡ v.layout
  pub ways : (x : Way) → Contains v.ways x → Contains w.ways x
  pub known : (x : Known) → Contains v.known x → Contains w.known x
  pub inners : (x : Inner) → Contains v.inners x → Contains w.inners x
  pub leads : (x : Lead) → Contains v.leads x → Contains w.leads x
  pub pages : IsFront v.pages w.pages

pub knows_more : (v w : View) → HasWalked v w → KnowsMore v w
knows_more v w walk = record {
  layout = ap (λ (y : View). y.layout) walk.is;
  ways = walk.ways;
  known = λ x has. subst (λ (y : View). Contains y.known x) (sym walk.is) has;
  inners = λ x has. subst (λ (y : View). Contains y.inners x) (sym walk.is) has;
  leads = walk.leads;
  pages = walk.pages;
}

-- ---- places

pub key_grown : (v w : View) (k : Key) (at : ℕ) → KnowsMore v w → IsKeyAt v k at → IsKeyAt w k at
key_grown v w k at more p =
    subst (λ (l : Layout). IsRecordIn l.decls l.slots w.ways k (spot_at l.slots at) at) (sym more.layout) record {
      way = p.way;
      has = more.ways p.way p.has;
      slot = p.slot;
      there = p.there;
      kind = p.kind;
      leaf = p.leaf;
      index = p.index;
      key = p.key;
      word = p.word;
    }

-- the ground of the view with this layout
abbrev with_layout : View → Layout → Ground
with_layout v l = record { layout = l; ways = v.ways; known = v.known; inners = v.inners }

pub tree_key_grown : (v w : View) (k : Key) (at : ℕ) → KnowsMore v w → IsTreeKeyIn (ground v) k at
    → IsTreeKeyIn (ground w) k at
tree_key_grown v w k at more p =
    subst (λ (l : Layout). IsTreeKeyIn (with_layout w l) k at) (sym more.layout) record {
      way = p.way;
      has = more.ways p.way p.has;
      slot = p.slot;
      leaf = p.leaf;
      knows = more.known p.leaf p.knows;
      same = p.same;
      there = p.there;
      index = p.index;
      kind = p.kind;
      key = p.key;
      word = p.word;
      over = p.over;
    }

pub branch_grown : (v w : View) (sp : Span) (at : ℕ) → KnowsMore v w → IsBranchIn (ground v) sp at
    → IsBranchIn (ground w) sp at
branch_grown v w sp at more b =
    subst (λ (l : Layout). IsBranchIn (with_layout w l) sp at) (sym more.layout) record {
      way = b.way;
      has = more.ways b.way b.has;
      slot = b.slot;
      kind = b.kind;
      inner = b.inner;
      knows = more.inners b.inner b.knows;
      same = b.same;
      behind = b.behind;
      index = b.index;
      span = b.span;
      word = b.word;
    }

root_grown : (v w : View) (sp : Span) (at : ℕ) → KnowsMore v w → IsRootIn (ground v) sp at → IsRootIn (ground w) sp at
root_grown v w sp at more r =
    subst (λ (l : Layout). IsRootIn (with_layout w l) sp at) (sym more.layout) record {
      root = r.root;
      few = r.few;
      there = r.there;
      span = r.span;
      word = r.word;
    }

child_grown : (v w : View) (sp : Span) (at : ℕ) → KnowsMore v w → IsChildIn (ground v) sp at → IsChildIn (ground w) sp at
child_grown v w sp at more c =
    subst (λ (l : Layout). IsChildIn (with_layout w l) sp at) (sym more.layout) record {
      way = c.way;
      has = more.ways c.way c.has;
      slot = c.slot;
      kind = c.kind;
      inner = c.inner;
      span = c.span;
      word = c.word;
    }

pub pointer_grown : (v w : View) (sp : Span) (at : ℕ) → KnowsMore v w → IsPointerIn (ground v) sp at
    → IsPointerIn (ground w) sp at
pointer_grown v w sp at more (inl r) = inl (root_grown v w sp at more r)
pointer_grown v w sp at more (inr (inl c)) = inr (inl (child_grown v w sp at more c))
pointer_grown v w sp at more (inr (inr b)) = inr (inr (branch_grown v w sp at more b))

-- ways that agree agreed where fewer were known
agreed_before : (v w : View) → KnowsMore v w → WaysAgree w.ways → WaysAgree v.ways
agreed_before v w more agree a b has other same = agree a b (more.ways a has) (more.ways b other) same

-- and its place is as it was
pub place_grown : (v w : View) (sp : Span) (at : ℕ) → KnowsMore v w → WaysAgree w.ways → IsPointerIn (ground v) sp at
    → pointer_for (ground w) at ≡ pointer_for (ground v) at
place_grown v w sp at more agree (inl r) =
    place_is (ground w) sp at agree (inl (root_grown v w sp at more r))
    ∙ sym (place_is (ground v) sp at (agreed_before v w more agree) (inl r))
place_grown v w sp at more agree (inr (inl c)) =
    place_is (ground w) sp at agree (inr (inl (child_grown v w sp at more c)))
    ∙ (ap (λ (l : Layout). let z : At = In (record { slot = slot_of l.slots at; index = word_of l.slots at }) in z)
    more.layout
    ∙ sym (place_is (ground v) sp at (agreed_before v w more agree) (inr (inl c))))
place_grown v w sp at more agree (inr (inr b)) =
    place_is (ground w) sp at agree (inr (inr (branch_grown v w sp at more b)))
    ∙ (ap (λ (l : Layout). let z : At = In (record { slot = slot_of l.slots at; index = word_of l.slots at - 4 }) in z)
    more.layout
    ∙ sym (place_is (ground v) sp at (agreed_before v w more agree) (inr (inr b))))

-- the place of a record follows from that of its word
pub spot_of_word : (v : View) (k : Key) (x : Spot) (at : ℕ) → IsRecordAt v k x at → x ≡ spot_at v.layout.slots at
spot_of_word v k x at p =
    let index : x.index < 32 = p.index in
    let word : at ≡ ((32 + v.layout.slots) + 64 * x.slot) + 2 * x.index = p.word in
    let slot : x.slot ≡ (at - (32 + v.layout.slots)) / 64 = omega (arith, index, word) in
    let rest : (at - (32 + v.layout.slots)) % 64 ≡ 2 * x.index = omega (arith, index, word) in
    let place : x.index ≡ ((at - (32 + v.layout.slots)) % 64) / 2 = omega (arith, rest) in
    ap (λ (n : ℕ). let y : Spot = record { slot = n; index = x.index } in y) slot
    ∙ ap (λ (n : ℕ). let y : Spot = record { slot = (at - (32 + v.layout.slots)) / 64; index = n } in y) place

pub key_here : (v : View) (k : Key) (x : Spot) (at : ℕ) → IsRecordAt v k x at → IsKeyAt v k at
key_here v k x at p = subst (λ (y : Spot). IsRecordAt v k y at) (spot_of_word v k x at p) p

-- so does that of a pointer
pub place_of_word : (v : View) (x : At) (sp : Span) (at : ℕ) → AreDecls v.layout.decls → IsArrayPointerAt v x sp at
    → x ≡ pointer_for (ground v) at
place_of_word v (Root r) sp at are p =
    let few = are.few in
    let less = p.0 in
    let word : at ≡ 10 + r = p.2 in
    let low : nat_lt at 32 ≡ true = grind (arith, nat_tests) in
    let root : r ≡ at - 10 = omega (arith, word) in
    ap (λ (n : ℕ). Root n) root
    ∙ sym (ap (λ (b : Bool). cond b (Root (at - 10))
    (In (record { slot = slot_of v.layout.slots at; index = pointer_index (ground v) at }))) low)
place_of_word v (In y) sp at are p =
    let index : y.index < 64 = p.index in
    let word : at ≡ ((32 + v.layout.slots) + 64 * y.slot) + y.index = p.word in
    let high : nat_lt at 32 ≡ false = grind (arith, nat_tests) in
    let slot : y.slot ≡ (at - (32 + v.layout.slots)) / 64 = omega (arith, index, word) in
    let place : y.index ≡ (at - (32 + v.layout.slots)) % 64 = omega (arith, index, word) in
    ap (λ (n : ℕ). let z : At = In (record { slot = n; index = y.index }) in z) slot
    ∙ (ap (λ (n : ℕ). let z : At = In (record { slot = (at - (32 + v.layout.slots)) / 64; index = n }) in z) place
    ∙ sym (in_page (ground v) at true high
    (subst (λ (n : ℕ). is_array_page (ground v) n ≡ true) (p.slot ∙ slot) (array_page (ground v) p.way p.has p.kind))))

pub array_here : (v : View) (x : At) (sp : Span) (at : ℕ) → AreDecls v.layout.decls → IsArrayPointerAt v x sp at
    → IsRootIn (ground v) sp at ⊎ IsChildIn (ground v) sp at
array_here v (Root r) sp at are p =
    let few = are.few in
    let less = p.0 in
    inl record { root = r; few = omega (arith, few, less); there = p.0; span = p.1; word = p.2 }
array_here v (In y) sp at are p =
    let index : y.index < 64 = p.index in
    let word : at ≡ ((32 + v.layout.slots) + 64 * y.slot) + y.index = p.word in
    let slot : y.slot ≡ (at - (32 + v.layout.slots)) / 64 = omega (arith, index, word) in
    let place : y.index ≡ (at - (32 + v.layout.slots)) % 64 = omega (arith, index, word) in
    inr record {
      way = p.way;
      has = p.has;
      slot = p.slot ∙ slot;
      kind = p.kind;
      inner = p.inner;
      span = p.span ∙ ap (λ (n : ℕ). child_span p.way.span n) place;
      word = p.word
          ∙ (ap (λ (n : ℕ). page_at v.layout.slots n y.index) slot
          ∙ ap (λ (n : ℕ). page_at v.layout.slots ((at - (32 + v.layout.slots)) / 64) n) place);
    }

pub pointer_here : (v : View) (x : At) (sp : Span) (at : ℕ) → AreDecls v.layout.decls → IsArrayPointerAt v x sp at
    → IsPointerIn (ground v) sp at
pointer_here v x sp at are p = elim (array_here v x sp at are p) [ inl r ↦ inl r | inr c ↦ inr (inl c) ]

-- an array's page isn't a tree's
kinds_apart : (g : Ground) (sp tp : Span) (at : ℕ) → WaysAgree g.ways → IsChildIn g sp at → IsBranchIn g tp at → ⊥
kinds_apart g sp tp at agree c b =
    let same = agree c.way b.way c.has b.has (c.slot ∙ sym b.slot) in
    one_kind (decl_of g.layout.decls b.way.span.storage)
    (subst (λ (n : ℕ). is_array g.layout.decls n ≡ true) same.0 c.kind) b.kind

-- The word is that of a pointer of an array's page, or of a root. Else it is one of a tree's page, and no such word.
pub points_here : (v : View) (sp : Span) (at : ℕ) → IsPointerIn (ground v) sp at
    → IsPointersWord v at ⊎ IsBranchIn (ground v) sp at
points_here v sp at (inl r) = inl record { place = Root r.root; span = sp; is = (r.there, r.span, r.word) }
points_here v sp at (inr (inl c)) = inl record {
  place = In (record { slot = slot_of v.layout.slots at; index = word_of v.layout.slots at });
  span = sp;
  is = record {
    way = c.way;
    has = c.has;
    slot = c.slot;
    kind = c.kind;
    inner = c.inner;
    index = omega arith;
    span = c.span;
    word = c.word;
  };
}
points_here v sp at (inr (inr b)) = inr b

pub branch_apart : (v : View) (sp : Span) (at : ℕ) → WaysAgree v.ways → AreDecls v.layout.decls
    → IsBranchIn (ground v) sp at → IsPointersWord v at → ⊥
branch_apart v sp at agree are b p = by_side (array_here v p.place p.span at are p.is)
  where
    high : at < 32 → ⊥
    high low =
        let word : at
        ≡ ((32 + v.layout.slots) + 64 * ((at - (32 + v.layout.slots)) / 64)) + (at - (32 + v.layout.slots)) % 64 = b.word in
        absurd (omega (arith, low, word))

    by_side : IsRootIn (ground v) p.span at ⊎ IsChildIn (ground v) p.span at → ⊥
    by_side (inl r) = let few = r.few in let word : at ≡ 10 + r.root = r.word in high (omega (arith, few, word))
    by_side (inr c) =
        kinds_apart (ground v) p.span sp at agree c b

-- a root's pointer doesn't stand in a page
root_apart : (slots at root : ℕ) → root < 16 → at ≡ 10 + root → at ≡ page_at slots (slot_of slots at) (word_of slots at) → ⊥
root_apart slots at root few one two =
    let page : at ≡ ((32 + slots) + 64 * ((at - (32 + slots)) / 64)) + (at - (32 + slots)) % 64 = two in
    absurd (omega (arith, few, one, page))

-- a pointer's word is over one span
pub one_span : (v : View) (sp tp : Span) (at : ℕ) → WaysAgree v.ways → TreesAgree v → IsPointerIn (ground v) sp at
    → IsPointerIn (ground v) tp at → sp ≡ tp
one_span v sp tp at agree trees (inl a) (inl b) =
    let one : at ≡ 10 + a.root = a.word in
    let two : at ≡ 10 + b.root = b.word in
    let same : a.root ≡ b.root = omega (arith, one, two) in
    a.span ∙ (ap (λ (r : ℕ). root_span v.layout.decls r) same ∙ sym b.span)
one_span v sp tp at agree trees (inl a) (inr (inl b)) =
    absurd (root_apart v.layout.slots at a.root a.few a.word b.word)
one_span v sp tp at agree trees (inl a) (inr (inr b)) =
    absurd (root_apart v.layout.slots at a.root a.few a.word b.word)
one_span v sp tp at agree trees (inr (inl a)) (inl b) =
    absurd (root_apart v.layout.slots at b.root b.few b.word a.word)
one_span v sp tp at agree trees (inr (inr a)) (inl b) =
    absurd (root_apart v.layout.slots at b.root b.few b.word a.word)
one_span v sp tp at agree trees (inr (inl a)) (inr (inl b)) =
    let same = agree a.way b.way a.has b.has (a.slot ∙ sym b.slot) in
    let less : (at - (32 + v.layout.slots)) % 64 < 64 = omega arith in
    a.span ∙ (same.3 a.inner (word_of v.layout.slots at) less ∙ sym b.span)
one_span v sp tp at agree trees (inr (inl a)) (inr (inr b)) = absurd (kinds_apart (ground v) sp tp at agree a b)
one_span v sp tp at agree trees (inr (inr a)) (inr (inl b)) = absurd (kinds_apart (ground v) tp sp at agree b a)
one_span v sp tp at agree trees (inr (inr a)) (inr (inr b)) =
    let i : ℕ = word_of v.layout.slots at - 4 in
    a.span
    ∙ (ap (λ (s : Span). part_between s a.inner.separators i)
    (trees.spans a.way b.way a.has b.has (a.slot ∙ sym b.slot) a.kind)
    ∙ (ap (λ (l : List ℕ). part_between b.way.span l i)
    (trees.inners a.inner b.inner a.knows b.knows (a.same ∙ sym b.same))
    ∙ sym b.span))

-- ---- parts and writes

pub any_grown : (v w : View) (k : Key) (at : ℕ) → KnowsMore v w → IsAnyKeyIn (ground v) k at
    → IsAnyKeyIn (ground w) k at
any_grown v w k at more (inl p) = inl (key_grown v w k at more p)
any_grown v w k at more (inr p) = inr (tree_key_grown v w k at more p)

pub read_grown : (v w : View) (e : ReadEntry) (part : Part) → KnowsMore v w → IsReadPart (ground v) e part
    → IsReadPart (ground w) e part
read_grown v w e part more r = record {
  place = any_grown v w e.key e.at more r.place;
  content = r.content;
  shown = subst (λ (l : Layout). IsWordOf l.decls e.key r.content e.word) (sym more.layout) r.shown;
  value = r.value;
  is = r.is ∙ ap (λ (l : Layout). Rattle.commit_core.specs.Parts.record_part e.key (spot_for l e.key e.at) r.content)
      (sym more.layout);
}

pub met_pointer_grown : (v w : View) (p : Seen) (part : Part) → AreDecls v.layout.decls → WaysAgree w.ways → KnowsMore v w
    → IsMetPointer v p part → IsMetPointer w p part
met_pointer_grown v w p part are agree more m = record {
  span = m.span;
  place = pointer_grown v w m.span p.at more m.place;
  within = subst (λ (l : Layout). p.at < words_of l) (sym more.layout) m.within;
  bare = m.bare;
  of = subst (λ (x : At). IsPointerPart w x m.span p.word part) (sym (place_grown v w m.span p.at more agree m.place))
      (part_stays v w (pointer_for (ground v) p.at) m.span p.word part more.leads m.of);
  kind = subst (λ (l : Layout). (is_array l.decls m.span.storage ≡ true) ⊎ (is_tree l.decls m.span.storage ≡ true))
      (sym more.layout) m.kind;
  stands = λ some. subst (λ (l : Layout). StandsFor l.decls w.pages m.span p.word) (sym more.layout)
      (stands_longer v.layout.decls v.pages w.pages m.span p.word more.pages (m.stands some));
  inside = m.inside;
  all = m.all;
  says = λ k over. m.says k over
      ∙ (sym (below_longer v.layout.decls v.pages w.pages m.span p.word k are m.kind more.pages m.stands)
      ∙ ap (λ (l : Layout). below_in l.decls w.pages m.span p.word k) (sym more.layout));
}

pub writes_grown : (ws : List Write) (v w : View) → KnowsMore v w → AllByRecursion (IsWriteOf (ground v)) ws
    → AllByRecursion (IsWriteOf (ground w)) ws
writes_grown [] v w more all = tt
writes_grown (x ∷ ws) v w more all = (
  record {
    place = any_grown v w x.key x.at more all.0.place;
    value = λ array. all.0.value (subst (λ (l : Layout). is_array l.decls x.key.storage ≡ true) more.layout array);
  },
  writes_grown ws v w more all.1,
)

-- ---- entries, by their words

some_is : (a c : ℕ) → Some a ≡ Some c → a ≡ c
some_is a c same = cc

-- what is found at a word is the entry of that word
pub entry_at : (reads : List ReadEntry) (at n : ℕ) → read_word at reads ≡ Some n
    → (e : ReadEntry) × Contains reads e × (e.at ≡ at) × (e.word ≡ n)
entry_at [] at n is = absurd cc
entry_at (f ∷ reads) at n is = by_test (f.at == at) refl is (entry_at reads at n)
  where
    by_test : (b : Bool) → (f.at == at) ≡ b → read_word at (f ∷ reads) ≡ Some n
        → (read_word at reads ≡ Some n → (e : ReadEntry) × Contains reads e × (e.at ≡ at) × (e.word ≡ n))
        → (e : ReadEntry) × Contains (f ∷ reads) e × (e.at ≡ at) × (e.word ≡ n)
    by_test true hit is rest = (
      f,
      in_head f reads,
      eqb-true f.at at hit,
      some_is f.word n (sym (ap (λ b. option_map (λ (x : ReadEntry). x.word)
          (cond b (Some f) (find (λ (x : ReadEntry). x.at == at) reads))) hit) ∙ is),
    )
    by_test false miss is rest =
        let later = rest (sym (ap (λ b. option_map (λ (x : ReadEntry). x.word)
        (cond b (Some f) (find (λ (x : ReadEntry). x.at == at) reads))) miss) ∙ is) in
        (later.0, in_tail later.0 f reads later.1, later.2, later.3)

-- where no entry is of the word, nothing is found
pub none_read : (reads : List ReadEntry) (at : ℕ) → ((e : ReadEntry) → Contains reads e → e.at ≡ at → ⊥)
    → read_word at reads ≡ None
none_read [] at other = refl
none_read (f ∷ reads) at other =
    ap (λ b. option_map (λ (x : ReadEntry). x.word) (cond b (Some f) (find (λ (x : ReadEntry). x.at == at) reads)))
    (ne_eqb f.at at (λ same. other f (in_head f reads) same))
    ∙ none_read reads at (λ e has same. other e (in_tail e f reads has) same)

pub word_push_new : (reads : List ReadEntry) (e : ReadEntry) (at : ℕ) → read_word at reads ≡ None → e.at ≡ at
    → read_word at (reads ++ e ∷ []) ≡ Some e.word
word_push_new [] e at none same =
    ap (λ b. option_map (λ (x : ReadEntry). x.word) (cond b (Some e) None)) (eq-eqb e.at at same)
word_push_new (f ∷ reads) e at none same = by_test (f.at == at) refl none (λ rest. word_push_new reads e at rest same)
  where
    by_test : (b : Bool) → (f.at == at) ≡ b → read_word at (f ∷ reads) ≡ None
        → (read_word at reads ≡ None → read_word at (reads ++ e ∷ []) ≡ Some e.word)
        → read_word at (f ∷ (reads ++ e ∷ [])) ≡ Some e.word
    by_test true hit none rest =
        let no : Some f.word ≡ None =
        sym (ap (λ b. option_map (λ (x : ReadEntry). x.word)
        (cond b (Some f) (find (λ (x : ReadEntry). x.at == at) reads))) hit) ∙ none in
        absurd (cc)
    by_test false miss none rest =
        ap (λ b. option_map (λ (x : ReadEntry). x.word)
        (cond b (Some f) (find (λ (x : ReadEntry). x.at == at) (reads ++ e ∷ [])))) miss
        ∙ rest (sym (ap (λ b. option_map (λ (x : ReadEntry). x.word)
        (cond b (Some f) (find (λ (x : ReadEntry). x.at == at) reads))) miss) ∙ none)

pub word_push_old : (reads : List ReadEntry) (e : ReadEntry) (at : ℕ) → e.at ≢ at
    → read_word at (reads ++ e ∷ []) ≡ read_word at reads
word_push_old [] e at apart =
    ap (λ b. option_map (λ (x : ReadEntry). x.word) (cond b (Some e) None)) (ne_eqb e.at at apart)
word_push_old (f ∷ reads) e at apart = by_test (f.at == at) refl (word_push_old reads e at apart)
  where
    by_test : (b : Bool) → (f.at == at) ≡ b → read_word at (reads ++ e ∷ []) ≡ read_word at reads
        → read_word at (f ∷ (reads ++ e ∷ [])) ≡ read_word at (f ∷ reads)
    by_test true hit rest =
        ap (λ b. option_map (λ (x : ReadEntry). x.word)
        (cond b (Some f) (find (λ (x : ReadEntry). x.at == at) (reads ++ e ∷ [])))) hit
        ∙ sym (ap (λ b. option_map (λ (x : ReadEntry). x.word)
        (cond b (Some f) (find (λ (x : ReadEntry). x.at == at) reads))) hit)
    by_test false miss rest =
        ap (λ b. option_map (λ (x : ReadEntry). x.word)
        (cond b (Some f) (find (λ (x : ReadEntry). x.at == at) (reads ++ e ∷ [])))) miss
        ∙ (rest ∙ sym (ap (λ b. option_map (λ (x : ReadEntry). x.word)
        (cond b (Some f) (find (λ (x : ReadEntry). x.at == at) reads))) miss))

-- ---- words that were met

-- of a record to which a way is known now, the transaction had seen what it read
pub met_before : (sets : Sets) (v w : View) (k : Key) (at : ℕ) → IsLive sets v → KnowsMore v w → WaysAgree w.ways
    → IsKeyAt w k at → seen_at v.reads at ≡ read_word at sets.reads
met_before sets v w k at live more agree place = by_read (read_word at sets.reads) refl
  where
    key_same : (i : ℕ) (b : Way) → place.way.span.storage ≡ b.span.storage → place.way.span.low ≡ b.span.low
        → (let x : Key = record { storage = place.way.span.storage; key = place.way.span.low + i } in
        let y : Key = record { storage = b.span.storage; key = b.span.low + i } in x ≡ y)
    key_same i b storage low =
        ap (λ (s : ℕ). let z : Key = record { storage = s; key = place.way.span.low + i } in z) storage
        ∙ ap (λ (l : ℕ). let z : Key = record { storage = b.span.storage; key = l + i } in z) low

    -- the way that was known before leads to this record
    by_way : (way : Way) → Contains v.ways way → slot_of v.layout.slots at ≡ way.slot → IsKeyAt v k at
    by_way way has slot =
        let here : place.way.slot ≡ way.slot =
        place.slot ∙ (ap (λ (l : Layout). slot_of l.slots at) more.layout ∙ slot) in
        let same = agree place.way way place.has (more.ways way has) here in
        subst (λ (l : Layout). IsRecordIn l.decls l.slots v.ways k (spot_at l.slots at) at) more.layout record {
          way = way;
          has = has;
          slot = sym here ∙ place.slot;
          there = place.there;
          kind = ap (λ (i : ℕ). is_array w.layout.decls i) (sym same.0) ∙ place.kind;
          leaf = sym same.2 ∙ place.leaf;
          index = place.index;
          key = place.key ∙ key_same (spot_at w.layout.slots at).index way same.0 same.1;
          word = place.word;
        }

    by_side : StandsIn (ground v) at → seen_at v.reads at ≡ read_word at sets.reads
    by_side (inl low) =
        let word : at
        ≡ ((32 + w.layout.slots) + 64 * ((at - (32 + w.layout.slots)) / 64)) + 2 * (((at - (32 + w.layout.slots)) % 64) / 2) =
        place.word in absurd (omega (arith, low, word))
    by_side (inr way) = live.met.arrays k at (by_way way.0 way.1 way.2) refl

    -- the record that was read is this one, of an array
    by_entry_place : (q : Key) → IsAnyKeyIn (ground v) q at → seen_at v.reads at ≡ read_word at sets.reads
    by_entry_place q (inl p) = live.met.arrays q at p refl
    by_entry_place q (inr p) =
        let t = tree_key_grown v w q at more p in
        let same = agree place.way t.way place.has t.has (place.slot ∙ sym t.slot) in
        let storage : t.way.span.storage ≡ q.storage = sym (in_span-parts t.way.span q t.over).0 in
        absurd (one_kind (decl_of w.layout.decls q.storage)
        (subst (λ (s : ℕ). is_array w.layout.decls s ≡ true) (same.0 ∙ storage) place.kind) t.kind)

    by_entry : (e : ReadEntry) → Contains sets.reads e → e.at ≡ at → seen_at v.reads at ≡ read_word at sets.reads
    by_entry e has same =
        let r = live.parts.reads e has in
        by_entry_place e.key (subst (IsAnyKeyIn (ground v) e.key) same r.2.place)

    by_seen : (o : Option ℕ) → seen_at v.reads at ≡ o → read_word at sets.reads ≡ None
        → seen_at v.reads at ≡ read_word at sets.reads
    by_seen (Some n) is none = by_side (live.inside at n is)
    by_seen None is none = is ∙ sym none

    by_read : (o : Option ℕ) → read_word at sets.reads ≡ o → seen_at v.reads at ≡ read_word at sets.reads
    by_read (Some n) is = let e = entry_at sets.reads at n is in by_entry e.0 e.1 e.2
    by_read None is = by_seen (seen_at v.reads at) refl is

-- no entry has the word of a record whose key wasn't read
pub no_entry : (sets : Sets) (v w : View) (k : Key) (at : ℕ) → IsLive sets v → KnowsMore v w → WaysAgree w.ways
    → IsKeyAt w k at → has_read k sets.reads ≡ false → (e : ReadEntry) → Contains sets.reads e → e.at ≡ at → ⊥
no_entry sets v w k at live more agree place unread e has same =
    by_place (subst (IsAnyKeyIn (ground w) e.key) same (any_grown v w e.key e.at more (live.parts.reads e has).2.place))
  where
    by_place : IsAnyKeyIn (ground w) e.key at → ⊥
    by_place (inl there) =
        let key : e.key ≡ k = one_key (ground w) e.key k at agree there place in
        true≢false (sym (any_in (λ (x : ReadEntry). same_key x.key k) sets.reads e has
        (ap (λ (q : Key). same_key q k) key ∙ same_key-self k)) ∙ unread)
    by_place (inr t) =
        let both = agree place.way t.way place.has t.has (place.slot ∙ sym t.slot) in
        let storage : t.way.span.storage ≡ (e.key).storage = sym (in_span-parts t.way.span e.key t.over).0 in
        one_kind (decl_of w.layout.decls (e.key).storage)
        (subst (λ (s : ℕ). is_array w.layout.decls s ≡ true) (both.0 ∙ storage) place.kind) t.kind

-- ---- words stand where the pass knows of them

pub stands_grown : (v w : View) (at : ℕ) → KnowsMore v w → StandsIn (ground v) at → StandsIn (ground w) at
stands_grown v w at more (inl low) = inl low
stands_grown v w at more (inr way) =
    inr (
      way.0,
      more.ways way.0 way.1,
      ap (λ (l : Layout). slot_of l.slots at) more.layout ∙ way.2,
      by_kind way.3,
    )
  where
    by_kind : (is_array v.layout.decls way.0.span.storage ≡ true) ⊎ IsTreeWordIn (ground v) way.0 at
        → (is_array w.layout.decls way.0.span.storage ≡ true) ⊎ IsTreeWordIn (ground w) way.0 at
    by_kind (inl array) = inl (subst (λ (l : Layout). is_array l.decls way.0.span.storage ≡ true) (sym more.layout) array)
    by_kind (inr (inl first)) =
        inr (inl (subst (λ (l : Layout). word_of l.slots at < tree_leaf.first) (sym more.layout) first))
    by_kind (inr (inr (inl inner))) = inr (inr (inl (inner.0, more.inners inner.0 inner.1, inner.2)))
    by_kind (inr (inr (inr r))) = inr (inr (inr (r.0, r.1, tree_key_grown v w r.0 r.1 more r.2, r.3)))

pub pointer_stands : (v : View) (at : ℕ) → AreDecls v.layout.decls → IsPointersWord v at → StandsIn (ground v) at
pointer_stands v at are p = by_side (pointer_here v p.place p.span at are p.is)
  where
    by_side : IsPointerIn (ground v) p.span at → StandsIn (ground v) at
    by_side (inl r) = let few = r.few in let word : at ≡ 10 + r.root = r.word in inl (omega (arith, few, word))
    by_side (inr (inl c)) = inr (c.way, c.has, sym c.slot, inl c.kind)
    by_side (inr (inr b)) = inr (b.way, b.has, sym b.slot, inr (inr (inl (b.inner, b.knows, b.same ∙ sym b.slot))))

pub record_stands : (v : View) (k : Key) (at : ℕ) → IsKeyAt v k at → StandsIn (ground v) at
record_stands v k at p = inr (p.way, p.has, sym p.slot, inl p.kind)

-- the value's word, too
pub value_stands : (v : View) (k : Key) (at : ℕ) → IsKeyAt v k at → StandsIn (ground v) (at + 1)
value_stands v k at p =
    let word : at
    ≡ ((32 + v.layout.slots) + 64 * ((at - (32 + v.layout.slots)) / 64)) + 2 * (((at - (32 + v.layout.slots)) % 64) / 2) =
    p.word in
    let same : (at + 1 - (32 + v.layout.slots)) / 64 ≡ (at - (32 + v.layout.slots)) / 64 = omega (arith, word) in
    inr (p.way, p.has, same ∙ sym p.slot, inl p.kind)

-- and no pointer of a tree has the word of a value of an array
pub branch_no_value : (v : View) (k : Key) (sp : Span) (at other : ℕ) → WaysAgree v.ways → IsKeyAt v k at
    → IsBranchIn (ground v) sp other → other ≢ at + 1
branch_no_value v k sp at other agree p b is =
    let word : at
    ≡ ((32 + v.layout.slots) + 64 * ((at - (32 + v.layout.slots)) / 64)) + 2 * (((at - (32 + v.layout.slots)) % 64) / 2) =
    p.word in
    let slot : (at - (32 + v.layout.slots)) / 64 ≡ (other - (32 + v.layout.slots)) / 64 = omega (arith, word, is) in
    let same = agree p.way b.way p.has b.has (p.slot ∙ (slot ∙ sym b.slot)) in
    one_kind (decl_of v.layout.decls b.way.span.storage)
    (subst (λ (n : ℕ). is_array v.layout.decls n ≡ true) same.0 p.kind) b.kind

-- no record's word is another one's value
pub no_value : (v : View) (k q : Key) (at other : ℕ) → IsKeyAt v k at → IsKeyAt v q other → other ≢ at + 1
no_value v k q at other p o = λ same.
    let one : at
    ≡ ((32 + v.layout.slots) + 64 * ((at - (32 + v.layout.slots)) / 64)) + 2 * (((at - (32 + v.layout.slots)) % 64) / 2) =
    p.word in
    let two : other
    ≡ ((32 + v.layout.slots) + 64 * ((other - (32 + v.layout.slots)) / 64))
    + 2 * (((other - (32 + v.layout.slots)) % 64) / 2) = o.word in
    absurd (omega (arith, one, two, same))
