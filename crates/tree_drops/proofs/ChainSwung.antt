-- A chain all of which is locked is swung from; what is known of it stays, and locks are opened again where it is kept.
use Rattle.std.proofs.Common.{◌≡◌, ◌≢◌, ◌⊎◌, inl, inr, ℕ, zero, suc, ◌+◌, ◌*◌, ◌<◌, ◌≤◌, Bool, true, false, true≢false, eqb, eq-eqb, eqb-true}
use Rattle.std.proofs.Common.{ltb, ltb-true, ltb-false, List, [], ◌∷◌, ◌++◌, length, refl, sym, ap, ◌∙◌, subst, arith, Some}
use Rattle.std.specs.Prelude.{◌||◌}
use Rattle.std.specs.List.{Contains, slice_get}
use Rattle.lists.specs.Elements.{at_below, in_cases, in_head, in_none, in_tail}
use Rattle.serial_model.specs.declared.key.Key.{Key}
use Rattle.homes.specs.declared.places.At.{At}
use Rattle.homes.specs.declared.places.At.TheVariants.{Root as RootOf, In}
use Rattle.homes.specs.declared.places.Span.{Span}
use Rattle.homes.specs.Homes.{in_span}
use Rattle.homes.specs.Laws.{in_span-parts}
use Rattle.drop_core.specs.Table.{has_slot}
use Rattle.engine_pages.specs.declared.layout.Layout.{Layout}
use Rattle.engine_pages.specs.declared.view.Head.{Head}
use Rattle.engine_pages.specs.declared.view.View.{View}
use Rattle.engine_pages.specs.declared.view.Way.{Way}
use Rattle.engine_pages.specs.Layout.{page_at, words_of}
use Rattle.engine_pages.specs.Pages.{is_array, is_tree, root_span}
use Rattle.engine_pages.specs.Layout.{root_at}
use Rattle.engine_pages.specs.Pointers.{IsPointerAt}
use Rattle.tree_heads.specs.Headers.{count_of, moved_bit}
use Rattle.chain_steps.specs.declared.halves.Half.{Half}
use Rattle.chain_steps.specs.Swings.{slots_of, CanSwingChain, HasKeyIn, IsLockedLeaf, IsSealedLeaf}
use Rattle.page_drops.specs.Works.{IsOutside}
use Rattle.tree_drops.specs.declared.taking.Root.{Root}
use Rattle.tree_drops.specs.Chains.{first_page, span_in, split_header, way_in, ChainsOn}
use Rattle.tree_drops.specs.Taking.{all_slots, keys_in, CanTake, Covers, IsKnownPage, IsPageAt}
use Rattle.tree_drops.specs.Taking.{IsWholeChain}
use Rattle.tree_drops.proofs.Chaining.{keys_chained, layout_chained, lead_chained, past_chained, tree_chained}
use Rattle.tree_drops.proofs.KeyLists.{has_at}

-- ---- what is known stays

pub place_chained : (x : At) (sp : Span) (at : ℕ) (v w : View) → ChainsOn v w → IsPointerAt v x sp at → IsPointerAt w x sp at
place_chained (RootOf r) sp at v w h place =
    subst (λ (l : Layout). (r < length l.decls) × (sp ≡ root_span l.decls r) × (at ≡ root_at r)) (sym (layout_chained v w h)) place
place_chained (In y) sp at v w h place =
    let layout = layout_chained v w h in
    elim place [
      | inl c ↦ inl record {
        way = c.way;
        has = h.ways c.way c.has;
        slot = c.slot;
        kind = ap (λ (l : Layout). is_array l.decls (c.way).span.storage) layout ∙ c.kind;
        inner = c.inner;
        index = c.index;
        span = c.span;
        word = c.word ∙ ap (λ (l : Layout). page_at l.slots y.slot y.index) (sym layout);
      }
      | inr b ↦ inr record {
        way = b.way;
        has = h.ways b.way b.has;
        slot = b.slot;
        kind = ap (λ (l : Layout). is_tree l.decls (b.way).span.storage) layout ∙ b.kind;
        inner = b.inner;
        knows = h.inners b.inner b.knows;
        same = b.same;
        index = b.index;
        span = b.span;
        word = b.word ∙ ap (λ (l : Layout). page_at l.slots y.slot (4 + y.index)) (sym layout);
      }
    ]

pub known_page_on : (root : Root) (halves : List Half) (h : Half) (n : ℕ) (v w : View) → ChainsOn v w → IsKnownPage root halves h n v
    → IsKnownPage root halves h n w
known_page_on root halves h n v w on k = record {
  way = on.ways (way_in (keys_in root) h) k.way;
  slot = subst (λ (l : Layout). h.slot < l.slots) (sym (layout_chained v w on)) k.slot;
  from = k.from;
  to = k.to;
  kind = k.kind;
  keys = keys_chained h.slot (count_of n) (span_in (keys_in root) h) v w on k.keys;
  leaf = k.leaf;
  split = λ moved. let s = k.split moved in (s.0, (s.1.0, on.moved s.1.0 s.1.1, s.1.2, s.1.3, s.1.4));
}

pub whole_on : (root : Root) (halves : List Half) (headers : List ℕ) (v w : View) → ChainsOn v w → w.ways ≡ v.ways
    → IsWholeChain root halves headers v → IsWholeChain root halves headers w
whole_on root halves headers v w on ways c =
    let layout = layout_chained v w on in record {
      tree = tree_chained root.slot (root.target).page (keys_in root) v w on c.tree;
      place = place_chained (root.target).place (keys_in root) (root.target).at v w on c.place;
      inside = subst (λ (l : Layout). (root.target).at < words_of l) (sym layout) c.inside;
      leads = c.leads;
      lead = λ some. lead_chained (keys_in root) (root.target).page v w on (c.lead some);
      past = subst (λ n. (root.target).epoch ≤ n) (sym (past_chained v w on)) c.past;
      shuts = ap (λ (z : View). z.shuts) on.chains ∙ c.shuts;
      apart = λ u has. subst (λ (l : Layout). IsOutside l.slots u (root.target).at) (sym layout) (c.apart u has);
      few = c.few;
      same = c.same;
      came = λ h has. let x = c.came h has in (x.0, on.moved x.0 x.1, x.2, x.3);
      each = λ i h n at. known_page_on root halves h n v w on (c.each i h n at);
      once = c.once;
      parts = c.parts;
      ways = λ x has. c.ways x (subst (λ (l : List Way). Contains l x) ways has);
    }

-- ---- slots of pages

pub in_slots : (hs : List Half) (t u : ℕ) → has_slot (slots_of hs ++ t ∷ []) u ≡ true → (t ≡ u) ⊎ ((h : Half) × Contains hs h × (h.slot ≡ u))
in_slots [] t u has = by_test (eqb t u) refl has
  where
    by_test : (c : Bool) → eqb t u ≡ c → (c || false) ≡ true → (t ≡ u) ⊎ ((h : Half) × Contains [] h × (h.slot ≡ u))
    by_test true e has = inl (eqb-true t u e)
    by_test false e has = absurd (true≢false (sym has))
in_slots (h ∷ hs) t u has = by_test (eqb h.slot u) refl has (in_slots hs t u)
  where
    by_test : (c : Bool) → eqb h.slot u ≡ c → (c || has_slot (slots_of hs ++ t ∷ []) u) ≡ true
        → (has_slot (slots_of hs ++ t ∷ []) u ≡ true → (t ≡ u) ⊎ ((g : Half) × Contains hs g × (g.slot ≡ u)))
        → (t ≡ u) ⊎ ((g : Half) × Contains (h ∷ hs) g × (g.slot ≡ u))
    by_test true e has rest = inr (h, in_head h hs, eqb-true h.slot u e)
    by_test false e has rest = elim (rest has) [
      | inl first ↦ inl first
      | inr more ↦ inr (more.0, in_tail more.0 h hs more.1, more.2)
    ]

pub slot_in : (hs : List Half) (t : ℕ) (h : Half) → Contains hs h → has_slot (slots_of hs ++ t ∷ []) h.slot ≡ true
slot_in [] t h has = absurd (in_none h has)
slot_in (g ∷ hs) t h has = elim (in_cases h g hs has) [
  | inl same ↦ ap (λ (c : Bool). c || has_slot (slots_of hs ++ t ∷ []) h.slot) (eq-eqb g.slot h.slot (ap (λ (z : Half). z.slot) same))
  | inr more ↦ later (eqb g.slot h.slot) (slot_in hs t h more)
]
  where
    later : (c : Bool) → has_slot (slots_of hs ++ t ∷ []) h.slot ≡ true → (c || has_slot (slots_of hs ++ t ∷ []) h.slot) ≡ true
    later true has = refl
    later false has = has

pub first_in : (hs : List Half) (t : ℕ) → has_slot (slots_of hs ++ t ∷ []) t ≡ true
first_in [] t = ap (λ (c : Bool). c || false) (eq-eqb t t refl)
first_in (g ∷ hs) t = later (eqb g.slot t) (first_in hs t)
  where
    later : (c : Bool) → has_slot (slots_of hs ++ t ∷ []) t ≡ true → (c || has_slot (slots_of hs ++ t ∷ []) t) ≡ true
    later true has = refl
    later false has = has

-- an element of a list, and the one behind all
pub index_of : (hs : List Half) (h : Half) → Contains hs h → (i : ℕ) × (i < length hs) × (slice_get hs i ≡ Some h)
index_of [] h has = absurd (in_none h has)
index_of (g ∷ hs) h has = elim (in_cases h g hs has) [
  | inl same ↦ (0, omega arith, ap (λ (z : Half). Some z) same)
  | inr more ↦ let x = index_of hs h more in let less = x.1 in (suc x.0, omega (arith, less), x.2)
]

pub front_at : (A : Type 0) (xs : List A) (y z : A) (i : ℕ) → slice_get xs i ≡ Some z → slice_get (xs ++ y ∷ []) i ≡ Some z
front_at A [] y z i at = absurd (cc)
front_at A (x ∷ xs) y z zero at = at
front_at A (x ∷ xs) y z (suc i) at = front_at A xs y z i at

pub last_at : (A : Type 0) (xs : List A) (y : A) (i : ℕ) → i ≡ length xs → slice_get (xs ++ y ∷ []) i ≡ Some y
last_at A [] y zero same = refl
last_at A [] y (suc i) same = absurd (omega (arith, same))
last_at A (x ∷ xs) y zero same = absurd (omega (arith, same))
last_at A (x ∷ xs) y (suc i) same = last_at A xs y i (omega (arith, same))

pub some_at : (xs : List ℕ) (i : ℕ) → i < length xs → (n : ℕ) × (slice_get xs i ≡ Some n)
some_at [] i less = absurd (omega (arith, less))
some_at (x ∷ xs) zero less = (x, refl)
some_at (x ∷ xs) (suc i) less = some_at xs i (omega (arith, less))

-- each page has an index and a header
pub page_index : (root : Root) (halves : List Half) (headers : List ℕ) (u : ℕ) → length headers ≡ length halves
    → has_slot (all_slots root halves) u ≡ true → (i : ℕ) × (h : Half) × (n : ℕ) × IsPageAt root halves headers i h n
    × (h.slot ≡ u) × (i < suc (length halves))
page_index root halves headers u same has = elim (in_slots halves root.slot u has) [
  | inl first ↦ (
    length halves,
    first_page root.slot (keys_in root),
    split_header,
    record {
      page = last_at Half halves (first_page root.slot (keys_in root)) (length halves) refl;
      header = last_at ℕ headers split_header (length halves) (sym same);
    },
    first,
    omega arith,
  )
  | inr half ↦
      let x = index_of halves half.0 half.1 in
      let less = x.1 in
      let n = some_at headers x.0 (omega (arith, less, same)) in (
        x.0,
        half.0,
        n.0,
        record {
          page = front_at Half halves (first_page root.slot (keys_in root)) half.0 x.0 x.2;
          header = front_at ℕ headers split_header n.0 x.0 n.1;
        },
        half.2,
        omega (arith, less),
      )
]

cases_at : (hs : List Half) (y z : Half) (i : ℕ) → slice_get (hs ++ y ∷ []) i ≡ Some z → (y ≡ z) ⊎ Contains hs z
cases_at [] y z zero at = inl (cc)
cases_at [] y z (suc i) at = absurd (cc)
cases_at (x ∷ hs) y z zero at = inr (subst (λ w. Contains (x ∷ hs) w) (let same : x ≡ z = cc in same) (in_head x hs))
cases_at (x ∷ hs) y z (suc i) at = elim (cases_at hs y z i at) [ inl last ↦ inl last | inr more ↦ inr (in_tail z x hs more) ]

pub page_slot : (root : Root) (halves : List Half) (headers : List ℕ) (i : ℕ) (h : Half) (n : ℕ) → IsPageAt root halves headers i h n
    → has_slot (all_slots root halves) h.slot ≡ true
page_slot root halves headers i h n at = elim (cases_at halves (first_page root.slot (keys_in root)) h i at.page) [
  | inl first ↦ subst (λ (z : Half). has_slot (all_slots root halves) z.slot ≡ true) first (first_in halves root.slot)
  | inr half ↦ slot_in halves root.slot h half
]

-- ---- the swing

module _ (root : Root) (halves : List Half) (headers : List ℕ) (v : View)
    (can : CanTake root halves headers (17 * suc (length halves)) v) where
  abbrev slots : List ℕ
  slots = all_slots root halves

  -- the page's head is among those of the chain
  head_in : (x : Head) → Contains v.heads x → has_slot slots x.slot ≡ true
  head_in x has =
      let y = can.taken.head x has in
      subst (λ u. has_slot slots u ≡ true) (sym y.slot) (page_slot root halves headers y.index y.half y.header y.page)

  last_unit : (i : ℕ) → i < suc (length halves) → 17 * i < 17 * suc (length halves)
  last_unit i less = omega (arith, less)

  each_page : (u : ℕ) → has_slot slots u ≡ true → IsLockedLeaf v u (keys_in root) (root.target).page ⊎ IsSealedLeaf v slots u
  each_page u has =
      let x = page_index root halves headers u can.chain.same has in
      let known = can.chain.each x.0 x.1 x.2 x.3 in
      let less = x.5 in
      by_header x.0 x.1 x.2 x.3 x.4 less known (header_test x.2)
    where
      header_test : (n : ℕ) → (n < moved_bit) ⊎ (moved_bit ≤ n)
      header_test n = by_test (ltb n moved_bit) refl
        where
          by_test : (c : Bool) → ltb n moved_bit ≡ c → (n < moved_bit) ⊎ (moved_bit ≤ n)
          by_test true e = inl (ltb-true n moved_bit e)
          by_test false e = inr (ltb-false n moved_bit e)

      by_header : (i : ℕ) (h : Half) (n : ℕ) → IsPageAt root halves headers i h n → h.slot ≡ u → i < suc (length halves)
          → IsKnownPage root halves h n v → (n < moved_bit) ⊎ (moved_bit ≤ n)
          → IsLockedLeaf v u (keys_in root) (root.target).page ⊎ IsSealedLeaf v slots u
      by_header i h n at same less known (inl leaf) =
          let x = can.taken.heads i h n at (last_unit i less) leaf in
          let head = can.taken.head x.0 x.1 in
          inl (subst (λ z. IsLockedLeaf v z (keys_in root) (root.target).page) same record {
            span = span_in (keys_in root) h;
            page = record { way = known.way; tree = can.chain.tree.over.tree };
            storage = refl;
            head = x.0;
            has = x.1;
            slot = x.2;
            records = λ r k key.
                let long = head.are.long in
                let few = head.are.few in
                let place = at_below (x.0).keys r k key in
                can.taken.records i h n r x.0 k at leaf (omega (arith, less, long, few, place)) x.1 x.2 key;
          })
      by_header i h n at same less known (inr moved) =
          let s = known.split moved in
          inr (subst (λ z. IsSealedLeaf v slots z) same record {
            span = span_in (keys_in root) h;
            page = record { way = known.way; tree = can.chain.tree.over.tree };
            sealed = can.taken.seals i h n at (last_unit i less) moved;
            moved = s.1.0;
            has = s.1.1;
            slot = s.1.2;
            minor = s.1.3;
            major = s.1.4;
          })

  pub can_swing_chain : Covers root halves (keys_in root) (root.target).page v
      → CanSwingChain v (root.target).place (keys_in root) (root.target).at slots (root.target).page root.word
  can_swing_chain covers = record {
    keeper = can.chain.tree.keeper;
    place = can.chain.place;
    top = root.slot;
    leads = can.chain.leads;
    first = first_in halves root.slot;
    tree = can.chain.tree.over.tree;
    there = can.chain.tree.there;
    lead = can.chain.lead;
    few = let less = can.chain.few in let long = slots_long halves root.slot in omega (arith, less, long);
    led = λ u has. elim (in_slots halves root.slot u has) [
      | inl first ↦ inl (sym first)
      | inr half ↦
          let x = can.chain.came half.0 half.1 in
          inr record {
            moved = x.0;
            has = x.1;
            within = x.2;
            leads = elim x.3 [ inl minor ↦ inl (sym half.2 ∙ minor) | inr major ↦ inr (sym half.2 ∙ major) ];
          }
    ];
    each = each_page;
    own = λ k has.
        let x = can.taken.own k has in
        record { head = x.head; has = x.has; within = head_in x.head x.has; key = has_at (x.head).keys x.record_at k x.key };
    all = λ k f inside stored.
        let parts = in_span-parts (keys_in root) k inside in
        subst (λ (z : Key). HasKeyIn v slots z) (sym (key_of k parts.0)) (covers stored.0 k.key f stored.1 parts.1 parts.2);
    heads = head_in;
    sealed = λ u has.
        let x = can.taken.sealed u has in
        subst (λ z. has_slot slots z ≡ true) x.6 (page_slot root halves headers x.0 x.1 x.2 x.3);
    shuts = can.chain.shuts;
  }
    where
      slots_long : (hs : List Half) (t : ℕ) → length (slots_of hs ++ t ∷ []) ≡ suc (length hs)
      slots_long [] t = refl
      slots_long (h ∷ hs) t = ap suc (slots_long hs t)

      key_of : (k : Key) → k.storage ≡ (keys_in root).storage → k ≡ record { storage = (keys_in root).storage; key = k.key }
      key_of k same = ap (λ s. let z : Key = record { storage = s; key = k.key } in z) same
