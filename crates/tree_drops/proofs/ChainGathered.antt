-- All pages of a chain are held: what was found in them is what locking them asks, and what work on it comes to.
use Rattle.std.proofs.Common.{◌≡◌, ◌≢◌, ◌⊎◌, inl, inr, ℕ, zero, suc, ◌+◌, ◌<◌, ◌≤◌, Bool, true, false, true≢false}
use Rattle.std.proofs.Common.{List, [], ◌∷◌, ◌++◌, length, refl, sym, ap, ◌∙◌, subst, arith, Some}
use Rattle.std.specs.Prelude.{Err, Ok, Result, ◌||◌, ◌==◌}
use Rattle.std.specs.List.{Contains, slice_get}
use Rattle.lists.specs.Elements.{in_cases, in_head, in_none, in_tail}
use Rattle.homes.specs.Homes.{has_key, in_span}
use Rattle.homes.specs.Laws.{in_span-parts}
use Rattle.drop_core.specs.declared.grip.Grip.{Grip}
use Rattle.drop_core.specs.Table.{has_slot}
use Rattle.engine_pages.specs.declared.layout.Layout.{Layout}
use Rattle.engine_pages.specs.declared.view.Head.{Head}
use Rattle.engine_pages.specs.declared.view.Moved.{Moved}
use Rattle.engine_pages.specs.declared.view.Role.TheVariants.{Keeper}
use Rattle.engine_pages.specs.declared.view.Took.{Took}
use Rattle.engine_pages.specs.declared.view.View.{View}
use Rattle.engine_pages.specs.declared.view.Way.{Way}
use Rattle.engine_pages.specs.Layout.{page_at, words_of}
use Rattle.engine_pages.specs.Steps.{seen_at}
use Rattle.tree_heads.specs.Headers.{moved_bit, IsTreeAt}
use Rattle.chain_steps.specs.declared.halves.Half.{Half}
use Rattle.chain_steps.specs.Swings.{slots_of}
use Rattle.page_drops.specs.declared.noting.Kept.{Kept}
use Rattle.page_drops.specs.Works.{read_of, IsOutside}
use Rattle.page_drops.proofs.Entries.{seen_same}
use Rattle.tree_drops.specs.declared.taking.Root.{Root}
use Rattle.tree_drops.specs.Chains.{first_page, span_in, split_header, way_in, AreFound, AreFresh, AreHeld, CameOf, CanGather}
use Rattle.tree_drops.specs.Chains.{ChainsOn, HasGathered, IsBeside, IsEarlier, IsFoundSo, IsHoldCause, IsUnsplit, NotedFor}
use Rattle.tree_drops.specs.Leaves.{AtTree}
use Rattle.tree_drops.specs.Releases.{CanWorkChain, HasKeptLong, HasWorkedChain, HoldsHalves, IsHalfless, IsLongSo, IsWholeCause}
use Rattle.tree_drops.specs.Taking.{all_slots, keys_in, AreApart, AreTaken, CanTake, HasTaken, IsKnownPage}
use Rattle.tree_drops.specs.Taking.{IsLeafOf, IsPageAt, IsTakeCause, IsWholeChain, KeepsBeside}
use Rattle.tree_drops.specs.Visits.{IsNarrower}
use Rattle.tree_drops.proofs.Chaining.{chain_then, layout_chained, lead_chained, pages_chained, past_chained, role_chained}
use Rattle.tree_drops.proofs.Chaining.{tree_at_chained, tree_chained}
use Rattle.tree_drops.proofs.ChainLeft.{fresh_in, fresh_other}
use Rattle.tree_drops.proofs.ChainSwung.{first_in, in_slots, index_of, place_chained, slot_in, some_at}
use Rattle.tree_drops.proofs.ChainTakes.{beside_then}
use Rattle.tree_drops.proofs.ChainUndo.{noted_between}
use Rattle.tree_drops.proofs.Heads.{tells_around}
use Rattle.tree_drops.proofs.HalvesHeld.{in_either}

-- the pass may hold the halves of a chain on which it is to work
pub can_gather : (root : Root) (header : ℕ) (v : View) → CanWorkChain root header v → CanGather root.slot (keys_in root) header v
can_gather root header v can =
    let bare = can.work.bare in record {
      keeper = bare.keeper;
      idle = bare.idle;
      slot = can.work.drop.tree.slot;
      own = can.work.held;
      page = can.work.drop.tree.over;
      moved = can.moved;
      has = can.has;
      same = can.same;
      minor = can.minor;
      major = can.major;
      split = can.split;
      kind = can.kind;
      keys = can.keys;
      seen = can.seen;
      held = λ u has. ap (λ l. has_slot l u) (sym bare.holds) ∙ has;
      parts = λ x has. elim (can.work.narrow x has) [ inl same ↦ inl same | inr narrow ↦ inr (inl narrow) ];
      last = can.last;
      bare = record { took = bare.took; heads = bare.heads; sealed = can.work.unsealed; shuts = bare.shuts };
    }

-- ---- lists

-- an element of a list with one more at its end
pub at_cases : (A : Type 0) (xs : List A) (y z : A) (i : ℕ) → slice_get (xs ++ y ∷ []) i ≡ Some z
    → ((i < length xs) × (slice_get xs i ≡ Some z)) ⊎ ((i ≡ length xs) × (y ≡ z))
at_cases A [] y z zero at = inr (refl, (cc))
at_cases A [] y z (suc i) at = absurd (cc)
at_cases A (x ∷ xs) y z zero at = inl (omega arith, at)
at_cases A (x ∷ xs) y z (suc i) at = elim (at_cases A xs y z i at) [
  | inl both ↦ let less = both.0 in inl (omega (arith, less), both.1)
  | inr last ↦ inr (ap suc last.0, last.1)
]

-- an element of a list is one of it
pub among_at : (hs : List Half) (i : ℕ) (h : Half) → slice_get hs i ≡ Some h → Contains hs h
among_at [] i h at = absurd (cc)
among_at (x ∷ hs) zero h at = subst (λ z. Contains (x ∷ hs) z) (let same : x ≡ h = cc in same) (in_head x hs)
among_at (x ∷ hs) (suc i) h at = in_tail h x hs (among_at hs i h at)

pub slots_have : (hs : List Half) (h : Half) → Contains hs h → Contains (slots_of hs) h.slot
slots_have [] h has = absurd (in_none h has)
slots_have (g ∷ hs) h has = elim (in_cases h g hs has) [
  | inl same ↦ subst (λ (z : Half). Contains (g.slot ∷ slots_of hs) z.slot) same (in_head g.slot (slots_of hs))
  | inr more ↦ in_tail h.slot g.slot (slots_of hs) (slots_have hs h more)
]

-- a slot of a list is one of the list with one more at its end
slots_more : (hs : List Half) (t u : ℕ) → has_slot (slots_of hs) u ≡ true → has_slot (slots_of hs ++ t ∷ []) u ≡ true
slots_more [] t u has = absurd (true≢false (sym has))
slots_more (h ∷ hs) t u has = by_test (h.slot == u) has (slots_more hs t u)
  where
    by_test : (c : Bool) → (c || has_slot (slots_of hs) u) ≡ true
        → (has_slot (slots_of hs) u ≡ true → has_slot (slots_of hs ++ t ∷ []) u ≡ true)
        → (c || has_slot (slots_of hs ++ t ∷ []) u) ≡ true
    by_test true here rest = refl
    by_test false here rest = rest here

append_to : (xs ys zs : List Way) → xs ++ (ys ++ zs) ≡ (xs ++ ys) ++ zs
append_to [] ys zs = refl
append_to (x ∷ xs) ys zs = ap (λ l. x ∷ l) (append_to xs ys zs)

-- what a half came of is known still
came_on : (t : ℕ) (halves : List Half) (g : Half) (u : ℕ) (v w : View) → ChainsOn v w → CameOf t halves g u v → CameOf t halves g u w
came_on t halves g u v w on c = record { moved = c.moved; has = on.moved c.moved c.has; slot = c.slot; leads = c.leads }

-- ---- all pages are held

module _ (root : Root) (header : ℕ) (v : View) (can : CanWorkChain root header v) (halves : List Half) (splits : List ℕ) (a : View)
    (held : AreHeld root.slot (keys_in root) halves splits v a) where
  layout : a.layout ≡ v.layout
  layout = layout_chained v a held.looks.on

  own_fresh : (h : Half) → Contains halves h → has_slot v.grip.holds h.slot ≡ false
  own_fresh h has = fresh_in v.grip.holds (slots_of halves) h.slot held.fresh (slots_have halves h has)

  apart : (u : ℕ) → has_slot (all_slots root halves) u ≡ true → IsOutside v.layout.slots u (root.target).at
  apart u has = elim (in_slots halves root.slot u has) [
    | inl first ↦ subst (λ z. IsOutside v.layout.slots z (root.target).at) first can.work.drop.apart
    | inr half ↦ can.work.away u (subst (λ z. has_slot v.grip.holds z ≡ false) half.2 (own_fresh half.0 half.1))
  ]

  slot_first : (u : ℕ) → Contains (root.slot ∷ slots_of halves) u → has_slot (all_slots root halves) u ≡ true
  slot_first u has = elim (in_cases u root.slot (slots_of halves) has) [
    | inl first ↦ subst (λ z. has_slot (all_slots root halves) z ≡ true) first (first_in halves root.slot)
    | inr more ↦ by_half halves u more
  ]
    where
      by_half : (hs : List Half) (u : ℕ) → Contains (slots_of hs) u → has_slot (slots_of hs ++ root.slot ∷ []) u ≡ true
      by_half [] u has = absurd (in_none u has)
      by_half (h ∷ hs) u has = elim (in_cases u h.slot (slots_of hs) has) [
        | inl same ↦ subst (λ z. has_slot (slots_of (h ∷ hs) ++ root.slot ∷ []) z ≡ true) same
            (slot_in (h ∷ hs) root.slot h (in_head h hs))
        | inr more ↦ later h hs u (by_half hs u more)
      ]
        where
          later : (h : Half) (hs : List Half) (u : ℕ) → has_slot (slots_of hs ++ root.slot ∷ []) u ≡ true
              → has_slot (slots_of (h ∷ hs) ++ root.slot ∷ []) u ≡ true
          later h hs u more = by_test (h.slot == u) more
            where
              by_test : (c : Bool) → has_slot (slots_of hs ++ root.slot ∷ []) u ≡ true
                  → (c || has_slot (slots_of hs ++ root.slot ∷ []) u) ≡ true
              by_test true has = refl
              by_test false has = has

  -- what was seen of the pointer stays
  pub pointer_stays : read_of a.reads (root.target).at ≡ read_of v.reads (root.target).at
  pointer_stays =
      held.reads (root.target).at
      (λ t has. subst (λ (l : Layout). IsOutside l.slots t (root.target).at) (sym layout) (apart t (slot_first t has)))

  pub beside_held : KeepsBeside root halves v a
  beside_held word other out = held.reads word (λ t has. subst (λ (l : Layout). IsOutside l.slots t word) (sym layout) (out t has))

  pub holds_held : HoldsHalves root.slot (keys_in root) halves splits v a
  holds_held = record {
    holds = held.holds;
    fresh = held.fresh;
    added = held.added;
    ways = held.ways;
    ours = held.ours;
    inside = λ h has. let x = held.inside h has in (x.0, x.1, x.2);
    paired = held.paired;
    came = held.came;
  }

  -- ---- a word was seen meanwhile for which it is kept

  pub worked_unheld : (k : Kept) → NotedFor (IsHoldCause v.layout.slots root.slot (keys_in root) halves) k v a
      → HasWorkedChain root halves (Err k) v a
  worked_unheld k note = (
    splits,
    holds_held,
    (
      held.looks,
      record { page = note.page; is = note.is; told = note.told; so = inl note.so },
      inl pointer_stays,
      beside_held,
    ),
  )

  module _ (headers : List ℕ) (found : AreFound root.slot (keys_in root) halves splits headers a) where
    -- ---- it is too long

    pub worked_long : (k : Kept) (w : View) → a.kept ≡ v.kept → 63 ≤ length halves
        → ((x : Moved) → Contains a.moved x → x.slot ≡ root.slot → HasKeptLong root x k a w)
        → HasWorkedChain root halves (Err k) v w
    worked_long k w kept many long =
        let split = found.first.split (omega arith) in
        let x = split.1.0 in
        let h = long x split.1.1 split.1.2 in (
          splits,
          record {
            holds = ap (λ (g : Grip). g.holds) h.grip ∙ held.holds;
            fresh = held.fresh;
            added = h.added ++ held.added;
            ways = h.ways ∙ (ap (λ l. h.added ++ l) held.ways ∙ append_to h.added held.added v.ways);
            ours = λ y has. elim (in_either h.added held.added y has) [
              | inl new ↦ elim (h.ours y new) [
                | inl minor ↦ subst (λ z. has_slot (slots_of halves) z ≡ true) (sym minor) split.1.3
                | inr major ↦ subst (λ z. has_slot (slots_of halves) z ≡ true) (sym major) split.1.4
              ]
              | inr old ↦ held.ours y old
            ];
            inside = λ g has.
                let y = held.inside g has in
                (y.0, y.1, subst (λ (l : Layout). g.slot < l.slots) (sym (layout_chained a w h.looks.on)) y.2);
            paired = held.paired;
            came = λ j g u at split.
                let one = held.came j g u at split in (one.0, came_on root.slot halves g u a w h.looks.on one.1);
          },
          (
            chain_then v a w held.looks h.looks,
            noted_between (IsLongSo a.layout.slots root) (IsWholeCause v.layout.slots root halves splits v) k v a w w kept h.kept refl
                (λ so. inr (inl (
                  so.0,
                  so.1 ∙ ap (λ (l : Layout). page_at l.slots root.slot 0) layout,
                  so.2,
                  many,
                ))),
            inl (h.reads (root.target).at
                (subst (λ (l : Layout). IsOutside l.slots root.slot (root.target).at) (sym layout) can.work.drop.apart)
                ∙ pointer_stays),
            beside_then root halves v a w layout beside_held
                (λ word other out. h.reads word (out root.slot (in_head root.slot (slots_of halves)))),
          ),
        )

    -- ---- it may be locked

    module _ (same : length headers ≡ length halves) (few : length halves < 63) where
      -- a page is a half, or the first one
      page_cases : (i : ℕ) (h : Half) (n : ℕ) → IsPageAt root halves headers i h n
          → ((slice_get halves i ≡ Some h) × (slice_get headers i ≡ Some n))
          ⊎ ((i ≡ length halves) × (first_page root.slot (keys_in root) ≡ h) × (split_header ≡ n))
      page_cases i h n at =
          both (at_cases Half halves (first_page root.slot (keys_in root)) h i at.page) (at_cases ℕ headers split_header n i at.header)
        where
          both : ((i < length halves) × (slice_get halves i ≡ Some h))
              ⊎ ((i ≡ length halves) × (first_page root.slot (keys_in root) ≡ h))
              → ((i < length headers) × (slice_get headers i ≡ Some n)) ⊎ ((i ≡ length headers) × (split_header ≡ n))
              → ((slice_get halves i ≡ Some h) × (slice_get headers i ≡ Some n))
              ⊎ ((i ≡ length halves) × (first_page root.slot (keys_in root) ≡ h) × (split_header ≡ n))
          both (inl one) (inl two) = inl (one.1, two.1)
          both (inr one) (inr two) = inr (one.0, one.1, two.1)
          both (inl one) (inr two) = let less = one.0 in let more = two.0 in absurd (omega (arith, less, more, same))
          both (inr one) (inl two) = let more = one.0 in let less = two.0 in absurd (omega (arith, less, more, same))

      known_found : (h : Half) (n : ℕ) → IsFoundSo root.slot (keys_in root) halves h n a → Contains a.ways (way_in (keys_in root) h)
          → h.slot < a.layout.slots → (keys_in root).low ≤ h.low → h.high ≤ (keys_in root).high → IsKnownPage root halves h n a
      known_found h n so way slot from to = record {
        way = way;
        slot = slot;
        from = from;
        to = to;
        kind = so.kind;
        keys = so.keys;
        leaf = so.leaf;
        split = λ moved.
            let s = so.split moved in
            (s.0, (s.1.0, s.1.1, s.1.2, more halves (s.1.0).minor s.1.3, more halves (s.1.0).major s.1.4));
      }
        where
          more : (hs : List Half) (u : ℕ) → has_slot (slots_of hs) u ≡ true → has_slot (slots_of hs ++ root.slot ∷ []) u ≡ true
          more [] u has = absurd (true≢false (sym has))
          more (g ∷ hs) u has = by_test (g.slot == u) has (more hs u)
            where
              by_test : (c : Bool) → (c || has_slot (slots_of hs) u) ≡ true
                  → (has_slot (slots_of hs) u ≡ true → has_slot (slots_of hs ++ root.slot ∷ []) u ≡ true)
                  → (c || has_slot (slots_of hs ++ root.slot ∷ []) u) ≡ true
              by_test true has rest = refl
              by_test false has rest = rest has

      tree : AtTree root.slot (keys_in root) (root.target).page a
      tree = tree_chained root.slot (root.target).page (keys_in root) v a held.looks.on can.work.drop.tree

      each : (i : ℕ) (h : Half) (n : ℕ) → IsPageAt root halves headers i h n → IsKnownPage root halves h n a
      each i h n at = elim (page_cases i h n at) [
        | inl half ↦
            let has = among_at halves i h half.0 in
            let inside = held.inside h has in
            known_found h n (found.each i h n half.0 half.1) (found.way h has) inside.2 inside.0 inside.1
        | inr first ↦
            subst (λ (g : Half). IsKnownPage root halves g n a) first.1
            (subst (λ m. IsKnownPage root halves (first_page root.slot (keys_in root)) m a) first.2
            (known_found (first_page root.slot (keys_in root)) split_header found.first tree.over.way tree.slot (omega arith) (omega arith)))
      ]

      -- each half has its own slot
      once_at : (holds : List ℕ) (hs : List Half) (i j : ℕ) (h g : Half) → AreFresh holds (slots_of hs) → slice_get hs i ≡ Some h
          → slice_get hs j ≡ Some g → h.slot ≡ g.slot → i ≡ j
      once_at holds [] i j h g fresh one two slot = absurd (cc)
      once_at holds (x ∷ hs) zero zero h g fresh one two slot = refl
      once_at holds (x ∷ hs) zero (suc j) h g fresh one two slot =
          let head : x ≡ h = cc in
          absurd (fresh_other x.slot g.slot holds (slots_of hs) fresh.1 (slots_have hs g (among_at hs j g two))
          (sym slot ∙ sym (ap (λ (z : Half). z.slot) head)))
      once_at holds (x ∷ hs) (suc i) zero h g fresh one two slot =
          let head : x ≡ g = cc in
          absurd (fresh_other x.slot h.slot holds (slots_of hs) fresh.1 (slots_have hs h (among_at hs i h one))
          (slot ∙ sym (ap (λ (z : Half). z.slot) head)))
      once_at holds (x ∷ hs) (suc i) (suc j) h g fresh one two slot =
          ap suc (once_at (x.slot ∷ holds) hs i j h g fresh.1 one two slot)

      first_other : (h : Half) → Contains halves h → h.slot ≡ root.slot → ⊥
      first_other h has slot =
          true≢false (sym (ap (λ u. has_slot v.grip.holds u) slot ∙ can.work.held) ∙ own_fresh h has)

      once : (i j : ℕ) (h g : Half) (n m : ℕ) → IsPageAt root halves headers i h n → IsPageAt root halves headers j g m
          → h.slot ≡ g.slot → i ≡ j
      once i j h g n m one two slot = by_case (page_cases i h n one) (page_cases j g m two)
        where
          by_case : ((slice_get halves i ≡ Some h) × (slice_get headers i ≡ Some n))
              ⊎ ((i ≡ length halves) × (first_page root.slot (keys_in root) ≡ h) × (split_header ≡ n))
              → ((slice_get halves j ≡ Some g) × (slice_get headers j ≡ Some m))
              ⊎ ((j ≡ length halves) × (first_page root.slot (keys_in root) ≡ g) × (split_header ≡ m)) → i ≡ j
          by_case (inl a1) (inl b1) = once_at v.grip.holds halves i j h g held.fresh a1.0 b1.0 slot
          by_case (inr a1) (inr b1) = a1.0 ∙ sym b1.0
          by_case (inl a1) (inr b1) =
              absurd (first_other h (among_at halves i h a1.0) (slot ∙ sym (ap (λ (z : Half). z.slot) b1.1)))
          by_case (inr a1) (inl b1) =
              absurd (first_other g (among_at halves j g b1.0) (sym slot ∙ sym (ap (λ (z : Half). z.slot) a1.1)))

      -- a leaf is a half
      leaf_half : (i : ℕ) (h : Half) (n : ℕ) → IsPageAt root halves headers i h n → n < moved_bit
          → (slice_get halves i ≡ Some h) × (slice_get headers i ≡ Some n)
      leaf_half i h n at leaf = elim (page_cases i h n at) [
        | inl half ↦ half
        | inr first ↦ let is = first.2 in absurd (omega (arith, is, leaf))
      ]

      beside_apart : (h g : Half) → IsBeside (span_in (keys_in root) h) (span_in (keys_in root) g)
          → IsBeside (span_in (keys_in root) g) (span_in (keys_in root) h)
          → AreApart (span_in (keys_in root) h) (span_in (keys_in root) g)
      beside_apart h g one two k in_h in_g =
          let p = in_span-parts (span_in (keys_in root) h) k in_h in
          let q = in_span-parts (span_in (keys_in root) g) k in_g in
          let p1 = p.1 in
          let p2 = p.2 in
          let q1 = q.1 in
          let q2 = q.2 in
          by_case one two p1 p2 q1 q2
        where
          by_case : IsBeside (span_in (keys_in root) h) (span_in (keys_in root) g)
              → IsBeside (span_in (keys_in root) g) (span_in (keys_in root) h)
              → h.low ≤ k.key → k.key ≤ h.high → g.low ≤ k.key → k.key ≤ g.high → ⊥
          by_case (inr (inl less)) y p1 p2 q1 q2 = omega (arith, less, p2, q1)
          by_case (inr (inr more)) y p1 p2 q1 q2 = omega (arith, more, p1, q2)
          by_case (inl wide) (inr (inl less)) p1 p2 q1 q2 = omega (arith, less, q2, p1)
          by_case (inl wide) (inr (inr more)) p1 p2 q1 q2 = omega (arith, more, q1, p2)
          by_case (inl wide) (inl narrow) p1 p2 q1 q2 =
              let a1 = wide.from in
              let a2 = wide.to in
              let b1 = narrow.from in
              let b2 = narrow.to in
              elim wide.less [ inl less ↦ omega (arith, less, b1) | inr more ↦ omega (arith, more, b2) ]

      unsplit : (i n : ℕ) → slice_get headers i ≡ Some n → n < moved_bit → IsUnsplit headers i
      unsplit i n at leaf m there = subst (λ z. z < moved_bit) (let is : n ≡ m = cc in is) leaf

      parts : (i j : ℕ) (h g : Half) (n m : ℕ) → IsPageAt root halves headers i h n → IsPageAt root halves headers j g m
          → n < moved_bit → m < moved_bit → (i ≡ j → ⊥) → AreApart (span_in (keys_in root) h) (span_in (keys_in root) g)
      parts i j h g n m one two leaf least other =
          let p = leaf_half i h n one leaf in
          let q = leaf_half j g m two least in
          beside_apart h g
          (elim (found.parts j g q.0 (unsplit j m q.1 least) (way_in (keys_in root) h) (found.way h (among_at halves i h p.0))) [
            | inl way ↦ absurd (other (once i j h g n m one two (ap (λ (z : Way). z.slot) way)))
            | inr beside ↦ beside
          ])
          (elim (found.parts i h p.0 (unsplit i n p.1 leaf) (way_in (keys_in root) g) (found.way g (among_at halves j g q.0))) [
            | inl way ↦ absurd (other (once i j h g n m one two (sym (ap (λ (z : Way). z.slot) way))))
            | inr beside ↦ beside
          ])

      came : (h : Half) → Contains halves h → (x : Moved) × Contains a.moved x × (has_slot (all_slots root halves) x.slot ≡ true)
          × ((h.slot ≡ x.minor) ⊎ (h.slot ≡ x.major))
      came h has =
          let at = index_of halves h has in
          let less = at.1 in
          let paired = held.paired in
          let u = some_at splits at.0 (omega (arith, less, paired)) in
          let c = held.came at.0 h u.0 at.2 u.1 in (
            c.1.moved,
            c.1.has,
            subst (λ z. has_slot (all_slots root halves) z ≡ true) (sym c.1.slot) (earlier at.0 u.0 c.0),
            c.1.leads,
          )
        where
          earlier : (j u : ℕ) → IsEarlier root.slot halves j u → has_slot (all_slots root halves) u ≡ true
          earlier j u (inl first) = subst (λ z. has_slot (all_slots root halves) z ≡ true) (sym first) (first_in halves root.slot)
          earlier j u (inr half) =
              subst (λ z. has_slot (all_slots root halves) z ≡ true) half.4
              (slot_in halves root.slot half.1 (among_at halves half.0 half.1 half.3))

      -- what it holds besides is round the chain
      ways : (x : Way) → Contains a.ways x → (has_slot (all_slots root halves) x.slot ≡ true) ⊎ IsNarrower x.span (keys_in root)
      ways x has = elim (in_either held.added v.ways x (subst (λ (l : List Way). Contains l x) held.ways has)) [
        | inl new ↦ inl (slots_more halves root.slot x.slot (held.ours x new))
        | inr old ↦ elim (can.work.narrow x old) [
          | inl first ↦
              inl (subst (λ z. has_slot (all_slots root halves) z ≡ true) (sym (ap (λ (z : Way). z.slot) first)) (first_in halves root.slot))
          | inr wide ↦ inr wide
        ]
      ]

      whole : IsWholeChain root halves headers a
      whole = record {
        tree = tree;
        place = place_chained (root.target).place (keys_in root) (root.target).at v a held.looks.on can.work.drop.place;
        inside = subst (λ (l : Layout). (root.target).at < words_of l) (sym layout) can.work.drop.inside;
        leads = can.work.drop.leads;
        lead = λ some. lead_chained (keys_in root) (root.target).page v a held.looks.on (can.work.drop.lead some);
        past = subst (λ n. (root.target).epoch ≤ n) (sym (past_chained v a held.looks.on)) can.work.drop.past;
        shuts = ap (λ (z : View). z.shuts) held.looks.on.chains ∙ can.work.drop.shuts;
        apart = λ u has. subst (λ (l : Layout). IsOutside l.slots u (root.target).at) (sym layout) (apart u has);
        few = few;
        same = same;
        came = came;
        each = each;
        once = once;
        parts = parts;
        ways = ways;
      }

      no_heads : (x : Head) → Contains a.heads x → ⊥
      no_heads x has = in_none x (subst (λ (l : List Head). Contains l x) (held.looks.heads ∙ can.work.drop.heads) has)

      none_taken : AreTaken root halves headers 0 a
      none_taken = record {
        seals = λ i h n at less moved. absurd (omega (arith, less));
        heads = λ i h n at less leaf. absurd (omega (arith, less));
        records = λ i h n r x k at leaf less has slot key. absurd (omega (arith, less));
        own = λ k has.
            absurd (true≢false (sym has ∙ ap (λ l. has_key l k) (held.looks.locks ∙ can.work.drop.locks)));
        mine = λ y has. absurd (in_none y (subst (λ (l : List Took). Contains l y) (held.looks.took ∙ can.work.drop.took) has));
        head = λ x has. absurd (no_heads x has);
        one = λ x y has had slot. absurd (no_heads x has);
        sealed = λ u has. absurd (true≢false (sym has ∙ ap (λ l. has_slot l u) (held.looks.sealed ∙ can.work.unsealed)));
        seen = λ i h n at less. elim (page_cases i h n at) [
          | inl half ↦ (found.each i h n half.0 half.1).seen
          | inr first ↦
              subst (λ (g : Half). seen_at a.reads (page_at a.layout.slots g.slot 0) ≡ Some n) first.1
              (found.first.seen ∙ ap (λ m. Some m) first.2)
        ];
      }

      pub can_take : CanTake root halves headers 0 a
      can_take = record {
        chain = whole;
        most = omega arith;
        taken = none_taken;
        met = seen_same v.reads a.reads (root.target).at pointer_stays ∙ can.work.drop.met;
      }

      -- ---- what comes of that

      pub worked_taken : (w : View) → a.kept ≡ v.kept → 2 ≤ length halves → HasTaken root halves headers (Ok tt) a w
          → HasWorkedChain root halves (Ok tt) v w
      worked_taken w kept many taken = (
        splits,
        a,
        holds_held,
        (held.looks, kept, many, few, taken.0, beside_then root halves v a w layout beside_held taken.1),
      )

      leaf_halfless : (h : Half) → IsLeafOf root halves headers h → IsHalfless splits h.slot
      leaf_halfless h x j s at is =
          let p = leaf_half x.index h x.header x.page x.leaf in
          found.whole x.index h p.0 (unsplit x.index x.header p.1 x.leaf) j s at is

      pub worked_untaken : (k : Kept) (w : View) → a.kept ≡ v.kept → HasTaken root halves headers (Err k) a w
          → HasWorkedChain root halves (Err k) v w
      worked_untaken k w kept (keeps, (tells, beside)) = (
        splits,
        record {
          holds = ap (λ (g : Grip). g.holds) keeps.holds.grip ∙ held.holds;
          fresh = held.fresh;
          added = held.added;
          ways = keeps.holds.ways ∙ held.ways;
          ours = held.ours;
          inside = λ g has.
              let y = held.inside g has in
              (y.0, y.1, subst (λ (l : Layout). g.slot < l.slots) (sym (layout_chained a w keeps.looks.on)) y.2);
          paired = held.paired;
          came = λ j g u at split.
              let one = held.came j g u at split in (one.0, came_on root.slot halves g u a w keeps.looks.on one.1);
        },
        (
          chain_then v a w held.looks keeps.looks,
          noted_between (IsTakeCause a.layout.slots root halves headers a.pages)
              (IsWholeCause v.layout.slots root halves splits v) k v a w w kept keeps.kept refl
              (λ so. inr (inr (
                headers,
                leaf_halfless,
                subst (λ ps. IsTakeCause v.layout.slots root halves headers ps k.why k.word k.seen)
                    (pages_chained v a held.looks.on)
                    (subst (λ (l : Layout). IsTakeCause l.slots root halves headers a.pages k.why k.word k.seen) layout so),
              ))),
          tells_around (root.target).at root.word k v a w w pointer_stays refl tells,
          beside_then root halves v a w layout beside_held beside,
        ),
      )

-- ---- behind the holding of its pages

module _ (root : Root) (header : ℕ) (v : View) (can : CanWorkChain root header v) (halves : List Half) (headers : List ℕ) (a : View) where
  pub worked_other : (k : Kept) → HasGathered root.slot (keys_in root) halves headers (Err k) v a → HasWorkedChain root halves (Err k) v a
  worked_other k (splits, held, note) = worked_unheld root header v can halves splits a held k note

  module _ (u : Unit {0}) (so : HasGathered root.slot (keys_in root) halves headers (Ok u) v a) where
    pub long_role : a.role ≡ Keeper
    long_role = role_chained v a so.1.looks.on ∙ can.work.bare.keeper

    pub long_slot : root.slot < a.layout.slots
    long_slot =
        subst (λ (l : Layout). root.slot < l.slots) (sym (layout_chained v a so.1.looks.on)) can.work.drop.tree.slot

    pub long_page : IsTreeAt a root.slot (keys_in root)
    long_page = tree_at_chained root.slot (keys_in root) v a so.1.looks.on can.work.drop.tree.over

    pub long_known : (x : Moved) × Contains a.moved x × (x.slot ≡ root.slot)
    long_known = (can.moved, so.1.looks.on.moved can.moved can.has, can.same)

    pub long_chain : (k : Kept) (w : View) → 63 ≤ length halves
        → ((x : Moved) → Contains a.moved x → x.slot ≡ root.slot → HasKeptLong root x k a w)
        → HasWorkedChain root halves (Err k) v w
    long_chain k w many long =
        worked_long root header v can halves so.0 a so.1 headers so.2.0 k w so.2.3 many long

    same_long : length halves < 63 → (length headers ≡ length halves) ⊎ (63 ≤ length halves) → length headers ≡ length halves
    same_long few (inl same) = same
    same_long few (inr many) = absurd (omega (arith, few, many))

    pub take_now : length halves < 63 → CanTake root halves headers 0 a
    take_now few = can_take root header v can halves so.0 a so.1 headers so.2.0 (same_long few so.2.1) few

    pub worked_now : length halves < 63 → (r : Result (Unit {0}) Kept) (w : View) → HasTaken root halves headers r a w
        → HasWorkedChain root halves r v w
    worked_now few (Ok o) w taken =
        worked_taken root header v can halves so.0 a so.1 headers so.2.0 (same_long few so.2.1) few w so.2.3 so.2.2 taken
    worked_now few (Err k) w taken =
        worked_untaken root header v can halves so.0 a so.1 headers so.2.0 (same_long few so.2.1) few k w so.2.3 taken

-- the same lists
pub take_same : (root : Root) (hs gs : List Half) (ns ms : List ℕ) (p : ℕ) (a : View) → gs ≡ hs → ms ≡ ns → CanTake root hs ns p a
    → CanTake root gs ms p a
take_same root hs gs ns ms p a one two can =
    subst (λ l. CanTake root l ms p a) (sym one) (subst (λ l. CanTake root hs l p a) (sym two) can)

pub taken_same : (root : Root) (hs gs : List Half) (ns ms : List ℕ) (r : Result (Unit {0}) Kept) (a w : View) → gs ≡ hs → ms ≡ ns
    → HasTaken root gs ms r a w → HasTaken root hs ns r a w
taken_same root hs gs ns ms r a w one two taken =
    subst (λ l. HasTaken root l ns r a w) one (subst (λ l. HasTaken root gs l r a w) two taken)
