-- A chain is locked unit by unit: what each asks, what comes of all, and what stays where it is kept.
use Rattle.std.proofs.Common.{◌≡◌, ◌≢◌, inl, inr, ℕ, zero, suc, ◌+◌, ◌*◌, ◌<◌, ◌≤◌, Bool, true, false, true≢false, eqb, eq-eqb, eqb-true}
use Rattle.std.proofs.Common.{List, [], ◌∷◌, ◌++◌, length, refl, sym, ap, ◌∙◌, subst, arith, Some}
use Rattle.std.specs.Prelude.{Err, Ok, ◌||◌}
use Rattle.std.specs.List.{Contains, slice_get}
use Rattle.lists.specs.Elements.{in_cases, in_head, in_tail}
use Rattle.homes.specs.declared.places.Span.{Span}
use Rattle.commit_core.specs.CoreState.{can_begin}
use Rattle.drop_core.specs.Table.{has_slot}
use Rattle.engine_pages.specs.declared.layout.Layout.{Layout}
use Rattle.engine_pages.specs.declared.view.Head.{Head}
use Rattle.engine_pages.specs.declared.view.KeptWhy.{KeptWhy}
use Rattle.engine_pages.specs.declared.view.View.{View}
use Rattle.engine_pages.specs.Layout.{page_at}
use Rattle.engine_pages.specs.Steps.{seen_at}
use Rattle.tree_heads.specs.Headers.{count_of, moved_bit}
use Rattle.chain_steps.specs.declared.halves.Half.{Half}
use Rattle.chain_steps.specs.Swings.{slots_of}
use Rattle.page_drops.specs.declared.noting.Kept.{Kept}
use Rattle.page_drops.specs.Calls.{IsElsewhere}
use Rattle.page_drops.specs.Works.{IsOutside, KeepsReads}
use Rattle.page_drops.proofs.Entries.{reads_more, reads_self, seen_same}
use Rattle.tree_drops.specs.declared.taking.ChainPage.{ChainPage}
use Rattle.tree_drops.specs.declared.taking.Done.{Done}
use Rattle.tree_drops.specs.declared.taking.Done.TheVariants.{Nothing, Sealed, Headed, Recorded}
use Rattle.tree_drops.specs.declared.taking.Root.{Root}
use Rattle.tree_drops.specs.Chains.{span_in, split_header, ChainsOn, HoldsSame, KeepsChain}
use Rattle.tree_drops.specs.Leaves.{AreKeys, AtTree, KnowsKeys}
use Rattle.tree_drops.specs.Taking.{all_pages, keys_in, AreTaken, CanTake, CanTakeKey, CanUndo, CanWorkOn, HasDone}
use Rattle.tree_drops.specs.Taking.{HasTaken, HasUndone}
use Rattle.tree_drops.specs.Taking.{IsPageAt, IsPageCause, IsTakeCause, IsThatPage, IsWholeChain, KeepsBeside}
use Rattle.tree_drops.proofs.Chaining.{chains_self, chains_then, holds_self, holds_then, layout_chained, pages_chained}
use Rattle.tree_drops.proofs.Chaining.{tree_chained}
use Rattle.tree_drops.proofs.ChainSwung.{known_page_on, page_slot, whole_on}
use Rattle.tree_drops.proofs.ChainUndo.{can_open_recorded, undone_headed, undone_recorded, undone_sealed}
use Rattle.tree_drops.proofs.Heads.{tells_around}
use Rattle.tree_drops.proofs.TakenUnits.{key_new, key_untaken, same_page, taken_headed, taken_nothing, taken_recorded, taken_sealed}
use Rattle.tree_drops.proofs.Works.{opened_is, reopened}

-- ---- words of other pages

-- two words of two pages are two
word_apart : (slots t u i j : ℕ) → (t ≡ u → ⊥) → i < 64 → j < 64 → page_at slots t i ≡ page_at slots u j → ⊥
word_apart slots t u i j other few less same = other (omega (arith, few, less, same))

-- what was seen of another page's header stays
module _ (root : Root) (halves : List Half) (headers : List ℕ) (i : ℕ) (h : Half) (n : ℕ) (v w : View)
    (chain : IsWholeChain root halves headers v) (at : IsPageAt root halves headers i h n) (reads : KeepsReads h.slot v w)
    (layout : w.layout ≡ v.layout) where
  pub seen_on : (p : ℕ) → 17 * i < p → (j : ℕ) (g : Half) (m : ℕ) → IsPageAt root halves headers j g m → p ≤ 17 * j
      → seen_at w.reads (page_at w.layout.slots g.slot 0) ≡ seen_at v.reads (page_at v.layout.slots g.slot 0)
  seen_on p past j g m there less =
      ap (λ (l : Layout). seen_at w.reads (page_at l.slots g.slot 0)) layout
      ∙ seen_same v.reads w.reads (page_at v.layout.slots g.slot 0)
      (reads (page_at v.layout.slots g.slot 0) (λ q few same.
      word_apart v.layout.slots g.slot h.slot 0 q
      (λ slots. let one : j ≡ i = chain.once j i g h m n there at slots in omega (arith, past, less, one)) (omega arith) few same))

-- all words of a page are in the chain's
slot_among : (hs : List Half) (t u : ℕ) → has_slot (slots_of hs ++ t ∷ []) u ≡ true → Contains (t ∷ slots_of hs) u
slot_among [] t u has = by_test (eqb t u) refl has
  where
    by_test : (c : Bool) → eqb t u ≡ c → (c || false) ≡ true → Contains (t ∷ []) u
    by_test true e has = subst (λ z. Contains (t ∷ []) z) (eqb-true t u e) (in_head t [])
    by_test false e has = absurd (true≢false (sym has))
slot_among (h ∷ hs) t u has = by_test (eqb h.slot u) refl has (slot_among hs t u)
  where
    by_test : (c : Bool) → eqb h.slot u ≡ c → (c || has_slot (slots_of hs ++ t ∷ []) u) ≡ true
        → (has_slot (slots_of hs ++ t ∷ []) u ≡ true → Contains (t ∷ slots_of hs) u) → Contains (t ∷ h.slot ∷ slots_of hs) u
    by_test true e has rest =
        subst (λ z. Contains (t ∷ h.slot ∷ slots_of hs) z) (eqb-true h.slot u e)
        (in_tail h.slot t (h.slot ∷ slots_of hs) (in_head h.slot (slots_of hs)))
    by_test false e has rest = elim (in_cases u t (slots_of hs) (rest has)) [
      | inl same ↦ subst (λ z. Contains (t ∷ h.slot ∷ slots_of hs) z) same (in_head t (h.slot ∷ slots_of hs))
      | inr more ↦ in_tail u t (h.slot ∷ slots_of hs) (in_tail u h.slot (slots_of hs) more)
    ]

module _ (root : Root) (halves : List Half) (headers : List ℕ) (v : View) where
  abbrev Beside : View → View → Type 0
  Beside v w = KeepsBeside root halves v w

  pub outside_page : (i : ℕ) (h : Half) (n word : ℕ) → IsPageAt root halves headers i h n
      → IsElsewhere v.layout.slots (root.slot ∷ slots_of halves) word → IsOutside v.layout.slots h.slot word
  outside_page i h n word at out = out h.slot (slot_among halves root.slot h.slot (page_slot root halves headers i h n at))

  -- work on one page
  pub beside_page : (i : ℕ) (h : Half) (n : ℕ) (w : View) → IsPageAt root halves headers i h n → KeepsReads h.slot v w → Beside v w
  beside_page i h n w at reads word other out = reads word (outside_page i h n word at out)

pub beside_then : (root : Root) (halves : List Half) (u v w : View) → v.layout ≡ u.layout → KeepsBeside root halves u v
    → KeepsBeside root halves v w → KeepsBeside root halves u w
beside_then root halves u v w same a b word other out =
    b word other (λ t has i few is. out t has i few (is ∙ ap (λ (l : Layout). page_at l.slots t i) same)) ∙ a word other out

-- ---- a unit of work

module _ (root : Root) (halves : List Half) (headers : List ℕ) (i j : ℕ) (page : ChainPage) (v : View)
    (can : CanTake root halves headers (17 * i + j) v) (that : IsThatPage root halves headers i page) (unit : j < 17) where
  abbrev h : Half
  h = that.half

  abbrev n : ℕ
  n = page.header

  abbrev p : ℕ
  p = 17 * i + j

  -- the keys of the head are those of a leaf of that span, as many as its header counts
  head_keys : (x : Head) → Contains v.heads x → x.slot ≡ h.slot
      → Contains v.known (record { slot = h.slot; keys = x.keys }) × AreKeys (span_in (keys_in root) h) (count_of n) x.keys
  head_keys x has slot =
      let y = can.taken.head x has in
      let index : y.index ≡ i = can.chain.once y.index i y.half h y.header n y.page that.at (sym y.slot ∙ slot) in
      let same = same_page root halves headers i y.half h y.header n
      (subst (λ m. IsPageAt root halves headers m y.half y.header) index y.page) that.at in (
        subst (λ (g : Half). Contains v.known (record { slot = g.slot; keys = x.keys })) same.0 y.knows,
        subst (λ m. AreKeys (span_in (keys_in root) h) (count_of m) x.keys) same.1
            (subst (λ (g : Half). AreKeys (span_in (keys_in root) g) (count_of y.header) x.keys) same.0 y.are),
      )

  abbrev known_keys : (x : Head) → Contains v.heads x → x.slot ≡ h.slot
      → KnowsKeys h.slot (span_in (keys_in root) h) (count_of n) v
  known_keys x has slot = record {
    leaf = record { slot = h.slot; keys = x.keys };
    has = (head_keys x has slot).0;
    slot = refl;
    are = (head_keys x has slot).1;
  }

  known_keys_are : (x : Head) (has : Contains v.heads x) (slot : x.slot ≡ h.slot) → (known_keys x has slot).leaf.keys ≡ x.keys
  known_keys_are x has slot = refl

  -- ---- what it asks

  abbrev own : ChainPage
  own = record { slot = h.slot; span = span_in (keys_in root) h; header = n }

  page_is : page ≡ own
  page_is =
      ap (λ (s : ℕ). let z : ChainPage = record { slot = s; span = page.span; header = page.header } in z) that.slot
      ∙ ap (λ (s : Span). let z : ChainPage = record { slot = h.slot; span = s; header = page.header } in z) that.span

  head_here : 0 < j → n < moved_bit → (x : Head) × Contains v.heads x × (x.slot ≡ h.slot)
  head_here some leaf = can.taken.heads i h n that.at (omega (arith, some)) leaf

  own_tree : AtTree h.slot (span_in (keys_in root) h) (root.target).page v
  own_tree =
      let known = can.chain.each i h n that.at in record {
        keeper = can.chain.tree.keeper;
        idle = can.chain.tree.idle;
        over = record { way = known.way; tree = can.chain.tree.over.tree };
        slot = known.slot;
        there = can.chain.tree.there;
        room = can.chain.tree.room;
      }

  can_key : (r : ℕ) → j ≡ suc r → n < moved_bit → j ≤ count_of n → CanTakeKey root own r v
  can_key r next leaf low =
      let known = can.chain.each i h n that.at in
      let x = head_here (omega (arith, next)) leaf in record {
        tree = can.chain.tree;
        below = record {
          keeper = can.chain.tree.keeper;
          tree = can.chain.tree.over.tree;
          there = can.chain.tree.there;
          room = can.chain.tree.room;
          lead = can.chain.lead;
        };
        past = can.chain.past;
        at = own_tree;
        storage = refl;
        from = known.from;
        to = known.to;
        leaf = leaf;
        keys = known_keys x.0 x.1 x.2;
        index = omega (arith, next, low);
        new = λ k key.
            key_new root halves headers i j h n v can.chain that.at unit can.taken r x.0 k next leaf x.1 x.2
            (subst (λ ks. slice_get ks r ≡ Some k) (known_keys_are x.0 x.1 x.2) key);
        own = key_untaken root halves headers i j h n v can.chain that.at unit can.taken r next x;
        head = x;
      }

  pub work_can : CanWorkOn root page j v
  work_can =
      let known = can.chain.each i h n that.at in
      subst (λ (z : ChainPage). CanWorkOn root z j v) (sym page_is) record {
        keeper = can.chain.tree.keeper;
        slot = known.slot;
        tree = own_tree.over;
        unit = unit;
        kind = known.kind;
        leaf = known.leaf;
        split = λ moved. let s = known.split moved in (s.0, (s.1.0, s.1.1, s.1.2));
        seen = λ first. can.taken.seen i h n that.at (omega (arith, first));
        take = can_key;
      }

  -- ---- what comes of it

  module _ (w : View) (reads : KeepsReads h.slot v w) (on : ChainsOn v w) (holds : HoldsSame v w) where
    seen_next : (k : ℕ) (g : Half) (m : ℕ) → IsPageAt root halves headers k g m → p + 1 ≤ 17 * k
        → seen_at w.reads (page_at w.layout.slots g.slot 0) ≡ seen_at v.reads (page_at v.layout.slots g.slot 0)
    seen_next = seen_on root halves headers i h n v w can.chain that.at reads (layout_chained v w on) (p + 1) (omega arith)

    met_still : seen_at w.reads (root.target).at ≡ Some root.word
    met_still =
        seen_same v.reads w.reads (root.target).at
        (reads (root.target).at (can.chain.apart h.slot (page_slot root halves headers i h n that.at))) ∙ can.met

    next_with : i < suc (length halves) → AreTaken root halves headers (p + 1) w → CanTake root halves headers (p + 1) w
    next_with few taken = record {
      chain = whole_on root halves headers v w on holds.ways can.chain;
      most = omega (arith, few, unit);
      taken = taken;
      met = met_still;
    }

  pub next_can : (done : Done) (w : View) → i < suc (length halves) → HasDone root page j done v w → CanTake root halves headers (p + 1) w
  next_can done w few so = by_done done (subst (λ (z : ChainPage). HasDone root z j done v w) page_is so)
    where
      by_done : (d : Done) → HasDone root own j d v w → CanTake root halves headers (p + 1) w
      by_done Nothing s =
          subst (λ (z : View). CanTake root halves headers (p + 1) z) (sym s.0)
          (next_with v (reads_self h.slot v) (chains_self v) (holds_self v) few
          (taken_nothing root halves headers i j h n v can.chain that.at unit can.taken s.1 s.2))
      by_done Sealed s =
          next_with w s.0.reads s.0.on s.0.holds few
          (taken_sealed root halves headers i j h n v can.chain that.at unit can.taken own w refl s.2 s.1 s.0
          (seen_next w s.0.reads s.0.on s.0.holds))
      by_done Headed s =
          next_with w s.0.reads s.0.on s.0.holds few
          (taken_headed root halves headers i j h n v can.chain that.at unit can.taken own w refl refl refl s.2 s.1 s.0
          (seen_next w s.0.reads s.0.on s.0.holds))
      by_done (Recorded key word) s =
          let r = s.0 in
          let x = head_here (let next = s.1 in omega (arith, next)) s.2 in
          next_with w s.4.reads s.4.on s.4.holds few
          (taken_recorded root halves headers i j h n v can.chain that.at unit can.taken own w r word x.0 key refl s.1 s.2 x.1 x.2
          (subst (λ ks. slice_get ks r ≡ Some key) (known_keys_are x.0 x.1 x.2) (s.4.at (known_keys x.0 x.1 x.2))) s.4
          (seen_next w s.4.reads s.4.on s.4.holds))

  -- ---- it is kept at this unit

  cause_of : (why : KeptWhy) (word seen : ℕ) → IsPageCause v.layout.slots root own v.pages why word seen
      → IsTakeCause v.layout.slots root halves headers v.pages why word seen
  cause_of why word seen (inl header) = inl (h, page_among, header)
    where
      at_among : (hs : List Half) (k : ℕ) (g : Half) → slice_get hs k ≡ Some g → Contains hs g
      at_among [] k g at = absurd (cc)
      at_among (x ∷ hs) zero g at = subst (λ z. Contains (x ∷ hs) z) (let same : x ≡ g = cc in same) (in_head x hs)
      at_among (x ∷ hs) (suc k) g at = in_tail g x hs (at_among hs k g at)

      page_among : Contains (all_pages root halves) h
      page_among = at_among (all_pages root halves) i h that.at.page
  cause_of why word seen (inr (inl both)) =
      inr (inl (h, record { index = i; header = n; page = that.at; leaf = both.0 }, both.1))
  cause_of why word seen (inr (inr other)) =
      inr (inr (inl record { place = other.1; cause = inl (other.0, other.2) }))

  pub kept_here : (k : Kept) (w : View) → KeepsChain (IsPageCause v.layout.slots root page v.pages) k v w × KeepsReads page.slot v w
      → HasTaken root halves headers (Err k) v w
  kept_here k w so =
      let h' = subst (λ (z : ChainPage). KeepsChain (IsPageCause v.layout.slots root z v.pages) k v w × KeepsReads z.slot v w)
      page_is so in (
        record {
          looks = h'.0.looks;
          holds = h'.0.holds;
          kept = record {
            page = h'.0.kept.page;
            is = h'.0.kept.is;
            told = h'.0.kept.told;
            so = cause_of k.why k.word k.seen h'.0.kept.so;
          };
        },
        (
          inl (h'.1 (root.target).at (can.chain.apart h.slot (page_slot root halves headers i h n that.at))),
          beside_page root halves headers v i h n w that.at h'.1,
        ),
      )

  -- ---- or behind it

  cause_back : (w : View) → ChainsOn v w → (why : KeptWhy) (word seen : ℕ)
      → IsTakeCause w.layout.slots root halves headers w.pages why word seen
      → IsTakeCause v.layout.slots root halves headers v.pages why word seen
  cause_back w on why word seen so =
      subst (λ ps. IsTakeCause v.layout.slots root halves headers ps why word seen) (pages_chained v w on)
      (subst (λ (l : Layout). IsTakeCause l.slots root halves headers w.pages why word seen) (layout_chained v w on) so)

  -- what is around a unit of work
  pub record IsAround (w : View) : Type 0 where
    pub reads : KeepsReads h.slot v w
    pub on : ChainsOn v w
    pub holds : HoldsSame v w
    pub kept : w.kept ≡ v.kept

  around_self : IsAround v
  around_self = record { reads = reads_self h.slot v; on = chains_self v; holds = holds_self v; kept = refl }

  pub around_done : (done : Done) (w : View) → HasDone root page j done v w → IsAround w
  around_done done w so = by_done done (subst (λ (z : ChainPage). HasDone root z j done v w) page_is so)
    where
      by_done : (d : Done) → HasDone root own j d v w → IsAround w
      by_done Nothing s = subst (λ (z : View). IsAround z) (sym s.0) around_self
      by_done Sealed s = record { reads = s.0.reads; on = s.0.on; holds = s.0.holds; kept = s.0.kept }
      by_done Headed s = record { reads = s.0.reads; on = s.0.on; holds = s.0.holds; kept = s.0.kept }
      by_done (Recorded key word) s = record { reads = s.4.reads; on = s.4.on; holds = s.4.holds; kept = s.4.kept }

  pub taken_behind : (u : Unit {0}) (done : Done) (w z : View) → HasDone root page j done v w
      → HasTaken root halves headers (Ok u) w z → HasTaken root halves headers (Ok u) v z
  taken_behind u done w z so h' =
      let a = around_done done w so in (
        record {
          before = h'.0.before;
          found = h'.0.found;
          on = chains_then v w h'.0.before a.on h'.0.on;
          holds = holds_then v w h'.0.before a.holds h'.0.holds;
          kept = h'.0.kept ∙ a.kept;
          met = h'.0.met;
          is = h'.0.is;
        },
        beside_then root halves v w z (layout_chained v w a.on) (beside_page root halves headers v i h n w that.at a.reads) h'.1,
      )

  -- ---- it is undone

  pub undo_can : (done : Done) (k : Kept) (w e : View) → HasDone root page j done v w → HasTaken root halves headers (Err k) w e
      → CanUndo root page j done e
  undo_can done k w e so h' =
      let a = around_done done w so in
      let all = chains_then v w e a.on h'.0.looks.on in
      subst (λ (z : ChainPage). CanUndo root z j done e) (sym page_is)
      (by_done all done (subst (λ (z : ChainPage). HasDone root z j done v w) page_is so))
    where
      by_done : ChainsOn v e → (d : Done) → HasDone root own j d v w → CanUndo root own j d e
      by_done all Nothing s = tt
      by_done all Sealed s =
          let known = known_page_on root halves h n v e all (can.chain.each i h n that.at) in
          let split = known.split s.1 in
          let keys = known.keys in record {
            page = (tree_chained h.slot (root.target).page (span_in (keys_in root) h) v e all own_tree).over;
            sealed = ap (λ l. has_slot l h.slot) (h'.0.looks.sealed ∙ s.0.sealed)
                ∙ ap (λ (c : Bool). c || has_slot v.sealed h.slot) (eq-eqb h.slot h.slot refl);
            leaf = keys.leaf;
            has = keys.has;
            slot = keys.slot;
            full = keys.are.long ∙ ap count_of split.0;
            is = refl;
          }
      by_done all Headed s = record {
        page = (tree_chained h.slot (root.target).page (span_in (keys_in root) h) v e all own_tree).over;
        head = s.0.head;
        has = subst (λ l. Contains l s.0.head) (sym (h'.0.looks.heads ∙ s.0.heads)) (in_head s.0.head v.heads);
        slot = s.0.slot;
        word = s.0.word;
      }
      by_done all (Recorded key word) s =
          let r = s.0 in
          let tree = tree_chained h.slot (root.target).page (span_in (keys_in root) h) v e all own_tree in
          let x = head_here (let next = s.1 in omega (arith, next)) s.2 in
          let keys = known_keys x.0 x.1 x.2 in
          let few = keys.are.few in
          let next = s.1 in
          let low = s.3 in (
            r,
            s.1,
            omega (arith, few, next, low),
            tree,
            record {
              leaf = keys.leaf;
              has = all.known keys.leaf keys.has;
              slot = keys.slot;
              at = s.4.at keys;
              storage = s.4.storage;
            },
            can_open_recorded root own r word key v w e s.4 h'.0.looks (ap can_begin tree.idle),
          )

  pub undone_behind : (done : Done) (k : Kept) (w e z : View) → HasDone root page j done v w → HasTaken root halves headers (Err k) w e
      → HasUndone page j done e z → HasTaken root halves headers (Err k) v z
  undone_behind done k w e z so h' un =
      let a = around_done done w so in
      let all = chains_then v w e a.on h'.0.looks.on in
      let back = by_done all done (subst (λ (y : ChainPage). HasDone root y j done v w) page_is so)
      (subst (λ (y : ChainPage). HasUndone y j done e z) page_is un) in (
        back.0,
        (
          tells_around (root.target).at root.word k v w e z
              (a.reads (root.target).at (can.chain.apart h.slot (page_slot root halves headers i h n that.at)))
              (back.1 (root.target).at
              (subst (λ (l : Layout). IsOutside l.slots h.slot (root.target).at) (sym (layout_chained v e all))
              (can.chain.apart h.slot (page_slot root halves headers i h n that.at)))) h'.1.0,
          beside_then root halves v e z (layout_chained v e all)
              (beside_then root halves v w e (layout_chained v w a.on) (beside_page root halves headers v i h n w that.at a.reads) h'.1.1)
              (beside_page root halves headers e i h n z that.at back.1),
        ),
      )
    where
      low_heads : j ≡ 0 → (y : Head) → Contains v.heads y → y.slot ≡ h.slot → ⊥
      low_heads first y has slot =
          let x = can.taken.head y has in
          let index : x.index ≡ i = can.chain.once x.index i x.half h x.header n x.page that.at (sym x.slot ∙ slot) in
          let before = x.before in omega (arith, before, index, first)

      low_seals : j ≡ 0 → has_slot v.sealed h.slot ≡ false
      low_seals first = by_test (has_slot v.sealed h.slot) refl
        where
          by_test : (c : Bool) → has_slot v.sealed h.slot ≡ c → has_slot v.sealed h.slot ≡ false
          by_test false none = none
          by_test true has =
              let x = can.taken.sealed h.slot has in
              let index : x.0 ≡ i = can.chain.once x.0 i x.1 h x.2 n x.3 that.at x.6 in
              let before = x.5 in absurd (omega (arith, before, index, first))

      by_done : ChainsOn v e → (d : Done) → HasDone root own j d v w → HasUndone own j d e z
          → KeepsChain (IsTakeCause v.layout.slots root halves headers v.pages) k v z × KeepsReads h.slot e z
      by_done all Nothing s u =
          subst (λ (y : View). KeepsChain (IsTakeCause v.layout.slots root halves headers v.pages) k v y × KeepsReads h.slot e y)
          (sym u)
          (subst (λ (y : View). KeepsChain (IsTakeCause y.layout.slots root halves headers y.pages) k y e) s.0 h'.0, reads_self h.slot e)
      by_done all Sealed s u = (
        undone_sealed (IsTakeCause w.layout.slots root halves headers w.pages)
            (IsTakeCause v.layout.slots root halves headers v.pages) k own
            (page_at e.layout.slots h.slot 0) split_header v w e z s.0 (low_seals s.2) h'.0 u
            (cause_back w s.0.on k.why k.word k.seen),
        reads_more h.slot 0 (page_at e.layout.slots h.slot 0) split_header e e z (omega arith) refl (reads_self h.slot e)
            (ap (λ (y : View). y.reads) u),
      )
      by_done all Headed s u = (
        undone_headed (IsTakeCause w.layout.slots root halves headers w.pages)
            (IsTakeCause v.layout.slots root halves headers v.pages) k own
            (page_at e.layout.slots h.slot 0) n v w e z s.0 (low_heads s.2) h'.0 u
            (cause_back w s.0.on k.why k.word k.seen),
        reads_more h.slot 0 (page_at e.layout.slots h.slot 0) n e e z (omega arith) refl (reads_self h.slot e)
            (ap (λ (y : View). y.reads) u),
      )
      by_done all (Recorded key word) s u =
          let r = s.0 in
          let x = head_here (let next = s.1 in omega (arith, next)) s.2 in
          let few = (known_keys x.0 x.1 x.2).are.few in
          let next = s.1 in
          let low = s.3 in
          let tree = tree_chained h.slot (root.target).page (span_in (keys_in root) h) v e all own_tree in
          let at = page_at e.layout.slots h.slot (17 + 3 * r) in
          let is : z ≡ reopened key at word e = opened_is key at word e z tree.idle (u r s.1) in (
            undone_recorded (IsTakeCause w.layout.slots root halves headers w.pages)
                (IsTakeCause v.layout.slots root halves headers v.pages) k root own r at word key v w e z s.4 h'.0 is
                (cause_back w s.4.on k.why k.word k.seen),
            reads_more h.slot (17 + 3 * r) at word e e z (omega (arith, few, next, low)) refl (reads_self h.slot e)
                (ap (λ (y : View). y.reads) is),
          )
