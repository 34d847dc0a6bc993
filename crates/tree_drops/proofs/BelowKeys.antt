-- A key is looked for in the leaves of a chain, all of which is locked.
use Rattle.std.proofs.Common.{◌≡◌, ℕ, suc, ◌+◌, ◌*◌, ◌<◌, ◌≤◌, Bool, true, false, List, length, refl, sym, ap, ◌∙◌, subst}
use Rattle.std.proofs.Common.{arith, Some, eqb, eq-eqb, eqb-true, true≢false}
use Rattle.std.specs.List.{Contains}
use Rattle.serial_model.specs.declared.key.Key.{Key}
use Rattle.homes.specs.declared.places.Span.{Span}
use Rattle.homes.specs.Homes.{has_key}
use Rattle.drop_core.specs.Table.{has_slot}
use Rattle.engine_pages.specs.declared.layout.Layout.{Layout}
use Rattle.engine_pages.specs.declared.view.Head.{Head}
use Rattle.engine_pages.specs.declared.view.Read.{Read}
use Rattle.engine_pages.specs.declared.view.View.{View}
use Rattle.engine_pages.specs.Layout.{page_at}
use Rattle.engine_pages.specs.Steps.{seen_at}
use Rattle.tree_heads.specs.Headers.{count_of, moved_bit}
use Rattle.chain_steps.specs.declared.halves.Half.{Half}
use Rattle.page_drops.specs.Works.{HasGlanced}
use Rattle.tree_drops.specs.declared.records.Leaf.{Leaf}
use Rattle.tree_drops.specs.declared.taking.ChainPage.{ChainPage}
use Rattle.tree_drops.specs.declared.taking.Root.{Root}
use Rattle.tree_drops.specs.Chains.{span_in, OnlyChains}
use Rattle.tree_drops.specs.ChainKeys.{key_in, CanSearch, HasFoundKey, HasSearched, IsRound, LacksFrom}
use Rattle.tree_drops.specs.Leaves.{has_key_from, AreKeys, AtTree, KnowsKeys}
use Rattle.tree_drops.specs.Taking.{all_slots, keys_in, CanTake, IsPageAt, IsThatPage}
use Rattle.tree_drops.proofs.Chaining.{chained_glanced, layout_chained}
use Rattle.tree_drops.proofs.ChainSwung.{page_slot, whole_on}
use Rattle.tree_drops.proofs.TakenUnits.{same_page, taken_looked}

-- ---- what is known stays

pub take_on : (root : Root) (halves : List Half) (headers : List ℕ) (p : ℕ) (v w : View) → OnlyChains v w → w.reads ≡ v.reads
    → CanTake root halves headers p v → CanTake root halves headers p w
take_on root halves headers p v w only reads can = record {
  chain = whole_on root halves headers v w only.looks.on only.holds.ways can.chain;
  most = can.most;
  taken = taken_looked root halves headers p v w only.looks
      (λ i h n at less. ap (λ (rs : List Read). seen_at rs (page_at w.layout.slots h.slot 0)) reads
      ∙ ap (λ (l : Layout). seen_at v.reads (page_at l.slots h.slot 0)) (layout_chained v w only.looks.on)) can.taken;
  met = subst (λ (rs : List Read). seen_at rs (root.target).at ≡ Some root.word) (sym reads) can.met;
}

pub glanced_reads : (v w : View) → HasGlanced v w → w.reads ≡ v.reads
glanced_reads v w h = ap (λ (z : View). z.reads) h.is

pub take_glanced : (root : Root) (halves : List Half) (headers : List ℕ) (p : ℕ) (v w : View) → HasGlanced v w
    → CanTake root halves headers p v → CanTake root halves headers p w
take_glanced root halves headers p v w h can =
    take_on root halves headers p v w (chained_glanced v w h) (glanced_reads v w h) can

-- ---- one page

-- the leaf that is searched
abbrev pub leaf_as : Root → ChainPage → ℕ → ℕ → Leaf
leaf_as root page stored records = record {
  slot = page.slot;
  span = page.span;
  count = count_of page.header;
  page = stored;
  records = records;
  epoch = (root.target).epoch;
}

pub searched : (root : Root) (page : ChainPage) (key : ℕ) (b : Bool) (l : Leaf) (v : View)
    → l ≡ leaf_as root page (root.target).page 0 → page.header < moved_bit → (page.span).low ≤ key → key ≤ (page.span).high
    → ((x : KnowsKeys l.slot l.span l.count v) → has_key_from (x.leaf).keys 0 (key_in l.span key) ≡ b) → HasSearched page key b v
searched root page key true l v same leaf from to finds = (
  record { leaf = leaf; from = from; to = to },
  subst (λ (z : Leaf). (x : KnowsKeys z.slot z.span z.count v) → has_key_from (x.leaf).keys 0 (key_in z.span key) ≡ true) same finds,
)
searched root page key false l v same leaf from to finds =
    λ round.
    subst (λ (z : Leaf). (x : KnowsKeys z.slot z.span z.count v) → has_key_from (x.leaf).keys 0 (key_in z.span key) ≡ false) same finds

-- ---- the pages of the chain

module _ (root : Root) (halves : List Half) (headers : List ℕ) (v : View)
    (can : CanTake root halves headers (17 * suc (length halves)) v) (i : ℕ) (page : ChainPage)
    (that : IsThatPage root halves headers i page) where
  abbrev within : Type 0
  within = i ≤ length halves

  pub can_search : CanSearch root page v
  can_search =
      let known = can.chain.each i that.half page.header that.at in record {
        at = subst (λ u. AtTree u page.span (root.target).page v) (sym that.slot)
            (subst (λ z. AtTree (that.half).slot z (root.target).page v) (sym that.span) record {
              keeper = can.chain.tree.keeper;
              idle = can.chain.tree.idle;
              over = record { way = known.way; tree = can.chain.tree.over.tree };
              slot = known.slot;
              there = can.chain.tree.there;
              room = can.chain.tree.room;
            });
        known = subst (λ u. KnowsKeys u page.span (count_of page.header) v) (sym that.slot)
            (subst (λ z. KnowsKeys (that.half).slot z (count_of page.header) v) (sym that.span) known.keys);
      }

  -- the keys of its head, which is locked
  head_keys : page.header < moved_bit → within → (x : Head) × Contains v.heads x × (x.slot ≡ (that.half).slot)
      × ((y : KnowsKeys page.slot page.span (count_of page.header) v) × ((y.leaf).keys ≡ x.keys))
  head_keys leaf most =
      let x = can.taken.heads i that.half page.header that.at (omega (arith, most)) leaf in
      let own = can.taken.head x.0 x.1 in
      let index : own.index ≡ i = can.chain.once own.index i own.half that.half own.header page.header own.page that.at (sym own.slot ∙ x.2) in
      let same = same_page root halves headers i own.half that.half own.header page.header
      (subst (λ z. IsPageAt root halves headers z own.half own.header) index own.page) that.at in
      let span : span_in (keys_in root) own.half ≡ page.span = ap (span_in (keys_in root)) same.0 ∙ sym that.span in
      let slot : own.half.slot ≡ page.slot = ap (λ (z : Half). z.slot) same.0 ∙ sym that.slot in (
        x.0,
        x.1,
        x.2,
        (
          record {
            leaf = record { slot = own.half.slot; keys = (x.0).keys };
            has = own.knows;
            slot = slot;
            are = subst (λ z. AreKeys z (count_of page.header) (x.0).keys) span
                (subst (λ n. AreKeys (span_in (keys_in root) own.half) (count_of n) (x.0).keys) same.1 own.are);
          },
          refl,
        ),
      )

  pub found_page : within → (key : ℕ) → HasSearched page key true v → HasFoundKey root halves headers i key true v
  found_page most key s =
      let x = head_keys s.0.leaf most in
      let storage : (page.span).storage ≡ (keys_in root).storage = ap (λ (z : Span). z.storage) that.span in record {
        head = x.0;
        has = x.1;
        within = subst (λ u. has_slot (all_slots root halves) u ≡ true) (sym x.2) (page_slot root halves headers i that.half page.header that.at);
        key = subst (λ (ks : List Key). has_key ks (key_in (keys_in root) key) ≡ true) x.3.1
            (subst (λ (n : ℕ). has_key ((x.3.0).leaf).keys (let k : Key = record { storage = n; key = key } in k) ≡ true) storage (s.1 x.3.0));
      }

  lacks_more : within → (key : ℕ) → HasSearched page key false v → LacksFrom root halves headers (i + 1) key v
      → LacksFrom root halves headers i key v
  lacks_more most key s rest j h n more at leaf low high = by_test (eqb j i) refl
    where
      storage : (page.span).storage ≡ (keys_in root).storage
      storage = ap (λ (z : Span). z.storage) that.span

      by_test : (c : Bool) → eqb j i ≡ c → (x : Head) × Contains v.heads x × (x.slot ≡ h.slot)
          × (has_key x.keys (key_in (keys_in root) key) ≡ false)
      by_test true e =
          let index : j ≡ i = eqb-true j i e in
          let same = same_page root halves headers i h that.half n page.header
          (subst (λ z. IsPageAt root halves headers z h n) index at) that.at in
          let header = same.1 in
          let small : page.header < moved_bit = omega (arith, leaf, header) in
          let x = head_keys small most in
          let begin : (page.span).low ≡ h.low = ap (λ (z : Span). z.low) that.span ∙ ap (λ (z : Half). z.low) (sym same.0) in
          let end : (page.span).high ≡ h.high = ap (λ (z : Span). z.high) that.span ∙ ap (λ (z : Half). z.high) (sym same.0) in
          let round : IsRound page key = record { leaf = small; from = omega (arith, begin, low); to = omega (arith, end, high) } in (
            x.0,
            x.1,
            x.2 ∙ ap (λ (z : Half). z.slot) (sym same.0),
            subst (λ (ks : List Key). has_key ks (key_in (keys_in root) key) ≡ false) x.3.1
                (subst (λ (n : ℕ). has_key ((x.3.0).leaf).keys (let k : Key = record { storage = n; key = key } in k) ≡ false) storage (s round x.3.0)),
          )
      by_test false e = rest j h n (by_less (λ same. true≢false (sym (eq-eqb j i same) ∙ e))) at leaf low high
        where
          by_less : (j ≡ i → ⊥) → i + 1 ≤ j
          by_less other = omega (arith, more, other)

  pub found_next : within → (key : ℕ) (b : Bool) → HasSearched page key false v → HasFoundKey root halves headers (i + 1) key b v
      → HasFoundKey root halves headers i key b v
  found_next most key true s h = h
  found_next most key false s h = lacks_more most key s h

-- told of the view before looks
pub found_back : (root : Root) (halves : List Half) (headers : List ℕ) (i key : ℕ) (b : Bool) (v w : View) → w.heads ≡ v.heads
    → HasFoundKey root halves headers i key b w → HasFoundKey root halves headers i key b v
found_back root halves headers i key true v w heads h = record {
  head = h.head;
  has = subst (λ (l : List Head). Contains l h.head) heads h.has;
  within = h.within;
  key = h.key;
}
found_back root halves headers i key false v w heads h =
    λ j g n more at leaf low high.
    let x = h j g n more at leaf low high in (x.0, subst (λ (l : List Head). Contains l x.0) heads x.1, x.2, x.3)

pub glanced_heads : (v w : View) → HasGlanced v w → w.heads ≡ v.heads
glanced_heads v w h = ap (λ (z : View). z.heads) h.is
