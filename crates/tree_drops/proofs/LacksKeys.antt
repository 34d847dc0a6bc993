-- No leaf of a chain, all of which is locked, has a key: what a note of that asks.
use Rattle.std.proofs.Common.{◌≡◌, ◌⊎◌, inl, inr, ℕ, suc, ◌*◌, ◌<◌, ◌≤◌, Bool, true, false, true≢false, ltb, ltb-true, ltb-false}
use Rattle.std.proofs.Common.{List, length, refl, sym, ap, ◌∙◌, subst, arith}
use Rattle.std.specs.List.{Contains}
use Rattle.serial_model.specs.declared.key.Key.{Key}
use Rattle.homes.specs.declared.places.Span.{Span}
use Rattle.homes.specs.Homes.{has_key}
use Rattle.homes.specs.Laws.{in_span-from, in_span-parts}
use Rattle.drop_core.specs.Table.{has_slot}
use Rattle.engine_pages.specs.declared.view.Head.{Head}
use Rattle.engine_pages.specs.declared.view.View.{View}
use Rattle.engine_pages.specs.declared.view.Way.{Way}
use Rattle.tree_heads.specs.Headers.{moved_bit}
use Rattle.chain_steps.specs.declared.halves.Half.{Half}
use Rattle.page_drops.specs.Works.{HasGlanced, HasHalvesOf, HasWayWithin, LacksKey, LacksKeyBelow, LiesWithin}
use Rattle.tree_drops.specs.declared.taking.Root.{Root}
use Rattle.tree_drops.specs.Chains.{span_in, way_in}
use Rattle.tree_drops.specs.ChainKeys.{key_in, LacksFrom}
use Rattle.tree_drops.specs.Taking.{all_slots, keys_in, CanTake, IsPageAt}
use Rattle.tree_drops.proofs.ChainSwung.{page_index}
use Rattle.tree_drops.proofs.Covers.{lacks_glanced}

module _ (root : Root) (halves : List Half) (headers : List ℕ) (key : ℕ) (v : View)
    (can : CanTake root halves headers (17 * suc (length halves)) v) (lacks : LacksFrom root halves headers 0 key v) where
  abbrev own_key : Key
  own_key = key_in (keys_in root) key

  -- a head that is locked is a leaf's of the chain
  none_in : (x : Head) → Contains v.heads x → has_key x.keys own_key ≡ false
  none_in x has = by_test (has_key x.keys own_key) refl
    where
      by_test : (c : Bool) → has_key x.keys own_key ≡ c → c ≡ false
      by_test false e = refl
      by_test true e =
          let own = can.taken.head x has in
          let inside = in_span-parts (span_in (keys_in root) own.half) own_key (own.are.inside own_key e) in
          let y = lacks own.index own.half own.header (omega arith) own.page own.leaf inside.1 inside.2 in
          let same : y.0 ≡ x = can.taken.one y.0 x y.1 has (y.2 ∙ sym own.slot) in
          absurd (true≢false (sym e ∙ (ap (λ (z : Head). has_key z.keys own_key) (sym same) ∙ y.3)))

  leaf_lacks : (i : ℕ) (h : Half) (n : ℕ) → IsPageAt root halves headers i h n → i < suc (length halves) → n < moved_bit
      → LacksKey v own_key h.slot
  leaf_lacks i h n at most leaf =
      let x = can.taken.heads i h n at (omega (arith, most)) leaf in inl (x.0, x.1, x.2, none_in x.0 x.1)

  -- a page of the chain is over a part of its keys
  way_within : (u : ℕ) → has_slot (all_slots root halves) u ≡ true → HasWayWithin v (keys_in root) u
  way_within u has =
      let x = page_index root halves headers u can.chain.same has in
      let known = can.chain.each x.0 x.1 x.2 x.3 in (way_in (keys_in root) x.1, known.way, x.4, (known.from, known.to))

  page_lacks : (i : ℕ) (h : Half) (n : ℕ) → IsPageAt root halves headers i h n → i < suc (length halves)
      → LacksKey v own_key h.slot ⊎ HasHalvesOf v (keys_in root) h.slot
  page_lacks i h n at most = by_test (ltb n moved_bit) refl
    where
      by_test : (c : Bool) → ltb n moved_bit ≡ c → LacksKey v own_key h.slot ⊎ HasHalvesOf v (keys_in root) h.slot
      by_test true e = inl (leaf_lacks i h n at most (ltb-true n moved_bit e))
      by_test false e =
          let s = (can.chain.each i h n at).split (ltb-false n moved_bit e) in inr record {
            moved = s.1.0;
            has = s.1.1;
            slot = s.1.2;
            minor = way_within (s.1.0).minor s.1.3;
            major = way_within (s.1.0).major s.1.4;
          }

  way_lacks : (x : Way) → Contains v.ways x → LiesWithin (keys_in root) x.span
      → LacksKey v own_key x.slot ⊎ HasHalvesOf v (keys_in root) x.slot
  way_lacks x has within = elim (can.chain.ways x has) [
    | inl own ↦
        let p = page_index root halves headers x.slot can.chain.same own in
        subst (λ (u : ℕ). LacksKey v own_key u ⊎ HasHalvesOf v (keys_in root) u) p.4 (page_lacks p.0 p.1 p.2 p.3 p.5)
    | inr wide ↦
        let low = within.0 in
        let high = within.1 in
        absurd (elim wide.less [ inl less ↦ omega (arith, less, low) | inr more ↦ omega (arith, more, high) ])
  ]

  lacks_own : (keys_in root).low ≤ key → key ≤ (keys_in root).high → LacksKeyBelow v own_key root.slot
  lacks_own from to = record {
    whole = keys_in root;
    way = can.chain.tree.over.way;
    over = in_span-from (keys_in root) own_key refl from to;
    each = way_lacks;
  }

  -- by the storage of a part of the keys
  pub lacks_below : (sp : Span) → sp.storage ≡ (keys_in root).storage → (keys_in root).low ≤ key → key ≤ (keys_in root).high
      → LacksKeyBelow v (key_in sp key) root.slot
  lacks_below sp storage from to =
      subst (λ (n : ℕ). LacksKeyBelow v (let k : Key = record { storage = n; key = key } in k) root.slot) (sym storage)
      (lacks_own from to)

-- so it is behind a look
pub below_glanced : (t : ℕ) (k : Key) (v w : View) → HasGlanced v w → LacksKeyBelow v k t → LacksKeyBelow w k t
below_glanced t k v w h x = record {
  whole = x.whole;
  way = subst (λ (z : View). Contains z.ways (record { slot = t; span = x.whole })) (sym h.is) x.way;
  over = x.over;
  each = λ y has within.
      elim (x.each y (subst (λ (l : List Way). Contains l y) (ap (λ (z : View). z.ways) h.is) has) within) [
        | inl lacks ↦ inl (lacks_glanced y.slot k v w h lacks)
        | inr halved ↦ inr record {
          moved = halved.moved;
          has = subst (λ (z : View). Contains z.moved halved.moved) (sym h.is) halved.has;
          slot = halved.slot;
          minor = way_on x.whole (halved.moved).minor halved.minor;
          major = way_on x.whole (halved.moved).major halved.major;
        }
      ];
}
  where
    way_on : (whole : Span) (u : ℕ) → HasWayWithin v whole u → HasWayWithin w whole u
    way_on whole u y = (y.0, subst (λ (z : View). Contains z.ways y.0) (sym h.is) y.1, y.2, y.3)
