-- A page of a chain that was split is gone on with: its halves are entered, too.
use Rattle.std.proofs.Common.{◌≡◌, ◌⊎◌, inl, inr, ℕ, ◌+◌, ◌<◌, ◌≤◌, true, List, [], ◌∷◌, ◌++◌, sym, ap, ◌∙◌, subst}
use Rattle.std.proofs.Common.{arith, Some}
use Rattle.std.specs.Prelude.{slice_get}
use Rattle.std.specs.List.{Contains}
use Rattle.homes.specs.declared.places.Span.{Span}
use Rattle.drop_core.specs.Table.{has_slot}
use Rattle.engine_pages.specs.declared.layout.Layout.{Layout}
use Rattle.engine_pages.specs.declared.view.Moved.{Moved}
use Rattle.engine_pages.specs.declared.view.Role.TheVariants.{Keeper}
use Rattle.engine_pages.specs.declared.view.View.{View}
use Rattle.engine_pages.specs.declared.view.Way.{Way}
use Rattle.engine_pages.specs.Layout.{page_at}
use Rattle.engine_pages.specs.Pages.{is_tree}
use Rattle.engine_pages.specs.Steps.{glance, seen_at}
use Rattle.tree_heads.specs.Headers.{count_of, kind_of, moved_bit, moved_locked}
use Rattle.chain_steps.specs.declared.halves.Half.{Half}
use Rattle.chain_steps.specs.Swings.{slots_of}
use Rattle.page_drops.specs.declared.noting.Kept.{Kept}
use Rattle.page_drops.specs.Works.{read_of, HasGlanced}
use Rattle.tree_drops.specs.declared.chains.Split.{Split}
use Rattle.tree_drops.specs.Chains.{first_page, lower_of, pages_of, span_in, upper_of, way_in, AreHeld, CanEnter}
use Rattle.tree_drops.specs.Chains.{CanPart, HasBoth, HasEntered, HeldHaveWays, IsBeside, IsFoundSo, IsHoldCause}
use Rattle.tree_drops.specs.Chains.{IsSplitAt, NotedFor}
use Rattle.tree_drops.specs.Leaves.{KnowsKeys}
use Rattle.tree_drops.specs.Visits.{IsHeaderCause, IsPartedOut}
use Rattle.tree_drops.proofs.Chaining.{chained_glanced, layout_chained}
use Rattle.tree_drops.proofs.HalvesHeld.{has_first, has_later, in_either, in_left_of, in_right}
use Rattle.tree_drops.proofs.PagesHeld.{alike, held_more, held_on, slot_in_new, slots_more}

module _ (t : ℕ) (sp : Span) where
  -- A page of the chain was found to be split, by this word of its header: the pass holds it, and no half of it.
  pub record AtPage (old : List Half) (splits : List ℕ) (p : Half) (n : ℕ) (a v : View) : Type 0 where
    pub keeper : v.role ≡ Keeper
    pub held : AreHeld t sp old splits a v
    pub top : has_slot a.grip.holds t ≡ true
    pub slot : p.slot < v.layout.slots
    pub tree : is_tree v.layout.decls sp.storage ≡ true
    pub there : Contains v.ways (way_in sp p)
    pub moved : Moved
    pub has : Contains v.moved moved
    pub same : moved.slot ≡ p.slot
    pub minor : n < moved_locked → moved.minor < v.layout.slots
    pub major : n < moved_locked → moved.major < v.layout.slots
    pub split : moved_bit ≤ n
    pub kind : kind_of n ≡ 1
    pub keys : KnowsKeys p.slot (span_in sp p) (count_of n) v
    pub seen : seen_at v.reads (page_at v.layout.slots p.slot 0) ≡ Some n
    pub have : HeldHaveWays v
    pub own : (y : Way) → Contains v.ways y → (y ≡ way_in sp p) ⊎ IsBeside y.span (span_in sp p)
    pub way : (g : Half) → Contains old g → Contains v.ways (way_in sp g)
    pub from : (p.slot ≡ t) ⊎ ((i : ℕ) × (g : Half) × (slice_get old i ≡ Some g) × (g.slot ≡ p.slot))
    pub low : sp.low ≤ p.low
    pub high : p.high ≤ sp.high
    pub p-held : has_slot v.grip.holds p.slot ≡ true
    pub among : Contains (pages_of t sp old) p

  pub at_glanced : (old : List Half) (splits : List ℕ) (p : Half) (n : ℕ) (a v w : View) → AtPage old splits p n a v → HasGlanced v w
      → AtPage old splits p n a w
  at_glanced old splits p n a v w c h =
      let only = chained_glanced v w h in
      let held = held_on t sp old splits a v w c.held only.looks only.holds
      (λ word out. ap (λ (z : View). read_of z.reads word) h.is) in
      subst (λ (z : View). AreHeld t sp old splits a z → AtPage old splits p n a z) (sym h.is) (λ held. record {
        keeper = c.keeper;
        held = held;
        top = c.top;
        slot = c.slot;
        tree = c.tree;
        there = c.there;
        moved = c.moved;
        has = c.has;
        same = c.same;
        minor = c.minor;
        major = c.major;
        split = c.split;
        kind = c.kind;
        keys = record { leaf = c.keys.leaf; has = c.keys.has; slot = c.keys.slot; are = c.keys.are };
        seen = c.seen;
        have = c.have;
        own = c.own;
        way = c.way;
        from = c.from;
        low = c.low;
        high = c.high;
        p-held = c.p-held;
        among = c.among;
      }) held

  module _ (old : List Half) (splits : List ℕ) (p : Half) (n : ℕ) (a v : View) (c : AtPage old splits p n a v) where
    -- the word that parts it may be looked at
    pub can_part : (step : ℕ) → v.last ≡ Some (glance step (page_at v.layout.slots p.slot 0) n) → CanPart p.slot (span_in sp p) n v
    can_part step last = record {
      keeper = c.keeper;
      slot = c.slot;
      moved = c.moved;
      has = c.has;
      same = c.same;
      split = c.split;
      last = (step, last);
    }

    -- and its halves entered
    pub can_enter : (split : Split) → IsSplitAt p.slot (span_in sp p) n split v → CanEnter split v
    can_enter split is =
        let open-so : n < moved_locked = (let full = is.full in omega (arith, full)) in
        let low : (split.span).low ≡ p.low = ap (λ (z : Span). z.low) is.span in
        let high : (split.span).high ≡ p.high = ap (λ (z : Span). z.high) is.span in
        let less = is.low in
        let most = is.high in record {
          keeper = c.keeper;
          slot = subst (λ u. u < v.layout.slots) (sym is.slot) c.slot;
          page = record {
            way = subst (λ (y : Way). Contains v.ways y) (sym as_way) c.there;
            tree = ap (λ (z : Span). is_tree v.layout.decls z.storage) is.span ∙ c.tree;
          };
          moved = c.moved;
          has = c.has;
          same = c.same ∙ sym is.slot;
          minor = c.minor open-so;
          major = c.major open-so;
          separator = sym (is.separator c.moved c.has c.same);
          low = omega (arith, less, low);
          high = omega (arith, most, high);
          seen =
              ap (λ u. seen_at v.reads (page_at v.layout.slots u 0)) is.slot
              ∙ (c.seen ∙ ap (λ k. Some k) is.full);
          held = c.have;
          parts = λ y has. elim (c.own y has) [
            | inl first ↦ inl (first ∙ sym as_way)
            | inr beside ↦ inr (subst (λ (z : Span). IsBeside y.span z) (sym is.span) beside)
          ];
        }
      where
        as_way : (let y : Way = record { slot = split.slot; span = split.span } in y) ≡ way_in sp p
        as_way =
            ap (λ u. let y : Way = record { slot = u; span = split.span } in y) is.slot
            ∙ ap (λ z. let y : Way = record { slot = p.slot; span = z } in y) is.span

    -- some of them are held then
    pub held_then : (new more : List Half) (split : Split) (w : View) → IsSplitAt p.slot (span_in sp p) n split v
        → HasEntered split old new more v w → AreHeld t sp new (splits ++ alike more split.slot) a w
    held_then new more split w is e =
        let low : (split.span).low ≡ p.low = ap (λ (z : Span). z.low) is.span in
        let high : (split.span).high ≡ p.high = ap (λ (z : Span). z.high) is.span in
        let first = c.low in
        let last = c.high in
        held_more t sp old new more splits split a v w c.held e (omega (arith, first, low)) (omega (arith, last, high))
        (elim c.from [
          | inl here ↦ inl (is.slot ∙ here)
          | inr g ↦ inr (g.0, g.1, g.2, g.3 ∙ sym is.slot)
        ])

    -- the page among those that are held
    pub among_more : (new more : List Half) → new ≡ old ++ more → Contains (pages_of t sp new) p
    among_more new more is =
        subst (λ (l : List Half). Contains (pages_of t sp l) p) (sym is)
        (by_where c.among)
      where
        by_where : Contains (old ++ first_page t sp ∷ []) p → Contains ((old ++ more) ++ first_page t sp ∷ []) p
        by_where has = elim (in_pages old has) [
          | inl one ↦ in_left_of (old ++ more) (first_page t sp ∷ []) p (in_left_of old more p one)
          | inr two ↦ in_right (old ++ more) (first_page t sp ∷ []) p two
        ]
          where
            in_pages : (old : List Half) → Contains (old ++ first_page t sp ∷ []) p → Contains old p ⊎ Contains (first_page t sp ∷ []) p
            in_pages old has = in_either old (first_page t sp ∷ []) p has

    -- what is told of the page itself
    pub found_split : (new : List Half) (split : Split) (w : View) → IsSplitAt p.slot (span_in sp p) n split v
        → (both : HasBoth split old new v w) → IsFoundSo t sp new p n w
    found_split new split w is both =
        let on = both.entered.looks.on in
        let layout = layout_chained v w on in record {
          kind = c.kind;
          keys = record { leaf = c.keys.leaf; has = on.known c.keys.leaf c.keys.has; slot = c.keys.slot; are = c.keys.are };
          seen =
              ap (λ (l : Layout). seen_at w.reads (page_at l.slots p.slot 0)) layout
              ∙ (ap (λ u. seen_at w.reads (page_at v.layout.slots u 0)) (sym is.slot)
              ∙ (both.seen ∙ ap (λ k. Some k) (sym is.full)));
          leaf = λ low. (let high = c.split in absurd (omega (arith, low, high)));
          split = λ high. (
            is.full,
            (
              both.moved,
              on.moved both.moved both.has,
              both.same ∙ is.slot,
              there (both.moved).minor (has_later (both.moved).major (both.moved).minor ((both.moved).minor ∷ []) (has_first (both.moved).minor [])),
              there (both.moved).major (has_first (both.moved).major ((both.moved).minor ∷ [])),
            ),
          );
        }
      where
        there : (m : ℕ) → has_slot ((both.moved).major ∷ (both.moved).minor ∷ []) m ≡ true → has_slot (slots_of new) m ≡ true
        there m has =
            ap (λ (l : List Half). has_slot (slots_of l) m) both.entered.is
            ∙ (ap (λ (l : List ℕ). has_slot l m) (slots_more old (upper_of both.moved split ∷ lower_of both.moved split ∷ []))
            ∙ slot_in_new (slots_of old) ((both.moved).major ∷ (both.moved).minor ∷ []) m has)

    -- ---- the chain is kept for it

    pub kept_page : (new : List Half) (k : Kept) (w : View) → Contains (pages_of t sp new) p
        → NotedFor (λ why word seen. IsHeaderCause v.layout.slots p.slot why word seen
        ⊎ IsPartedOut v.layout.slots p.slot (span_in sp p) why word seen) k v w
        → NotedFor (IsHoldCause v.layout.slots t sp new) k v w
    kept_page new k w here h = record { page = h.page; is = h.is; told = h.told; so = (p, here, h.so) }
