-- All pages of a chain are held, page after page.
use Rattle.std.proofs.Common.{◌≡◌, ◌⊎◌, inl, ℕ, ◌+◌, ◌<◌, ◌≤◌, List, [], ◌∷◌, ◌++◌, length, refl, sym, ap, ◌∙◌, subst}
use Rattle.std.proofs.Common.{arith, get_or, Some}
use Rattle.std.proofs.lemmas.Option.{slice_get-get_or}
use Rattle.std.specs.Prelude.{slice_get, Ok, Err}
use Rattle.lists.specs.Elements.{at_in, in_head, in_none}
use Rattle.lists.specs.Fronts.{front_length}
use Rattle.homes.specs.declared.places.Span.{Span}
use Rattle.engine_pages.specs.declared.layout.Layout.{Layout}
use Rattle.engine_pages.specs.declared.view.View.{View}
use Rattle.engine_pages.specs.Pages.{is_tree}
use Rattle.chain_steps.specs.declared.halves.Half.{Half}
use Rattle.page_drops.specs.declared.noting.Kept.{Kept}
use Rattle.page_drops.specs.Works.{read_of, HasGlanced}
use Rattle.tree_drops.specs.declared.chains.Split.{Split}
use Rattle.tree_drops.specs.Chains.{first_page, lower_of, split_header, upper_of, AreHeld, CanGather, CanLook}
use Rattle.tree_drops.specs.Chains.{HasBoth, HasEntered, HasEnteredSo, HasGathered, HasLooked, HasParted, GatheringSo}
use Rattle.tree_drops.specs.Chains.{IsFoundSo, IsHoldCause, IsSplitAt, CanEnter, CanPart}
use Rattle.tree_drops.specs.Visits.{IsHeaderCause}
use Rattle.tree_drops.proofs.Chaining.{chain_self, layout_chained, role_chained}
use Rattle.tree_drops.proofs.FoundPages.{found_halves}
use Rattle.tree_drops.proofs.NextPages.{split_glanced}
use Rattle.tree_drops.proofs.PagesHeld.{alike, held_on}
use Rattle.tree_drops.proofs.SplitPages.{can_enter, among_more, at_glanced, found_split, held_then, kept_page, AtPage}

-- the page that is the next one to be looked at
pub next_half : (xs ys : List Half) (i n : ℕ) (d : Half) → ys ≡ xs → i ≡ n → n < length xs → slice_get xs n ≡ Some (get_or ys i d)
next_half xs ys i n d same index less =
    slice_get-get_or xs n d less
    ∙ (ap (λ k. Some (get_or xs k d)) (sym index) ∙ ap (λ (l : List Half). Some (get_or l i d)) (sym same))

module _ (t : ℕ) (sp : Span) where
  -- ---- the first page

  held_none : (v : View) → AreHeld t sp [] [] v v
  held_none v = record {
    looks = chain_self v;
    holds = refl;
    fresh = tt;
    added = [];
    ways = refl;
    ours = λ y has. absurd (in_none y has);
    inside = λ g has. absurd (in_none g has);
    paired = refl;
    came = λ j g u at split. absurd (in_none g (at_in [] j g at));
    reads = λ word out. refl;
  }

  pub at_first : (header : ℕ) (v : View) → CanGather t sp header v → AtPage t sp [] [] (first_page t sp) header v v
  at_first header v can = record {
    keeper = can.keeper;
    held = held_none v;
    top = can.own;
    slot = can.slot;
    tree = can.page.tree;
    there = can.page.way;
    moved = can.moved;
    has = can.has;
    same = can.same;
    minor = can.minor;
    major = can.major;
    split = can.split;
    kind = can.kind;
    keys = can.keys;
    seen = can.seen;
    have = can.held;
    own = can.parts;
    way = λ g has. absurd (in_none g has);
    from = inl refl;
    low = omega arith;
    high = omega arith;
    p-held = can.own;
    among = in_head (first_page t sp) [];
  }

  module _ (header : ℕ) (v : View) (can : CanGather t sp header v) where
    page : AtPage t sp [] [] (first_page t sp) header v v
    page = at_first header v can

    -- it couldn't be parted
    pub gathered_parted : (k : Kept) (w : View) → HasParted t sp header (Err k) v w → HasGathered t sp [] [] (Err k) v w
    gathered_parted k w parted =
        let keeps = parted.1 in (
          [],
          held_on t sp [] [] v v w (held_none v) keeps.looks keeps.holds (λ word out. ap (λ list. read_of list word) parted.0),
          kept_page t sp [] [] (first_page t sp) header v v page [] k w (in_head (first_page t sp) []) keeps.kept,
        )

    module _ (split : Split) (z : View) (glanced : HasGlanced v z) (is : IsSplitAt t sp header split v) where
      page_now : AtPage t sp [] [] (first_page t sp) header v z
      page_now = at_glanced t sp [] [] (first_page t sp) header v v z page glanced

      split_now : IsSplitAt t sp header split z
      split_now = split_glanced t header sp split v z glanced is

      kept_now : z.kept ≡ v.kept
      kept_now = ap (λ (y : View). y.kept) glanced.is

      slots_now : z.layout.slots ≡ v.layout.slots
      slots_now = ap (λ (y : View). y.layout.slots) glanced.is

      -- the header had changed meanwhile
      pub gathered_turned : (new : List Half) (k : Kept) (w : View) → HasEnteredSo split [] new (Err k) z w
          → HasGathered t sp new [] (Err k) v w
      gathered_turned new k w entered =
          let more : List Half = entered.0.0 in
          let e : HasEntered split [] new more z w = entered.0.1 in
          let noted = entered.1 in (
            [] ++ alike more split.slot,
            held_then t sp [] [] (first_page t sp) header v z page_now new more split w split_now e,
            record {
              page = noted.page;
              is = noted.is ∙ ap (λ l. l ++ noted.page ∷ []) kept_now;
              told = noted.told;
              so = (
                first_page t sp,
                among_more t sp [] [] (first_page t sp) header v z page_now new more e.is,
                inl (subst (λ m. IsHeaderCause m t k.why k.word k.seen) slots_now
                    (subst (λ i. IsHeaderCause z.layout.slots i k.why k.word k.seen) is.slot noted.so)),
              );
            },
          )

      -- both of its halves are held
      pub first_halves : (new : List Half) (w : View) → HasBoth split [] new z w → GatheringSo t sp new [] v w
      first_halves new w both =
          let more : List Half = upper_of both.moved split ∷ lower_of both.moved split ∷ [] in record {
            splits = [] ++ alike more split.slot;
            held = held_then t sp [] [] (first_page t sp) header v z page_now new more split w split_now both.entered;
            found = found_halves t sp [] new [] [] (first_page t sp) split z w is.slot is.span low_here high_here both page_now.way
                page_now.there page_now.own (λ i g at un. absurd (in_none g (at_in [] i g at)))
                (λ j u at. absurd (in_none u (at_in [] j u at))) page_now.p-held (omega arith) first
                (λ i g m at read. absurd (in_none m (at_in [] i m read)))
                (λ i g m at read high. absurd (in_none m (at_in [] i m read)))
                (0, ap (λ k. Some k) is.slot);
            two = (let long : length new ≡ 2 = ap (λ (l : List Half). length l) both.entered.is in omega (arith, long));
            kept = both.kept ∙ kept_now;
          }
        where
          low_here : (split.span).low < split.separator
          low_here = let low = is.low in let same : (split.span).low ≡ sp.low = ap (λ (y : Span). y.low) is.span in omega (arith, low, same)

          high_here : split.separator ≤ (split.span).high
          high_here = let high = is.high in let same : (split.span).high ≡ sp.high = ap (λ (y : Span). y.high) is.span in omega (arith, high, same)

          first : IsFoundSo t sp new (first_page t sp) split_header w
          first =
              subst (λ k. IsFoundSo t sp new (first_page t sp) k w) is.full
              (found_split t sp [] [] (first_page t sp) header v z page_now new split w split_now both)

    -- ---- the others

    -- the next one may be looked at
    pub can_look : (halves : List Half) (headers : List ℕ) (h : Half) (w : View) → (g : GatheringSo t sp halves headers v w)
        → slice_get halves (length headers) ≡ Some h → CanLook t sp halves g.splits headers h v w
    can_look halves headers h w g next =
        let on = g.held.looks.on in
        let layout = layout_chained v w on in record {
          keeper = role_chained v w on ∙ can.keeper;
          first = subst (λ (l : Layout). t < l.slots) (sym layout) can.slot;
          way = on.ways (record { slot = t; span = sp }) can.page.way;
          tree = ap (λ (l : Layout). is_tree l.decls sp.storage) layout ∙ can.page.tree;
          held = g.held;
          found = g.found;
          next = next;
          own = can.own;
          bare = record {
            took = g.held.looks.took ∙ can.bare.took;
            heads = g.held.looks.heads ∙ can.bare.heads;
            sealed = g.held.looks.sealed ∙ can.bare.sealed;
            shuts = ap (λ (y : View). y.shuts) on.chains ∙ can.bare.shuts;
          };
        }

    -- it was
    pub gathers_on : (old new : List Half) (headers : List ℕ) (n : ℕ) (u w : View) → GatheringSo t sp old headers v u
        → HasLooked t sp headers old new (Ok n) v u w → GatheringSo t sp new (headers ++ n ∷ []) v w
    gathers_on old new headers n u w g looked =
        let found = looked.2.0 in
        let front = looked.2.1 in
        let kept = looked.2.2 in record {
          splits = looked.0;
          held = looked.1;
          found = found;
          two = (let long = front_length old new front in let two = g.two in omega (arith, long, two));
          kept = kept ∙ g.kept;
        }

    -- the chain is kept for one of them
    pub gathers_kept : (old new : List Half) (headers : List ℕ) (k : Kept) (u w : View) → GatheringSo t sp old headers v u
        → HasLooked t sp headers old new (Err k) v u w → HasGathered t sp new headers (Err k) v w
    gathers_kept old new headers k u w g looked =
        let noted = looked.2 in
        let slots : u.layout.slots ≡ v.layout.slots = ap (λ (l : Layout). l.slots) (layout_chained v u g.held.looks.on) in (
          looked.0,
          looked.1,
          record {
            page = noted.page;
            is = noted.is ∙ ap (λ l. l ++ noted.page ∷ []) g.kept;
            told = noted.told;
            so = subst (λ m. IsHoldCause m t sp new k.why k.word k.seen) slots noted.so;
          },
        )

    -- all of them, or many
    pub gathers_all : (halves : List Half) (headers : List ℕ) (w : View) → GatheringSo t sp halves headers v w
        → (length headers ≡ length halves) ⊎ (63 ≤ length halves) → HasGathered t sp halves headers (Ok tt) v w
    gathers_all halves headers w g all = (g.splits, g.held, (g.found, all, g.two, g.kept))

    -- ---- as the calls have it

    pub first_part : CanPart t sp header v
    first_part = record {
      keeper = can.keeper;
      slot = can.slot;
      moved = can.moved;
      has = can.has;
      same = can.same;
      split = can.split;
      last = can.last;
    }

    pub ends_parted : (halves : List Half) (headers : List ℕ) (k : Kept) (w : View) → halves ≡ [] → HasParted t sp header (Err k) v w
        → HasGathered t sp halves headers (Err k) v w
    ends_parted halves headers k w none parted =
        subst (λ hs. HasGathered t sp hs headers (Err k) v w) (sym none) (gathered_parted k w parted)

    module _ (split : Split) (z : View) (parted : HasParted t sp header (Ok split) v z) where
      pub first_enter : CanEnter split z
      first_enter =
          can_enter t sp [] [] (first_page t sp) header v z (page_now split z parted.0 parted.1) split
          (split_now split z parted.0 parted.1)

      pub ends_turned : (old new : List Half) (headers : List ℕ) (k : Kept) (w : View) → old ≡ []
          → HasEnteredSo split old new (Err k) z w → HasGathered t sp new headers (Err k) v w
      ends_turned old new headers k w none entered =
          gathered_turned split z parted.0 parted.1 new k w (subst (λ hs. HasEnteredSo split hs new (Err k) z w) none entered)

      pub ends_first : (old new : List Half) (headers : List ℕ) (w : View) → old ≡ [] → headers ≡ []
          → HasEnteredSo split old new (Ok tt) z w → GatheringSo t sp new headers v w
      ends_first old new headers w none bare both =
          subst (λ ns. GatheringSo t sp new ns v w) (sym bare)
          (first_halves split z parted.0 parted.1 new w (subst (λ hs. HasEnteredSo split hs new (Ok tt) z w) none both))
