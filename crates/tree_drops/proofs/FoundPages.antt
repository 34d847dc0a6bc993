-- What was found in the pages of a chain, page by page.
use Rattle.std.proofs.Common.{◌≡◌, ◌≢◌, ◌⊎◌, inl, inr, ℕ, zero, suc, ◌+◌, ◌-◌, ◌<◌, ◌≤◌, true, true≢false, List, []}
use Rattle.std.proofs.Common.{◌∷◌, ◌++◌, length, refl, sym, ap, ◌∙◌, subst, arith, Some, length-append}
use Rattle.std.specs.Prelude.{reverse, slice_get}
use Rattle.std.specs.List.{Contains}
use Rattle.std.proofs.lemmas.Option.{slice_get_within}
use Rattle.lists.specs.Elements.{at_in, in_cases, in_none}
use Rattle.homes.specs.declared.places.Span.{Span}
use Rattle.drop_core.specs.Table.{has_slot}
use Rattle.engine_pages.specs.declared.view.Moved.{Moved}
use Rattle.engine_pages.specs.declared.view.View.{View}
use Rattle.engine_pages.specs.declared.view.Way.{Way}
use Rattle.engine_pages.specs.Layout.{page_at}
use Rattle.tree_heads.specs.Headers.{moved_bit}
use Rattle.chain_steps.specs.declared.halves.Half.{Half}
use Rattle.chain_steps.specs.Swings.{slots_of}
use Rattle.page_drops.specs.Calls.{slots_on}
use Rattle.page_drops.specs.Works.{read_of}
use Rattle.tree_drops.specs.declared.chains.Split.{Split}
use Rattle.tree_drops.specs.Chains.{first_page, lower_of, span_in, split_header, upper_of, way_in, AreFound, AreHeld}
use Rattle.tree_drops.specs.Chains.{ChainsOn, HasBoth, HoldsSame, IsBeside, IsEarlier, IsFoundSo, IsUnsplit}
use Rattle.tree_drops.proofs.HalvesHeld.{in_either}
use Rattle.tree_drops.proofs.PagesHeld.{alike, alike_at, at_more, at_old, at_other, found_stays, fresh_apart}
use Rattle.tree_drops.proofs.PagesHeld.{fresh_out, half_slot, slot_half, slot_in_new, slot_in_old, slot_reversed}

-- what stands in a list of one
pub one_at : {A : Type 0} → (y : A) (k : ℕ) (z : A) → slice_get (y ∷ []) k ≡ Some z → (k ≡ 0) × (y ≡ z)
one_at y zero z at = (refl, cc)
one_at y (suc k) z at = absurd (in_none z (at_in [] k z at))

-- and in one of two
pub two_at : {A : Type 0} → (x y : A) (k : ℕ) (z : A) → slice_get (x ∷ y ∷ []) k ≡ Some z → (z ≡ x) ⊎ (z ≡ y)
two_at x y zero z at = let is : x ≡ z = cc in inl (sym is)
two_at x y (suc k) z at = inr (sym (one_at y k z at).1)

pub same_some : {A : Type 0} → (x y : A) → Some x ≡ Some y → x ≡ y
same_some x y e = cc

-- ---- spans beside one another

-- a part of a span that is beside another one
beside_part : (whole part other : Span) → IsBeside whole other → IsBeside other whole → other.low ≤ other.high
    → whole.low ≤ part.low → part.high ≤ whole.high → IsBeside part other
beside_part whole part other (inr (inl under)) two some from to = inr (inl (omega (arith, under, to)))
beside_part whole part other (inr (inr over)) two some from to = inr (inr (omega (arith, over, from)))
beside_part whole part other (inl n) (inl m) some from to =
    let a = n.from in
    let b = n.to in
    let c = m.from in
    let d = m.to in
    elim n.less [ inl less ↦ absurd (omega (arith, less, c)) | inr less ↦ absurd (omega (arith, less, d)) ]
beside_part whole part other (inl n) (inr (inl under)) some from to =
    let a = n.from in absurd (omega (arith, a, under, some))
beside_part whole part other (inl n) (inr (inr over)) some from to =
    let b = n.to in absurd (omega (arith, b, over, some))

-- one that is beside a span is beside a part of it
beside_whole : (other whole part : Span) → IsBeside other whole → whole.low ≤ part.low → part.high ≤ whole.high → IsBeside other part
beside_whole other whole part (inl n) from to =
    let a = n.from in
    let b = n.to in inl record {
      from = omega (arith, a, from);
      to = omega (arith, b, to);
      less = elim n.less [ inl less ↦ inl (omega (arith, less, from)) | inr less ↦ inr (omega (arith, less, to)) ];
    }
beside_whole other whole part (inr (inl under)) from to = inr (inl (omega (arith, under, from)))
beside_whole other whole part (inr (inr over)) from to = inr (inr (omega (arith, over, to)))

-- ---- a look at one of them

module _ (t : ℕ) (sp : Span) where
  pub found_on : (halves : List Half) (splits headers : List ℕ) (v w : View) → AreFound t sp halves splits headers v → ChainsOn v w
      → HoldsSame v w
      → ((i : ℕ) (g : Half) (n : ℕ) → slice_get halves i ≡ Some g → slice_get headers i ≡ Some n
      → read_of w.reads (page_at v.layout.slots g.slot 0) ≡ read_of v.reads (page_at v.layout.slots g.slot 0))
      → read_of w.reads (page_at v.layout.slots t 0) ≡ read_of v.reads (page_at v.layout.slots t 0)
      → AreFound t sp halves splits headers w
  found_on halves splits headers v w f on same reads top = record {
    most = f.most;
    way = λ h has. on.ways (way_in sp h) (f.way h has);
    held = λ u has.
        ap (λ (ws : List Way). has_slot (slots_on ws) u) same.ways
        ∙ f.held u (ap (λ g. has_slot g.holds u) (sym same.grip) ∙ has);
    first = found_stays t sp halves halves (first_page t sp) split_header v w f.first on (λ m has. has) top;
    each = λ i h n at read. found_stays t sp halves halves h n v w (f.each i h n at read) on (λ m has. has) (reads i h n at read);
    parts = λ i h at un y has. f.parts i h at un y (subst (λ (ws : List Way). Contains ws y) same.ways has);
    whole = f.whole;
    halved = f.halved;
    top = f.top;
  }

  -- the next page was looked at
  pub found_next : (halves : List Half) (splits headers : List ℕ) (h : Half) (n : ℕ) (w : View)
      → AreFound t sp halves splits headers w → slice_get halves (length headers) ≡ Some h → IsFoundSo t sp halves h n w
      → n < moved_bit → AreFound t sp halves splits (headers ++ n ∷ []) w
  found_next halves splits headers h n w f next page low = record {
    most =
        (let long = length-append headers (n ∷ []) in
        let less = slice_get_within halves (length headers) h next in omega (arith, long, less));
    way = f.way;
    held = f.held;
    first = f.first;
    each = λ i g k at read. elim (at_more headers (n ∷ []) i k read) [
      | inl old ↦ f.each i g k at old
      | inr new ↦
          let one = one_at n new.0 k new.2 in
          let place : i ≡ length headers = (let where-at = new.1 in let none = one.0 in omega (arith, where-at, none)) in
          let same : h ≡ g = same_some h g (sym next ∙ (ap (slice_get halves) (sym place) ∙ at)) in
          subst (λ (z : ℕ). IsFoundSo t sp halves g z w) one.1 (subst (λ (z : Half). IsFoundSo t sp halves z n w) same page)
    ];
    parts = λ i g at un. f.parts i g at (λ m was. un m (at_old headers (n ∷ []) i m was));
    whole = λ i g at un. f.whole i g at (λ m was. un m (at_old headers (n ∷ []) i m was));
    halved = λ i g k at read high. elim (at_more headers (n ∷ []) i k read) [
      | inl old ↦ f.halved i g k at old high
      | inr new ↦
          let is = (one_at n new.0 k new.2).1 in absurd (omega (arith, low, high, is))
    ];
    top = f.top;
  }

  -- ---- each split leaf is held

  pub split_held : (halves : List Half) (splits : List ℕ) (a v : View) → AreHeld t sp halves splits a v → has_slot a.grip.holds t ≡ true
      → (j u : ℕ) → slice_get splits j ≡ Some u → has_slot v.grip.holds u ≡ true
  split_held halves splits a v h own j u at =
      let g = at_other splits halves j u h.paired at in
      ap (λ (l : List ℕ). has_slot l u) h.holds
      ∙ by_earlier (h.came j g.0 u g.1 at).0
    where
      by_earlier : IsEarlier t halves j u → has_slot (reverse (slots_of halves) ++ a.grip.holds) u ≡ true
      by_earlier (inl is) =
          slot_in_new (reverse (slots_of halves)) a.grip.holds u (ap (has_slot a.grip.holds) is ∙ own)
      by_earlier (inr (i, g, less, place, is)) =
          slot_in_old (reverse (slots_of halves)) a.grip.holds u
          (slot_reversed (slots_of halves) u
          (ap (has_slot (slots_of halves)) (sym is) ∙ slot_half halves g (at_in halves i g place)))

  pub half_held : (halves : List Half) (splits : List ℕ) (a v : View) → AreHeld t sp halves splits a v → (g : Half) → Contains halves g
      → has_slot v.grip.holds g.slot ≡ true
  half_held halves splits a v h g has =
      ap (λ (l : List ℕ). has_slot l g.slot) h.holds
      ∙ slot_in_old (reverse (slots_of halves)) a.grip.holds g.slot
      (slot_reversed (slots_of halves) g.slot (slot_half halves g has))

  -- each page is another one
  pub half_apart : (halves : List Half) (splits : List ℕ) (a v : View) → AreHeld t sp halves splits a v → (i j : ℕ) (g h : Half)
      → slice_get halves i ≡ Some g → slice_get halves j ≡ Some h → (i ≡ j → ⊥) → g.slot ≢ h.slot
  half_apart halves splits a v held i j g h one two other same =
      other (fresh_apart a.grip.holds (slots_of halves) i j g.slot h.slot held.fresh (half_slot halves i g one) (half_slot halves j h two) same)

  pub half_new : (halves : List Half) (splits : List ℕ) (a v : View) → AreHeld t sp halves splits a v → has_slot a.grip.holds t ≡ true
      → (i : ℕ) (g : Half) → slice_get halves i ≡ Some g → t ≢ g.slot
  half_new halves splits a v held own i g at same =
      true≢false (sym (ap (has_slot a.grip.holds) (sym same) ∙ own)
      ∙ fresh_out a.grip.holds (slots_of halves) i g.slot held.fresh (half_slot halves i g at))

  -- ---- halves of a page more

  -- a page of before that wasn't split
  pub record IsWhole (p g : Half) (splits : List ℕ) (v : View) : Type 0 where
    pub other : g.slot ≢ p.slot
    pub some : g.low ≤ g.high
    pub parts : (y : Way) → Contains v.ways y → (y ≡ way_in sp g) ⊎ IsBeside y.span (span_in sp g)
    pub whole : (j u : ℕ) → slice_get splits j ≡ Some u → u ≡ g.slot → ⊥

  module _ (old new : List Half) (splits headers : List ℕ) (p : Half) (split : Split) (v w : View)
      (slot : split.slot ≡ p.slot) (span : split.span ≡ span_in sp p) (low : (split.span).low < split.separator)
      (high : split.separator ≤ (split.span).high) (both : HasBoth split old new v w)
      (way : (g : Half) → Contains old g → Contains v.ways (way_in sp g)) (there : Contains v.ways (way_in sp p))
      (own : (y : Way) → Contains v.ways y → (y ≡ way_in sp p) ⊎ IsBeside y.span (span_in sp p))
      (unsplit : (i : ℕ) (g : Half) → slice_get old i ≡ Some g → IsUnsplit headers i → IsWhole p g splits v)
      (in-holds : (j u : ℕ) → slice_get splits j ≡ Some u → has_slot v.grip.holds u ≡ true)
      (p-held : has_slot v.grip.holds p.slot ≡ true) where
    abbrev x : Moved
    x = both.moved

    abbrev upper : Half
    upper = upper_of x split

    abbrev lower : Half
    lower = lower_of x split

    abbrev more : List Half
    more = upper ∷ lower ∷ []

    storage : (split.span).storage ≡ sp.storage
    storage = ap (λ (z : Span). z.storage) span

    low-is : (split.span).low ≡ p.low
    low-is = ap (λ (z : Span). z.low) span

    high-is : (split.span).high ≡ p.high
    high-is = ap (λ (z : Span). z.high) span

    as_way : (g : Half) → way_in split.span g ≡ way_in sp g
    as_way g = ap (λ k. let y : Way = record { slot = g.slot; span = record { storage = k; low = g.low; high = g.high } } in y) storage

    way_more : (g : Half) → Contains new g → Contains w.ways (way_in sp g)
    way_more g has = elim (in_either old more g (subst (λ (l : List Half). Contains l g) both.entered.is has)) [
      | inl one ↦ both.entered.looks.on.ways (way_in sp g) (way g one)
      | inr two ↦ elim (in_cases g upper (lower ∷ []) two) [
        | inl is ↦
            subst (λ (z : Half). Contains w.ways (way_in sp z)) is
            (subst (λ (y : Way). Contains w.ways y) (as_way upper) both.major)
        | inr last ↦ elim (in_cases g lower [] last) [
          | inl is ↦
              subst (λ (z : Half). Contains w.ways (way_in sp z)) is
              (subst (λ (y : Way). Contains w.ways y) (as_way lower) both.minor)
          | inr none ↦ absurd (in_none g none)
        ]
      ]
    ]

    -- the halves are parts of the page's keys
    upper_from : p.low ≤ upper.low
    upper_from = omega (arith, low, low-is)

    lower_to : lower.high ≤ p.high
    lower_to = omega (arith, low, high, high-is)

    -- the ways of before are beside a half, or the page's, which is round it
    from_old : (y : Way) (g : Half) → Contains v.ways y → (g ≡ upper) ⊎ (g ≡ lower) → IsBeside y.span (span_in sp g)
    from_old y g has (inl is) =
        subst (λ (z : Half). IsBeside y.span (span_in sp z)) (sym is) (elim (own y has) [
          | inl first ↦
              subst (λ (z : Span). IsBeside z (span_in sp upper)) (sym (ap (λ (z : Way). z.span) first))
              (inl record { from = upper_from; to = omega (arith, high-is); less = inl (omega (arith, low, low-is)) })
          | inr beside ↦ beside_whole y.span (span_in sp p) (span_in sp upper) beside upper_from (omega (arith, high-is))
        ])
    from_old y g has (inr is) =
        subst (λ (z : Half). IsBeside y.span (span_in sp z)) (sym is) (elim (own y has) [
          | inl first ↦
              subst (λ (z : Span). IsBeside z (span_in sp lower)) (sym (ap (λ (z : Way). z.span) first))
              (inl record { from = omega (arith, low-is); to = lower_to; less = inr (omega (arith, low, high, high-is)) })
          | inr beside ↦ beside_whole y.span (span_in sp p) (span_in sp lower) beside (omega (arith, low-is)) lower_to
        ])

    -- a way of before or of a half
    parts_more : (i : ℕ) (g : Half) → slice_get new i ≡ Some g → IsUnsplit headers i → (y : Way) → Contains w.ways y
        → (y ≡ way_in sp g) ⊎ IsBeside y.span (span_in sp g)
    parts_more i g at un y has =
        elim (at_more old more i g (sym (ap (λ (l : List Half). slice_get l i) both.entered.is) ∙ at)) [
          | inl old-at ↦ of_old i g old-at un (both.only y has)
          | inr new-at ↦ of_new g (two_at upper lower new-at.0 g new-at.2) (both.only y has)
        ]
      where
        of_old : (i : ℕ) (g : Half) → slice_get old i ≡ Some g → IsUnsplit headers i
            → Contains v.ways y ⊎ ((y ≡ way_in split.span lower) ⊎ (y ≡ way_in split.span upper))
            → (y ≡ way_in sp g) ⊎ IsBeside y.span (span_in sp g)
        of_old i g old-at un from =
            let g-whole = unsplit i g old-at un in
            let g-way = way g (at_in old i g old-at) in
            let one : IsBeside (span_in sp p) (span_in sp g) = elim (g-whole.parts (way_in sp p) there) [
              | inl same ↦ absurd (g-whole.other (sym (ap (λ (z : Way). z.slot) same)))
              | inr beside ↦ beside
            ] in
            let two : IsBeside (span_in sp g) (span_in sp p) = elim (own (way_in sp g) g-way) [
              | inl same ↦ absurd (g-whole.other (ap (λ (z : Way). z.slot) same))
              | inr beside ↦ beside
            ] in
            elim from [
              | inl was ↦ g-whole.parts y was
              | inr half ↦ elim half [
                | inl is ↦
                    inr (subst (λ (z : Span). IsBeside z (span_in sp g)) (sym (ap (λ (z : Way). z.span) (is ∙ as_way lower)))
                    (beside_part (span_in sp p) (span_in sp lower) (span_in sp g) one two g-whole.some (omega (arith, low-is)) lower_to))
                | inr is ↦
                    inr (subst (λ (z : Span). IsBeside z (span_in sp g)) (sym (ap (λ (z : Way). z.span) (is ∙ as_way upper)))
                    (beside_part (span_in sp p) (span_in sp upper) (span_in sp g) one two g-whole.some upper_from (omega (arith, high-is))))
              ]
            ]

        of_new : (g : Half) → (g ≡ upper) ⊎ (g ≡ lower)
            → Contains v.ways y ⊎ ((y ≡ way_in split.span lower) ⊎ (y ≡ way_in split.span upper))
            → (y ≡ way_in sp g) ⊎ IsBeside y.span (span_in sp g)
        of_new g is (inl was) = inr (from_old y g was is)
        of_new g (inl is) (inr (inl half)) =
            inr (subst (λ (z : Half). IsBeside y.span (span_in sp z)) (sym is)
            (subst (λ (z : Span). IsBeside z (span_in sp upper)) (sym (ap (λ (z : Way). z.span) half)) (inr (inl (omega (arith, low))))))
        of_new g (inl is) (inr (inr half)) = inl (half ∙ (as_way upper ∙ ap (way_in sp) (sym is)))
        of_new g (inr is) (inr (inl half)) = inl (half ∙ (as_way lower ∙ ap (way_in sp) (sym is)))
        of_new g (inr is) (inr (inr half)) =
            inr (subst (λ (z : Half). IsBeside y.span (span_in sp z)) (sym is)
            (subst (λ (z : Span). IsBeside z (span_in sp lower)) (sym (ap (λ (z : Way). z.span) half)) (inr (inr (omega (arith, low))))))

    -- nothing came of them yet
    whole_more : (i : ℕ) (g : Half) → slice_get new i ≡ Some g → IsUnsplit headers i → (j u : ℕ)
        → slice_get (splits ++ alike more split.slot) j ≡ Some u → u ≡ g.slot → ⊥
    whole_more i g at un j u came same =
        elim (at_more old more i g (sym (ap (λ (l : List Half). slice_get l i) both.entered.is) ∙ at)) [
          | inl old-at ↦
              let g-whole = unsplit i g old-at un in
              elim (at_more splits (alike more split.slot) j u came) [
                | inl was ↦ g-whole.whole j u was same
                | inr last ↦ g-whole.other (sym same ∙ (sym (alike_at more split.slot last.0 u last.2) ∙ slot))
              ]
          | inr new-at ↦
              let held : has_slot v.grip.holds u ≡ true = elim (at_more splits (alike more split.slot) j u came) [
                | inl was ↦ in-holds j u was
                | inr last ↦
                    ap (has_slot v.grip.holds) (sym (alike_at more split.slot last.0 u last.2) ∙ slot) ∙ p-held
              ] in
              true≢false (sym (ap (has_slot v.grip.holds) (sym same) ∙ held)
              ∙ fresh_out v.grip.holds (slots_of more) new-at.0 g.slot both.entered.fresh (half_slot more new-at.0 g new-at.2))
        ]

    -- all of it
    pub found_halves : length headers ≤ length new → IsFoundSo t sp new (first_page t sp) split_header w
        → ((i : ℕ) (h : Half) (n : ℕ) → slice_get new i ≡ Some h → slice_get headers i ≡ Some n → IsFoundSo t sp new h n w)
        → ((i : ℕ) (h : Half) (n : ℕ) → slice_get new i ≡ Some h → slice_get headers i ≡ Some n → moved_bit ≤ n
        → (j : ℕ) × (slice_get (splits ++ alike more split.slot) j ≡ Some h.slot))
        → ((j : ℕ) × (slice_get (splits ++ alike more split.slot) j ≡ Some t))
        → AreFound t sp new (splits ++ alike more split.slot) headers w
    found_halves most first each halved top = record {
      most = most;
      way = way_more;
      held = both.held;
      first = first;
      each = each;
      parts = parts_more;
      whole = whole_more;
      halved = halved;
      top = top;
    }
