-- The pages of a chain, as they are told: a row of halves below the first page, dropped or kept alike.
use Rattle.std.proofs.Common.{◌≡◌, ◌⊎◌, inl, inr, ℕ, zero, suc, ◌+◌, ◌≤◌, List, [], ◌∷◌, ◌++◌, length, replicate}
use Rattle.std.proofs.Common.{Option, Some, None, refl, sym, ap, ◌∙◌, subst, arith}
use Rattle.std.specs.List.{Contains, slice_get}
use Rattle.lists.specs.Elements.{in_cases, in_head, in_none, in_tail}
use Rattle.lists.specs.Fronts.{IsFront}
use Rattle.homes.specs.declared.places.Span.{Span}
use Rattle.engine_pages.specs.declared.view.KeptPage.{KeptPage}
use Rattle.engine_pages.specs.declared.view.Swung.{Swung}
use Rattle.engine_pages.specs.declared.view.View.{View}
use Rattle.chain_steps.specs.declared.halves.Half.{Half}
use Rattle.chain_steps.specs.Swings.{slots_of, swung_all}
use Rattle.tree_drops.specs.Chains.{first_page, span_in, IsEarlier}
use Rattle.tree_drops.specs.Releases.{HoldsHalves, IsHalfless}
use Rattle.tree_drops.specs.Turns.{page_met}
use Rattle.tree_drops.specs.Visits.{MetPage, MetPages, NoPages, PageThen, AreMet, IsAmong, IsBefore, IsChainLeaf}
use Rattle.tree_drops.specs.Visits.{IsChainPage, IsHalfMet, IsMet, dropped_in, met_at, notes_in}
use Rattle.tree_drops.specs.Visits.{row_length, slots_in, swings_in}

-- ---- the row

-- a half, as it is told, which came of the leaf in the slot
abbrev pub half_met : ℕ → Span → ℕ → Option KeptPage → Half → ℕ → MetPage
half_met at sp page note h split =
    record { at = at; span = span_in sp h; page = page; slot = Some h.slot; half = Some split; kept = note }

-- all of them
abbrev pub row_of : ℕ → Span → ℕ → Option KeptPage → List Half → List ℕ → MetPages
row_of at sp page note [] splits = NoPages
row_of at sp page note (h ∷ halves) [] = PageThen (half_met at sp page note h 0) NoPages (row_of at sp page note halves [])
row_of at sp page note (h ∷ halves) (u ∷ splits) =
    PageThen (half_met at sp page note h u) NoPages (row_of at sp page note halves splits)

module _ (at : ℕ) (sp : Span) (page : ℕ) where
  abbrev Row : Option KeptPage → List Half → List ℕ → MetPages
  Row note halves splits = row_of at sp page note halves splits

  pub slots_row : (note : Option KeptPage) (halves : List Half) (splits : List ℕ) → slots_in (Row note halves splits) ≡ slots_of halves
  slots_row note [] splits = refl
  slots_row note (h ∷ halves) [] = ap (λ l. h.slot ∷ l) (slots_row note halves [])
  slots_row note (h ∷ halves) (u ∷ splits) = ap (λ l. h.slot ∷ l) (slots_row note halves splits)

  pub length_row : (note : Option KeptPage) (halves : List Half) (splits : List ℕ) → row_length (Row note halves splits) ≡ length halves
  length_row note [] splits = refl
  length_row note (h ∷ halves) [] = ap suc (length_row note halves [])
  length_row note (h ∷ halves) (u ∷ splits) = ap suc (length_row note halves splits)

  pub notes_kept : (k : KeptPage) (halves : List Half) (splits : List ℕ)
      → notes_in (Row (Some k) halves splits) ≡ replicate (length halves) k
  notes_kept k [] splits = refl
  notes_kept k (h ∷ halves) [] = ap (λ l. k ∷ l) (notes_kept k halves [])
  notes_kept k (h ∷ halves) (u ∷ splits) = ap (λ l. k ∷ l) (notes_kept k halves splits)

  pub notes_dropped : (halves : List Half) (splits : List ℕ) → notes_in (Row None halves splits) ≡ []
  notes_dropped [] splits = refl
  notes_dropped (h ∷ halves) [] = notes_dropped halves []
  notes_dropped (h ∷ halves) (u ∷ splits) = notes_dropped halves splits

  pub swings_kept : (k : KeptPage) (halves : List Half) (splits : List ℕ) → swings_in (Row (Some k) halves splits) ≡ []
  swings_kept k [] splits = refl
  swings_kept k (h ∷ halves) [] = swings_kept k halves []
  swings_kept k (h ∷ halves) (u ∷ splits) = swings_kept k halves splits

  pub swings_dropped : (halves : List Half) (splits : List ℕ) → swings_in (Row None halves splits) ≡ swung_all at (slots_of halves)
  swings_dropped [] splits = refl
  swings_dropped (h ∷ halves) [] =
      ap (λ (l : List Swung). record { word = at; slot = h.slot } ∷ l) (swings_dropped halves [])
  swings_dropped (h ∷ halves) (u ∷ splits) =
      ap (λ (l : List Swung). record { word = at; slot = h.slot } ∷ l) (swings_dropped halves splits)

  pub dropped_all : (halves : List Half) (splits : List ℕ) → dropped_in (Row None halves splits) ≡ length halves
  dropped_all [] splits = refl
  dropped_all (h ∷ halves) [] = let rest = dropped_all halves [] in omega (arith, rest)
  dropped_all (h ∷ halves) (u ∷ splits) = let rest = dropped_all halves splits in omega (arith, rest)

  pub dropped_none : (k : KeptPage) (halves : List Half) (splits : List ℕ) → dropped_in (Row (Some k) halves splits) ≡ 0
  dropped_none k [] splits = refl
  dropped_none k (h ∷ halves) [] = let rest = dropped_none k halves [] in omega (arith, rest)
  dropped_none k (h ∷ halves) (u ∷ splits) = let rest = dropped_none k halves splits in omega (arith, rest)

  -- the one with an index
  pub record IsRowAt (note : Option KeptPage) (halves : List Half) (splits : List ℕ) (j : ℕ) (c : MetPage) (under : MetPages)
      : Type 0 where
    pub half : Half
    pub split : ℕ
    pub at_half : slice_get halves j ≡ Some half
    pub at_split : slice_get splits j ≡ Some split
    pub is : c ≡ half_met at sp page note half split
    pub end : under ≡ NoPages

  pub row_at : (note : Option KeptPage) (halves : List Half) (splits : List ℕ) (j : ℕ) (c : MetPage) (under : MetPages)
      → length splits ≡ length halves → met_at j (Row note halves splits) ≡ Some (c, under) → IsRowAt note halves splits j c under
  row_at note [] splits j c under same met = absurd (cc)
  row_at note (h ∷ halves) [] j c under same met = absurd (omega (arith, same))
  row_at note (h ∷ halves) (u ∷ splits) zero c under same met =
      let both : (half_met at sp page note h u, NoPages) ≡ (c, under) = cc in record {
        half = h;
        split = u;
        at_half = refl;
        at_split = refl;
        is = sym (ap (λ (x : MetPage × MetPages). x.0) both);
        end = sym (ap (λ (x : MetPage × MetPages). x.1) both);
      }
  row_at note (h ∷ halves) (u ∷ splits) (suc j) c under same met =
      let rest = row_at note halves splits j c under (omega (arith, same)) met in record {
        half = rest.half;
        split = rest.split;
        at_half = rest.at_half;
        at_split = rest.at_split;
        is = rest.is;
        end = rest.end;
      }

  -- and the other way
  pub at_row : (note : Option KeptPage) (halves : List Half) (splits : List ℕ) (j : ℕ) (h : Half) → length splits ≡ length halves
      → slice_get halves j ≡ Some h
      → (u : ℕ) × (slice_get splits j ≡ Some u) × (met_at j (Row note halves splits) ≡ Some (half_met at sp page note h u, NoPages))
  at_row note [] splits j h same here = absurd (cc)
  at_row note (g ∷ halves) [] j h same here = absurd (omega (arith, same))
  at_row note (g ∷ halves) (u ∷ splits) zero h same here =
      let one : g ≡ h = cc in
      (u, refl, ap (λ (z : Half). Some (half_met at sp page note z u, NoPages)) one)
  at_row note (g ∷ halves) (u ∷ splits) (suc j) h same here = at_row note halves splits j h (omega (arith, same)) here

  pub among_at : (note : Option KeptPage) (halves : List Half) (splits : List ℕ) (c : MetPage) (j : ℕ)
      → met_at j (Row note halves splits) ≡ Some (c, NoPages) → IsAmong c (Row note halves splits)
  among_at note [] splits c j met = absurd (cc)
  among_at note (h ∷ halves) [] c zero met =
      let both : (half_met at sp page note h 0, NoPages) ≡ (c, NoPages) = cc in
      inl (sym (ap (λ (x : MetPage × MetPages). x.0) both))
  among_at note (h ∷ halves) [] c (suc j) met = inr (inr (among_at note halves [] c j met))
  among_at note (h ∷ halves) (u ∷ splits) c zero met =
      let both : (half_met at sp page note h u, NoPages) ≡ (c, NoPages) = cc in
      inl (sym (ap (λ (x : MetPage × MetPages). x.0) both))
  among_at note (h ∷ halves) (u ∷ splits) c (suc j) met = inr (inr (among_at note halves splits c j met))

  -- each of them, by its index
  pub in_row : (note : Option KeptPage) (halves : List Half) (splits : List ℕ) (c : MetPage) → IsAmong c (Row note halves splits)
      → length splits ≡ length halves → (j : ℕ) × IsRowAt note halves splits j c NoPages
  in_row note [] splits c has same = absurd has
  in_row note (h ∷ halves) [] c has same = absurd (omega (arith, same))
  in_row note (h ∷ halves) (u ∷ splits) c (inl own) same =
      (0, record { half = h; split = u; at_half = refl; at_split = refl; is = own; end = refl })
  in_row note (h ∷ halves) (u ∷ splits) c (inr (inl none)) same = absurd none
  in_row note (h ∷ halves) (u ∷ splits) c (inr (inr more)) same =
      let rest = in_row note halves splits c more (omega (arith, same)) in (
        suc rest.0,
        record {
          half = rest.1.half;
          split = rest.1.split;
          at_half = rest.1.at_half;
          at_split = rest.1.at_split;
          is = rest.1.is;
          end = rest.1.end;
        },
      )

-- ---- all are halves of the chain

module _ (t at : ℕ) (sp : Span) (page : ℕ) (note : Option KeptPage) (halves : List Half) (splits : List ℕ) (a v : View)
    (holds : HoldsHalves t sp halves splits a v) where
  abbrev row : MetPages
  row = row_of at sp page note halves splits

  abbrev top : MetPage
  top = page_met at sp page t note

  -- a half before another one
  before_row : (j u : ℕ) → IsEarlier t halves j u → IsBefore t row j u
  before_row j u (inl first) = inl first
  before_row j u (inr x) =
      let found = at_row at sp page note halves splits x.0 x.1 holds.paired x.3 in
      inr (x.0, half_met at sp page note x.1 found.0, NoPages, x.2, found.2, ap (λ s. Some s) x.4)

  in_list : (hs : List Half) (j : ℕ) (h : Half) → slice_get hs j ≡ Some h → Contains hs h
  in_list [] j h here = absurd (cc)
  in_list (x ∷ hs) zero h here = subst (λ z. Contains (x ∷ hs) z) (let same : x ≡ h = cc in same) (in_head x hs)
  in_list (x ∷ hs) (suc j) h here = in_tail h x hs (in_list hs j h here)

  pub each_half : (j : ℕ) (c : MetPage) (under : MetPages) → met_at j row ≡ Some (c, under) → IsHalfMet t top row j c under
  each_half j c under met =
      let r = row_at at sp page note halves splits j c under holds.paired met in
      let inside = holds.inside r.half (in_list halves j r.half r.at_half) in record {
        end = r.end;
        at = ap (λ (z : MetPage). z.at) r.is;
        page = ap (λ (z : MetPage). z.page) r.is;
        kept = ap (λ (z : MetPage). z.kept) r.is;
        slot = r.half.slot;
        is = ap (λ (z : MetPage). z.slot) r.is;
        split = r.split;
        half = ap (λ (z : MetPage). z.half) r.is;
        of = before_row j r.split (holds.came j r.half r.split r.at_half r.at_split).0;
        storage = ap (λ (z : MetPage). z.span.storage) r.is;
        from = subst (λ (z : MetPage). sp.low ≤ z.span.low) (sym r.is) inside.0;
        to = subst (λ (z : MetPage). z.span.high ≤ sp.high) (sym r.is) inside.1;
      }

  -- each is told as one
  pub halves_met : (slots epoch : ℕ) (pages all : List (List ℕ)) → IsFront pages all → page ≤ length pages → AreMet slots epoch all row
  halves_met slots epoch pages all front there = by_list halves splits
    where
      one : (h : Half) (u : ℕ) → IsMet slots epoch all (half_met at sp page note h u) NoPages
      one h u = inr (
        h.slot,
        refl,
        (pages, front, there, inr (inr (inr (inr (inr record { end = refl; split = u; of = refl }))))),
      )

      by_list : (hs : List Half) (ss : List ℕ) → AreMet slots epoch all (row_of at sp page note hs ss)
      by_list [] ss = tt
      by_list (h ∷ hs) [] = (one h 0, (tt, by_list hs []))
      by_list (h ∷ hs) (u ∷ ss) = (one h u, (tt, by_list hs ss))

  -- ---- a page of the chain

  pub chain_page : (h : Half) → Contains (halves ++ first_page t sp ∷ []) h → IsChainPage (PageThen top row NoPages) h.slot (span_in sp h)
  chain_page h has = elim (push_cases halves h has) [
    | inl half ↦
        let x = index_of halves h half in
        let found = at_row at sp page note halves splits x.0 h holds.paired x.1 in record {
          page = half_met at sp page note h found.0;
          among = inr (inl (among_at at sp page note halves splits (half_met at sp page note h found.0) x.0 found.2));
          slot = refl;
          span = refl;
        }
    | inr first ↦ record {
      page = top;
      among = inl refl;
      slot = ap (λ (z : Half). Some z.slot) first;
      span = ap (λ (z : Half). span_in sp z) first;
    }
  ]
    where
      push_cases : (hs : List Half) (h : Half) → Contains (hs ++ first_page t sp ∷ []) h → Contains hs h ⊎ (first_page t sp ≡ h)
      push_cases [] h has = elim (in_cases h (first_page t sp) [] has) [ inl same ↦ inr same | inr none ↦ absurd (in_none h none) ]
      push_cases (x ∷ hs) h has = elim (in_cases h x (hs ++ first_page t sp ∷ []) has) [
        | inl same ↦ inl (subst (λ z. Contains (x ∷ hs) z) same (in_head x hs))
        | inr more ↦ elim (push_cases hs h more) [ inl old ↦ inl (in_tail h x hs old) | inr new ↦ inr new ]
      ]

      index_of : (hs : List Half) (h : Half) → Contains hs h → (i : ℕ) × (slice_get hs i ≡ Some h)
      index_of [] h has = absurd (in_none h has)
      index_of (g ∷ hs) h has = elim (in_cases h g hs has) [
        | inl same ↦ (0, ap (λ (z : Half). Some z) same)
        | inr more ↦ let x = index_of hs h more in (suc x.0, x.1)
      ]

  -- a leaf of it that wasn't split
  pub chain_leaf : (h : Half) → Contains (halves ++ first_page t sp ∷ []) h → IsHalfless splits h.slot
      → IsChainLeaf (PageThen top row NoPages) h.slot (span_in sp h)
  chain_leaf h has none = record {
    page = chain_page h has;
    whole = λ d among half. elim among [
      | inl first ↦ absurd (let no : top.half ≡ Some h.slot = ap (λ (z : MetPage). z.half) (sym first) ∙ half in cc)
      | inr rest ↦ elim rest [
        | inl more ↦
            let r = in_row at sp page note halves splits d more holds.paired in
            let same : Some r.1.split ≡ Some h.slot = sym (ap (λ (z : MetPage). z.half) r.1.is) ∙ half in
            none r.0 r.1.split r.1.at_split (let one : r.1.split ≡ h.slot = cc in one)
        | inr never ↦ absurd never
      ]
    ];
  }
