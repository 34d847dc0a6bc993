-- A chain was dropped or kept, and all its pages are left: what the visit of its pointer comes to.
use Rattle.std.proofs.Common.{◌≡◌, ◌≢◌, ◌⊎◌, inl, inr, ℕ, zero, suc, ◌+◌}
use Rattle.std.proofs.Common.{List, [], ◌∷◌, ◌++◌, length, Option, Some, refl, ap, ◌∙◌, subst, arith}
use Rattle.std.specs.List.{Contains, slice_get}
use Rattle.lists.specs.Elements.{in_head, in_tail}
use Rattle.homes.specs.declared.places.Span.{Span}
use Rattle.homes.specs.Laws.{in_span-from}
use Rattle.engine_pages.specs.declared.view.KeptPage.{KeptPage}
use Rattle.engine_pages.specs.declared.view.KeptWhy.{KeptWhy}
use Rattle.engine_pages.specs.declared.view.KeptWhy.TheVariants.{Changed}
use Rattle.engine_pages.specs.declared.view.View.{View}
use Rattle.chain_steps.specs.declared.halves.Half.{Half}
use Rattle.chain_steps.specs.Swings.{slots_of}
use Rattle.tree_drops.specs.declared.taking.Root.{Root}
use Rattle.tree_drops.specs.Chains.{pages_of, span_in}
use Rattle.tree_drops.specs.Releases.{HoldsHalves, IsWholeCause}
use Rattle.tree_drops.specs.Taking.{all_pages, keys_in, IsCoverCause, IsLeafOf}
use Rattle.tree_drops.specs.Turns.{page_met}
use Rattle.tree_drops.specs.Visits.{MetPages, NoPages, PageThen, IsChainCause, IsHeaderCause, IsPartedOut}
use Rattle.tree_drops.specs.Visits.{slots_in}
use Rattle.tree_drops.proofs.ChainRows.{row_of, chain_leaf, chain_page, slots_row}

-- ---- why it was kept

module _ (root : Root) (note : Option KeptPage) (halves : List Half) (splits : List ℕ) (a v b : View)
    (holds : HoldsHalves root.slot (keys_in root) halves splits a v) where
  abbrev t : ℕ
  t = root.slot

  abbrev sp : Span
  sp = keys_in root

  abbrev row : MetPages
  row = row_of (root.target).at sp (root.target).page note halves splits

  abbrev met : MetPages
  met = PageThen (page_met (root.target).at sp (root.target).page t note) row NoPages

  abbrev Cause : ℕ → KeptWhy → ℕ → ℕ → Type 0
  Cause slots why word seen = IsChainCause slots t sp b.pages (root.target).page (root.target).epoch met why word seen

  -- a word of a page
  page_cause : (slots : ℕ) (why : KeptWhy) (word seen : ℕ) (h : Half) → Contains (pages_of t sp halves) h
      → IsHeaderCause slots h.slot why word seen ⊎ IsPartedOut slots h.slot (span_in sp h) why word seen → Cause slots why word seen
  page_cause slots why word seen h has so =
      inr (inr (inr (inl (
        h.slot,
        span_in sp h,
        chain_page t (root.target).at sp (root.target).page note halves splits a v holds h has,
        so,
      ))))

  leaf_in : (headers : List ℕ) (h : Half) → IsLeafOf root halves headers h → Contains (all_pages root halves) h
  leaf_in headers h leaf = at_list (all_pages root halves) leaf.index h leaf.page.page
    where
      at_list : (hs : List Half) (j : ℕ) (g : Half) → slice_get hs j ≡ Some g → Contains hs g
      at_list [] j g at = absurd (cc)
      at_list (x ∷ hs) zero g at = subst (λ z. Contains (x ∷ hs) z) (let same : x ≡ g = cc in same) (in_head x hs)
      at_list (x ∷ hs) (suc j) g at = in_tail g x hs (at_list hs j g at)

  missing_met : (slots : ℕ) (why : KeptWhy) (word seen : ℕ) → IsCoverCause slots root b.pages sp (root.target).page why word
      → Cause slots why word seen
  missing_met slots why word seen c = elim c.cause [
    | inl bad ↦ inr (inr (inl record {
      unlike = bad.0;
      place = c.place;
      number = bad.1.number;
      some = bad.1.some;
      there = bad.1.there;
      shape = bad.1.shape;
    }))
    | inr lacks ↦ inr (inl record {
      place = c.place;
      key = lacks.0;
      unlike = lacks.1;
      inside = in_span-from sp lacks.0 lacks.2.storage lacks.2.from lacks.2.to;
      stored = lacks.2.found;
      below = lacks.2.stored;
    })
  ]

  pub cause_met : (slots : ℕ) (why : KeptWhy) (word seen : ℕ) → IsWholeCause slots root halves splits b why word seen
      → Cause slots why word seen ⊎ ((word ≡ (root.target).at) × (why ≡ Changed root.word) × (seen ≢ root.word))
  cause_met slots why word seen (inl held) = inl (page_cause slots why word seen held.0 held.1 held.2)
  cause_met slots why word seen (inr (inl long)) =
      let many = long.3 in
      let count : length (slots_in met) ≡ suc (length halves) = slots_long in
      inl (inl record { long = long.0; place = long.1; moved = long.2; many = omega (arith, many, count) })
    where
      push_long : (xs : List ℕ) → length ((xs ++ t ∷ []) ++ []) ≡ suc (length xs)
      push_long [] = refl
      push_long (x ∷ xs) = ap suc (push_long xs)

      slots_count : (hs : List Half) → length (slots_of hs) ≡ length hs
      slots_count [] = refl
      slots_count (h ∷ hs) = ap suc (slots_count hs)

      slots_long : length (slots_in met) ≡ suc (length halves)
      slots_long =
          push_long (slots_in row)
          ∙ ap suc (ap length (slots_row (root.target).at sp (root.target).page note halves splits) ∙ slots_count halves)
  cause_met slots why word seen (inr (inr some)) = elim some.2 [
    | inl header ↦ inl (page_cause slots why word seen header.0 header.1 (inl header.2))
    | inr rest ↦ elim rest [
      | inl record_kept ↦ inl (inr (inr (inr (inr (
        (record_kept.0).slot,
        span_in sp record_kept.0,
        chain_leaf t (root.target).at sp (root.target).page note halves splits a v holds record_kept.0
            (leaf_in some.0 record_kept.0 record_kept.1) (some.1 record_kept.0 record_kept.1),
        record_kept.2,
      )))))
      | inr last ↦ elim last [
        | inl cover ↦ inl (missing_met slots why word seen cover)
        | inr turned ↦ inr turned
      ]
    ]
  ]
