-- A chain was gone over, and its slots are left: what the visit of its pointer comes to.
use Rattle.std.proofs.Common.{◌≡◌, ◌≢◌, inl, inr, ℕ, ◌+◌, true, false, true≢false, eqb}
use Rattle.std.proofs.Common.{List, [], ◌∷◌, ◌++◌, Some, refl, sym, ap, ◌∙◌, subst, arith}
use Rattle.std.proofs.lemmas.List.{append-nil, reverse-append}
use Rattle.std.proofs.lemmas.List.Elements.{Contains-append_cases, Contains-append_left, Contains-append_right}
use Rattle.std.specs.Prelude.{reverse}
use Rattle.std.specs.List.{Contains}
use Rattle.lists.specs.Elements.{in_cases, in_head, in_none}
use Rattle.homes.specs.declared.places.At.{At}
use Rattle.homes.specs.declared.places.Span.{Span}
use Rattle.drop_core.specs.declared.grip.Grip.{Grip}
use Rattle.drop_core.specs.Event.{without}
use Rattle.drop_core.specs.Table.{has_slot}
use Rattle.engine_pages.specs.declared.layout.Layout.{Layout}
use Rattle.engine_pages.specs.declared.view.View.{View}
use Rattle.engine_pages.specs.Slots.{other_ways}
use Rattle.page_drops.specs.declared.calls.Dropped.{Dropped}
use Rattle.page_drops.specs.declared.visits.Held.{Held}
use Rattle.page_drops.specs.Calls.{HasIn, IsElsewhere, slots_on}
use Rattle.page_drops.specs.Visits.{dropped_here, note_here, swing_here}
use Rattle.page_drops.specs.Works.{read_of, IsOutside}
use Rattle.page_drops.proofs.Holds.{ways_first, without_first}
use Rattle.tree_drops.specs.Turns.{page_met, HasEndedChain}
use Rattle.tree_drops.specs.Visits.{AreMet, CanVisit, GoesOver, HasVisited, KeepsInners, MetPages}
use Rattle.tree_drops.specs.Visits.{WasPage, dropped_in, notes_in, slots_in, swings_in}
use Rattle.tree_drops.proofs.Overs.{layout_over}
use Rattle.tree_drops.proofs.Ends.{out_in, out_left, out_over, out_then, over_out, or_false, or_true, filter_in, tallied_as}

module _ (x : At) (sp : Span) (at page epoch : ℕ) (held : Held) (old new : Dropped) (v a w : View) (can : CanVisit x sp at page epoch v)
    (inside : HasIn sp at page held v a) (inn : KeepsInners v a) (h : HasEndedChain sp at page epoch held.slot old a new w) where
  abbrev t : ℕ
  t = held.slot

  abbrev under : MetPages
  under = h.below

  abbrev all : GoesOver a h.mid
  all = h.over

  layout_a : a.layout ≡ v.layout
  layout_a = ap (λ (z : View). z.layout) inside.over.went

  mid_grip : h.mid.grip ≡ record v.grip { holds = t ∷ v.grip.holds }
  mid_grip = ap (λ (z : View). z.grip) all.went ∙ inside.grip

  mid_ways : h.mid.ways ≡ record { slot = t; span = sp } ∷ v.ways
  mid_ways = ap (λ (z : View). z.ways) all.went ∙ inside.ways

  no_shut : h.mid.shuts ≡ []
  no_shut = ap (λ (z : View). z.shuts) all.went ∙ (ap (λ (z : View). z.shuts) inside.over.went ∙ can.bare.shuts)

  off_way : has_slot (slots_on v.ways) t ≡ false
  off_way = sym (ap (λ (l : List ℕ). has_slot l t) can.bare.holds) ∙ inside.fresh

  over : GoesOver v w
  over =
      over_out v w
      (out_then v a w (out_in v a inside.over)
      (out_then a h.mid w (out_over a h.mid all) (out_left t h.mid w no_shut h.leaves)))
      (ap (λ (z : View). z.grip) h.leaves
      ∙ (ap (λ (g : Grip). let z : Grip = record g { holds = without g.holds t } in z) mid_grip
      ∙ ap (λ hs. let z : Grip = record v.grip { holds = hs } in z) (without_first v.grip.holds t inside.fresh)))
      (ap (λ (z : View). z.ways) h.leaves ∙ (ap (λ ws. other_ways t ws) mid_ways ∙ ways_first v.ways t sp off_way))

  -- the slots below weren't held
  fresh_below : (u : ℕ) → Contains (slots_in under) u → has_slot v.grip.holds u ≡ false
  fresh_below u has =
      or_false (eqb t u) (has_slot v.grip.holds u)
      (sym (ap (λ (g : Grip). has_slot g.holds u) inside.grip) ∙ h.fresh u has)

  fresh_all : (u : ℕ) → Contains ((slots_in under ++ t ∷ []) ++ []) u → has_slot v.grip.holds u ≡ false
  fresh_all u has =
      elim (Contains-append_cases (slots_in under) (t ∷ []) u
      (subst (λ l. Contains l u) (append-nil (slots_in under ++ t ∷ [])) has)) [
        | inl low ↦ fresh_below u low
        | inr own ↦ elim (in_cases u t [] own) [
          | inl same ↦ subst (λ y. has_slot v.grip.holds y ≡ false) same inside.fresh
          | inr none ↦ absurd (in_none u none)
        ]
      ]

  others_all : (word : ℕ) → (word ≡ at → ⊥) → IsElsewhere v.layout.slots ((slots_in under ++ t ∷ []) ++ []) word
      → read_of w.reads word ≡ read_of v.reads word
  others_all word other out =
      let apart : (u : ℕ) → Contains (slots_in under ++ t ∷ []) u → IsOutside v.layout.slots u word =
      λ u has. out u (subst (λ l. Contains l u) (sym (append-nil (slots_in under ++ t ∷ []))) has) in
      let own : IsOutside v.layout.slots t word = apart t (Contains-append_right (slots_in under) (t ∷ []) t (in_head t [])) in
      let away : (l m : Layout) (u : ℕ) → l ≡ m → IsOutside m.slots u word → IsOutside l.slots u word =
      λ l m u is far. subst (λ (y : Layout). IsOutside y.slots u word) (sym is) far in
      ap (λ (z : View). read_of z.reads word) h.leaves
      ∙ (h.others word other
      (λ u has. elim (in_cases u t (slots_in under) has) [
        | inl same ↦ subst (λ y. IsOutside a.layout.slots y word) same (away a.layout v.layout t layout_a own)
        | inr low ↦ away a.layout v.layout u layout_a (apart u (Contains-append_left (slots_in under) (t ∷ []) u low))
      ])
      ∙ inside.others word other)

  known_all : KeepsInners v w
  known_all y has own =
      let one : Contains a.inners y = inn y has own in
      let kept : has_slot a.grip.holds y.slot ≡ true =
      ap (λ (g : Grip). has_slot g.holds y.slot) inside.grip ∙ or_true (eqb t y.slot) (has_slot v.grip.holds y.slot) own in
      let three : Contains h.mid.inners y = h.known y one kept in
      subst (λ (z : View). Contains z.inners y) (sym h.leaves)
      (filter_in t h.mid.inners y
      (λ same. true≢false (sym own ∙ (ap (λ s. has_slot v.grip.holds s) same ∙ inside.fresh))) three)

  pub visited_chain : HasVisited sp at page epoch old v new w
  visited_chain =
      let slots : a.layout.slots ≡ w.layout.slots =
      ap (λ (l : Layout). l.slots) (layout_a ∙ sym (layout_over v w over)) in record {
        here = page_met at sp page t h.note;
        below = under;
        place = refl;
        span = refl;
        number = refl;
        whole = refl;
        noted = record {
          read = h.sight.0;
          is = ap (λ (z : View). read_of z.reads at) h.leaves ∙ h.sight.1;
          sight = h.sight.2;
        };
        met = inr (
          t,
          refl,
          (
            h.pages,
            h.front,
            h.there,
            subst (λ n. WasPage n t epoch h.pages (page_met at sp page t h.note) under) slots h.was,
          ),
        );
        under = subst (λ n. AreMet n epoch w.pages under) slots h.under;
        notes = h.notes;
        over = over;
        kept = ap (λ (z : View). z.kept) h.leaves
            ∙ (h.kept
            ∙ (ap (λ l. l ++ (notes_in under ++ note_here h.note)) inside.kept
            ∙ ap (λ l. v.kept ++ l) (sym (append-nil (notes_in under ++ note_here h.note)))));
        gone = ap (λ (z : View). z.gone) h.leaves
            ∙ (ap (λ l. t ∷ l) (h.gone ∙ ap (λ l. reverse (slots_in under) ++ l) inside.gone)
            ∙ ap (λ l. l ++ v.gone)
            (sym (reverse-append (slots_in under) (t ∷ [])) ∙ ap (λ l. reverse l) (sym (append-nil (slots_in under ++ t ∷ [])))));
        swung = ap (λ (z : View). z.swung) h.leaves
            ∙ (h.swung
            ∙ (ap (λ l. l ++ (swings_in under ++ swing_here at (Some t) h.note)) inside.swung
            ∙ ap (λ l. v.swung ++ l) (sym (append-nil (swings_in under ++ swing_here at (Some t) h.note)))));
        fresh = fresh_all;
        counts = tallied_as old new (dropped_in under + dropped_here (Some t) h.note)
            ((dropped_in under + dropped_here (Some t) h.note) + 0) (notes_in under ++ note_here h.note)
            ((notes_in under ++ note_here h.note) ++ []) (omega arith) (sym (append-nil (notes_in under ++ note_here h.note))) h.counts;
        others = others_all;
        known = known_all;
      }
