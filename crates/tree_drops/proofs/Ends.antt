-- A page of a tree that was gone over, with all below it, is left: what the visit of its pointer comes to.
use Rattle.std.proofs.Common.{◌≡◌, ◌≢◌, ◌⊎◌, inl, inr, ℕ, ◌+◌, ◌^◌, ◌≤◌, Bool, true, false, true≢false, cond, eqb, eqb-true}
use Rattle.std.proofs.Common.{List, [], ◌∷◌, ◌++◌, Some, refl, sym, ap, ◌∙◌, subst, arith}
use Rattle.std.proofs.lemmas.List.{append-nil, append_assoc, reverse-append}
use Rattle.std.proofs.lemmas.List.Elements.{Contains-append_cases, Contains-append_left, Contains-append_right}
use Rattle.std.specs.Prelude.{◌||◌, not, reverse}
use Rattle.std.specs.List.{Contains, filter}
use Rattle.lists.specs.Elements.{in_cases, in_head, in_none, in_tail}
use Rattle.lists.specs.Fronts.{IsFront, front_refl, front_then}
use Rattle.homes.specs.declared.places.At.{At}
use Rattle.homes.specs.declared.places.Span.{Span}
use Rattle.drop_core.specs.declared.grip.Grip.{Grip}
use Rattle.drop_core.specs.Event.{without}
use Rattle.drop_core.specs.Table.{has_slot}
use Rattle.engine_pages.specs.declared.layout.Layout.{Layout}
use Rattle.engine_pages.specs.declared.view.Inner.{Inner}
use Rattle.engine_pages.specs.declared.view.KeptPage.{KeptPage}
use Rattle.engine_pages.specs.declared.view.Lead.{Lead}
use Rattle.engine_pages.specs.declared.view.View.{View}
use Rattle.engine_pages.specs.Slots.{left, other_shuts, other_ways}
use Rattle.page_drops.specs.declared.calls.Dropped.{Dropped}
use Rattle.page_drops.specs.declared.visits.Held.{Held}
use Rattle.page_drops.specs.Calls.{GoesIn, HasIn, IsElsewhere, slots_on}
use Rattle.page_drops.specs.Visits.{dropped_here, note_here, swing_here}
use Rattle.page_drops.specs.Works.{read_of, IsOutside, SawMore}
use Rattle.page_drops.proofs.Holds.{as_held, ways_first, without_first}
use Rattle.page_drops.proofs.Sights.{saw_same, saw_then}
use Rattle.tree_drops.specs.Turns.{page_met, HasEnded}
use Rattle.tree_drops.specs.Visits.{AreMet, CanVisit, GoesOver, HasTallied, HasVisited, IsCapped, KeepsInners, MetPages}
use Rattle.tree_drops.specs.Visits.{WasPage, dropped_in, notes_in, slots_in, swings_in}
use Rattle.tree_drops.proofs.Overs.{as_went, held_over, layout_over, over_then}

-- ---- but for the slots that are held

-- the pass went over pages, and holds other slots
pub record GoesOut (v w : View) : Type 0 where
  pub went : as_held v w ≡ as_went v w
  pub later : v.steps ≤ w.steps
  pub front : IsFront v.pages w.pages
  pub leads : (z : Lead) → Contains v.leads z → Contains w.leads z
  pub more : SawMore v w

pub out_then : (u v w : View) → GoesOut u v → GoesOut v w → GoesOut u w
out_then u v w a b =
    let one = a.later in
    let two = b.later in record {
      went = ap (λ (z : View). as_held u z) b.went ∙ ap (λ (z : View). as_went z w) a.went;
      later = omega (arith, one, two);
      front = front_then u.pages v.pages w.pages a.front b.front;
      leads = λ z has. b.leads z (a.leads z has);
      more = saw_then u v w a.more b.more;
    }

pub out_over : (v w : View) → GoesOver v w → GoesOut v w
out_over v w h = record {
  went = ap (λ (z : View). as_held v z) h.went;
  later = h.later;
  front = h.front;
  leads = h.leads;
  more = h.more;
}

-- what page_drops tells of it
pub out_in : (v w : View) → GoesIn v w → GoesOut v w
out_in v w h = record {
  went = ap (λ (z : View). let y : View = record z { versions = w.versions } in y) h.went;
  later = h.later;
  front = h.front;
  leads = h.leads;
  more = h.more;
}

-- where no pointer is shut
pub out_left : (t : ℕ) (v w : View) → v.shuts ≡ [] → w ≡ left t v → GoesOut v w
out_left t v w none is =
    subst (λ (z : View). GoesOut v z) (sym is) record {
      went = ap (λ list. let z : View = record (as_held v (left t v)) { shuts = list } in z)
          (ap (λ list. other_shuts t list) none ∙ sym none);
      later = omega arith;
      front = front_refl v.pages;
      leads = λ z has. has;
      more = saw_same v (left t v) refl refl refl;
    }

-- where the same slots are held
pub over_out : (v w : View) → GoesOut v w → w.grip ≡ v.grip → w.ways ≡ v.ways → GoesOver v w
over_out v w h grip ways = record {
  went = ap (λ (g : Grip). let z : View = record w { grip = g } in z) grip
      ∙ (ap (λ ws. let z : View = record w { grip = v.grip; ways = ws } in z) ways ∙ h.went);
  later = h.later;
  front = h.front;
  leads = h.leads;
  more = h.more;
}

-- ---- counts

pub capped_then : (a b c d e : ℕ) → IsCapped (a + d) b → IsCapped (b + e) c → IsCapped (a + (d + e)) c
capped_then a b c d e (inl one) (inl two) = inl (omega (arith, one.0, one.1, two.0, two.1), omega (arith, one.0, one.1, two.0, two.1))
capped_then a b c d e (inl one) (inr two) = inr (omega (arith, one.0, one.1, two.0, two.1), two.1)
capped_then a b c d e (inr one) (inl two) = inr (omega (arith, one.0, one.1, two.0, two.1), omega (arith, one.0, one.1, two.0, two.1))
capped_then a b c d e (inr one) (inr two) = inr (omega (arith, one.0, one.1, two.0, two.1), two.1)

pub capped_few : (n c : ℕ) → IsCapped n c → c ≤ 2 ^ 31
capped_few n c (inl one) = omega (arith, one.0, one.1)
capped_few n c (inr one) = omega (arith, one.0, one.1)

-- ---- the row below a leaf, and below others

-- a number of the counts that is the same
pub tallied_as : (old new : Dropped) (d e : ℕ) (xs ys : List KeptPage) → d ≡ e → xs ≡ ys → HasTallied old d xs new → HasTallied old e ys new
tallied_as old new d e xs ys one two h =
    subst (λ n. HasTallied old n ys new) one (subst (λ l. HasTallied old d l new) two h)

-- ---- it is left

pub or_false : (b c : Bool) → (b || c) ≡ false → c ≡ false
or_false true c is = absurd (true≢false is)
or_false false c is = is

pub or_true : (b c : Bool) → c ≡ true → (b || c) ≡ true
or_true true c is = refl
or_true false c is = is

-- what is known of the interior pages in other slots stays
pub filter_in : (t : ℕ) (xs : List Inner) (x : Inner) → (x.slot ≡ t → ⊥) → Contains xs x → Contains (filter (λ y. not (eqb y.slot t)) xs) x
filter_in t [] x other has = absurd (in_none x has)
filter_in t (y ∷ xs) x other has = by_test (eqb y.slot t) refl (in_cases x y xs has) (λ more. filter_in t xs x other more)
  where
    by_test : (b : Bool) → eqb y.slot t ≡ b → (y ≡ x) ⊎ Contains xs x
        → (Contains xs x → Contains (filter (λ z. not (eqb z.slot t)) xs) x)
        → Contains (cond (not b) (y ∷ filter (λ z. not (eqb z.slot t)) xs) (filter (λ z. not (eqb z.slot t)) xs)) x
    by_test true e (inl same) rest =
        absurd (other (ap (λ (z : Inner). z.slot) (sym same) ∙ eqb-true y.slot t e))
    by_test true e (inr more) rest = rest more
    by_test false e (inl same) rest =
        subst (λ z. Contains (y ∷ filter (λ z. not (eqb z.slot t)) xs) z) same
        (in_head y (filter (λ z. not (eqb z.slot t)) xs))
    by_test false e (inr more) rest = in_tail x y (filter (λ z. not (eqb z.slot t)) xs) (rest more)

module _ (x : At) (sp : Span) (at page epoch : ℕ) (held : Held) (old new : Dropped) (v a w : View) (can : CanVisit x sp at page epoch v)
    (inside : HasIn sp at page held v a) (inn : KeepsInners v a) (h : HasEnded sp at page epoch held.slot old a new w) where
  abbrev t : ℕ
  t = held.slot

  abbrev under : MetPages
  under = h.below

  abbrev all : GoesOver a h.mid
  all = over_then a h.over h.mid h.row.over h.done.over

  layout_a : a.layout ≡ v.layout
  layout_a = ap (λ (z : View). z.layout) inside.over.went

  mid_grip : h.mid.grip ≡ record v.grip { holds = t ∷ v.grip.holds }
  mid_grip = ap (λ (z : View). z.grip) all.went ∙ inside.grip

  mid_ways : h.mid.ways ≡ record { slot = t; span = sp } ∷ v.ways
  mid_ways = ap (λ (z : View). z.ways) all.went ∙ inside.ways

  no_shut : h.mid.shuts ≡ []
  no_shut = ap (λ (z : View). z.shuts) all.went ∙ (ap (λ (z : View). z.shuts) inside.over.went ∙ can.bare.shuts)

  off_way : has_slot (slots_on v.ways) t ≡ false
  off_way = sym (ap (λ (l : List ℕ). has_slot l t) can.bare.holds) ∙ inside.fresh

  over : GoesOver v w
  over =
      over_out v w
      (out_then v a w (out_in v a inside.over)
      (out_then a h.mid w (out_over a h.mid all) (out_left t h.mid w no_shut h.leaves)))
      (ap (λ (z : View). z.grip) h.leaves
      ∙ (ap (λ (g : Grip). let z : Grip = record g { holds = without g.holds t } in z) mid_grip
      ∙ ap (λ hs. let z : Grip = record v.grip { holds = hs } in z) (without_first v.grip.holds t inside.fresh)))
      (ap (λ (z : View). z.ways) h.leaves ∙ (ap (λ ws. other_ways t ws) mid_ways ∙ ways_first v.ways t sp off_way))

  -- the slots below weren't held
  fresh_below : (u : ℕ) → Contains (slots_in under) u → has_slot v.grip.holds u ≡ false
  fresh_below u has =
      or_false (eqb t u) (has_slot v.grip.holds u)
      (sym (ap (λ (g : Grip). has_slot g.holds u) inside.grip) ∙ h.row.fresh u has)

  fresh_all : (u : ℕ) → Contains ((slots_in under ++ t ∷ []) ++ []) u → has_slot v.grip.holds u ≡ false
  fresh_all u has =
      elim (Contains-append_cases (slots_in under) (t ∷ []) u
      (subst (λ l. Contains l u) (append-nil (slots_in under ++ t ∷ [])) has)) [
        | inl low ↦ fresh_below u low
        | inr own ↦ elim (in_cases u t [] own) [
          | inl same ↦ subst (λ y. has_slot v.grip.holds y ≡ false) same inside.fresh
          | inr none ↦ absurd (in_none u none)
        ]
      ]

  others_all : (word : ℕ) → (word ≡ at → ⊥) → IsElsewhere v.layout.slots ((slots_in under ++ t ∷ []) ++ []) word
      → read_of w.reads word ≡ read_of v.reads word
  others_all word other out =
      let apart : (u : ℕ) → Contains (slots_in under ++ t ∷ []) u → IsOutside v.layout.slots u word =
      λ u has. out u (subst (λ l. Contains l u) (sym (append-nil (slots_in under ++ t ∷ []))) has) in
      let own : IsOutside v.layout.slots t word = apart t (Contains-append_right (slots_in under) (t ∷ []) t (in_head t [])) in
      let away : (l m : Layout) (u : ℕ) → l ≡ m → IsOutside m.slots u word → IsOutside l.slots u word =
      λ l m u is far. subst (λ (y : Layout). IsOutside y.slots u word) (sym is) far in
      ap (λ (z : View). read_of z.reads word) h.leaves
      ∙ (h.done.others word other (away h.over.layout v.layout t (layout_over a h.over h.row.over ∙ layout_a) own)
      ∙ (h.row.others word
      (λ u has. elim (in_cases u t (slots_in under) has) [
        | inl same ↦ subst (λ y. IsOutside a.layout.slots y word) same (away a.layout v.layout t layout_a own)
        | inr low ↦ away a.layout v.layout u layout_a (apart u (Contains-append_left (slots_in under) (t ∷ []) u low))
      ])
      ∙ inside.others word other))

  known_all : KeepsInners v w
  known_all y has own =
      let one : Contains a.inners y = inn y has own in
      let kept : has_slot a.grip.holds y.slot ≡ true =
      ap (λ (g : Grip). has_slot g.holds y.slot) inside.grip ∙ or_true (eqb t y.slot) (has_slot v.grip.holds y.slot) own in
      let two : Contains h.over.inners y = h.row.known y one kept in
      let three : Contains h.mid.inners y = h.done.known y two (held_over y.slot true a h.over h.row.over kept) in
      subst (λ (z : View). Contains z.inners y) (sym h.leaves)
      (filter_in t h.mid.inners y
      (λ same. true≢false (sym own ∙ (ap (λ s. has_slot v.grip.holds s) same ∙ inside.fresh))) three)

  pub visited_ended : HasVisited sp at page epoch old v new w
  visited_ended =
      let slots : a.layout.slots ≡ w.layout.slots =
      ap (λ (l : Layout). l.slots) (layout_a ∙ sym (layout_over v w over)) in record {
        here = page_met at sp page t h.note;
        below = under;
        place = refl;
        span = refl;
        number = refl;
        whole = refl;
        noted = record {
          read = h.done.sight.0;
          is = ap (λ (z : View). read_of z.reads at) h.leaves ∙ h.done.sight.1;
          sight = h.done.sight.2;
        };
        met = inr (
          t,
          refl,
          (
            h.pages,
            h.front,
            h.there,
            subst (λ n. WasPage n t epoch h.pages (page_met at sp page t h.note) under) slots h.was,
          ),
        );
        under = subst (λ n. AreMet n epoch w.pages under) slots h.under;
        notes = h.notes;
        over = over;
        kept = ap (λ (z : View). z.kept) h.leaves
            ∙ (h.done.kept
            ∙ (ap (λ l. l ++ note_here h.note) (h.row.kept ∙ ap (λ l. l ++ notes_in under) inside.kept)
            ∙ (append_assoc v.kept (notes_in under) (note_here h.note)
            ∙ ap (λ l. v.kept ++ l) (sym (append-nil (notes_in under ++ note_here h.note))))));
        gone = ap (λ (z : View). z.gone) h.leaves
            ∙ (ap (λ l. t ∷ l) (h.done.gone ∙ (h.row.gone ∙ ap (λ l. reverse (slots_in under) ++ l) inside.gone))
            ∙ ap (λ l. l ++ v.gone)
            (sym (reverse-append (slots_in under) (t ∷ [])) ∙ ap (λ l. reverse l) (sym (append-nil (slots_in under ++ t ∷ [])))));
        swung = ap (λ (z : View). z.swung) h.leaves
            ∙ (h.done.swung
            ∙ (ap (λ l. l ++ swing_here at (Some t) h.note) (h.row.swung ∙ ap (λ l. l ++ swings_in under) inside.swung)
            ∙ (append_assoc v.swung (swings_in under) (swing_here at (Some t) h.note)
            ∙ ap (λ l. v.swung ++ l) (sym (append-nil (swings_in under ++ swing_here at (Some t) h.note))))));
        fresh = fresh_all;
        counts = tallied_as old new (dropped_in under + dropped_here (Some t) h.note)
            ((dropped_in under + dropped_here (Some t) h.note) + 0) (notes_in under ++ note_here h.note)
            ((notes_in under ++ note_here h.note) ++ []) (omega arith) (sym (append-nil (notes_in under ++ note_here h.note))) h.counts;
        others = others_all;
        known = known_all;
      }
