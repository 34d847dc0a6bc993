-- What it comes to that both halves of a leaf are made, or neither.
use Rattle.std.proofs.Common.{◌≡◌, ◌≢◌, ℕ, ◌+◌, ◌*◌, ◌++◌, ◌<◌, ◌≤◌, Bool, true, false, cond, eqb, length, take, drop, List, [], ◌∷◌, refl, sym, ap, ◌∙◌, subst, arith}
use Rattle.std.proofs.Common.{inl, inr, eq-eqb, length-append, true≢false}
use Rattle.std.specs.Prelude.{not, nat_le, nat_lt, ◌||◌}
use Rattle.std.specs.List.{Contains}
use Rattle.std.proofs.lemmas.Bool.{and_parts}
use Rattle.std.proofs.lemmas.Bool.Decides.{nat_tests}
use Rattle.std.proofs.lemmas.List.{length-drop}
use Rattle.lists.specs.Elements.{in_head}
use Rattle.lists.specs.Fronts.{front_refl}
use Rattle.homes.specs.declared.places.Span.{Span}
use Rattle.drop_core.specs.Event.{is_separator, without}
use Rattle.drop_core.specs.Table.{has_slot}
use Rattle.engine_pages.specs.declared.layout.Layout.{Layout}
use Rattle.engine_pages.specs.declared.view.Copied.{Copied}
use Rattle.engine_pages.specs.declared.view.NewInner.{NewInner}
use Rattle.engine_pages.specs.declared.view.NewLeaf.{NewLeaf}
use Rattle.engine_pages.specs.declared.view.RefusalCause.{RefusalCause}
use Rattle.engine_pages.specs.declared.view.RefusalCause.TheVariants as causes
use Rattle.engine_pages.specs.declared.view.View.{View}
use Rattle.engine_pages.specs.Slots.{other_copies, other_inners, other_leaves, retired, MayRetire}
use Rattle.engine_pages.specs.Steps.{glanced}
use Rattle.array_pages.specs.Steps.{RefusesGive}
use Rattle.foster_tree.specs.declared.entries.Entry.{Entry}
use Rattle.foster_tree.specs.Filling.{as_made, leaf_of, HasMadeLeaf}
use Rattle.foster_tree.specs.Splitting.{lower_of, upper_of, HasMadeHalves, HasMadeNoHalves}
use Rattle.foster_tree.specs.Splitting.{HasMadeNothing}

-- ---- no slot was given

-- the loads of a search for a slot leave all else
abbrev searched : View → View → View
searched v w = record v { steps = w.steps; last = w.last; looked = w.looked }

searched_formed : (v w z : View) → w ≡ searched v z → w ≡ searched v w
searched_formed v w z e = subst (λ (y : View). y ≡ searched v y) (sym e) refl

pub missed_searched : (why : RefusalCause) (v w : View) → RefusesGive why v w
    → (w ≡ searched v w) × (v.steps ≤ w.steps) × (w.steps ≤ v.steps + (v.layout.slots + 1))
missed_searched (causes.Conflict at expected seen) v w h =
    let before = h.first.seen in
    let steps : w.steps ≡ (h.seen).steps + 1 = ap (λ (z : View). z.steps) h.only in
    let more = before.steps in
    let few = h.first.there in
    let many : length (h.first.before ++ expected ∷ []) ≡ h.slot + 1 =
    length-append h.first.before (expected ∷ []) ∙ ap (λ (n : ℕ). n + 1) h.first.count in (
      searched_formed v w (glanced at seen h.seen) (h.only ∙ ap (glanced at seen) before.only),
      omega (arith, steps, more),
      omega (arith, steps, more, few, many),
    )
missed_searched (causes.Full held) v w h =
    let more = h.seen.steps in
    let many = h.count in (h.seen.only, omega (arith, more), omega (arith, more, many))
missed_searched (causes.Wide set) v w h = absurd h
missed_searched (causes.NumberLimit clock) v w h = absurd h

-- the first half wasn't made
pub no_first : (why : RefusalCause) (v w : View) → RefusesGive why v w → HasMadeNoHalves why v w
no_first why v w h =
    let s = missed_searched why v w h in record {
      gave = record {
        before = v;
        behind = w;
        since = omega arith;
        layout = refl;
        missed = h;
        last = refl;
        looked = refl;
      };
      since = s.1;
      most = let few = s.2 in omega (arith, few);
      is = s.0;
    }

-- ---- the first half is made

-- what may be given up
pub may_retire : (t : ℕ) (sp : Span) (entries : List Entry) (why : RefusalCause) (v a b : View)
    → HasMadeLeaf t sp entries v a → RefusesGive why a b → MayRetire b t
may_retire t sp entries why v a b made missed =
    inr (inr (inr (inl (
      leaf_of t sp entries,
      subst (λ (l : List NewLeaf). Contains l (leaf_of t sp entries))
          (sym (ap (λ (z : View). z.new_leaves) (missed_searched why a b missed).0 ∙ ap (λ (z : View). z.new_leaves) made.is))
          (in_head (leaf_of t sp entries) v.new_leaves),
      refl,
    ))))

-- the view with these lists of what was made
abbrev made_lists : List ℕ → List ℕ → List Copied → List ℕ → List NewLeaf → List NewInner → View → View → View
made_lists made taken copies blanks leaves inners v w = record v {
  steps = w.steps;
  last = w.last;
  looked = w.looked;
  grip = record v.grip { made = made; taken = taken };
  copies = copies;
  blanks = blanks;
  new_leaves = leaves;
  new_inners = inners;
}

-- it is given up
pub no_second : (t : ℕ) (sp : Span) (entries : List Entry) (why : RefusalCause) (v a b c : View) → HasMadeNothing v
    → length entries ≤ 16 → HasMadeLeaf t sp entries v a → RefusesGive why a b → c ≡ retired t b
    → HasMadeNoHalves why v c
no_second t sp entries why v a b c none few made missed gone =
    let s = missed_searched why a b missed in
    let first : c ≡ retired t (searched (as_made t sp entries v a) b) =
    gone ∙ ap (retired t) (s.0 ∙ ap (λ (z : View). searched z b) made.is) in
    let two : c ≡ made_lists (without (t ∷ []) t) (without [] t) (other_copies t []) (without [] t)
    (other_leaves t (leaf_of t sp entries ∷ [])) (other_inners t []) v (retired t b) =
    first
    ∙ (ap (λ (l : List ℕ). made_lists (without (t ∷ l) t) (without v.grip.taken t) (other_copies t v.copies)
    (without v.blanks t) (other_leaves t (leaf_of t sp entries ∷ v.new_leaves)) (other_inners t v.new_inners) v (retired t b))
    none.made
    ∙ (ap (λ (l : List ℕ). made_lists (without (t ∷ []) t) (without l t) (other_copies t v.copies) (without v.blanks t)
    (other_leaves t (leaf_of t sp entries ∷ v.new_leaves)) (other_inners t v.new_inners) v (retired t b)) none.taken
    ∙ (ap (λ (l : List Copied). made_lists (without (t ∷ []) t) (without [] t) (other_copies t l) (without v.blanks t)
    (other_leaves t (leaf_of t sp entries ∷ v.new_leaves)) (other_inners t v.new_inners) v (retired t b)) none.copies
    ∙ (ap (λ (l : List ℕ). made_lists (without (t ∷ []) t) (without [] t) (other_copies t []) (without l t)
    (other_leaves t (leaf_of t sp entries ∷ v.new_leaves)) (other_inners t v.new_inners) v (retired t b)) none.blanks
    ∙ (ap (λ (l : List NewLeaf). made_lists (without (t ∷ []) t) (without [] t) (other_copies t []) (without [] t)
    (other_leaves t (leaf_of t sp entries ∷ l)) (other_inners t v.new_inners) v (retired t b)) none.leaves
    ∙ ap (λ (l : List NewInner). made_lists (without (t ∷ []) t) (without [] t) (other_copies t []) (without [] t)
    (other_leaves t (leaf_of t sp entries ∷ [])) (other_inners t l) v (retired t b)) none.inners))))) in
    let three : c ≡ made_lists [] [] [] [] [] [] v (retired t b) =
    two ∙ ap (λ (x : Bool). made_lists (cond (not x) (t ∷ []) []) [] [] [] (cond (not x) (leaf_of t sp entries ∷ []) []) [] v
    (retired t b)) (eq-eqb t t refl) in
    let four : c ≡ searched v (retired t b) =
    three
    ∙ (ap (λ (l : List ℕ). made_lists l [] [] [] [] [] v (retired t b)) (sym none.made)
    ∙ (ap (λ (l : List ℕ). made_lists v.grip.made l [] [] [] [] v (retired t b)) (sym none.taken)
    ∙ (ap (λ (l : List Copied). made_lists v.grip.made v.grip.taken l [] [] [] v (retired t b)) (sym none.copies)
    ∙ (ap (λ (l : List ℕ). made_lists v.grip.made v.grip.taken v.copies l [] [] v (retired t b)) (sym none.blanks)
    ∙ (ap (λ (l : List NewLeaf). made_lists v.grip.made v.grip.taken v.copies v.blanks l [] v (retired t b)) (sym none.leaves)
    ∙ ap (λ (l : List NewInner). made_lists v.grip.made v.grip.taken v.copies v.blanks v.new_leaves l v (retired t b))
    (sym none.inners)))))) in
    let steps : c.steps ≡ b.steps + 1 = ap (λ (z : View). z.steps) gone in
    let since = made.since in
    let more = s.1 in record {
      gave = record {
        before = a;
        behind = b;
        since = made.since;
        layout = ap (λ (z : View). z.layout) made.is;
        missed = missed;
        last = ap (λ (z : View). z.last) gone;
        looked = ap (λ (z : View). z.looked) gone;
      };
      since = omega (arith, steps, since, more);
      most =
          let one = made.most in
          let two : b.steps ≤ a.steps + (v.layout.slots + 1) =
          subst (λ (y : Layout). b.steps ≤ a.steps + (y.slots + 1)) (ap (λ (z : View). z.layout) made.is) s.2 in
          omega (arith, steps, one, two, few);
      is = searched_formed v c (retired t b) four;
    }

-- ---- both are made

-- the view with these slots and leaves
abbrev halved_at : List ℕ → List NewLeaf → View → View → View
halved_at made leaves v w = record v {
  steps = w.steps;
  last = w.last;
  looked = w.looked;
  grip = record v.grip { made = made };
  new_leaves = leaves;
}

or_false_left : (a b : Bool) → (a || b) ≡ false → a ≡ false
or_false_left true b e = e
or_false_left false b e = refl

pub made_both : (minor major : ℕ) (sp : Span) (sorted : List Entry) (v a b : View) → HasMadeNothing v
    → length (take 8 sorted) ≤ 16 → length (drop 8 sorted) ≤ 16 → HasMadeLeaf minor (lower_of minor sp sorted).span (take 8 sorted) v a
    → HasMadeLeaf major (upper_of major sp sorted).span (drop 8 sorted) a b
    → HasMadeHalves minor major sp sorted v b
made_both minor major sp sorted v a b none low high first next =
    let made : a.grip.made ≡ minor ∷ v.grip.made = ap (λ (z : View). z.grip.made) first.is in
    let unmade : has_slot (minor ∷ v.grip.made) major ≡ false =
    ap (λ (l : List ℕ). has_slot l major) (sym made) ∙ next.unmade in
    let both : b ≡ as_made major (upper_of major sp sorted).span (drop 8 sorted)
    (as_made minor (lower_of minor sp sorted).span (take 8 sorted) v a) b =
    next.is ∙ ap (λ (z : View). as_made major (upper_of major sp sorted).span (drop 8 sorted) z b) first.is in
    record {
      minor_there = first.there;
      major_there = subst (λ (y : Layout). major < y.slots) (ap (λ (z : View). z.layout) first.is) next.there;
      minor_unheld = first.unheld;
      major_unheld = ap (λ (l : List ℕ). has_slot l major) (sym (ap (λ (z : View). z.grip.holds) first.is)) ∙ next.unheld;
      apart = λ same.
          true≢false (sym (eq-eqb minor major same)
          ∙ or_false_left (eqb minor major) (has_slot v.grip.made major) unmade);
      since = let x = first.since in let y = next.since in omega (arith, x, y);
      most =
          let one = first.most in
          let two : b.steps ≤ a.steps + (v.layout.slots + (5 + 3 * length (drop 8 sorted))) =
          subst (λ (y : Layout). b.steps ≤ a.steps + (y.slots + (5 + 3 * length (drop 8 sorted))))
          (ap (λ (z : View). z.layout) first.is) next.most in
          omega (arith, one, two, low, high);
      is = both
          ∙ (ap (λ (l : List ℕ). halved_at (major ∷ minor ∷ l) (upper_of major sp sorted ∷ lower_of minor sp sorted ∷ v.new_leaves) v b) none.made
          ∙ ap (λ (l : List NewLeaf). halved_at (major ∷ minor ∷ []) (upper_of major sp sorted ∷ lower_of minor sp sorted ∷ l) v b) none.leaves);
    }

-- a separator isn't 0
pub some_separator : (sp : Span) (separator : ℕ) → is_separator sp separator ≡ true → 1 ≤ separator
some_separator sp separator is =
    let low = (and_parts (nat_lt sp.low separator) (nat_le separator sp.high) is).0 in
    let above : sp.low < separator = grind (arith, nat_tests) in omega (arith, above)

-- nine records are all behind the first eight
pub mid_is : (sorted : List Entry) → length sorted ≡ 17 → take 9 (drop 8 sorted) ≡ drop 8 sorted
mid_is sorted many =
    let left : length (drop 8 sorted) ≡ 9 = (let l = length-drop 8 sorted in omega (arith, l, many)) in
    ap (λ (n : ℕ). take n (drop 8 sorted)) (sym left) ∙ front_refl (drop 8 sorted)
