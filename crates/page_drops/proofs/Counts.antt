-- How counts of pages go together, and how far they come.
use Rattle.std.proofs.Common.{◌≡◌, ℕ, suc, ◌+◌, ◌*◌, ◌≤◌, List, [], ◌∷◌, ◌++◌, length, Option, Some, None, refl, sym, ap, inl, inr}
use Rattle.std.proofs.Common.{subst, arith, length-append}
use Rattle.std.proofs.Math.Nat.{mul-le-mul_left, mul-suc}
use Rattle.lists.specs.Elements.{at_below}
use Rattle.std.specs.List.{flat_map, slice_get}
use Rattle.engine_pages.specs.declared.view.KeptPage.{KeptPage}
use Rattle.engine_pages.specs.declared.view.View.{View}
use Rattle.page_drops.specs.declared.calls.Dropped.{Dropped}
use Rattle.page_drops.specs.declared.noting.Kept.{Kept}
use Rattle.page_drops.specs.Calls.{HasCounted, IsFirst, IsNoteOf}
use Rattle.page_drops.specs.Visits.{Met, MetLeaf, MetMiddle, MetRoot, MetTop, OneHeight, TwoHeights, ThreeHeights, LeftAlone}
use Rattle.page_drops.specs.Visits.{AreChildren, IsMiddleTree, IsRootTree, IsTopTree, dropped_here, dropped_leaf}
use Rattle.page_drops.specs.Visits.{dropped_middle, dropped_of, dropped_root, dropped_top, note_here, notes_leaf}
use Rattle.page_drops.specs.Visits.{notes_middle, notes_of, notes_root, notes_top, sum_met}

-- ---- one after another

pub first_then : (a b c : Option Kept) (xs ys : List KeptPage) → IsFirst a xs b → IsFirst b ys c → IsFirst a (xs ++ ys) c
first_then (Some k) b c xs ys f g = subst (λ (x : Option Kept). IsFirst x ys c) f g
first_then None b c [] ys f g = subst (λ (x : Option Kept). IsFirst x ys c) f g
first_then None b c (k ∷ more) ys f g = subst (λ (x : Option Kept). IsFirst x ys c) f g

pub first_none : (a : Option Kept) → IsFirst a [] a
first_none (Some k) = refl
first_none None = refl

pub counted_none : (a : Dropped) → HasCounted a 0 [] a
counted_none a = record { dropped = omega arith; kept = omega arith; first = first_none a.first }

pub counted_then : (a b c : Dropped) (d e : ℕ) (xs ys : List KeptPage) → HasCounted a d xs b → HasCounted b e ys c
    → HasCounted a (d + e) (xs ++ ys) c
counted_then a b c d e xs ys f g = record {
  dropped = let one = f.dropped in let two = g.dropped in omega (arith, one, two);
  kept = let one = f.kept in let two = g.kept in omega (arith, one, two, length-append xs ys);
  first = first_then a.first b.first c.first xs ys f.first g.first;
}

-- ---- one page more

-- the note says what was kept
pub note_says : (k : Kept) (note : KeptPage) → IsNoteOf k note
    → Some k ≡ Some (let x : Kept = record { word = note.word; seen = note.seen; why = note.why } in x)
note_says k note is =
    ap (λ (n : KeptPage). Some (let x : Kept = record { word = n.word; seen = n.seen; why = n.why } in x)) (sym is)

pub first_kept : (first : Option Kept) (k : Kept) (note : KeptPage) → first ≡ None → IsNoteOf k note
    → IsFirst first (note ∷ []) (Some k)
first_kept (Some x) k note none is = absurd (cc)
first_kept None k note none is = note_says k note is

pub first_stays : (first : Option Kept) (x : Kept) (notes : List KeptPage) → first ≡ Some x → IsFirst first notes first
first_stays (Some y) x notes is = refl
first_stays None x notes is = absurd (cc)

-- ---- how far they come

plus_few : (a b c d n p q : ℕ) → a + c ≤ n → b + d ≤ p → q ≡ p + n → (a + b) + (c + d) ≤ q
plus_few a b c d n p q one more all = omega (arith, one, more, all)

-- of things in a row, each of which comes to a few
pub sum_few : {B : Type 0} → (f : B → ℕ) (g : B → List KeptPage) (n : ℕ) (xs : List B)
    → ((i : ℕ) (x : B) → slice_get xs i ≡ Some x → f x + length (g x) ≤ n)
    → sum_met f xs + length (flat_map g xs) ≤ n * length xs
sum_few f g n [] few = let none : 0 ≤ n * 0 = omega arith in none
sum_few f g n (x ∷ xs) few =
    let rest = sum_few f g n xs (λ i y at. few (suc i) y at) in
    let here = few 0 x refl in
    let long = length-append (g x) (flat_map g xs) in
    let all = plus_few (f x) (sum_met f xs) (length (g x)) (length (flat_map g xs)) n (n * length xs) (n * suc (length xs))
    here rest (mul-suc n (length xs)) in
    subst (λ k. (f x + sum_met f xs) + k ≤ n * suc (length xs)) (sym long) all

here_few : (slot : Option ℕ) (kept : Option KeptPage) → dropped_here slot kept + length (note_here kept) ≤ 1
here_few None None = omega arith
here_few None (Some k) = omega arith
here_few (Some t) None = omega arith
here_few (Some t) (Some k) = omega arith

-- of a page with what is below it
pub page_few : {B : Type 0} → (f : B → ℕ) (g : B → List KeptPage) (n x : ℕ) (m : Met B) → length m.below ≤ x
    → ((i : ℕ) (c : B) → slice_get m.below i ≡ Some c → f c + length (g c) ≤ n)
    → dropped_of f m + length (notes_of g m) ≤ n * x + 1
page_few f g n x m few below =
    let sum = sum_few f g n m.below below in
    let most : n * length m.below ≤ n * x = mul-le-mul_left n few in
    let here = here_few m.slot m.kept in
    let long = length-append (flat_map g m.below) (note_here m.kept) in
    subst (λ k. (sum_met f m.below + dropped_here m.slot m.kept) + k ≤ n * x + 1) (sym long)
    (both_few (sum_met f m.below) (length (flat_map g m.below)) (dropped_here m.slot m.kept) (length (note_here m.kept))
    (n * length m.below) (n * x) sum most here)
  where
    both_few : (a b c d p q : ℕ) → a + b ≤ p → p ≤ q → c + d ≤ 1 → (a + c) + (b + d) ≤ q + 1
    both_few a b c d p q one most two = omega (arith, one, most, two)

pub leaf_few : (m : MetLeaf) → m.below ≡ [] → dropped_leaf m + length (notes_leaf m) ≤ 1
leaf_few m none =
    page_few (λ x. 0) (λ x. []) 0 0 m (let long : length m.below ≡ 0 = ap length none in omega (arith, long))
    (λ i c at. absurd (let long : length m.below ≡ 0 = ap length none in let less = at_below m.below i c at in omega (arith, long, less)))

few_below : {C : Type 0} → (w : View) (m : Met (Met C)) → AreChildren C w m → length m.below ≤ 64
few_below w m children = by_slot m.slot refl
  where
    by_slot : (o : Option ℕ) → m.slot ≡ o → length m.below ≤ 64
    by_slot None is = let none : length m.below ≡ 0 = ap length (children.end is) in omega (arith, none)
    by_slot (Some t) is = elim (children.all t is) [
      | inl all ↦ omega (arith, all)
      | inr away ↦ let none : length m.below ≡ 0 = ap length away.0 in omega (arith, none)
    ]

pub middle_few : (w : View) (m : MetMiddle) → IsMiddleTree w m → dropped_middle m + length (notes_middle m) ≤ 65
middle_few w m h =
    page_few dropped_leaf notes_leaf 1 64 m (few_below w m h.children) (λ i c at. leaf_few c (h.each i c at).below)

pub top_few : (w : View) (m : MetTop) → IsTopTree w m → dropped_top m + length (notes_top m) ≤ 4161
top_few w m h =
    page_few dropped_middle notes_middle 65 64 m (few_below w m h.children) (λ i c at. middle_few w c (h.each i c at))

pub root_few : (w : View) (roots : List ℕ) (r : ℕ) (m : MetRoot) → IsRootTree w roots r m
    → dropped_root m + length (notes_root m) ≤ 4161
root_few w roots r (OneHeight m) h = let few = leaf_few m (h.3).below in omega (arith, few)
root_few w roots r (TwoHeights m) h = let few = middle_few w m h.3 in omega (arith, few)
root_few w roots r (ThreeHeights m) h = top_few w m h.3
root_few w roots r LeftAlone h = omega arith
