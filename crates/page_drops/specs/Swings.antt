-- As many pages are counted as dropped as pointers were swung away from slots.
use Rattle.std.specs.Prelude.{◌≡◌, ℕ, ◌+◌, List, [], ◌∷◌, ◌++◌, length, Option, Some, None, ⊤}
use Rattle.std.proofs.Common.{ap, sym, ◌∙◌, arith, length-append}
use Rattle.std.specs.List.{flat_map}
use Rattle.engine_pages.specs.declared.view.KeptPage.{KeptPage}
use Rattle.engine_pages.specs.declared.view.Swung.{Swung}
use Rattle.engine_pages.specs.declared.view.View.{View}
use Rattle.page_drops.specs.declared.calls.Dropped.{Dropped}
use Rattle.page_drops.specs.Calls.{dropped_all, swings_all, HasGoneOver}
use Rattle.page_drops.specs.Visits.{Met, MetLeaf, MetMiddle, MetRoot, MetTop, OneHeight, TwoHeights, ThreeHeights, LeftAlone}
use Rattle.page_drops.specs.Visits.{dropped_here, dropped_leaf, dropped_middle, dropped_of, dropped_root, dropped_top}
use Rattle.page_drops.specs.Visits.{sum_met, swing_here, swings_leaf, swings_middle, swings_of, swings_root, swings_top}

many_here : (at : ℕ) (slot : Option ℕ) (kept : Option KeptPage) → length (swing_here at slot kept) ≡ dropped_here slot kept
many_here at None kept = omega arith
many_here at (Some t) None = omega arith
many_here at (Some t) (Some k) = omega arith

many_below : {B : Type 0} → (f : B → ℕ) (q : B → List Swung) → ((x : B) → length (q x) ≡ f x) → (xs : List B)
    → length (flat_map q xs) ≡ sum_met f xs
many_below f q same [] = omega arith
many_below f q same (x ∷ xs) =
    let here = same x in
    let rest = many_below f q same xs in
    let long = length-append (q x) (flat_map q xs) in omega (arith, here, rest, long)

many_of : {B : Type 0} → (f : B → ℕ) (q : B → List Swung) → ((x : B) → length (q x) ≡ f x) → (m : Met B)
    → length (swings_of q m) ≡ dropped_of f m
many_of f q same m =
    let below = many_below f q same m.below in
    let here = many_here m.at m.slot m.kept in
    let long = length-append (flat_map q m.below) (swing_here m.at m.slot m.kept) in omega (arith, below, here, long)

many_leaf : (m : MetLeaf) → length (swings_leaf m) ≡ dropped_leaf m
many_leaf m = many_of (λ (x : ⊤). 0) (λ (x : ⊤). let none : List Swung = [] in none) (λ x. omega arith) m

many_middle : (m : MetMiddle) → length (swings_middle m) ≡ dropped_middle m
many_middle m = many_of dropped_leaf swings_leaf many_leaf m

many_top : (m : MetTop) → length (swings_top m) ≡ dropped_top m
many_top m = many_of dropped_middle swings_middle many_middle m

many_root : (m : MetRoot) → length (swings_root m) ≡ dropped_root m
many_root (OneHeight m) = many_leaf m
many_root (TwoHeights m) = many_middle m
many_root (ThreeHeights m) = many_top m
many_root LeftAlone = omega arith

many_all : (xs : List MetRoot) → length (swings_all xs) ≡ dropped_all xs
many_all [] = omega arith
many_all (x ∷ xs) =
    let here = many_root x in
    let rest = many_all xs in
    let long = length-append (swings_root x) (swings_all xs) in omega (arith, here, rest, long)

-- each page that a call counts as dropped was led to by a pointer that it swung away from the page's slot
pub swung_each : (roots : List ℕ) (n : ℕ) (tally : Dropped) (w : View) → HasGoneOver roots n tally w
    → length w.swung ≡ tally.dropped
swung_each roots n tally w h =
    let all = ap (λ (l : List Swung). length l) h.swung ∙ many_all h.met in
    let counts = (h.counts).dropped in omega (arith, all, counts)
