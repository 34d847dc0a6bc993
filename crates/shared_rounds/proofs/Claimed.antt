-- The pages that the keeper knows stay the same, as those behind them are its own to fill.
use Rattle.std.proofs.Common.{◌≡◌, ◌∙◌, sym, ap, subst, inl, inr, ◌⊎◌, ℕ, ◌<◌, List, length, arith}
use Rattle.std.specs.List.{Contains}
use Rattle.std.proofs.lemmas.Bool.{cases_lt}
use Rattle.lists.specs.Fronts.{IsFront, front_length, front_refl, front_same}
use Rattle.engine_pages.specs.declared.layout.Layout.{Layout}
use Rattle.engine_pages.specs.declared.view.Filled.{Filled}
use Rattle.engine_pages.specs.declared.view.View.{View}
use Rattle.resident_pages.specs.Fills.{AreClaimed, HasLooked}
use Rattle.drop_core.specs.declared.grip.Grip.{Grip}
use Rattle.shared_rounds.specs.Ended.{OwnsBehind}
use Rattle.shared_rounds.specs.SharedState.{HoldsNothing}

-- a list that has grown is longer
pub grown : {A : Type 0} (a b : List A) → IsFront a b → (b ≡ a) ⊎ (length a < length b)
grown a b front = elim (cases_lt (length a) (length b)) [
  | inl more ↦ inr more
  | inr low ↦
      let long = front_length a b front in
      inl (sym (front_same a b b front (front_refl b) (omega (arith, low, long))))
]

-- what has nothing of the pages in memory has nothing still
pub free_still : (v w : View) → w.grip ≡ v.grip → w.ways ≡ v.ways → w.took ≡ v.took → w.shuts ≡ v.shuts
    → w.heads ≡ v.heads → HoldsNothing v → HoldsNothing w
free_still v w grip ways took shuts heads nothing = record {
  holds = ap (λ (g : Grip). g.holds) grip ∙ nothing.holds;
  made = ap (λ (g : Grip). g.made) grip ∙ nothing.made;
  taken = ap (λ (g : Grip). g.taken) grip ∙ nothing.taken;
  ways = ways ∙ nothing.ways;
  took = took ∙ nothing.took;
  heads = heads ∙ nothing.heads;
  shuts = shuts ∙ nothing.shuts;
}

-- the load tells that what is the pass's own to fill stands behind all that it knows
pub owns_behind : (mid now : View) (count : ℕ) → HasLooked mid count now → OwnsBehind now
owns_behind mid now count h =
    let known = h.known in
    let most = h.most in
    subst OwnsBehind (sym h.is) (record {
      most = omega (arith, known, most);
      above = λ x has. let above = h.above x has in omega (arith, known, above);
    })

-- the pages are those that were known before, as far as all behind them were claimed
pub same_pages : (was now : View) → AreClaimed was → OwnsBehind now → now.layout ≡ was.layout → now.fills ≡ was.fills
    → (now.pages ≡ was.pages) ⊎ (length was.pages < length now.pages) → now.pages ≡ was.pages
same_pages was now claims owns layout fills (inl same) = same
same_pages was now claims owns layout fills (inr more) =
    let room : now.layout.resident ≡ was.layout.resident = ap (λ (l : Layout). l.resident) layout in
    let most = owns.most in
    let x = claims.has (length now.pages) more (omega (arith, most, room)) in
    let above = owns.above x.0 (subst (λ (l : List Filled). Contains l x.0) (sym fills) x.1) in
    let page : (x.0).page ≡ length now.pages = x.2 in absurd (omega (arith, above, page))

-- all behind them are claimed still
pub claimed_still : (was now : View) → AreClaimed was → now.layout ≡ was.layout → now.fills ≡ was.fills
    → now.pages ≡ was.pages → AreClaimed now
claimed_still was now claims layout fills pages =
    let room : now.layout.resident ≡ was.layout.resident = ap (λ (l : Layout). l.resident) layout in
    let many : length now.pages ≡ length was.pages = ap (λ (l : List (List ℕ)). length l) pages in record {
      has = λ n less most.
          let x = claims.has n (omega (arith, many, less)) (omega (arith, room, most)) in
          (x.0, subst (λ (l : List Filled). Contains l x.0) (sym fills) x.1, x.2, x.3);
      long = λ y there. claims.long y (subst (λ (l : List Filled). Contains l y) fills there);
    }
