-- The step of a swing, by what the page in the slot is.
use Rattle.std.proofs.Common.{◌≡◌, inl, inr, ℕ, Bool, true, false, eqb, eqb-true, List, get_or, refl, sym, ap, subst}
use Rattle.std.specs.Prelude.{MatchBool}
use Rattle.std.proofs.lemmas.Bool.{cases_Bool}
use prog.Atomic.{either}
use Rattle.atomic_table.specs.Table.{Me, Allows}
use Rattle.homes.specs.declared.places.At.{At}
use Rattle.homes.specs.declared.places.Span.{Span}
use Rattle.engine_pages.specs.declared.layout.Layout.{Layout}
use Rattle.engine_pages.specs.declared.view.View.{View}
use Rattle.engine_pages.specs.Pages.{is_leaf_span}
use Rattle.engine_pages.specs.Rule.{Shared, Shows}
use Rattle.engine_pages.specs.Steps.{read_at}
use Rattle.engine_pages.specs.Views.{seat_number}
use Rattle.engine_pages.proofs.Joint.{Laws}
use Rattle.engine_pages.proofs.Turns.{Stride, Begins, allows_at}
use Rattle.pointer_swings.specs.Swings.{CanSwing, HasSwung, swung}
use Rattle.pointer_swings.proofs.BranchSwings.{branch_turns}
use Rattle.pointer_swings.proofs.LeafSwings.{leaf_turns}
use Rattle.pointer_swings.proofs.Misses.{missed}
use Rattle.pointer_swings.proofs.Shutting.{keeper_active}
use Rattle.pointer_swings.proofs.Swinging.{inner_stride, leaf_stride}

pub swings : Laws → (l : Layout) (slots id : ℕ) (me : Me (Unit {0}) View) (x : At) (sp : Span) (at t number expected : ℕ)
    → CanSwing me.0 x sp at t number expected
    → Allows (λ s. Shows l s.words s.views) slots id me at (λ k. either (eqb k expected) number k)
    (λ k now. (now.1 ≡ me.1) × HasSwung t at number expected me.0 k now.0)
swings laws l slots id me x sp at t number expected can =
    allows_at laws l slots id me at (λ k. either (eqb k expected) number k) (HasSwung t at number expected)
    (keeper_active me.0.role can.keeper)
    (λ words views s b. by_found words views s b (eqb (get_or words at 0) expected) refl)
  where
    by_found : (words : List ℕ) (views : List View) (s : Shared) → Begins l words views s id me.0 → (c : Bool)
        → eqb (get_or words at 0) expected ≡ c
        → Stride l words views s (seat_number me.0.role) me.0 at (λ k. either (eqb k expected) number k) (HasSwung t at number expected)
    by_found words views s b true found =
        let n : ℕ = get_or words at 0 in
        let active = keeper_active me.0.role can.keeper in
        let n-is = eqb-true n expected found in
        let f : ℕ → ℕ = λ k. either (eqb k expected) number k in
        let f-is : f n ≡ number = ap (λ c. either c number n) found in
        let so = subst (λ c. MatchBool c (swung t at number n me.0 ≡ swung t at number n me.0) (swung t at number n me.0 ≡ read_at at n me.0)) (sym found) refl in
        elim can.page [
          | inl a ↦ elim (cases_Bool (is_leaf_span sp)) [
            | inl leaf ↦
                leaf_stride laws l words views s id me.0 active b x sp at t number expected can n-is a leaf f (HasSwung t at number expected) f-is so
            | inr inner ↦
                inner_stride laws l words views s id me.0 active b x sp at t number expected can n-is a inner f (HasSwung t at number expected) f-is so
          ]
          | inr tree ↦ elim tree [
            | inl leaf ↦
                leaf_turns laws l words views s id me.0 active b x sp at t number expected can n-is leaf f (HasSwung t at number expected) f-is so
            | inr inner ↦
                branch_turns laws l words views s id me.0 active b x sp at t number expected can n-is inner f (HasSwung t at number expected) f-is so
          ]
        ]
    by_found words views s b false found =
        let n : ℕ = get_or words at 0 in
        missed l words views s id me.0 (keeper_active me.0.role can.keeper) b x sp at can.place
        (λ k. either (eqb k expected) number k) (HasSwung t at number expected) (ap (λ c. either c number n) found)
        (subst (λ c. MatchBool c (read_at at n me.0 ≡ swung t at number n me.0) (read_at at n me.0 ≡ read_at at n me.0)) (sym found) refl)
