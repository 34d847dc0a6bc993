-- What the pass knows of interior pages, while it looks at a pointer and holds the slot.
use Rattle.std.proofs.Common.{◌≡◌, ℕ, Bool, true, false, true≢false, eqb, sym, ap, ◌∙◌, subst}
use Rattle.std.specs.Prelude.{MatchBool}
use Rattle.std.specs.List.{Contains}
use Rattle.drop_core.specs.Table.{has_slot}
use Rattle.engine_pages.specs.declared.view.View.{View}
use Rattle.engine_pages.specs.Slots.{left}
use Rattle.engine_pages.specs.Steps.{read_at}
use Rattle.pointer_swings.specs.Renewals.{HasRenewed, renewed}
use Rattle.tree_drops.specs.Visits.{KeepsInners}
use Rattle.tree_drops.proofs.Ends.{filter_in}

pub keeps_same : (v w : View) → w.inners ≡ v.inners → KeepsInners v w
keeps_same v w same x has held = subst (λ l. Contains l x) (sym same) has

-- where a slot is left that wasn't held before
pub keeps_left : (t : ℕ) (v c w : View) → c.inners ≡ v.inners → has_slot v.grip.holds t ≡ false → w ≡ left t c → KeepsInners v w
keeps_left t v c w same fresh is x has held =
    subst (λ (z : View). Contains z.inners x) (sym is)
    (filter_in t c.inners x (λ one. true≢false (sym held ∙ (ap (λ s. has_slot v.grip.holds s) one ∙ fresh)))
    (subst (λ l. Contains l x) (sym same) has))

pub inners_renewed : (at page n m : ℕ) (v w : View) → HasRenewed at page n v m w → w.inners ≡ v.inners
inners_renewed at page n m v w h = by_test (eqb m n) h
  where
    by_test : (b : Bool) → MatchBool b (w ≡ renewed at page m v) (w ≡ read_at at m v) → w.inners ≡ v.inners
    by_test true is = ap (λ (z : View). z.inners) is
    by_test false is = ap (λ (z : View). z.inners) is
