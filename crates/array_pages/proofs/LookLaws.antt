-- What loads of snapshot pages leave.
use Rattle.std.proofs.Common.{◌≡◌, ℕ, refl, sym, ap, ◌∙◌, subst, arith}
use Rattle.engine_pages.specs.declared.view.View.{View}
use Rattle.engine_pages.specs.Steps.{glanced}
use Rattle.array_pages.specs.Finding.{HasGlanced}
use Rattle.array_pages.specs.Snapshots.{CanLook}

-- the view v with what loads change as w has it
abbrev looked : View → View → View
looked v w = record v { steps = w.steps; last = w.last }

looked_formed : (v w z : View) → w ≡ looked v z → w ≡ looked v w
looked_formed v w z e = subst (λ (y : View). y ≡ looked v y) (sym e) refl

pub glanced_self : (v : View) → HasGlanced v v
glanced_self v = record { since = omega arith; is = refl }

pub glanced_is : (at n : ℕ) (v w : View) → w ≡ glanced at n v → HasGlanced v w
glanced_is at n v w e =
    let steps = ap (λ (z : View). z.steps) e in
    record { since = omega (arith, steps); is = looked_formed v w (glanced at n v) e }

pub glanced_then : (v u w : View) → HasGlanced v u → HasGlanced u w → HasGlanced v w
glanced_then v u w a b = record {
  since = let one = a.since in let two = b.since in omega (arith, one, two);
  is = looked_formed v w w (b.is ∙ ap (λ (y : View). looked y w) a.is);
}

pub pages_glanced : (v w : View) → HasGlanced v w → w.pages ≡ v.pages
pages_glanced v w g = ap (λ (z : View). z.pages) g.is

pub looks_glanced : (v w : View) → HasGlanced v w → CanLook v → CanLook w
looks_glanced v w g look =
    subst CanLook (sym g.is) record { active = look.active; room = look.room; most = look.most }
