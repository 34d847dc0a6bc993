-- The keeper drops pages of storages that are in no snapshot.
use Rattle.std.proofs.Common.{◌≡◌, ℕ, zero, suc, ◌<◌, ◌≤◌, List, [], ◌∷◌, get_or, length, refl, sym, ap, ◌∙◌, subst, arith}
use Rattle.serial_model.specs.declared.decl.Decl.{Decl}
use Rattle.serial_model.specs.Decls.{AreDecls}
use Rattle.engine_pages.specs.declared.engine.Engine.{Engine}
use Rattle.engine_pages.specs.declared.view.View.{View}
use Rattle.engine_pages.specs.Passes.{view, IsPassOf, Pass}
use Rattle.page_drops.specs.declared.calls.Dropped.{Dropped}
use Rattle.page_drops.specs.Calls.{slots_on, CanDropAll, HasDroppedAll}
use Rattle.txn_tests.specs.Standing.{no_roots, IsDropper}
use Rattle.txn_tests.proofs.OpeningLaws.{are_declared}

none_at : (r : ℕ) → get_or no_roots r 0 ≡ 0
none_at zero = refl
none_at (suc zero) = refl
none_at (suc (suc r)) = refl

pub can_drop : (e : Engine) (keeper : Pass) → IsDropper e keeper → CanDropAll no_roots (view keeper)
can_drop e keeper can = record {
  bare = can.bare;
  ways = can.ways;
  declared = subst AreDecls (sym can.decls) (are_declared can.size can.sized);
  long = ap (λ (ds : List Decl). length ds) (sym can.decls);
  there = λ r less. let none = none_at r in omega (arith, none);
  room = λ r less. let none = none_at r in omega (arith, none);
  leads = λ r less some. absurd (let none = none_at r in omega (arith, none, some));
}

pub keeps_on : (e : Engine) (keeper later : Pass) (tally : Dropped) → IsDropper e keeper → IsPassOf e later
    → HasDroppedAll no_roots (view keeper) tally (view later) → IsDropper e later
keeps_on e keeper later tally can of h = record {
  keeps = record { of = of; role = ap (λ (v : View). v.role) h.is ∙ can.keeps.role };
  bare = record {
    keeper = ap (λ (v : View). v.role) h.is ∙ can.bare.keeper;
    idle = ap (λ (v : View). v.seat.stage) h.is ∙ can.bare.idle;
    holds = ap (λ (v : View). v.grip.holds) h.is
        ∙ (can.bare.holds ∙ sym (ap (λ (v : View). slots_on v.ways) h.is));
    made = ap (λ (v : View). v.grip.made) h.is ∙ can.bare.made;
    taken = ap (λ (v : View). v.grip.taken) h.is ∙ can.bare.taken;
    locks = ap (λ (v : View). v.seat.locks) h.is ∙ can.bare.locks;
    took = ap (λ (v : View). v.took) h.is ∙ can.bare.took;
    parts = ap (λ (v : View). v.seat.kept) h.is ∙ can.bare.parts;
    heads = ap (λ (v : View). v.heads) h.is ∙ can.bare.heads;
    shuts = ap (λ (v : View). v.shuts) h.is ∙ can.bare.shuts;
  };
  ways = ap (λ (v : View). v.ways) h.is ∙ can.ways;
  size = can.size;
  sized = can.sized;
  decls = ap (λ (v : View). v.layout.decls) h.is ∙ can.decls;
}
