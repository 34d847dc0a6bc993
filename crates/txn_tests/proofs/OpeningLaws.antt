-- An engine begins without a page, and nobody is seated.
use Rattle.std.proofs.Common.{◌≡◌, ℕ, zero, suc, ◌+◌, ◌<◌, ◌≤◌, List, [], ◌∷◌, ◌++◌, refl, sym, ap, ◌∙◌, subst, arith}
use Rattle.std.specs.Prelude.{get_or, replicate}
use Rattle.serial_model.specs.Decls.{AreDecls}
use Rattle.serial_model.specs.declared.decl.Decl.TheVariants.{Tree}
use Rattle.serial_model.specs.declared.number.Number.{Number}
use Rattle.snapshot_store.specs.Content.{deepest, root_place}
use Rattle.views.specs.Sums.{times}
use Rattle.commit_core.specs.Opening.{fresh_seat}
use Rattle.engine_rule.specs.Reading.{led_places, named_places, storages, IsOpening, RecordsAreBelow}
use Rattle.engine_pages.specs.declared.engine.Engine.{Engine}
use Rattle.engine_pages.specs.declared.layout.Layout.{Layout}
use Rattle.engine_pages.specs.declared.view.View.{View}
use Rattle.engine_pages.specs.Passes.{view, IsPassOf, Pass}
use Rattle.engine_pages.specs.Views.{bare_seat, opening_view, IsResting}
use Rattle.page_opening.specs.Making.{CanMake}
use Rattle.page_drops.specs.Calls.{IsBare}
use Rattle.txn_tests.specs.declared.worker.Plan.{Plan}
use Rattle.txn_tests.specs.Standing.{blank, declared, no_roots, CanSeat, IsPlan, IsSize}
use Rattle.txn_tests.proofs.EmptyLaws.{no_leads, root_stands, tree_leads, tree_stands}

pub are_declared : (size : ℕ) → IsSize size → AreDecls (declared size)
are_declared size is = record {
  few = omega arith;
  each = ((omega arith, is.0, is.1), (omega arith, tt));
  distinct = ((λ same. omega (arith, same), tt), (tt, tt));
}

no_places : (size : ℕ) → named_places [] (storages (declared size) no_roots) ≡ []
no_places size =
    ap (λ l. l ++ (led_places (Tree 2) [] deepest (root_place (Tree 2) 0) ++ [])) (no_leads size deepest)
    ∙ ap (λ l. l ++ []) (tree_leads deepest)

opens_blank : (p : Plan) → IsPlan p
    → IsOpening [] (declared p.size) no_roots (record { epoch = 1; draw = p.draw })
opens_blank p is = record {
  few = omega arith;
  declared = are_declared p.size is.size;
  each = refl;
  stand = (root_stands p.size, (tree_stands, tt));
  number = record {
    some_epoch = omega arith;
    most_epoch = omega arith;
    some_draw = is.first;
    most_draw = is.draw;
  };
  below = subst (RecordsAreBelow (record { epoch = 1; draw = p.draw }) []) (sym (no_places p.size)) tt;
}

can_make : (p : Plan) → IsPlan p → CanMake (blank p)
can_make p is = record {
  pages = [];
  are = refl;
  opens = opens_blank p is;
  some = is.some;
  slots = is.slots;
  resident = omega arith;
  within = omega arith;
}

pub can_make_it : (p : Plan) (l : Layout) → IsPlan p → l ≡ blank p → CanMake l
can_make_it p l is same = subst CanMake (sym same) (can_make p is)

-- ---- nobody is seated

rests : (first : Number) (n worker : ℕ) → IsResting (get_or (replicate n (fresh_seat first)) worker bare_seat)
rests first zero worker = record { kept = refl; locks = refl; stage = refl }
rests first (suc n) zero = record { kept = refl; locks = refl; stage = refl }
rests first (suc n) (suc worker) = rests first n worker

-- and the keeper holds nothing
bare_opening : (l : Layout) → IsBare (opening_view l)
bare_opening l = record {
  keeper = refl;
  idle = refl;
  holds = refl;
  made = refl;
  taken = refl;
  locks = refl;
  took = refl;
  parts = refl;
  heads = refl;
  shuts = refl;
}

pub first_seats : (p : Plan) (e : Engine) (keeper : Pass) (l : Layout) → IsPlan p → l ≡ blank p → IsPassOf e keeper
    → view keeper ≡ opening_view l → CanSeat p.size e 0 keeper
first_seats p e keeper l plan same of is = record {
  keeps = record { of = of; role = ap (λ (v : View). v.role) is };
  bare = subst IsBare (sym is) (bare_opening l);
  ways = ap (λ (v : View). v.ways) is;
  sized = plan.size;
  decls = ap (λ (v : View). v.layout.decls) is ∙ ap (λ (x : Layout). x.decls) same;
  locks = ap (λ (v : View). v.seat.locks) is;
  apart = λ worker less. ap (λ (v : View). times worker v.made) is;
  parked = λ worker less.
      subst (λ (v : View). IsResting (get_or v.parked worker bare_seat)) (sym is) (rests l.first 8 worker);
}
