use Rattle.std.proofs.Common.{◌≡◌, List, ℕ, subst, sym}
use Rattle.std.proofs.lemmas.Result.{err_from_is_err_and}
use Rattle.std.specs.Prelude.{Err}
use Rattle.engine_pages.specs.Passes.{view}
use Rattle.tree_drops.specs.Chains.{GatheringSo}
use Rattle.tree_drops.proofs.Gathered.{can_look, gathers_kept, gathers_on, next_half}
use Rattle.tree_drops.proofs.chains.gather_next.Goals as goal

pub look-requires-clause-look : goal.look-requires-clause-look
look-requires-clause-look c =
    let r = c.requires.next in (
      r.0,
      r.1,
      (r.6).splits,
      c.args.headers.now.items,
      r.3,
      r.4,
      can_look r.0 r.1 r.2 r.3 r.5 c.args.halves.now.items c.args.headers.now.items _ (view c.args.pass.now) r.6
          (next_half c.args.halves.now.items c.deref.result.now c.len.result _ (record { slot = 0; low = 0; high = 0 }) c.deref.ensures.0
          c.len.ensures.value c.requires.less),
    )

pub returns-in_err-found-clause-goes : goal.returns-in_err-found-clause-goes
returns-in_err-found-clause-goes c t sp header v same can so =
    let p = err_from_is_err_and c.from_residual.result c.from_residual.ensures.1 in
    let told : c.from_residual.result ≡ Err c.in_err-found.field-0.0 = let a = p.1 in let b = p.2 in cc in
    rw told (gathers_kept t sp header v can c.args.halves.now.items c.look.new.halves.items c.args.headers.now.items
    c.in_err-found.field-0.0 (view c.args.pass.now) (view c.look.new.pass) so
    (c.in_err-found.ensures.looks t sp so.splits c.args.headers.now.items v same
    (can_look t sp header v can c.args.halves.now.items c.args.headers.now.items _ (view c.args.pass.now) so
    (next_half c.args.halves.now.items c.deref.result.now c.len.result _ (record { slot = 0; low = 0; high = 0 }) c.deref.ensures.0
    c.len.ensures.value c.requires.less))))

pub returns-clause-goes : goal.returns-clause-goes
returns-clause-goes c t sp header v same can so =
    subst (λ (ns : List ℕ). GatheringSo t sp c.look.new.halves.items ns v (view c.look.new.pass)) (sym c.push.ensures.items)
    (gathers_on t sp header v can c.args.halves.now.items c.look.new.halves.items c.args.headers.now.items c.in_ok-found.found
    (view c.args.pass.now) (view c.look.new.pass) so
    (c.in_ok-found.ensures.looks t sp so.splits c.args.headers.now.items v same
    (can_look t sp header v can c.args.halves.now.items c.args.headers.now.items _ (view c.args.pass.now) so
    (next_half c.args.halves.now.items c.deref.result.now c.len.result _ (record { slot = 0; low = 0; high = 0 }) c.deref.ensures.0
    c.len.ensures.value c.requires.less))))
