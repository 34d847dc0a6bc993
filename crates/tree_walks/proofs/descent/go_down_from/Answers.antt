use Rattle.std.proofs.Common.{◌≡◌, ◌+◌, suc, subst, arith}
use Rattle.std.specs.Prelude.{Ok}
use Rattle.std.proofs.lemmas.Result.{err_from_is_err_and}
use Rattle.engine_pages.specs.Passes.{view}
use Rattle.tree_walks.specs.declared.descent.Next.{Next}
use Rattle.tree_walks.specs.Steps.{GoesSo, IsFurther}
use Rattle.tree_walks.proofs.DescentLaws.{IsDown, down_end, down_first, down_long, down_next, down_refused}
use Rattle.tree_walks.proofs.descent.go_down_from.Goals as goal

pub loop-level-init : goal.loop-level-init
loop-level-init c = record {
  of = c.requires.of;
  down = down_first c.args.key c.args.pointers.now c.args.headers.now c.args.holds.now (view c.args.pass.now) c.args.page c.requires.can c.requires.on;
}

pub go_on-requires-clause-of : goal.go_on-requires-clause-of
go_on-requires-clause-of c = c.loop-level.invariant.of

pub go_on-requires-clause-can : goal.go_on-requires-clause-can
go_on-requires-clause-can c = c.loop-level.invariant.down.went.can

pub go_on-requires-clause-on : goal.go_on-requires-clause-on
go_on-requires-clause-on c = c.loop-level.invariant.down.path.0

pub loop-level-preserved : goal.loop-level-preserved
loop-level-preserved c =
    let v = view c.args.pass.now in
    let u = view c.loop-level.pass in
    let w = view c.go_on.new.pass in record {
      of = c.go_on.ensures.of;
      down =
          subst (λ i. IsDown c.args.key c.args.pointers.now c.args.headers.now c.go_on.new.holds v w c.in-Down.next i)
          (let e : suc c.loop-level.level ≡ c.loop-level.level + 1 = omega arith in e)
          (down_next c.args.key c.args.pointers.now c.args.headers.now c.loop-level.holds c.go_on.new.holds v u w
          c.loop-level.page c.in-Down.next c.loop-level.level c.loop-level.invariant.down
          (subst (λ (r : Next). GoesSo 35 c.args.key c.args.pointers.now c.args.headers.now c.go_on.new.holds
          (IsFurther c.args.key c.args.pointers.now c.args.headers.now c.loop-level.page) (Ok r) u w) c.in-Down.is
          c.in_ok-step.ensures.goes));
    }

pub returns-in-End-clause-goes : goal.returns-in-End-clause-goes
returns-in-End-clause-goes c =
    let v = view c.args.pass.now in
    let u = view c.loop-level.pass in
    let w = view c.go_on.new.pass in
    down_end c.args.key c.args.pointers.now c.args.headers.now c.loop-level.holds c.go_on.new.holds v u w
    c.loop-level.page c.in-End.end c.loop-level.level c.loop-level-test.true c.loop-level.invariant.down
    (subst (λ (r : Next). GoesSo 35 c.args.key c.args.pointers.now c.args.headers.now c.go_on.new.holds
    (IsFurther c.args.key c.args.pointers.now c.args.headers.now c.loop-level.page) (Ok r) u w) c.in-End.is
    c.in_ok-step.ensures.goes)

pub returns-clause-goes : goal.returns-clause-goes
returns-clause-goes c =
    let v = view c.args.pass.now in
    let u = view c.loop-level.pass in
    let last = c.loop-level-test.false in
    let most = c.loop-level.auto.level-end in
    down_long c.args.key c.args.pointers.now c.args.headers.now c.loop-level.holds v u c.loop-level.page
    (subst (λ i. IsDown c.args.key c.args.pointers.now c.args.headers.now c.loop-level.holds v u c.loop-level.page i)
    (let e : c.loop-level.level ≡ 128 = omega (arith, last, most) in e) c.loop-level.invariant.down)

pub returns-in_err-step-clause-goes : goal.returns-in_err-step-clause-goes
returns-in_err-step-clause-goes c =
    let p = err_from_is_err_and c.from_residual.result c.from_residual.ensures.1 in
    let v = view c.args.pass.now in
    let u = view c.loop-level.pass in
    let w = view c.go_on.new.pass in
    rw (p.1, p.2)
    (down_refused c.args.key c.args.pointers.now c.args.headers.now c.loop-level.holds c.go_on.new.holds v u w
    c.loop-level.page c.in_err-step.field-0.0 c.loop-level.level c.loop-level-test.true c.loop-level.invariant.down
    c.in_err-step.ensures.goes)

pub returns-clause-of : goal.returns-clause-of
returns-clause-of c = c.loop-level.invariant.of
