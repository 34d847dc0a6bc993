use Rattle.std.proofs.Common.{◌≡◌, ◌≤◌, ◌+◌, List, Some, true, length, refl, sym, ap, subst, arith}
use Rattle.std.specs.List.{AllByRecursion}
use Rattle.std.proofs.lemmas.Bool.Decides.{nat_tests}
use Rattle.std.proofs.lemmas.List.{length-append}
use Rattle.serial_model.specs.declared.number.Change.{Change}
use Rattle.wire_form.specs.LogFile.{IsChangeOf}
use Rattle.log_mapper.specs.declared.lines.SoFar.{SoFar}
use Rattle.log_mapper.proofs.LineSteps.{begins_within, damaged_line, damaged_no_line, front_line, front_none}
use Rattle.log_mapper.proofs.lines.map_window.Goals as goal

pub loop-rest-init : goal.loop-rest-init
loop-rest-init c = front_none c.args.decls.now c.args.from c.args.to c.args.so_far.now c.args.window.now

pub returns-in_default-clause-damaged : goal.returns-in_default-clause-damaged
returns-in_default-clause-damaged c at is =
    let enough : c.args.least ≤ length c.loop-rest.rest.now = grind (arith, nat_tests) in
    let more : 1 ≤ length c.loop-rest.rest.now = omega (arith, enough, c.requires.least) in
    let place : at ≡ c.loop-rest.so_far.at = cc in
    damaged_no_line c.args.decls.now c.args.from c.args.to c.args.window.now c.loop-rest.rest.now c.args.so_far.now c.loop-rest.so_far at c.args.least
    c.loop-rest.invariant more enough place c.in_default.ensures.err

pub returns-then-not-is_next-clause-damaged : goal.returns-then-not-is_next-clause-damaged
returns-then-not-is_next-clause-damaged c at is =
    let enough : c.args.least ≤ length c.loop-rest.rest.now = grind (arith, nat_tests) in
    let more : 1 ≤ length c.loop-rest.rest.now = omega (arith, enough, c.requires.least) in
    let place : at ≡ c.loop-rest.so_far.at = cc in
    damaged_line c.args.decls.now c.args.from c.args.to c.args.window.now c.loop-rest.rest.now c.args.so_far.now c.loop-rest.so_far at c.args.least
    c.in-Ok.commit c.in-Ok.size c.loop-rest.invariant more place c.in-Ok.ensures.ok
    (λ next all. let was : c.is_next.result ≡ true = c.is_next.ensures.1 next in cc)

pub returns-then-not-have_places-clause-damaged : goal.returns-then-not-have_places-clause-damaged
returns-then-not-have_places-clause-damaged c at is =
    let enough : c.args.least ≤ length c.loop-rest.rest.now = grind (arith, nat_tests) in
    let more : 1 ≤ length c.loop-rest.rest.now = omega (arith, enough, c.requires.least) in
    let place : at ≡ c.loop-rest.so_far.at = cc in
    damaged_line c.args.decls.now c.args.from c.args.to c.args.window.now c.loop-rest.rest.now c.args.so_far.now c.loop-rest.so_far at c.args.least
    c.in-Ok.commit c.in-Ok.size c.loop-rest.invariant more place c.in-Ok.ensures.ok
    (λ next all.
    let here = subst (λ (l : List Change). AllByRecursion (IsChangeOf c.args.decls.now) l) (sym c.as_slice.ensures.value) all in
    let was : c.have_places.result ≡ true = c.have_places.ensures.1 here in cc)

pub overflow_add-so_far : goal.overflow_add-so_far
overflow_add-so_far c =
    omega (
      arith,
      c.requires.place,
      c.loop-rest.invariant.place,
      ap length c.loop-rest.invariant.whole,
      length-append c.loop-rest.invariant.done c.loop-rest.rest.now,
      begins_within c.loop-rest.rest.now c.in-Ok.commit c.in-Ok.size c.in-Ok.ensures.ok,
    )

pub split_at-requires : goal.split_at-requires
split_at-requires c = begins_within c.loop-rest.rest.now c.in-Ok.commit c.in-Ok.size c.in-Ok.ensures.ok

pub loop-rest-preserved : goal.loop-rest-preserved
loop-rest-preserved c =
    let places = subst (λ (l : List Change). AllByRecursion (IsChangeOf c.args.decls.now) l) c.as_slice.ensures.value (c.have_places.ensures.0 c.if-not-have_places.false) in
    let new : SoFar = record { at = c.loop-rest.so_far.at + c.in-Ok.size; last = Some c.in-Ok.commit.number; buckets = c.add_commit.new.buckets } in
    rw c.split_at.ensures.back
    (front_line c.args.decls.now c.args.from c.args.to c.args.window.now c.loop-rest.rest.now c.args.so_far.now c.loop-rest.so_far
    c.in-Ok.commit c.in-Ok.size new c.loop-rest.invariant c.in-Ok.ensures.ok (c.is_next.ensures.0 c.if-not-is_next.false) places refl refl c.in_ok-add_commit.ensures)
