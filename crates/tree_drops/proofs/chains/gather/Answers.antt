use Rattle.std.proofs.Common.{◌≡◌, refl}
use Rattle.std.proofs.lemmas.Result.{err_from_is_err_and}
use Rattle.std.specs.Prelude.{Err}
use Rattle.engine_pages.specs.Passes.{view}
use Rattle.tree_drops.proofs.Gathered.{ends_first, ends_parted, ends_turned, first_enter, first_part}
use Rattle.tree_drops.proofs.chains.gather.Goals as goal

pub part-requires-clause-part : goal.part-requires-clause-part
part-requires-clause-part c = first_part c.args.slot c.args.span c.args.header (view c.args.pass.now) c.requires.gather

pub returns-in_err-split-clause-gathers : goal.returns-in_err-split-clause-gathers
returns-in_err-split-clause-gathers c =
    let p = err_from_is_err_and c.from_residual.result c.from_residual.ensures.1 in
    let told : c.from_residual.result ≡ Err c.in_err-split.field-0.0 = let a = p.1 in let b = p.2 in cc in
    rw told (ends_parted c.args.slot c.args.span c.args.header (view c.args.pass.now) c.requires.gather c.args.halves.now.items
    c.args.headers.now.items c.in_err-split.field-0.0 (view c.part.new.pass) c.requires.none c.in_err-split.ensures.parts)

pub enter_halves-requires-clause-enter : goal.enter_halves-requires-clause-enter
enter_halves-requires-clause-enter c =
    first_enter c.args.slot c.args.span c.args.header (view c.args.pass.now) c.requires.gather c.in_ok-split.split
    (view c.part.new.pass) c.in_ok-split.ensures.parts

pub returns-in_err-enter_halves-clause-gathers : goal.returns-in_err-enter_halves-clause-gathers
returns-in_err-enter_halves-clause-gathers c =
    let p = err_from_is_err_and c.from_residual-in_err-enter_halves.result c.from_residual-in_err-enter_halves.ensures.1 in
    let told : c.from_residual-in_err-enter_halves.result ≡ Err c.in_err-enter_halves.field-0.0 = let a = p.1 in let b = p.2 in cc in
    rw told (ends_turned c.args.slot c.args.span c.args.header (view c.args.pass.now) c.requires.gather c.in_ok-split.split
    (view c.part.new.pass) c.in_ok-split.ensures.parts c.args.halves.now.items c.enter_halves.new.halves.items c.args.headers.now.items
    c.in_err-enter_halves.field-0.0 (view c.enter_halves.new.pass) c.requires.none c.in_err-enter_halves.ensures.enters)

pub loop-span-init : goal.loop-span-init
loop-span-init c = record {
  of = c.enter_halves.ensures.of;
  so = ends_first c.args.slot c.args.span c.args.header (view c.args.pass.now) c.requires.gather c.in_ok-split.split
      (view c.part.new.pass) c.in_ok-split.ensures.parts c.args.halves.now.items c.enter_halves.new.halves.items c.args.headers.now.items
      (view c.enter_halves.new.pass) c.requires.none c.requires.new c.in_ok-enter_halves.ensures.enters;
}

pub loop-span-preserved : goal.loop-span-preserved
loop-span-preserved c = record {
  of = c.gather_next.ensures.of;
  so = c.in_ok-gather_next.ensures.goes c.args.slot c.args.span c.args.header (view c.args.pass.now) refl c.requires.gather
      c.loop-span.invariant.so;
}

pub returns-in_err-gather_next-clause-gathers : goal.returns-in_err-gather_next-clause-gathers
returns-in_err-gather_next-clause-gathers c =
    let p = err_from_is_err_and c.from_residual-in_err-gather_next.result c.from_residual-in_err-gather_next.ensures.1 in
    let told : c.from_residual-in_err-gather_next.result ≡ Err c.in_err-gather_next.field-0.0 = let a = p.1 in let b = p.2 in cc in
    rw told (c.in_err-gather_next.ensures.goes c.args.slot c.args.span c.args.header (view c.args.pass.now) refl c.requires.gather
    c.loop-span.invariant.so)
