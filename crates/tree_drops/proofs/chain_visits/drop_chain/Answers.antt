use Rattle.std.specs.Prelude.{Err}
use Rattle.std.proofs.Common.{◌≡◌, arith}
use Rattle.std.proofs.lemmas.Result.{err_from_is_err_and}
use Rattle.engine_pages.specs.Passes.{view}
use Rattle.tree_drops.proofs.ChainGathered.{can_gather, long_chain, take_now, take_same, taken_same, worked_now, worked_other}
use Rattle.tree_drops.proofs.chain_visits.drop_chain.Goals as goal

pub gather-requires-clause-gather : goal.gather-requires-clause-gather
gather-requires-clause-gather c =
    can_gather c.args.root c.args.header (view c.args.pass.now) c.requires.work

pub returns-in_err-gather-clause-works : goal.returns-in_err-gather-clause-works
returns-in_err-gather-clause-works c =
    let p = err_from_is_err_and c.from_residual.result c.from_residual.ensures.1 in
    let told : c.from_residual.result ≡ Err c.in_err-gather.field-0.0 = let a = p.1 in let b = p.2 in cc in
    rw told
    (worked_other c.args.root c.args.header (view c.args.pass.now) c.requires.work c.gather.new.halves.items c.gather.new.headers.items
    (view c.gather.new.pass) c.in_err-gather.field-0.0 c.in_err-gather.ensures.gathers)

pub returns-then-len-ge-LONG-clause-works : goal.returns-then-len-ge-LONG-clause-works
returns-then-len-ge-LONG-clause-works c =
    let many = c.if-len-ge-LONG.true in
    let long = c.len.ensures.value in
    long_chain c.args.root c.args.header (view c.args.pass.now) c.requires.work c.gather.new.halves.items c.gather.new.headers.items
    (view c.gather.new.pass) tt c.in_ok-gather.ensures.gathers c.keep_long-long.result (view c.keep_long-long.new.pass)
    (omega (arith, many, long)) c.keep_long-long.ensures.keeps

pub take_from-requires-clause-take : goal.take_from-requires-clause-take
take_from-requires-clause-take c =
    let few = c.if-len-ge-LONG.false in
    let long = c.len.ensures.value in
    take_same c.args.root c.gather.new.halves.items c.as_slice.result.now c.gather.new.headers.items c.as_slice-2.result.now 0
    (view c.gather.new.pass) c.as_slice.ensures.value c.as_slice-2.ensures.value
    (take_now c.args.root c.args.header (view c.args.pass.now) c.requires.work c.gather.new.halves.items c.gather.new.headers.items
    (view c.gather.new.pass) tt c.in_ok-gather.ensures.gathers (omega (arith, few, long)))

pub returns-clause-works : goal.returns-clause-works
returns-clause-works c =
    let few = c.if-len-ge-LONG.false in
    let long = c.len.ensures.value in
    worked_now c.args.root c.args.header (view c.args.pass.now) c.requires.work c.gather.new.halves.items c.gather.new.headers.items
    (view c.gather.new.pass) tt c.in_ok-gather.ensures.gathers (omega (arith, few, long)) c.take_from.result
    (view c.take_from.new.pass)
    (taken_same c.args.root c.gather.new.halves.items c.as_slice.result.now c.gather.new.headers.items c.as_slice-2.result.now
    c.take_from.result (view c.gather.new.pass) (view c.take_from.new.pass) c.as_slice.ensures.value c.as_slice-2.ensures.value
    c.take_from.ensures.takes)
