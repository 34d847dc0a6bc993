use Rattle.std.specs.Prelude.{Err}
use Rattle.std.proofs.Common.{◌≡◌}
use Rattle.std.proofs.lemmas.Result.{err_from_is_err_and}
use Rattle.engine_pages.specs.Passes.{view}
use Rattle.tree_drops.proofs.SwungAway.{can_cover, can_swing_now, other_kept, other_last, other_turned, swung_away, uncovered, word_now}
use Rattle.tree_drops.proofs.taking.swing_away.Goals as goal

pub cover-requires-clause-cover : goal.cover-requires-clause-cover
cover-requires-clause-cover c =
    can_cover c.args.root c.args.halves.now c.args.headers.now (view c.args.pass.now) c.requires.take

pub returns-in_err-cover-clause-takes : goal.returns-in_err-cover-clause-takes
returns-in_err-cover-clause-takes c =
    let p = err_from_is_err_and c.from_residual.result c.from_residual.ensures.1 in
    let told : c.from_residual.result ≡ Err c.in_err-cover.field-0.0 = let a = p.1 in let b = p.2 in cc in
    rw told
    (uncovered c.args.root c.args.halves.now c.args.headers.now (view c.args.pass.now) c.requires.take c.in_err-cover.field-0.0
    (view c.cover.new.pass) c.in_err-cover.ensures.covers)

pub swing_chain-found-requires-clause-swing : goal.swing_chain-found-requires-clause-swing
swing_chain-found-requires-clause-swing c =
    let x = c.in_ok-cover.ensures.covers in
    can_swing_now c.args.root c.args.halves.now c.args.headers.now (view c.args.pass.now) c.requires.take (view c.cover.new.pass) x.0 x.2 x.1

pub swing_chain-found-requires-clause-word : goal.swing_chain-found-requires-clause-word
swing_chain-found-requires-clause-word c =
    let x = c.in_ok-cover.ensures.covers in
    word_now c.args.root c.args.halves.now c.args.headers.now (view c.args.pass.now) c.requires.take (view c.cover.new.pass) x.0 x.2

pub keep-changed-requires-clause-last : goal.keep-changed-requires-clause-last
keep-changed-requires-clause-last c =
    let x = c.in_ok-cover.ensures.covers in
    other_last c.args.root c.args.halves.now c.args.headers.now (view c.args.pass.now) c.requires.take (view c.cover.new.pass) x.0 x.2
    c.swing_chain-found.result (view c.swing_chain-found.new.pass) c.swing_chain-found.ensures.swings c.if-found-root.true

pub keep-changed-requires-clause-due : goal.keep-changed-requires-clause-due
keep-changed-requires-clause-due c =
    let x = c.in_ok-cover.ensures.covers in
    other_turned c.args.root c.args.halves.now c.args.headers.now (view c.args.pass.now) c.requires.take (view c.cover.new.pass) x.0 x.2
    c.swing_chain-found.result (view c.swing_chain-found.new.pass) c.swing_chain-found.ensures.swings c.if-found-root.true

pub returns-then-found-root-clause-takes : goal.returns-then-found-root-clause-takes
returns-then-found-root-clause-takes c =
    let x = c.in_ok-cover.ensures.covers in
    other_kept c.args.root c.args.halves.now c.args.headers.now (view c.args.pass.now) c.requires.take (view c.cover.new.pass) x.0 x.2
    c.swing_chain-found.result (view c.swing_chain-found.new.pass) c.swing_chain-found.ensures.swings c.keep-changed.result
    (view c.keep-changed.new.pass) c.if-found-root.true c.keep-changed.ensures.is c.keep-changed.ensures.notes

pub returns-clause-takes : goal.returns-clause-takes
returns-clause-takes c =
    let x = c.in_ok-cover.ensures.covers in
    swung_away c.args.root c.args.halves.now c.args.headers.now (view c.args.pass.now) c.requires.take (view c.cover.new.pass) x.0 x.2
    c.swing_chain-found.result (view c.swing_chain-found.new.pass) c.swing_chain-found.ensures.swings c.if-found-root.false
