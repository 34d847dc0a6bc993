use Rattle.std.proofs.Common.{◌≡◌, ℕ, ◌+◌, ◌<◌, ◌≤◌, sym, ap, ◌∙◌, subst, arith, List, [], true, eqb, eqb-true}
use Rattle.std.proofs.Common.{true≢false, eq-eqb}
use Rattle.std.proofs.lemmas.Result.{err_from_is_err_and}
use Rattle.engine_pages.specs.Passes.{view}
use Rattle.tree_ranges.proofs.StretchLaws.{IsScanning, more_slow, more_up, scanned_full, scanned_last, scanned_most}
use Rattle.tree_ranges.proofs.StretchLaws.{scanned_none}
use Rattle.tree_ranges.proofs.StretchLaws.{scanned_past, scanned_slow, scanned_stops, scanning_live, scanning_more}
use Rattle.tree_ranges.proofs.StretchLaws.{scanning_none, scanning_tree}
use Rattle.tree_ranges.proofs.scanning.scan_range.Goals as goal

pub returns-then-low-high-clause-scans : goal.returns-then-low-high-clause-scans
returns-then-low-high-clause-scans c =
    scanned_none c.args.sets.now c.args.storage c.args.low c.args.high c.args.rows.now (view c.args.pass.now)
    c.requires.live c.if-low-high.true c.requires.none

pub loop-from-init : goal.loop-from-init
loop-from-init c = record {
  of = c.requires.of;
  scans = subst
      (λ (l : List (ℕ × ℕ)). IsScanning c.args.sets.now c.args.storage c.args.low c.args.high (view c.args.pass.now)
      c.args.sets.now c.args.low l (view c.args.pass.now)) (sym c.requires.none)
      (scanning_none c.args.sets.now c.args.storage c.args.low c.args.high (view c.args.pass.now) c.requires.live
      (let e = c.if-low-high.false in omega (arith, e)));
}

pub scan_some-requires-clause-live : goal.scan_some-requires-clause-live
scan_some-requires-clause-live c =
    scanning_live c.args.sets.now c.args.storage c.args.low c.args.high (view c.args.pass.now) c.requires.live
    (let e = c.if-low-high.false in omega (arith, e)) c.loop-from.sets c.loop-from.from c.loop-from.rows
    (view c.loop-from.pass)
    c.loop-from.invariant.scans

pub scan_some-requires-clause-tree : goal.scan_some-requires-clause-tree
scan_some-requires-clause-tree c =
    scanning_tree c.args.sets.now c.args.storage c.args.low c.args.high (view c.args.pass.now) c.requires.live
    (let e = c.if-low-high.false in omega (arith, e)) c.loop-from.sets c.loop-from.from c.loop-from.rows
    (view c.loop-from.pass)
    c.loop-from.invariant.scans c.requires.tree

pub scan_some-requires-clause-few : goal.scan_some-requires-clause-few
scan_some-requires-clause-few c = c.loop-from.invariant.scans.few

pub returns-in_err-to-clause-stops : goal.returns-in_err-to-clause-stops
returns-in_err-to-clause-stops c =
    let p = err_from_is_err_and c.from_residual.result c.from_residual.ensures.1 in
    rw (p.1, p.2)
    (scanned_stops c.args.sets.now c.args.storage c.args.low c.args.high (view c.args.pass.now) c.requires.live
    (let e = c.if-low-high.false in omega (arith, e)) c.loop-from.sets c.loop-from.from c.loop-from.rows
    (view c.loop-from.pass)
    c.loop-from.invariant.scans
    c.in_err-to.field-0.0 c.scan_some.new.sets c.scan_some.new.rows (view c.scan_some.new.pass)
    c.loop-from-test.true c.in_err-to.ensures.comes)

pub returns-in_err-to-clause-most : goal.returns-in_err-to-clause-most
returns-in_err-to-clause-most c =
    scanned_slow c.args.sets.now c.args.storage c.args.low c.args.high (view c.args.pass.now) c.requires.live
    (let e = c.if-low-high.false in omega (arith, e)) c.loop-from.sets c.loop-from.from c.loop-from.rows
    (view c.loop-from.pass)
    c.loop-from.invariant.scans
    c.in_err-to.field-0.0 c.scan_some.new.sets c.scan_some.new.rows (view c.scan_some.new.pass)
    c.loop-from-test.true c.in_err-to.ensures.comes

pub returns-then-is_full-clause-scans : goal.returns-then-is_full-clause-scans
returns-then-is_full-clause-scans c =
    scanned_full c.args.sets.now c.args.storage c.args.low c.args.high (view c.args.pass.now) c.requires.live
    (let e = c.if-low-high.false in omega (arith, e)) c.loop-from.sets c.loop-from.from c.loop-from.rows
    (view c.loop-from.pass)
    c.loop-from.invariant.scans
    c.scan_some.new.sets c.scan_some.new.rows (view c.scan_some.new.pass) c.in_ok-to.to c.loop-from-test.true
    c.in_ok-to.ensures.comes (eqb-true _ 16 (sym c.is_full.ensures ∙ c.if-is_full.true))

pub returns-then-is_full-clause-most : goal.returns-then-is_full-clause-most
returns-then-is_full-clause-most c =
    more_slow c.args.sets.now c.args.storage c.args.low c.args.high (view c.args.pass.now) c.requires.live
    (let e = c.if-low-high.false in omega (arith, e)) c.loop-from.sets c.loop-from.from c.loop-from.rows
    (view c.loop-from.pass)
    c.loop-from.invariant.scans
    c.scan_some.new.sets c.scan_some.new.rows (view c.scan_some.new.pass) c.in_ok-to.to c.loop-from-test.true
    c.in_ok-to.ensures.comes

pub returns-then-to-high-clause-scans : goal.returns-then-to-high-clause-scans
returns-then-to-high-clause-scans c =
    scanned_last c.args.sets.now c.args.storage c.args.low c.args.high (view c.args.pass.now) c.requires.live
    (let e = c.if-low-high.false in omega (arith, e)) c.loop-from.sets c.loop-from.from c.loop-from.rows
    (view c.loop-from.pass)
    c.loop-from.invariant.scans
    c.scan_some.new.sets c.scan_some.new.rows (view c.scan_some.new.pass) c.in_ok-to.to c.loop-from-test.true
    c.in_ok-to.ensures.comes c.if-to-high.true

pub returns-then-to-high-clause-most : goal.returns-then-to-high-clause-most
returns-then-to-high-clause-most c =
    more_slow c.args.sets.now c.args.storage c.args.low c.args.high (view c.args.pass.now) c.requires.live
    (let e = c.if-low-high.false in omega (arith, e)) c.loop-from.sets c.loop-from.from c.loop-from.rows
    (view c.loop-from.pass)
    c.loop-from.invariant.scans
    c.scan_some.new.sets c.scan_some.new.rows (view c.scan_some.new.pass) c.in_ok-to.to c.loop-from-test.true
    c.in_ok-to.ensures.comes

pub overflow_add-from : goal.overflow_add-from
overflow_add-from c =
    let within = c.in_ok-to.ensures.comes.read.within in
    let ne = c.if-to-high.false in omega (arith, within, ne)

pub loop-from-smaller : goal.loop-from-smaller
loop-from-smaller c =
    let up = more_up c.args.sets.now c.args.storage c.args.low c.args.high (view c.args.pass.now) c.requires.live
    (let e = c.if-low-high.false in omega (arith, e)) c.loop-from.sets c.loop-from.from c.loop-from.rows
    (view c.loop-from.pass)
    c.loop-from.invariant.scans
    c.scan_some.new.sets c.scan_some.new.rows (view c.scan_some.new.pass) c.in_ok-to.to c.loop-from-test.true
    c.in_ok-to.ensures.comes in
    let test = c.loop-from-test.true in omega (arith, up, test)

pub loop-from-preserved : goal.loop-from-preserved
loop-from-preserved c = record {
  of = c.scan_some.ensures.of;
  scans = scanning_more c.args.sets.now c.args.storage c.args.low c.args.high (view c.args.pass.now) c.requires.live
      (let e = c.if-low-high.false in omega (arith, e)) c.loop-from.sets c.loop-from.from c.loop-from.rows
      (view c.loop-from.pass)
      c.loop-from.invariant.scans
      c.scan_some.new.sets c.scan_some.new.rows (view c.scan_some.new.pass) c.in_ok-to.to c.loop-from-test.true
      c.in_ok-to.ensures.comes (λ same. true≢false (sym (eq-eqb _ 16 same) ∙ (sym c.is_full.ensures
      ∙ c.if-is_full.false)))
      c.if-to-high.false;
}

pub returns-clause-scans : goal.returns-clause-scans
returns-clause-scans c =
    scanned_past c.args.sets.now c.args.storage c.args.low c.args.high (view c.args.pass.now) c.requires.live
    (let e = c.if-low-high.false in omega (arith, e)) c.loop-from.sets c.loop-from.from c.loop-from.rows
    (view c.loop-from.pass)
    c.loop-from.invariant.scans (let e = c.loop-from-test.false in omega (arith, e))

pub returns-clause-most : goal.returns-clause-most
returns-clause-most c =
    scanned_most c.args.sets.now c.args.storage c.args.low c.args.high (view c.args.pass.now) c.requires.live
    (let e = c.if-low-high.false in omega (arith, e)) c.loop-from.sets c.loop-from.from c.loop-from.rows
    (view c.loop-from.pass)
    c.loop-from.invariant.scans
