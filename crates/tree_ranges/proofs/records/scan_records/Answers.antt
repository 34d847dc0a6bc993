use Rattle.std.proofs.Common.{◌≡◌, ℕ, ◌+◌, ◌<◌, ◌≤◌, sym, ap, ◌∙◌, subst, arith, true, eqb, eqb-true, true≢false}
use Rattle.std.proofs.Common.{eq-eqb}
use Rattle.std.proofs.lemmas.Result.{err_from_is_err_and}
use Rattle.engine_pages.specs.Passes.{view}
use Rattle.page_commit.proofs.WalkedLaws.{can_walk}
use Rattle.tree_ranges.proofs.LoopLaws.{glance_above, glance_free, glance_from, glance_leaf, glance_live, glance_met}
use Rattle.tree_ranges.proofs.LoopLaws.{glance_none}
use Rattle.tree_ranges.proofs.LoopLaws.{reading_leaf, reading_live, reading_none, reading_past, record_full}
use Rattle.tree_ranges.proofs.LoopLaws.{record_last}
use Rattle.tree_ranges.proofs.LoopLaws.{record_more, record_stops}
use Rattle.tree_ranges.proofs.records.scan_records.Goals as goal

pub loop-from-init : goal.loop-from-init
loop-from-init c = record {
  of = c.requires.of;
  reads = reading_none c.args.sets.now c.args.key c.args.leaf c.args.top c.args.rows.now (view c.args.pass.now)
      c.requires.live c.requires.taken c.requires.free c.requires.top c.requires.few;
}

pub smallest_from-requires-clause-active : goal.smallest_from-requires-clause-active
smallest_from-requires-clause-active c =
    (can_walk c.loop-from.sets (view c.loop-from.pass)
    (reading_live c.args.sets.now c.args.key c.args.leaf c.args.top c.args.rows.now (view c.args.pass.now)
    c.requires.live c.requires.taken c.requires.free c.requires.top c.loop-from.sets c.loop-from.from
    c.loop-from.rows (view c.loop-from.pass)
    c.loop-from.invariant.reads)).active

pub smallest_from-requires-clause-leaf : goal.smallest_from-requires-clause-leaf
smallest_from-requires-clause-leaf c =
    reading_leaf c.args.sets.now c.args.key c.args.leaf c.args.top c.args.rows.now (view c.args.pass.now)
    c.requires.live c.requires.taken c.requires.free c.requires.top c.loop-from.sets c.loop-from.from
    c.loop-from.rows (view c.loop-from.pass)
    c.loop-from.invariant.reads

pub returns-in_default-clause-comes : goal.returns-in_default-clause-comes
returns-in_default-clause-comes c =
    glance_none c.args.sets.now c.args.key c.args.leaf c.args.top c.args.rows.now (view c.args.pass.now)
    c.requires.live c.requires.taken c.requires.free c.requires.top c.loop-from.sets c.loop-from.from
    c.loop-from.rows (view c.loop-from.pass)
    c.loop-from.invariant.reads
    (view c.smallest_from.new.pass) c.smallest_from.result c.smallest_from.ensures.glances c.smallest_from.ensures.most
    c.smallest_from.ensures.smallest c.in_default.is

pub returns-then-next-top-clause-comes : goal.returns-then-next-top-clause-comes
returns-then-next-top-clause-comes c =
    glance_above c.args.sets.now c.args.key c.args.leaf c.args.top c.args.rows.now (view c.args.pass.now)
    c.requires.live c.requires.taken c.requires.free c.requires.top c.loop-from.sets c.loop-from.from
    c.loop-from.rows (view c.loop-from.pass)
    c.loop-from.invariant.reads
    (view c.smallest_from.new.pass) c.smallest_from.result c.smallest_from.ensures.glances c.smallest_from.ensures.most
    c.smallest_from.ensures.smallest c.in-Some.next c.in-Some.is c.if-next-top.true

pub scan_record-requires-clause-live : goal.scan_record-requires-clause-live
scan_record-requires-clause-live c =
    glance_live c.args.sets.now c.args.key c.args.leaf c.args.top c.args.rows.now (view c.args.pass.now)
    c.requires.live c.requires.taken c.requires.free c.requires.top c.loop-from.sets c.loop-from.from
    c.loop-from.rows (view c.loop-from.pass)
    c.loop-from.invariant.reads
    (view c.smallest_from.new.pass) c.smallest_from.result c.smallest_from.ensures.glances c.smallest_from.ensures.most
    c.smallest_from.ensures.smallest

pub scan_record-requires-clause-leaf : goal.scan_record-requires-clause-leaf
scan_record-requires-clause-leaf c =
    glance_leaf c.args.sets.now c.args.key c.args.leaf c.args.top c.args.rows.now (view c.args.pass.now)
    c.requires.live c.requires.taken c.requires.free c.requires.top c.loop-from.sets c.loop-from.from
    c.loop-from.rows (view c.loop-from.pass)
    c.loop-from.invariant.reads
    (view c.smallest_from.new.pass) c.smallest_from.result c.smallest_from.ensures.glances c.smallest_from.ensures.most
    c.smallest_from.ensures.smallest c.in-Some.next c.in-Some.is

pub scan_record-requires-clause-met : goal.scan_record-requires-clause-met
scan_record-requires-clause-met c =
    glance_met c.args.sets.now c.args.key c.args.leaf c.args.top c.args.rows.now (view c.args.pass.now)
    c.requires.live c.requires.taken c.requires.free c.requires.top c.loop-from.sets c.loop-from.from
    c.loop-from.rows (view c.loop-from.pass)
    c.loop-from.invariant.reads
    (view c.smallest_from.new.pass) c.smallest_from.result c.smallest_from.ensures.glances c.smallest_from.ensures.most
    c.smallest_from.ensures.smallest

pub scan_record-requires-clause-free : goal.scan_record-requires-clause-free
scan_record-requires-clause-free c =
    glance_free c.args.sets.now c.args.key c.args.leaf c.args.top c.args.rows.now (view c.args.pass.now)
    c.requires.live c.requires.taken c.requires.free c.requires.top c.loop-from.sets c.loop-from.from
    c.loop-from.rows (view c.loop-from.pass)
    c.loop-from.invariant.reads
    (view c.smallest_from.new.pass) c.smallest_from.result c.smallest_from.ensures.glances c.smallest_from.ensures.most
    c.smallest_from.ensures.smallest c.in-Some.next c.in-Some.is (let e = c.if-next-top.false in omega (arith, e))
    (view c.smallest_from.new.pass) c.loop-from.sets c.loop-from.rows

pub scan_record-requires-clause-few : goal.scan_record-requires-clause-few
scan_record-requires-clause-few c = c.loop-from.invariant.reads.few

pub returns-in_err-scan_record-clause-comes : goal.returns-in_err-scan_record-clause-comes
returns-in_err-scan_record-clause-comes c =
    let p = err_from_is_err_and c.from_residual.result c.from_residual.ensures.1 in
    rw (p.1, p.2)
    (record_stops c.args.sets.now c.args.key c.args.leaf c.args.top c.args.rows.now (view c.args.pass.now)
    c.requires.live c.requires.taken c.requires.free c.requires.top c.loop-from.sets c.loop-from.from
    c.loop-from.rows (view c.loop-from.pass)
    c.loop-from.invariant.reads
    (view c.smallest_from.new.pass) c.smallest_from.result c.smallest_from.ensures.glances c.smallest_from.ensures.most
    c.smallest_from.ensures.smallest c.in-Some.next c.in-Some.is (let e = c.if-next-top.false in omega (arith, e))
    (view c.scan_record.new.pass) c.scan_record.new.sets c.scan_record.new.rows c.in_err-scan_record.field-0.0
    c.scan_record.new.rows c.in_err-scan_record.ensures.takes)

pub returns-then-is_full-clause-comes : goal.returns-then-is_full-clause-comes
returns-then-is_full-clause-comes c =
    record_full c.args.sets.now c.args.key c.args.leaf c.args.top c.args.rows.now (view c.args.pass.now)
    c.requires.live c.requires.taken c.requires.free c.requires.top c.loop-from.sets c.loop-from.from
    c.loop-from.rows (view c.loop-from.pass)
    c.loop-from.invariant.reads
    (view c.smallest_from.new.pass) c.smallest_from.result c.smallest_from.ensures.glances c.smallest_from.ensures.most
    c.smallest_from.ensures.smallest c.in-Some.next c.in-Some.is (let e = c.if-next-top.false in omega (arith, e))
    (view c.scan_record.new.pass) c.scan_record.new.sets c.scan_record.new.rows c.in_ok-scan_record.ensures.takes

pub returns-then-next-top-2-clause-comes : goal.returns-then-next-top-2-clause-comes
returns-then-next-top-2-clause-comes c =
    record_last c.args.sets.now c.args.key c.args.leaf c.args.top c.args.rows.now (view c.args.pass.now)
    c.requires.live c.requires.taken c.requires.free c.requires.top c.loop-from.sets c.loop-from.from
    c.loop-from.rows (view c.loop-from.pass)
    c.loop-from.invariant.reads
    (view c.smallest_from.new.pass) c.smallest_from.result c.smallest_from.ensures.glances c.smallest_from.ensures.most
    c.smallest_from.ensures.smallest c.in-Some.next c.in-Some.is (let e = c.if-next-top.false in omega (arith, e))
    (view c.scan_record.new.pass) c.scan_record.new.sets c.scan_record.new.rows c.in_ok-scan_record.ensures.takes
    c.if-next-top-2.true

pub loop-from-smaller : goal.loop-from-smaller
loop-from-smaller c =
    let low = glance_from c.args.sets.now c.args.key c.args.leaf c.args.top c.args.rows.now (view c.args.pass.now)
    c.requires.live c.requires.taken c.requires.free c.requires.top c.loop-from.sets c.loop-from.from
    c.loop-from.rows (view c.loop-from.pass)
    c.loop-from.invariant.reads
    (view c.smallest_from.new.pass) c.smallest_from.result c.smallest_from.ensures.glances c.smallest_from.ensures.most
    c.smallest_from.ensures.smallest c.in-Some.next c.in-Some.is in
    let test = c.loop-from-test.true in omega (arith, low, test)

pub loop-from-preserved : goal.loop-from-preserved
loop-from-preserved c = record {
  of = c.scan_record.ensures.of;
  reads = record_more c.args.sets.now c.args.key c.args.leaf c.args.top c.args.rows.now (view c.args.pass.now)
      c.requires.live c.requires.taken c.requires.free c.requires.top c.loop-from.sets c.loop-from.from
      c.loop-from.rows (view c.loop-from.pass)
      c.loop-from.invariant.reads
      (view c.smallest_from.new.pass) c.smallest_from.result c.smallest_from.ensures.glances
      c.smallest_from.ensures.most
      c.smallest_from.ensures.smallest c.in-Some.next c.in-Some.is (let e = c.if-next-top.false in omega (arith, e))
      (view c.scan_record.new.pass) c.scan_record.new.sets c.scan_record.new.rows c.in_ok-scan_record.ensures.takes
      (λ same. true≢false (sym (eq-eqb _ 16 same) ∙ (sym c.is_full.ensures ∙ c.if-is_full.false)))
      c.if-next-top-2.false;
}

pub returns-clause-comes : goal.returns-clause-comes
returns-clause-comes c =
    reading_past c.args.sets.now c.args.key c.args.leaf c.args.top c.args.rows.now (view c.args.pass.now)
    c.requires.live c.requires.taken c.requires.free c.requires.top c.loop-from.sets c.loop-from.from
    c.loop-from.rows (view c.loop-from.pass)
    c.loop-from.invariant.reads (let e = c.loop-from-test.false in omega (arith, e))
