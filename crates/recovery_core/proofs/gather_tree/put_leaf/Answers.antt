use Rattle.std.proofs.Common.{◌≡◌, ◌-◌, drop, sym, subst, arith}
use Rattle.recovery_core.specs.Gather.{Puts, tree_records}
use Rattle.recovery_core.proofs.GatherTreeLaws.{records_in, record_put, records_begin}
use Rattle.recovery_core.proofs.gather_tree.put_leaf.Goals as goal

pub loop-i-init : goal.loop-i-init
loop-i-init c = record {
  within = omega (arith, c.count_of-i.ensures.is);
  put = records_begin c.args.id c.args.words.now c.count_of-i.result c.args.state.now (sym c.count_of-i.ensures.is);
}

pub loop-i-preserved : goal.loop-i-preserved
loop-i-preserved c = record {
  within = omega (arith, c.loop-i.invariant.within);
  put = record_put c.args.id c.args.words.now
      (c.loop-i.i - 1) c.loop-i.i c.args.state.now c.loop-i.state c.put.new.state
      (omega (arith, c.loop-i.invariant.within, c.loop-i-test.true)) (omega (arith, c.loop-i-test.true))
      c.loop-i.invariant.put c.in_ok-put.ensures;
}

pub returns : goal.returns
returns c =
    let none : c.loop-i.i ≡ 0 = omega (arith, c.loop-i-test.false) in
    subst (λ k. Puts (tree_records
    (drop k (records_in c.args.words.now)) c.args.id) c.args.state.now c.loop-i.state) none c.loop-i.invariant.put
