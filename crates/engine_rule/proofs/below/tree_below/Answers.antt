-- One child more, and the last one.
use Rattle.std.proofs.Common.{◌≡◌, ◌+◌, get_or, ap, refl, arith}
use Rattle.engine_rule.proofs.ReadTrees.{has_count, child_pushed, children_done}
use Rattle.engine_rule.proofs.below.tree_below.Goals as goal

pub loop-i-preserved : goal.loop-i-preserved
loop-i-preserved c =
    child_pushed c.args.words.now c.told-words c.child_count-count.result
    (has_count c.args.words.now c.child_count-count.result c.child_count-count.ensures.is c.if-count-eq0.false)
    c.loop-i.low c.args.place.high c.loop-i.i c.loop-i.places c.push.new.self _ _ _ _
    (omega (arith, c.loop-i-test.true, c.loop-i.auto.i-end)) refl refl c.saturating_sub.ensures c.in_ok-push.ensures.ok
    c.loop-i.invariant

pub returns : goal.returns
returns c =
    let some = c.if-count-eq0.false in
    let last : c.loop-i.i + 1 ≡ c.child_count-count.result =
    omega (arith, c.loop-i-test.false, c.loop-i.auto.i-end, some) in
    let at : 3 + c.child_count-count.result ≡ 4 + c.loop-i.i = omega (arith, last) in
    children_done c.args.words.now c.told-words c.child_count-count.result
    (has_count c.args.words.now c.child_count-count.result c.child_count-count.ensures.is some)
    c.loop-i.low c.args.place.high c.loop-i.i c.loop-i.places c.push-2.new.self _ _ last
    (ap (λ k. get_or c.args.words.now k 0) at) c.in_ok-push-2.ensures.ok c.loop-i.invariant
