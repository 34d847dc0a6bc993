use Rattle.std.proofs.Common.{arith}
use Rattle.script_grammar.proofs.FrontLines.{none_read, one_read}
use Rattle.script_grammar.proofs.reader.read_front.Goals as goal

pub loop-count-init : goal.loop-count-init
loop-count-init c = record {
  leaves = none_read c.args.bytes.now c.args.reader.now;
  within = omega arith;
  room = λ some. let room = c.room-room.ensures.within some in omega arith;
}

pub loop-count-preserved : goal.loop-count-preserved
loop-count-preserved c =
    let before = c.loop-count.invariant in
    let is = rw c.in-Some.is at c.in_ok-end.ensures in
    let room = before.room c.loop-count-test.true in
    let within = is.within in
    record {
      leaves = one_read c.args.bytes.now c.loop-count.at c.args.reader.now c.loop-count.reader c.take_front.new.self c.loop-count.count c.in-Some.end before.leaves before.within is;
      within = omega arith;
      room = λ some. omega (arith, is.one);
    }
