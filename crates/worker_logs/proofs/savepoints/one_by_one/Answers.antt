use Rattle.std.proofs.Common.{[], arith}
use Rattle.worker_logs.proofs.Turns.{turn_end, turn_from}
use Rattle.worker_logs.proofs.savepoints.one_by_one.Goals as goal

pub returns : goal.returns
returns c =
    let even = c.args.even.now in
    let odd = c.args.odd.now in
    let eight = c.requires.even in
    let odd_eight = c.requires.odd in
    record {
      lengths =
          turn_from even odd 0 _ (omega (arith, eight)) (omega (arith, odd_eight))
          (turn_from even odd 1 _ (omega (arith, eight)) (omega (arith, odd_eight))
          (turn_from even odd 2 _ (omega (arith, eight)) (omega (arith, odd_eight))
          (turn_from even odd 3 _ (omega (arith, eight)) (omega (arith, odd_eight))
          (turn_from even odd 4 _ (omega (arith, eight)) (omega (arith, odd_eight))
          (turn_from even odd 5 _ (omega (arith, eight)) (omega (arith, odd_eight))
          (turn_from even odd 6 _ (omega (arith, eight)) (omega (arith, odd_eight))
          (turn_from even odd 7 [] (omega (arith, eight)) (omega (arith, odd_eight))
          (turn_end even odd eight))))))));
    }
