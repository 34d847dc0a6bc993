use Rattle.std.proofs.Common.{◌++◌, drop, arith}
use Rattle.root_composer.specs.declared.row.Row.{Row}
use Rattle.root_composer.specs.Rows.{rows_below, rows_from}
use Rattle.root_composer.proofs.WordLemmas.{below_pushed, from_passed}
use Rattle.root_composer.proofs.row.push_below.Goals as goal

-- a row of nothing
abbrev nothing : Row
nothing = record { key = 0; number = 0; value = 0 }

pub loop-i-preserved : goal.loop-i-preserved
loop-i-preserved c =
    let rows = c.args.rows.now in
    let all = c.loop-i.all.items in
    record {
      added = below_pushed c.args.key c.loop-i.i nothing rows all c.push.new.self.items (c.args.all.now.items ++ rows_below c.args.key (drop c.args.at rows)) (omega arith) (omega arith) c.in_ok-push.ensures.items c.loop-i.invariant.added;
      left = from_passed c.args.key c.loop-i.i nothing rows (rows_from c.args.key (drop c.args.at rows)) (omega arith) (omega arith) c.loop-i.invariant.left;
    }
