-- One place more.
use Rattle.std.proofs.Common.{◌≡◌, ◌+◌, ◌*◌, ap, refl, arith}
use Rattle.engine_rule.proofs.ReadRows.{row_push}
use Rattle.engine_rule.proofs.below.row.Goals as goal

pub loop-i-preserved : goal.loop-i-preserved
loop-i-preserved c =
    let more : (c.loop-i.i + 1) * c.args.part ≡ c.loop-i.i * c.args.part + c.args.part = omega arith in
    record {
      so_far = row_push c.args.words.now c.args.part c.args.low c.loop-i.i c.loop-i.places c.push.new.self _ c.loop-i.next (c.loop-i.next + c.saturating_sub.result)
          c.in_ok-push.ensures.ok c.loop-i.invariant.so_far refl c.loop-i.invariant.next (ap (λ n. c.loop-i.next + n) c.saturating_sub.ensures);
      next = omega (arith, more, c.loop-i.invariant.next);
      small = omega (arith, c.loop-i.invariant.small, c.requires.part);
    }
