use Rattle.std.proofs.Common.{◌<◌, ◌^◌, ◌∙◌, ap, arith, length, lit<, lit≤, refl, subst, sym}
use Rattle.std.specs.List.{AllByRecursion}
use Rattle.worker_logs.proofs.Turns.{lengths_all, lengths_length}
use Rattle.worker_logs.proofs.seen.saved_seen.Goals as goal

pub returns-clause-ranges : goal.returns-clause-ranges
returns-clause-ranges c =
    let beside = c.args.beside.now in
    let lengths = c.lengths.ensures.lengths in
    record {
      first = lit≤ tt;
      last = lit< tt;
      epoch = omega (arith, c.least_seen.ensures.at_most, c.requires.first, c.requires.last);
      catalogue = c.requires.beside.some_page;
      newest = refl;
      count = c.requires.beside.most_pages;
      banks = ap length lengths
          ∙ lengths_length beside.growing c.lengths_seen.result beside.closed c.lengths_seen.ensures.workers
          c.requires.beside.workers;
      lengths = subst (AllByRecursion (λ n. n < 2 ^ 40)) (sym lengths)
          (lengths_all (λ n. n < 2 ^ 40) beside.growing c.lengths_seen.result beside.closed
          c.lengths_seen.ensures.counted c.requires.beside.counted);
    }
