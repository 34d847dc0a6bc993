use Rattle.std.proofs.Common.{◌<◌, ◌^◌, ◌∙◌, ap, arith, length, lit<, lit≤, refl, subst, sym}
use Rattle.std.specs.List.{AllByRecursion}
use Rattle.worker_logs.proofs.Turns.{lengths_all, lengths_length}
use Rattle.worker_logs.proofs.savepoints.saved_by.Goals as goal

pub returns-clause-ranges : goal.returns-clause-ranges
returns-clause-ranges c =
    let beside = c.args.beside.now in
    let lengths = c.lengths.ensures.lengths in
    record {
      first = lit≤ tt;
      last = lit< tt;
      epoch = omega (arith, c.least_epoch.ensures.at_most, c.requires.first, c.requires.last);
      catalogue = c.requires.beside.some_page;
      newest = refl;
      count = c.requires.beside.most_pages;
      banks = ap length lengths ∙ lengths_length beside.growing c.marked_lengths.result beside.closed c.marked_lengths.ensures.workers
          c.requires.beside.workers;
      lengths = subst (AllByRecursion (λ n. n < 2 ^ 40)) (sym lengths)
          (lengths_all (λ n. n < 2 ^ 40) beside.growing c.marked_lengths.result beside.closed
          c.marked_lengths.ensures.counted c.requires.beside.counted);
    }
