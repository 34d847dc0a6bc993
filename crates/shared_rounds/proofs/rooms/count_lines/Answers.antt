-- One line more.
use Rattle.std.proofs.Common.{◌∙◌, ◌+◌, arith, ap, sym}
use Rattle.shared_rounds.specs.Rooms.{counts_for}
use Rattle.shared_rounds.proofs.Counts.{counts_next, lines_upto}
use Rattle.shared_rounds.proofs.rooms.count_lines.Goals as goal

pub loop-index-preserved : goal.loop-index-preserved
loop-index-preserved c = record {
  workers = c.count_one.ensures.workers;
  each = λ worker less.
      c.count_one.ensures.counts worker less
      ∙ ap (λ n. n + counts_for c.worker.result worker) (c.loop-index.invariant.each worker less)
      ∙ sym (counts_next worker c.loop-index.index c.args.round.now.lines c.worker.result c.worker.ensures);
}

pub count_one-requires-clause-few : goal.count_one-requires-clause-few
count_one-requires-clause-few c = λ other less.
    let is = c.loop-index.invariant.each other less in
    let few = lines_upto other c.loop-index.index c.args.round.now.lines in
    omega (arith, is, few, c.requires)
