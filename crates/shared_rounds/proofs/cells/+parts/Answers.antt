-- The cells of both parts were run.
use Rattle.std.proofs.Common.{rules, ◌≡◌, ◌<◌, List, ◌++◌, length, sym, subst}
use Rattle.std.specs.Prelude.{slice_index_or}
use Rattle.worker_cells.specs.declared.cell.Cell.{Cell}
use Rattle.shared_rounds.specs.Seated.{HasRun}
use Rattle.shared_rounds.proofs.Halves.{both_go}
use Rattle.shared_rounds.proofs.cells.+parts.Goals as goal

pub run_all-returns : goal.run_all-returns
run_all-returns g t c = record {
  ran = λ k d less.
      let part : List (Cell g.row.D.Denot) = c.split_at_mut-part.result.0.now in
      let same : length c.run_both.new.part ≡ length part = search rules in
      subst (λ (xs : List (Cell g.row.D.Denot)). k < length xs → HasRun g.D.Disk.tells g.D.Disk.clock g.D.Disk.image_at
      g.D.Disk.faults c.args.tries c.args.round.now c.args.engine.now (slice_index_or xs k d)
      (slice_index_or (c.run_both.new.part ++ c.run_both.new.rest) k d)) (sym c.split_at_mut-part.ensures.value)
      (both_go (HasRun g.D.Disk.tells g.D.Disk.clock g.D.Disk.image_at g.D.Disk.faults c.args.tries c.args.round.now
      c.args.engine.now) d part c.split_at_mut-part.result.1.now c.run_both.new.part c.run_both.new.rest same
      (λ j below. c.run_both.ensures.part j d below) (λ j below. c.run_both.ensures.rest j d below) k) less;
}
