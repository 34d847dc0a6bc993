use Rattle.std.proofs.Common.{ℕ, arith, subst}
use Rattle.atomic_table.specs.Table.{Splits}
use Rattle.engine_pages.specs.Rule.{Shows}
use Rattle.engine_seats.specs.Cuts.{seated, worker_view}
use Rattle.engine_seats.proofs.Cutting.{seats}
use Rattle.engine_seats.proofs.seating.seat_as.Goals as goal

pub split_seat-requires : goal.split_seat-requires
split_seat-requires g c =
    let v = c.args.keeper.now.me.0 in (
      c.requires.of.table,
      (let long = c.args.engine.now.long in omega arith),
      subst (λ (k : ℕ). Splits {S = Unit {0}} (λ s. Shows c.args.engine.now.table.shared.key s.words s.views)
          c.args.keeper.now.id v (seated k v) (worker_view k v)) c.requires.named
          (seats _ _ _ _ c.requires.keeper c.requires.locks c.requires.worker.0 c.requires.worker.1),
    )
