-- The steps of a join are a join.
use Rattle.std.proofs.Common.{◌∙◌, ap, subst, sym}
use Rattle.std.specs.Prelude.{◌||◌, is_some}
use Rattle.round_engine.specs.Joins.{Joins}
use Rattle.round_engine.specs.Phases.{ended_as, fails_device}
use Rattle.round_engine.specs.Standing.{RuntimeState}
use Rattle.round_engine.proofs.JoinAlone.{ended_still, join_alone}
use Rattle.round_engine.proofs.LinesLeft.{logs_up}
use Rattle.round_engine.proofs.joins.join_round.Goals as goal

pub join_logs-durable-requires-clause-stored : goal.join_logs-durable-requires-clause-stored
join_logs-durable-requires-clause-stored g c = c.requires.stands.stored (c.requires.stands.up c.requires.up).save

pub join_logs-durable-requires-clause-logs : goal.join_logs-durable-requires-clause-logs
join_logs-durable-requires-clause-logs g c = logs_up c.requires.stands (c.requires.stands.up c.requires.up)

pub join_logs-durable-requires-clause-durable : goal.join_logs-durable-requires-clause-durable
join_logs-durable-requires-clause-durable g c = c.requires.stands.durable

pub returns : goal.returns
returns g c =
    let swapped : RuntimeState = c.join_logs-durable.new.runtime in
    let durable = c.join_logs-durable.result.0 in
    let end = c.join_logs-durable.result.1 in
    let js = c.join_logs-durable.ensures.runs in
    record {
      joins = subst (λ e. Joins g.D.Disk.tells g.D.Disk.clock g.D.Disk.image_at g.D.Disk.faults c.args.runtime.now
          c.end_joined.new.self c.args.vault.now c.join_logs-durable.new.vault durable e) (sym c.end_joined.ensures.end)
          (join_alone c.requires.stands c.requires.up durable end swapped js
          (c.end_joined.ensures.runtime
          ∙ ap (λ b. ended_as swapped (b || is_some end) (fails_device end)) (ended_still js)) g.met.D.Disk.reads);
    }
