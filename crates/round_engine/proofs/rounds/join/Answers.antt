-- The join is left out, or its steps are made.
use Rattle.std.proofs.Common.{◌≡◌, ◌∙◌, ap, inr, subst, sym}
use Rattle.std.specs.Prelude.{is_some}
use Rattle.round_engine.specs.Phases.{ended_as, fails_device}
use Rattle.round_engine.proofs.rounds.join.Goals as goal

pub join_logs-durable-requires-clause-stored : goal.join_logs-durable-requires-clause-stored
join_logs-durable-requires-clause-stored g c =
    (c.requires.ready (sym c.leaves_join_out.ensures ∙ c.if-leaves_join_out.false)).stored

pub join_logs-durable-requires-clause-durable : goal.join_logs-durable-requires-clause-durable
join_logs-durable-requires-clause-durable g c =
    (c.requires.ready (sym c.leaves_join_out.ensures ∙ c.if-leaves_join_out.false)).durable

pub returns : goal.returns
returns g c = record {
  joins = inr (
    sym c.leaves_join_out.ensures ∙ c.if-leaves_join_out.false,
    c.join_logs-durable.new.runtime,
    c.join_logs-durable.result.1,
    c.join_logs-durable.ensures.runs,
    c.end_with.ensures.end ∙ c.first_refusal-2.ensures,
    subst (λ e. c.end_with.new.self ≡ ended_as c.join_logs-durable.new.runtime (is_some e)
        (fails_device c.join_logs-durable.result.1)) (sym c.end_with.ensures.end) (c.end_with.ensures.runtime
        ∙ ap (ended_as c.join_logs-durable.new.runtime (is_some c.first_refusal-2.result)) c.names_device-down.ensures),
  );
}
