-- The kinds of refusals follow one another.
use Rattle.std.specs.Option.{option_map}
use Rattle.round_engine.specs.Ends.{limit_at}
use Rattle.round_engine.specs.Refusals.{damage_in, memory_in}
use Rattle.round_engine.specs.declared.report.End.TheVariants as ends
use Rattle.round_engine.specs.declared.report.LimitName.TheVariants.{Bank, Draw, Sequence}
use Rattle.round_engine.proofs.EndKinds.{by_kinds}
use Rattle.round_engine.proofs.rounds.lines_refused.Goals as goal

pub returns : goal.returns
returns g =
    let r = g.args.refused in
    rw (
      g.or-4.ensures,
      g.or-3.ensures,
      g.or-2.ensures,
      g.or-limits.ensures,
      g.or.ensures,
      g.by_device.ensures,
      g.damage_in.ensures,
      g.by_limit-draw.ensures,
      g.by_limit-full.ensures,
      g.by_limit-sequence.ensures,
      g.memory_in.ensures,
    )
    (by_kinds (option_map ends.Device r.device) (damage_in r.keeper) (option_map (limit_at Draw) r.draw)
    (option_map (limit_at Bank) r.full) (option_map (limit_at Sequence) r.sequence) (memory_in r.keeper))
