-- A join, and the swap behind it.
use Rattle.std.proofs.Common.{◌∙◌, ap, refl, subst, sym, None, Ok, Err}
use Rattle.std.specs.List.{AllByRecursion}
use Rattle.std.specs.Prelude.{◌<◌, ◌^◌, is_some}
use Rattle.round_engine.specs.Standing.{RuntimeState}
use Rattle.round_engine.proofs.Places.{nothing_there}
use Rattle.round_engine.proofs.joins.join_logs.Goals as goal

pub swap-requires-clause-stored : goal.swap-requires-clause-stored
swap-requires-clause-stored g c =
    let runs = c.in-Ok.ensures.runs in
    runs.keeps.stands (nothing_there c.save_joined.new.runtime.save.down
    (runs.keeps.down ∙ ap is_some runs.answer.4))

pub returns-in-Err : goal.returns-in-Err
returns-in-Err g c = record {
  runs = record {
    result = Err c.in-Err.end;
    joined = c.save_joined.new.runtime;
    between = c.save_joined.new.vault;
    joins = c.in-Err.ensures.runs;
    cut_end = None;
    swaps = (refl, refl, refl);
    counted = subst (λ (r : RuntimeState). AllByRecursion (λ n. n < 2 ^ 40) r.counted) (sym c.in-Err.ensures.runs.alone)
        c.requires.closed.counted;
    durable_is = refl;
    end_is = refl;
  };
}

pub returns-in-Ok : goal.returns-in-Ok
returns-in-Ok g c = record {
  runs = record {
    result = Ok c.in-Ok.epoch;
    joined = c.save_joined.new.runtime;
    between = c.save_joined.new.vault;
    joins = c.in-Ok.ensures.runs;
    cut_end = c.swap.result;
    swaps = c.swap.ensures.swaps;
    counted = c.swap.ensures.counted;
    durable_is = refl;
    end_is = refl;
  };
}
