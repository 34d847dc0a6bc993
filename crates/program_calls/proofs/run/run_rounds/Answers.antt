-- The run begins, and its rounds are run; or it doesn't begin.
use Rattle.std.proofs.Common.{inl, inr, refl}
use Rattle.program_calls.proofs.Here.{here}
use Rattle.program_calls.proofs.RunEnds.{not_begun}
use Rattle.program_calls.proofs.Telling.{none_ran, none_told}
use Rattle.program_calls.proofs.run.run_rounds.Goals as goal

-- ---- it doesn't begin

pub returns-in-Err-clause-runs : goal.returns-in-Err-clause-runs
returns-in-Err-clause-runs g c =
    not_begun _ _ _ _ _ _ _ _ _ (g.met.D.Disk g.world.𝓛 g.world.𝓜 g.world.𝓡 (here _)).reads _ c.in-Err.ending c.in-Err.ensures.ends (
      refl,
      none_told c.args.teller.now.brief _ _ c.requires.fresh,
    )

pub returns-in-Err-clause-whole : goal.returns-in-Err-clause-whole
returns-in-Err-clause-whole g c = λ ran. absurd (none_ran _ c.requires.fresh ran)

pub returns-in-Err-clause-reads : goal.returns-in-Err-clause-reads
returns-in-Err-clause-reads g c = λ only. c.in-Err.ensures.ends.reads (inl only)

pub returns-in-Err-clause-damage : goal.returns-in-Err-clause-damage
returns-in-Err-clause-damage g c = λ six found now told told_now. c.in-Err.ensures.ends.reads (inr six)

pub returns-in-Err-clause-rests : goal.returns-in-Err-clause-rests
returns-in-Err-clause-rests g c = c.in-Err.ensures.ends.rests

-- ---- it begins

pub run_from-requires-clause-begun : goal.run_from-requires-clause-begun
run_from-requires-clause-begun g c κs within = (_, c.in-Ok.ensures.begins)

pub returns-in-Ok-clause-runs : goal.returns-in-Ok-clause-runs
returns-in-Ok-clause-runs g c = (c.run_from.ensures _ c.in-Ok.ensures.begins).runs

pub returns-in-Ok-clause-whole : goal.returns-in-Ok-clause-whole
returns-in-Ok-clause-whole g c = λ ran. (c.run_from.ensures _ c.in-Ok.ensures.begins).whole

pub returns-in-Ok-clause-reads : goal.returns-in-Ok-clause-reads
returns-in-Ok-clause-reads g c = (c.run_from.ensures _ c.in-Ok.ensures.begins).reads

pub returns-in-Ok-clause-damage : goal.returns-in-Ok-clause-damage
returns-in-Ok-clause-damage g c = (c.run_from.ensures _ c.in-Ok.ensures.begins).damage

pub returns-in-Ok-clause-rests : goal.returns-in-Ok-clause-rests
returns-in-Ok-clause-rests g c = (c.run_from.ensures _ c.in-Ok.ensures.begins).rests
