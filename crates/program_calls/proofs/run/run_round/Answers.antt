-- A round is run and told, or memory is wanted for it.
use Rattle.std.proofs.Common.{inl, refl}
use Rattle.std.proofs.lemmas.Result.{err_from_is_err_and}
use Rattle.program_calls.proofs.Telling.{same_broken, same_told}
use Rattle.program_calls.proofs.run.run_round.Goals as goal

pub tell-requires : goal.tell-requires
tell-requires g c = record { few = λ counted. c.requires.few counted c.in-Ok.report _ _ c.in-Ok.ensures.rounds }

pub returns-in_err-tell-in-Ok-clause-runs : goal.returns-in_err-tell-in-Ok-clause-runs
returns-in_err-tell-in-Ok-clause-runs g c =
    let p = err_from_is_err_and c.from_residual.result c.from_residual.ensures.1 in
    rw p.1 (inl record {
      report = c.in-Ok.report;
      ran = c.in-Ok.ensures.rounds;
      told = same_broken _ _ c.args.teller.now.brief _ _ _ _ _ _ _ c.in_err-tell-in-Ok.ensures.tells;
      end_is = tt;
    })

pub returns-in_ok-tell-in-Ok-clause-runs : goal.returns-in_ok-tell-in-Ok-clause-runs
returns-in_ok-tell-in-Ok-clause-runs g c = inl record {
  report = c.in-Ok.report;
  ran = c.in-Ok.ensures.rounds;
  told = same_told c.args.teller.now.brief _ _ _ _ _ _ _ c.in_ok-tell-in-Ok.ensures.tells;
  end_is = refl;
}
