-- The run's text, and then the last line.
use Rattle.std.proofs.Common.{◌∙◌}
use Rattle.std.proofs.lemmas.Result.{err_from_is_err_and}
use Rattle.program_calls.proofs.Answering.{answers_broken, answers_finished}
use Rattle.program_calls.proofs.Statuses.{words_finished}
use Rattle.program_calls.proofs.Told.{same_printed}
use Rattle.program_calls.proofs.program.call.Goals as goal

pub returns-in_err-ending-clause-answers : goal.returns-in_err-ending-clause-answers
returns-in_err-ending-clause-answers g c =
    let p = err_from_is_err_and c.from_residual.result c.from_residual.ensures.1 in
    rw p.1 (answers_broken _ _ _ _ _ _ _ c.requires.empty c.in_err-ending.ensures.answers)

pub returns-clause-answers : goal.returns-clause-answers
returns-clause-answers g c = answers_finished _ _ _ _ _ _ _ _ c.requires.empty c.finish.ensures.prints
    c.finish.ensures.empty c.finish.ensures.same c.in_ok-ending.ensures.answers

pub returns-clause-asked : goal.returns-clause-asked
returns-clause-asked g c = words_finished _ _ _ c.finish.ensures.same c.in_ok-ending.ensures.asked

pub returns-clause-same : goal.returns-clause-same
returns-clause-same g c = same_printed _ _ _ _ c.finish.ensures.prints ∙ c.in_ok-ending.ensures.same
