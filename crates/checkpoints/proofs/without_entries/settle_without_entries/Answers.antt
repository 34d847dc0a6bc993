-- What the call leaves, settles and answers is handed on.
use Rattle.checkpoints.proofs.without_entries.settle_without_entries.Goals as goal

pub returns-in-Err-clause-leaves : goal.returns-in-Err-clause-leaves
returns-in-Err-clause-leaves g c = c.in-Err.ensures.leaves

pub returns-in-Err-clause-settles : goal.returns-in-Err-clause-settles
returns-in-Err-clause-settles g c = tt

pub returns-in-Err-clause-within : goal.returns-in-Err-clause-within
returns-in-Err-clause-within g c some = tt

pub returns-in-Err-clause-answers : goal.returns-in-Err-clause-answers
returns-in-Err-clause-answers g c = c.in-Err.ensures.answers

pub returns-clause-leaves : goal.returns-clause-leaves
returns-clause-leaves g c = c.in-Ok.ensures.leaves

pub returns-clause-settles : goal.returns-clause-settles
returns-clause-settles g c = c.in-Ok.ensures.settles

pub returns-clause-within : goal.returns-clause-within
returns-clause-within g c some = c.in-Ok.ensures.within some

pub returns-clause-answers : goal.returns-clause-answers
returns-clause-answers g c = c.in-Ok.ensures.answers
