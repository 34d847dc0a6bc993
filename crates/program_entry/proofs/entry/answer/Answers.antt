-- The words were answered, or their ending was told.
use Rattle.std.proofs.Common.{ap, map}
use Rattle.std.specs.String.{string_bytes}
use Rattle.program_entry.proofs.Handed.{of_words}
use Rattle.program_entry.proofs.entry.answer.Goals as goal

pub returns-in-Ok-clause-answered : goal.returns-in-Ok-clause-answered
returns-in-Ok-clause-answered g c =
    rw c.in-Ok.is (of_words (ap (map string_bytes) c.deref.ensures.value) c.answer_words.ensures.answered)

pub returns-in-Ok-clause-told : goal.returns-in-Ok-clause-told
returns-in-Ok-clause-told g c = rw c.in-Ok.is tt

pub returns-in-Err-clause-answered : goal.returns-in-Err-clause-answered
returns-in-Err-clause-answered g c = rw c.in-Err.is tt

pub returns-in-Err-clause-told : goal.returns-in-Err-clause-told
returns-in-Err-clause-told g c = rw c.in-Err.is c.answer_none.ensures
