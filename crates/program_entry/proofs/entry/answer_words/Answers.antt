-- What came of the texts came of the words.
use Rattle.std.proofs.Common.{◌∙◌, ap, map, refl}
use Rattle.database_files.specs.declared.not_opened.NotOpened.TheVariants.{NoMemory as Unopened}
use Rattle.program_calls.specs.declared.ending.Ending.TheVariants.{NoMemory}
use Rattle.program_entry.proofs.Handed.{of_words, told_early}
use Rattle.program_entry.proofs.entry.answer_words.Goals as goal

pub returns-in_default-clause-answered : goal.returns-in_default-clause-answered
returns-in_default-clause-answered g c = told_early Unopened NoMemory refl c.tell.ensures

pub returns-clause-answered : goal.returns-clause-answered
returns-clause-answered g c =
    of_words (ap (map (λ text. text.now)) c.deref.ensures.value ∙ c.in-Ok.ensures) c.answer_texts.ensures.answered
